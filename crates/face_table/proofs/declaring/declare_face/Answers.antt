use Rattle.std.proofs.Common.{List, map, sym, ap, ◌∙◌, subst, refl}
use Rattle.package_faces.specs.declared.interface.ExportedType.{ExportedType}
use Rattle.package_faces.specs.Interfaces.{face_of, defined_in}
use Rattle.type_model.specs.Tables.{types_in}
use Rattle.face_table.specs.Fitting.{DeclaresTypes, counts_by}
use Rattle.face_table.proofs.StepLemmas.{face_apart, face_told}
use Rattle.face_table.proofs.declaring.declare_face.Goals as goal

pub returns-then-not-counts : goal.returns-then-not-counts
returns-then-not-counts c = λ faces firsts.
    let path = c.args.interface.now.path in
    face_apart c.args.t.now c.args.own.now faces c.args.k (face_of (types_in c.args.t.now) c.args.interface.now) c.requires.table
    (sym (c.counts.ensures ∙ ap (counts_by c.args.own.now path c.args.k) (firsts path)) ∙ c.if-not-counts.true)

pub returns : goal.returns
returns c = λ faces firsts.
    let path = c.args.interface.now.path in
    face_told c.args.t.now c.declare_types.new.t c.args.own.now faces c.args.k (face_of (types_in c.args.t.now) c.args.interface.now) c.in_ok-fit.fit
    (sym (c.counts.ensures ∙ ap (counts_by c.args.own.now path c.args.k) (firsts path)) ∙ c.if-not-counts.false)
    (subst (λ (types : List ExportedType). DeclaresTypes c.args.t.now c.declare_types.new.t path (map (λ d. defined_in (types_in c.args.t.now) d) types) c.in_ok-fit.fit) c.as_slice.ensures c.in_ok-fit.ensures)
