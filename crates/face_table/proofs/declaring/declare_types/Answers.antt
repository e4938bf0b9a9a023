use Rattle.std.proofs.Common.{◌≡◌, Some, sym, ap, ◌∙◌, subst, arith, slice_get}
use Rattle.std.proofs.lemmas.Option.{slice_get-get_or}
use Rattle.package_faces.specs.Interfaces.{defined_in}
use Rattle.type_model.specs.Tables.{types_in}
use Rattle.face_table.specs.Fitting.{DeclaresType}
use Rattle.face_table.proofs.TypesLemmas.{none_first, its_now, first_more, first_stuck, all_first}
use Rattle.face_table.proofs.declaring.declare_types.Goals as goal

pub loop-i-init : goal.loop-i-init
loop-i-init c = none_first c.args.t.now c.args.path.now c.args.types.now c.requires.table

pub declare_type-requires-clause-table : goal.declare_type-requires-clause-table
declare_type-requires-clause-table c = c.loop-i.invariant.declares.table

pub declare_type-requires-clause-within : goal.declare_type-requires-clause-within
declare_type-requires-clause-within c =
    its_now c.args.t.now c.loop-i.t c.args.path.now c.args.types.now c.loop-i.i c.index-types-i.result c.requires.within
    (slice_get-get_or c.args.types.now c.loop-i.i c.index-types-i.result c.loop-i-test.true ∙ ap Some (sym c.index-types-i.is)) c.loop-i.invariant

pub returns-then-not-fit : goal.returns-then-not-fit
returns-then-not-fit c =
    first_stuck c.args.t.now c.loop-i.t c.args.path.now c.args.types.now c.loop-i.i c.index-types-i.result c.requires.within
    (slice_get-get_or c.args.types.now c.loop-i.i c.index-types-i.result c.loop-i-test.true ∙ ap Some (sym c.index-types-i.is)) c.loop-i.invariant c.declare_type.new.t
    (subst (DeclaresType c.loop-i.t c.declare_type.new.t c.args.path.now (defined_in (types_in c.loop-i.t) c.index-types-i.result)) c.if-not-fit.true c.in_ok-fit.ensures)

pub loop-i-preserved : goal.loop-i-preserved
loop-i-preserved c =
    first_more c.args.t.now c.loop-i.t c.args.path.now c.args.types.now c.loop-i.i c.index-types-i.result c.requires.within
    (slice_get-get_or c.args.types.now c.loop-i.i c.index-types-i.result c.loop-i-test.true ∙ ap Some (sym c.index-types-i.is)) c.loop-i.invariant c.declare_type.new.t
    (subst (DeclaresType c.loop-i.t c.declare_type.new.t c.args.path.now (defined_in (types_in c.loop-i.t) c.index-types-i.result)) c.if-not-fit.false c.in_ok-fit.ensures)

pub returns : goal.returns
returns c = all_first c.args.t.now c.loop-i.t c.args.path.now c.args.types.now c.loop-i.i (omega (arith, c.loop-i-test.false)) c.loop-i.invariant
