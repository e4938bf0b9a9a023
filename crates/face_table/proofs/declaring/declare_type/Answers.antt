use Rattle.std.proofs.Common.{◌≡◌, ◌∙◌, List, inl, inr, sym, ap, subst}
use Rattle.package_faces.specs.Reaching.{own_name}
use Rattle.package_faces.proofs.FaceLaws.{methods_grow}
use Rattle.type_model.specs.declared.term.Method.{Method}
use Rattle.type_model.specs.GoTypes.{GoType, DefinedType, MethodsBelow, type_at}
use Rattle.type_model.specs.Tables.{count, terms_in, types_in, declarations_in}
use Rattle.face_table.proofs.DeclareLemmas.{unfit_for, fresh, plain, apart, declared_one}
use Rattle.face_table.proofs.declaring.declare_type.Goals as goal

pub is_unfit-requires-clause-table : goal.is_unfit-requires-clause-table
is_unfit-requires-clause-table c = c.number_of.ensures.grown.table

pub is_unfit-requires-clause-within : goal.is_unfit-requires-clause-within
is_unfit-requires-clause-within c = (c.number_of.ensures.grown.extends c.args.d.now.under.0 c.requires.within.0).0

pub returns-then-unfit : goal.returns-then-unfit
returns-then-unfit c =
    let t0 = c.args.t.now in
    let t1 = c.number_of.new.t in
    let d = c.args.d.now in
    let grown = c.number_of.ensures.grown in
    let name = own_name c.args.path.now d.name in
    unfit_for (declarations_in t1) (declarations_in t0) name (type_at (types_in t1) d.under) (type_at (types_in t0) d.under) grown.declarations (grown.extends d.under.0 c.requires.within.0).1
    (c.in_ok-unfit.ensures.unfit c.if-unfit.true name (c.in_ok-id.ensures.is ∙ ap DefinedType (c.in_ok-copy.ensures ∙ c.in_ok-name.ensures)))

pub declare-requires-clause-table : goal.declare-requires-clause-table
declare-requires-clause-table c = c.number_of.ensures.grown.table

pub declare-requires-clause-under : goal.declare-requires-clause-under
declare-requires-clause-under c = (c.number_of.ensures.grown.extends c.args.d.now.under.0 c.requires.within.0).0

pub declare-requires-clause-methods : goal.declare-requires-clause-methods
declare-requires-clause-methods c =
    subst (λ (methods : List Method). MethodsBelow (count c.number_of.new.t) methods) (sym (c.in_ok-methods.ensures ∙ c.as_slice.ensures))
    (methods_grow (terms_in c.args.t.now) (terms_in c.number_of.new.t) c.number_of.ensures.grown.extends c.args.d.now.methods c.requires.within.1)

pub declare-requires-clause-fresh : goal.declare-requires-clause-fresh
declare-requires-clause-fresh c =
    let t = c.number_of.new.t in
    fresh (declarations_in t) c.in_ok-name.name (type_at (types_in t) c.args.d.now.under)
    (c.in_ok-unfit.ensures.fit c.if-unfit.false c.in_ok-name.name (c.in_ok-id.ensures.is ∙ ap DefinedType c.in_ok-copy.ensures))

pub declare-requires-clause-plain : goal.declare-requires-clause-plain
declare-requires-clause-plain c =
    let t = c.number_of.new.t in
    plain (declarations_in t) c.in_ok-name.name (type_at (types_in t) c.args.d.now.under)
    (c.in_ok-unfit.ensures.fit c.if-unfit.false c.in_ok-name.name (c.in_ok-id.ensures.is ∙ ap DefinedType c.in_ok-copy.ensures))

pub declare-requires-clause-apart : goal.declare-requires-clause-apart
declare-requires-clause-apart c =
    let t = c.number_of.new.t in
    apart (declarations_in t) c.in_ok-name.name (type_at (types_in t) c.args.d.now.under)
    (c.in_ok-unfit.ensures.fit c.if-unfit.false c.in_ok-name.name (c.in_ok-id.ensures.is ∙ ap DefinedType c.in_ok-copy.ensures))

pub returns : goal.returns
returns c =
    let t1 = c.number_of.new.t in
    let d = c.args.d.now in
    let name = own_name c.args.path.now d.name in
    declared_one c.args.t.now t1 c.declare.new.self c.in_ok-name.name c.args.path.now d c.in_ok-methods.methods.items c.number_of.ensures.grown c.requires.within
    c.in_ok-name.ensures (c.in_ok-methods.ensures ∙ c.as_slice.ensures)
    (fresh (declarations_in t1) name (type_at (types_in t1) d.under) (c.in_ok-unfit.ensures.fit c.if-unfit.false name (c.in_ok-id.ensures.is ∙ ap DefinedType (c.in_ok-copy.ensures ∙ c.in_ok-name.ensures))))
    c.in_ok-declare.ensures.declared
