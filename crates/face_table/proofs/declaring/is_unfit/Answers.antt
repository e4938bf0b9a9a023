use Rattle.std.proofs.Common.{inl, inr}
use Rattle.type_model.specs.GoTypes.{type_at}
use Rattle.type_model.specs.Tables.{types_in, declarations_in}
use Rattle.face_table.proofs.DeclareLemmas.{is_declared, not_declared}
use Rattle.face_table.proofs.declaring.is_unfit.Goals as goal

pub returns-in-Some-clause-unfit : goal.returns-in-Some-clause-unfit
returns-in-Some-clause-unfit c told name named =
    let t = c.args.t.now in
    inl (is_declared (types_in t) (declarations_in t) name (type_at (types_in t) c.args.id) c.underlying.result _ named c.underlying.ensures.is c.in-Some.is)

pub returns-in_ok-bad-in-None-clause-unfit : goal.returns-in_ok-bad-in-None-clause-unfit
returns-in_ok-bad-in-None-clause-unfit c told name named = inr (c.in_ok-bad-in-None.ensures.bad told name named)

pub returns-in_ok-bad-in-None-clause-fit : goal.returns-in_ok-bad-in-None-clause-fit
returns-in_ok-bad-in-None-clause-fit c told name named unfit =
    let t = c.args.t.now in
    elim unfit [
      | inl (it, e) ↦ not_declared (types_in t) (declarations_in t) name (type_at (types_in t) c.args.id) c.underlying.result named c.underlying.ensures.is c.in-None.is it e
      | inr bad ↦ c.in_ok-bad-in-None.ensures.fine told name named bad
    ]
