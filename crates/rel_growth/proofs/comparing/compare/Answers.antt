use Rattle.std.proofs.Common.{refl}
use Rattle.type_model.specs.GoTypes.{type_at}
use Rattle.type_model.specs.Tables.{types_in, declarations_in}
use Rattle.rel_growth.proofs.HeldLemmas.{comparable_enough}
use Rattle.rel_growth.proofs.comparing.compare.Goals as goal

pub returns-then-comparable : goal.returns-then-comparable
returns-then-comparable c =
    let is = c.comparable.ensures.0 c.if-comparable.true in
    (comparable_enough (declarations_in c.args.t.now) (type_at (types_in c.args.t.now) c.args.a) is, (λ yes_it. is, λ has. refl))
