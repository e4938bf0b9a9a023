use Rattle.type_model.specs.GoTypes.{type_at}
use Rattle.type_model.specs.Tables.{types_in}
use Rattle.method_sets.specs.Members.{selector}
use Rattle.method_sets.specs.Held.{part_shown}
use Rattle.method_sets.proofs.HereLaws.{enough_here}
use Rattle.method_sets.proofs.choosing.choose_from.Goals as goal

pub returns-in_ok-here-in-Some : goal.returns-in_ok-here-in-Some
returns-in_ok-here-in-Some c =
    let t = c.args.t.now in (
      enough_here t (type_at (types_in t) c.args.at) (selector c.args.name.now c.args.from.now) (part_shown (types_in t) c.in-Some.held) c.in-Some.ensures.is (c.is_missing-missing.ensures.known c.if-missing.false),
      c.in_ok-here-in-Some.ensures,
    )
