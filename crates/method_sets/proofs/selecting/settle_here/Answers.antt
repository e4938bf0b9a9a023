use Rattle.std.proofs.Common.{◌∙◌}
use Rattle.type_model.specs.GoTypes.{type_at}
use Rattle.type_model.specs.Tables.{types_in}
use Rattle.method_sets.specs.Members.{selector}
use Rattle.method_sets.specs.Held.{part_shown}
use Rattle.method_sets.proofs.HereLaws.{settled_here}
use Rattle.method_sets.proofs.selecting.settle_here.Goals as goal

pub returns : goal.returns
returns c =
    settled_here c.args.t.now (type_at (types_in c.args.t.now) c.args.at) (selector c.args.name.now c.args.from.now) (part_shown (types_in c.args.t.now) c.args.held) c.new-path.result c.in_ok-kind.kind
    c.requires.has (c.new-path.ensures ∙ c.new-fields.ensures.items) c.in_ok-kind.ensures
