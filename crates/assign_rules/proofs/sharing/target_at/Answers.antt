use Rattle.std.proofs.Common.{◌≤◌, length, sym, ◌∙◌, arith}
use Rattle.package_objects.specs.Declares.{items}
use Rattle.assign_rules.proofs.RestLemmas.{none_past}
use Rattle.assign_rules.proofs.sharing.target_at.Goals as goal

pub unreachable-requires : goal.unreachable-requires
unreachable-requires c =
    let past : length (items c.args.nodes.now c.args.targets) ≤ c.args.i = none_past (items c.args.nodes.now c.args.targets) c.args.i (sym c.item.ensures ∙ c.in-None.is) in
    let low = c.requires in
    absurd (omega (arith, past, low))
