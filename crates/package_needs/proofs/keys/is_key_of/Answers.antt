use Rattle.std.proofs.Common.{sym, ◌∙◌, arith}
use Rattle.object_order.specs.Views.{world_of}
use Rattle.package_needs.specs.Keys.{up, flagged}
use Rattle.package_needs.proofs.LiteralLemmas.{key_some, key_unknown, held_known}
use Rattle.package_needs.proofs.keys.is_key_of.Goals as goal

pub returns-in-Some : goal.returns-in-Some
returns-in-Some c = key_some (world_of c.args.view.now) (flagged c.args.elsewhere.now.items) (up c.args.view.now.trees.now) c.args.at c.in-Some.of c.args.inside _ c.end_of.result c.is_struct_end.result c.requires.holds c.requires.key
    (held_known (world_of c.args.view.now) c.args.view.now.trees.now c.args.at c.args.inside c.args.types.now.items c.requires.holds (λ n high. c.requires.known n (omega arith))) (sym c.cell_at.ensures ∙ c.in-Some.is)
    c.end_of.ensures c.is_struct_end.ensures

pub returns-in-None : goal.returns-in-None
returns-in-None c = key_unknown (world_of c.args.view.now) (flagged c.args.elsewhere.now.items) (up c.args.view.now.trees.now) c.args.at c.args.inside _ c.requires.holds
    (held_known (world_of c.args.view.now) c.args.view.now.trees.now c.args.at c.args.inside c.args.types.now.items c.requires.holds (λ n high. c.requires.known n (omega arith))) (sym c.cell_at.ensures ∙ c.in-None.is)
