use Rattle.std.proofs.Common.{◌∙◌, Option, ℕ, length, set, false, ap}
use Rattle.std.specs.Option.{option_map_or}
use Rattle.go_tree.specs.declared.tree.Node.{Node}
use Rattle.go_rules.specs.Unnamed.{type_named}
use Rattle.go_rules.proofs.UnnamedLemmas.{none_named, named_more, named_all}
use Rattle.go_rules.proofs.unnamed.unnamed.Goals as goal

pub loop-n-init : goal.loop-n-init
loop-n-init c = c.in_ok-flags.ensures ∙ none_named (length c.args.nodes.now)

pub loop-n-preserved : goal.loop-n-preserved
loop-n-preserved c =
    let nodes = c.args.nodes.now in
    let node = c.index-nodes-n.result in
    let flags = c.loop-n.flags.items in
    named_more nodes c.loop-n.n (length nodes) node flags c.clear_if.new.flags.items c.loop-n-test.true c.loop-n.invariant
    (c.clear_if.ensures ∙ ap (λ (o : Option ℕ). option_map_or (λ (m : ℕ). set flags m false) o flags) (c.type_named.ensures ∙ ap (λ (x : Node). type_named x) c.index-nodes-n.is))

pub returns : goal.returns
returns c = named_all c.args.nodes.now c.loop-n.n c.loop-n.flags.items c.loop-n-test.false c.loop-n.invariant
