use Rattle.std.proofs.Common.{◌++◌, [], ℕ, List, Option, ap, ◌∙◌, arith}
use Rattle.std.specs.List.{cons_option}
use Rattle.std.proofs.lemmas.List.{take_all}
use Rattle.package_objects.specs.Declares.{items}
use Rattle.unit_rows.proofs.ListLemmas.{take_on}
use Rattle.unit_rows.proofs.members.add_names.Goals as goal

pub loop-i-preserved : goal.loop-i-preserved
loop-i-preserved c =
    take_on (items c.args.nodes.now c.args.names) c.loop-i.i c.args.out.now.items c.loop-i.out.items _ (omega (arith, c.loop-i-test.true, c.count-i-end.ensures)) c.loop-i.invariant
    (c.in_ok-add_item.ensures ∙ ap (λ (o : Option ℕ). c.loop-i.out.items ++ cons_option o []) c.item.ensures)

pub returns : goal.returns
returns c =
    c.loop-i.invariant
    ∙ ap (λ (xs : List ℕ). c.args.out.now.items ++ xs) (take_all c.loop-i.i (items c.args.nodes.now c.args.names) (omega (arith, c.loop-i-test.false, c.count-i-end.ensures)))
