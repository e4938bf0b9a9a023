use Rattle.std.proofs.Common.{List, Option, IfSome, length, sym, ap, ◌∙◌, subst}
use Rattle.std.specs.Global.{Vec}
use Rattle.go_tree.specs.declared.tree.NodeRef.{NodeRef}
use Rattle.name_circles.specs.Values.{AreValueCircles}
use Rattle.object_order.specs.Spots.{place}
use Rattle.object_order.specs.Views.{node_in, meant_in, entry_in, kin_in}
use Rattle.unit_read.specs.Rows.{AreRows}
use Rattle.unit_read.specs.Subjects.{unit_of}
use Rattle.unit_rows.specs.Circular.{named_at}
use Rattle.unit_rows.specs.Tables.{is_listed}
use Rattle.unit_rows.proofs.CircularLemmas.{world_with, circular_found}
use Rattle.unit_rows.proofs.circular.circular_rows.Goals as goal

pub all_rows-requires-clause-rows : goal.all_rows-requires-clause-rows
all_rows-requires-clause-rows c =
    let u = unit_of c.args.s.now in
    subst (λ (rows : List (Vec (Option NodeRef))). AreRows (λ f tree n. named_at u (place f n)) u.trees rows (length u.trees)) (sym c.deref.ensures.value) c.in_ok-meant.ensures

pub returns-in-Some : goal.returns-in-Some
returns-in-Some c =
    let u = unit_of c.args.s.now in
    circular_found u c.args.entries.items c.in_ok-numbers.numbers c.in_ok-groups.groups.items c.deref.result.now c.in-Some.list.items c.in_ok-flags-in-Some.flags.items c.in_ok-numbers.ensures c.in_ok-groups.ensures
    (subst (λ (rows : List (Vec (Option NodeRef))). AreRows (λ f tree n. named_at u (place f n)) u.trees rows (length u.trees)) (sym c.deref.ensures.value) c.in_ok-meant.ensures)
    (subst (λ (o : Option (Vec NodeRef)). IfSome o (λ list. AreValueCircles (world_with (node_in u.trees) (meant_in c.deref.result.now) (entry_in c.args.entries.items c.in_ok-numbers.numbers) (kin_in c.in_ok-groups.groups.items c.in_ok-numbers.numbers)) list.items))
    c.in-Some.is c.in_ok-circles.ensures)
    (λ at. c.in_ok-flags-in-Some.ensures at ∙ ap (λ (list : List NodeRef). is_listed u.trees list at) c.deref-in-Some.ensures.value) c.requires.entries
