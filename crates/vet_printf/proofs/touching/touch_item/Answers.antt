use Rattle.std.proofs.Common.{Option, ℕ, List, false, slice_get, sym, ap, ◌∙◌}
use Rattle.std.specs.Option.{option_map_or}
use Rattle.go_tree.specs.declared.tree.Node.{Node}
use Rattle.package_objects.specs.Declares.{part, items}
use Rattle.unit_read.specs.Units.{nodes_at}
use Rattle.findings.specs.Passes.{unit_in}
use Rattle.vet_printf.specs.Forwards.{denotes}
use Rattle.vet_printf.proofs.TouchLemmas.{more_none, more_as}
use Rattle.vet_printf.proofs.touching.touch_item.Goals as goal

-- the equation is of the form: slice_get (items (nodes_at u file) (part node 0)) i ≡ Some n, by c.item.ensures (over c.nodes_at.result and c.part_of.result)
pub returns-in-Some : goal.returns-in-Some
returns-in-Some c =
    let u = unit_in c.args.p.now in
    more_as (λ (m : ℕ). denotes u c.args.file m c.in-Some.n) (λ (m : ℕ). option_map_or (denotes u c.args.file m) (slice_get (items (nodes_at u c.args.file) (part c.args.node.now 0)) c.args.i) false) c.args.row.now.items
    c.touch_denoted.new.row.items c.touch_denoted.ensures
    (λ m. sym (ap (λ (o : Option ℕ). option_map_or (denotes u c.args.file m) o false)
    (ap (λ (l : List Node). slice_get (items l (part c.args.node.now 0)) c.args.i) (sym c.nodes_at.ensures) ∙ (ap (λ (o : Option ℕ). slice_get (items c.nodes_at.result.now o) c.args.i) (sym c.part_of.ensures) ∙ (sym c.item.ensures ∙ c.in-Some.is)))))

pub returns-in-None : goal.returns-in-None
returns-in-None c =
    let u = unit_in c.args.p.now in
    more_none (λ (m : ℕ). option_map_or (denotes u c.args.file m) (slice_get (items (nodes_at u c.args.file) (part c.args.node.now 0)) c.args.i) false) c.args.row.now.items
    (λ m low. ap (λ (o : Option ℕ). option_map_or (denotes u c.args.file m) o false)
    (ap (λ (l : List Node). slice_get (items l (part c.args.node.now 0)) c.args.i) (sym c.nodes_at.ensures) ∙ (ap (λ (o : Option ℕ). slice_get (items c.nodes_at.result.now o) c.args.i) (sym c.part_of.ensures) ∙ (sym c.item.ensures ∙ c.in-None.is))))
