use Rattle.std.proofs.Common.{ℕ, ◌+◌, ◌||◌, take, length, false, slice_get, refl, sym, arith}
use Rattle.std.specs.List.{list_any}
use Rattle.std.specs.Option.{option_map_or}
use Rattle.package_objects.specs.Declares.{part, items}
use Rattle.unit_read.specs.Units.{nodes_at}
use Rattle.findings.specs.Passes.{unit_in}
use Rattle.vet_printf.specs.Forwards.{denotes, left_touches}
use Rattle.vet_printf.proofs.TouchLemmas.{more_none, more_as, more_then, any_take, any_whole}
use Rattle.vet_printf.proofs.touching.touch_left.Goals as goal

pub loop-i-init : goal.loop-i-init
loop-i-init c = more_none (λ (m : ℕ). list_any (denotes (unit_in c.args.p.now) c.args.file m) (take 0 (items (nodes_at (unit_in c.args.p.now) c.args.file) (part c.args.node.now 0)))) c.args.row.now.items (λ m low. refl)

pub loop-i-preserved : goal.loop-i-preserved
loop-i-preserved c =
    let u = unit_in c.args.p.now in
    let xs = items (nodes_at u c.args.file) (part c.args.node.now 0) in
    more_as (λ (m : ℕ). list_any (denotes u c.args.file m) (take c.loop-i.i xs) || option_map_or (denotes u c.args.file m) (slice_get xs c.loop-i.i) false) (λ (m : ℕ). list_any (denotes u c.args.file m) (take (c.loop-i.i + 1) xs))
    c.args.row.now.items c.touch_item.new.row.items
    (more_then (λ (m : ℕ). list_any (denotes u c.args.file m) (take c.loop-i.i xs)) (λ (m : ℕ). option_map_or (denotes u c.args.file m) (slice_get xs c.loop-i.i) false) c.args.row.now.items c.loop-i.row.items c.touch_item.new.row.items
    c.loop-i.invariant c.touch_item.ensures)
    (λ m. sym (any_take (denotes u c.args.file m) xs c.loop-i.i))

pub returns : goal.returns
returns c =
    let u = unit_in c.args.p.now in
    let xs = items (nodes_at u c.args.file) (part c.args.node.now 0) in
    more_as (λ (m : ℕ). list_any (denotes u c.args.file m) (take c.loop-i.i xs)) (λ (m : ℕ). left_touches u c.args.file m c.args.node.now) c.args.row.now.items c.loop-i.row.items c.loop-i.invariant
    (λ m. any_whole (denotes u c.args.file m) xs c.loop-i.i (omega (arith, c.loop-i-test.false, c.loop-i.auto.i-end, c.left_count-i-end.ensures)))
