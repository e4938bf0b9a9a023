use Rattle.std.proofs.Common.{ℕ, ◌&&◌, false, sym, ap, ◌∙◌}
use Rattle.std.specs.Option.{option_map_or}
use Rattle.package_objects.specs.Declares.{part}
use Rattle.findings.specs.Passes.{unit_in}
use Rattle.vet_printf.specs.Forwards.{denotes, address_touches}
use Rattle.vet_printf.proofs.TouchLemmas.{more_none, more_as}
use Rattle.vet_printf.proofs.touching.touch_address.Goals as goal

pub returns-then-is_address : goal.returns-then-is_address
returns-then-is_address c =
    let u = unit_in c.args.p.now in
    more_as (λ (m : ℕ). option_map_or (denotes u c.args.file m) (part c.args.node.now 0) false) (λ (m : ℕ). address_touches u c.args.file m c.args.node.now) c.args.row.now.items c.touch_operand.new.row.items c.touch_operand.ensures
    (λ m. sym (ap (λ b. b && option_map_or (denotes u c.args.file m) (part c.args.node.now 0) false) (sym c.is_address.ensures ∙ c.if-is_address.true)))

pub returns : goal.returns
returns c =
    let u = unit_in c.args.p.now in
    more_none (λ (m : ℕ). address_touches u c.args.file m c.args.node.now) c.args.row.now.items
    (λ m low. ap (λ b. b && option_map_or (denotes u c.args.file m) (part c.args.node.now 0) false) (sym c.is_address.ensures ∙ c.if-is_address.false))
