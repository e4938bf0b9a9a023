use Rattle.std.proofs.Common.{ℕ, sym, ap, ◌∙◌}
use Rattle.findings.specs.Passes.{unit_in}
use Rattle.vet_printf.specs.Forwards.{left_touches, address_touches, touches_as, touches}
use Rattle.vet_printf.proofs.TouchLemmas.{more_none, more_as}
use Rattle.vet_printf.proofs.touching.touch_node.Goals as goal

pub returns-in-Left : goal.returns-in-Left
returns-in-Left c =
    let u = unit_in c.args.p.now in
    more_as (λ (m : ℕ). left_touches u c.args.file m c.args.node.now) (λ (m : ℕ). touches u c.args.file m c.args.node.now) c.args.row.now.items c.touch_left.new.row.items c.touch_left.ensures
    (λ m. sym (ap (touches_as u c.args.file m c.args.node.now) (sym c.touch_of.ensures ∙ c.in-Left.is)))

pub returns-in-Address : goal.returns-in-Address
returns-in-Address c =
    let u = unit_in c.args.p.now in
    more_as (λ (m : ℕ). address_touches u c.args.file m c.args.node.now) (λ (m : ℕ). touches u c.args.file m c.args.node.now) c.args.row.now.items c.touch_address.new.row.items c.touch_address.ensures
    (λ m. sym (ap (touches_as u c.args.file m c.args.node.now) (sym c.touch_of.ensures ∙ c.in-Address.is)))

pub returns-in-Never : goal.returns-in-Never
returns-in-Never c =
    let u = unit_in c.args.p.now in
    more_none (λ (m : ℕ). touches u c.args.file m c.args.node.now) c.args.row.now.items (λ m low. ap (touches_as u c.args.file m c.args.node.now) (sym c.touch_of.ensures ∙ c.in-Never.is))
