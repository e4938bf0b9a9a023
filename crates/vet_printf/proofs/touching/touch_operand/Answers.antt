use Rattle.std.proofs.Common.{Option, ℕ, false, sym, ap, ◌∙◌}
use Rattle.std.specs.Option.{option_map_or}
use Rattle.package_objects.specs.Declares.{part}
use Rattle.findings.specs.Passes.{unit_in}
use Rattle.vet_printf.specs.Forwards.{denotes}
use Rattle.vet_printf.proofs.TouchLemmas.{more_none, more_as}
use Rattle.vet_printf.proofs.touching.touch_operand.Goals as goal

pub returns-in-Some : goal.returns-in-Some
returns-in-Some c =
    let u = unit_in c.args.p.now in
    more_as (λ (m : ℕ). denotes u c.args.file m c.in-Some.n) (λ (m : ℕ). option_map_or (denotes u c.args.file m) (part c.args.node.now 0) false) c.args.row.now.items c.touch_denoted.new.row.items c.touch_denoted.ensures
    (λ m. sym (ap (λ (o : Option ℕ). option_map_or (denotes u c.args.file m) o false) (sym c.part_of.ensures ∙ c.in-Some.is)))

pub returns-in-None : goal.returns-in-None
returns-in-None c =
    let u = unit_in c.args.p.now in
    more_none (λ (m : ℕ). option_map_or (denotes u c.args.file m) (part c.args.node.now 0) false) c.args.row.now.items
    (λ m low. ap (λ (o : Option ℕ). option_map_or (denotes u c.args.file m) o false) (sym c.part_of.ensures ∙ c.in-None.is))
