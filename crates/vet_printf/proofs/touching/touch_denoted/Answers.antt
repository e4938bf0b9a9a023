use Rattle.std.proofs.Common.{Option, ℕ, false, refl, sym, ap, ◌∙◌, ◌==◌}
use Rattle.std.specs.Option.{option_map_or}
use Rattle.findings.specs.Passes.{unit_in}
use Rattle.vet_printf.specs.Forwards.{is_number, denoted, denotes}
use Rattle.vet_printf.proofs.TouchLemmas.{more_none, more_as}
use Rattle.vet_printf.proofs.touching.touch_denoted.Goals as goal

pub returns-in-Some : goal.returns-in-Some
returns-in-Some c =
    more_as (λ (m : ℕ). c.in-Some.q == m) (λ (m : ℕ). denotes (unit_in c.args.p.now) c.args.file m c.args.n) c.args.row.now.items c.touch_one.new.row.items c.touch_one.ensures
    (λ m. sym (ap (λ (o : Option ℕ). option_map_or (is_number m) o false) (sym c.denoted.ensures ∙ c.in-Some.is)))

pub returns-in-None : goal.returns-in-None
returns-in-None c =
    more_none (λ (m : ℕ). denotes (unit_in c.args.p.now) c.args.file m c.args.n) c.args.row.now.items (λ m low. ap (λ (o : Option ℕ). option_map_or (is_number m) o false) (sym c.denoted.ensures ∙ c.in-None.is))
