use Rattle.std.proofs.Common.{None, if◌then◌else◌, sym, ap, ◌∙◌}
use Rattle.findings.specs.Passes.{unit_in}
use Rattle.own_functions.specs.Functions.{first_of}
use Rattle.vet_printf.proofs.known.own_place.Goals as goal

pub returns-then-is_own : goal.returns-then-is_own
returns-then-is_own c =
    let name = c.args.x.now.name in
    c.find.ensures ∙ (c.requires.numbers c.as_bytes.result.now ∙ (ap (first_of (unit_in c.args.p.now)) (c.as_bytes.ensures.value ∙ c.as_str.ensures) ∙ sym (ap (λ b. if b then first_of (unit_in c.args.p.now) name else None) (sym c.is_own.ensures ∙ c.if-is_own.true))))

pub returns-else-is_own : goal.returns-else-is_own
returns-else-is_own c = sym (ap (λ b. if b then first_of (unit_in c.args.p.now) c.args.x.now.name else None) (sym c.is_own.ensures ∙ c.if-is_own.false))
