use Rattle.std.proofs.Common.{Some, None, if◌then◌else◌, sym, ap, ◌∙◌}
use Rattle.findings.specs.Passes.{unit_in}
use Rattle.vet_printf.proofs.KnownLemmas.{number_told}
use Rattle.vet_printf.proofs.owners.number_if.Goals as goal

pub returns-then-nth_stands : goal.returns-then-nth_stands
returns-then-nth_stands c =
    sym (ap (λ b. if b then Some c.args.i else None) c.if-nth_stands.true) ∙ number_told (unit_in c.args.p.now) c.args.file c.args.d c.args.i c.args.known.now.list.now c.nth_stands.result c.requires.list c.nth_stands.ensures

pub returns-else-nth_stands : goal.returns-else-nth_stands
returns-else-nth_stands c =
    sym (ap (λ b. if b then Some c.args.i else None) c.if-nth_stands.false) ∙ number_told (unit_in c.args.p.now) c.args.file c.args.d c.args.i c.args.known.now.list.now c.nth_stands.result c.requires.list c.nth_stands.ensures
