use Rattle.std.proofs.Common.{ℕ, Option, ap, ◌∙◌}
use Rattle.least.specs.Numbered.{is_marked}
use Rattle.least.specs.Work.{set_of}
use Rattle.vet_printf.proofs.printing.is_flagged.Goals as goal

pub returns : goal.returns
returns c = c.is_marked.ensures ∙ ap (λ (o : Option ℕ). is_marked (set_of c.args.flags.now) o) (c.find.ensures ∙ c.requires.numbers c.args.name.now)
