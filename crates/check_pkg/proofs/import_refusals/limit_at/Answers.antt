use Rattle.std.proofs.Common.{sym, ap, ◌∙◌}
use Rattle.std.specs.Prelude.{option_and_then}
use Rattle.unit_read.specs.declared.lead.Lead.{Lead}
use Rattle.unit_read.specs.Subjects.{full_of}
use Rattle.unit_read.proofs.BareLemmas.{bare_limit}
use Rattle.check_pkg.proofs.import_refusals.limit_at.Goals as goal

pub returns-in-Some : goal.returns-in-Some
returns-in-Some c = ap (option_and_then (λ (l : Lead). l.limit)) (sym c.in-Some.is ∙ c.lead_at.ensures) ∙ sym (bare_limit (full_of c.args.u.now) c.args.at)

pub returns-in-None : goal.returns-in-None
returns-in-None c = ap (option_and_then (λ (l : Lead). l.limit)) (sym c.in-None.is ∙ c.lead_at.ensures) ∙ sym (bare_limit (full_of c.args.u.now) c.args.at)
