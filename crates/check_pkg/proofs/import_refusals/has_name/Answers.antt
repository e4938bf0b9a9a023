use Rattle.std.proofs.Common.{refl, sym, ◌∙◌}
use Rattle.unit_read.specs.Subjects.{unit_of}
use Rattle.check_pkg.proofs.ImportLemmas.{name_some, name_none}
use Rattle.check_pkg.proofs.import_refusals.has_name.Goals as goal

pub returns-in-Some : goal.returns-in-Some
returns-in-Some c = (
  λ h. name_some (unit_of c.args.u.now) c.args.name.now c.in-Some.field-0 (sym (c.requires.firsts c.args.name.now) ∙ (sym c.find.ensures ∙ c.in-Some.is)),
  λ h. refl,
)

pub returns-in-None : goal.returns-in-None
returns-in-None c = (
  λ h. absurd cc,
  λ h. absurd (name_none (unit_of c.args.u.now) c.args.name.now (sym (c.requires.firsts c.args.name.now) ∙ (sym c.find.ensures ∙ c.in-None.is)) h),
)
