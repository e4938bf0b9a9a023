use Rattle.std.proofs.Common.{◌≡◌, Bool, true, false, bytes_eq, codes, sym, ◌∙◌}
use Rattle.check_pkg.proofs.import_refusals.is_declared.Goals as goal

apart : (b : Bool) → b ≡ true → b ≡ false → ⊥
apart b p q = cc

pub returns-then-is_init : goal.returns-then-is_init
returns-then-is_init c = (
  λ h. absurd cc,
  λ (n, has, named, plain). absurd (apart (bytes_eq c.args.name.now (codes "init")) (sym c.is_init.ensures ∙ c.if-is_init.true) plain),
)

pub returns : goal.returns
returns c = (
  λ h. let found = c.has_name.ensures.0 h in (found.0, found.1, found.2, sym c.is_init.ensures ∙ c.if-is_init.false),
  λ (n, has, named, plain). c.has_name.ensures.1 (n, has, named),
)
