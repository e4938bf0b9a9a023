-- Each late rule stands in the list of all.
use Rattle.std.proofs.Common.{refl, arith}
use Rattle.std.specs.List.{Contains}
use Rattle.late_list.specs.declared.late.LateRule.{LateRule}
use Rattle.late_list.specs.declared.late.LateRule.TheVariants as r
use Rattle.late_list.specs.declared.late.TheConstants.{RULES}

pub every_rule : (rule : LateRule) → Contains RULES rule
every_rule r.RedeclaredLabel = (0, omega arith, refl)
every_rule r.UnusedVariable = (1, omega arith, refl)
every_rule r.ShadowedResult = (2, omega arith, refl)
every_rule r.MissingReturn = (3, omega arith, refl)
every_rule r.UndefinedLabel = (4, omega arith, refl)
every_rule r.UnusedLabel = (5, omega arith, refl)
every_rule r.OverVariable = (6, omega arith, refl)
every_rule r.IntoBlock = (7, omega arith, refl)
every_rule r.MisplacedBranch = (8, omega arith, refl)
every_rule r.MisplacedFallthrough = (9, omega arith, refl)
