use Rattle.std.proofs.Common.{◌+◌, ◌*◌}
use Rattle.rule_words.specs.Scenes.{sight}
use Rattle.unit_read.specs.Subjects.{unit_of}
use Rattle.builtin_rules.specs.Quiet.{quiet_within}
use Rattle.builtin_rules.proofs.QuietLemmas.{IsRest}
use Rattle.builtin_rules.proofs.quiet.+quietness.Given as goal

abbrev pub decreases-every : goal.decreases-every
decreases-every l = 3 * l.levels + 1

abbrev pub decreases-or_parts : goal.decreases-or_parts
decreases-or_parts l = 3 * l.levels + 2

abbrev pub decreases-within : goal.decreases-within
decreases-within l = 3 * l.levels

abbrev pub invariant-every-loop-i : goal.invariant-every-loop-i
invariant-every-loop-i l = IsRest (sight l.s) (quiet_within (unit_of l.u) l.block l.file l.levels) l.parts l.i
