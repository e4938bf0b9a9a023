use Rattle.std.proofs.Common.{◌≡◌, ◌≤◌, ◌-◌, length, take, false}
use Rattle.std.specs.List.{list_any}
use Rattle.words.specs.Lists.{is_comma}
use Rattle.words.proofs.only.before_comma.Given as goal

abbrev pub invariant-loop-count : goal.invariant-loop-count
invariant-loop-count l = (l.count ≤ length l.text) × (list_any is_comma (take l.count l.text) ≡ false)

abbrev pub decreases-loop-count : goal.decreases-loop-count
decreases-loop-count l = length l.text - l.count
