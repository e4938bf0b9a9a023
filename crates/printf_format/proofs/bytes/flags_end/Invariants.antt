use Rattle.std.proofs.Common.{◌≡◌, ◌≤◌, ◌-◌, length}
use Rattle.printf_format.specs.Bytes.{is_flag, run_end}
use Rattle.printf_format.proofs.bytes.flags_end.Given as goal

abbrev pub invariant-loop-end : goal.invariant-loop-end
invariant-loop-end l = record {
  after : l.at ≤ l.end;
  within : l.end ≤ length l.text;
  same : run_end is_flag l.text l.end ≡ run_end is_flag l.text l.at;
}

abbrev pub decreases-loop-end : goal.decreases-loop-end
decreases-loop-end l = length l.text - l.end
