use Rattle.std.proofs.Common.{◌≡◌, ◌++◌, ℕ, List}
use Rattle.std.specs.Str.{bytes_eq}
use Rattle.package_objects.specs.Declares.{gather}
use Rattle.duplicate_cases.specs.InCode.{spelled_at, again_at}
use Rattle.duplicate_cases.proofs.again.add_again.Given as goal
use Rattle.rule_words.specs.Again.{is_before}
use Rattle.rule_words.specs.Met.{holds}

abbrev pub invariant-loop-i : goal.invariant-loop-i
invariant-loop-i l = record {
  out : l.out.items ≡ l.fn.out.items ++ gather (again_at (spelled_at l.s l.of_types l.marks) l.file l.list) l.i;
  met : (k : List ℕ) → holds l.met k ≡ is_before bytes_eq (spelled_at l.s l.of_types l.marks) l.i k;
}
