use Rattle.std.proofs.Common.{◌≡◌, drop}
use Rattle.method_sets.specs.Replies.{listed_in}
use Rattle.type_answers.specs.Unknown.{first_told, unknown_told}
use Rattle.type_answers.proofs.unknown.first_unknown.Given as goal

abbrev pub invariant-loop-i : goal.invariant-loop-i
invariant-loop-i l = first_told (unknown_told) (listed_in l.s.table l.methods) ≡ first_told (unknown_told) (listed_in l.s.table (drop l.i l.methods))
