use Rattle.std.proofs.Common.{[]}
use Rattle.package_needs.specs.Worlds.{DenotesName}
use Rattle.package_needs.proofs.MentionLemmas.{Rows}
use Rattle.package_needs.proofs.denoted.blank_rows.Given as goal

abbrev pub invariant-loop-file : goal.invariant-loop-file
invariant-loop-file l = Rows (DenotesName []) l.trees l.rows.items l.file
