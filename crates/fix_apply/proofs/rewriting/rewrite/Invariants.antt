use Rattle.std.proofs.Common.{◌≡◌, ◌++◌}
use Rattle.std.specs.List.{flat_map, range_with_len}
use Rattle.fix_apply.specs.Rewriting.{inserted, kept}
use Rattle.fix_apply.specs.Spots.{Stands}
use Rattle.fix_apply.proofs.rewriting.rewrite.Given as goal

abbrev pub invariant-loop-at : goal.invariant-loop-at
invariant-loop-at l = record {
  stands : Stands l.edits l.spots.items l.cursor l.at;
  written : l.new.items ≡ flat_map (λ at. inserted l.edits at ++ kept l.bytes l.edits at) (range_with_len 0 l.at);
}
