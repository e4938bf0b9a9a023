use Rattle.std.proofs.Common.{arith, ◌≡◌, ◌≤◌, ℕ, List, drop, false, [], zero, suc}
use Rattle.std.specs.List.{list_any}
use Rattle.import_graph.specs.Sources.{is_slash, directory_of}
use Rattle.import_graph.proofs.SourceLemmas.{directory-at-slash, no-slash}
use Rattle.import_graph.proofs.source.directory_len.Goals as goal

pub returns-then-path-at-eq47-clause-directory : goal.returns-then-path-at-eq47-clause-directory
returns-then-path-at-eq47-clause-directory c = directory-at-slash c.args.path.now c.loop-at.at c.loop-at.invariant.0 c.loop-at.invariant.1 c.if-path-at-eq47.true

none-at-all : (path : List ℕ) (at : ℕ) → at ≤ 0 → list_any is_slash (drop at path) ≡ false → directory_of path ≡ []
none-at-all path zero le none = no-slash path none
none-at-all path (suc n) le none = absurd (omega (arith, le))

pub returns-clause-directory : goal.returns-clause-directory
returns-clause-directory c = none-at-all c.args.path.now c.loop-at.at c.loop-at-test.false c.loop-at.invariant.1
