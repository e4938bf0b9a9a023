use Rattle.std.proofs.Common.{◌≡◌, ◌≤◌, ◌+◌, drop}
use Rattle.flow.specs.Edges.{count}
use Rattle.flow.proofs.passes.count.Given as goal

abbrev pub invariant-loop-part : goal.invariant-loop-part
invariant-loop-part l = record {
  few : l.count ≤ l.part-index;
  so_far : l.count + count l.tree l.role (drop l.part-index l.parts) ≡ count l.tree l.role l.parts;
}
