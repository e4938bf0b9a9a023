use Rattle.std.proofs.Common.{ℕ, List, length, subst}
use Rattle.vet_flow.specs.Unreachable.{AreSet}
use Rattle.vet_flow.proofs.DeadLemmas.{flags_dead}
use Rattle.vet_flow.proofs.dead.tree_row.Goals as goal

pub returns : goal.returns
returns c =
    let tree = c.args.tree.now in
    let flags = c.in_ok-row.row.items in
    flags_dead c.args.bytes.now tree c.in_ok-numbers.numbers.items flags c.in_ok-numbers.ensures
    (subst (λ (n : ℕ). AreSet c.in_ok-numbers.numbers.items (length c.in_ok-numbers.numbers.items) n flags) c.node_count.ensures
    (subst (λ (l : List ℕ). AreSet l (length l) c.node_count.result flags) c.deref.ensures.value c.in_ok-row.ensures))
