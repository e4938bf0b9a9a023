use Rattle.node_values.specs.Flagged.{IsOnly}
use Rattle.std.proofs.Common.{List, Option, ℕ, IsTrue, not, ◌↔◌, sym, ap, subst}
use Rattle.node_values.specs.Ranges.{starts, IsWithin}
use Rattle.body_rules.specs.Jumping.{LeavesRound}
use Rattle.body_rules.proofs.JumpLemmas.{not_true}
use Rattle.body_rules.proofs.BranchLemmas.{round_some, round_none}
use Rattle.body_rules.proofs.branches.if_round.Goals as goal

pub returns-then-not-is_within : goal.returns-then-not-is_within
returns-then-not-is_within c =
    round_none c.args.which c.args.nodes.now c.args.t c.args.n c.requires.tree c.requires.tiled
    ((not_true c.is_within.result (IsWithin (starts c.args.nodes.now) c.args.t c.args.n)
    (subst (λ (s : List ℕ). IsTrue c.is_within.result ↔ IsWithin s c.args.t c.args.n) c.requires.begins c.is_within.ensures)).0 (ap not c.if-not-is_within.true))

pub returns : goal.returns
returns c =
    subst (λ (o : Option ℕ). IsOnly (LeavesRound c.args.which c.args.nodes.now c.args.t c.args.n) o) (sym c.if_leavable.ensures)
    (round_some c.args.which c.args.nodes.now c.args.t c.args.n c.requires.tree c.requires.tiled
    ((subst (λ (s : List ℕ). IsTrue c.is_within.result ↔ IsWithin s c.args.t c.args.n) c.requires.begins c.is_within.ensures).0 c.if-not-is_within.false))
