-- That no node passes a test, said from one node to the next.
use Rattle.std.proofs.Common.{◌≡◌, ℕ, ◌<◌, ◌≤◌, ◌+◌, Bool, true, false, List, length, Some, slice_get, ap, ◌∙◌, inl, inr, arith}
use Rattle.std.proofs.lemmas.Bool.{cases_lt}
use Rattle.std.proofs.lemmas.Option.{slice_get_within}
use Rattle.gv_base.proofs.Lists.{same_some}
use Rattle.go_tree.specs.declared.tree.Node.{Node}

pub differ : (b : Bool) → b ≡ false → b ≡ true → ⊥
differ b p q = cc

-- the node of this number passes
abbrev pub PassesAt : (Node → Bool) → List Node → ℕ → Type 0
PassesAt test nodes n = (node : Node) × (slice_get nodes n ≡ Some node) × (test node ≡ true)

pub none_more : (test : Node → Bool) (nodes : List Node) (n : ℕ) (node : Node) → slice_get nodes n ≡ Some node → test node ≡ false
    → ((m : ℕ) → m < n → PassesAt test nodes m → ⊥) → (m : ℕ) → m < n + 1 → PassesAt test nodes m → ⊥
none_more test nodes n node there fails before m low (other, other_at, is) = elim (cases_lt m n) [
  | inl less ↦ before m less (other, other_at, is)
  | inr past ↦
      let here : n ≡ m = omega arith in
      let same : node ≡ other = same_some (slice_get nodes n) node other there (ap (slice_get nodes) here ∙ other_at) in
      differ (test node) fails (ap test same ∙ is)
]

pub none_all : (test : Node → Bool) (nodes : List Node) (k : ℕ) → length nodes ≤ k → ((m : ℕ) → m < k → PassesAt test nodes m → ⊥) → (n : ℕ) → PassesAt test nodes n → ⊥
none_all test nodes k past before n is = before n (let low = slice_get_within nodes n is.0 is.1 in omega arith) is
