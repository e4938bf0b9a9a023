-- Whether there is a `break` or a `continue` without a label.
use Rattle.std.proofs.Common.{◌≡◌, ℕ, ◌<◌, ◌≤◌, ◌+◌, ◌&&◌, Bool, true, false, List, [], ◌∷◌, length, Some, None, slice_get, refl, ap}
use Rattle.go_tree.specs.declared.tree.Node.{Node}
use Rattle.go_tree.proofs.NodeLemmas.{differ, PassesAt, none_more, none_all}
use Rattle.body_rules.specs.declared.branches.Branch.{Branch}
use Rattle.body_rules.specs.Branches.{is_of}
use Rattle.body_rules.specs.Files.{is_nil}
use Rattle.body_rules.specs.Jumping.{IsBareAt}

pub none_first : (parts : List ℕ) → slice_get parts 0 ≡ None → parts ≡ []
none_first [] e = refl
none_first (x ∷ xs) e = absurd (cc)

both : (a b : Bool) → a ≡ true → b ≡ true → (a && b) ≡ true
both true b e f = f
both false b e f = absurd (differ false refl e)

nil_is : (parts : List ℕ) → is_nil parts ≡ true → parts ≡ []
nil_is [] e = refl
nil_is (x ∷ xs) e = absurd (differ false refl e)

both_are : (a b : Bool) → (a && b) ≡ true → (a ≡ true) × (b ≡ true)
both_are true b e = (refl, e)
both_are false b e = absurd (differ false refl e)

abbrev bare : Branch → Node → Bool
bare which node = is_of which node.kind && is_nil node.parts

passes : (which : Branch) (nodes : List Node) (m : ℕ) → IsBareAt which nodes m → PassesAt (bare which) nodes m
passes which nodes m (node, there, is, none) = (node, there, both (is_of which node.kind) (is_nil node.parts) is (ap is_nil none))

pub bare_here : (which : Branch) (nodes : List Node) (n : ℕ) (node : Node) → slice_get nodes n ≡ Some node → (is_of which node.kind && is_nil node.parts) ≡ true → IsBareAt which nodes n
bare_here which nodes n node there holds =
    let k = both_are (is_of which node.kind) (is_nil node.parts) holds in
    (node, there, k.0, nil_is node.parts k.1)

pub none_bare : (which : Branch) (nodes : List Node) (n : ℕ) (node : Node) → slice_get nodes n ≡ Some node → (is_of which node.kind && is_nil node.parts) ≡ false
    → ((m : ℕ) → m < n → IsBareAt which nodes m → ⊥) → (m : ℕ) → m < n + 1 → IsBareAt which nodes m → ⊥
none_bare which nodes n node there fails before m low is =
    none_more (bare which) nodes n node there fails (λ p less w. before p less (bare_here which nodes p w.0 w.1 w.2)) m low (passes which nodes m is)

pub all_bare : (which : Branch) (nodes : List Node) (k : ℕ) → length nodes ≤ k → ((m : ℕ) → m < k → IsBareAt which nodes m → ⊥) → (n : ℕ) → IsBareAt which nodes n → ⊥
all_bare which nodes k past before n is =
    none_all (bare which) nodes k past (λ p less w. before p less (bare_here which nodes p w.0 w.1 w.2)) n (passes which nodes n is)
