-- What is gathered or found number by number.
use Rattle.std.proofs.Common.{◌≡◌, ℕ, zero, suc, ◌+◌, ◌≤◌, ◌<◌, ◌⊎◌, nat_le, if◌then◌else◌, true, false, List, [], ◌∷◌, ◌++◌, slice_get, slice_index_or, length, Option, Some, None, inl, inr, below_more, refl, sym, ap, ◌∙◌, subst, arith}
use Rattle.std.proofs.lemmas.Bool.{le-leb, lt-leb}
use Rattle.std.proofs.lemmas.Option.{slice_get-get_or, get_or_from_slice_get}
use Rattle.go_tree.specs.declared.tree.Node.{Node}
use Rattle.package_objects.specs.Declares.{gather, source_after, source_with}
use Rattle.package_objects.proofs.GatherLemmas.{gather_on, next_is}
use Rattle.const_tree.specs.declared.constant.Spec.{Spec}
use Rattle.const_tree.specs.Constants.{spec_for, nth_spec, first_from, AreBefore}

append_cases : {X : Type 0} (xs ys : List X) (o : ℕ) (d : X) → slice_get (xs ++ ys) o ≡ Some d → ((i : ℕ) × (slice_get xs i ≡ Some d)) ⊎ ((j : ℕ) × (slice_get ys j ≡ Some d))
append_cases [] ys o d h = inr (o, h)
append_cases (x ∷ xs) ys zero d h = inl (0, h)
append_cases (x ∷ xs) ys (suc o) d h = elim (append_cases xs ys o d h) [
  | inl (i, e) ↦ inl (suc i, e)
  | inr later ↦ inr later
]

-- what is gathered comes of some number
pub gather_cases : {X : Type 0} (g : ℕ → List X) (n o : ℕ) (d : X) → slice_get (gather g n) o ≡ Some d → (i : ℕ) × (j : ℕ) × (i < n) × (slice_get (g i) j ≡ Some d)
gather_cases g zero o d h = absurd cc
gather_cases g (suc n) o d h = elim (append_cases (gather g n) (g n) o d h) [
  | inl (i, e) ↦ (let rest = gather_cases g n i d e in (rest.0, rest.1, (let low = rest.2 in omega arith), rest.3))
  | inr (j, e) ↦ (n, j, omega arith, e)
]

-- the specification whose list counts, and the specifications of one more
pub specs_on : (nodes : List Node) (node : Node) (i : ℕ) (source newer : Option ℕ) (old mid new : List Spec)
    → source ≡ source_after nodes node.parts i → newer ≡ source_with nodes source (slice_get node.parts i) → mid ≡ old ++ gather (nth_spec nodes node) i
    → new ≡ mid ++ spec_for (slice_get node.parts i) i newer
    → (newer ≡ source_after nodes node.parts (i + 1)) × (new ≡ old ++ gather (nth_spec nodes node) (i + 1))
specs_on nodes node i source newer old mid new was now out is = (newer_is ∙ ap (λ k. source_after nodes node.parts k) (next_is i), gather_on (nth_spec nodes node) i old mid new out added) where
  newer_is : newer ≡ source_after nodes node.parts (suc i)
  newer_is = now ∙ ap (λ o. source_with nodes o (slice_get node.parts i)) was

  added : new ≡ mid ++ nth_spec nodes node i
  added = is ∙ ap (λ o. mid ++ spec_for (slice_get node.parts i) i o) newer_is

-- what is tested of each item
each_more : {X : Type 0} (P : ℕ → X → Type 0) (xs ys : List X) (i : ℕ) (d : X) → ys ≡ xs → d ≡ slice_index_or ys i d → P i d
    → ((k : ℕ) → k < i → (x : X) → slice_get xs k ≡ Some x → P k x) → (k : ℕ) → k < i + 1 → (x : X) → slice_get xs k ≡ Some x → P k x
each_more {X} P xs ys i d same at here before =
    below_more (λ k. (x : X) → slice_get xs k ≡ Some x → P k x) i before
    (λ x there. subst (λ (y : X). P i y) (at ∙ get_or_from_slice_get ys i x d (ap (λ zs. slice_get zs i) same ∙ there)) here)

le_true : (a b : ℕ) → a ≤ b → nat_le a b ≡ true
le_true a b low = le-leb a b low

le_false : (a b : ℕ) → b < a → nat_le a b ≡ false
le_false a b low = lt-leb a b low

-- a specification that isn't before a node, behind those that are, is its own
pub first_here : (specs : List Spec) (at n : ℕ) (s : Spec) → AreBefore specs at n → slice_get specs at ≡ Some s → n ≤ s.node → first_from n specs ≡ Some s
first_here [] at n s before there low = absurd cc
first_here (x ∷ specs) zero n s before there low =
    let same : x ≡ s = cc in
    ap (λ b. if b then Some x else first_from n specs) (subst (λ (y : Spec). nat_le n y.node ≡ true) (sym same) (le_true n s.node low)) ∙ there
first_here (x ∷ specs) (suc at) n s before there low =
    ap (λ b. if b then Some x else first_from n specs) (le_false n x.node (before 0 (omega arith) x refl))
    ∙ first_here specs at n s (λ j h y e. before (suc j) (omega arith) y e) there low

pub first_none : (specs : List Spec) (at n : ℕ) → AreBefore specs at n → length specs ≤ at → first_from n specs ≡ None
first_none [] at n before past = refl
first_none (x ∷ specs) zero n before past = absurd (omega arith)
first_none (x ∷ specs) (suc at) n before past =
    ap (λ b. if b then Some x else first_from n specs) (le_false n x.node (before 0 (omega arith) x refl))
    ∙ first_none specs at n (λ j h y e. before (suc j) (omega arith) y e) (omega arith)

pub before_more : (specs : List Spec) (at n : ℕ) (d : Spec) → AreBefore specs at n → at < length specs → (slice_index_or specs at d).node < n → AreBefore specs (at + 1) n
before_more specs at n d before low under =
    each_more (λ j x. x.node < n) specs specs at (slice_index_or specs at d) refl
    (sym (get_or_from_slice_get specs at (slice_index_or specs at d) (slice_index_or specs at d) (slice_get-get_or specs at d low))) under before

pub past : {X : Type 0} (xs : List X) (i : ℕ) → length xs ≤ i → slice_get xs i ≡ None
past [] i low = refl
past (x ∷ xs) zero low = absurd (omega arith)
past (x ∷ xs) (suc i) low = past xs i (omega arith)
