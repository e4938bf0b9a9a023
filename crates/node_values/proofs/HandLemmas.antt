-- Values that are handed down.
use Rattle.std.proofs.Common.{◌≡◌, ◌≢◌, ℕ, zero, suc, ◌<◌, ◌+◌, ◌≤◌, ◌⊎◌, List, [], ◌∷◌, length, replicate, set, get_or, slice_get, Some, None, refl, sym, ap, ◌∙◌, inl, inr, arith, get_or-set_same, get_or-set_other}
use Rattle.std.specs.List.{Contains}
use Rattle.std.specs.Option.{option_map_or}
use Rattle.std.proofs.Math.ListN.{length-set}
use Rattle.std.proofs.lemmas.List.{length-replicate}
use Rattle.std.proofs.lemmas.Option.{slice_get_within}
use Rattle.go_tree.specs.declared.tree.Node.{Node}
use Rattle.node_values.specs.Trees.{IsPart, IsTree}
use Rattle.node_values.specs.Parents.{at, IsParent, AreParents}
use Rattle.node_values.specs.Handed.{AreHanded, AreHandedFrom, AreTops, IsHandedDown, handed}
use Rattle.node_values.proofs.CaseLemmas.{nat_cases}

pub below_or_not : (a b : ℕ) → (a < b) ⊎ (b ≤ a)
below_or_not a b = grind arith

pub get_past : {X : Type 0} (xs : List X) (k : ℕ) → length xs ≤ k → slice_get xs k ≡ None
get_past [] k h = refl
get_past (x ∷ xs) zero h = absurd (omega arith)
get_past (x ∷ xs) (suc k) h = get_past xs k (omega arith)

pub default_past : {X : Type 0} (xs : List X) (k : ℕ) (d : X) → length xs ≤ k → get_or xs k d ≡ d
default_past [] k d h = refl
default_past (x ∷ xs) zero d h = absurd (omega arith)
default_past (x ∷ xs) (suc k) d h = default_past xs k d (omega arith)

handed_other : {A : Type 0} (rule : ℕ → Node → ℕ → A → A) (top : A) (nodes : List Node) (found : List A) (i : ℕ) (v : A) (n p : ℕ) → p ≢ i
    → handed rule top nodes (set found i v) n p ≡ handed rule top nodes found n p
handed_other {A} rule top nodes found i v n p other =
    ap (λ (x : A). option_map_or (λ (node : Node). rule p node n x) (slice_get nodes p) top) (get_or-set_other found i p v top other)

parent_after : (nodes : List Node) (n p : ℕ) → IsTree nodes → n < length nodes → IsParent nodes (length nodes) n p → n < p
parent_after nodes n p tree low (inl has) = tree.after p n has
parent_after nodes n p tree low (inr none) = let e = none.0 in omega arith

pub handed_more : {A : Type 0} (rule : ℕ → Node → ℕ → A → A) (top : A) (nodes : List Node) (parents : List ℕ) (found : List A) (i : ℕ) (v : A)
    → IsTree nodes → AreParents nodes (length nodes) parents → i < length nodes → v ≡ handed rule top nodes found i (at parents i)
    → AreHandedFrom rule top nodes (at parents) (i + 1) found → AreHandedFrom rule top nodes (at parents) i (set found i v)
handed_more {A} rule top nodes parents found i v tree parts low is was = record {
  size = length-set found i v ∙ was.size;
  each = λ n high below. elim (nat_cases n i) [
    | inl same ↦ here n same below
    | inr other ↦ get_or-set_other found i n v top other ∙ (was.each n (later n high other) below ∙ sym (handed_other rule top nodes found i v n (at parents n) (apart n high below)))
  ];
} where
  later : (n : ℕ) → i ≤ n → n ≢ i → i + 1 ≤ n
  later n high other = omega arith

  apart : (n : ℕ) → i ≤ n → n < length nodes → at parents n ≢ i
  apart n high below e = let a = parent_after nodes n (at parents n) tree below (parts.each n below) in absurd (omega arith)

  here : (n : ℕ) → n ≡ i → n < length nodes → get_or (set found i v) n top ≡ handed rule top nodes (set found i v) n (at parents n)
  here n same below =
      ap (λ x. get_or (set found i v) x top) same ∙ (get_or-set_same found i v top (let s = was.size in omega arith) ∙ (is ∙ (ap (λ x. handed rule top nodes found x (at parents x)) (sym same)
      ∙ sym (handed_other rule top nodes found i v n (at parents n) (apart n (omega arith) below)))))

pub none_handed : {A : Type 0} (rule : ℕ → Node → ℕ → A → A) (top : A) (nodes : List Node) (parents : ℕ → ℕ) (count : ℕ) (found : List A) → count ≡ length nodes
    → AreTops count top found → AreHandedFrom rule top nodes parents (length nodes) found
none_handed rule top nodes parents count found same tops = record { size = tops.size ∙ same; each = λ n high low. absurd (omega arith) }

pub all_handed : {A : Type 0} (rule : ℕ → Node → ℕ → A → A) (top : A) (nodes : List Node) (parents : List ℕ) (found : List A) (left : ℕ)
    → IsTree nodes → AreParents nodes (length nodes) parents → left ≤ 0 → AreHandedFrom rule top nodes (at parents) left found → AreHanded rule top nodes found
all_handed {A} rule top nodes parents found left tree parts end filled = record {
  size = filled.size;
  given = λ p n node there has low.
      filled.each n (omega arith) low ∙ (ap (λ x. handed rule top nodes found n x) (one_parent p n node there has (parts.each n low))
      ∙ ap (λ o. option_map_or (λ (x : Node). rule p x n (get_or found p top)) o top) there);
  root = λ n none. elim (below_or_not n (length nodes)) [
    | inl low ↦ filled.each n (omega arith) low ∙ no_parent n none (parts.each n low)
    | inr past ↦ default_past found n top (let s = filled.size in omega arith)
  ];
} where
  one_parent : (p n : ℕ) (node : Node) → slice_get nodes p ≡ Some node → Contains node.parts n → IsParent nodes (length nodes) n (at parents n) → at parents n ≡ p
  one_parent p n node there has (inl own) = tree.one (at parents n) p n own (node, there, has)
  one_parent p n node there has (inr none) = absurd (none.1 p (slice_get_within nodes p node there) (node, there, has))

  no_parent : (n : ℕ) → ((p : ℕ) → IsPart nodes p n → ⊥) → IsParent nodes (length nodes) n (at parents n) → handed rule top nodes found n (at parents n) ≡ top
  no_parent n none (inl own) = absurd (none (at parents n) own)
  no_parent n none (inr past) = ap (λ o. option_map_or (λ (x : Node). rule (at parents n) x n (get_or found (at parents n) top)) o top)
      (get_past nodes (at parents n) (let e = past.0 in omega arith))

one_step : {A : Type 0} (rule : ℕ → Node → ℕ → A → A) (top : A) (nodes : List Node) (a b : List A) (n p : ℕ) → AreHanded rule top nodes a → AreHanded rule top nodes b → n < length nodes
    → IsParent nodes (length nodes) n p → (IsPart nodes p n → get_or a p top ≡ get_or b p top) → get_or a n top ≡ get_or b n top
one_step rule top nodes a b n p x y low (inl (node, there, has)) up =
    x.given p n node there has low ∙ (ap (rule p node n) (up (node, there, has)) ∙ sym (y.given p n node there has low))
one_step rule top nodes a b n p x y low (inr none) up = x.root n alone ∙ sym (y.root n alone) where
  alone : (q : ℕ) → IsPart nodes q n → ⊥
  alone q own = none.1 q (slice_get_within nodes q own.0 own.1) own

-- there is one list of what is handed down
pub one_handed : {A : Type 0} (rule : ℕ → Node → ℕ → A → A) (top : A) (nodes : List Node) (parents : List ℕ) (a b : List A) → IsTree nodes → AreParents nodes (length nodes) parents
    → AreHanded rule top nodes a → AreHanded rule top nodes b → (fuel n : ℕ) → n < length nodes → length nodes ≤ n + fuel → get_or a n top ≡ get_or b n top
one_handed rule top nodes parents a b tree parts x y zero n low end = absurd (omega arith)
one_handed rule top nodes parents a b tree parts x y (suc fuel) n low end =
    one_step rule top nodes a b n (at parents n) x y low (parts.each n low)
    (λ has. one_handed rule top nodes parents a b tree parts x y fuel (at parents n) (slice_get_within nodes (at parents n) has.0 has.1) (let after = tree.after (at parents n) n has in omega arith))

pub one_value : {A : Type 0} (rule : ℕ → Node → ℕ → A → A) (top : A) (nodes : List Node) (a b : List A) → IsTree nodes → IsHandedDown rule top nodes a → IsHandedDown rule top nodes b
    → (n : ℕ) → get_or a n top ≡ get_or b n top
one_value rule top nodes a b tree x y n = elim (below_or_not n (length nodes)) [
  | inl low ↦ one_handed rule top nodes x.parents a b tree x.are_parents x.handed y.handed (length nodes) n low (omega arith)
  | inr past ↦ default_past a n top (let s = x.handed.size in omega arith) ∙ sym (default_past b n top (let s = y.handed.size in omega arith))
]

-- so many times the same value
top_of : {A : Type 0} (count n : ℕ) (top : A) → get_or (replicate count top) n top ≡ top
top_of zero n top = refl
top_of (suc count) zero top = refl
top_of (suc count) (suc n) top = top_of count n top

pub tops_are : {A : Type 0} (count : ℕ) (top : A) (found : List A) → found ≡ replicate count top → AreTops count top found
tops_are {A} count top found is = record {
  size = ap (λ (xs : List A). length xs) is ∙ length-replicate count top;
  each = λ n. ap (λ (xs : List A). get_or xs n top) is ∙ top_of count n top;
}
