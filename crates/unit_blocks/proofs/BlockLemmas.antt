-- Names by their blocks.
use Rattle.std.proofs.Common.{◌≡◌, ℕ, zero, suc, ◌+◌, ◌<◌, ◌++◌, nat_eq, nat_lt, Bool, true, false, List, [], ◌∷◌, length, set, get_or, slice_get, Option, Some, None, refl, sym, ap, ◌∙◌, arith}
use Rattle.std.specs.Global.{Vec}
use Rattle.std.specs.Option.{option_map_or}
use Rattle.std.proofs.lemmas.Bool.{eqb-true, eqb-false, ltb-false, ne_eqb}
use Rattle.std.proofs.lemmas.List.{append-nil, length-append, length-set}
use Rattle.go_tree.specs.declared.tree.NodeRef.{NodeRef}
use Rattle.object_order.specs.Views.{group_in}
use Rattle.package_objects.specs.Declares.{gather}
use Rattle.package_objects.proofs.GatherLemmas.{gather_more}
use Rattle.scopes.specs.declared.scope.Named.{Named}
use Rattle.unit_read.specs.Units.{Unit, nodes_at}
use Rattle.unit_read.proofs.CellLemmas.{item_is}
use Rattle.unit_blocks.specs.Blocks.{placed_name, listed_if, if_of_block, nth_of_block, block_names, declared_again, again_in_file, again_at, PushesAt, AddsAt, AreBlocks}

-- ---- groups

abbrev items_of : Option (Vec NodeRef) → List NodeRef
items_of o = option_map_or (λ (group : Vec NodeRef). group.items) o []

pub blank_size : (rows new : List (Vec NodeRef)) (row : Vec NodeRef) (n : ℕ) → new ≡ rows ++ (row ∷ []) → length rows ≡ n → length new ≡ n + 1
blank_size rows new row n is size = let e = ap (λ (xs : List (Vec NodeRef)). length xs) is in let f = length-append rows (row ∷ []) in omega (arith, e, f, size)

blank_front : (rows : List (Vec NodeRef)) (row : Vec NodeRef) (k : ℕ) → row.items ≡ [] → group_in rows k ≡ [] → group_in (rows ++ (row ∷ [])) k ≡ []
blank_front [] row zero bare empty = bare
blank_front [] row (suc k) bare empty = refl
blank_front (r ∷ rows) row zero bare empty = empty
blank_front (r ∷ rows) row (suc k) bare empty = blank_front rows row k bare empty

pub blank_more : (rows new : List (Vec NodeRef)) (row : Vec NodeRef) → new ≡ rows ++ (row ∷ []) → row.items ≡ [] → ((k : ℕ) → group_in rows k ≡ []) → (k : ℕ) → group_in new k ≡ []
blank_more rows new row is bare empty k = ap (λ (xs : List (Vec NodeRef)). group_in xs k) is ∙ blank_front rows row k bare (empty k)

set_here : {X : Type 0} (xs : List X) (n : ℕ) (x : X) → n < length xs → slice_get (set xs n x) n ≡ Some x
set_here [] n x low = absurd (omega arith)
set_here (y ∷ xs) zero x low = refl
set_here (y ∷ xs) (suc n) x low = set_here xs n x (omega arith)

set_there : {X : Type 0} (xs : List X) (n k : ℕ) (x : X) → (k ≡ n → ⊥) → slice_get (set xs n x) k ≡ slice_get xs k
set_there [] zero k x apart = refl
set_there [] (suc n) k x apart = refl
set_there (y ∷ xs) zero zero x apart = absurd (apart refl)
set_there (y ∷ xs) zero (suc k) x apart = refl
set_there (y ∷ xs) (suc n) zero x apart = refl
set_there (y ∷ xs) (suc n) (suc k) x apart = set_there xs n k x (λ same. apart (omega arith))

pub pushes_at : (old : List (Vec NodeRef)) (n : ℕ) (at : NodeRef) (row was : Vec NodeRef) → n < length old → was ≡ get_or old n was → row.items ≡ was.items ++ (at ∷ []) → PushesAt old (set old n row) n at
pushes_at old n at row was low item now = record {
  size = length-set old n row;
  here = ap items_of (set_here old n row low) ∙ (now ∙ ap (λ (xs : List NodeRef). xs ++ (at ∷ [])) (sym (ap items_of (item_is old n was low item))));
  others = λ k apart. ap items_of (set_there old n k row apart);
}

-- nothing is added
none_listed : (b : Bool) → listed_if b None ≡ []
none_listed true = refl
none_listed false = refl

pub adds_none : (old : List (Vec NodeRef)) (n : ℕ) → AddsAt old old n None
adds_none old n = record {
  size = refl;
  each = λ k low. sym (ap (λ (xs : List NodeRef). group_in old k ++ xs) (none_listed (nat_eq n k)) ∙ append-nil (group_in old k));
}

pub adds_past : (old : List (Vec NodeRef)) (n : ℕ) (at : NodeRef) → nat_lt n (length old) ≡ false → AddsAt old old n (Some at)
adds_past old n at past = record {
  size = refl;
  each = λ k low.
      let high = ltb-false n (length old) past in
      sym (ap (λ (b : Bool). group_in old k ++ listed_if b (Some at)) (ne_eqb n k (λ same. omega arith)) ∙ append-nil (group_in old k));
}

pub adds_one : (old new : List (Vec NodeRef)) (n : ℕ) (at : NodeRef) → PushesAt old new n at → AddsAt old new n (Some at)
adds_one old new n at push = record {
  size = push.size;
  each = λ k low. by k (nat_eq n k) refl;
} where
  by : (k : ℕ) (b : Bool) → nat_eq n k ≡ b → group_in new k ≡ group_in old k ++ listed_if b (Some at)
  by k true is =
      let same : n ≡ k = eqb-true n k is in
      ap (group_in new) (sym same) ∙ (push.here ∙ ap (λ (m : ℕ). group_in old m ++ (at ∷ [])) same)
  by k false is = push.others k (λ same. eqb-false n k is (sym same)) ∙ sym (append-nil (group_in old k))

-- ---- the names of blocks

pub blocks_none : (f count : ℕ) (names : List Named) (groups : List (Vec NodeRef)) → length groups ≡ count → ((k : ℕ) → group_in groups k ≡ []) → AreBlocks f count names 0 groups
blocks_none f count names groups size empty = record { size = size; each = λ k low. empty k }

pub blocks_more : (f count : ℕ) (names : List Named) (i : ℕ) (d : Named) (old new : List (Vec NodeRef)) → slice_get names i ≡ Some d → AreBlocks f count names i old
    → AddsAt old new d.end (placed_name f count d) → AreBlocks f count names (i + 1) new
blocks_more f count names i d old new there was adds = record {
  size = adds.size ∙ was.size;
  each = λ k low.
      gather_more (nth_of_block f count names k) i (group_in old k) (group_in new k) (was.each k low)
      (adds.each k (let s = was.size in omega arith) ∙ ap (λ (o : Option Named). group_in old k ++ option_map_or (if_of_block f count k) o []) (sym there));
}

pub gather_same : (g h : ℕ → List NodeRef) (n : ℕ) → ((k : ℕ) → k < n → g k ≡ h k) → gather g n ≡ gather h n
gather_same g h zero same = refl
gather_same g h (suc n) same = ap (λ (xs : List NodeRef). xs ++ g n) (gather_same g h n (λ k low. same k (omega arith))) ∙ ap (λ (xs : List NodeRef). gather h n ++ xs) (same n (omega arith))

-- what is gathered from the groups of a file
pub file_again : (u : Unit) (f count : ℕ) (names : List Named) (groups : List (Vec NodeRef)) → count ≡ length (nodes_at u f) → AreBlocks f count names (length names) groups
    → gather (again_at u groups) count ≡ again_in_file u f names
file_again u f count names groups all are =
    gather_same (again_at u groups) (λ k. declared_again u (block_names f count names k)) count (λ k low. ap (declared_again u) (are.each k low))
    ∙ ap (λ (n : ℕ). gather (λ k. declared_again u (block_names f n names k)) n) all
