-- The names that uses denote, noted one use after another.
use Rattle.std.proofs.Common.{◌≡◌, ◌⊎◌, ℕ, zero, suc, ◌+◌, ◌<◌, ◌≤◌, List, [], ◌∷◌, ◌++◌, length, replicate, set, get_or, take, slice_get, Option, Some, None, refl, sym, ap, ◌∙◌, subst, inl, inr, arith}
use Rattle.std.specs.Global.{Vec}
use Rattle.std.specs.List.{Contains}
use Rattle.std.proofs.Math.ListN.{length-set}
use Rattle.std.proofs.lemmas.Option.{slice_get_within, slice_get-get_or, get_or_from_slice_get}
use Rattle.go_tree.specs.declared.bindings.Object.{Object}
use Rattle.go_tree.specs.declared.tree.FileTree.{FileTree}
use Rattle.go_tree.specs.declared.tree.NodeRef.{NodeRef}
use Rattle.object_order.specs.Spots.{place}
use Rattle.package_needs.specs.Keys.{IsRowBy}
use Rattle.package_needs.specs.Noted.{NotesIn, Notes}
use Rattle.package_needs.specs.Worlds.{name_of, DenotesName, AreDenoted}
use Rattle.package_needs.proofs.MentionLemmas.{Rows}
use Rattle.gv_base.proofs.Lists.{set_cases, item_is, push_left, push_cases, same_some}

-- ---- lists

pub take_whole : {X : Type 0} (xs : List X) (i : ℕ) → length xs ≤ i → take i xs ≡ xs
take_whole [] zero low = refl
take_whole [] (suc i) low = refl
take_whole (x ∷ xs) zero low = absurd (omega arith)
take_whole (x ∷ xs) (suc i) low = ap (λ r. x ∷ r) (take_whole xs i (omega arith))

take_at : {X : Type 0} (xs : List X) (i : ℕ) (x : X) → slice_get xs i ≡ Some x → take (i + 1) xs ≡ take i xs ++ x ∷ []
take_at [] i x at = absurd (cc)
take_at {X} (y ∷ xs) zero x at = ap (λ (v : X). v ∷ []) (same_some (Some y) y x refl at)
take_at (y ∷ xs) (suc i) x at = (let e : suc i + 1 ≡ suc (i + 1) = omega arith in ap (λ n. take n (y ∷ xs)) e ∙ ap (λ r. y ∷ r) (take_at xs i x at))

contains_get : {X : Type 0} (xs : List X) (x : X) → Contains xs x → (k : ℕ) × (slice_get xs k ≡ Some x)
contains_get xs x (k, low, is) = (k, slice_get-get_or xs k x low ∙ ap (λ v. Some v) is)

get_contains : {X : Type 0} (xs : List X) (k : ℕ) (x : X) → slice_get xs k ≡ Some x → Contains xs x
get_contains xs k x is = (k, slice_get_within xs k x is, get_or_from_slice_get xs k x x is)

contains_more : {X : Type 0} (xs : List X) (y x : X) → Contains xs x → Contains (xs ++ y ∷ []) x
contains_more xs y x has = let (k, is) = contains_get xs x has in get_contains (xs ++ y ∷ []) k x (push_left xs y x k is)

contains_last : {X : Type 0} (xs : List X) (y : X) → Contains (xs ++ y ∷ []) y
contains_last [] y = (0, omega arith, refl)
contains_last (x ∷ xs) y = let (k, low, is) = contains_last xs y in (suc k, omega arith, is)

contains_either : {X : Type 0} (xs : List X) (y x : X) → Contains (xs ++ y ∷ []) x → Contains xs x ⊎ (y ≡ x)
contains_either xs y x has = let (k, is) = contains_get (xs ++ y ∷ []) x has in
    elim (push_cases xs y x k is) [ inl before ↦ inl (get_contains xs k x before) | inr last ↦ inr last.1 ]

replicate_is : {X : Type 0} (n k : ℕ) (x y : X) → slice_get (replicate n x) k ≡ Some y → y ≡ x
replicate_is zero k x y at = absurd (cc)
replicate_is (suc n) zero x y at = sym (same_some (Some x) x y refl at)
replicate_is (suc n) (suc k) x y at = replicate_is n k x y at

length_replicate : {X : Type 0} (n : ℕ) (x : X) → length (replicate n x) ≡ n
length_replicate zero x = refl
length_replicate (suc n) x = ap suc (length_replicate n x)

-- ---- no use yet

none_of_none : (at : NodeRef) → DenotesName [] at None
none_of_none at = (None, (λ o has. nothing o has), refl) where
  nothing : (o : Object) → Contains {X = NodeRef × Object} [] (at, o) → ⊥
  nothing o (k, low, is) = omega arith

pub blank_is : (file : ℕ) (row : List (Option NodeRef)) (n : ℕ) → row ≡ replicate n None → IsRowBy (DenotesName []) file row n
blank_is file row n is = subst (λ (x : List (Option NodeRef)). IsRowBy (DenotesName []) file x n) (sym is) (record {
  size = length_replicate n None;
  each = λ k o at. subst (λ (x : Option NodeRef). DenotesName [] (place file k) x) (sym (replicate_is n k None o at)) (none_of_none (place file k));
})

pub rows_are : (uses : List (NodeRef × Object)) (trees : List FileTree) (rows : List (Vec (Option NodeRef))) (k : ℕ) → length trees ≡ k → Rows (DenotesName uses) trees rows k → AreDenoted uses trees rows
rows_are uses trees rows k end was = record { size = was.size ∙ sym end; each = was.each }

-- ---- one use more

pub notes_in : (old new : List (Option NodeRef)) (n : ℕ) (name : Option NodeRef) → new ≡ set old n name → NotesIn old new n name
notes_in old new n name is = subst (λ (x : List (Option NodeRef)). NotesIn old x n name) (sym is) (record { size = length-set old n name; each = set_cases old n name })

pub notes_none : (old new : List (Option NodeRef)) (n : ℕ) (name : Option NodeRef) → length old ≤ n → new ≡ old → NotesIn old new n name
notes_none old new n name high is = subst (λ (x : List (Option NodeRef)). NotesIn old x n name) (sym is) (record {
  size = refl;
  each = λ k o at. inl (λ same. (let h = slice_get_within old k o at in omega arith), at);
})

pub notes_row : (old : List (Vec (Option NodeRef))) (file node : ℕ) (name : Option NodeRef) (was row : Vec (Option NodeRef)) (new : List (Vec (Option NodeRef))) → file < length old
    → was ≡ get_or old file was → NotesIn was.items row.items node name → new ≡ set old file row → Notes old new file node name
notes_row old file node name was row new low item notes is = subst (λ (x : List (Vec (Option NodeRef))). Notes old x file node name) (sym is) (record {
  size = length-set old file row;
  each = λ f other at. elim (set_cases old file row f other at) [
    | inl (apart, before) ↦ inl (apart, before)
    | inr (same, one) ↦ inr (same, (was, ap (λ (x : ℕ). slice_get old x) same ∙ item_is old file was low item, subst (λ (x : Vec (Option NodeRef)). NotesIn was.items x.items node name) one notes))
  ];
})

pub notes_nothing : (old new : List (Vec (Option NodeRef))) (file node : ℕ) (name : Option NodeRef) → length old ≤ file → new ≡ old → Notes old new file node name
notes_nothing old new file node name high is = subst (λ (x : List (Vec (Option NodeRef))). Notes old x file node name) (sym is) (record {
  size = refl;
  each = λ f row at. inl (λ same. (let h = slice_get_within old f row at in omega arith), at);
})

module _ (uses : List (NodeRef × Object)) (at : NodeRef) (object : Object) where
  abbrev more : List (NodeRef × Object)
  more = uses ++ (at, object) ∷ []

  -- another node denotes what it did
  still : (other : NodeRef) (o : Option NodeRef) → (at ≡ other → ⊥) → DenotesName uses other o → DenotesName more other o
  still other o apart (None, has, is) = (None, (λ x there. lost x (contains_either uses (at, object) (other, x) there)), is) where
    lost : (x : Object) → Contains uses (other, x) ⊎ (◌≡◌ {A = NodeRef × Object} (at, object) (other, x)) → ⊥
    lost x (inl before) = has x before
    lost x (inr same) = apart (ap (λ (p : NodeRef × Object). p.0) same)
  still other o apart (Some x, has, is) = (Some x, contains_more uses (at, object) (other, x) has, is)

  here : (o : Option NodeRef) → name_of object ≡ o → DenotesName more at o
  here o is = (Some object, contains_last uses (at, object), sym is)

  abbrev file_of : NodeRef → ℕ
  file_of n = n.file

  abbrev node_of : NodeRef → ℕ
  node_of n = n.node

  row_noted : (f : ℕ) (old new : List (Option NodeRef)) (end : ℕ) → f ≡ at.file → IsRowBy (DenotesName uses) f old end → NotesIn old new at.node (name_of object) → IsRowBy (DenotesName more) f new end
  row_noted f old new end same was notes = record {
    size = notes.size ∙ was.size;
    each = λ n o there. elim (notes.each n o there) [
      | inl (apart, before) ↦ still (place f n) o (λ one. apart (sym (ap node_of one))) (was.each n o before)
      | inr (is, name) ↦ subst (λ (x : NodeRef). DenotesName more x o) (sym (ap (λ (x : ℕ). place x n) same ∙ ap (λ (x : ℕ). place at.file x) is)) (here o name)
    ];
  }

  row_still : (f : ℕ) (row : List (Option NodeRef)) (end : ℕ) → (f ≡ at.file → ⊥) → IsRowBy (DenotesName uses) f row end → IsRowBy (DenotesName more) f row end
  row_still f row end apart was = record { size = was.size; each = λ n o there. still (place f n) o (λ one. apart (sym (ap file_of one))) (was.each n o there) }

  noted : (trees : List FileTree) (old new : List (Vec (Option NodeRef))) → AreDenoted uses trees old → Notes old new at.file at.node (name_of object) → AreDenoted more trees new
  noted trees old new was notes = record {
    size = notes.size ∙ was.size;
    each = λ f row there. elim (notes.each f row there) [
      | inl (apart, before) ↦ (let (tree, tree_is, is) = was.each f row before in (tree, tree_is, row_still f row.items (length tree.nodes) apart is))
      | inr (same, (own, before, cells)) ↦ (let (tree, tree_is, is) = was.each f own before in (tree, tree_is, row_noted f own.items row.items (length tree.nodes) same is cells))
    ];
  }

pub denoted_more : (uses : List (NodeRef × Object)) (trees : List FileTree) (old new : List (Vec (Option NodeRef))) (k : ℕ) (at : NodeRef) (object : Object) (name : Option NodeRef)
    → AreDenoted (take k uses) trees old → slice_get uses k ≡ Some (at, object) → name ≡ name_of object → Notes old new at.file at.node name → AreDenoted (take (k + 1) uses) trees new
denoted_more uses trees old new k at object name was there name_is notes =
    subst (λ (xs : List (NodeRef × Object)). AreDenoted xs trees new) (sym (take_at uses k (at, object) there))
    (noted (take k uses) at object trees old new was (subst (λ (x : Option NodeRef). Notes old new at.file at.node x) name_is notes))

pub denoted_all : (uses : List (NodeRef × Object)) (trees : List FileTree) (rows : List (Vec (Option NodeRef))) (k : ℕ) → length uses ≤ k → AreDenoted (take k uses) trees rows → AreDenoted uses trees rows
denoted_all uses trees rows k end was = subst (λ (xs : List (NodeRef × Object)). AreDenoted xs trees rows) (take_whole uses k end) was
