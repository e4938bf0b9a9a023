-- Tables of rows: one cell more, and one file more.
use Rattle.std.proofs.Common.{◌≡◌, ℕ, zero, suc, ◌+◌, ◌<◌, ◌≤◌, ◌⊎◌, List, [], ◌∷◌, ◌++◌, length, slice_get, slice_index_or, Option, Some, None, refl, sym, ap, ◌∙◌, subst, inl, inr, arith}
use Rattle.std.specs.Global.{Vec}
use Rattle.std.proofs.lemmas.List.{length_push}
use Rattle.std.proofs.lemmas.Option.{slice_get-get_or}
use Rattle.go_tree.specs.declared.tree.FileTree.{FileTree}
use Rattle.unit_read.specs.Rows.{IsRow, AreRows}
use Rattle.unit_read.proofs.EnvironmentLemmas.{same_some, push_cases}

split : (i k : ℕ) → i < k + 1 → (i < k) ⊎ (i ≡ k)
split i k h = grind arith

front : {X : Type 0} (xs : List X) (y d : X) (k : ℕ) → k < length xs → slice_index_or (xs ++ (y ∷ [])) k d ≡ slice_index_or xs k d
front [] y d k low = absurd (omega arith)
front (x ∷ xs) y d zero low = refl
front (x ∷ xs) y d (suc k) low = front xs y d k (omega arith)

last : {X : Type 0} (xs : List X) (y d : X) (k : ℕ) → k ≡ length xs → slice_index_or (xs ++ (y ∷ [])) k d ≡ y
last [] y d zero is = refl
last [] y d (suc k) is = absurd (omega arith)
last (x ∷ xs) y d zero is = absurd (omega arith)
last (x ∷ xs) y d (suc k) is = last xs y d k (omega arith)

-- the item of a loop over a list
pub item_is : {X : Type 0} (xs : List X) (k : ℕ) (x : X) → k < length xs → x ≡ slice_index_or xs k x → slice_get xs k ≡ Some x
item_is xs k x low is = slice_get-get_or xs k x low ∙ ap Some (sym is)

-- ---- one row

pub row_none : {X : Type 0} (says : ℕ → Option X) (row : List (Option X)) → row ≡ [] → IsRow says row 0
row_none says row bare = record { size = ap length bare; each = λ n low. absurd (omega arith) }

pub row_more : {X : Type 0} (says : ℕ → Option X) (row new : List (Option X)) (n : ℕ) (o : Option X) → IsRow says row n → o ≡ says n → new ≡ row ++ (o ∷ []) → IsRow says new (n + 1)
row_more {X} says row new n o was is now = record {
  size = ap length now ∙ (length_push row o ∙ ap (λ k. k + 1) was.size);
  each = λ k low. ap (λ (xs : List (Option X)). slice_index_or xs k None) now ∙ (elim (split k n low) [
    | inl less ↦ front row o None k (let s = was.size in omega arith) ∙ was.each k less
    | inr same ↦ last row o None k (let s = was.size in omega arith) ∙ (is ∙ ap says (sym same))
  ]);
}

-- ---- all rows

pub rows_none : {X : Type 0} (says : ℕ → FileTree → ℕ → Option X) (trees : List FileTree) (rows : List (Vec (Option X))) → rows ≡ [] → AreRows says trees rows 0
rows_none {X} says trees rows bare = subst (λ (x : List (Vec (Option X))). AreRows says trees x 0) (sym bare) (record { size = refl; each = λ f tree row at there. absurd cc })

pub rows_more : {X : Type 0} (says : ℕ → FileTree → ℕ → Option X) (trees : List FileTree) (rows new : List (Vec (Option X))) (k : ℕ) (tree : FileTree) (row : Vec (Option X))
    → AreRows says trees rows k → slice_get trees k ≡ Some tree → IsRow (says k tree) row.items (length tree.nodes) → new ≡ rows ++ (row ∷ []) → AreRows says trees new (k + 1)
rows_more {X} says trees rows new k tree row was at is now = record {
  size = ap length now ∙ (length_push rows row ∙ ap (λ n. n + 1) was.size);
  each = λ f t r t_at r_at. elim (push_cases rows row r f (ap (λ (xs : List (Vec (Option X))). slice_get xs f) (sym now) ∙ r_at)) [
    | inl before ↦ was.each f t r t_at before
    | inr (f_is, r_is) ↦
        let here : k ≡ f = sym (f_is ∙ was.size) in
        let one : tree ≡ t = same_some (slice_get trees k) tree t at (ap (slice_get trees) here ∙ t_at) in
        subst (λ (x : ℕ). IsRow (says x t) r.items (length t.nodes)) here
        (subst (λ (x : FileTree). IsRow (says k x) r.items (length x.nodes)) one
        (subst (λ (x : Vec (Option X)). IsRow (says k tree) x.items (length tree.nodes)) (sym r_is) is))
  ];
}
