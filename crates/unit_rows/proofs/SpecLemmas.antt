-- No node behind the last specification of a file belongs to one.
use Rattle.std.proofs.Common.{◌≡◌, ℕ, ◌+◌, ◌<◌, ◌≤◌, ◌⊎◌, List, [], ◌∷◌, ◌++◌, length, slice_get, slice_index_or, option_and_then, Option, Some, None, refl, sym, ap, ◌∙◌, subst, inl, inr, arith}
use Rattle.std.proofs.lemmas.List.{length_push}
use Rattle.std.proofs.lemmas.Option.{slice_get_past, slice_get_within, slice_get-get_or}
use Rattle.go_tree.specs.declared.tree.FileTree.{FileTree}
use Rattle.go_tree.specs.declared.tree.Node.{Node}
use Rattle.go_tree.specs.declared.tree.NodeRef.{NodeRef}
use Rattle.const_tree.specs.declared.constant.Spec.{Spec}
use Rattle.const_tree.specs.Constants.{specs_in, first_from, AreBefore}
use Rattle.const_tree.proofs.ListLemmas.{first_none}
use Rattle.unit_read.specs.Entries.{stored, cell_in, entry}
use Rattle.unit_read.proofs.EnvironmentLemmas.{same_some, push_cases}
use Rattle.unit_rows.specs.Rows.{spec_of, spec_for, AreSpecs}
use Rattle.unit_rows.proofs.ReadLemmas.{none_past}

apart : (a b : ℕ) → (a < b) ⊎ (b ≤ a)
apart a b = grind arith

split : (k n : ℕ) → k < n + 1 → (k < n) ⊎ (k ≡ n)
split k n h = grind arith

pub ends_more : (specs : List Spec) (i end new : ℕ) (s : Spec) → AreBefore specs i end → slice_get specs i ≡ Some s → end ≤ new → s.node < new → AreBefore specs (i + 1) new
ends_more specs i end new s before here wider behind j low x at = elim (split j i low) [
  | inl less ↦ let under : x.node < end = before j less x at in omega arith
  | inr same ↦ let one : s ≡ x = same_some (slice_get specs i) s x here (ap (slice_get specs) (sym same) ∙ at) in subst (λ (y : Spec). y.node < new) one behind
]

pub short_row : (tree : FileTree) (specs : List Spec) (row : List (Option Spec)) (count end n : ℕ) → specs ≡ specs_in tree.nodes → AreBefore specs (length specs) end → count ≤ length tree.nodes
    → ((k : ℕ) → k < length tree.nodes → count ≤ k → end ≤ k) → length row ≡ count → ((k : ℕ) → k < count → slice_index_or row k None ≡ first_from k specs) → cell_in row n ≡ spec_of tree n
short_row tree specs row count end n all before within rest size each = by (slice_get tree.nodes n) refl where
  gap : count ≤ n → cell_in row n ≡ None
  gap past = ap (option_and_then (λ (o : Option Spec). o)) (slice_get_past row n (omega (arith, size)))

  in_row : n < count → cell_in row n ≡ first_from n (specs_in tree.nodes)
  in_row low = ap (option_and_then (λ (o : Option Spec). o)) (slice_get-get_or row n None (omega (arith, size))) ∙ (each n low ∙ ap (first_from n) all)

  behind : n < length tree.nodes → count ≤ n → first_from n (specs_in tree.nodes) ≡ None
  behind low past =
      let high : end ≤ n = rest n low past in
      ap (first_from n) (sym all) ∙ first_none specs (length specs) n (λ j less s at. let under : s.node < end = before j less s at in omega arith) (omega arith)

  by : (o : Option Node) → slice_get tree.nodes n ≡ o → cell_in row n ≡ option_and_then (λ (node : Node). first_from n (specs_in tree.nodes)) o
  by None there = gap (let past = none_past tree.nodes n there in omega arith)
  by (Some node) there = elim (apart n count) [
    | inl low ↦ in_row low
    | inr past ↦ gap past ∙ sym (behind (slice_get_within tree.nodes n node there) past)
  ]

pub specs_more : (trees : List FileTree) (table new : List (List (ℕ × Spec))) (k : ℕ) (tree : FileTree) (e : List (ℕ × Spec))
    → AreSpecs trees table k → slice_get trees k ≡ Some tree → ((n : ℕ) → stored e n ≡ spec_of tree n) → new ≡ table ++ e ∷ [] → AreSpecs trees new (k + 1)
specs_more trees table new k tree e was at is now = record {
  size = ap length now ∙ (length_push table e ∙ ap (λ n. n + 1) was.size);
  each = λ f t x t_at x_at n. elim (push_cases table e x f (ap (λ (xs : List (List (ℕ × Spec))). slice_get xs f) (sym now) ∙ x_at)) [
    | inl before ↦ was.each f t x t_at before n
    | inr (f_is, x_is) ↦
        let one : tree ≡ t = same_some (slice_get trees k) tree t at (ap (slice_get trees) (sym (f_is ∙ was.size)) ∙ t_at) in
        ap (λ (y : List (ℕ × Spec)). stored y n) x_is ∙ (is n ∙ ap (λ (y : FileTree). spec_of y n) one)
  ];
}

pub specs_all : (trees : List FileTree) (table : List (List (ℕ × Spec))) (at : NodeRef) → AreSpecs trees table (length trees) → entry table at ≡ spec_for trees at
specs_all trees table at is = by (slice_get trees at.file) (slice_get table at.file) refl refl where
  by : (t : Option FileTree) (e : Option (List (ℕ × Spec))) → slice_get trees at.file ≡ t → slice_get table at.file ≡ e
      → option_and_then (λ (row : List (ℕ × Spec)). stored row at.node) e ≡ option_and_then (λ (tree : FileTree). spec_of tree at.node) t
  by None None t_is e_is = refl
  by (Some tree) (Some e) t_is e_is = is.each at.file tree e t_is e_is at.node
  by None (Some e) t_is e_is = absurd (let low : at.file < length table = slice_get_within table at.file e e_is in let size = is.size in let past = none_past trees at.file t_is in omega arith)
  by (Some tree) None t_is e_is = absurd (let low : at.file < length trees = slice_get_within trees at.file tree t_is in let size = is.size in let past = none_past table at.file e_is in omega arith)
