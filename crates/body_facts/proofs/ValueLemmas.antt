-- A value for each number, one more at a time.
use Rattle.std.proofs.Common.{◌≡◌, ℕ, zero, suc, ◌<◌, ◌≤◌, ◌+◌, List, [], ◌∷◌, ◌++◌, length, get_or, Option, Some, None, refl, sym, ap, ◌∙◌, subst, inl, inr, arith}
use Rattle.std.specs.List.{Contains}
use Rattle.std.proofs.lemmas.Option.{slice_get_within}
use Rattle.go_tree.specs.declared.tree.Node.{Node}
use Rattle.go_tree.specs.declared.tree.FileTree.{FileTree}
use Rattle.go_tree.specs.declared.tree.NodeKind.{NodeKind}
use Rattle.std.specs.Prelude.{slice_get, Bool, true}
use Rattle.node_values.specs.Trees.{IsTree, IsPart}
use Rattle.node_values.proofs.CaseLemmas.{before_or_at}
use Rattle.node_values.proofs.HandLemmas.{below_or_not, default_past}
use Rattle.label_uses.specs.Labels.{Heads, is_label, IsLabel, DenotesLabel}
use Rattle.body_facts.specs.LabelTables.{AreDenoted}
use Rattle.body_facts.specs.NameTables.{AreValues}

kept : {X : Type 0} (xs : List X) (y d : X) (k : ℕ) → k < length xs → get_or (xs ++ y ∷ []) k d ≡ get_or xs k d
kept [] y d k low = absurd (omega arith)
kept (x ∷ xs) y d zero low = refl
kept (x ∷ xs) y d (suc k) low = kept xs y d k (omega arith)

pushed : {X : Type 0} (xs : List X) (y d : X) → get_or (xs ++ y ∷ []) (length xs) d ≡ y
pushed [] y d = refl
pushed (x ∷ xs) y d = pushed xs y d

longer : {X : Type 0} (xs : List X) (y : X) → length (xs ++ y ∷ []) ≡ length xs + 1
longer [] y = refl
longer (x ∷ xs) y = let e = longer xs y in omega arith

pub no_values : {X : Type 0} (value : ℕ → X) (top : X) (found : List X) → found ≡ [] → AreValues value top 0 found
no_values {X} value top found is = subst (λ (l : List X). AreValues value top 0 l) (sym is) record { size = refl; each = λ n low. absurd (omega arith) }

pub value_more : {X : Type 0} (value : ℕ → X) (top v : X) (n : ℕ) (old new : List X) → new ≡ old ++ v ∷ [] → v ≡ value n → AreValues value top n old → AreValues value top (n + 1) new
value_more {X} value top v n old new is told was = subst (λ (l : List X). AreValues value top (n + 1) l) (sym is) record {
  size = longer old v ∙ (let s = was.size in omega arith);
  each = λ m less. elim (before_or_at m n less) [
    | inl before ↦ kept old v top m (let s = was.size in omega arith) ∙ was.each m before
    | inr same ↦ ap (λ k. get_or (old ++ v ∷ []) k top) (same ∙ sym was.size) ∙ (pushed old v top ∙ (told ∙ ap value (sym same)))
  ];
}

pub value_all : {X : Type 0} (value : ℕ → X) (top : X) (n count : ℕ) (found : List X) → n ≡ count → AreValues value top n found → AreValues value top count found
value_all value top n count found same are = subst (λ k. AreValues value top k found) same are

-- ---- labels are nodes

first_part : (parts : List ℕ) (l : ℕ) → slice_get parts 0 ≡ Some l → Contains parts l
first_part [] l e = absurd cc
first_part (x ∷ xs) l e = (0, omega arith, (let f : Some x ≡ Some l = e in cc))

label_low : (tree : FileTree) (l : ℕ) → IsTree tree.nodes → Heads is_label tree.nodes l → l < length tree.nodes
label_low tree l is (p, node, there, kind, first) =
    let a = is.after p l (node, there, first_part node.parts l first) in let b = slice_get_within tree.nodes p node there in omega arith

pub denoted_low : (bytes : List ℕ) (tree : FileTree) (found : List (Option ℕ)) → IsTree tree.nodes → AreDenoted bytes tree found
    → (m l : ℕ) → get_or found m None ≡ Some l → l < length tree.nodes
denoted_low bytes tree found is are m l e = elim (below_or_not m (length tree.nodes)) [
  | inl low ↦ (let d = (are.each m l low).0 e in label_low tree l is d.2.declared.0)
  | inr past ↦ absurd (let f : None ≡ Some l = sym (default_past found m None (let s = are.size in omega arith)) ∙ e in cc)
]
