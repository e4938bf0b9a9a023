-- Rows of flags of what names struct types of other packages.
use Rattle.std.proofs.Common.{◌≡◌, ℕ, zero, suc, ◌+◌, ◌<◌, ◌≤◌, ◌⊎◌, Bool, false, List, [], ◌∷◌, ◌++◌, length, slice_get, slice_index_or, Option, Some, None, refl, sym, ap, ◌∙◌, subst, inl, inr, arith}
use Rattle.std.proofs.Math.Path.{fun_ext}
use Rattle.std.specs.Global.{Vec}
use Rattle.std.specs.Option.{option_map_or}
use Rattle.std.proofs.lemmas.Bool.{cases_lt}
use Rattle.std.proofs.lemmas.List.{length_push}
use Rattle.std.proofs.lemmas.Option.{slice_get_within}
use Rattle.go_tree.specs.declared.tree.FileTree.{FileTree}
use Rattle.go_tree.specs.declared.tree.Node.{Node}
use Rattle.go_tree.specs.declared.tree.NodeRef.{NodeRef}
use Rattle.object_order.specs.Spots.{place}
use Rattle.package_faces.specs.declared.interface.Exported.{Exported}
use Rattle.package_needs.specs.Keys.{flagged}
use Rattle.type_model.specs.Declarations.{Declarations}
use Rattle.type_model.specs.GoTypes.{GoType}
use Rattle.type_model.specs.declared.term.TypeName.{TypeName}
use Rattle.typed_tree.specs.Meanings.{Meaning}
use Rattle.unit_read.specs.Exports.{use_in, uses_in}
use Rattle.unit_read.specs.Units.{Unit, nodes_of, node_at}
use Rattle.unit_read.proofs.EnvironmentLemmas.{same_some, push_cases}
use Rattle.unit_rows.proofs.ListLemmas.{got}
use Rattle.unit_rows.proofs.ReadLemmas.{none_past}
use Rattle.check_pkg.specs.Elsewhere.{is_struct_use, names_struct, struct_elsewhere, IsFlagRow, AreFlagRows}

-- what an import's package has for a name, over the table by whose numbers it is given
pub struct_seen : (types other : List GoType) (ds base : Declarations) (e : Option Exported) (m : Option Meaning) (b : Bool) → other ≡ types → ((name : TypeName) → ds name ≡ base name) → uses_in other e ≡ m
    → b ≡ option_map_or (λ (x : Exported). is_struct_use ds (use_in types x)) e false → b ≡ option_map_or (is_struct_use base) m false
struct_seen types other ds base e m b same says is b_is =
    b_is
    ∙ (ap (λ (f : Declarations). option_map_or (λ (x : Exported). is_struct_use f (use_in types x)) e false) (fun_ext says)
    ∙ (ap (λ (ts : List GoType). option_map_or (λ (x : Exported). is_struct_use base (use_in ts x)) e false) (sym same)
    ∙ (by e ∙ ap (λ (o : Option Meaning). option_map_or (is_struct_use base) o false) is))) where
      by : (o : Option Exported) → option_map_or (λ (x : Exported). is_struct_use base (use_in other x)) o false ≡ option_map_or (is_struct_use base) (uses_in other o) false
      by None = refl
      by (Some x) = refl

split : (i k : ℕ) → i < k + 1 → (i < k) ⊎ (i ≡ k)
split i k h = grind arith

front : {X : Type 0} (xs : List X) (y d : X) (k : ℕ) → k < length xs → slice_index_or (xs ++ (y ∷ [])) k d ≡ slice_index_or xs k d
front [] y d k low = absurd (omega arith)
front (x ∷ xs) y d zero low = refl
front (x ∷ xs) y d (suc k) low = front xs y d k (omega arith)

last : {X : Type 0} (xs : List X) (y d : X) (k : ℕ) → k ≡ length xs → slice_index_or (xs ++ (y ∷ [])) k d ≡ y
last [] y d zero is = refl
last [] y d (suc k) is = absurd (omega arith)
last (x ∷ xs) y d zero is = absurd (omega arith)
last (x ∷ xs) y d (suc k) is = last xs y d k (omega arith)

pub row_none : (says : ℕ → Bool) (row : List Bool) → row ≡ [] → IsFlagRow says row 0
row_none says row bare = record { size = ap length bare; each = λ n low. absurd (omega arith) }

pub row_more : (says : ℕ → Bool) (row new : List Bool) (n : ℕ) (b : Bool) → IsFlagRow says row n → b ≡ says n → new ≡ row ++ (b ∷ []) → IsFlagRow says new (n + 1)
row_more says row new n b was is now = record {
  size = ap length now ∙ (length_push row b ∙ ap (λ k. k + 1) was.size);
  each = λ k low. ap (λ (xs : List Bool). slice_index_or xs k false) now ∙ (elim (split k n low) [
    | inl less ↦ front row b false k (let s = was.size in omega arith) ∙ was.each k less
    | inr same ↦ last row b false k (let s = was.size in omega arith) ∙ (is ∙ ap says (sym same))
  ]);
}

pub rows_none : (says : NodeRef → Bool) (trees : List FileTree) (rows : List (Vec Bool)) → rows ≡ [] → AreFlagRows says trees rows 0
rows_none says trees rows bare = subst (λ (x : List (Vec Bool)). AreFlagRows says trees x 0) (sym bare) (record { size = refl; each = λ f tree row at there. absurd cc })

pub rows_more : (says : NodeRef → Bool) (trees : List FileTree) (rows new : List (Vec Bool)) (k : ℕ) (tree : FileTree) (row : Vec Bool)
    → AreFlagRows says trees rows k → slice_get trees k ≡ Some tree → IsFlagRow (λ n. says (place k n)) row.items (length tree.nodes) → new ≡ rows ++ (row ∷ []) → AreFlagRows says trees new (k + 1)
rows_more says trees rows new k tree row was at is now = record {
  size = ap length now ∙ (length_push rows row ∙ ap (λ n. n + 1) was.size);
  each = λ f t r t_at r_at. elim (push_cases rows row r f (ap (λ (xs : List (Vec Bool)). slice_get xs f) (sym now) ∙ r_at)) [
    | inl before ↦ was.each f t r t_at before
    | inr (f_is, r_is) ↦
        let here : k ≡ f = sym (f_is ∙ was.size) in
        let one : tree ≡ t = same_some (slice_get trees k) tree t at (ap (slice_get trees) here ∙ t_at) in
        subst (λ (x : ℕ). IsFlagRow (λ n. says (place x n)) r.items (length t.nodes)) here
        (subst (λ (x : FileTree). IsFlagRow (λ n. says (place k n)) r.items (length x.nodes)) one
        (subst (λ (x : Vec Bool). IsFlagRow (λ n. says (place k n)) x.items (length tree.nodes)) (sym r_is) is))
  ];
}

-- ---- what the rows say

module _ (u : Unit) (rows : List (Vec Bool)) (are : AreFlagRows (struct_elsewhere u) u.trees rows (length u.trees)) where
  -- nothing is said of what isn't there
  absent : (at : NodeRef) → node_at u at ≡ None → struct_elsewhere u at ≡ false
  absent at none = ap (λ (o : Option Node). option_map_or (names_struct u at) o false) none

  in_row : (at : NodeRef) (tree : FileTree) (row : Vec Bool) → slice_get u.trees at.file ≡ Some tree → IsFlagRow (λ n. struct_elsewhere u (place at.file n)) row.items (length tree.nodes)
      → slice_index_or row.items at.node false ≡ struct_elsewhere u at
  in_row at tree row there is = elim (cases_lt at.node (length tree.nodes)) [
    | inl low ↦ is.each at.node low
    | inr high ↦ past row.items at.node false (let s = is.size in omega (arith, s, high)) ∙ sym (absent at (ap (λ (o : Option FileTree). slice_get (nodes_of o) at.node) there ∙ gone tree.nodes at.node high))
  ] where
    past : (xs : List Bool) (k : ℕ) (d : Bool) → length xs ≤ k → slice_index_or xs k d ≡ d
    past [] k d high = refl
    past (x ∷ xs) zero d high = absurd (omega arith)
    past (x ∷ xs) (suc k) d high = past xs k d (omega arith)

    gone : (xs : List Node) (k : ℕ) → length xs ≤ k → slice_get xs k ≡ None
    gone [] k high = refl
    gone (x ∷ xs) zero high = absurd (omega arith)
    gone (x ∷ xs) (suc k) high = gone xs k (omega arith)

  by_tree : (at : NodeRef) (o : Option FileTree) → slice_get u.trees at.file ≡ o → flagged rows at ≡ struct_elsewhere u at
  by_tree at (Some tree) there =
      let (row, row_at) = got rows at.file (let low = slice_get_within u.trees at.file tree there in let s = are.size in omega (arith, low, s)) in
      ap (λ (o : Option (Vec Bool)). option_map_or (λ (r : Vec Bool). slice_index_or r.items at.node false) o false) row_at
      ∙ in_row at tree row there (are.each at.file tree row there row_at)
  by_tree at None gone = by (slice_get rows at.file) refl where
    by : (o : Option (Vec Bool)) → slice_get rows at.file ≡ o → flagged rows at ≡ struct_elsewhere u at
    by None none = ap (λ (o : Option (Vec Bool)). option_map_or (λ (r : Vec Bool). slice_index_or r.items at.node false) o false) none
        ∙ sym (absent at (ap (λ (o : Option FileTree). slice_get (nodes_of o) at.node) gone))
    by (Some row) there = absurd (let low = slice_get_within rows at.file row there in let past = none_past u.trees at.file gone in let s = are.size in omega (arith, low, past, s))

  -- the rows flag what names a struct type of another package, and nothing else
  pub flags_are : flagged rows ≡ struct_elsewhere u
  flags_are = fun_ext (λ at. by_tree at (slice_get u.trees at.file) refl)
