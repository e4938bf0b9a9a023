-- Files, functions and names, one more at a time.
use Rattle.std.proofs.Common.{◌≡◌, ◌↔◌, ◌⊎◌, ◌<◌, ◌++◌, ◌+◌, ℕ, zero, suc, Bool, true, List, [], ◌∷◌, map, length, Option, Some, slice_get, refl, sym, ap, ◌∙◌, subst, inl, inr, arith}
use Rattle.std.specs.List.{Contains}
use Rattle.std.proofs.lemmas.Bool.{cases_eq}
use Rattle.std.proofs.lemmas.List.{length_push}
use Rattle.std.proofs.lemmas.Option.{slice_get_within}
use Rattle.gv_base.proofs.Lists.{push_cases}
use Rattle.fact_codec.specs.declared.units.Never.{Never}
use Rattle.flow.specs.Search.{IsGraph}
use Rattle.go_tree.specs.declared.tree.FileTree.{FileTree}
use Rattle.least.specs.Numbered.{is_marked}
use Rattle.least.specs.Work.{set_of}
use Rattle.never_returns.specs.Bodies.{AreGraphs}
use Rattle.never_returns.specs.declared.files.FileFlow.{FileFlow}
use Rattle.never_returns.specs.declared.files.Function.{Function}
use Rattle.own_functions.specs.Functions.{nth_name, first_of}
use Rattle.typed_marks.specs.declared.item.Item.{Item}
use Rattle.typed_marks.specs.Meanings.{Meaning}
use Rattle.unit_read.specs.Units.{Unit, tree_at}
use Rattle.vet_never.specs.declared.calls.Known.{Known}
use Rattle.vet_never.specs.declared.files.FileKnown.{FileKnown}
use Rattle.vet_never.specs.declared.told.Told.{Told}
use Rattle.vet_never.specs.Knowing.{IsFileKnown, AreFilesKnown, IsLent, AreLent, IsFunction, AreFunctions, AreFlaggedNames}
use Rattle.vet_never.specs.Never.{fact_name}

-- ---- files

pub there_at : {X : Type 0} (xs : List X) (i : ℕ) → i < length xs → (x : X) × (slice_get xs i ≡ Some x)
there_at [] i low = absurd (omega arith)
there_at (x ∷ xs) zero low = (x, refl)
there_at (x ∷ xs) (suc i) low = there_at xs i (omega arith)

module _ (u : Unit) (marks : Item → Meaning) (k : Known) where
  pub no_files : (list : List FileKnown) → list ≡ [] → AreFilesKnown u marks k 0 list
  no_files list e = subst (λ (l : List FileKnown). AreFilesKnown u marks k 0 l) (sym e) (record { rows = []; size = refl; rows_size = refl; each = λ f tree x row there at here. absurd (cc) })

  pub file_more : (n : ℕ) (list new : List FileKnown) (one : FileKnown) → AreFilesKnown u marks k n list → (row : List Told) × ((tree : FileTree) → tree_at u n ≡ Some tree → IsFileKnown u marks k n tree row one)
      → new ≡ list ++ one ∷ [] → AreFilesKnown u marks k (n + 1) new
  file_more n list new one was (last_row, is) now = subst (λ (l : List FileKnown). AreFilesKnown u marks k (n + 1) l) (sym now) (record {
    rows = was.rows ++ last_row ∷ [];
    size = length_push list one ∙ ap (λ m. m + 1) was.size;
    rows_size = length_push was.rows last_row ∙ ap (λ m. m + 1) was.rows_size;
    each = λ f tree x row there at here. elim (push_cases list one x f at) [
      | inl before ↦ elim (push_cases was.rows last_row row f here) [
        | inl row_before ↦ was.each f tree x row there before row_before
        | inr (row_last, same_row) ↦ absurd (let low = slice_get_within list f x before in let size = was.size in let rows_size = was.rows_size in omega (arith, low, size, rows_size, row_last))
      ]
      | inr (last, same) ↦ elim (push_cases was.rows last_row row f here) [
        | inl row_before ↦ absurd (let low = slice_get_within was.rows f row row_before in let size = was.size in let rows_size = was.rows_size in omega (arith, low, size, rows_size, last))
        | inr (row_last, same_row) ↦ (
            let place : f ≡ n = last ∙ was.size in
            subst (λ (y : FileKnown). IsFileKnown u marks k f tree row y) same
            (subst (λ (r : List Told). IsFileKnown u marks k f tree r one) same_row
            (subst (λ (m : ℕ). IsFileKnown u marks k m tree last_row one) (sym place) (is tree (ap (tree_at u) (sym place) ∙ there))))
            )
      ]
    ];
  })

  pub all_files : (n total : ℕ) (list : List FileKnown) → n ≡ total → AreFilesKnown u marks k n list → AreFilesKnown u marks k total list
  all_files n total list e are = subst (λ (m : ℕ). AreFilesKnown u marks k m list) e are

  -- ---- as they are handed on

  pub graphs_are : (list : List FileKnown) (flows : List FileFlow) → AreFilesKnown u marks k (length u.trees) list → AreLent u.trees list (length u.trees) flows → AreGraphs flows
  graphs_are list flows are lent f x at =
      let l = lent.each f x at in
      let (row, row_there) = there_at are.rows f (let low = slice_get_within list f l.known l.known_there in let size = are.size in let rows_size = are.rows_size in omega (arith, low, size, rows_size)) in
      let known = are.each f l.tree l.known row l.tree_there l.known_there row_there in
      subst (λ (t : FileTree). IsGraph t x.labels.now x.graph.now) (sym l.tree_is)
      (subst (λ (labels : List (Option ℕ)). IsGraph l.tree labels x.graph.now) (sym l.labels_are) (subst (λ (g : List (List ℕ)). IsGraph l.tree l.known.labels.items g) (sym l.graph_is) known.graph))

pub none_lent : (trees : List FileTree) (list : List FileKnown) (flows : List FileFlow) → flows ≡ [] → AreLent trees list 0 flows
none_lent trees list flows e = subst (λ (l : List FileFlow). AreLent trees list 0 l) (sym e) (record { size = refl; each = λ f x at. absurd (cc) })

pub lent_more : (trees : List FileTree) (list : List FileKnown) (n : ℕ) (flows new : List FileFlow) (one : FileFlow) → AreLent trees list n flows → IsLent trees list n one → new ≡ flows ++ one ∷ [] → AreLent trees list (n + 1) new
lent_more trees list n flows new one was is now = subst (λ (l : List FileFlow). AreLent trees list (n + 1) l) (sym now) (record {
  size = length_push flows one ∙ ap (λ m. m + 1) was.size;
  each = λ f x at. elim (push_cases flows one x f at) [
    | inl before ↦ was.each f x before
    | inr (last, same) ↦ subst (λ (y : FileFlow). IsLent trees list f y) same (subst (λ (m : ℕ). IsLent trees list m one) (sym (last ∙ was.size)) is)
  ];
})

pub all_lent : (trees : List FileTree) (list : List FileKnown) (n total : ℕ) (flows : List FileFlow) → n ≡ total → AreLent trees list n flows → AreLent trees list total flows
all_lent trees list n total flows e are = subst (λ (m : ℕ). AreLent trees list m flows) e are

-- ---- functions

pub no_functions : (u : Unit) (list : List Function) → list ≡ [] → AreFunctions u 0 list
no_functions u list e = subst (λ (l : List Function). AreFunctions u 0 l) (sym e) (record { size = refl; each = λ i g at. absurd (cc) })

pub function_more : (u : Unit) (n : ℕ) (list new : List Function) (g : Function) → AreFunctions u n list → IsFunction u n g → new ≡ list ++ g ∷ [] → AreFunctions u (n + 1) new
function_more u n list new g was is now = subst (λ (l : List Function). AreFunctions u (n + 1) l) (sym now) (record {
  size = length_push list g ∙ ap (λ m. m + 1) was.size;
  each = λ i x at. elim (push_cases list g x i at) [
    | inl before ↦ was.each i x before
    | inr (last, same) ↦ subst (λ (y : Function). IsFunction u i y) same (subst (λ (m : ℕ). IsFunction u m g) (sym (last ∙ was.size)) is)
  ];
})

pub all_functions : (u : Unit) (n total : ℕ) (list : List Function) → n ≡ total → AreFunctions u n list → AreFunctions u total list
all_functions u n total list e are = subst (λ (m : ℕ). AreFunctions u m list) e are

-- ---- facts

none_in : {X : Type 0} (b : X) → Contains [] b → ⊥
none_in b (k, low, e) = omega arith

pub no_names : (u : Unit) (flags : List Bool) (table : List (List ℕ × Never)) → table ≡ [] → AreFlaggedNames u flags 0 table
no_names u flags table e = subst (λ (l : List (List ℕ × Never)). AreFlaggedNames u flags 0 l) (sym e) (record { each = λ name. (λ there. absurd (none_in name there), λ (i, low, is, flag). absurd (omega arith)) })

pub name_more : (u : Unit) (flags : List Bool) (n : ℕ) (old new : List (List ℕ × Never)) → AreFlaggedNames u flags n old
    → ((q : List ℕ) → Contains (map fact_name new) q ↔ (Contains (map fact_name old) q ⊎ ((is_marked (set_of flags) (first_of u (nth_name u n)) ≡ true) × (q ≡ nth_name u n)))) → AreFlaggedNames u flags (n + 1) new
name_more u flags n old new was put = record {
  each = λ name. (
    λ there. elim ((put name).0 there) [
      | inl before ↦ (let (i, low, is, flag) = (was.each name).0 before in (i, omega arith, is, flag))
      | inr (flag, same) ↦ (n, omega arith, sym same, subst (λ (q : List ℕ). is_marked (set_of flags) (first_of u q) ≡ true) (sym same) flag)
    ],
    λ (i, low, is, flag). elim (cases_eq i n) [
      | inl same ↦ (
          let here : nth_name u n ≡ name = ap (nth_name u) (sym same) ∙ is in
          (put name).1 (inr (subst (λ (q : List ℕ). is_marked (set_of flags) (first_of u q) ≡ true) (sym here) flag, sym here))
          )
      | inr other ↦ (put name).1 (inl ((was.each name).1 (i, below i n low other, is, flag)))
    ],
  );
} where
  below : (k m : ℕ) → k < m + 1 → (k ≡ m → ⊥) → k < m
  below k m low other = grind arith

pub all_names : (u : Unit) (flags : List Bool) (n total : ℕ) (table : List (List ℕ × Never)) → n ≡ total → AreFlaggedNames u flags n table → AreFlaggedNames u flags total table
all_names u flags n total table e are = subst (λ (m : ℕ). AreFlaggedNames u flags m table) e are
