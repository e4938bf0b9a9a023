-- What nodes mention, file by file.
use Rattle.std.proofs.Common.{◌≡◌, ℕ, ◌+◌, ◌<◌, ◌⊎◌, Bool, List, [], ◌∷◌, ◌++◌, length, slice_get, Option, Some, None, option_and_then, refl, sym, ap, ◌∙◌, subst, inl, inr, arith}
use Rattle.std.specs.Option.{option_map_or}
use Rattle.std.specs.Global.{Vec}
use Rattle.std.proofs.lemmas.List.{length-append}
use Rattle.std.proofs.lemmas.Bool.{cases_lt}
use Rattle.std.proofs.lemmas.Option.{slice_get_within, slice_get_past}
use Rattle.go_tree.specs.declared.tree.FileTree.{FileTree}
use Rattle.go_tree.specs.declared.tree.Node.{Node}
use Rattle.go_tree.specs.declared.tree.NodeRef.{NodeRef}
use Rattle.object_order.specs.Spots.{World, place}
use Rattle.object_order.specs.Views.{node_in, meant_in, itself}
use Rattle.package_needs.specs.Keys.{above_in, up, number_at, AreAbove, IsMentioned, IsRowBy, AreMentions}
use Rattle.gv_base.proofs.Lists.{get_front, get_last, got, same_some, split}

-- ---- one row

pub row_none : (says : NodeRef → Option NodeRef → Type 0) (file : ℕ) (row : List (Option NodeRef)) → row ≡ [] → IsRowBy says file row 0
row_none says file row bare = subst (λ (x : List (Option NodeRef)). IsRowBy says file x 0) (sym bare) (record { size = refl; each = λ n o at. absurd (cc) })

pub row_more : (says : NodeRef → Option NodeRef → Type 0) (file n : ℕ) (row new : List (Option NodeRef)) (o : Option NodeRef) → IsRowBy says file row n → says (place file n) o
    → new ≡ row ++ (o ∷ []) → IsRowBy says file new (n + 1)
row_more says file n row new o was is now = subst (λ (x : List (Option NodeRef)). IsRowBy says file x (n + 1)) (sym now) (record {
  size = (let s = was.size in omega (arith, s, length-append row (o ∷ [])));
  each = λ m p at. elim (split m n (let h = slice_get_within (row ++ (o ∷ [])) m p at in let s = was.size in omega (arith, h, s, length-append row (o ∷ [])))) [
    | inl low ↦ was.each m p (sym (get_front row o m (let s = was.size in omega (arith, s, low))) ∙ at)
    | inr same ↦ subst (λ (x : ℕ). says (place file x) p) (sym same)
        (subst (λ (x : Option NodeRef). says (place file n) x) (same_some (slice_get (row ++ (o ∷ [])) m) o p (get_last row o m (let s = was.size in omega (arith, s, same))) at) is)
  ];
})

-- ---- all rows

-- the rows of the first few files
pub record Rows (says : NodeRef → Option NodeRef → Type 0) (trees : List FileTree) (rows : List (Vec (Option NodeRef))) (k : ℕ) : Type 0 where
  pub size : length rows ≡ k
  pub each : (f : ℕ) (row : Vec (Option NodeRef)) → slice_get rows f ≡ Some row → (tree : FileTree) × (slice_get trees f ≡ Some tree) × IsRowBy says f row.items (length tree.nodes)

pub rows_none : (says : NodeRef → Option NodeRef → Type 0) (trees : List FileTree) (rows : List (Vec (Option NodeRef))) → rows ≡ [] → Rows says trees rows 0
rows_none says trees rows bare = subst (λ (x : List (Vec (Option NodeRef))). Rows says trees x 0) (sym bare) (record { size = refl; each = λ f row at. absurd (cc) })

pub rows_more : (says : NodeRef → Option NodeRef → Type 0) (trees : List FileTree) (rows new : List (Vec (Option NodeRef))) (k : ℕ) (tree : FileTree) (row : Vec (Option NodeRef)) → Rows says trees rows k → slice_get trees k ≡ Some tree
    → IsRowBy says k row.items (length tree.nodes) → new ≡ rows ++ (row ∷ []) → Rows says trees new (k + 1)
rows_more says trees rows new k tree row was at is now = subst (λ (x : List (Vec (Option NodeRef))). Rows says trees x (k + 1)) (sym now) (record {
  size = (let s = was.size in omega (arith, s, length-append rows (row ∷ [])));
  each = λ f r f_at. elim (split f k (let h = slice_get_within (rows ++ (row ∷ [])) f r f_at in let s = was.size in omega (arith, h, s, length-append rows (row ∷ [])))) [
    | inl low ↦ was.each f r (sym (get_front rows row f (let s = was.size in omega (arith, s, low))) ∙ f_at)
    | inr same ↦ (
      tree,
      ap (λ x. slice_get trees x) same ∙ at,
      subst (λ (x : ℕ). IsRowBy says x r.items (length tree.nodes)) (sym same)
          (subst (λ (x : Vec (Option NodeRef)). IsRowBy says k x.items (length tree.nodes)) (same_some (slice_get (rows ++ (row ∷ [])) f) row r (get_last rows row f (let s = was.size in omega (arith, s, same))) f_at) is),
    )
  ];
})

cases_of : {A : Type 0} (o : Option A) → (o ≡ None) ⊎ ((x : A) × (o ≡ Some x))
cases_of None = inl refl
cases_of (Some x) = inr (x, refl)

absent : {A P : Type 0} (o : Option A) (x : A) → o ≡ None → o ≡ Some x → P
absent o x p q = absurd (cc)

abbrev in_row : NodeRef → Option (Vec (Option NodeRef)) → Option NodeRef
in_row at o = option_and_then (λ (row : Vec (Option NodeRef)). option_and_then itself (slice_get row.items at.node)) o

pub rows_all : (w : World) (elsewhere : NodeRef → Bool) (trees : List FileTree) (rows : List (Vec (Option NodeRef))) (k : ℕ) → ((at : NodeRef) → w.node at ≡ node_in trees at) → length trees ≡ k → Rows (IsMentioned w elsewhere (up trees)) trees rows k → AreMentions w elsewhere (up trees) (meant_in rows)
rows_all w elsewhere trees rows k is end was = record {
  node = λ at n n_at. there at n (sym (is at) ∙ n_at);
  outside = λ at none. missing at (sym (is at) ∙ none);
} where
  in_tree : (at : NodeRef) (tree : FileTree) → slice_get trees at.file ≡ Some tree → node_in trees at ≡ slice_get tree.nodes at.node
  in_tree at tree tree_at = ap (λ (o : Option FileTree). option_and_then (λ (t : FileTree). slice_get t.nodes at.node) o) tree_at

  there : (at : NodeRef) (n : Node) → node_in trees at ≡ Some n → IsMentioned w elsewhere (up trees) at (meant_in rows at)
  there at n n_at = elim (cases_of (slice_get trees at.file)) [
    | inl none ↦ absent (node_in trees at) n (ap (λ (o : Option FileTree). option_and_then (λ (t : FileTree). slice_get t.nodes at.node) o) none) n_at
    | inr (tree, tree_at) ↦ (
        let (row, row_at) = got rows at.file (let h = slice_get_within trees at.file tree tree_at in let s = was.size in omega (arith, h, s, end)) in
        let (other, other_at, fits) = was.each at.file row row_at in
        let same : other ≡ tree = same_some (slice_get trees at.file) other tree other_at tree_at in
        let low : at.node < length tree.nodes = slice_get_within tree.nodes at.node n (sym (in_tree at tree tree_at) ∙ n_at) in
        let (o, o_at) = got row.items at.node (let s = fits.size in let e = ap (λ (x : FileTree). length x.nodes) same in omega (arith, s, e, low)) in
        subst (λ (x : Option NodeRef). IsMentioned w elsewhere (up trees) at x) (sym (ap (λ x. in_row at x) row_at ∙ ap (λ x. option_and_then itself x) o_at)) (fits.each at.node o o_at))
  ]

  missing : (at : NodeRef) → node_in trees at ≡ None → meant_in rows at ≡ None
  missing at none = elim (cases_of (slice_get rows at.file)) [
    | inl no_row ↦ ap (λ x. in_row at x) no_row
    | inr (row, row_at) ↦ (
        let (tree, tree_at, fits) = was.each at.file row row_at in
        ap (λ x. in_row at x) row_at ∙ ap (λ x. option_and_then itself x) (slice_get_past row.items at.node (elim (cases_lt at.node (length row.items)) [
          | inl low ↦ (let (n, n_at) = got tree.nodes at.node (let s = fits.size in omega (arith, s, low)) in absent (node_in trees at) n none (in_tree at tree tree_at ∙ n_at))
          | inr high ↦ high
        ])))
  ]

-- ---- the node above, in a file

pub above_of : (trees : List FileTree) (file : ℕ) (tree : FileTree) (table : List (Option ℕ)) → slice_get trees file ≡ Some tree → ((p : ℕ) → number_at table p ≡ above_in tree.nodes (length tree.nodes) p) → AreAbove trees file table
above_of trees file tree table at is p = is p ∙ sym (ap (λ (o : Option FileTree). option_and_then (λ (t : FileTree). above_in t.nodes (length t.nodes) p) o) at)

pub count_of : (trees : List FileTree) (file : ℕ) (tree : FileTree) → slice_get trees file ≡ Some tree → length tree.nodes ≡ option_map_or (λ (x : FileTree). length x.nodes) (slice_get trees file) 0
count_of trees file tree at = sym (ap (λ (o : Option FileTree). option_map_or (λ (x : FileTree). length x.nodes) o 0) at)

pub above_from : (trees : List FileTree) (file : ℕ) (tree : FileTree) (nodes : List Node) (table : List (Option ℕ)) → nodes ≡ tree.nodes → slice_get trees file ≡ Some tree
    → ((p : ℕ) → number_at table p ≡ above_in nodes (length nodes) p) → AreAbove trees file table
above_from trees file tree nodes table same at is = above_of trees file tree table at (λ p. is p ∙ ap (λ (ns : List Node). above_in ns (length ns) p) same)

pub count_from : (trees : List FileTree) (file : ℕ) (tree : FileTree) (nodes : List Node) → nodes ≡ tree.nodes → slice_get trees file ≡ Some tree
    → length nodes ≡ option_map_or (λ (x : FileTree). length x.nodes) (slice_get trees file) 0
count_from trees file tree nodes same at = ap (λ (ns : List Node). length ns) same ∙ count_of trees file tree at
