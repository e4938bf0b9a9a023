-- Flags of quiet nodes, one node more and one file more.
use Rattle.std.proofs.Common.{◌≡◌, ℕ, ◌+◌, ◌&&◌, Bool, true, false, if◌then◌else◌, List, [], ◌∷◌, ◌++◌, length, slice_get, Option, Some, None, option_and_then, unwrap_or, refl, sym, ap, ◌∙◌, subst, inl, inr, arith, length-append}
use Rattle.std.specs.Global.{Vec}
use Rattle.std.specs.List.{list_all}
use Rattle.std.specs.Option.{option_map_or}
use Rattle.go_tree.specs.Spells.{Among}
use Rattle.go_tree.specs.declared.tree.FileTree.{FileTree}
use Rattle.go_tree.specs.declared.tree.Node.{Node}
use Rattle.go_tree.specs.declared.tree.NodeRef.{NodeRef}
use Rattle.object_order.specs.Picks.{flag_in}
use Rattle.object_order.specs.Spots.{place}
use Rattle.object_order.specs.Views.{node_in}
use Rattle.object_order.specs.Quiet.{AreQuiet, quiet_at, is_aside_at, passed, quiet_here, IsQuietRow}
use Rattle.gv_base.proofs.Lists.{get_left, push_cases, same_some}

-- ---- a row

some_flag : (o : Option Bool) → unwrap_or o false ≡ true → o ≡ Some true
some_flag None e = absurd (cc)
some_flag (Some true) e = refl
some_flag (Some false) e = absurd (cc)

flag_stays : (flags more : List Bool) (p : ℕ) → flag_in flags p ≡ true → flag_in (flags ++ more) p ≡ true
flag_stays flags more p e = ap (λ (o : Option Bool). unwrap_or o false) (get_left flags more p true (some_flag (slice_get flags p) e))

passed_if : (a b c : Bool) → (a ≡ true → b ≡ true) → (if a then true else c) ≡ true → (if b then true else c) ≡ true
passed_if true b c f e = ap (λ (x : Bool). if x then true else c) (f refl)
passed_if false true c f e = refl
passed_if false false c f e = e

both_are : (a b : Bool) → a ≡ true → b ≡ true → (a && b) ≡ true
both_are true b e h = h
both_are false b e h = absurd (cc)

both_were : (a b : Bool) → (a && b) ≡ true → (a ≡ true) × (b ≡ true)
both_were true b e = (refl, e)
both_were false b e = absurd (cc)

all_more : {X : Type 0} (f g : X → Bool) (xs : List X) → ((x : X) → f x ≡ true → g x ≡ true) → list_all f xs ≡ true → list_all g xs ≡ true
all_more f g [] h e = refl
all_more f g (x ∷ xs) h e = let (one, rest) = both_were (f x) (list_all f xs) e in both_are (g x) (list_all g xs) (h x one) (all_more f g xs h rest)

all_has : {X : Type 0} (f : X → Bool) (xs : List X) (x : X) → list_all f xs ≡ true → Among x xs → f x ≡ true
all_has f [] x e h = absurd h
all_has f (y ∷ xs) x e (inl same) = ap f (sym same) ∙ (both_were (f y) (list_all f xs) e).0
all_has f (y ∷ xs) x e (inr h) = all_has f xs x (both_were (f y) (list_all f xs) e).1 h

here_if : {X : Type 0} (o : Option X) (a b : Bool) → (a ≡ true → b ≡ true) → option_map_or (λ (x : X). false) o a ≡ true → option_map_or (λ (x : X). false) o b ≡ true
here_if None a b f e = f e
here_if (Some x) a b f e = absurd (cc)

here_stays : (bodies : Bool) (nodes : List Node) (flags more : List Bool) (meant : Option NodeRef) (node : Node) → quiet_here bodies nodes flags meant node ≡ true
    → quiet_here bodies nodes (flags ++ more) meant node ≡ true
here_stays bodies nodes flags more meant node e = here_if meant (list_all (passed bodies nodes flags) node.parts) (list_all (passed bodies nodes (flags ++ more)) node.parts)
    (all_more (passed bodies nodes flags) (passed bodies nodes (flags ++ more)) node.parts
    (λ p. passed_if (flag_in flags p) (flag_in (flags ++ more) p) (is_aside_at bodies (slice_get nodes p)) (flag_stays flags more p))) e

-- The nodes before a number are flagged as they should be.
pub record RowBelow (bodies : Bool) (meant : NodeRef → Option NodeRef) (file : ℕ) (nodes : List Node) (flags : List Bool) (n : ℕ) : Type 0 where
  pub count : length flags ≡ n
  pub «is» : IsQuietRow bodies meant file nodes flags

none_flagged : (flags : List Bool) (p : ℕ) → flags ≡ [] → flag_in flags p ≡ true → ⊥
none_flagged flags p empty e = let h : flag_in [] p ≡ true = ap (λ (x : List Bool). flag_in x p) (sym empty) ∙ e in cc

pub row_none : (bodies : Bool) (meant : NodeRef → Option NodeRef) (file : ℕ) (nodes : List Node) (flags : List Bool) → flags ≡ [] → RowBelow bodies meant file nodes flags 0
row_none bodies meant file nodes flags empty = record { count = ap length empty; «is» = λ n e. absurd (none_flagged flags n empty e) }

pub row_more : (bodies : Bool) (meant : NodeRef → Option NodeRef) (file : ℕ) (nodes : List Node) (flags now : List Bool) (n : ℕ) (node : Node) (b : Bool) → RowBelow bodies meant file nodes flags n
    → slice_get nodes n ≡ Some node → b ≡ quiet_here bodies nodes flags (meant (place file n)) node → now ≡ flags ++ b ∷ [] → RowBelow bodies meant file nodes now (n + 1)
row_more bodies meant file nodes flags now n node b was there b_is pushed = subst (λ (x : List Bool). RowBelow bodies meant file nodes x (n + 1)) (sym pushed) (record {
  count = (let e = length-append flags (b ∷ []) in let c = was.count in omega arith);
  «is» = more;
}) where
  more : IsQuietRow bodies meant file nodes (flags ++ b ∷ [])
  more k e = elim (push_cases flags b true k (some_flag (slice_get (flags ++ b ∷ []) k) e)) [
    | inl before ↦ (let (one, at, quiet) = was.«is» k (ap (λ (o : Option Bool). unwrap_or o false) before) in
        (one, at, here_stays bodies nodes flags (b ∷ []) (meant (place file k)) one quiet))
    | inr (last, set) ↦ (let k_is : n ≡ k = sym was.count ∙ sym last in
        let quiet : quiet_here bodies nodes flags (meant (place file k)) node ≡ true = subst (λ (x : ℕ). quiet_here bodies nodes flags (meant (place file x)) node ≡ true) k_is (sym b_is ∙ set) in
        (node, ap (λ (x : ℕ). slice_get nodes x) (sym k_is) ∙ there, here_stays bodies nodes flags (b ∷ []) (meant (place file k)) node quiet))
  ]

pub row_is : (bodies : Bool) (meant : NodeRef → Option NodeRef) (file : ℕ) (nodes : List Node) (flags : List Bool) (n : ℕ) → RowBelow bodies meant file nodes flags n
    → IsQuietRow bodies meant file nodes flags
row_is bodies meant file nodes flags n below = below.«is»

-- ---- all rows

-- The files before a number are flagged as they should be.
pub record RowsBelow (bodies : Bool) (meant : NodeRef → Option NodeRef) (trees : List FileTree) (rows : List (Vec Bool)) (n : ℕ) : Type 0 where
  pub count : length rows ≡ n
  pub each : (f : ℕ) (row : Vec Bool) → slice_get rows f ≡ Some row → (tree : FileTree) × (slice_get trees f ≡ Some tree) × IsQuietRow bodies meant f tree.nodes row.items

none_there : {X : Type 0} (xs : List X) (k : ℕ) (x : X) → xs ≡ [] → slice_get xs k ≡ Some x → ⊥
none_there xs k x empty at = let h : slice_get [] k ≡ Some x = ap (λ (l : List _). slice_get l k) (sym empty) ∙ at in cc

pub rows_none : (bodies : Bool) (meant : NodeRef → Option NodeRef) (trees : List FileTree) (rows : List (Vec Bool)) → rows ≡ [] → RowsBelow bodies meant trees rows 0
rows_none bodies meant trees rows empty = record { count = ap length empty; each = λ f row at. absurd (none_there rows f row empty at) }

pub rows_more : (bodies : Bool) (meant : NodeRef → Option NodeRef) (trees : List FileTree) (rows now : List (Vec Bool)) (n : ℕ) (tree : FileTree) (nodes : List Node) (row : Vec Bool)
    → RowsBelow bodies meant trees rows n → slice_get trees n ≡ Some tree → nodes ≡ tree.nodes → IsQuietRow bodies meant n nodes row.items → now ≡ rows ++ row ∷ []
    → RowsBelow bodies meant trees now (n + 1)
rows_more bodies meant trees rows now n tree nodes row was there nodes_are quiet pushed = subst (λ (x : List (Vec Bool)). RowsBelow bodies meant trees x (n + 1)) (sym pushed) (record {
  count = (let e = length-append rows (row ∷ []) in let c = was.count in omega arith);
  each = λ f other at. elim (push_cases rows row other f at) [
    | inl before ↦ was.each f other before
    | inr (last, same) ↦ (let f_is : n ≡ f = sym was.count ∙ sym last in (
      tree,
      ap (λ (x : ℕ). slice_get trees x) (sym f_is) ∙ there,
      subst (λ (x : ℕ). IsQuietRow bodies meant x tree.nodes other.items) f_is
          (subst (λ (x : Vec Bool). IsQuietRow bodies meant n tree.nodes x.items) same (subst (λ (x : List Node). IsQuietRow bodies meant n x row.items) nodes_are quiet)),
    ))
  ];
})

-- ---- what the flags say

no_mention : {X : Type 0} (o : Option X) (b : Bool) → option_map_or (λ (x : X). false) o b ≡ true → (o ≡ None) × (b ≡ true)
no_mention None b e = (refl, e)
no_mention (Some x) b e = absurd (cc)

of_row : (rows : List (Vec Bool)) (at : NodeRef) (o : Option (Vec Bool)) → slice_get rows at.file ≡ o → option_map_or (λ (row : Vec Bool). flag_in row.items at.node) o false ≡ true
    → (row : Vec Bool) × (slice_get rows at.file ≡ Some row) × (flag_in row.items at.node ≡ true)
of_row rows at None is e = absurd (cc)
of_row rows at (Some row) is e = (row, is, e)

unflagged : (a c : Bool) → (if a then true else c) ≡ true → c ≡ false → a ≡ true
unflagged true c e h = refl
unflagged false c e h = absurd (cc)

module _ (bodies : Bool) (meant : NodeRef → Option NodeRef) (trees : List FileTree) (rows : List (Vec Bool)) (n : ℕ) (below : RowsBelow bodies meant trees rows n) where
  node_there : (f k : ℕ) (tree : FileTree) → slice_get trees f ≡ Some tree → node_in trees (place f k) ≡ slice_get tree.nodes k
  node_there f k tree at = ap (λ (o : Option FileTree). option_and_then (λ (t : FileTree). slice_get t.nodes k) o) at

  pub are_quiet : AreQuiet bodies (node_in trees) meant (quiet_at rows)
  are_quiet at e =
      let (row, at_row, flagged) = of_row rows at (slice_get rows at.file) refl e in
      let (tree, at_tree, is) = below.each at.file row at_row in
      let (own, there, quiet) = is at.node flagged in
      let (none, all) = no_mention (meant at) (list_all (passed bodies tree.nodes row.items) own.parts) quiet in record {
        mentions = none;
        parts = λ node inner part here among inside apart. (
            let same : own ≡ node = same_some (slice_get tree.nodes at.node) own node there (sym (node_there at.file at.node tree at_tree) ∙ here) in
            let lies : Among part own.parts = subst (λ (x : Node). Among part x.parts) (sym same) among in
            let piece : slice_get tree.nodes part ≡ Some inner = sym (node_there at.file part tree at_tree) ∙ inside in
            let flag : flag_in row.items part ≡ true =
            unflagged (flag_in row.items part) (is_aside_at bodies (slice_get tree.nodes part)) (all_has (passed bodies tree.nodes row.items) own.parts part all lies)
            (ap (λ (o : Option Node). is_aside_at bodies o) piece ∙ apart) in
            ap (λ (o : Option (Vec Bool)). option_map_or (λ (r : Vec Bool). flag_in r.items part) o false) at_row ∙ flag);
      }
