-- The first places of nodes in a list, and their numbers, with one item more.
use Rattle.std.proofs.Common.{◌≡◌, ℕ, ◌+◌, ◌&&◌, nat_eq, Bool, true, false, if◌then◌else◌, List, length, take, slice_get, Option, Some, None, unwrap_or, option_map, refl, sym, ap, ◌∙◌, subst}
use Rattle.std.specs.Global.{Vec}
use Rattle.std.specs.List.{position_from}
use Rattle.std.proofs.lemmas.Bool.{eqb-true, eqb-false, eq-eqb, ne_eqb}
use Rattle.go_tree.specs.declared.tree.FileTree.{FileTree}
use Rattle.go_tree.specs.declared.tree.NodeRef.{NodeRef}
use Rattle.object_order.specs.Views.{same_key}
use Rattle.unit_read.specs.Places.{put_at}
use Rattle.unit_read.specs.Rows.{AreRows}
use Rattle.unit_read.specs.Units.{Unit, is_this, first_place}
use Rattle.unit_read.proofs.IndexLemmas.{position_more}
use Rattle.unit_read.proofs.TypeLemmas.{same_node}
use Rattle.unit_rows.specs.Rows.{first_in, local_by, local_among, local_in}
use Rattle.unit_rows.specs.Tables.{PutsIn, PutsNext}
use Rattle.unit_rows.proofs.NumberLemmas.{is_other}
use Rattle.unit_rows.proofs.TableLemmas.{first_put, rows_same, put_more}

same_number : (a b : ℕ) → nat_eq a b ≡ nat_eq b a
same_number a b = by (nat_eq a b) refl where
  by : (x : Bool) → nat_eq a b ≡ x → x ≡ nat_eq b a
  by true e = sym (eq-eqb b a (sym (eqb-true a b e)))
  by false e = sym (ne_eqb b a (λ same. eqb-false a b e (sym same)))

same_either : (a b : ℕ × ℕ) → same_key a b ≡ same_key b a
same_either a b = ap (λ x. x && nat_eq a.1 b.1) (same_number a.0 b.0) ∙ ap (λ x. nat_eq b.0 a.0 && x) (same_number a.1 b.1)

-- ---- first places

first_more : (list : List (Option NodeRef)) (k : ℕ) (next : Option NodeRef) (q : NodeRef) → slice_get list k ≡ Some next
    → first_place q (take (k + 1) list) ≡ (if is_this q next then Some (unwrap_or (first_place q (take k list)) k) else first_place q (take k list))
first_more list k next q there = sym (position_more (is_this q) list k next (first_place q (take k list)) _ there refl refl)

pub firsts_more : (trees : List FileTree) (list : List (Option NodeRef)) (k : ℕ) (next : Option NodeRef) (old new : List (Vec (Option ℕ))) → slice_get list k ≡ Some next
    → AreRows (first_in (take k list)) trees old (length trees) → PutsNext old new next k → AreRows (first_in (take (k + 1) list)) trees new (length trees)
firsts_more trees list k None old new there are puts =
    subst (λ (rows : List (Vec (Option ℕ))). AreRows (first_in (take (k + 1) list)) trees rows (length trees)) (sym puts)
    (rows_same trees old (length trees) (λ q. first_place q (take k list)) (λ q. first_place q (take (k + 1) list)) (λ q. first_more list k None q there) are)
firsts_more trees list k (Some at) old new there are puts =
    put_more trees old new at k (λ q. first_place q (take k list)) (λ q. first_place q (take (k + 1) list)) are puts
    (λ q. first_more list k (Some at) q there
    ∙ (first_put (first_place q (take k list)) (is_this q (Some at)) k
    ∙ ap (λ (b : Bool). put_at (first_place q (take k list)) b k) (same_either (q.file, q.node) (at.file, at.node))))

-- ---- numbers of types

local_step : (u : Unit) (q at : NodeRef) (k : ℕ) (o : Option ℕ) (b : Bool) → is_other q at ≡ b
    → option_map (λ j. local_by u q (j + 1)) (if b then Some (unwrap_or o k) else o) ≡ put_at (option_map (λ j. local_by u q (j + 1)) o) b (local_by u at (k + 1))
local_step u q at k None true is = ap (λ (x : NodeRef). Some (local_by u x (k + 1))) (same_node q at is)
local_step u q at k None false is = refl
local_step u q at k (Some j) true is = refl
local_step u q at k (Some j) false is = refl

local_more : (u : Unit) (list : List NodeRef) (k : ℕ) (at q : NodeRef) → slice_get list k ≡ Some at
    → local_among u (take (k + 1) list) q ≡ put_at (local_among u (take k list) q) (same_key (at.file, at.node) (q.file, q.node)) (local_by u at (k + 1))
local_more u list k at q there =
    ap (option_map (λ j. local_by u q (j + 1))) (sym (position_more (is_other q) list k at (position_from (is_other q) 0 (take k list)) _ there refl refl))
    ∙ (local_step u q at k (position_from (is_other q) 0 (take k list)) (is_other q at) refl
    ∙ ap (λ (b : Bool). put_at (local_among u (take k list) q) b (local_by u at (k + 1))) (same_either (q.file, q.node) (at.file, at.node)))

pub locals_more : (u : Unit) (list : List NodeRef) (k : ℕ) (at : NodeRef) (old new : List (Vec (Option ℕ))) → slice_get list k ≡ Some at
    → AreRows (local_in u (take k list)) u.trees old (length u.trees) → PutsIn old new at.file at.node (local_by u at (k + 1))
    → AreRows (local_in u (take (k + 1) list)) u.trees new (length u.trees)
locals_more u list k at old new there are puts =
    put_more u.trees old new at (local_by u at (k + 1)) (local_among u (take k list)) (local_among u (take (k + 1) list)) are puts (λ q. local_more u list k at q there)
