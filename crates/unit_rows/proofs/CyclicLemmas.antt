-- What an order of need marks is what needs itself.
use Rattle.std.proofs.Common.{◌≡◌, ◌⊎◌, ℕ, zero, suc, ◌+◌, ◌<◌, ◌≤◌, Bool, true, false, if◌then◌else◌, List, [], ◌∷◌, ◌++◌, length, slice_get, Option, Some, None, refl, sym, ap, ◌∙◌, subst, inl, inr, arith}
use Rattle.std.specs.Option.{option_map_or}
use Rattle.std.proofs.lemmas.Bool.{cases_lt}
use Rattle.std.proofs.lemmas.Option.{slice_get_within}
use Rattle.go_tree.specs.declared.bindings.Object.{Object}
use Rattle.go_tree.specs.declared.tree.FileTree.{FileTree}
use Rattle.go_tree.specs.declared.tree.Node.{Node}
use Rattle.go_tree.specs.declared.tree.NodeRef.{NodeRef}
use Rattle.object_order.specs.declared.needed.Needed.{Needed}
use Rattle.object_order.specs.Cases.{NeedsOf}
use Rattle.object_order.specs.Names.{IsNamed}
use Rattle.object_order.specs.Paths.{Leads}
use Rattle.package_objects.specs.Declares.{gather, declared}
use Rattle.const_tree.proofs.ListLemmas.{gather_cases}
use Rattle.unit_read.specs.Units.{is_among}
use Rattle.unit_rows.specs.Cyclic.{if_cyclic, nth_cyclic, all_cyclic, is_cyclic, MarksCyclic}
use Rattle.unit_rows.proofs.NumberLemmas.{among_is, among_there, none_there, only_there}

in_front : {X : Type 0} (xs ys : List X) (i : ℕ) (x : X) → slice_get xs i ≡ Some x → slice_get (xs ++ ys) i ≡ Some x
in_front [] ys i x e = absurd cc
in_front (y ∷ xs) ys zero x e = e
in_front (y ∷ xs) ys (suc i) x e = in_front xs ys i x e

behind : {X : Type 0} (xs ys : List X) (j : ℕ) (x : X) → slice_get ys j ≡ Some x → (i : ℕ) × (slice_get (xs ++ ys) i ≡ Some x)
behind [] ys j x e = (j, e)
behind (y ∷ xs) ys j x e = let r = behind xs ys j x e in (suc r.0, r.1)

pub gather_has : {X : Type 0} (g : ℕ → List X) (n k j : ℕ) (x : X) → k < n → slice_get (g k) j ≡ Some x → (i : ℕ) × (slice_get (gather g n) i ≡ Some x)
gather_has g zero k j x low e = absurd (omega arith)
gather_has {X} g (suc n) k j x low e = by (cases_lt k n) (λ less. gather_has g n k j x less e) where
  by : (k < n) ⊎ (n ≤ k) → ((k < n) → (i : ℕ) × (slice_get (gather g n) i ≡ Some x)) → (i : ℕ) × (slice_get (gather g n ++ g n) i ≡ Some x)
  by (inl less) before = let r = before less in (r.0, in_front (gather g n) (g n) r.0 x r.1)
  by (inr more) before = let same : k ≡ n = omega arith in behind (gather g n) (g n) j x (ap (λ (m : ℕ). slice_get (g m) j) (sym same) ∙ e)

-- an item that the order marks
pub record IsMarked (order : List Needed) (at : NodeRef) : Type 0 where
  pub number : ℕ
  pub item : Needed
  pub there : slice_get order number ≡ Some item
  pub cyclic : item.cyclic ≡ true
  pub object : item.object ≡ at

in_item : (e : Needed) (j : ℕ) (at : NodeRef) → slice_get (if_cyclic e) j ≡ Some at → (e.cyclic ≡ true) × (e.object ≡ at)
in_item e j at h = by e.cyclic refl h where
  by : (b : Bool) → e.cyclic ≡ b → slice_get (if b then e.object ∷ [] else []) j ≡ Some at → (e.cyclic ≡ true) × (e.object ≡ at)
  by true is there = (is, only_there e.object at j there)
  by false is there = absurd (none_there at j there)

in_nth : (order : List Needed) (i j : ℕ) (at : NodeRef) → slice_get (nth_cyclic order i) j ≡ Some at → IsMarked order at
in_nth order i j at h = by (slice_get order i) refl h where
  by : (o : Option Needed) → slice_get order i ≡ o → slice_get (option_map_or if_cyclic o []) j ≡ Some at → IsMarked order at
  by None is there = absurd (none_there at j there)
  by (Some e) is there =
      let both = in_item e j at there in
      record { number = i; item = e; there = is; cyclic = both.0; object = both.1 }

pub marked : (order : List Needed) (at : NodeRef) → is_among at (all_cyclic order) ≡ true → IsMarked order at
marked order at h =
    let j = among_is at (all_cyclic order) h in
    let i = gather_cases (nth_cyclic order) (length order) j.0 at j.1 in
    in_nth order i.0 i.1 at i.3

pub marks : (order : List Needed) (at : NodeRef) → IsMarked order at → is_among at (all_cyclic order) ≡ true
marks order at m =
    let listed : slice_get (if_cyclic m.item) 0 ≡ Some at = ap (λ (b : Bool). slice_get (if b then m.item.object ∷ [] else []) 0) m.cyclic ∙ ap Some m.object in
    let there : slice_get (nth_cyclic order m.number) 0 ≡ Some at = ap (λ (o : Option Needed). slice_get (option_map_or if_cyclic o []) 0) m.there ∙ listed in
    let low = slice_get_within order m.number m.item m.there in
    let r = gather_has (nth_cyclic order) (length order) m.number 0 at low there in
    among_there at (all_cyclic order) r.0 r.1

pub marks_cyclic : (uses : List (NodeRef × Object)) (trees : List FileTree) (elsewhere : NodeRef → Bool) (order : List Needed) → MarksCyclic uses trees elsewhere order
marks_cyclic uses trees elsewhere order of at node there = (
  λ is.
      let m = marked order at (sym listed ∙ is) in
      let loops = (of.ordered.cyclic m.number m.item m.there).0 m.cyclic in (
        subst (λ (o : NodeRef). IsNamed (declared trees of.rows) o) m.object (of.ordered.only m.number m.item m.there),
        subst (λ (o : NodeRef). Leads (NeedsOf of.world) o o) m.object loops,
      ),
  λ needs.
      let (k, e, is, same) = of.ordered.each at needs.0 in
      let cyclic = (of.ordered.cyclic k e is).1 (subst (λ (o : NodeRef). Leads (NeedsOf of.world) o o) (sym same) needs.1) in
      listed ∙ marks order at (record { number = k; item = e; there = is; cyclic = cyclic; object = same }),
) where
  listed : is_cyclic trees order at ≡ is_among at (all_cyclic order)
  listed = ap (λ (o : Option Node). option_map_or (λ (n : Node). is_among at (all_cyclic order)) o false) there
