-- What stands below a node of the tree.
use Rattle.std.proofs.Common.{◌≡◌, ◌≢◌, ◌<◌, ◌≤◌, ◌+◌, ◌*◌, ◌-◌, ◌/◌, ℕ, zero, suc, List, length, refl, sym, ap, ◌∙◌, subst, inl, inr, ⊎_elim, arith}
use Rattle.std.proofs.lemmas.Bool.{cases_eq}
use Rattle.fix_apply.specs.declared.slot.Slot.{Slot}
use Rattle.fix_apply.specs.declared.tree.Node.{Node}
use Rattle.fix_apply.specs.Trees.{slot_at, node_at, Bounds, IsLeaf, IsOrdered, IsTree, Meets, Hits, MayMeet, above, NoneBelow, NoHit}
use Rattle.fix_apply.proofs.TreeSteps.{Bounds-refl, Bounds-trans}

above_most : (levels y : ℕ) → above levels y ≤ y
above_most zero y = omega arith
above_most (suc levels) y = omega (arith, above_most levels y)

-- a node bounds all nodes below it
climb : (nodes : List Node) (levels y : ℕ) → IsOrdered nodes → y < length nodes → 1 ≤ above levels y → Bounds (node_at nodes (above levels y)) (node_at nodes y)
climb nodes zero y ordered below some = Bounds-refl (node_at nodes y)
climb nodes (suc levels) y ordered below some =
    let z = above levels y in
    let x = above levels y / 2 in
    let inside : z < length nodes = omega (arith, above_most levels y) in
    let lower = climb nodes levels y ordered below (omega arith) in
    let edge : Bounds (node_at nodes x) (node_at nodes z) = ⊎_elim
    (λ (even : z ≡ 2 * x). subst (λ (n : ℕ). Bounds (node_at nodes x) (node_at nodes n)) (sym even) ((ordered x some).0 (omega arith)))
    (λ (other : z ≢ 2 * x). let odd : z ≡ 2 * x + 1 = omega arith in subst (λ (n : ℕ). Bounds (node_at nodes x) (node_at nodes n)) (sym odd) ((ordered x some).1 (omega arith)))
    (cases_eq z (2 * x)) in
    Bounds-trans (node_at nodes x) (node_at nodes z) (node_at nodes y) edge lower

-- an open leaf reaches its slot's end
open_reach : (node : Node) (slot : Slot) → IsLeaf node slot → 0 < node.reach → node.reach ≡ slot.end + 1
open_reach node slot leaf some = ⊎_elim (λ (none : node.reach ≡ 0). absurd (omega arith)) (λ (reach : node.reach ≡ slot.end + 1). reach) leaf.reach

may_meet : (node leaf : Node) (slot : Slot) (file start end : ℕ) → Bounds node leaf → IsLeaf leaf slot → 0 < leaf.reach → Meets slot file start end → MayMeet node file start end
may_meet node leaf slot file start end bounds is some meets =
    let reach = open_reach leaf slot is some in
    record {
      first = omega (arith, bounds.first_file, is.first_file, meets.file_is);
      last = omega (arith, bounds.last_file, is.last_file, meets.file_is);
      some = omega (arith, bounds.reach);
      range = ⊎_elim
          (λ (same : slot.start ≡ start). inl (omega (arith, bounds.low, is.low), omega (arith, bounds.high, is.high)))
          (λ (both : (slot.start < end) × (start < slot.end)). inr (omega (arith, bounds.low, is.low, both.0), omega (arith, bounds.reach, reach, both.1)))
          meets.overlap;
    }

pub prune : (slots : List Slot) (nodes : List Node) (x file start end : ℕ) → IsTree slots nodes → 1 ≤ x → ¬ (MayMeet (node_at nodes x) file start end) → NoneBelow slots nodes x file start end
prune slots nodes x file start end tree some not_here = λ levels p is hit.
    let below : length slots + p < length nodes = omega (arith, tree.size, hit.within) in
    let bounds = subst (λ (n : ℕ). Bounds (node_at nodes n) (node_at nodes (length slots + p))) is (climb nodes levels (length slots + p) tree.ordered below (omega (arith, is))) in
    not_here (may_meet (node_at nodes x) (node_at nodes (length slots + p)) (slot_at slots p) file start end bounds (tree.leaves p hit.within) hit.is_open hit.meets)

pub leaf_none : (slots : List Slot) (nodes : List Node) (x file start end : ℕ) → length slots ≤ x → ¬ (Meets (slot_at slots (x - length slots)) file start end) → NoneBelow slots nodes x file start end
leaf_none slots nodes x file start end leaf misses zero p is hit =
    let same : p ≡ x - length slots = omega (arith, is) in
    misses (subst (λ (n : ℕ). Meets (slot_at slots n) file start end) same hit.meets)
leaf_none slots nodes x file start end leaf misses (suc levels) p is hit = omega (arith, is, above_most levels (length slots + p), hit.within)

pub leaf_hit : (slots : List Slot) (nodes : List Node) (x file start end : ℕ) → IsTree slots nodes → length slots ≤ x → x < length nodes → MayMeet (node_at nodes x) file start end → Meets (slot_at slots (x - length slots)) file start end → Hits slots nodes (x - length slots) file start end
leaf_hit slots nodes x file start end tree leaf below may meets =
    let place : x ≡ length slots + (x - length slots) = omega arith in
    record {
      within = omega (arith, tree.size);
      is_open = subst (λ (n : ℕ). 0 < (node_at nodes n).reach) place may.some;
      meets = meets;
    }

pub inner_none : (slots : List Slot) (nodes : List Node) (x file start end : ℕ) → x < length slots → NoneBelow slots nodes (2 * x) file start end → NoneBelow slots nodes (2 * x + 1) file start end → NoneBelow slots nodes x file start end
inner_none slots nodes x file start end inner left right zero p is hit = omega (arith, is)
inner_none slots nodes x file start end inner left right (suc levels) p is hit =
    let z = above levels (length slots + p) in
    ⊎_elim
    (λ (even : z ≡ 2 * x). left levels p even hit)
    (λ (other : z ≢ 2 * x). right levels p (omega (arith, is)) hit)
    (cases_eq z (2 * x))

-- the first node stands above all
above_shift : (levels y : ℕ) → above (suc levels) y ≡ above levels (y / 2)
above_shift zero y = refl
above_shift (suc levels) y = ap (λ n. n / 2) (above_shift levels y)

root : (fuel y : ℕ) → y ≤ fuel → 1 ≤ y → (levels : ℕ) × (above levels y ≡ 1)
root zero y most some = absurd (omega arith)
root (suc fuel) y most some = ⊎_elim
    (λ (one : y ≡ 1). (zero, one))
    (λ (more : y ≢ 1). let up = root fuel (y / 2) (omega arith) (omega arith) in (suc up.0, above_shift up.0 y ∙ up.1))
    (cases_eq y 1)

pub none_below_root : (slots : List Slot) (nodes : List Node) (file start end : ℕ) → NoneBelow slots nodes 1 file start end → NoHit slots nodes file start end
none_below_root slots nodes file start end none p hit =
    let path = root (length slots + p) (length slots + p) (omega arith) (omega (arith, hit.within)) in
    none path.0 p path.1 hit
