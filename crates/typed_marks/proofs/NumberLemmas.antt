-- Each item has a number of its own.
use Rattle.std.proofs.Common.{◌≡◌, ◌⊎◌, ℕ, zero, suc, ◌<◌, ◌≤◌, ◌+◌, ◌*◌, ◌-◌, ◌&&◌, Bool, true, false, List, [], ◌∷◌, ◌++◌, length, slice_get, Option, Some, None, nat_le, nat_lt, nat_eq, if◌then◌else◌, refl, sym, ap, ◌∙◌, subst, inl, inr, arith}
use Rattle.std.specs.Option.{option_map_or}
use Rattle.std.proofs.lemmas.Bool.{ltb-true, leb-true}
use Rattle.gv_base.proofs.Lists.{same_some, push_cases}
use Rattle.std.proofs.lemmas.Option.{slice_get_within}
use Rattle.typed_marks.specs.declared.item.Stage.{Stage}
use Rattle.typed_marks.specs.declared.item.Stage.TheVariants as s
use Rattle.typed_marks.specs.declared.item.Item.{Item}
use Rattle.typed_marks.specs.declared.item.Block.{Block}
use Rattle.typed_marks.specs.declared.item.Span.{Span}
use Rattle.typed_marks.specs.States.{block_of as block_from, room, laid}
use Rattle.typed_marks.specs.Items.{is_in, is_item, IsItem, stage_number, number_in, number_of, AreBlocks}

stage_by : ℕ → Stage
stage_by n = if nat_eq n 0 then s.Before else (if nat_eq n 1 then s.Wanted else (if nat_eq n 2 then s.Judged else (if nat_eq n 3 then s.Placed else (if nat_eq n 4 then s.Object else s.Under))))

by_number : (x : Stage) → stage_by (stage_number x) ≡ x
unfolding stage_by
by_number s.Before = refl
by_number s.Wanted = refl
by_number s.Judged = refl
by_number s.Placed = refl
by_number s.Object = refl
by_number s.Under = refl

pub one_stage : (a b : Stage) → stage_number a ≡ stage_number b → a ≡ b
one_stage a b e = sym (by_number a) ∙ ap stage_by e ∙ by_number b

pub stage_low : (x : Stage) → stage_number x < 6
stage_low s.Before = omega arith
stage_low s.Wanted = omega arith
stage_low s.Judged = omega arith
stage_low s.Placed = omega arith
stage_low s.Object = omega arith
stage_low s.Under = omega arith

both : (a b : Bool) → (a && b) ≡ true → (a ≡ true) × (b ≡ true)
both true b e = (refl, e)
both false b e = absurd cc

-- a node of a block comes at some place from its first on
pub in_is : (n : ℕ) (b : Block) → is_in n b ≡ true → (k : ℕ) × (k < b.end - b.low) × (n ≡ b.low + k) × (n - b.low ≡ k)
in_is n b e =
    let parts = both (nat_le b.low n) (nat_lt n b.end) e in
    let first : b.low ≤ n = leb-true b.low n parts.0 in
    let second : n < b.end = ltb-true n b.end parts.1 in
    (n - b.low, omega arith, omega arith, refl)

-- the block of an item
pub block_of : (blocks : List Block) (i : Item) → IsItem blocks i → (b : Block) × (slice_get blocks i.block ≡ Some b) × (is_in i.node b ≡ true)
block_of blocks i is = by (slice_get blocks i.block) refl is where
  by : (o : Option Block) → slice_get blocks i.block ≡ o → option_map_or (is_in i.node) o false ≡ true → (b : Block) × (slice_get blocks i.block ≡ Some b) × (is_in i.node b ≡ true)
  by None at e = absurd cc
  by (Some b) at e = (b, at, e)

pub number_is : (blocks : List Block) (i : Item) (b : Block) → slice_get blocks i.block ≡ Some b → number_of blocks i ≡ number_in i.stage i.node b
number_is blocks i b at = ap (λ o. option_map_or (number_in i.stage i.node) o 0) at

-- the number of an item lies in its block
pub number_low : (b : Block) (x : Stage) (n : ℕ) → is_in n b ≡ true → (b.start ≤ number_in x n b) × (number_in x n b < b.start + 6 * (b.end - b.low))
number_low b x n is =
    let (k, low, at, less) = in_is n b is in
    let few = stage_low x in
    (omega arith, omega arith)

pub number_below : (blocks : List Block) (count : ℕ) (i : Item) → AreBlocks blocks count → IsItem blocks i → number_of blocks i < count
number_below blocks count i are is =
    let (b, at, in_b) = block_of blocks i is in
    let low = (number_low b i.stage i.node in_b).1 in
    let end = are.within i.block b at in
    let e = number_is blocks i b at in
    omega arith

compare : (a b : ℕ) → (a < b) ⊎ ((a ≡ b) ⊎ (b < a))
compare a b = grind arith

six_stages : (k j s t : ℕ) → s < 6 → t < 6 → 6 * k + s ≡ 6 * j + t → s ≡ t
six_stages k j s t a b e = omega arith

six_nodes : (k j s t : ℕ) → s < 6 → t < 6 → 6 * k + s ≡ 6 * j + t → k ≡ j
six_nodes k j s t a b e = omega arith

abbrev made : Stage → ℕ → ℕ → Item
made stage block node = record { stage = stage; block = block; node = node }

in_one : (b : Block) (x y : Stage) (m n : ℕ) → is_in m b ≡ true → is_in n b ≡ true → number_in x m b ≡ number_in y n b → (x ≡ y) × (m ≡ n)
in_one b x y m n in_m in_n e =
    let (k, k_low, k_at, k_is) = in_is m b in_m in
    let (j, j_low, j_at, j_is) = in_is n b in_n in
    let few = stage_low x in
    let also = stage_low y in
    let six : 6 * k + stage_number x ≡ 6 * j + stage_number y = omega arith in
    let nodes = six_nodes k j (stage_number x) (stage_number y) few also six in
    (one_stage x y (six_stages k j (stage_number x) (stage_number y) few also six), omega arith)

module _ (blocks : List Block) (count : ℕ) (are : AreBlocks blocks count) where
  apart : (i j : Item) → i.block < j.block → IsItem blocks i → IsItem blocks j → number_of blocks i ≡ number_of blocks j → ⊥
  apart i j less is also e =
      let (b, at, in_b) = block_of blocks i is in
      let (d, d_at, in_d) = block_of blocks j also in
      let first = (number_low b i.stage i.node in_b).1 in
      let second = (number_low d j.stage j.node in_d).0 in
      let end = are.apart i.block j.block b d less at d_at in
      let n = number_is blocks i b at in
      let m = number_is blocks j d d_at in
      omega arith

  pub one_item : (i j : Item) → IsItem blocks i → IsItem blocks j → number_of blocks i ≡ number_of blocks j → i ≡ j
  one_item i j is also e = elim (compare i.block j.block) [
    | inl less ↦ absurd (apart i j less is also e)
    | inr (inl same) ↦ here same
    | inr (inr more) ↦ absurd (apart j i more also is (sym e))
  ] where
    here : i.block ≡ j.block → i ≡ j
    here same =
        let (b, at, in_b) = block_of blocks i is in
        let (d, d_at, in_d) = block_of blocks j also in
        let one : b ≡ d = same_some (slice_get blocks j.block) b d (ap (slice_get blocks) (sym same) ∙ at) d_at in
        let in_also : is_in j.node b ≡ true = subst (λ (x : Block). is_in j.node x ≡ true) (sym one) in_d in
        let numbers : number_in i.stage i.node b ≡ number_in j.stage j.node b =
        sym (number_is blocks i b at) ∙ e ∙ number_is blocks j b (d_at ∙ ap Some (sym one)) in
        let parts = in_one b i.stage j.stage i.node j.node in_b in_also numbers in
        ap (λ x. made x i.block i.node) parts.0 ∙ ap (λ x. made j.stage x i.node) same ∙ ap (λ x. made j.stage j.block x) parts.1

-- ---- one block more

pub no_blocks : (blocks : List Block) (count : ℕ) → blocks ≡ [] → AreBlocks blocks count
no_blocks blocks count bare = record {
  within = λ k b at. absurd (let none = ap (λ (xs : List Block). slice_get xs k) bare in cc);
  apart = λ j k a b less at also. absurd (let none = ap (λ (xs : List Block). slice_get xs j) bare in cc);
}

pub block_more : (blocks new : List Block) (b : Block) (count more : ℕ) → AreBlocks blocks count → new ≡ blocks ++ b ∷ [] → b.start ≡ count → more ≡ count + 6 * (b.end - b.low) → AreBlocks new more
block_more blocks new b count more are is start end = record { within = within; apart = apart } where
  at_new : (k : ℕ) (x : Block) → slice_get new k ≡ Some x → (slice_get blocks k ≡ Some x) ⊎ ((k ≡ length blocks) × (b ≡ x))
  at_new k x at = push_cases blocks b x k (ap (λ (xs : List Block). slice_get xs k) (sym is) ∙ at)

  within : (k : ℕ) (x : Block) → slice_get new k ≡ Some x → x.start + 6 * (x.end - x.low) ≤ more
  within k x at = elim (at_new k x at) [
    | inl old ↦ (let low = are.within k x old in omega arith)
    | inr (last, same) ↦ subst (λ (y : Block). y.start + 6 * (y.end - y.low) ≤ more) same (omega arith)
  ]

  apart : (j k : ℕ) (x y : Block) → j < k → slice_get new j ≡ Some x → slice_get new k ≡ Some y → x.start + 6 * (x.end - x.low) ≤ y.start
  apart j k x y less at also = elim (at_new k y also) [
    | inl old ↦ elim (at_new j x at) [
      | inl first ↦ are.apart j k x y less first old
      | inr (last, same) ↦ absurd (let low = slice_get_within blocks k y old in omega arith)
    ]
    | inr (last, same) ↦ elim (at_new j x at) [
      | inl first ↦ subst (λ (z : Block). x.start + 6 * (x.end - x.low) ≤ z.start) same (let low = are.within j x first in omega arith)
      | inr (first, also_same) ↦ absurd (omega arith)
    ]
  ]

-- ---- blocks that are laid one after the other

laid_low : (n : ℕ) (spans : List Span) (k : ℕ) (b : Block) → slice_get (laid n spans) k ≡ Some b → n ≤ b.start
laid_low n [] k b e = absurd cc
laid_low n (s ∷ spans) zero b e = let same : block_from s n ≡ b = cc in subst (λ (x : Block). n ≤ x.start) same (omega arith)
laid_low n (s ∷ spans) (suc k) b e = let low : n + 6 * (s.end - s.low) ≤ b.start = laid_low (n + 6 * (s.end - s.low)) spans k b e in omega arith

laid_within : (n : ℕ) (spans : List Span) (k : ℕ) (b : Block) → slice_get (laid n spans) k ≡ Some b → b.start + 6 * (b.end - b.low) ≤ n + room spans
laid_within n [] k b e = absurd cc
laid_within n (s ∷ spans) zero b e =
    let same : block_from s n ≡ b = cc in subst (λ (x : Block). x.start + 6 * (x.end - x.low) ≤ n + (6 * (s.end - s.low) + room spans)) same (omega arith)
laid_within n (s ∷ spans) (suc k) b e = let low : b.start + 6 * (b.end - b.low) ≤ (n + 6 * (s.end - s.low)) + room spans = laid_within (n + 6 * (s.end - s.low)) spans k b e in omega arith

laid_apart : (n : ℕ) (spans : List Span) (j k : ℕ) (a b : Block) → j < k → slice_get (laid n spans) j ≡ Some a → slice_get (laid n spans) k ≡ Some b
    → a.start + 6 * (a.end - a.low) ≤ b.start
laid_apart n [] j k a b low e f = absurd cc
laid_apart n (s ∷ spans) j zero a b low e f = absurd (omega arith)
laid_apart n (s ∷ spans) zero (suc k) a b low e f =
    let same : block_from s n ≡ a = cc in subst (λ (x : Block). x.start + 6 * (x.end - x.low) ≤ b.start) same (laid_low (n + 6 * (s.end - s.low)) spans k b f)
laid_apart n (s ∷ spans) (suc j) (suc k) a b low e f = laid_apart (n + 6 * (s.end - s.low)) spans j k a b (omega arith) e f

pub laid_blocks : (spans : List Span) → AreBlocks (laid 0 spans) (room spans)
laid_blocks spans = record { within = λ k b e. (let low : b.start + 6 * (b.end - b.low) ≤ 0 + room spans = laid_within 0 spans k b e in omega arith); apart = laid_apart 0 spans }
