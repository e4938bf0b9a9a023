-- The order of edits by their starts.
use Rattle.std.proofs.Common.{◌≡◌, ◌<◌, ◌≤◌, ◌+◌, ℕ, List, [], ◌∷◌, ◌++◌, length, get_or, ap, ◌∙◌, ⊎_elim, arith}
use Rattle.std.proofs.lemmas.Bool.{cases_lt}
use Rattle.std.proofs.lemmas.List.{length_push, get_or_push, get_or_append_left, get_or_default}
use Rattle.std.proofs.lemmas.List.Elements.{All-push, Contains-get_or}
use Rattle.std.proofs.lemmas.List.Sorted.{Contains-permutation, All-permutation}
use Rattle.std.specs.List.Sorted.{IsPermutation, IsNonDecreasingBy}
use Rattle.fix_apply.specs.declared.edits.Edit.{Edit}
use Rattle.fix_apply.specs.declared.rewriting.Spot.{Spot}
use Rattle.fix_apply.specs.Spots.{IsSpot, AreSpots, IsOrder, IsPassed, NoneStarts}

-- one more edit's spot
pub spots_more : (edits : List Edit) (spots : List Spot) (count : ℕ) (spot : Spot) → AreSpots edits spots count → IsSpot edits spot → spot.number ≡ count → AreSpots edits (spots ++ spot ∷ []) (count + 1)
spots_more edits spots count spot had is number = record {
  size = length_push spots spot ∙ ap (λ n. n + 1) had.size;
  each = All-push (IsSpot edits) spots spot had.each is;
  numbers = λ k d below. ⊎_elim
      (λ (early : k < count). ap (λ s. s.number) (get_or_append_left spots (spot ∷ []) d k (omega (arith, had.size))) ∙ had.numbers k d early)
      (λ (late : count ≤ k). let same : length spots ≡ k = omega (arith, had.size) in ap (λ s. s.number) (get_or_push spots spot d k same) ∙ (omega arith))
      (cases_lt k count);
}

-- spots in the order of their starts
pub order_of : (edits : List Edit) (spots sorted : List Spot) → AreSpots edits spots (length edits) → IsPermutation spots sorted → IsNonDecreasingBy (λ s. s.start) sorted → IsOrder edits sorted
order_of edits spots sorted are moved rises = record {
  each = All-permutation (IsSpot edits) spots sorted moved are.each;
  rises = rises;
  all = λ number below.
      let d : Spot = record { start = 0; number = 0 } in
      let found = Contains-permutation spots sorted (get_or spots number d) moved (Contains-get_or spots number d (omega (arith, are.size))) in
      (found.0, found.1, λ e. ap (λ s. s.number) (get_or_default sorted found.0 e (get_or spots number d) found.1 ∙ found.2) ∙ are.numbers number d below);
}

-- no edit starts at the offset where the spots before start earlier, and the spots from `first` on later
pub none_starts : (edits : List Edit) (spots : List Spot) (first at : ℕ) → IsOrder edits spots → IsPassed spots first at → ((d : Spot) → first < length spots → at < (get_or spots first d).start) → NoneStarts edits at
none_starts edits spots first at order passed later i d below same =
    let s : Spot = record { start = 0; number = 0 } in
    let found = order.all i below in
    let k = found.0 in
    let starts : (get_or spots k s).start ≡ (get_or edits (get_or spots k s).number d).start = (order.each k s found.1).starts d in
    let number : (get_or spots k s).number ≡ i = found.2 s in
    let start : (get_or spots k s).start ≡ at = starts ∙ ap (λ n. (get_or edits n d).start) number ∙ same in
    ⊎_elim
    (λ (early : k < first). omega (arith, passed k s early, start))
    (λ (late : first ≤ k). let there : first < length spots = omega (arith, found.1) in omega (arith, later s there, order.rises first k s late found.1, start))
    (cases_lt k first)
