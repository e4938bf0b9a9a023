-- The list of all slots.
use Rattle.std.proofs.Common.{◌≡◌, ◌<◌, ◌≤◌, ◌+◌, ℕ, suc, zero, List, [], ◌++◌, length, map, get_or, refl, sym, ap, ◌∙◌, subst, ⊎_elim, zero-add, arith}
use Rattle.std.proofs.lemmas.Bool.{cases_lt}
use Rattle.std.proofs.lemmas.List.{length-map, get_or-map, get_or_read}
use Rattle.std.proofs.lemmas.List.Elements.{All-nil, All-append, All-map, All-weaker, All-contains_itself, Contains-append_left, Contains-append_right}
use Rattle.std.proofs.lemmas.List.Sorted.{All-permutation, Contains-permutation, IsPermutation-trans}
use Rattle.std.specs.List.{All, Contains}
use Rattle.std.specs.List.Sorted.{IsPermutation}
use Rattle.fix_apply.specs.declared.edits.Edit.{Edit}
use Rattle.fix_apply.specs.declared.edits.Fix.{Fix}
use Rattle.fix_apply.specs.declared.slot.Slot.{Slot}
use Rattle.fix_apply.specs.Choices.{fix_at}
use Rattle.fix_apply.specs.Slots.{slot_of, slots_of, slots_below, IsSlotOf, AreSlots}
use Rattle.fix_apply.proofs.Pieces.{pieces_suc, pieces_more}

pub fix_read : (fixes : List Fix) (number : ℕ) (fix : Fix) → number < length fixes → fix ≡ get_or fixes number fix → fix ≡ fix_at fixes number
fix_read fixes number fix below is = get_or_read fixes number fix below is (record { file = 0; edits = [] })

-- one more fix
pub slots_more : (fixes : List Fix) (number : ℕ) (fix : Fix) (old new : List Slot) → number < length fixes → fix ≡ get_or fixes number fix → old ≡ slots_below fixes number → new ≡ old ++ map (slot_of fix number) fix.edits → new ≡ slots_below fixes (number + 1)
slots_more fixes number fix old new below is before adds =
    let same = fix_read fixes number fix below is in
    adds
    ∙ (λ i. before i ++ map (slot_of (same i) number) (same i).edits)
    ∙ sym (pieces_more (slots_of fixes) number)

Contains-map : {X Y : Type 0} (f : X → Y) (xs : List X) (x : X) → Contains xs x → Contains (map f xs) (f x)
Contains-map f xs x has = (has.0, omega (arith, length-map xs f, has.1), get_or-map f xs has.0 x (f x) has.1 ∙ ap f has.2)

each_of : (fixes : List Fix) (number : ℕ) → number < length fixes → All (IsSlotOf fixes) (slots_of fixes number)
each_of fixes number below =
    All-map (IsSlotOf fixes) (slot_of (fix_at fixes number) number) (fix_at fixes number).edits
    (All-weaker (Contains (fix_at fixes number).edits) (λ e. IsSlotOf fixes (slot_of (fix_at fixes number) number e)) (λ e has. record { number = below; edit = e; of = has; is = refl }) (fix_at fixes number).edits (All-contains_itself (fix_at fixes number).edits))

each_below : (fixes : List Fix) (count : ℕ) → count ≤ length fixes → All (IsSlotOf fixes) (slots_below fixes count)
each_below fixes zero within = All-nil (IsSlotOf fixes)
each_below fixes (suc count) within =
    subst (All (IsSlotOf fixes)) (sym (pieces_suc (slots_of fixes) 0 count ∙ ap (λ n. slots_below fixes count ++ slots_of fixes n) (zero-add count)))
    (All-append (IsSlotOf fixes) (slots_below fixes count) (slots_of fixes count) (each_below fixes count (omega arith)) (each_of fixes count (omega arith)))

all_below : (fixes : List Fix) (count number : ℕ) (edit : Edit) → number < count → Contains (fix_at fixes number).edits edit → Contains (slots_below fixes count) (slot_of (fix_at fixes number) number edit)
all_below fixes zero number edit below has = absurd (omega arith)
all_below fixes (suc count) number edit below has =
    let slot = slot_of (fix_at fixes number) number edit in
    let parts : slots_below fixes (suc count) ≡ slots_below fixes count ++ slots_of fixes count = pieces_suc (slots_of fixes) 0 count ∙ ap (λ n. slots_below fixes count ++ slots_of fixes n) (zero-add count) in
    subst (λ (l : List Slot). Contains l slot) (sym parts)
    (⊎_elim
    (λ (early : number < count). Contains-append_left (slots_below fixes count) (slots_of fixes count) slot (all_below fixes count number edit early has))
    (λ (late : count ≤ number).
    let same : number ≡ count = omega arith in
    Contains-append_right (slots_below fixes count) (slots_of fixes count) slot
    (subst (λ (n : ℕ). Contains (slots_of fixes n) slot) same (Contains-map (slot_of (fix_at fixes number) number) (fix_at fixes number).edits edit has)))
    (cases_lt number count))

pub are_slots : (fixes : List Fix) (first second slots : List Slot) → first ≡ slots_below fixes (length fixes) → IsPermutation first second → IsPermutation second slots → AreSlots fixes slots
are_slots fixes first second slots is moved again =
    let whole = subst (λ (l : List Slot). IsPermutation l slots) is (IsPermutation-trans first second slots moved again) in
    record {
      each = All-permutation (IsSlotOf fixes) (slots_below fixes (length fixes)) slots whole (each_below fixes (length fixes) (omega arith));
      all = λ number edit below has. Contains-permutation (slots_below fixes (length fixes)) slots (slot_of (fix_at fixes number) number edit) whole (all_below fixes (length fixes) number edit below has);
    }
