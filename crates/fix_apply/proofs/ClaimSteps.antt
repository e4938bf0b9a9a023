-- Steps of the choice of fixes.
use Rattle.std.proofs.Common.{◌≡◌, ◌≢◌, ◌<◌, ◌≤◌, ◌+◌, ◌&&◌, ℕ, zero, suc, Bool, true, false, cond, ltb, List, length, get_or, set, replicate, refl, sym, ap, ◌∙◌, subst, inl, inr, ⊎_elim, arith}
use Rattle.std.proofs.lemmas.Bool.{cases_lt, cases_eq, false≢true}
use Rattle.std.proofs.lemmas.Bool.Decides.{nat_tests}
use Rattle.std.proofs.lemmas.List.{length-set, get_or-set_same, get_or-set_other, length-replicate, get_or-replicate, get_or_default}
use Rattle.std.specs.List.{Contains}
use Rattle.fix_apply.specs.declared.edits.Edit.{Edit}
use Rattle.fix_apply.specs.declared.edits.Fix.{Fix}
use Rattle.fix_apply.specs.declared.choices.Choice.{Choice}
use Rattle.fix_apply.specs.declared.choices.Choice.TheVariants.{Applied, Overlaps}
use Rattle.fix_apply.specs.declared.slot.Slot.{Slot}
use Rattle.fix_apply.specs.declared.tree.Node.{Node}
use Rattle.fix_apply.specs.Choices.{fix_at, choice_at, Clash, Blocks, IsRight, Chosen}
use Rattle.fix_apply.specs.Slots.{slot_of, IsSlotOf, AreSlots}
use Rattle.fix_apply.specs.Trees.{slot_at, node_at, IsTree, IsOpen, AllOpen, OthersStay, Meets, Hits}
use Rattle.fix_apply.specs.Claims.{RightUpTo, IsDecided, Claims, Claiming, IsPassedBy, OnlyCloses, is_applied, claimed_by, open_of}

-- what blocks looks at one choice alone
pub blocks_move : (fixes : List Fix) (a b : List Choice) (earlier number : ℕ) → choice_at b earlier ≡ choice_at a earlier → Blocks fixes a earlier number → Blocks fixes b earlier number
blocks_move fixes a b earlier number same blocks = record { before = blocks.before; applied = same ∙ blocks.applied; clash = blocks.clash }

right_moves : (fixes : List Fix) (a b : List Choice) (done bound number : ℕ) (c : Choice) → done ≤ bound → ((e : ℕ) → e < bound → choice_at b e ≡ choice_at a e) → RightUpTo fixes a done bound number c → RightUpTo fixes b done bound number c
right_moves fixes a b done bound number Applied order same right = λ earlier below blocks. right earlier below (blocks_move fixes b a earlier number (sym (same earlier (omega arith))) blocks)
right_moves fixes a b done bound number (Overlaps first) order same right =
    (right.0, blocks_move fixes a b first number (same first right.0) right.1, λ earlier less blocks. right.2 earlier less (blocks_move fixes b a earlier number (sym (same earlier (omega (arith, right.0)))) blocks))

not_applied : (first : ℕ) → Overlaps first ≢ Applied
not_applied first same = cc

applied_test : (c : Choice) → c ≡ Applied → is_applied c ≡ true
applied_test c is = ap is_applied is

test_applied : (c : Choice) → is_applied c ≡ true → c ≡ Applied
test_applied Applied is = refl
test_applied (Overlaps first) is = absurd (false≢true is)

test_not_applied : (c : Choice) → is_applied c ≡ false → c ≢ Applied
test_not_applied c not_is is = absurd (false≢true (sym not_is ∙ applied_test c is))

-- the edit of the fix and the slot's edit clash
clash_of : (fixes : List Fix) (fix : ℕ) (slot : Slot) (edit : Edit) → Contains (fix_at fixes fix).edits edit → IsSlotOf fixes slot → Meets slot (fix_at fixes fix).file edit.start edit.end → Clash (fix_at fixes fix) (fix_at fixes slot.fix)
clash_of fixes fix slot edit has is meets =
    let start : slot.start ≡ is.edit.start = ap (λ (s : Slot). s.start) is.is in
    let end : slot.end ≡ is.edit.end = ap (λ (s : Slot). s.end) is.is in
    let file : slot.file ≡ (fix_at fixes slot.fix).file = ap (λ (s : Slot). s.file) is.is in
    record {
      file = sym meets.file_is ∙ file;
      left = edit;
      right = is.edit;
      of_a = has;
      of_b = is.of;
      overlap = ⊎_elim
          (λ (same : slot.start ≡ edit.start). inl (omega arith))
          (λ (both : (slot.start < edit.end) × (edit.start < slot.end)). inr (omega (arith, both.1), omega (arith, both.0)))
          meets.overlap;
    }

choice_set_same : (choices : List Choice) (k : ℕ) (c : Choice) → k < length choices → choice_at (set choices k c) k ≡ c
choice_set_same choices k c below = get_or-set_same choices k c Applied below

choice_set_other : (choices : List Choice) (k e : ℕ) (c : Choice) → e ≢ k → choice_at (set choices k c) e ≡ choice_at choices e
choice_set_other choices k e c other = get_or-set_other choices k e c Applied other

-- a slot that stays closed was closed
was_closed : (slots : List Slot) (old new : List Node) (p q : ℕ) → OthersStay slots old new p → q < length slots → q ≢ p → ¬ (IsOpen slots new q) → ¬ (IsOpen slots old q)
was_closed slots old new p q others below other closed is_open = closed (subst (λ (n : Node). 0 < n.reach) (sym (others q below other)) is_open)

-- the fix is claimed
claim_later : (fixes : List Fix) (slots : List Slot) (fix : ℕ) (old new : List Node) (choices : List Choice) (p : ℕ) (edit : Edit) → Claiming fixes slots fix old choices → Contains (fix_at fixes fix).edits edit → Hits slots old p (fix_at fixes fix).file edit.start edit.end → IsTree slots new → OthersStay slots old new p → fix < (slot_at slots p).fix → choice_at choices (slot_at slots p).fix ≡ Applied → Claiming fixes slots fix new (set choices (slot_at slots p).fix (Overlaps fix))
claim_later fixes slots fix old new choices p edit had has hit tree others later free =
    let slot = slot_at slots p in
    let k = (slot_at slots p).fix in
    let is : IsSlotOf fixes (slot_at slots p) = had.claims.are.each p _ hit.within in
    let number : k < length fixes = is.number in
    let below : k < length choices = omega (arith, had.claims.size) in
    let after = set choices (slot_at slots p).fix (Overlaps fix) in
    let same : (e : ℕ) → e < fix + 1 → choice_at after e ≡ choice_at choices e = λ e early. choice_set_other choices k e (Overlaps fix) (omega arith) in
    let claimed : choice_at after k ≡ Overlaps fix = choice_set_same choices k (Overlaps fix) below in
    let was : RightUpTo fixes choices fix (fix + 1) k Applied = subst (RightUpTo fixes choices fix (fix + 1) k) free (had.claims.right k number) in
    record {
      claims = record {
        size = length-set choices k (Overlaps fix) ∙ had.claims.size;
        are = had.claims.are;
        tree = tree;
        closed = λ q within closed. ⊎_elim
            (λ (here : q ≡ p). inr (λ applied. not_applied fix (sym (ap (λ n. choice_at after (slot_at slots n).fix) here ∙ claimed) ∙ applied)))
            (λ (there : q ≢ p). ⊎_elim
            (λ (early : (slot_at slots q).fix < fix + 1). inl early)
            (λ (other : choice_at choices (slot_at slots q).fix ≢ Applied). inr (λ applied. ⊎_elim
            (λ (one : (slot_at slots q).fix ≡ k). not_applied fix (sym (ap (choice_at after) one ∙ claimed) ∙ applied))
            (λ (two : (slot_at slots q).fix ≢ k). other (sym (choice_set_other choices k (slot_at slots q).fix (Overlaps fix) two) ∙ applied))
            (cases_eq ((slot_at slots q).fix) k)))
            (had.claims.closed q within (was_closed slots old new p q others within there closed)))
            (cases_eq q p);
        right = λ n within. ⊎_elim
            (λ (one : n ≡ k).
            subst (λ (m : ℕ). RightUpTo fixes after fix (fix + 1) m (choice_at after m)) (sym one)
            (subst (RightUpTo fixes after fix (fix + 1) k) (sym claimed) (
              omega arith,
              record { before = later; applied = same fix (omega arith) ∙ had.applied; clash = clash_of fixes fix slot edit has is hit.meets },
              λ earlier less blocks. was earlier less (blocks_move fixes after choices earlier k (sym (same earlier (omega arith))) blocks),
            )))
            (λ (two : n ≢ k).
            subst (RightUpTo fixes after fix (fix + 1) n) (sym (choice_set_other choices k n (Overlaps fix) two))
            (right_moves fixes choices after fix (fix + 1) n (choice_at choices n) (omega arith) same (had.claims.right n within)))
            (cases_eq n k);
      };
      within = had.within;
      applied = same fix (omega arith) ∙ had.applied;
    }

-- the fix is not claimed
claim_none : (fixes : List Fix) (slots : List Slot) (fix : ℕ) (old new : List Node) (choices : List Choice) (p : ℕ) → Claiming fixes slots fix old choices → IsTree slots new → OthersStay slots old new p → IsDecided slots choices (fix + 1) p → Claiming fixes slots fix new choices
claim_none fixes slots fix old new choices p had tree others decided = record {
  claims = record {
    size = had.claims.size;
    are = had.claims.are;
    tree = tree;
    closed = λ q within closed. ⊎_elim
        (λ (here : q ≡ p). subst (IsDecided slots choices (fix + 1)) (sym here) decided)
        (λ (there : q ≢ p). had.claims.closed q within (was_closed slots old new p q others within there closed))
        (cases_eq q p);
    right = had.claims.right;
  };
  within = had.within;
  applied = had.applied;
}

claim_cases : (fixes : List Fix) (slots : List Slot) (fix : ℕ) (old new : List Node) (choices : List Choice) (p : ℕ) (edit : Edit) (later free : Bool) → Claiming fixes slots fix old choices → Contains (fix_at fixes fix).edits edit → Hits slots old p (fix_at fixes fix).file edit.start edit.end → IsTree slots new → OthersStay slots old new p → ltb fix (slot_at slots p).fix ≡ later → is_applied (choice_at choices (slot_at slots p).fix) ≡ free → Claiming fixes slots fix new (cond (later && free) (set choices (slot_at slots p).fix (Overlaps fix)) choices)
claim_cases fixes slots fix old new choices p edit true true had has hit tree others later free = claim_later fixes slots fix old new choices p edit had has hit tree others (grind (arith, nat_tests)) (test_applied (choice_at choices (slot_at slots p).fix) free)
claim_cases fixes slots fix old new choices p edit true false had has hit tree others later free = claim_none fixes slots fix old new choices p had tree others (inr (test_not_applied (choice_at choices (slot_at slots p).fix) free))
claim_cases fixes slots fix old new choices p edit false free had has hit tree others later is = claim_none fixes slots fix old new choices p had tree others (inl (grind (arith, nat_tests)))

pub claim_step : (fixes : List Fix) (slots : List Slot) (fix : ℕ) (old new : List Node) (choices after : List Choice) (p : ℕ) (edit : Edit) → Claiming fixes slots fix old choices → Contains (fix_at fixes fix).edits edit → Hits slots old p (fix_at fixes fix).file edit.start edit.end → IsTree slots new → OthersStay slots old new p → after ≡ claimed_by choices fix (slot_at slots p).fix → Claiming fixes slots fix new after
claim_step fixes slots fix old new choices after p edit had has hit tree others is =
    subst (Claiming fixes slots fix new) (sym is) (claim_cases fixes slots fix old new choices p edit (ltb fix (slot_at slots p).fix) (is_applied (choice_at choices (slot_at slots p).fix)) had has hit tree others refl refl)

-- the slot's number stands among the choices
pub claim_within : (fixes : List Fix) (slots : List Slot) (fix : ℕ) (nodes : List Node) (choices : List Choice) (p : ℕ) → Claiming fixes slots fix nodes choices → p < length slots → (slot_at slots p).fix < length choices
claim_within fixes slots fix nodes choices p had within =
    let is : IsSlotOf fixes (slot_at slots p) = had.claims.are.each p _ within in
    omega (arith, is.number, had.claims.size)

-- closing a slot opens none
pub closes_one : (slots : List Slot) (first old new : List Node) (p : ℕ) → OnlyCloses slots first old → OthersStay slots old new p → ¬ (IsOpen slots new p) → OnlyCloses slots first new
closes_one slots first old new p before others closed q within is_open = ⊎_elim
    (λ (here : q ≡ p). absurd (closed (subst (IsOpen slots new) here is_open)))
    (λ (there : q ≢ p). before q within (subst (λ (n : Node). 0 < n.reach) (others q within there) is_open))
    (cases_eq q p)

-- 1 where a leaf is open
abbrev open_bit : ℕ → ℕ
open_bit reach = cond (ltb 0 reach) 1 0

-- fewer slots are open
open_same : (slots : List Slot) (old new : List Node) (p count : ℕ) → OthersStay slots old new p → count ≤ p → count ≤ length slots → open_of slots new count ≡ open_of slots old count
open_same slots old new p zero others before within = refl
open_same slots old new p (suc count) others before within =
    (λ i. open_same slots old new p count others (omega arith) (omega arith) i + open_bit (others count (omega arith) (omega arith) i).reach)

one_open : (reach : ℕ) → 0 < reach → open_bit reach ≡ 1
one_open reach some = grind (arith, nat_tests)

none_open : (reach : ℕ) → ¬ (0 < reach) → open_bit reach ≡ 0
none_open reach none = let zero : reach ≡ 0 = omega (arith, none) in ap open_bit zero

pub open_less : (slots : List Slot) (old new : List Node) (p count : ℕ) → OthersStay slots old new p → p < count → count ≤ length slots → IsOpen slots old p → ¬ (IsOpen slots new p) → open_of slots new count < open_of slots old count
open_less slots old new p zero others before within was is = absurd (omega arith)
open_less slots old new p (suc count) others before within was is = ⊎_elim
    (λ (here : count ≡ p).
    let old_one = one_open ((node_at old (length slots + count)).reach) (subst (IsOpen slots old) (sym here) was) in
    let new_none = none_open ((node_at new (length slots + count)).reach) (λ some. is (subst (IsOpen slots new) here some)) in
    omega (arith, old_one, new_none, open_same slots old new p count others (omega arith) (omega arith)))
    (λ (there : count ≢ p).
    let same = ap (λ (n : Node). open_bit n.reach) (others count (omega arith) there) in
    omega (arith, same, open_less slots old new p count others (omega arith) (omega arith) was is))
    (cases_eq count p)

-- all edits of the fix are gone through
finish_right : (fixes : List Fix) (slots : List Slot) (fix : ℕ) (nodes : List Node) (choices : List Choice) (number : ℕ) (c : Choice) → Claiming fixes slots fix nodes choices → ((e : Edit) → Contains (fix_at fixes fix).edits e → IsPassedBy slots nodes (fix_at fixes fix).file e) → number < length fixes → choice_at choices number ≡ c → RightUpTo fixes choices fix (fix + 1) number c → RightUpTo fixes choices (fix + 1) (fix + 1) number c
finish_right fixes slots fix nodes choices number Applied had passed within is right = λ earlier below blocks. ⊎_elim
    (λ (before : earlier < fix). right earlier before blocks)
    (λ (not_before : fix ≤ earlier).
    let here : earlier ≡ fix = omega arith in
    let by_fix : Blocks fixes choices fix number = subst (λ (e : ℕ). Blocks fixes choices e number) here blocks in
    let clash = by_fix.clash in
    let slot = slot_of (fix_at fixes number) number clash.right in
    let found = had.claims.are.all number clash.right within clash.of_b in
    let at : slot_at slots found.0 ≡ slot = get_or_default slots found.0 _ slot found.1 ∙ found.2 in
    let meets : Meets slot (fix_at fixes fix).file clash.left.start clash.left.end = record {
      file_is = sym clash.file;
      overlap = ⊎_elim
          (λ (same : clash.left.start ≡ clash.right.start). inl (sym same))
          (λ (both : (clash.left.start < clash.right.end) × (clash.right.start < clash.left.end)). inr (both.1, both.0))
          clash.overlap;
    } in
    let closed = passed clash.left clash.of_a found.0 found.1 (subst (λ (s : Slot). Meets s (fix_at fixes fix).file clash.left.start clash.left.end) (sym at) meets) in
    let same_fix : (slot_at slots found.0).fix ≡ number = ap (λ (s : Slot). s.fix) at in
    ⊎_elim
    (λ (early : (slot_at slots found.0).fix < fix + 1). omega (arith, early, same_fix, by_fix.before))
    (λ (other : choice_at choices (slot_at slots found.0).fix ≢ Applied). other (ap (choice_at choices) same_fix ∙ is))
    (had.claims.closed found.0 found.1 closed))
    (cases_lt earlier fix)
finish_right fixes slots fix nodes choices number (Overlaps first) had passed within is right = right

pub claim_finish : (fixes : List Fix) (slots : List Slot) (fix : ℕ) (nodes : List Node) (choices : List Choice) → Claiming fixes slots fix nodes choices → ((e : Edit) → Contains (fix_at fixes fix).edits e → IsPassedBy slots nodes (fix_at fixes fix).file e) → Claims fixes slots (fix + 1) (fix + 1) nodes choices
claim_finish fixes slots fix nodes choices had passed = record {
  size = had.claims.size;
  are = had.claims.are;
  tree = had.claims.tree;
  closed = had.claims.closed;
  right = λ number within. finish_right fixes slots fix nodes choices number (choice_at choices number) had passed within refl (had.claims.right number within);
}

-- a fix that isn't applied blocks none
skip_right : (fixes : List Fix) (choices : List Choice) (fix number : ℕ) (c : Choice) → choice_at choices fix ≢ Applied → RightUpTo fixes choices fix fix number c → RightUpTo fixes choices (fix + 1) (fix + 1) number c
skip_right fixes choices fix number Applied skipped right = λ earlier below blocks. ⊎_elim
    (λ (before : earlier < fix). right earlier before blocks)
    (λ (not_before : fix ≤ earlier). let here : earlier ≡ fix = omega arith in skipped (ap (choice_at choices) (sym here) ∙ blocks.applied))
    (cases_lt earlier fix)
skip_right fixes choices fix number (Overlaps first) skipped right = (omega (arith, right.0), right.1, right.2)

decided_more : (slots : List Slot) (choices : List Choice) (bound p : ℕ) → IsDecided slots choices bound p → IsDecided slots choices (bound + 1) p
decided_more slots choices bound p (inl early) = inl (omega arith)
decided_more slots choices bound p (inr other) = inr other

pub claim_skip : (fixes : List Fix) (slots : List Slot) (fix : ℕ) (nodes : List Node) (choices : List Choice) → Claims fixes slots fix fix nodes choices → is_applied (choice_at choices fix) ≡ false → Claims fixes slots (fix + 1) (fix + 1) nodes choices
claim_skip fixes slots fix nodes choices had skipped = record {
  size = had.size;
  are = had.are;
  tree = had.tree;
  closed = λ p within closed. decided_more slots choices fix p (had.closed p within closed);
  right = λ number within. skip_right fixes choices fix number (choice_at choices number) (test_not_applied (choice_at choices fix) skipped) (had.right number within);
}

-- an applied fix is gone through
widen_right : (fixes : List Fix) (choices : List Choice) (fix number : ℕ) (c : Choice) → RightUpTo fixes choices fix fix number c → RightUpTo fixes choices fix (fix + 1) number c
widen_right fixes choices fix number Applied right = right
widen_right fixes choices fix number (Overlaps first) right = (omega (arith, right.0), right.1, right.2)

pub claim_begin : (fixes : List Fix) (slots : List Slot) (fix : ℕ) (nodes : List Node) (choices : List Choice) → Claims fixes slots fix fix nodes choices → fix < length fixes → is_applied (choice_at choices fix) ≡ true → Claiming fixes slots fix nodes choices
claim_begin fixes slots fix nodes choices had within applied = record {
  claims = record {
    size = had.size;
    are = had.are;
    tree = had.tree;
    closed = λ p below closed. decided_more slots choices fix p (had.closed p below closed);
    right = λ number below. widen_right fixes choices fix number (choice_at choices number) (had.right number below);
  };
  within = within;
  applied = test_applied (choice_at choices fix) applied;
}

-- at the start nothing is claimed
pub claim_start : (fixes : List Fix) (slots : List Slot) (nodes : List Node) (choices : List Choice) → AreSlots fixes slots → IsTree slots nodes → AllOpen slots nodes → choices ≡ replicate (length fixes) Applied → Claims fixes slots 0 0 nodes choices
claim_start fixes slots nodes choices are tree all_open is = record {
  size = ap length is ∙ length-replicate (length fixes) Applied;
  are = are;
  tree = tree;
  closed = λ p within closed. absurd (closed (all_open p within));
  right = λ number within.
      let free : choice_at choices number ≡ Applied = ap (λ (l : List Choice). choice_at l number) is ∙ get_or-replicate (length fixes) number Applied Applied within in
      subst (RightUpTo fixes choices 0 0 number) (sym free) (λ earlier below blocks. omega arith);
}

-- at the end the choices are right
end_right : (fixes : List Fix) (choices : List Choice) (count number : ℕ) (c : Choice) → number < count → RightUpTo fixes choices count count number c → IsRight fixes choices number c
end_right fixes choices count number Applied within right = λ earlier blocks. right earlier (omega (arith, blocks.before)) blocks
end_right fixes choices count number (Overlaps first) within right = (right.1, right.2)

pub claim_end : (fixes : List Fix) (slots : List Slot) (nodes : List Node) (choices : List Choice) (count : ℕ) → count ≡ length fixes → Claims fixes slots count count nodes choices → Chosen fixes choices
claim_end fixes slots nodes choices count all had = record {
  size = had.size;
  each = λ number within. end_right fixes choices count number (choice_at choices number) (omega arith) (had.right number within);
}

-- an edit that met no open slot meets none later
still_passed : (slots : List Slot) (old new : List Node) (file : ℕ) (edit : Edit) → IsPassedBy slots old file edit → OnlyCloses slots old new → IsPassedBy slots new file edit
still_passed slots old new file edit passed closes p within meets is_open = passed p within meets (closes p within is_open)

pub passed_more : (slots : List Slot) (old new : List Node) (file : ℕ) (edits : List Edit) (count : ℕ) (edit : Edit) → ((j : ℕ) (d : Edit) → j < count → IsPassedBy slots old file (get_or edits j d)) → OnlyCloses slots old new → count < length edits → edit ≡ get_or edits count edit → IsPassedBy slots new file edit → (j : ℕ) (d : Edit) → j < count + 1 → IsPassedBy slots new file (get_or edits j d)
passed_more slots old new file edits count edit had closes within is passed j d below = ⊎_elim
    (λ (early : j < count). still_passed slots old new file (get_or edits j d) (had j d early) closes)
    (λ (late : count ≤ j).
    let here : j ≡ count = omega arith in
    subst (λ (n : ℕ). IsPassedBy slots new file (get_or edits n d)) (sym here)
    (subst (IsPassedBy slots new file) (is ∙ get_or_default edits count edit d within) passed))
    (cases_lt j count)

pub all_passed : (slots : List Slot) (nodes : List Node) (file : ℕ) (edits : List Edit) (count : ℕ) → ((j : ℕ) (d : Edit) → j < count → IsPassedBy slots nodes file (get_or edits j d)) → count ≡ length edits → (e : Edit) → Contains edits e → IsPassedBy slots nodes file e
all_passed slots nodes file edits count passed all e has = subst (IsPassedBy slots nodes file) has.2 (passed has.0 e (omega (arith, has.1)))
