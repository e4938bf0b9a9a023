-- What a rewriting writes at each offset.
use Rattle.std.proofs.Common.{◌≡◌, ◌≢◌, ◌<◌, ◌≤◌, ◌+◌, ℕ, suc, zero, true, false, ltb, List, [], ◌∷◌, ◌++◌, length, get_or, max, refl, sym, ap, ◌∙◌, inl, ⊎_elim, arith}
use Rattle.std.proofs.lemmas.Bool.{cases_lt, cases_eq}
use Rattle.std.proofs.lemmas.Bool.Decides.{nat_tests}
use Rattle.std.proofs.lemmas.List.{append-nil, append_assoc, get_or_default}
use Rattle.std.proofs.lemmas.List.Folds.{list_any_none, list_any_at}
use Rattle.std.specs.List.{flat_map, list_any, range_with_len}
use Rattle.fix_apply.proofs.Pieces.{pieces_more}
use Rattle.fix_apply.specs.declared.edits.Edit.{Edit}
use Rattle.fix_apply.specs.declared.rewriting.Spot.{Spot}
use Rattle.fix_apply.specs.declared.rewriting.Cursor.{Cursor}
use Rattle.fix_apply.specs.Rewriting.{AreApart, text_at, covers, inserted, kept}
use Rattle.fix_apply.specs.Spots.{IsPassed, NoneStarts, Starts, Stands}

-- pieces that are all empty
flat_map_none : {X : Type 0} (f : X → List ℕ) (xs : List X) → ((k : ℕ) (d : X) → k < length xs → f (get_or xs k d) ≡ []) → flat_map f xs ≡ []
flat_map_none f [] none = refl
flat_map_none f (x ∷ xs) none = ap (λ l. l ++ flat_map f xs) (none 0 x (omega arith)) ∙ flat_map_none f xs (λ k d below. none (suc k) d (omega arith))

-- pieces that are all empty but one
flat_map_one : {X : Type 0} (f : X → List ℕ) (xs : List X) (i : ℕ) (e : X) → i < length xs → ((k : ℕ) (d : X) → k < length xs → k ≢ i → f (get_or xs k d) ≡ []) → flat_map f xs ≡ f (get_or xs i e)
flat_map_one f [] i e below others = absurd (omega arith)
flat_map_one f (x ∷ xs) zero e below others = ap (λ l. f x ++ l) (flat_map_none f xs (λ k d more. others (suc k) d (omega arith) (omega arith))) ∙ append-nil (f x)
flat_map_one f (x ∷ xs) (suc i) e below others = ap (λ l. l ++ flat_map f xs) (others 0 x (omega arith) (omega arith)) ∙ flat_map_one f xs i e (omega arith) (λ k d more other. others (suc k) d (omega arith) (omega arith))

-- an edit that starts elsewhere inserts nothing, one that starts there its text
text_none : (at : ℕ) (e : Edit) → e.start ≢ at → text_at at e ≡ []
text_none at e other = grind (arith, nat_tests)

text_some : (at : ℕ) (e : Edit) → e.start ≡ at → text_at at e ≡ e.text
text_some at e same = grind (arith, nat_tests)

pub none_inserted : (edits : List Edit) (at : ℕ) → NoneStarts edits at → inserted edits at ≡ []
none_inserted edits at none = flat_map_none (text_at at) edits (λ k d below. text_none at (get_or edits k d) (none k d below))

-- two edits that are apart start at two offsets
one_start : (edits : List Edit) (i k : ℕ) (d : Edit) → AreApart edits → i < length edits → k < length edits → k ≢ i → (get_or edits i d).start ≡ (get_or edits k d).start → ⊥
one_start edits i k d apart first second other same =
    ⊎_elim
    (λ (less : i < k). apart i k d less second (inl same))
    (λ (more : k ≤ i). let before : k < i = omega arith in apart k i d before first (inl (sym same)))
    (cases_lt i k)

pub one_inserted : (edits : List Edit) (number at : ℕ) (e : Edit) → AreApart edits → Starts edits number at → e ≡ get_or edits number e → inserted edits at ≡ e.text
one_inserted edits number at e apart starts is =
    flat_map_one (text_at at) edits number e starts.0 (λ k d below other. text_none at (get_or edits k d) (λ same. one_start edits number k d apart starts.0 below other (starts.1 d ∙ sym same)))
    ∙ text_some at (get_or edits number e) (starts.1 e)
    ∙ ap (λ x. x.text) (sym is)

-- past an offset where no edit starts
pub past_none : (edits : List Edit) (spots : List Spot) (cursor : Cursor) (next at : ℕ) → Stands edits spots cursor at → IsPassed spots next at → NoneStarts edits at → Stands edits spots (record { next = next; covered_to = cursor.covered_to }) (at + 1)
past_none edits spots cursor next at had passed none = record {
  passed = λ k d below. let early = passed k d below in omega arith;
  bound = λ i d below starts. let other = none i d below in had.bound i d below (omega arith);
  comes = λ some. let old = had.comes some in (old.0, old.1, λ d. (let early = (old.2 d).0 in omega arith, (old.2 d).1));
}

-- past an offset where one does
pub past_some : (edits : List Edit) (spots : List Spot) (cursor : Cursor) (next number at covered_to : ℕ) (e : Edit) → AreApart edits → Stands edits spots cursor at → IsPassed spots next at → Starts edits number at → e ≡ get_or edits number e → covered_to ≡ max cursor.covered_to e.end → Stands edits spots (record { next = next; covered_to = covered_to }) (at + 1)
past_some edits spots cursor next number at covered_to e apart had passed starts is reach = record {
  passed = λ k d below. let early = passed k d below in omega arith;
  bound = λ i d below begins. ⊎_elim
      (λ (early : (get_or edits i d).start < at). omega (arith, had.bound i d below early, reach))
      (λ (here : at ≤ (get_or edits i d).start).
      let same : (get_or edits i d).start ≡ (get_or edits number d).start = omega (arith, starts.1 d) in
      ⊎_elim
      (λ (one : i ≡ number). let ends : (get_or edits i d).end ≡ e.end = ap (λ n. (get_or edits n d).end) one ∙ ap (λ x. x.end) (get_or_default edits number d e starts.0 ∙ sym is) in omega (arith, ends, reach))
      (λ (two : i ≢ number). absurd (one_start edits number i d apart starts.0 below two (sym same)))
      (cases_eq i number))
      (cases_lt ((get_or edits i d).start) at);
  comes = λ some. ⊎_elim
      (λ (new : cursor.covered_to < e.end).
      (number, starts.0, λ d. (let begins = starts.1 d in omega arith, ap (λ x. x.end) (get_or_default edits number d e starts.0 ∙ sym is) ∙ (omega (arith, reach)))))
      (λ (old : e.end ≤ cursor.covered_to).
      let had_some : 0 < cursor.covered_to = omega (arith, reach) in
      let witness = had.comes had_some in
      (witness.0, witness.1, λ d. (let early = (witness.2 d).0 in omega arith, (witness.2 d).1 ∙ (omega (arith, reach)))))
      (cases_lt cursor.covered_to e.end);
}

covers_true : (at : ℕ) (e : Edit) → e.start ≤ at → at < e.end → covers at e ≡ true
covers_true at e starts ends = grind (arith, nat_tests)

covers_late : (at : ℕ) (e : Edit) → at < e.start → covers at e ≡ false
covers_late at e late = grind (arith, nat_tests)

covers_past : (at : ℕ) (e : Edit) → e.end ≤ at → covers at e ≡ false
covers_past at e past = grind (arith, nat_tests)

less_true : (a b : ℕ) → a < b → ltb a b ≡ true
less_true a b less = grind (arith, nat_tests)

less_false : (a b : ℕ) → b ≤ a → ltb a b ≡ false
less_false a b more = grind (arith, nat_tests)

-- the offsets that an edit covers
pub covered_is : (edits : List Edit) (spots : List Spot) (cursor : Cursor) (at : ℕ) → Stands edits spots cursor (at + 1) → list_any (covers at) edits ≡ ltb at cursor.covered_to
covered_is edits spots cursor at stands = ⊎_elim
    (λ (inside : at < cursor.covered_to).
    let some : 0 < cursor.covered_to = omega arith in
    let witness = stands.comes some in
    let d : Edit = record { start = 0; end = 0; text = [] } in
    let facts = witness.2 d in
    list_any_at (covers at) edits witness.0 d witness.1 (covers_true at (get_or edits witness.0 d) (omega (arith, facts.0)) (omega (arith, facts.1))) ∙ sym (less_true at cursor.covered_to inside))
    (λ (outside : cursor.covered_to ≤ at).
    list_any_none (covers at) edits
    (λ k d below. ⊎_elim
    (λ (late : at < (get_or edits k d).start). covers_late at (get_or edits k d) late)
    (λ (early : (get_or edits k d).start ≤ at). covers_past at (get_or edits k d) (omega (arith, stands.bound k d below (omega arith))))
    (cases_lt at ((get_or edits k d).start)))
    ∙ sym (less_false at cursor.covered_to outside))
    (cases_lt at cursor.covered_to)

pub kept_none : (bytes : List ℕ) (edits : List Edit) (spots : List Spot) (cursor : Cursor) (at : ℕ) → Stands edits spots cursor (at + 1) → at < cursor.covered_to → kept bytes edits at ≡ []
kept_none bytes edits spots cursor at stands covered = let e = covered_is edits spots cursor at stands in grind (arith, nat_tests)

pub kept_some : (bytes : List ℕ) (edits : List Edit) (spots : List Spot) (cursor : Cursor) (at : ℕ) → Stands edits spots cursor (at + 1) → cursor.covered_to ≤ at → at < length bytes → kept bytes edits at ≡ get_or bytes at 0 ∷ []
kept_some bytes edits spots cursor at stands free below = let e = covered_is edits spots cursor at stands in grind (arith, nat_tests)

pub kept_end : (bytes : List ℕ) (edits : List Edit) → kept bytes edits (length bytes) ≡ []
kept_end bytes edits = grind (arith, nat_tests)

-- what is written at an offset
abbrev piece : List ℕ → List Edit → ℕ → List ℕ
piece bytes edits at = inserted edits at ++ kept bytes edits at

-- one more offset is written
pub written_more : (bytes : List ℕ) (edits : List Edit) (at : ℕ) (old middle new : List ℕ) → old ≡ flat_map (piece bytes edits) (range_with_len 0 at) → middle ≡ old ++ inserted edits at → new ≡ middle ++ kept bytes edits at → new ≡ flat_map (piece bytes edits) (range_with_len 0 (at + 1))
written_more bytes edits at old middle new before inserts keeps =
    keeps
    ∙ ap (λ l. l ++ kept bytes edits at) (inserts ∙ ap (λ l. l ++ inserted edits at) before)
    ∙ append_assoc (flat_map (piece bytes edits) (range_with_len 0 at)) (inserted edits at) (kept bytes edits at)
    ∙ sym (pieces_more (piece bytes edits) at)
