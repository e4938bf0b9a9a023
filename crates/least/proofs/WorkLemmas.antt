-- What looking at one item does.
use Rattle.std.proofs.Common.{◌≡◌, ◌⊎◌, inl, inr, ◌<◌, ◌≤◌, ◌+◌, ℕ, zero, suc, Bool, true, false, List, [], ◌∷◌, ◌++◌, length, get_or, set, take, replicate, refl, sym, ap, ◌∙◌, subst, arith, cond}
use Rattle.std.specs.List.{Contains}
use Rattle.std.proofs.lemmas.List.Elements.{Contains-push, Contains-push_cases, Contains-append_left}
use Rattle.std.proofs.lemmas.List.{get_or-set_other, get_or-set_same, length-replicate, length-set, length-append}
use Rattle.std.proofs.lemmas.Bool.{cases_eq}
use Rattle.std.proofs.Math.Seq.{take-suc}
use Rattle.least.specs.Least.{IsLeast, IsMonotone}
use Rattle.least.specs.Work.{set_of, among, IsMarked, IsSoFar, IsQueued, owed, left_to_do}

pub either : {A B C : Type 0} → A ⊎ B → (A → C) → (B → C) → C
either (inl a) f g = f a
either (inr b) f g = g b

by_bool : {C : Type 0} (b : Bool) → (b ≡ true → C) → (b ≡ false → C) → C
by_bool true f g = f refl
by_bool false f g = g refl

pub no_truth : {C : Type 0} → false ≡ true → C
no_truth e = absurd cc

first_or_later : (y : ℕ) (xs : List ℕ) (n : ℕ) → Contains (y ∷ xs) n → (y ≡ n) ⊎ Contains xs n
first_or_later y xs n (zero, h, e) = inl e
first_or_later y xs n (suc i, h, e) = inr (i, omega arith, e)

later : (y : ℕ) (xs : List ℕ) (n : ℕ) → Contains xs n → Contains (y ∷ xs) n
later y xs n c = (suc c.0, omega (arith, c.1), c.2)

pub first_in : (y : ℕ) (xs : List ℕ) → Contains (y ∷ xs) y
first_in y xs = (0, omega arith, refl)

-- in the set with one member more, the others are as before
set_other : (flags : List Bool) (at j : ℕ) (b : Bool) → (j ≡ at → ⊥) → set_of (set flags at b) j ≡ set_of flags j
set_other flags at j b ne = get_or-set_other flags at j b false ne

set_same : (flags : List Bool) (at : ℕ) (b : Bool) → at < length flags → set_of (set flags at b) at ≡ b
set_same flags at b lt = get_or-set_same flags at b false lt

-- the item that is looked at is marked no more
pub unmarked : (marks : List Bool) (at : ℕ) (queue : List ℕ) → at < length marks → IsMarked marks (at ∷ queue) → IsMarked (set marks at false) queue
unmarked marks at queue lt marked i is = either (cases_eq i at)
    (λ e. no_truth (sym (ap (set_of (set marks at false)) e ∙ set_same marks at false lt) ∙ is))
    (λ ne. either (first_or_later at queue i (marked i (sym (set_other marks at i false ne) ∙ is)))
    (λ e. absurd (ne (sym e))) (λ old. old))

-- an item that is a member, or isn't admitted, waits no more
pub waits_no_more : (count : ℕ) (admits : (ℕ → Bool) → ℕ → Type 0) (flags marks : List Bool) (at : ℕ) (queue : List ℕ)
    → IsSoFar count admits flags marks (at ∷ queue)
    → (admits (set_of flags) at → set_of flags at ≡ true)
    → IsSoFar count admits flags (set marks at false) queue
waits_no_more count admits flags marks at queue s right = record {
  size = s.size;
  marks_size = length-set marks at false ∙ s.marks_size;
  sound = s.sound;
  settled = λ i lt a. either (s.settled i lt a) (λ is. inl is)
      (λ w. either (first_or_later at queue i w)
      (λ same. inl (subst (λ k. set_of flags k ≡ true) same (right (subst (λ k. admits (set_of flags) k) (sym same) a))))
      (λ old. inr old));
  items = λ i w. s.items i (later at queue i w);
  marked = unmarked marks at queue (let size = s.marks_size in let lt = s.items at (first_in at queue) in omega arith) s.marked;
}

pub here_or_not : (xs : List ℕ) (x : ℕ) → Contains xs x ⊎ (Contains xs x → ⊥)
here_or_not [] x = inr (λ c. absurd (omega (arith, c.1)))
here_or_not (y ∷ xs) x =
    either (cases_eq y x)
    (λ e. inl (0, omega arith, e))
    (λ ne. either (here_or_not xs x)
    (λ c. inl (later y xs x c))
    (λ out. inr (λ c. either (first_or_later y xs x c) ne out)))

-- an admitted item joins, and its readers wait
pub joins : (count : ℕ) (admits : (ℕ → Bool) → ℕ → Type 0) (readers : ℕ → List ℕ) (flags marks : List Bool) (at : ℕ) (queue : List ℕ) (new_marks : List Bool) (new_queue : List ℕ)
    → IsMonotone admits
    → ((M N : ℕ → Bool) (i : ℕ) → ((j : ℕ) → Contains (readers j) i → M j ≡ N j) → admits M i → admits N i)
    → ((i j : ℕ) → Contains (readers i) j → j < count)
    → IsSoFar count admits flags marks (at ∷ queue)
    → admits (set_of flags) at
    → IsQueued (readers at) (set marks at false) queue new_marks new_queue
    → IsSoFar count admits (set flags at true) new_marks new_queue
joins count admits readers flags marks at queue new_marks new_queue mono local within s admitted q =
    let lt : at < count = s.items at (first_in at queue) in
    let lt_flags : at < length flags = omega (arith, s.size) in
    record {
      size = omega (arith, length-set flags at true, s.size);
      marks_size = q.size ∙ (length-set marks at false ∙ s.marks_size);
      sound = λ M closed i is. either (cases_eq i at)
          (λ e. subst (λ k. M k ≡ true) (sym e) (closed at (lt, mono (set_of flags) M at (s.sound M closed) admitted)))
          (λ ne. s.sound M closed i (sym (set_other flags at i true ne) ∙ is));
      settled = λ i lt_i a. either (cases_eq i at)
          (λ e. inl (subst (λ k. set_of (set flags at true) k ≡ true) (sym e) (set_same flags at true lt_flags)))
          (λ ne. either (here_or_not (readers at) i)
          (λ reads. inr (q.each i reads))
          (λ out. either (s.settled i lt_i (local (set_of (set flags at true)) (set_of flags) i (λ j reads. set_other flags at j true (λ e. out (subst (λ k. Contains (readers k) i) e reads))) a))
          (λ is. inl (set_other flags at i true ne ∙ is))
          (λ w. either (first_or_later at queue i w)
          (λ e. absurd (ne (sym e)))
          (λ old. inr (q.kept i old)))));
      items = λ i w. either (q.only i w)
          (λ old. s.items i (later at queue i old))
          (λ reads. within at i reads);
      marked = q.marked;
    }

-- what was owed for an item is paid when it joins
owed_paid : (readers : ℕ → List ℕ) (flags : List Bool) (at i : ℕ) → at < length flags → set_of flags at ≡ false
    → owed readers (set flags at true) i + suc (length (readers (at + i))) ≡ owed readers flags i
owed_paid readers [] at i lt is = absurd (omega arith)
owed_paid readers (true ∷ flags) zero i lt is = let no_flag : true ≡ false = is in cc
owed_paid readers (false ∷ flags) zero i lt is =
    let same : length (readers (0 + i)) ≡ length (readers i) = ap (λ k. length (readers k)) (omega arith) in
    omega arith
owed_paid readers (f ∷ flags) (suc at) i lt is =
    let more = owed_paid readers flags at (suc i) (omega arith) is in
    let e : at + suc i ≡ suc at + i = omega arith in
    let same : length (readers (at + suc i)) ≡ length (readers (suc at + i)) = ap (λ k. length (readers k)) e in
    omega arith

pub less_left : (readers : ℕ → List ℕ) (flags marks : List Bool) (queue : List ℕ) (at : ℕ) (new_marks : List Bool) (new_queue : List ℕ) → at < length flags → set_of flags at ≡ false
    → IsQueued (readers at) marks queue new_marks new_queue
    → left_to_do readers (set flags at true) new_queue ≤ left_to_do readers flags queue
less_left readers flags marks queue at new_marks new_queue lt is q =
    let paid = owed_paid readers flags at 0 lt is in
    let same : length (readers (at + 0)) ≡ length (readers at) = ap (λ k. length (readers k)) (omega arith) in
    let few = q.few in
    omega arith

-- when nothing waits, the set is the least
pub at_rest : (count : ℕ) (admits : (ℕ → Bool) → ℕ → Type 0) (flags marks : List Bool) (queue : List ℕ) → queue ≡ []
    → IsSoFar count admits flags marks queue → IsLeast (among count admits) (set_of flags)
at_rest count admits flags marks queue none s = record {
  closed = λ i a. either (s.settled i a.0 a.1) (λ is. is) (λ w. absurd (omega (arith, (subst (λ l. Contains l i) none w).1)));
  least = λ M closed. s.sound M closed;
}

none_set : (count i : ℕ) → set_of (replicate count false) i ≡ true → ⊥
none_set zero i e = no_truth e
none_set (suc n) zero e = no_truth e
none_set (suc n) (suc i) e = none_set n i e

-- at the beginning no flag is set, and all wait
pub begun : (count : ℕ) (admits : (ℕ → Bool) → ℕ → Type 0) (flags marks : List Bool) (queue : List ℕ)
    → flags ≡ replicate count false → length marks ≡ count → IsMarked marks queue
    → ((i : ℕ) → i < count → Contains queue i)
    → ((i : ℕ) → Contains queue i → i < count)
    → IsSoFar count admits flags marks queue
begun count admits flags marks queue blank size marked each items = record {
  size = omega (arith, ap length blank, length-replicate count false);
  marks_size = size;
  sound = λ M closed i is. absurd (none_set count i (subst (λ l. set_of l i ≡ true) blank is));
  settled = λ i lt a. inr (each i lt);
  items = items;
  marked = marked;
}

-- these wait too, and then all
pub all_wait : (count : ℕ) (first all : List ℕ) (marks marks1 marks2 : List Bool) (queue queue1 queue2 : List ℕ)
    → ((i : ℕ) → Contains first i → i < count) → ((i : ℕ) → i < count → Contains all i) → ((i : ℕ) → Contains all i → i < count) → ((i : ℕ) → Contains queue i → i < count)
    → IsQueued first marks queue marks1 queue1 → IsQueued all marks1 queue1 marks2 queue2
    → ((i : ℕ) → i < count → Contains queue2 i) × ((i : ℕ) → Contains queue2 i → i < count)
all_wait count first all marks marks1 marks2 queue queue1 queue2 below each items old a b = (
  λ i lt. b.each i (each i lt),
  λ i w. either (b.only i w)
      (λ was. either (a.only i was) (λ o. old i o) (λ f. below i f))
      (λ new. items i new),
)

pub each_more : (xs : List ℕ) (n : ℕ) → ((i : ℕ) → i < n → Contains xs i) → (i : ℕ) → i < n + 1 → Contains (xs ++ n ∷ []) i
each_more xs n each i lt = either (cases_eq n i)
    (λ e. subst (λ k. Contains (xs ++ n ∷ []) k) e (Contains-push xs n))
    (λ ne. Contains-append_left xs (n ∷ []) i (each i (omega arith)))

pub items_more : (xs : List ℕ) (n : ℕ) → ((i : ℕ) → Contains xs i → i < n) → (i : ℕ) → Contains (xs ++ n ∷ []) i → i < n + 1
items_more xs n items i w = either (Contains-push_cases xs n i w) (λ old. let lt = items i old in omega arith) (λ e. omega arith)

-- nothing more waits
pub none_queued : (marks : List Bool) (queue : List ℕ) → IsMarked marks queue → IsQueued [] marks queue marks queue
none_queued marks queue marked = record {
  size = refl;
  kept = λ i c. c;
  each = λ i c. absurd (omega (arith, c.1));
  only = λ i c. inl c;
  marked = marked;
  few = omega arith;
}

-- one that didn't wait does
queued_new : (more : List ℕ) (marks : List Bool) (queue : List ℕ) (marks1 : List Bool) (queue1 : List ℕ) (x : ℕ)
    → IsQueued more marks queue marks1 queue1 → IsQueued (more ++ x ∷ []) marks queue (set marks1 x true) (queue1 ++ x ∷ [])
queued_new more marks queue marks1 queue1 x q = record {
  size = length-set marks1 x true ∙ q.size;
  kept = λ i c. Contains-append_left queue1 (x ∷ []) i (q.kept i c);
  each = λ i c. either (Contains-push_cases more x i c)
      (λ old. Contains-append_left queue1 (x ∷ []) i (q.each i old))
      (λ e. subst (Contains (queue1 ++ x ∷ [])) e (Contains-push queue1 x));
  only = λ i c. either (Contains-push_cases queue1 x i c)
      (λ old. either (q.only i old) (λ o. inl o) (λ m. inr (Contains-append_left more (x ∷ []) i m)))
      (λ e. inr (subst (Contains (more ++ x ∷ [])) e (Contains-push more x)));
  marked = λ i is. either (cases_eq i x)
      (λ e. subst (Contains (queue1 ++ x ∷ [])) (sym e) (Contains-push queue1 x))
      (λ ne. Contains-append_left queue1 (x ∷ []) i (q.marked i (sym (set_other marks1 x i true ne) ∙ is)));
  few = omega (arith, q.few, length-append queue1 (x ∷ []), length-append more (x ∷ []));
}

-- one that waits already still does
queued_old : (more : List ℕ) (marks : List Bool) (queue : List ℕ) (marks1 : List Bool) (queue1 : List ℕ) (x : ℕ) → Contains queue1 x
    → IsQueued more marks queue marks1 queue1 → IsQueued (more ++ x ∷ []) marks queue (set marks1 x true) queue1
queued_old more marks queue marks1 queue1 x waits q = record {
  size = length-set marks1 x true ∙ q.size;
  kept = q.kept;
  each = λ i c. either (Contains-push_cases more x i c) (λ old. q.each i old) (λ e. subst (Contains queue1) e waits);
  only = λ i c. either (q.only i c) (λ o. inl o) (λ m. inr (Contains-append_left more (x ∷ []) i m));
  marked = λ i is. either (cases_eq i x)
      (λ e. subst (Contains queue1) (sym e) waits)
      (λ ne. q.marked i (sym (set_other marks1 x i true ne) ∙ is));
  few = omega (arith, q.few, length-append more (x ∷ []));
}

chosen : {A : Type 0} (b : Bool) (u v : A) → b ≡ true → cond b u v ≡ u
chosen true u v e = refl
chosen false u v e = no_truth e

other : {A : Type 0} (b : Bool) (u v : A) → b ≡ false → cond b u v ≡ v
other true u v e = no_truth (sym e)
other false u v e = refl

pub queued_more : (more : List ℕ) (marks : List Bool) (queue : List ℕ) (marks1 : List Bool) (queue1 : List ℕ) (k d : ℕ) (marks2 : List Bool) (queue2 : List ℕ)
    → k < length more
    → marks2 ≡ set marks1 (get_or more k d) true
    → queue2 ≡ cond (set_of marks1 (get_or more k d)) queue1 (queue1 ++ get_or more k d ∷ [])
    → IsQueued (take k more) marks queue marks1 queue1 → IsQueued (take (k + 1) more) marks queue marks2 queue2
queued_more more marks queue marks1 queue1 k d marks2 queue2 lt ms qs q =
    let x = get_or more k d in
    let next : suc k ≡ k + 1 = omega arith in
    let grown : take (k + 1) more ≡ take k more ++ x ∷ [] = ap (λ n. take n more) (sym next) ∙ take-suc more k d lt in
    rw grown (rw ms (by_bool (set_of marks1 x)
    (λ is. rw (qs ∙ chosen (set_of marks1 x) queue1 (queue1 ++ x ∷ []) is) (queued_old (take k more) marks queue marks1 queue1 x (q.marked x is) q))
    (λ is. rw (qs ∙ other (set_of marks1 x) queue1 (queue1 ++ x ∷ []) is) (queued_new (take k more) marks queue marks1 queue1 x q))))

pub not_true : (b : Bool) → b ≡ false → b ≡ true → ⊥
not_true b e t = no_truth (sym e ∙ t)
