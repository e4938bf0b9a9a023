-- One step of a walk: what waits, and how often it may still be looked at.
use Rattle.std.proofs.Common.{◌≡◌, ℕ, zero, suc, ◌+◌, ◌-◌, ◌<◌, ◌≤◌, ◌⊎◌, Bool, true, false, List, [], ◌∷◌, ◌++◌, length, set, slice_get, Option, Some, None, refl, sym, ap, ◌∙◌, subst, inl, inr, arith, option_to_list}
use Rattle.std.proofs.lemmas.Option.{slice_get_within}
use Rattle.gv_base.proofs.Lists.{same_some, some_once, got, push_left, push_cases, at_end, get_last, get_set_same, set_cases}
use Rattle.mark_walk.specs.Asks.{Ask, Awaits, Lasting, Adds, Stays, IsMarked, IsChain, WaitsFor}
use Rattle.mark_walk.specs.Marking.{AreNumbers, Steps}
use Rattle.mark_walk.specs.Waiting.{AreMet, Waits, Rests, unnoted, left_to_do, NotesStay, IsCircle, IsFirst}
use Rattle.mark_walk.specs.declared.walk.Walk.{Walk}
use Rattle.mark_walk.proofs.AskLaws.{awaited_none, awaits_more, marked_still}

-- ---- notes

pub notes_stay : (met : List Bool) (n : ℕ) → NotesStay met (set met n true)
notes_stay [] n k e = e
notes_stay (b ∷ met) zero zero e = refl
notes_stay (b ∷ met) zero (suc k) e = e
notes_stay (b ∷ met) (suc n) zero e = e
notes_stay (b ∷ met) (suc n) (suc k) e = notes_stay met n k e

pub set_length : (met : List Bool) (n : ℕ) → length (set met n true) ≡ length met
set_length [] n = refl
set_length (b ∷ met) zero = refl
set_length (b ∷ met) (suc n) = ap suc (set_length met n)

pub one_less : (met : List Bool) (n : ℕ) → slice_get met n ≡ Some false → unnoted (set met n true) + 1 ≡ unnoted met
one_less [] n e = absurd cc
one_less (true ∷ met) zero e = absurd cc
one_less (false ∷ met) zero e = omega arith
one_less (true ∷ met) (suc n) e = let rest = one_less met n e in omega (arith, rest)
one_less (false ∷ met) (suc n) e = let rest = one_less met n e in omega (arith, rest)

length_push : {X : Type 0} (xs : List X) (x : X) → length (xs ++ x ∷ []) ≡ length xs + 1
length_push [] x = refl
length_push (y ∷ xs) x = let rest = length_push xs x in omega (arith, rest)

pub two_more : {X : Type 0} (xs : List X) (x y : X) (met : List Bool) (n : ℕ) → slice_get met n ≡ Some false → left_to_do ((xs ++ x ∷ []) ++ y ∷ []) (set met n true) ≤ left_to_do xs met
two_more xs x y met n e =
    let less = one_less met n e in
    let one = length_push xs x in
    let two = length_push (xs ++ x ∷ []) y in
    omega (arith, less, one, two)

-- ---- one step

module _ {I M Q A : Type 0} (says : (I → Option M) → Q → A → Type 0) (pends : (I → Option M) → Q → I → Type 0) (lasting : Lasting says pends)
    (IsItem : I → Type 0) (number : I → ℕ) (count : ℕ) (numbers : AreNumbers IsItem number count) (rule : I → Ask I M Q A M) (so_far next : I → Option M)
    (w : List I) (t : I) (met : List Bool)
    (waits : Waits IsItem number count (λ x. Awaits says pends so_far (rule x)) so_far (w ++ t ∷ []) met) where
  left : (i : ℕ) (x : I) → slice_get w i ≡ Some x → slice_get (w ++ t ∷ []) i ≡ Some x
  left i x e = push_left w t x i e

  -- ---- the last one was marked

  module _ (m : M) (adds : Adds so_far next t m) where
    other_none : (i : ℕ) (x : I) (o : Option M) → slice_get w i ≡ Some x → next x ≡ o → next x ≡ None
    other_none i x None at e = e
    other_none i x (Some n) at e = elim (adds.only x n e) [
      | inl is ↦ absurd (waits.apart i (length w) x t (slice_get_within w i x at) (left i x at) (at_end w t) (ap number is))
      | inr was ↦ absurd (let none = waits.unmarked i x (left i x at) in cc)
    ]

    pub still_wait : Waits IsItem number count (λ x. Awaits says pends next (rule x)) next w met
    still_wait = record {
      size = waits.size;
      items = λ i x e. waits.items i x (left i x e);
      unmarked = λ i x e. other_none i x (next x) e refl;
      noted = λ i x e. waits.noted i x (left i x e);
      apart = λ i j x y low e f same. waits.apart i j x y low (left i x e) (left j y f) same;
      chain = λ i x y e f. awaits_more says pends lasting so_far next adds.stays (rule x) y (other_none (suc i) y (next y) f refl) (waits.chain i x y (left i x e) (left (suc i) y f));
      known = λ x item noted. elim (waits.known x item noted) [
        | inl marked ↦ inl (marked_still so_far next x adds.stays marked)
        | inr (k, at) ↦ elim (push_cases w t x k at) [
          | inl old ↦ inr (k, old)
          | inr (last, same) ↦ inl (m, subst (λ (y : I). next y ≡ Some m) same adds.new)
        ]
      ];
    }

  -- ---- the last one waits for another

  module _ (o : I) (item : IsItem o) (awaits : Awaits says pends so_far (rule t) o) (stays : Stays so_far next) where
    none_still : (x : I) (o : Option M) → so_far x ≡ None → next x ≡ o → next x ≡ None
    none_still x None was e = e
    none_still x (Some n) was e = absurd (let is = stays.only x n e in cc)

    none_of : (i : ℕ) (x : I) → slice_get (w ++ t ∷ []) i ≡ Some x → next x ≡ None
    none_of i x e = none_still x (next x) (waits.unmarked i x e) refl

    o_none : next o ≡ None
    o_none = none_still o (next o) (awaited_none says pends lasting so_far (rule t) o awaits) refl

    chain_next : (i : ℕ) (x y : I) → slice_get (w ++ t ∷ []) i ≡ Some x → slice_get (w ++ t ∷ []) (suc i) ≡ Some y → Awaits says pends next (rule x) y
    chain_next i x y e f = awaits_more says pends lasting so_far next stays.stays (rule x) y (none_of (suc i) y f) (waits.chain i x y e f)

    last_next : Awaits says pends next (rule t) o
    last_next = awaits_more says pends lasting so_far next stays.stays (rule t) o o_none awaits

    -- nobody waited for it before
    module _ (new : slice_get met (number o) ≡ Some false) where
      apart_next : (i j : ℕ) (x y : I) → i < j → slice_get ((w ++ t ∷ []) ++ o ∷ []) i ≡ Some x → slice_get ((w ++ t ∷ []) ++ o ∷ []) j ≡ Some y → number x ≡ number y → ⊥
      apart_next i j x y low e f same = elim (push_cases (w ++ t ∷ []) o y j f) [
        | inl old ↦ elim (push_cases (w ++ t ∷ []) o x i e) [
          | inl also ↦ waits.apart i j x y low also old same
          | inr (last, is) ↦ let within = slice_get_within (w ++ t ∷ []) j y old in omega (arith, last, low, within)
        ]
        | inr (end, is) ↦ elim (push_cases (w ++ t ∷ []) o x i e) [
          | inl also ↦ let noted = waits.noted i x also in
              let there : slice_get met (number o) ≡ Some true = subst (λ n. slice_get met n ≡ Some true) (same ∙ ap number (sym is)) noted in absurd cc
          | inr (last, too) ↦ omega (arith, last, end, low)
        ]
      ]

      chain_more : (i : ℕ) (x y : I) → slice_get ((w ++ t ∷ []) ++ o ∷ []) i ≡ Some x → slice_get ((w ++ t ∷ []) ++ o ∷ []) (suc i) ≡ Some y → Awaits says pends next (rule x) y
      chain_more i x y e f = elim (push_cases (w ++ t ∷ []) o y (suc i) f) [
        | inl old ↦ elim (push_cases (w ++ t ∷ []) o x i e) [
          | inl also ↦ chain_next i x y also old
          | inr (last, is) ↦ let within = slice_get_within (w ++ t ∷ []) (suc i) y old in absurd (omega (arith, last, within))
        ]
        | inr (end, is) ↦
            let size = length_push w t in
            let at : i ≡ length w = omega (arith, end, size) in
            elim (push_cases (w ++ t ∷ []) o x i e) [
              | inl also ↦ let same : t ≡ x = same_some (slice_get (w ++ t ∷ []) i) t x (get_last w t i at) also in
                  subst (λ (z : I). Awaits says pends next (rule x) z) is (subst (λ (z : I). Awaits says pends next (rule z) o) same last_next)
              | inr (last, too) ↦ absurd (omega (arith, last, end))
            ]
      ]

      met_more : AreMet IsItem number next ((w ++ t ∷ []) ++ o ∷ []) (set met (number o) true)
      met_more x is noted = elim (push_or x is noted) [
        | inl same ↦ inr (length (w ++ t ∷ []), subst (λ (z : I). slice_get ((w ++ t ∷ []) ++ o ∷ []) (length (w ++ t ∷ [])) ≡ Some z) (sym same) (at_end (w ++ t ∷ []) o))
        | inr old ↦ elim (waits.known x is old) [
          | inl (m, marked) ↦ inl (m, stays.stays x m marked)
          | inr (k, at) ↦ inr (k, push_left (w ++ t ∷ []) o x k at)
        ]
      ] where
        push_or : (x : I) → IsItem x → slice_get (set met (number o) true) (number x) ≡ Some true → (x ≡ o) ⊎ (slice_get met (number x) ≡ Some true)
        push_or x is noted = elim (set_cases met (number o) true (number x) true noted) [
          | inl (apart, old) ↦ inr old
          | inr (same, b) ↦ inl (numbers.apart x o is item same)
        ]

      pub more_wait : Waits IsItem number count (λ x. Awaits says pends next (rule x)) next ((w ++ t ∷ []) ++ o ∷ []) (set met (number o) true)
      more_wait = record {
        size = set_length met (number o) ∙ waits.size;
        items = λ i x e. elim (push_cases (w ++ t ∷ []) o x i e) [
          | inl old ↦ waits.items i x old
          | inr (last, is) ↦ subst IsItem is item
        ];
        unmarked = λ i x e. elim (push_cases (w ++ t ∷ []) o x i e) [
          | inl old ↦ none_of i x old
          | inr (last, is) ↦ subst (λ (z : I). next z ≡ None) is o_none
        ];
        noted = λ i x e. elim (push_cases (w ++ t ∷ []) o x i e) [
          | inl old ↦ notes_stay met (number o) (number x) (waits.noted i x old)
          | inr (last, is) ↦ subst (λ (z : I). slice_get (set met (number o) true) (number z) ≡ Some true) is (get_set_same met (number o) true (slice_get_within met (number o) false new))
        ];
        apart = apart_next;
        chain = chain_more;
        known = met_more;
      }

    -- it waits already
    chain_last : (i : I) (via : List I) (j k : I) → IsChain (λ x. Awaits says pends next (rule x)) i via j → Awaits says pends next (rule j) k → IsChain (λ x. Awaits says pends next (rule x)) i (via ++ j ∷ []) k
    chain_last i [] j k is last = (is, last)
    chain_last i (n ∷ via) j k (is, more) last = (is, chain_last n via j k more last)

    then_last : (i j k : I) → WaitsFor (λ x. Awaits says pends next (rule x)) i j → Awaits says pends next (rule j) k → WaitsFor (λ x. Awaits says pends next (rule x)) i k
    then_last i j k (via, is) last = (via ++ j ∷ [], chain_last i via j k is last)

    leads : (d i : ℕ) (x : I) → i + d ≡ length w → slice_get (w ++ t ∷ []) i ≡ Some x → (x ≡ t) ⊎ WaitsFor (λ x. Awaits says pends next (rule x)) x t
    leads zero i x is e = inl (same_some (slice_get (w ++ t ∷ []) i) x t e (get_last w t i (omega (arith, is))))
    leads (suc d) i x is e =
        let size = length_push w t in
        let (y, at) = got (w ++ t ∷ []) (suc i) (omega (arith, is, size)) in
        let link = chain_next i x y e at in
        elim (leads d (suc i) y (omega (arith, is)) at) [
          | inl same ↦ inr ([], subst (λ (z : I). Awaits says pends next (rule x) z) same link)
          | inr (via, more) ↦ inr (y ∷ via, (link, more))
        ]

    pub a_circle : slice_get met (number o) ≡ Some true → WaitsFor (λ x. Awaits says pends next (rule x)) o o
    a_circle noted = elim (waits.known o item noted) [
      | inl (m, marked) ↦ absurd (let none = awaited_none says pends lasting so_far (rule t) o awaits in cc)
      | inr (k, at) ↦
          let within = slice_get_within (w ++ t ∷ []) k o at in
          let size = length_push w t in
          elim (leads (length w - k) k o (omega (arith, within, size)) at) [
            | inl same ↦ ([], subst (λ (z : I). Awaits says pends next (rule z) o) (sym same) last_next)
            | inr more ↦ then_last o t o more last_next
          ]
    ]

    -- so does what waits first wait for it
    pub first_circle : (x : I) → slice_get (w ++ t ∷ []) 0 ≡ Some x → WaitsFor (λ x. Awaits says pends next (rule x)) x o
    first_circle x at = elim (leads (length w) 0 x (omega arith) at) [
      | inl same ↦ ([], subst (λ (z : I). Awaits says pends next (rule z) o) (sym same) last_next)
      | inr more ↦ then_last x t o more last_next
    ]

    pub whole_circle : slice_get met (number o) ≡ Some true → IsCircle (λ x. Awaits says pends next (rule x)) (IsFirst (w ++ t ∷ [])) (Some o)
    whole_circle noted =
        let size = length_push w t in
        let begin = got (w ++ t ∷ []) 0 (omega (arith, size)) in
        (a_circle noted, begin.0, begin.1, first_circle begin.0 begin.1)

  -- ---- a step

  pub marked_waits : (o : Option I) → o ≡ None → Steps says pends IsItem rule so_far next t o → Waits IsItem number count (λ x. Awaits says pends next (rule x)) next w met
  marked_waits None e (m, gives, adds) = still_wait m adds
  marked_waits (Some j) e steps = absurd cc

  module _ (circle : Option I) (waiting : List I) (notes : List Bool) (o : I) (n : ℕ) (is_number : n ≡ number o)
      (found : slice_get met n ≡ Some true → circle ≡ Some o) (missed : slice_get met n ≡ Some false → circle ≡ None)
      (grown : slice_get met n ≡ Some false → waiting ≡ (w ++ t ∷ []) ++ o ∷ []) (set_there : slice_get met n ≡ Some false → notes ≡ set met n true) where
    there : (b : Bool) → slice_get met (number o) ≡ Some b → slice_get met n ≡ Some b
    there b e = ap (λ k. slice_get met k) is_number ∙ e

    again : slice_get met (number o) ≡ Some true → circle ≡ Some o
    again e = found (there true e)

    first : slice_get met (number o) ≡ Some false → circle ≡ None
    first e = missed (there false e)

    pushed : slice_get met (number o) ≡ Some false → waiting ≡ (w ++ t ∷ []) ++ o ∷ []
    pushed e = grown (there false e)

    noted : slice_get met (number o) ≡ Some false → notes ≡ set met (number o) true
    noted e = set_there (there false e) ∙ ap (λ k. set met k true) is_number

    note_of : IsItem o → (b : Bool) × (slice_get met (number o) ≡ Some b)
    note_of item = got met (number o) (subst (λ n. number o < n) (sym waits.size) (numbers.within o item))

    is_new : IsItem o → circle ≡ None → slice_get met (number o) ≡ Some false
    is_new item none = by (note_of item).0 (note_of item).1 where
      by : (b : Bool) → slice_get met (number o) ≡ Some b → slice_get met (number o) ≡ Some false
      by true e = absurd (let some = again e in cc)
      by false e = e

    pub push_notes : (x : Option I) → x ≡ Some o → Steps says pends IsItem rule so_far next t x → circle ≡ None → NotesStay met notes
    push_notes None e steps none = absurd cc
    push_notes (Some j) e (item, awaits, stays) none =
        let same : j ≡ o = some_once e in
        subst (λ l. NotesStay met l) (sym (noted (is_new (subst IsItem same item) none))) (notes_stay met (number o))

    pub push_less : (x : Option I) → x ≡ Some o → Steps says pends IsItem rule so_far next t x → circle ≡ None → left_to_do waiting notes ≤ left_to_do w met
    push_less None e steps none = absurd cc
    push_less (Some j) e (item, awaits, stays) none =
        let new = is_new (subst IsItem (some_once e) item) none in
        subst (λ l. left_to_do l notes ≤ left_to_do w met) (sym (pushed new)) (subst (λ l. left_to_do ((w ++ t ∷ []) ++ o ∷ []) l ≤ left_to_do w met) (sym (noted new)) (two_more w t o met (number o) new))

    pub push_waits : (x : Option I) → x ≡ Some o → Steps says pends IsItem rule so_far next t x → circle ≡ None → Waits IsItem number count (λ y. Awaits says pends next (rule y)) next waiting notes
    push_waits None e steps none = absurd cc
    push_waits (Some j) e (item, awaits, stays) none =
        let same : j ≡ o = some_once e in
        let is = subst IsItem same item in
        let new = is_new is none in
        subst (λ l. Waits IsItem number count (λ y. Awaits says pends next (rule y)) next l notes) (sym (pushed new))
        (subst (λ l. Waits IsItem number count (λ y. Awaits says pends next (rule y)) next ((w ++ t ∷ []) ++ o ∷ []) l) (sym (noted new))
        (more_wait o is (subst (λ (y : I). Awaits says pends so_far (rule t) y) same awaits) stays new))

    -- what is first stays so
    pub push_first : (x : Option I) → x ≡ Some o → Steps says pends IsItem rule so_far next t x → circle ≡ None → (y : I) → IsFirst waiting y → IsFirst (w ++ t ∷ []) y
    push_first None e steps none y at = absurd cc
    push_first (Some j) e (item, awaits, stays) none y at =
        let new = is_new (subst IsItem (some_once e) item) none in
        let size = length_push w t in
        elim (push_cases (w ++ t ∷ []) o y 0 (subst (λ (l : List I). IsFirst l y) (pushed new) at)) [
          | inl old ↦ old
          | inr (last, is) ↦ absurd (omega (arith, last, size))
        ]

    pub push_circle : (x : Option I) → x ≡ Some o → Steps says pends IsItem rule so_far next t x → IsCircle (λ y. Awaits says pends next (rule y)) (IsFirst (w ++ t ∷ [])) circle
    push_circle None e steps = absurd cc
    push_circle (Some j) e (item, awaits, stays) = by (note_of is).0 (note_of is).1 where
      is : IsItem o
      is = subst IsItem (some_once e) item

      by : (b : Bool) → slice_get met (number o) ≡ Some b → IsCircle (λ y. Awaits says pends next (rule y)) (IsFirst (w ++ t ∷ [])) circle
      by true at = subst (IsCircle (λ y. Awaits says pends next (rule y)) (IsFirst (w ++ t ∷ []))) (sym (again at)) (whole_circle o is (subst (λ (y : I). Awaits says pends so_far (rule t) y) (some_once e) awaits) stays at)
      by false at = subst (IsCircle (λ y. Awaits says pends next (rule y)) (IsFirst (w ++ t ∷ []))) (sym (first at)) tt

-- ---- the first and the last

module _ {I M : Type 0} (IsItem : I → Type 0) (number : I → ℕ) (count : ℕ) (numbers : AreNumbers IsItem number count) (awaits : I → I → Type 0) (so_far : I → Option M) where
  pub first_waits : (walk : Walk I) (item : I) → Rests IsItem number count so_far walk → IsItem item → so_far item ≡ None
      → (waiting : List I) → waiting ≡ walk.waiting.items ++ item ∷ [] → (met : List Bool) → met ≡ set walk.met.items (number item) true → Waits IsItem number count awaits so_far waiting met
  first_waits walk item rests is none waiting e met f = subst (λ l. Waits IsItem number count awaits so_far l met) (sym (e ∙ ap (λ l. l ++ item ∷ []) rests.idle))
      (subst (λ l. Waits IsItem number count awaits so_far (item ∷ []) l) (sym f) alone) where
        one : (i : ℕ) (x : I) → slice_get (item ∷ []) i ≡ Some x → (i ≡ 0) × (item ≡ x)
        one zero x e = (refl, some_once e)
        one (suc i) x e = absurd cc

        alone : Waits IsItem number count awaits so_far (item ∷ []) (set walk.met.items (number item) true)
        alone = record {
          size = set_length walk.met.items (number item) ∙ rests.size;
          items = λ i x e. subst IsItem (one i x e).1 is;
          unmarked = λ i x e. subst (λ (z : I). so_far z ≡ None) (one i x e).1 none;
          noted = λ i x e. subst (λ (z : I). slice_get (set walk.met.items (number item) true) (number z) ≡ Some true) (one i x e).1
              (get_set_same walk.met.items (number item) true (subst (λ n. number item < n) (sym rests.size) (numbers.within item is)));
          apart = λ i j x y low e f same. let a = (one i x e).0 in let b = (one j y f).0 in omega (arith, a, b, low);
          chain = λ i x y e f. absurd (let b = (one (suc i) y f).0 in omega (arith, b));
          known = λ x item_too noted. elim (set_cases walk.met.items (number item) true (number x) true noted) [
            | inl (apart, old) ↦ inl (rests.met x item_too old)
            | inr (same, b) ↦ inr (0, ap Some (numbers.apart item x is item_too (sym same)))
          ];
        }

  -- the first item is noted
  pub first_noted : (walk : Walk I) (item : I) → Rests IsItem number count so_far walk → IsItem item → (met : List Bool) → met ≡ set walk.met.items (number item) true → slice_get met (number item) ≡ Some true
  first_noted walk item rests is met f = subst (λ l. slice_get l (number item) ≡ Some true) (sym f)
      (get_set_same walk.met.items (number item) true (subst (λ n. number item < n) (sym rests.size) (numbers.within item is)))

  pub at_rest : (walk : Walk I) → walk.waiting.items ≡ [] → Waits IsItem number count awaits so_far walk.waiting.items walk.met.items → Rests IsItem number count so_far walk
  at_rest walk idle waits = record {
    idle = idle;
    size = waits.size;
    met = λ x item noted. elim (waits.known x item noted) [
      | inl marked ↦ marked
      | inr (k, at) ↦ absurd (let none : slice_get [] k ≡ Some x = ap (λ l. slice_get l k) (sym idle) ∙ at in nowhere k x none)
    ];
  } where
    nowhere : (k : ℕ) (x : I) → slice_get [] k ≡ Some x → ⊥
    nowhere k x e = absurd cc

  -- none is left that waits
  pub none_left : (walk : Walk I) (next : Option I) → next ≡ None → walk.waiting.items ≡ [] → Waits IsItem number count awaits so_far (walk.waiting.items ++ option_to_list next) walk.met.items
      → Rests IsItem number count so_far walk
  none_left walk next none idle waits =
      let same : walk.waiting.items ++ option_to_list next ≡ walk.waiting.items = ap (λ (o : Option I). walk.waiting.items ++ option_to_list o) none ∙ ap (λ (l : List I). l ++ []) idle ∙ sym idle in
      at_rest walk idle (subst (λ (l : List I). Waits IsItem number count awaits so_far l walk.met.items) same waits)

-- what isn't marked has no mark
pub not_marked : {I M : Type 0} (so_far : I → Option M) (i : I) (b : Bool) → b ≡ false → (IsMarked so_far i → b ≡ true) → so_far i ≡ None
not_marked so_far i b unset tells = by (so_far i) refl where
  by : (o : Option _) → so_far i ≡ o → so_far i ≡ None
  by None e = e
  by (Some m) e = absurd (let yes = tells (m, e) in cc)

pub circle_of : {I : Type 0} (awaits : I → I → Type 0) (First : I → Type 0) (item : I) (x : Option I) (i : I) → x ≡ Some i → IsCircle awaits First x → ((k : I) → First k → k ≡ item)
    → IsCircle awaits (λ k. k ≡ item) (Some i)
circle_of awaits First item x i e circle first =
    let met = subst (IsCircle awaits First) e circle in
    (met.0, met.1, first met.1 met.2, met.3)

-- it waits first where nothing waited
pub first_is : {I : Type 0} (list : List I) (item x : I) → list ≡ [] → IsFirst (list ++ item ∷ []) x → x ≡ item
first_is list item x idle at = sym (some_once (subst (λ l. IsFirst (l ++ item ∷ []) x) idle at))
