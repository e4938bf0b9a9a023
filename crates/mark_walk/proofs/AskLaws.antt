-- Laws of rules that ask, whatever the rules and the questions are.
use Rattle.std.proofs.Common.{◌≡◌, ◌⊎◌, ℕ, ◌<◌, List, [], ◌∷◌, Option, Some, None, unwrap_or, refl, sym, ap, ◌∙◌, subst, inl, inr, arith}
use Rattle.mark_walk.specs.Asks.{Ask, done, ask, put, Gives, Awaits, Lasting, Annotates, Comes, Sound, Keeps, Adds, Stays, IsMarked, IsFirst, GivesAlone, AreAllMarked, HasCome, IsTheAnnotation, filled, bind, IsChain, WaitsFor, AreRanked}
use Rattle.mark_walk.specs.Asks.Comes.{at_first, and_one, as_before}
use Rattle.mark_walk.specs.Marking.{Steps, Goes}

some_one : {M : Type 0} (o : Option M) (a b : M) → o ≡ Some a → o ≡ Some b → a ≡ b
some_one o a b p q = cc

module _ {I M Q A : Type 0} (says : (I → Option M) → Q → A → Type 0) (pends : (I → Option M) → Q → I → Type 0) (lasting : Lasting says pends) where
  -- more marks, and the rule gives the same
  pub gives_more : {R : Type 0} (so_far next : I → Option M) → Keeps so_far next → (r : Ask I M Q A R) (m : R) → Gives says so_far r m → Gives says next r m
  gives_more so_far next keeps (done x) m e = e
  gives_more so_far next keeps (ask i rest) m (n, at, more) = (n, keeps i n at, gives_more so_far next keeps (rest n) m more)
  gives_more so_far next keeps (put q rest) m (x, is, more) = (x, lasting.stays so_far next q x keeps is, gives_more so_far next keeps (rest x) m more)

  -- a rule gives one mark
  pub gives_once : {R : Type 0} (so_far : I → Option M) (r : Ask I M Q A R) (m n : R) → Gives says so_far r m → Gives says so_far r n → m ≡ n
  gives_once so_far (done x) m n e f = sym e ∙ f
  gives_once so_far (ask i rest) m n (a, at, first) (b, also, second) =
      let same : a ≡ b = some_one (so_far i) a b at also in
      gives_once so_far (rest b) m n (subst (λ (x : M). Gives says so_far (rest x) m) same first) second
  gives_once so_far (put q rest) m n (a, at, first) (b, also, second) =
      let same : a ≡ b = lasting.once so_far q a b at also in
      gives_once so_far (rest b) m n (subst (λ (x : A). Gives says so_far (rest x) m) same first) second

  -- over the marks of all it gives what it gave, where they agree with those so far
  pub gives_all : {R : Type 0} (so_far : I → Option M) (marks : I → M) → ((i : I) (m : M) → so_far i ≡ Some m → marks i ≡ m) → (r : Ask I M Q A R) (m : R)
      → Gives says so_far r m → Gives says (λ j. Some (marks j)) r m
  gives_all so_far marks agree r m e = gives_more so_far (λ j. Some (marks j)) (λ i n at. ap Some (agree i n at)) r m e

  -- a rule within a rule
  pub gives_bind : {R S : Type 0} (so_far : I → Option M) (r : Ask I M Q A R) (rest : R → Ask I M Q A S) (x : R) (s : S)
      → Gives says so_far r x → Gives says so_far (rest x) s → Gives says so_far (bind r rest) s
  gives_bind {R} {S} so_far (done y) rest x s e more = subst (λ (z : R). Gives says so_far (rest z) s) (sym e) more
  gives_bind so_far (ask i after) rest x s (n, at, first) more = (n, at, gives_bind so_far (after n) rest x s first more)
  gives_bind so_far (put q after) rest x s (a, at, first) more = (a, at, gives_bind so_far (after a) rest x s first more)

  -- ---- what a rule waits for

  -- what is waited for has no mark
  pub awaited_none : {R : Type 0} (so_far : I → Option M) (r : Ask I M Q A R) (j : I) → Awaits says pends so_far r j → so_far j ≡ None
  awaited_none so_far (done x) j is = absurd is
  awaited_none so_far (ask i rest) j (inl (none, same)) = subst (λ (x : I). so_far x ≡ None) same none
  awaited_none so_far (ask i rest) j (inr (m, at, more)) = awaited_none so_far (rest m) j more
  awaited_none so_far (put q rest) j (inl is) = lasting.missing so_far q j is
  awaited_none so_far (put q rest) j (inr (x, is, more)) = awaited_none so_far (rest x) j more

  -- the rule goes on waiting for it while it has none
  pub awaits_more : {R : Type 0} (so_far next : I → Option M) → Keeps so_far next → (r : Ask I M Q A R) (j : I) → next j ≡ None → Awaits says pends so_far r j → Awaits says pends next r j
  awaits_more so_far next keeps (done x) j none is = absurd is
  awaits_more so_far next keeps (ask i rest) j none (inl (was, same)) = inl (subst (λ (x : I). next x ≡ None) (sym same) none, same)
  awaits_more so_far next keeps (ask i rest) j none (inr (m, at, more)) = inr (m, keeps i m at, awaits_more so_far next keeps (rest m) j none more)
  awaits_more so_far next keeps (put q rest) j none (inl is) = inl (lasting.waits so_far next q j keeps is none)
  awaits_more so_far next keeps (put q rest) j none (inr (x, is, more)) = inr (x, lasting.stays so_far next q x keeps is, awaits_more so_far next keeps (rest x) j none more)

  -- ---- one more mark

  module _ (rule : I → Ask I M Q A M) (so_far next : I → Option M) (i : I) (m : M)
      (sound : Sound says rule so_far) (adds : Adds so_far next i m) (gives : Gives says so_far (rule i) m) where
    obeys_next : (j : I) (n : M) → next j ≡ Some n → Gives says next (rule j) n
    obeys_next j n e = elim (adds.only j n e) [
      | inl is ↦ subst (λ (x : M). Gives says next (rule j) x) (some_one (next j) m n (ap next is ∙ adds.new) e)
          (subst (λ (x : I). Gives says next (rule x) m) (sym is) (gives_more so_far next adds.stays (rule i) m gives))
      | inr was ↦ gives_more so_far next adds.stays (rule j) n (sound.obeys j n was)
    ]

    forced_next : (marks : I → M) → Annotates says rule marks → (j : I) (n : M) → next j ≡ Some n → marks j ≡ n
    forced_next marks all j n e = elim (adds.only j n e) [
      | inl is ↦ ap marks is ∙ (gives_once (λ k. Some (marks k)) (rule i) (marks i) m (all i) (gives_all so_far marks (sound.forced marks all) (rule i) m gives)
          ∙ some_one (next j) m n (ap next is ∙ adds.new) e)
      | inr was ↦ sound.forced marks all j n was
    ]

    pub sound_adds : Sound says rule next
    sound_adds = record { comes = and_one so_far next i m sound.comes gives adds; obeys = obeys_next; forced = forced_next }

  pub sound_stays : (rule : I → Ask I M Q A M) (so_far next : I → Option M) → Sound says rule so_far → Stays so_far next → Sound says rule next
  sound_stays rule so_far next sound s = record {
    comes = as_before so_far next sound.comes s;
    obeys = λ j n e. gives_more so_far next s.stays (rule j) n (sound.obeys j n (s.only j n e));
    forced = λ marks all j n e. sound.forced marks all j n (s.only j n e);
  }

  -- one step, whatever came of it
  pub goes_step : (IsItem : I → Type 0) (rule : I → Ask I M Q A M) (x y : I → Option M) (i : I) (o : Option I) → Steps says pends IsItem rule x y i o → Goes says rule x y
  goes_step IsItem rule x y i None (m, gives, adds) = record { keeps = adds.stays; sound = λ s. sound_adds rule x y i m s adds gives }
  goes_step IsItem rule x y i (Some j) (item, waits, s) = record { keeps = s.stays; sound = λ sound. sound_stays rule x y sound s }

  -- ---- whole annotations

  -- what a rule gives by itself it gives over all marks, and nothing else
  pub alone_gives : (rule : I → Ask I M Q A M) (marks : I → M) (i : I) (m : M) → GivesAlone rule i m → Gives says (λ j. Some (marks j)) (rule i) m
  alone_gives rule marks i m (inl is) = subst (λ (r : Ask I M Q A M). Gives says (λ j. Some (marks j)) r m) (sym is) refl
  alone_gives rule marks i m (inr is) = subst (λ (r : Ask I M Q A M). Gives says (λ j. Some (marks j)) r m) (sym is) (marks i, refl, refl)

  pub alone_once : (rule : I → Ask I M Q A M) (x : I → Option M) (i : I) (m n : M) → GivesAlone rule i m → Gives says x (rule i) n → m ≡ n
  alone_once rule x i m n (inl is) gives = subst (λ (r : Ask I M Q A M). Gives says x r n) is gives
  alone_once rule x i m n (inr is) gives = let given : Gives says x (ask i (λ y. done m)) n = subst (λ (r : Ask I M Q A M). Gives says x r n) is gives in given.2

  module _ (blank : M) (rule : I → Ask I M Q A M) (so_far : I → Option M) (sound : Sound says rule so_far) (all : AreAllMarked blank rule so_far) where
    -- what has no mark counts as blank
    left_blank : (i : I) → so_far i ≡ None → filled blank so_far i ≡ blank
    left_blank i none = ap (λ o. unwrap_or o blank) none

    each : (i : I) → (so_far i ≡ Some (filled blank so_far i)) ⊎ GivesAlone rule i (filled blank so_far i)
    each i = by (so_far i) refl (all i) where
      by : (o : Option M) → so_far i ≡ o → IsMarked so_far i ⊎ GivesAlone rule i blank → (so_far i ≡ Some (filled blank so_far i)) ⊎ GivesAlone rule i (filled blank so_far i)
      by (Some m) e is = inl (e ∙ ap Some (sym (ap (λ o. unwrap_or o blank) e)))
      by None e (inl (m, is)) = absurd cc
      by None e (inr is) = inr (subst (GivesAlone rule i) (sym (left_blank i e)) is)

    annotates : Annotates says rule (filled blank so_far)
    annotates i = elim (each i) [
      | inl e ↦ gives_all so_far (filled blank so_far) (λ j n at. ap (λ o. unwrap_or o blank) at) (rule i) (filled blank so_far i) (sound.obeys i (filled blank so_far i) e)
      | inr is ↦ alone_gives rule (filled blank so_far) i (filled blank so_far i) is
    ]

    alone : (marks : I → M) → Annotates says rule marks → (i : I) → marks i ≡ filled blank so_far i
    alone marks are i = elim (each i) [
      | inl e ↦ sound.forced marks are i (filled blank so_far i) e
      | inr is ↦ sym (alone_once rule (λ j. Some (marks j)) i (filled blank so_far i) (marks i) is (are i))
    ]

    come : HasCome says rule (filled blank so_far)
    come = record { so_far = so_far; comes = sound.comes; each = each }

    pub the_annotation : IsTheAnnotation says rule (filled blank so_far)
    the_annotation = record { «is» = annotates; alone = alone; come = come }

-- ---- from marks to marks

pub goes_itself : {I M Q A : Type 0} (says : (I → Option M) → Q → A → Type 0) (rule : I → Ask I M Q A M) (so_far : I → Option M) → Goes says rule so_far so_far
goes_itself says rule so_far = record { keeps = λ i m e. e; sound = λ s. s }

pub goes_then : {I M Q A : Type 0} (says : (I → Option M) → Q → A → Type 0) (rule : I → Ask I M Q A M) (x y z : I → Option M) → Goes says rule x y → Goes says rule y z → Goes says rule x z
goes_then says rule x y z f g = record { keeps = λ i m e. g.keeps i m (f.keeps i m e); sound = λ s. g.sound (f.sound s) }

pub marked_still : {I M : Type 0} (x y : I → Option M) (i : I) → Keeps x y → IsMarked x i → IsMarked y i
marked_still x y i keeps (m, e) = (m, keeps i m e)

given : {I M Q A : Type 0} (says : (I → Option M) → Q → A → Type 0) (so_far : I → Option M) (r : Ask I M Q A M) (m n : M) → r ≡ done m → m ≡ n → Gives says so_far r n
given {I} {M} {Q} {A} says so_far r m n is same = subst (λ (x : Ask I M Q A M). Gives says so_far x n) (sym is) same

taken : {I M Q A : Type 0} (says : (I → Option M) → Q → A → Type 0) (so_far : I → Option M) (r : Ask I M Q A M) (m n : M) → r ≡ done m → Gives says so_far r n → m ≡ n
taken {I} {M} {Q} {A} says so_far r m n is gives = subst (λ (x : Ask I M Q A M). Gives says so_far x n) is gives

first_obeys : {I M Q A : Type 0} (says : (I → Option M) → Q → A → Type 0) (rule : I → Ask I M Q A M) (so_far : I → Option M) → IsFirst rule so_far
    → (i : I) (m : M) → so_far i ≡ Some m → Gives says so_far (rule i) m
first_obeys says rule so_far first i m e = elim (first i) [
  | inl none ↦ absurd cc
  | inr (n, at, is) ↦ (let same : n ≡ m = cc in given says so_far (rule i) n m is same)
]

first_forced : {I M Q A : Type 0} (says : (I → Option M) → Q → A → Type 0) (rule : I → Ask I M Q A M) (so_far : I → Option M) → IsFirst rule so_far
    → (marks : I → M) → Annotates says rule marks → (i : I) (m : M) → so_far i ≡ Some m → marks i ≡ m
first_forced says rule so_far first marks all i m e = elim (first i) [
  | inl none ↦ absurd cc
  | inr (n, at, is) ↦ (let same : n ≡ m = cc in sym (taken says (λ j. Some (marks j)) (rule i) n (marks i) is (all i)) ∙ same)
]

pub first_sound : {I M Q A : Type 0} (says : (I → Option M) → Q → A → Type 0) (rule : I → Ask I M Q A M) (so_far : I → Option M) → IsFirst rule so_far → Sound says rule so_far
first_sound says rule so_far first = record { comes = at_first so_far first; obeys = first_obeys says rule so_far first; forced = first_forced says rule so_far first }

-- ---- circles

falls : {I : Type 0} (awaits : I → I → Type 0) (rank : I → ℕ) → ((i j : I) → awaits i j → rank j < rank i) → (i : I) (via : List I) (j : I) → IsChain awaits i via j → rank j < rank i
falls awaits rank below i [] j is = below i j is
falls awaits rank below i (k ∷ via) j (is, more) = let first = below i k is in let rest = falls awaits rank below k via j more in omega (arith, first, rest)

pub no_circle : {I M Q A : Type 0} (says : (I → Option M) → Q → A → Type 0) (pends : (I → Option M) → Q → I → Type 0) (rule : I → Ask I M Q A M) (so_far : I → Option M) (rank : I → ℕ)
    → AreRanked says pends rule so_far rank → (i : I) → WaitsFor (λ x. Awaits says pends so_far (rule x)) i i → ⊥
no_circle says pends rule so_far rank ranked i circle = let low = falls (λ x. Awaits says pends so_far (rule x)) rank ranked i circle.0 i circle.1 in omega (arith, low)
