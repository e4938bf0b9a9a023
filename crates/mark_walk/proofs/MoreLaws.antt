-- Where more is answered, rules give what they gave, and marks that came one after the other come so again.
use Rattle.std.proofs.Common.{◌≡◌, Option, Some, None, refl, sym, ap, ◌∙◌, subst, inl, inr}
use Rattle.mark_walk.specs.Asks.{Ask, done, ask, put, Gives, Lasting, Annotates, Comes, Sound, Adds, Stays, IsFirst, HasCome, IsTheAnnotation}
use Rattle.mark_walk.specs.Asks.Comes.{at_first, and_one, as_before}
use Rattle.mark_walk.proofs.AskLaws.{gives_all, first_sound, sound_adds, sound_stays, alone_gives, alone_once}

-- the same answers, and maybe more, while an item has no mark
abbrev pub Answers : {I M Q A : Type 0} → ((I → Option M) → Q → A → Type 0) → ((I → Option M) → Q → A → Type 0) → I → Type 0
Answers {I} {M} {Q} {A} says more lone = (so_far : I → Option M) (q : Q) (x : A) → so_far lone ≡ None → says so_far q x → more so_far q x

-- what waits for itself has no mark, in whatever order marks come
module _ {I M Q A : Type 0} (says : (I → Option M) → Q → A → Type 0) (rule : I → Ask I M Q A M) (lone : I) (rest : M → Ask I M Q A M) (itself : rule lone ≡ ask lone rest) where
  not_at_once : (o : Option M) (r : Ask I M Q A M) → r ≡ ask lone rest → (m : M) × (o ≡ Some m) × (r ≡ done m) → ⊥
  not_at_once o r is (m, at, given) = absurd cc

  not_after : (so_far : I → Option M) (m : M) → so_far lone ≡ None → Gives says so_far (rule lone) m → ⊥
  not_after so_far m none gives =
      let given : Gives says so_far (ask lone rest) m = subst (λ (r : Ask I M Q A M). Gives says so_far r m) itself gives in
      let both : None ≡ Some given.0 = sym none ∙ given.1 in absurd cc

  none_by : (o : Option M) → ((m : M) → o ≡ Some m → ⊥) → o ≡ None
  none_by None never = refl
  none_by (Some m) never = absurd (never m refl)

  pub lone_unmarked : {so_far : I → Option M} → Comes says rule so_far → so_far lone ≡ None
  lone_unmarked (at_first so_far first) = elim (first lone) [
    | inl none ↦ none
    | inr given ↦ absurd (not_at_once (so_far lone) (rule lone) itself given)
  ]
  lone_unmarked (and_one so_far now i m before gives adds) = none_by (now lone) (λ n at. elim (adds.only lone n at) [
    | inl same ↦ not_after so_far m (lone_unmarked before) (subst (λ (j : I). Gives says so_far (rule j) m) (sym same) gives)
    | inr was ↦ (let both : None ≡ Some n = sym (lone_unmarked before) ∙ was in absurd cc)
  ])
  lone_unmarked (as_before so_far now before stays) = none_by (now lone) (λ n at. (let both : None ≡ Some n = sym (lone_unmarked before) ∙ stays.only lone n at in absurd cc))

module _ {I M Q A : Type 0} (says more : (I → Option M) → Q → A → Type 0) (lone : I) (answers : Answers says more lone) where
  pub gives_wider : {R : Type 0} (so_far : I → Option M) (r : Ask I M Q A R) (m : R) → so_far lone ≡ None → Gives says so_far r m → Gives more so_far r m
  gives_wider so_far (done x) m none e = e
  gives_wider so_far (ask i rest) m none (n, at, given) = (n, at, gives_wider so_far (rest n) m none given)
  gives_wider so_far (put q rest) m none (x, is, given) = (x, answers so_far q x none is, gives_wider so_far (rest x) m none given)

  module _ (rule : I → Ask I M Q A M) (rest : M → Ask I M Q A M) (itself : rule lone ≡ ask lone rest) where
    pub comes_wider : {so_far : I → Option M} → Comes says rule so_far → Comes more rule so_far
    comes_wider (at_first so_far first) = at_first so_far first
    comes_wider (and_one so_far now i m before gives adds) =
        and_one so_far now i m (comes_wider before) (gives_wider so_far (rule i) m (lone_unmarked says rule lone rest itself before) gives) adds
    comes_wider (as_before so_far now before stays) = as_before so_far now (comes_wider before) stays

    pub come_wider : (marks : I → M) → HasCome says rule marks → HasCome more rule marks
    come_wider marks come = record { so_far = come.so_far; comes = comes_wider come.comes; each = come.each }

module _ {I M Q A : Type 0} (says : (I → Option M) → Q → A → Type 0) (pends : (I → Option M) → Q → I → Type 0) (lasting : Lasting says pends) where
  -- marks that came so are sound
  pub comes_sound : (rule : I → Ask I M Q A M) {so_far : I → Option M} → Comes says rule so_far → Sound says rule so_far
  comes_sound rule (at_first so_far first) = first_sound says rule so_far first
  comes_sound rule (and_one so_far now i m before gives adds) = sound_adds says pends lasting rule so_far now i m (comes_sound rule before) adds gives
  comes_sound rule (as_before so_far now before stays) = sound_stays says pends lasting rule so_far now (comes_sound rule before) stays

  module _ (rule : I → Ask I M Q A M) (marks : I → M) (come : HasCome says rule marks) where
    sound : Sound says rule come.so_far
    sound = comes_sound rule come.comes

    agrees : (j : I) (n : M) → come.so_far j ≡ Some n → marks j ≡ n
    agrees j n at = elim (come.each j) [
      | inl is ↦ one (come.so_far j) (marks j) n is at
      | inr is ↦ alone_once says pends lasting rule come.so_far j (marks j) n is (sound.obeys j n at)
    ] where
      one : (o : Option M) (a b : M) → o ≡ Some a → o ≡ Some b → a ≡ b
      one o a b p q = cc

    annotates : Annotates says rule marks
    annotates i = elim (come.each i) [
      | inl is ↦ gives_all says pends lasting come.so_far marks agrees (rule i) (marks i) (sound.obeys i (marks i) is)
      | inr is ↦ alone_gives says pends lasting rule marks i (marks i) is
    ]

    alone : (others : I → M) → Annotates says rule others → (i : I) → others i ≡ marks i
    alone others all i = elim (come.each i) [
      | inl is ↦ sound.forced others all i (marks i) is
      | inr is ↦ sym (alone_once says pends lasting rule (λ j. Some (others j)) i (marks i) (others i) is (all i))
    ]

    -- marks that came so are the one annotation
    pub come_annotation : IsTheAnnotation says rule marks
    come_annotation = record { «is» = annotates; alone = alone; come = come }

-- The one annotation is the one where more is answered.
pub annotation_wider : {I M Q A : Type 0} (says more : (I → Option M) → Q → A → Type 0) (pends : (I → Option M) → Q → I → Type 0) (lone : I) → Answers says more lone → Lasting more pends
    → (rule : I → Ask I M Q A M) (rest : M → Ask I M Q A M) → rule lone ≡ ask lone rest → (marks : I → M) → IsTheAnnotation says rule marks → IsTheAnnotation more rule marks
annotation_wider says more pends lone answers lasting rule rest itself marks is = come_annotation more pends lasting rule marks (come_wider says more lone answers rule rest itself marks is.come)
