-- What comes of a rule over what is seen at once, which is the marks so far, the answers that are known, and for what else is known to be waited: what it
-- gives, the first item for which it waits, or the first question of which neither is known. It computes, so a judge that reads marks says what it reads
-- by an equation.
use Rattle.std.specs.Prelude.{◌≡◌, ◌⊎◌, Option}
use Rattle.std.specs.Option.{option_map_or}
use Rattle.mark_walk.specs.Asks.{Ask, done, ask, put, bind, Gives, Awaits}

pub data Outcome (I M Q A R : Type 0) : Type 0 where
  Says : R → Outcome I M Q A R
  Waits : I → Outcome I M Q A R
  Puts : Q → (A → Ask I M Q A R) → Outcome I M Q A R

-- what is known of a question at once: its answer, or an item for which it waits, or neither
pub data Glimpse (I A : Type 0) : Type 0 where
  Answered : A → Glimpse I A
  Pending : I → Glimpse I A
  Open : Glimpse I A

abbrev pub glimpsed : {I A O : Type 0} → (A → O) → (I → O) → O → Glimpse I A → O
glimpsed answered pending other (Answered a) = answered a
glimpsed answered pending other (Pending i) = pending i
glimpsed answered pending other Open = other

-- what is seen at once: the marks so far, and what is known of questions
pub record Sight (I M Q A : Type 0) : Type 0 where
  pub marks : I → Option M
  pub known : Q → Glimpse I A

-- what is known is so
pub record IsTrueSight {I M Q A : Type 0} (says : (I → Option M) → Q → A → Type 0) (pends : (I → Option M) → Q → I → Type 0) (s : Sight I M Q A) : Type 0 where
  pub answers : (q : Q) (a : A) → s.known q ≡ Answered a → says s.marks q a
  pub waits : (q : Q) (i : I) → s.known q ≡ Pending i → pends s.marks q i

abbrev pub tell : {I M Q A R : Type 0} → Sight I M Q A → Ask I M Q A R → Outcome I M Q A R
tell s (done r) = Says r
tell s (ask i rest) = option_map_or (λ m. tell s (rest m)) (s.marks i) (Waits i)
tell s (put q rest) = glimpsed (λ a. tell s (rest a)) Waits (Puts q rest) (s.known q)

-- what comes of a rule that goes on from another's outcome
abbrev pub then : {I M Q A R S : Type 0} → Sight I M Q A → Outcome I M Q A R → (R → Ask I M Q A S) → Outcome I M Q A S
then s (Says r) rest = tell s (rest r)
then s (Waits i) rest = Waits i
then s (Puts q more) rest = Puts q (λ x. bind (more x) rest)

-- what an outcome comes to, once its questions are answered
abbrev pub Yields : {I M Q A R : Type 0} → ((I → Option M) → Q → A → Type 0) → (I → Option M) → Outcome I M Q A R → R → Type 0
Yields says so_far (Says r) x = r ≡ x
Yields says so_far (Waits i) x = ⊥
Yields {I} {M} {Q} {A} says so_far (Puts q rest) x = (a : A) × says so_far q a × Gives says so_far (rest a) x

-- the items for which it waits
abbrev pub Expects : {I M Q A R : Type 0} → ((I → Option M) → Q → A → Type 0) → ((I → Option M) → Q → I → Type 0) → (I → Option M) → Outcome I M Q A R → I → Type 0
Expects says pends so_far (Says r) j = ⊥
Expects says pends so_far (Waits i) j = i ≡ j
Expects {I} {M} {Q} {A} says pends so_far (Puts q rest) j = pends so_far q j ⊎ ((a : A) × says so_far q a × Awaits says pends so_far (rest a) j)
