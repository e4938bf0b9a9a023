-- What is told of a rule is what it gives, and for what it waits.
use Rattle.std.proofs.Common.{◌≡◌, ◌⊎◌, Option, Some, None, refl, sym, ap, ◌∙◌, subst, inl, inr}
use Rattle.std.specs.Option.{option_map_or}
use Rattle.mark_walk.specs.Asks.{Ask, done, ask, put, bind, Gives, Awaits}
use Rattle.mark_walk.specs.Telling.{Outcome, Says, Waits, Puts, Glimpse, Answered, Pending, Open, glimpsed, Sight, IsTrueSight, tell, then, Yields, Expects}

-- a rule within a rule
pub tell_bind : {I M Q A R S : Type 0} (s : Sight I M Q A) (r : Ask I M Q A R) (rest : R → Ask I M Q A S) → tell s (bind r rest) ≡ then s (tell s r) rest
tell_bind s (done x) rest = refl
tell_bind {I} {M} {Q} {A} {R} {S} s (ask i more) rest = by (s.marks i) (λ m. tell_bind s (more m) rest) where
  by : (o : Option M) → ((m : M) → tell s (bind (more m) rest) ≡ then s (tell s (more m)) rest)
      → option_map_or (λ m. tell s (bind (more m) rest)) o (Waits i) ≡ then s (option_map_or (λ m. tell s (more m)) o (Waits i)) rest
  by None each = refl
  by (Some m) each = each m
tell_bind {I} {M} {Q} {A} {R} {S} s (put q more) rest = by (s.known q) (λ a. tell_bind s (more a) rest) where
  by : (o : Glimpse I A) → ((a : A) → tell s (bind (more a) rest) ≡ then s (tell s (more a)) rest)
      → glimpsed (λ a. tell s (bind (more a) rest)) Waits (Puts q (λ a. bind (more a) rest)) o ≡ then s (glimpsed (λ a. tell s (more a)) Waits (Puts q more) o) rest
  by (Answered a) each = each a
  by (Pending i) each = refl
  by Open each = refl

-- the same, where the outcome of the inner rule is known
pub told_bind : {I M Q A R S : Type 0} (s : Sight I M Q A) (r : Ask I M Q A R) (rest : R → Ask I M Q A S) (o : Outcome I M Q A R)
    → tell s r ≡ o → tell s (bind r rest) ≡ then s o rest
told_bind s r rest o e = tell_bind s r rest ∙ ap (λ x. then s x rest) e

says_one : {I M Q A R : Type 0} (o : Outcome I M Q A R) (a b : R) → o ≡ Says a → o ≡ Says b → a ≡ b
says_one o a b p q = cc

waits_one : {I M Q A R : Type 0} (o : Outcome I M Q A R) (a b : I) → o ≡ Waits a → o ≡ Waits b → a ≡ b
waits_one o a b p q = cc

module _ {I M Q A R : Type 0} (says : (I → Option M) → Q → A → Type 0) (s : Sight I M Q A) (pends : (I → Option M) → Q → I → Type 0) (true_sight : IsTrueSight says pends s) where
  -- what it says it gives
  pub says_gives : (r : Ask I M Q A R) (x : R) → tell s r ≡ Says x → Gives says s.marks r x
  says_gives (done y) x e = says_one (tell s (done y)) y x refl e
  says_gives (ask i rest) x e = by (s.marks i) refl e (λ m. says_gives (rest m) x) where
    by : (o : Option M) → s.marks i ≡ o → option_map_or (λ m. tell s (rest m)) o (Waits i) ≡ Says x → ((m : M) → tell s (rest m) ≡ Says x → Gives says s.marks (rest m) x)
        → (m : M) × (s.marks i ≡ Some m) × Gives says s.marks (rest m) x
    by None at e each = absurd cc
    by (Some m) at e each = (m, at, each m e)
  says_gives (put q rest) x e = by (s.known q) refl e (λ a. says_gives (rest a) x) where
    by : (o : Glimpse I A) → s.known q ≡ o → glimpsed (λ a. tell s (rest a)) Waits (Puts q rest) o ≡ Says x → ((a : A) → tell s (rest a) ≡ Says x → Gives says s.marks (rest a) x)
        → (a : A) × says s.marks q a × Gives says s.marks (rest a) x
    by (Answered a) at e each = (a, true_sight.answers q a at, each a e)
    by (Pending i) at e each = absurd cc
    by Open at e each = absurd cc

  -- once its question is answered, it goes on
  pub puts_gives : (r : Ask I M Q A R) (q : Q) (rest : A → Ask I M Q A R) (a : A) (x : R)
      → tell s r ≡ Puts q rest → says s.marks q a → Gives says s.marks (rest a) x → Gives says s.marks r x
  puts_gives (done y) q rest a x e is more = absurd cc
  puts_gives (ask i next) q rest a x e is more = by (s.marks i) refl e (λ m e. puts_gives (next m) q rest a x e is more) where
    by : (o : Option M) → s.marks i ≡ o → option_map_or (λ m. tell s (next m)) o (Waits i) ≡ Puts q rest → ((m : M) → tell s (next m) ≡ Puts q rest → Gives says s.marks (next m) x)
        → (m : M) × (s.marks i ≡ Some m) × Gives says s.marks (next m) x
    by None at e each = absurd cc
    by (Some m) at e each = (m, at, each m e)
  puts_gives (put p next) q rest a x e is more = by (s.known p) refl e (λ b e. puts_gives (next b) q rest a x e is more) where
    by : (o : Glimpse I A) → s.known p ≡ o → glimpsed (λ b. tell s (next b)) Waits (Puts p next) o ≡ Puts q rest → ((b : A) → tell s (next b) ≡ Puts q rest → Gives says s.marks (next b) x)
        → (b : A) × says s.marks p b × Gives says s.marks (next b) x
    by Open at e each =
        let same : p ≡ q = cc in let on : next ≡ rest = cc in
        (a, subst (λ (y : Q). says s.marks y a) (sym same) is, subst (λ (f : A → Ask I M Q A R). Gives says s.marks (f a) x) (sym on) more)
    by (Answered b) at e each = (b, true_sight.answers p b at, each b e)
    by (Pending i) at e each = absurd cc

  -- ---- outcomes whose questions are answered one after the other

  pub yields_gives : (r : Ask I M Q A R) (o : Outcome I M Q A R) (x : R) → tell s r ≡ o → Yields says s.marks o x → Gives says s.marks r x
  yields_gives r (Says y) x e is = says_gives r x (e ∙ ap Says is)
  yields_gives r (Waits i) x e is = absurd is
  yields_gives r (Puts q rest) x e (a, is, more) = puts_gives r q rest a x e is more

  -- for what it waits
  pub waits_awaits : (r : Ask I M Q A R) (j : I) → tell s r ≡ Waits j → Awaits says pends s.marks r j
  waits_awaits (done y) j e = absurd cc
  waits_awaits (ask i rest) j e = by (s.marks i) refl e (λ m. waits_awaits (rest m) j) where
    by : (o : Option M) → s.marks i ≡ o → option_map_or (λ m. tell s (rest m)) o (Waits i) ≡ Waits j → ((m : M) → tell s (rest m) ≡ Waits j → Awaits says pends s.marks (rest m) j)
        → ((s.marks i ≡ None) × (i ≡ j)) ⊎ ((m : M) × (s.marks i ≡ Some m) × Awaits says pends s.marks (rest m) j)
    by None at e each = inl (at, waits_one (Waits i) i j refl e)
    by (Some m) at e each = inr (m, at, each m e)
  waits_awaits (put q rest) j e = by (s.known q) refl e (λ a. waits_awaits (rest a) j) where
    by : (o : Glimpse I A) → s.known q ≡ o → glimpsed (λ a. tell s (rest a)) Waits (Puts q rest) o ≡ Waits j → ((a : A) → tell s (rest a) ≡ Waits j → Awaits says pends s.marks (rest a) j)
        → pends s.marks q j ⊎ ((a : A) × says s.marks q a × Awaits says pends s.marks (rest a) j)
    by (Answered a) at e each = inr (a, true_sight.answers q a at, each a e)
    by (Pending i) at e each = inl (subst (λ (k : I). pends s.marks q k) (waits_one (Waits i) i j refl e) (true_sight.waits q i at))
    by Open at e each = absurd cc

  -- while the question waits, so does the rule
  pub puts_pends : (r : Ask I M Q A R) (q : Q) (rest : A → Ask I M Q A R) (j : I) → tell s r ≡ Puts q rest → pends s.marks q j → Awaits says pends s.marks r j
  puts_pends (done y) q rest j e is = absurd cc
  puts_pends (ask i next) q rest j e is = by (s.marks i) refl e (λ m e. puts_pends (next m) q rest j e is) where
    by : (o : Option M) → s.marks i ≡ o → option_map_or (λ m. tell s (next m)) o (Waits i) ≡ Puts q rest → ((m : M) → tell s (next m) ≡ Puts q rest → Awaits says pends s.marks (next m) j)
        → ((s.marks i ≡ None) × (i ≡ j)) ⊎ ((m : M) × (s.marks i ≡ Some m) × Awaits says pends s.marks (next m) j)
    by None at e each = absurd cc
    by (Some m) at e each = inr (m, at, each m e)
  puts_pends (put p next) q rest j e is = by (s.known p) refl e (λ b e. puts_pends (next b) q rest j e is) where
    by : (o : Glimpse I A) → s.known p ≡ o → glimpsed (λ b. tell s (next b)) Waits (Puts p next) o ≡ Puts q rest → ((b : A) → tell s (next b) ≡ Puts q rest → Awaits says pends s.marks (next b) j)
        → pends s.marks p j ⊎ ((b : A) × says s.marks p b × Awaits says pends s.marks (next b) j)
    by Open at e each = let same : p ≡ q = cc in inl (subst (λ (y : Q). pends s.marks y j) (sym same) is)
    by (Answered b) at e each = inr (b, true_sight.answers p b at, each b e)
    by (Pending i) at e each = absurd cc

  -- once the question is answered, it waits for what it asks then
  pub puts_awaits : (r : Ask I M Q A R) (q : Q) (rest : A → Ask I M Q A R) (a : A) (j : I)
      → tell s r ≡ Puts q rest → says s.marks q a → Awaits says pends s.marks (rest a) j → Awaits says pends s.marks r j
  puts_awaits (done y) q rest a j e is more = absurd cc
  puts_awaits (ask i next) q rest a j e is more = by (s.marks i) refl e (λ m e. puts_awaits (next m) q rest a j e is more) where
    by : (o : Option M) → s.marks i ≡ o → option_map_or (λ m. tell s (next m)) o (Waits i) ≡ Puts q rest → ((m : M) → tell s (next m) ≡ Puts q rest → Awaits says pends s.marks (next m) j)
        → ((s.marks i ≡ None) × (i ≡ j)) ⊎ ((m : M) × (s.marks i ≡ Some m) × Awaits says pends s.marks (next m) j)
    by None at e each = absurd cc
    by (Some m) at e each = inr (m, at, each m e)
  puts_awaits (put p next) q rest a j e is more = by (s.known p) refl e (λ b e. puts_awaits (next b) q rest a j e is more) where
    by : (o : Glimpse I A) → s.known p ≡ o → glimpsed (λ b. tell s (next b)) Waits (Puts p next) o ≡ Puts q rest → ((b : A) → tell s (next b) ≡ Puts q rest → Awaits says pends s.marks (next b) j)
        → pends s.marks p j ⊎ ((b : A) × says s.marks p b × Awaits says pends s.marks (next b) j)
    by Open at e each =
        let same : p ≡ q = cc in let on : next ≡ rest = cc in
        inr (a, subst (λ (y : Q). says s.marks y a) (sym same) is, subst (λ (f : A → Ask I M Q A R). Awaits says pends s.marks (f a) j) (sym on) more)
    by (Answered b) at e each = inr (b, true_sight.answers p b at, each b e)
    by (Pending i) at e each = absurd cc

  pub expects_awaits : (r : Ask I M Q A R) (o : Outcome I M Q A R) (j : I) → tell s r ≡ o → Expects says pends s.marks o j → Awaits says pends s.marks r j
  expects_awaits r (Says y) j e is = absurd is
  expects_awaits r (Waits i) j e is = waits_awaits r j (e ∙ ap Waits is)
  expects_awaits r (Puts q rest) j e (inl is) = puts_pends r q rest j e is
  expects_awaits r (Puts q rest) j e (inr (a, is, more)) = puts_awaits r q rest a j e is more
