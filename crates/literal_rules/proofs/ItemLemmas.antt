-- Keys as they are read.
use Rattle.std.proofs.Common.{◌≡◌, ℕ, zero, suc, List, [], ◌∷◌, ◌++◌, map, slice_get, Option, Some, None, IfSome, option_map, option_and_then, refl, sym, ap, ◌∙◌, subst}
use Rattle.typed_marks.specs.declared.mark.Mark.{Mark}
use Rattle.typed_marks.specs.declared.state.State.{State}
use Rattle.typed_marks.specs.Meanings.{Meaning}
use Rattle.rule_words.specs.Scenes.{said, IsMarkOf}
use Rattle.rule_words.specs.Again.{nth_of}
use Rattle.literal_rules.specs.InCode.{keys_in, AreKeysOf}

pub keys_last : (s : State) (out : List (Option Mark)) (x : Option Mark) → keys_in s (out ++ x ∷ []) ≡ keys_in s out ++ option_map (said s) x ∷ []
keys_last s [] x = refl
keys_last s (o ∷ out) x = ap (λ l. option_map (said s) o ∷ l) (keys_last s out x)

pub marks_last : (s : State) (out : List (Option Mark)) (x : Option Mark) → AreKeysOf s out → IfSome x (IsMarkOf s) → AreKeysOf s (out ++ x ∷ [])
marks_last s [] x all is zero o e = let same : x ≡ o = cc in subst (λ (p : Option Mark). IfSome p (IsMarkOf s)) same is
marks_last s [] x all is (suc i) o e = absurd cc
marks_last s (p ∷ out) x all is zero o e = all 0 o e
marks_last s (p ∷ out) x all is (suc i) o e = marks_last s out x (λ k q at. all (suc k) q at) is i o e

-- what a key says
pub nth_said : (s : State) (keys : List (Option Mark)) (i : ℕ) → nth_of (keys_in s keys) i ≡ option_map (said s) (nth_of keys i)
nth_said s [] i = refl
nth_said s (o ∷ keys) zero = refl
nth_said s (o ∷ keys) (suc i) = nth_said s keys i

pub mark_among : (s : State) (keys : List (Option Mark)) (i : ℕ) (m : Mark) → AreKeysOf s keys → nth_of keys i ≡ Some m → IsMarkOf s m
mark_among s [] i m all e = absurd cc
mark_among s (o ∷ keys) zero m all e = subst (λ (p : Option Mark). IfSome p (IsMarkOf s)) e (all 0 o refl)
mark_among s (o ∷ keys) (suc i) m all e = mark_among s keys i m (λ k q at. all (suc k) q at) e
