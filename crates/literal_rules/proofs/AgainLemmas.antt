-- Tests of the first few, and what stands twice.
use Rattle.std.proofs.Common.{◌≡◌, ℕ, suc, ◌+◌, Bool, true, false, ◌||◌, ◌&&◌, cond, List, Option, Some, None, IfSome, refl, ap, ◌∙◌, arith}
use Rattle.std.specs.Option.{option_map_or}
use Rattle.literal_rules.specs.Again.{all_of, has_again}
use Rattle.literal_rules.specs.Rows.{greater, behind, end_after}
use Rattle.rule_words.specs.Again.{is_again, is_before, nth_of}
use Rattle.rule_words.proofs.AgainLemmas.{any_on, same_told}

next_is : (i : ℕ) → suc i ≡ i + 1
next_is i = omega arith

pub all_on : (passes : ℕ → Bool) (i : ℕ) (all x next : Bool) → all ≡ all_of passes i → x ≡ passes i → next ≡ (all && x) → next ≡ all_of passes (i + 1)
all_on passes i all x next was here is =
    is ∙ (ap (λ f. f && x) was ∙ (ap (λ b. all_of passes i && b) here ∙ ap (all_of passes) (next_is i)))

pub noted : (b old : Bool) → cond b true old ≡ (old || b)
noted true true = refl
noted true false = refl
noted false true = refl
noted false false = refl

module _ {X : Type 0} (same : X → X → Bool) (nth : ℕ → Option X) (i : ℕ) (old : X → Bool) (place : Option X) where
  pub again_next : (found again next : Bool) → place ≡ nth i → ((x : X) → old x ≡ is_before same nth i x) → again ≡ option_map_or old place false
      → found ≡ has_again same nth i → next ≡ (found || again) → next ≡ has_again same nth (i + 1)
  again_next found again next here were told was is =
      any_on (is_again same nth) i found again next was (told ∙ (same_told old (is_before same nth i) place were ∙ ap (λ o. option_map_or (is_before same nth i) o false) here)) is

pub if_some : {X : Type 0} (P : X → Type 0) (o : Option X) → ((x : X) → o ≡ Some x → P x) → IfSome o P
if_some P None all = tt
if_some P (Some x) all = all x refl

pub end_on : (places : List (Option ℕ)) (i end b next : ℕ) → end ≡ end_after places i → b ≡ behind (nth_of places i) → next ≡ greater end b → next ≡ end_after places (i + 1)
end_on places i end b next was here is =
    is ∙ (ap (λ n. greater n b) was ∙ (ap (λ n. greater (end_after places i) n) here ∙ ap (end_after places) (next_is i)))
