-- An outcome text tells what was found and the facts.
use Rattle.std.proofs.Common.{◌≡◌, ℕ, ◌<◌, ◌≤◌, ◌+◌, ◌^◌, List, [], ◌∷◌, ◌++◌, Some, length, refl, sym, ap, ◌∙◌, subst, arith}
use Rattle.std.proofs.lemmas.List.{length-append}
use Rattle.gv_bytes.specs.Spelling.{IsText, natural, text}
use Rattle.gv_bytes.specs.Reading.{text_at}
use Rattle.gv_bytes.proofs.Numbers.{texts}
use Rattle.action_graph.specs.Outcomes.{facts_of, findings_of, outcome_text, parts_or}

nil : (xs : List ℕ) → xs ++ [] ≡ xs
nil [] = refl
nil (x ∷ xs) = ap (λ l. x ∷ l) (nil xs)

text-long : (t : List ℕ) → length t ≤ length (text t)
text-long t = let e : length (text t) ≡ length (natural (length t)) + length t = length-append (natural (length t)) t in omega (arith, e)

parts-are : (f g : List ℕ) → IsText f → parts_or (text_at (outcome_text f g)) ≡ (f, text g)
parts-are f g small = ap parts_or (texts.again f (text g) small)

last-is : (g : List ℕ) → IsText g → parts_or (text_at (text g)) ≡ (g, [])
last-is g small = ap (λ (l : List ℕ). parts_or (text_at l)) (sym (nil (text g))) ∙ ap parts_or (texts.again g [] small)

pub told : (f g : List ℕ) → IsText (outcome_text f g) → (findings_of (outcome_text f g) ≡ f) × (facts_of (outcome_text f g) ≡ g)
unfolding findings_of facts_of
told f g small =
    let e : length (outcome_text f g) ≡ length (text f) + length (text g) = length-append (text f) (text g) in
    let a : length f ≤ length (text f) = text-long f in
    let b : length g ≤ length (text g) = text-long g in
    let sf : IsText f = omega (arith, e, a, small) in
    let sg : IsText g = omega (arith, e, b, small) in
    let first = parts-are f g sf in
    (ap (λ (x : List ℕ × List ℕ). x.0) first, ap (λ (x : List ℕ × List ℕ). (parts_or (text_at x.1)).0) first ∙ ap (λ (x : List ℕ × List ℕ). x.0) (last-is g sg))
