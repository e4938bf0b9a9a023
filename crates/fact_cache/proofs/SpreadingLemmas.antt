-- Numbers of texts that are at hand.
use Rattle.std.proofs.Common.{◌≡◌, ◌==◌, ℕ, true, List, [], ◌∷◌, ◌++◌, map, refl, sym, ap, ◌∙◌}
use Rattle.std.proofs.lemmas.Bool.{and_parts, eqb-true}
use Rattle.std.proofs.lemmas.List.{map-append}
use Rattle.fact_cache.specs.declared.spread.Key.{Key}
use Rattle.fact_cache.specs.Spread.{mixed, mixed_numbers, mixed_texts, text_mix, head_of, bucket_of, is_same_key, AreSpread}

-- one text more
pub spread-push : (key : Key) (texts new : List (List ℕ)) (text : List ℕ) (numbers more : List ℕ) (number : ℕ) → AreSpread key texts numbers → number ≡ text_mix key text → new ≡ texts ++ text ∷ [] → more ≡ numbers ++ number ∷ []
    → AreSpread key new more
spread-push key texts new text numbers more number are is put pushed =
    pushed
    ∙ (ap (λ (ns : List ℕ). ns ++ number ∷ []) are
    ∙ (ap (λ (n : ℕ). map (text_mix key) texts ++ n ∷ []) is
    ∙ (sym (map-append (text_mix key) texts (text ∷ [])) ∙ ap (λ (ts : List (List ℕ)). map (text_mix key) ts) (sym put))))

-- or neither
pub spread-same : (key : Key) (texts new : List (List ℕ)) (numbers more : List ℕ) → AreSpread key texts numbers → new ≡ texts → more ≡ numbers → AreSpread key new more
spread-same key texts new numbers more are put pushed = pushed ∙ (are ∙ ap (λ (ts : List (List ℕ)). map (text_mix key) ts) (sym put))

pub key-same : (a b : Key) → is_same_key a b ≡ true → a ≡ b
key-same a b same = ap (λ (n : ℕ). key_of n a.factor) (eqb-true a.point b.point parts.0) ∙ ap (λ (n : ℕ). key_of b.point n) (eqb-true a.factor b.factor parts.1) where
  parts : (a.point == b.point ≡ true) × (a.factor == b.factor ≡ true)
  parts = and_parts (a.point == b.point) (a.factor == b.factor) same

  key_of : ℕ → ℕ → Key
  key_of point factor = record { point = point; factor = factor }

mixed-spread : (key : Key) (hash : ℕ) (texts : List (List ℕ)) → mixed_numbers key hash (map (text_mix key) texts) ≡ mixed_texts key hash texts
mixed-spread key hash [] = refl
mixed-spread key hash (t ∷ ts) = mixed-spread key (mixed key.factor hash (text_mix key t)) ts

-- by them the head is the one of the input
pub spread-head : (key own : Key) (node : ℕ) (texts : List (List ℕ)) (numbers : List ℕ) → own ≡ key → AreSpread own texts numbers
    → head_of (mixed key.factor (mixed_numbers key node numbers) 0) ≡ bucket_of key (record { node = node; texts = texts })
unfolding bucket_of
spread-head key own node texts numbers same are =
    ap (λ (ns : List ℕ). head_of (mixed key.factor (mixed_numbers key node ns) 0)) (are ∙ ap (λ (k : Key). map (text_mix k) texts) same)
    ∙ ap (λ (hash : ℕ). head_of (mixed key.factor hash 0)) (mixed-spread key node texts)
