-- The loops over the tokens of nodes.
use Rattle.std.proofs.Common.{◌≡◌, ℕ, suc, ◌+◌, ◌<◌, ◌≤◌, Bool, true, false, cond, ◌&&◌, List, [], ◌∷◌, ◌++◌, length, drop, get_or, refl, arith, ap, sym, ◌∙◌, subst, append_assoc, drop-cons, add-one}
use Rattle.std.proofs.lemmas.List.{append-nil, drop_all}
use Rattle.go_tree.specs.declared.token.Token.{Token}
use Rattle.go_tree.specs.Spelling.{text_of, gap, spelled_after, same_token, same_list}

cut : (xs : List Token) (i : ℕ) (d : Token) → i < length xs → drop i xs ≡ get_or xs i d ∷ drop (i + 1) xs
cut xs i d l = rw (add-one, drop-cons xs i d) refl

-- A token more is written.
pub written : (source out left text whole : List ℕ) (ts : List Token) (i : ℕ) (d t : Token) → i < length ts → t ≡ get_or ts i d → text ≡ text_of source t
    → out ++ spelled_after source left (drop i ts) ≡ whole → ((out ++ gap left text) ++ text) ++ spelled_after source text (drop (i + 1) ts) ≡ whole
written source out left text whole ts i d t l e q h =
    let rest = spelled_after source text (drop (i + 1) ts) in
    let x : gap left (text_of source t) ++ (text_of source t ++ spelled_after source (text_of source t) (drop (i + 1) ts)) ≡ gap left text ++ (text ++ rest) =
    ap (λ v. gap left v ++ (v ++ spelled_after source v (drop (i + 1) ts))) (sym q) in
    append_assoc (out ++ gap left text) text rest ∙ append_assoc out (gap left text) (text ++ rest)
    ∙ ap (λ v. out ++ v) (sym x) ∙ ap (λ v. out ++ spelled_after source left (v ∷ drop (i + 1) ts)) e ∙ ap (λ v. out ++ spelled_after source left v) (sym (cut ts i d l)) ∙ h

pub written_all : (source out left whole : List ℕ) (ts : List Token) (i : ℕ) → length ts ≤ i → out ++ spelled_after source left (drop i ts) ≡ whole → out ≡ whole
written_all source out left whole ts i l h = sym (append-nil out) ∙ ap (λ v. out ++ spelled_after source left v) (sym (drop_all i ts l)) ∙ h

-- Tokens that are the same so far, one more of each.
pub same_step : (source : List ℕ) (xs ys : List Token) (i : ℕ) (d : Token) (b : Bool) → i < length xs → i < length ys → b ≡ same_token source (get_or xs i d) (get_or ys i d)
    → same_list source (drop i xs) (drop i ys) ≡ (b && same_list source (drop (i + 1) xs) (drop (i + 1) ys))
same_step source xs ys i d b l h e =
    ap (λ v. same_list source v (drop i ys)) (cut xs i d l) ∙ ap (λ v. same_list source (get_or xs i d ∷ drop (i + 1) xs) v) (cut ys i d h)
    ∙ ap (λ v. v && same_list source (drop (i + 1) xs) (drop (i + 1) ys)) (sym e)

pub same_end : (source : List ℕ) (xs ys : List Token) (i : ℕ) → length xs ≤ i → length ys ≤ i → same_list source (drop i xs) (drop i ys) ≡ true
same_end source xs ys i l h = ap (λ v. same_list source v (drop i ys)) (drop_all i xs l) ∙ ap (same_list source []) (drop_all i ys h)

-- Lists of different length are not the same.
pub same_length : (source : List ℕ) (xs ys : List Token) → (length xs ≡ length ys → ⊥) → same_list source xs ys ≡ false
same_length source [] [] n = absurd (n refl)
same_length source [] (y ∷ ys) n = refl
same_length source (x ∷ xs) [] n = refl
same_length source (x ∷ xs) (y ∷ ys) n = go (same_token source x y) (same_length source xs ys (λ e. n (ap suc e)))
  where
    go : (b : Bool) → same_list source xs ys ≡ false → (b && same_list source xs ys) ≡ false
    go true e = e
    go false e = refl
