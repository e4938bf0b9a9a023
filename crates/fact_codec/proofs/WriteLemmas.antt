-- Items written one after the other.
use Rattle.std.proofs.Common.{◌≡◌, ℕ, ◌+◌, ◌<◌, ◌≤◌, List, [], ◌∷◌, ◌++◌, length, take, get_or, flat_map, sym, ap, subst, ◌∙◌, append_assoc}
use Rattle.std.specs.List.{AllByRecursion}
use Rattle.std.proofs.lemmas.List.{take_more, take_all, flat_map_more}
use Rattle.gv_bytes.specs.Spelling.{natural, items}

module _ {A : Type 0} where
  one_more : (xs : List A) (n : ℕ) (x : A) → n < length xs → x ≡ get_or xs n x → take (n + 1) xs ≡ take n xs ++ x ∷ []
  one_more xs n x lt is = take_more xs n x lt ∙ ap (λ (y : A). take n xs ++ y ∷ []) (sym is)

  pub written_more : (f : A → List ℕ) (front : List ℕ) (xs : List A) (n : ℕ) (x : A) (out new : List ℕ) → n < length xs → x ≡ get_or xs n x
      → out ≡ front ++ flat_map f (take n xs) → new ≡ out ++ f x → new ≡ front ++ flat_map f (take (n + 1) xs)
  written_more f front xs n x out new lt is so_far grown =
      grown ∙ (ap (λ (l : List ℕ). l ++ f x) so_far ∙ (flat_map_more f front (take n xs) x ∙ ap (λ (l : List A). front ++ flat_map f l) (sym (one_more xs n x lt is))))

  one_all : (P : A → Type 0) (xs : List A) (x : A) → AllByRecursion P xs → P x → AllByRecursion P (xs ++ x ∷ [])
  one_all P [] x all one = (one, tt)
  one_all P (y ∷ ys) x all one = (all.0, one_all P ys x all.1 one)

  pub all_more : (P : A → Type 0) (xs : List A) (n : ℕ) (x : A) → n < length xs → x ≡ get_or xs n x → AllByRecursion P (take n xs) → P x → AllByRecursion P (take (n + 1) xs)
  all_more P xs n x lt is all one = subst (AllByRecursion P) (sym (one_more xs n x lt is)) (one_all P (take n xs) x all one)

  pub all_written : (f : A → List ℕ) (old : List ℕ) (xs : List A) (n : ℕ) (out : List ℕ) → length xs ≤ n → out ≡ old ++ natural (length xs) ++ flat_map f (take n xs) → out ≡ old ++ items f xs
  all_written f old xs n out le so_far =
      so_far ∙ (ap (λ (l : List A). (old ++ natural (length xs)) ++ flat_map f l) (take_all n xs le) ∙ append_assoc old (natural (length xs)) (flat_map f xs))

  pub all_taken : (P : A → Type 0) (xs : List A) (n : ℕ) → length xs ≤ n → AllByRecursion P (take n xs) → AllByRecursion P xs
  all_taken P xs n le all = subst (AllByRecursion P) (take_all n xs le) all
