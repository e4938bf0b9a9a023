-- Items of a table written one after the other.
use Rattle.std.proofs.Common.{◌≡◌, ℕ, ◌+◌, ◌^◌, ◌<◌, ◌≤◌, List, [], ◌∷◌, ◌++◌, length, take, get_or, map, flat_map, sym, ap, subst, ◌∙◌, append_assoc, arith}
use Rattle.std.specs.List.{AllByRecursion}
use Rattle.std.proofs.lemmas.List.{take_more, take_all, flat_map_more, get_or-map, length-map}
use Rattle.std.proofs.lemmas.List.Elements.{All-from_recursion}
use Rattle.gv_bytes.specs.Spelling.{natural, items, AreItems}

one_all : {B : Type 0} (P : B → Type 0) (xs : List B) (x : B) → AllByRecursion P xs → P x → AllByRecursion P (xs ++ x ∷ [])
one_all P [] x all one = (one, tt)
one_all P (y ∷ ys) x all one = (all.0, one_all P ys x all.1 one)

module _ {A B : Type 0} (f : A → B) where
  one_more : (xs : List A) (n : ℕ) (x : A) → n < length xs → x ≡ get_or xs n x → take (n + 1) (map f xs) ≡ take n (map f xs) ++ f x ∷ []
  one_more xs n x lt is =
      let within : n < length (map f xs) = omega (arith, lt, length-map xs f) in
      let here : get_or (map f xs) n (f x) ≡ f x = get_or-map f xs n x (f x) lt ∙ ap f (sym is) in
      take_more (map f xs) n (f x) within ∙ ap (λ (y : B). take n (map f xs) ++ y ∷ []) here

  pub written_more : (text : B → List ℕ) (front : List ℕ) (xs : List A) (n : ℕ) (x : A) (out new : List ℕ) → n < length xs → x ≡ get_or xs n x
      → out ≡ front ++ flat_map text (take n (map f xs)) → new ≡ out ++ text (f x) → new ≡ front ++ flat_map text (take (n + 1) (map f xs))
  written_more text front xs n x out new lt is so_far grown =
      grown ∙ (ap (λ (l : List ℕ). l ++ text (f x)) so_far ∙ (flat_map_more text front (take n (map f xs)) (f x) ∙ ap (λ (l : List B). front ++ flat_map text l) (sym (one_more xs n x lt is))))

  pub fits_more : (P : B → Type 0) (xs : List A) (n : ℕ) (x : A) → n < length xs → x ≡ get_or xs n x → AllByRecursion P (take n (map f xs)) → P (f x) → AllByRecursion P (take (n + 1) (map f xs))
  fits_more P xs n x lt is all one = subst (AllByRecursion P) (sym (one_more xs n x lt is)) (one_all P (take n (map f xs)) (f x) all one)

  pub all_written : (text : B → List ℕ) (old : List ℕ) (xs : List A) (n : ℕ) (out : List ℕ) → length xs ≤ n → out ≡ (old ++ natural (length xs)) ++ flat_map text (take n (map f xs)) → out ≡ old ++ items text (map f xs)
  all_written text old xs n out le so_far =
      let size : length xs ≡ length (map f xs) = sym (length-map xs f) in
      let all : length (map f xs) ≤ n = omega (arith, le, size) in
      so_far
      ∙ ap (λ (l : List B). (old ++ natural (length xs)) ++ flat_map text l) (take_all n (map f xs) all)
      ∙ append_assoc old (natural (length xs)) (flat_map text (map f xs))
      ∙ ap (λ (k : ℕ). old ++ (natural k ++ flat_map text (map f xs))) size

  pub all_fit : (P : B → Type 0) (xs : List A) (n : ℕ) → length xs < 2 ^ 64 → length xs ≤ n → AllByRecursion P (take n (map f xs)) → AreItems P (map f xs)
  all_fit P xs n few le all =
      let size : length xs ≡ length (map f xs) = sym (length-map xs f) in
      let whole : length (map f xs) ≤ n = omega (arith, le, size) in
      (omega (arith, few, size), subst (AllByRecursion P) (take_all n (map f xs) whole) all)

  pub one_fits : (P : B → Type 0) (xs : List A) (n : ℕ) (x : A) → n < length xs → x ≡ get_or xs n x → AreItems P (map f xs) → P (f x)
  one_fits P xs n x lt is all =
      let here : get_or (map f xs) n (f x) ≡ f x = get_or-map f xs n x (f x) lt ∙ ap f (sym is) in
      subst P here (All-from_recursion P (map f xs) all.1 n (f x) (omega (arith, lt, length-map xs f)))
