-- Lists by their places, and numbers of what passes a test.
use Rattle.std.proofs.Common.{◌≡◌, ℕ, zero, suc, ◌+◌, ◌⊎◌, inl, inr, Bool, true, false, cond, ◌||◌, Some, None, List, [], ◌∷◌, ◌++◌, length, map, slice_get, refl, ap, sym, ◌∙◌, subst, arith}
use Rattle.std.specs.List.{Contains, filter, list_any}
use Rattle.std.proofs.lemmas.List.{length-append}
use Rattle.import_graph.specs.Packages.{numbers_from, is_empty}
use Rattle.import_graph.proofs.OrderLemmas.{contains-cases, contains-head, contains-tail}
use Rattle.gv_base.proofs.Lists.{push_cases}

-- one item more, with what holds of each at its place
pub each-more : {A : Type 0} (P : ℕ → A → Type 0) (xs more : List A) (x : A) (n : ℕ) → length xs ≡ n → ((k : ℕ) (y : A) → slice_get xs k ≡ Some y → P k y) → P n x → more ≡ xs ++ x ∷ []
    → (k : ℕ) (y : A) → slice_get more k ≡ Some y → P k y
each-more P xs more x n size each this is k y at =
    elim (push_cases xs x y k (ap (λ t. slice_get t k) (sym is) ∙ at)) [ inl h ↦ each k y h | inr h ↦ subst (P k) h.1 (subst (λ j. P j x) (sym (h.0 ∙ size)) this) ]

pub length-more : {A : Type 0} (xs more : List A) (x : A) (n : ℕ) → length xs ≡ n → more ≡ xs ++ x ∷ [] → length more ≡ n + 1
length-more xs more x n size is = ap length is ∙ length-append xs (x ∷ []) ∙ ap (λ k. k + 1) size

-- two lists of one length with the same items in their places are one
pub same-list : {A : Type 0} (xs ys : List A) → length xs ≡ length ys → ((k : ℕ) (x : A) → slice_get xs k ≡ Some x → slice_get ys k ≡ Some x) → xs ≡ ys
same-list [] [] e h = refl
same-list [] (y ∷ ys) e h = absurd (omega (arith, e))
same-list (x ∷ xs) [] e h = absurd (omega (arith, e))
same-list (x ∷ xs) (y ∷ ys) e h =
    let f : Some y ≡ Some x = h 0 x refl in
    let g : x ≡ y = cc in
    let r : xs ≡ ys = same-list xs ys (omega (arith, e)) (λ k z at. h (suc k) z at) in
    cc

pub get-map : {A B : Type 0} (f : A → B) (xs : List A) (k : ℕ) (x : A) → slice_get xs k ≡ Some x → slice_get (map f xs) k ≡ Some (f x)
get-map f [] k x e = absurd (let g : None ≡ Some x = e in cc)
get-map f (y ∷ ys) zero x e = (let h : Some y ≡ Some x = e in let g : y ≡ x = cc in ap (λ t. Some (f t)) g)
get-map f (y ∷ ys) (suc k) x e = get-map f ys k x e

pub map-get : {A B : Type 0} (f : A → B) (xs : List A) (k : ℕ) (y : B) → slice_get (map f xs) k ≡ Some y → (x : A) × (slice_get xs k ≡ Some x) × (f x ≡ y)
map-get f [] k y e = absurd (let g : None ≡ Some y = e in cc)
map-get f (x ∷ xs) zero y e = (x, refl, let h : Some (f x) ≡ Some y = e in cc)
map-get f (x ∷ xs) (suc k) y e = map-get f xs k y e

pub numbers-map : {A B : Type 0} (test : B → Bool) (f : A → B) (n : ℕ) (xs : List A) → numbers_from test n (map f xs) ≡ numbers_from (λ x. test (f x)) n xs
numbers-map test f n [] = refl
numbers-map test f n (x ∷ xs) = ap (λ t. cond (test (f x)) (n ∷ t) t) (numbers-map test f (suc n) xs)

some-first : (b : Bool) (n : ℕ) (ns : List ℕ) → b ≡ true → cond b (n ∷ ns) ns ≡ [] → ⊥
some-first true n ns e h = cc
some-first false n ns e h = cc

some-later : (b : Bool) (n : ℕ) (ns : List ℕ) → (ns ≡ [] → ⊥) → cond b (n ∷ ns) ns ≡ [] → ⊥
some-later true n ns lacks h = cc
some-later false n ns lacks h = lacks h

-- there is a number where an item passes
pub numbers-some : {A : Type 0} (test : A → Bool) (n : ℕ) (xs : List A) (k : ℕ) (x : A) → slice_get xs k ≡ Some x → test x ≡ true → numbers_from test n xs ≡ [] → ⊥
numbers-some test n [] k x at t none = let g : None ≡ Some x = at in cc
numbers-some test n (y ∷ ys) zero x at t none = some-first (test y) n (numbers_from test (suc n) ys) (let h : Some y ≡ Some x = at in let g : y ≡ x = cc in ap test g ∙ t) none
numbers-some test n (y ∷ ys) (suc k) x at t none = some-later (test y) n (numbers_from test (suc n) ys) (numbers-some test (suc n) ys k x at t) none

pub record Passes {A : Type 0} (test : A → Bool) (xs : List A) : Type 0 where
  pub place : ℕ
  pub item : A
  pub stands : slice_get xs place ≡ Some item
  pub told : test item ≡ true

passes-step : {A : Type 0} (test : A → Bool) (y : A) (ys : List A) (b : Bool) (n : ℕ) (ns : List ℕ) → test y ≡ b → ((ns ≡ [] → ⊥) → Passes test ys) → (cond b (n ∷ ns) ns ≡ [] → ⊥) → Passes test (y ∷ ys)
passes-step test y ys true n ns e more lacks = record { place = 0; item = y; stands = refl; told = e }
passes-step test y ys false n ns e more lacks = let r = more lacks in record { place = suc r.place; item = r.item; stands = r.stands; told = r.told }

-- and an item that passes where there is a number
pub some-numbers : {A : Type 0} (test : A → Bool) (n : ℕ) (xs : List A) → (numbers_from test n xs ≡ [] → ⊥) → Passes test xs
some-numbers test n [] lacks = absurd (lacks refl)
some-numbers test n (y ∷ ys) lacks = passes-step test y ys (test y) n (numbers_from test (suc n) ys) refl (some-numbers test (suc n) ys) lacks

pub empty-is : (row : List ℕ) → is_empty row ≡ true → row ≡ []
empty-is [] e = refl
empty-is (n ∷ ns) e = cc

pub not-empty : (row : List ℕ) → is_empty row ≡ false → row ≡ [] → ⊥
not-empty [] e h = cc
not-empty (n ∷ ns) e h = cc

-- items that a list keeps, mapped
in-kept : {A B : Type 0} (f : A → B) (p : A → Bool) (y : A) (ys : List A) (b : Bool) (x : B) → p y ≡ b → (Contains (map f (filter p ys)) x → (k : ℕ) × (z : A) × (slice_get ys k ≡ Some z) × (p z ≡ true) × (f z ≡ x))
    → Contains (map f (cond b (y ∷ filter p ys) (filter p ys))) x → (k : ℕ) × (z : A) × (slice_get (y ∷ ys) k ≡ Some z) × (p z ≡ true) × (f z ≡ x)
in-kept f p y ys false x e more c = let r = more c in (suc r.0, r.1, r.2, r.3, r.4)
in-kept f p y ys true x e more c =
    elim (contains-cases (f y) (map f (filter p ys)) x c) [
      | inl h ↦ (0, y, refl, e, h)
      | inr h ↦ (let r = more h in (suc r.0, r.1, r.2, r.3, r.4))
    ]

pub in-mapped : {A B : Type 0} (f : A → B) (p : A → Bool) (xs : List A) (x : B) → Contains (map f (filter p xs)) x → (k : ℕ) × (z : A) × (slice_get xs k ≡ Some z) × (p z ≡ true) × (f z ≡ x)
in-mapped f p [] x (k, l, e) = absurd (omega (arith, l))
in-mapped f p (y ∷ ys) x c = in-kept f p y ys (p y) x refl (in-mapped f p ys x) c

kept-head : {A B : Type 0} (f : A → B) (y : A) (zs : List A) (b : Bool) → b ≡ true → Contains (map f (cond b (y ∷ zs) zs)) (f y)
kept-head f y zs true e = contains-head (f y) (map f zs)
kept-head f y zs false e = cc

kept-tail : {A B : Type 0} (f : A → B) (y : A) (zs : List A) (b : Bool) (x : B) → Contains (map f zs) x → Contains (map f (cond b (y ∷ zs) zs)) x
kept-tail f y zs true x c = contains-tail (f y) (map f zs) x c
kept-tail f y zs false x c = c

pub mapped-in : {A B : Type 0} (f : A → B) (p : A → Bool) (xs : List A) (k : ℕ) (z : A) → slice_get xs k ≡ Some z → p z ≡ true → Contains (map f (filter p xs)) (f z)
mapped-in f p [] k z at t = absurd (let g : None ≡ Some z = at in cc)
mapped-in f p (y ∷ ys) zero z at t =
    let h : Some y ≡ Some z = at in
    let g : y ≡ z = cc in
    subst (λ x. Contains (map f (cond (p y) (y ∷ filter p ys) (filter p ys))) (f x)) g (kept-head f y (filter p ys) (p y) (ap p g ∙ t))
mapped-in f p (y ∷ ys) (suc k) z at t = kept-tail f y (filter p ys) (p y) (f z) (mapped-in f p ys k z at t)

-- some item passes
pub any-get : {A : Type 0} (p : A → Bool) (xs : List A) (k : ℕ) (x : A) → slice_get xs k ≡ Some x → p x ≡ true → list_any p xs ≡ true
any-get p [] k x at t = absurd (let g : None ≡ Some x = at in cc)
any-get p (y ∷ ys) zero x at t = let h : Some y ≡ Some x = at in let g : y ≡ x = cc in ap (λ b. b || list_any p ys) (ap p g ∙ t)
any-get p (y ∷ ys) (suc k) x at t = ap (λ b. p y || b) (any-get p ys k x at t) ∙ either (p y)
  where
    either : (b : Bool) → (b || true) ≡ true
    either true = refl
    either false = refl

got-step : {A : Type 0} (p : A → Bool) (y : A) (ys : List A) (b : Bool) → p y ≡ b → (list_any p ys ≡ true → Passes p ys) → (b || list_any p ys) ≡ true → Passes p (y ∷ ys)
got-step p y ys true e more h = record { place = 0; item = y; stands = refl; told = e }
got-step p y ys false e more h = let r = more h in record { place = suc r.place; item = r.item; stands = r.stands; told = r.told }

pub get-any : {A : Type 0} (p : A → Bool) (xs : List A) → list_any p xs ≡ true → Passes p xs
get-any p [] h = absurd (let g : false ≡ true = h in cc)
get-any p (y ∷ ys) h = got-step p y ys (p y) refl (get-any p ys) h
