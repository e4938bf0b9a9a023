-- The first face of a path in a list.
use Rattle.std.proofs.Common.{◌≡◌, ℕ, zero, suc, ◌+◌, Bool, true, false, if◌then◌else◌, cond, Option, Some, None, option_map, option_and_then, List, [], ◌∷◌, map, slice_get, refl, sym, ap, ◌∙◌, subst, arith}
use Rattle.std.specs.List.{Contains, position_from}
use Rattle.std.specs.Str.{bytes_eq}
use Rattle.std.proofs.lemmas.Option.{same_Some, slice_get_within, slice_get-get_or, get_or_from_slice_get}
use Rattle.std.proofs.lemmas.Slice.Eq.{bytes_eq-Decides}
use Rattle.package_faces.specs.Declaring.{first_named, path_of}
use Rattle.package_faces.specs.Faces.{Face}

-- ---- what has a value

pub bound_some : {X Y : Type 0} (f : X → Option Y) (x : Option X) (y : Y) → option_and_then f x ≡ Some y → (z : X) × (x ≡ Some z) × (f z ≡ Some y)
bound_some f None y h = absurd cc
bound_some f (Some z) y h = (z, refl, h)

pub mapped_some : {X Y : Type 0} (f : X → Y) (x : Option X) (y : Y) → option_map f x ≡ Some y → (z : X) × (x ≡ Some z) × (f z ≡ y)
mapped_some f None y h = absurd cc
mapped_some f (Some z) y h = (z, refl, same_Some (f z) y h)

-- ---- places

pub contains_at : {X : Type 0} (xs : List X) (k : ℕ) (x : X) → slice_get xs k ≡ Some x → Contains xs x
contains_at xs k x h = (k, slice_get_within xs k x h, get_or_from_slice_get xs k x x h)

pub at_contained : {X : Type 0} (xs : List X) (x : X) (c : Contains xs x) → slice_get xs c.0 ≡ Some x
at_contained xs x c = slice_get-get_or xs c.0 x c.1 ∙ ap (λ y. Some y) c.2

pub contains_head : {X : Type 0} (x : X) (xs : List X) → Contains (x ∷ xs) x
contains_head x xs = (0, omega arith, refl)

pub contains_tail : {X : Type 0} (x y : X) (xs : List X) → Contains xs y → Contains (x ∷ xs) y
contains_tail x y xs (j, low, e) = (suc j, omega arith, e)

-- ---- the first of a name

position_up : (test : List ℕ → Bool) (i : ℕ) (xs : List (List ℕ)) → position_from test (i + 1) xs ≡ option_map suc (position_from test i xs)
position_up test i [] = refl
position_up test i (x ∷ xs) = by (test x) (position_up test (i + 1) xs)
  where
    by : (b : Bool) → position_from test (i + 1 + 1) xs ≡ option_map suc (position_from test (i + 1) xs)
        → cond b (Some (i + 1)) (position_from test (i + 1 + 1) xs) ≡ option_map suc (cond b (Some i) (position_from test (i + 1) xs))
    by true rest = let e : i + 1 ≡ suc i = omega arith in ap Some e
    by false rest = rest

shifted : {X : Type 0} (x : X) (xs : List X) (o : Option ℕ) → option_and_then (slice_get (x ∷ xs)) (option_map suc o) ≡ option_and_then (slice_get xs) o
shifted x xs None = refl
shifted x xs (Some k) = refl

pub first_cons : {X : Type 0} (name_of : X → List ℕ) (n : List ℕ) (x : X) (xs : List X) → first_named name_of (x ∷ xs) n ≡ (if bytes_eq (name_of x) n then Some x else first_named name_of xs n)
first_cons {X} name_of n x xs = by (bytes_eq (name_of x) n)
  where
    by : (b : Bool) → option_and_then (slice_get (x ∷ xs)) (cond b (Some 0) (position_from (λ spelling. bytes_eq spelling n) 1 (map name_of xs))) ≡ (if b then Some x else first_named name_of xs n)
    by true = refl
    by false = ap (option_and_then (slice_get (x ∷ xs))) (position_up (λ spelling. bytes_eq spelling n) 0 (map name_of xs)) ∙ shifted x xs (position_from (λ spelling. bytes_eq spelling n) 0 (map name_of xs))

-- what is found is one of the list, and of that name
pub first_is : {X : Type 0} (name_of : X → List ℕ) (xs : List X) (n : List ℕ) (x : X) → first_named name_of xs n ≡ Some x → Contains xs x × (name_of x ≡ n)
first_is name_of [] n x e = absurd cc
first_is {X} name_of (y ∷ xs) n x e = by (bytes_eq (name_of y) n) refl (first_is name_of xs n x) (sym (first_cons name_of n y xs) ∙ e)
  where
    by : (b : Bool) → bytes_eq (name_of y) n ≡ b → (first_named name_of xs n ≡ Some x → Contains xs x × (name_of x ≡ n)) → (if b then Some y else first_named name_of xs n) ≡ Some x → Contains (y ∷ xs) x × (name_of x ≡ n)
    by true same rest h =
        let one : y ≡ x = same_Some y x h in
        subst (λ (z : X). Contains (y ∷ xs) z × (name_of z ≡ n)) one (contains_head y xs, (bytes_eq-Decides (name_of y) n).0 same)
    by false other rest h = let r = rest h in (contains_tail y x xs r.0, r.1)

-- where one of the list is of a name, one is found
pub first_there : {X : Type 0} (name_of : X → List ℕ) (xs : List X) (k : ℕ) (x : X) → slice_get xs k ≡ Some x → (y : X) × (first_named name_of xs (name_of x) ≡ Some y)
first_there name_of [] k x at = absurd cc
first_there name_of (z ∷ xs) zero x at =
    let same : z ≡ x = same_Some z x at in
    (z, first_cons name_of (name_of x) z xs ∙ ap (λ (b : Bool). if b then Some z else first_named name_of xs (name_of x)) ((bytes_eq-Decides (name_of z) (name_of x)).1 (ap name_of same)))
first_there {X} name_of (z ∷ xs) (suc k) x at = by (bytes_eq (name_of z) (name_of x)) (first_there name_of xs k x at) (first_cons name_of (name_of x) z xs)
  where
    by : (b : Bool) → (y : X) × (first_named name_of xs (name_of x) ≡ Some y) → first_named name_of (z ∷ xs) (name_of x) ≡ (if b then Some z else first_named name_of xs (name_of x))
        → (y : X) × (first_named name_of (z ∷ xs) (name_of x) ≡ Some y)
    by true rest is = (z, is)
    by false rest is = (rest.0, is ∙ rest.1)

pub contained_there : (faces : List Face) (f : Face) → Contains faces f → (g : Face) × (first_named path_of faces f.path ≡ Some g)
contained_there faces f c = first_there path_of faces c.0 f (at_contained faces f c)
