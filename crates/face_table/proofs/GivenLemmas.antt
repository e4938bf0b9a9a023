-- What packages declare, one after the other.
use Rattle.std.proofs.Common.{◌≡◌, ◌⊎◌, ◌≢◌, ℕ, zero, suc, ◌+◌, ◌<◌, ◌≤◌, ◌==◌, ◌&&◌, Bool, true, false, not, cond, if◌then◌else◌, nat_eq, List, [], ◌∷◌, ◌++◌, length, map, take, slice_get, option_and_then, option_map, Option, Some, None, refl, sym, ap, ◌∙◌, subst, inl, inr, arith}
use Rattle.std.specs.List.{position_from}
use Rattle.std.specs.Option.{option_or}
use Rattle.std.specs.Str.{bytes_eq}
use Rattle.std.proofs.lemmas.Bool.{eqb-true, eq-eqb}
use Rattle.std.proofs.lemmas.Slice.Eq.{bytes_eq-Decides}
use Rattle.package_faces.specs.Declaring.{first_named, path_of, defined_name, declaration_out, declared_in, declared_by}
use Rattle.package_faces.specs.Faces.{DefinedOut, Face}
use Rattle.package_faces.specs.Reaching.{own_name}
use Rattle.type_model.specs.declared.term.TypeName.{TypeName}
use Rattle.type_model.specs.Declarations.{Declaration, Declarations}
use Rattle.type_model.specs.Tables.{is_same_name}
use Rattle.face_table.specs.Fitting.{AreFresh, with_one, with_types}
use Rattle.face_table.proofs.DeclareLemmas.{one_name}

-- ---- the first of a name

pub position_up : (test : List ℕ → Bool) (i : ℕ) (xs : List (List ℕ)) → position_from test (i + 1) xs ≡ option_map suc (position_from test i xs)
position_up test i [] = refl
position_up test i (x ∷ xs) = by (test x) (position_up test (i + 1) xs) where
  by : (b : Bool) → position_from test (i + 1 + 1) xs ≡ option_map suc (position_from test (i + 1) xs)
      → cond b (Some (i + 1)) (position_from test (i + 1 + 1) xs) ≡ option_map suc (cond b (Some i) (position_from test (i + 1) xs))
  by true rest = let e : i + 1 ≡ suc i = omega arith in ap Some e
  by false rest = rest

module _ {X : Type 0} (name_of : X → List ℕ) (n : List ℕ) where
  shifted : (x : X) (xs : List X) (o : Option ℕ) → option_and_then (slice_get (x ∷ xs)) (option_map suc o) ≡ option_and_then (slice_get xs) o
  shifted x xs None = refl
  shifted x xs (Some k) = refl

  pub first_cons : (x : X) (xs : List X) → first_named name_of (x ∷ xs) n ≡ (if bytes_eq (name_of x) n then Some x else first_named name_of xs n)
  first_cons x xs = by (bytes_eq (name_of x) n) where
    by : (b : Bool) → option_and_then (slice_get (x ∷ xs)) (cond b (Some 0) (position_from (λ spelling. bytes_eq spelling n) 1 (map name_of xs))) ≡ (if b then Some x else first_named name_of xs n)
    by true = refl
    by false = ap (option_and_then (slice_get (x ∷ xs))) (position_up (λ spelling. bytes_eq spelling n) 0 (map name_of xs)) ∙ shifted x xs (position_from (λ spelling. bytes_eq spelling n) 0 (map name_of xs))

  pub first_push : (xs : List X) (x : X) → first_named name_of (xs ++ x ∷ []) n ≡ option_or (first_named name_of xs n) (if bytes_eq (name_of x) n then Some x else None)
  first_push [] x = first_cons x []
  first_push (y ∷ xs) x =
      first_cons y (xs ++ x ∷ []) ∙ (by (bytes_eq (name_of y) n) (first_push xs x) ∙ ap (λ o. option_or o (if bytes_eq (name_of x) n then Some x else None)) (sym (first_cons y xs)))
    where
      by : (b : Bool) → first_named name_of (xs ++ x ∷ []) n ≡ option_or (first_named name_of xs n) (if bytes_eq (name_of x) n then Some x else None)
          → (if b then Some y else first_named name_of (xs ++ x ∷ []) n) ≡ option_or (if b then Some y else first_named name_of xs n) (if bytes_eq (name_of x) n then Some x else None)
      by true rest = refl
      by false rest = rest

-- ---- the types of one package

path_itself : (path : List ℕ) → bytes_eq path path ≡ true
path_itself path = (bytes_eq-Decides path path).1 refl

and_true : (b : Bool) → (b && true) ≡ b
and_true true = refl
and_true false = refl

pub same_own : (path a b : List ℕ) → is_same_name (own_name path a) (own_name path b) ≡ bytes_eq a b
same_own path a b = ap (λ x. x && (bytes_eq a b && true)) (path_itself path) ∙ and_true (bytes_eq a b)

or_none : (o : Option Declaration) → o ≡ option_or o None
or_none None = refl
or_none (Some d) = refl

abbrev pub declared_first : List DefinedOut → List ℕ → Option Declaration
declared_first types n = option_map declaration_out (first_named defined_name types n)

-- a name of the package at package level
pub its_name : (path : List ℕ) (types : List DefinedOut) (ds : Declarations) (n : List ℕ) → AreFresh path types ds
    → with_types path types ds (own_name path n) ≡ option_or (ds (own_name path n)) (declared_first types n)
its_name path [] ds n fresh = or_none (ds (own_name path n))
its_name path (d ∷ types) ds n fresh =
    its_name path types (with_one (own_name path d.name) (declaration_out d) ds) n fresh.1
    ∙ (ap (λ (b : Bool). option_or (if b then Some (declaration_out d) else ds (own_name path n)) (declared_first types n)) (same_own path d.name n)
    ∙ (by (bytes_eq d.name n) refl
    ∙ ap (λ (o : Option DefinedOut). option_or (ds (own_name path n)) (option_map declaration_out o)) (sym (first_cons defined_name n d types))))
  where
    by : (b : Bool) → bytes_eq d.name n ≡ b
        → option_or (if b then Some (declaration_out d) else ds (own_name path n)) (declared_first types n)
        ≡ option_or (ds (own_name path n)) (option_map declaration_out (if b then Some d else first_named defined_name types n))
    by true is =
        let none : ds (own_name path n) ≡ None = ap (λ (m : List ℕ). ds (own_name path m)) (sym ((bytes_eq-Decides d.name n).0 is)) ∙ fresh.0 in
        sym (ap (λ (o : Option Declaration). option_or o (Some (declaration_out d))) none)
    by false is = refl

-- another name
pub other_name : (path : List ℕ) (types : List DefinedOut) (ds : Declarations) (name : TypeName) → ((n : List ℕ) → own_name path n ≡ name → ⊥) → with_types path types ds name ≡ ds name
other_name path [] ds name other = refl
other_name path (d ∷ types) ds name other =
    other_name path types (with_one (own_name path d.name) (declaration_out d) ds) name other ∙ by (is_same_name (own_name path d.name) name) refl
  where
    by : (b : Bool) → is_same_name (own_name path d.name) name ≡ b → (if b then Some (declaration_out d) else ds name) ≡ ds name
    by true is = absurd (other d.name (one_name (own_name path d.name) name is))
    by false is = refl

-- ---- one type more

pub with_push : (path : List ℕ) (types : List DefinedOut) (d : DefinedOut) (ds : Declarations) (name : TypeName)
    → with_types path (types ++ d ∷ []) ds name ≡ with_one (own_name path d.name) (declaration_out d) (with_types path types ds) name
with_push path [] d ds name = refl
with_push path (x ∷ types) d ds name = with_push path types d (with_one (own_name path x.name) (declaration_out x) ds) name

pub fresh_push : (path : List ℕ) (types : List DefinedOut) (d : DefinedOut) (ds : Declarations) → AreFresh path types ds → with_types path types ds (own_name path d.name) ≡ None
    → AreFresh path (types ++ d ∷ []) ds
fresh_push path [] d ds fresh none = (none, tt)
fresh_push path (x ∷ types) d ds fresh none = (fresh.0, fresh_push path types d (with_one (own_name path x.name) (declaration_out x) ds) fresh.1 none)
