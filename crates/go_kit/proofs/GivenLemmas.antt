-- What is given with one package more: its own types, and what is declared from the start beside it.
use Rattle.std.proofs.Common.{◌≡◌, ◌⊎◌, inl, inr, ℕ, suc, ◌==◌, Bool, true, false, if◌then◌else◌, List, [], ◌∷◌, option_and_then, option_map, Option, Some, None, refl, sym, ap, ◌∙◌, arith}
use Rattle.std.specs.List.{Contains}
use Rattle.std.specs.Str.{bytes_eq}
use Rattle.std.proofs.lemmas.Bool.{eqb-true, eq-eqb}
use Rattle.std.proofs.lemmas.Option.{same_Some}
use Rattle.std.proofs.lemmas.Slice.Eq.{bytes_eq-Decides}
use Rattle.face_table.specs.Fitting.{given}
use Rattle.face_table.proofs.GivenLemmas.{first_cons}
use Rattle.package_faces.specs.Declaring.{first_named, path_of, defined_name, declaration_out, declared_in, declared_by}
use Rattle.package_faces.specs.Faces.{DefinedOut, Face}
use Rattle.package_faces.specs.Reaching.{own_name}
use Rattle.type_model.specs.declared.term.TypeName.{TypeName}
use Rattle.type_model.specs.Declarations.{Declaration}
use Rattle.type_model.specs.Tables.{is_same_name}
use Rattle.typed_tree.specs.Universe.{error_name}
use Rattle.unit_read.specs.Units.{Unit, base_of, error_declaration, imported_from}

-- what is first of a name is one of the list, and has it
first_is : {X : Type 0} (name_of : X → List ℕ) (n : List ℕ) (xs : List X) (x : X) → first_named name_of xs n ≡ Some x → Contains xs x × (name_of x ≡ n)
first_is name_of n [] x is = absurd cc
first_is name_of n (y ∷ xs) x is = by (bytes_eq (name_of y) n) refl (first_is name_of n xs x) (sym (first_cons name_of n y xs) ∙ is) where
  by : (b : Bool) → bytes_eq (name_of y) n ≡ b → (first_named name_of xs n ≡ Some x → Contains xs x × (name_of x ≡ n)) → (if b then Some y else first_named name_of xs n) ≡ Some x
      → Contains (y ∷ xs) x × (name_of x ≡ n)
  by true e rest it = let one = same_Some y x it in ((0, omega arith, one), ap name_of (sym one) ∙ (bytes_eq-Decides (name_of y) n).0 e)
  by false e rest it = let later = rest it in let k = later.0.0 in let low = later.0.1 in ((suc k, omega (arith, low), later.0.2), later.1)

whole_name : (path : List ℕ) (name : TypeName) → path ≡ name.package → name.local ≡ 0 → own_name path name.name ≡ name
whole_name path name one top = ap (λ (p : List ℕ). name_with p name.name 0) one ∙ ap (λ (l : ℕ). name_with name.package name.name l) (sym top) where
  name_with : List ℕ → List ℕ → ℕ → TypeName
  name_with owner word local = record { «package» = owner; name = word; local = local }

module _ (u : Unit) (env : List Face) (f : Face) (name : TypeName) (d : Declaration) (paths : f.path ≡ u.path) (envs : u.env ≡ env) where
  -- it is declared from the start, or is a type of the package
  abbrev pub IsFrom : Type 0
  IsFrom = (base_of u name ≡ Some d) ⊎ ((x : DefinedOut) × Contains f.types x × (own_name f.path x.name ≡ name) × (declaration_out x ≡ d))

  abbrev found_in : List Face → Option Declaration
  found_in faces = option_and_then (declared_in name.name) (first_named path_of faces name.package)

  of_it : bytes_eq f.path name.package ≡ true → name.local ≡ 0 → (o : Option DefinedOut) → first_named defined_name f.types name.name ≡ o → option_map declaration_out o ≡ Some d → IsFrom
  of_it own top None at it = absurd cc
  of_it own top (Some x) at it =
      let has = first_is defined_name name.name f.types x at in
      inr (x, has.0, ap (own_name f.path) has.1 ∙ whole_name f.path name ((bytes_eq-Decides f.path name.package).0 own) top, same_Some (declaration_out x) d it)

  of_others : is_same_name name error_name ≡ false → bytes_eq f.path name.package ≡ false → declared_by env name ≡ Some d → IsFrom
  of_others plain apart it = inl (
      ap (λ (b : Bool). if b then Some error_declaration else imported_from u name) plain
      ∙ (ap (λ (b : Bool). if b then None else declared_by u.env name) (ap (λ (q : List ℕ). bytes_eq q name.package) (sym paths) ∙ apart)
      ∙ (ap (λ (faces : List Face). declared_by faces name) envs ∙ it))
      )

  by_path : is_same_name name error_name ≡ false → name.local ≡ 0 → (b : Bool) → bytes_eq f.path name.package ≡ b
      → option_and_then (declared_in name.name) (if b then Some f else first_named path_of env name.package) ≡ Some d → IsFrom
  by_path plain top true own it = of_it own top (first_named defined_name f.types name.name) refl it
  by_path plain top false apart it = of_others plain apart (ap (λ (b : Bool). if b then found_in env else None) (eq-eqb name.local 0 top) ∙ it)

  by_level : is_same_name name error_name ≡ false → (b : Bool) → (name.local == 0) ≡ b → (if b then found_in (f ∷ env) else None) ≡ Some d → IsFrom
  by_level plain false e it = absurd cc
  by_level plain true e it =
      by_path plain (eqb-true name.local 0 e) (bytes_eq f.path name.package) refl (ap (option_and_then (declared_in name.name)) (sym (first_cons path_of name.package f env)) ∙ it)

  by_owner : is_same_name name error_name ≡ false → (b : Bool) → (if b then None else declared_by (f ∷ env) name) ≡ Some d → IsFrom
  by_owner plain true it = absurd cc
  by_owner plain false it = by_level plain (name.local == 0) refl it

  by_error : (b : Bool) → is_same_name name error_name ≡ b → (if b then Some error_declaration else (if bytes_eq [] name.package then None else declared_by (f ∷ env) name)) ≡ Some d → IsFrom
  by_error true e it = inl (ap (λ (b : Bool). if b then Some error_declaration else imported_from u name) e ∙ it)
  by_error false e it = by_owner e (bytes_eq [] name.package) it

  pub given_from : given [] (f ∷ env) name ≡ Some d → IsFrom
  given_from it = by_error (is_same_name name error_name) refl it
