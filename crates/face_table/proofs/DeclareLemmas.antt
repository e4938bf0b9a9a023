-- A type of another package is declared.
use Rattle.std.proofs.Common.{◌≡◌, ◌⊎◌, ◌≢◌, ℕ, ◌<◌, Bool, true, false, ◌&&◌, if◌then◌else◌, List, nat_eq, Option, Some, None, option_map, refl, sym, ap, ◌∙◌, subst, inl, inr}
use Rattle.std.proofs.Math.Path.{fun_ext}
use Rattle.std.specs.Str.{bytes_eq}
use Rattle.std.proofs.lemmas.Bool.{eqb-true, eq-eqb}
use Rattle.std.proofs.lemmas.Slice.Eq.{bytes_eq-Decides}
use Rattle.package_faces.specs.declared.interface.ExportedType.{ExportedType}
use Rattle.package_faces.specs.Declaring.{declaration_out}
use Rattle.package_faces.specs.Interfaces.{defined_in, IsDefinedIn}
use Rattle.package_faces.specs.Reaching.{own_name}
use Rattle.package_faces.proofs.FaceLaws.{defined_stays}
use Rattle.type_model.specs.declared.term.Method.{Method}
use Rattle.type_model.specs.declared.term.TypeId.{TypeId}
use Rattle.type_model.specs.declared.term.TypeName.{TypeName}
use Rattle.type_model.specs.declared.term.Term.{Term}
use Rattle.type_model.specs.declared.table.TypeTable.{TypeTable}
use Rattle.type_model.specs.Declarations.{Declaration, Declarations, Meets, under_of}
use Rattle.type_model.specs.GoTypes.{GoType, DefinedType, is_defined, type_at}
use Rattle.type_model.specs.Tables.{Grown, Extends, Declares as DeclaresName, count, declarations_in, declaration_of, is_same_name, terms_in, types_in}
use Rattle.face_table.specs.Fitting.{Declares, DeclaresType, IsUnfit, with_one}

-- ---- names

left : (a b : Bool) → (a && b) ≡ true → a ≡ true
left true b is = refl
left false b is = absurd cc

right : (a b : Bool) → (a && b) ≡ true → b ≡ true
right true b is = is
right false b is = absurd cc

joined : (a b : Bool) → a ≡ true → b ≡ true → (a && b) ≡ true
joined true b first second = second
joined false b first second = absurd cc

abbrev name_with : List ℕ → List ℕ → ℕ → TypeName
name_with owner name local = record { «package» = owner; name = name; local = local }

pub one_name : (a b : TypeName) → is_same_name a b ≡ true → a ≡ b
one_name a b is =
    let rest = right (bytes_eq a.package b.package) (bytes_eq a.name b.name && nat_eq a.local b.local) is in
    let owners : a.package ≡ b.package = (bytes_eq-Decides a.package b.package).0 (left (bytes_eq a.package b.package) (bytes_eq a.name b.name && nat_eq a.local b.local) is) in
    let names : a.name ≡ b.name = (bytes_eq-Decides a.name b.name).0 (left (bytes_eq a.name b.name) (nat_eq a.local b.local) rest) in
    let locals : a.local ≡ b.local = eqb-true a.local b.local (right (bytes_eq a.name b.name) (nat_eq a.local b.local) rest) in
    let same : name_with a.package a.name a.local ≡ name_with b.package b.name b.local = cc in same

pub name_itself : (a : TypeName) → is_same_name a a ≡ true
name_itself a =
    joined (bytes_eq a.package a.package) (bytes_eq a.name a.name && nat_eq a.local a.local) ((bytes_eq-Decides a.package a.package).1 refl)
    (joined (bytes_eq a.name a.name) (nat_eq a.local a.local) ((bytes_eq-Decides a.name a.name).1 refl) (eq-eqb a.local a.local refl))

-- ---- what can't be declared

some_under : (types : List GoType) (d : Option Declaration) (id : TypeId) → Some (type_at types id) ≡ option_map (λ (d : Declaration). d.under) d → (it : Declaration) × (d ≡ Some it)
some_under types (Some d) id is = (d, refl)
some_under types None id is = absurd cc

-- a name whose type has an underlying type is declared
pub is_declared : (types : List GoType) (ds : Declarations) (name : TypeName) (t : GoType) (o : Option TypeId) (id : TypeId) → t ≡ DefinedType name
    → option_map (λ id. type_at types id) o ≡ under_of ds t → o ≡ Some id → (it : Declaration) × (ds name ≡ Some it)
is_declared types ds name t o id named is there =
    some_under types (ds name) id (ap (option_map (λ id. type_at types id)) (sym there) ∙ (is ∙ ap (under_of ds) named))

none_under : (d : Option Declaration) → None ≡ option_map (λ (d : Declaration). d.under) d → (it : Declaration) → d ≡ Some it → ⊥
none_under (Some d) is it e = absurd cc
none_under None is it e = absurd cc

pub not_declared : (types : List GoType) (ds : Declarations) (name : TypeName) (t : GoType) (o : Option TypeId) → t ≡ DefinedType name
    → option_map (λ id. type_at types id) o ≡ under_of ds t → o ≡ None → (it : Declaration) → ds name ≡ Some it → ⊥
not_declared types ds name t o named is none = none_under (ds name) (ap (option_map (λ id. type_at types id)) (sym none) ∙ (is ∙ ap (under_of ds) named))

-- the same over the same declarations
pub unfit_for : (a b : Declarations) (name : TypeName) (s t : GoType) → ((n : TypeName) → a n ≡ b n) → s ≡ t → IsUnfit a name s → IsUnfit b name t
unfit_for a b name s t same one unfit = subst (λ (ds : Declarations). IsUnfit ds name t) (fun_ext same) (subst (λ (x : GoType). IsUnfit a name x) one unfit)

-- what is fit can be declared
pub fresh : (ds : Declarations) (name : TypeName) (under : GoType) → (IsUnfit ds name under → ⊥) → ds name ≡ None
fresh ds name under fit = by (ds name) refl where
  by : (o : Option Declaration) → ds name ≡ o → ds name ≡ None
  by None e = e
  by (Some it) e = absurd (fit (inl (it, e)))

pub plain : (ds : Declarations) (name : TypeName) (under : GoType) → (IsUnfit ds name under → ⊥) → is_defined under ≡ false
plain ds name under fit = by (is_defined under) refl where
  by : (b : Bool) → is_defined under ≡ b → is_defined under ≡ false
  by false e = e
  by true e = absurd (fit (inr (inl e)))

pub apart : (ds : Declarations) (name : TypeName) (under : GoType) → (IsUnfit ds name under → ⊥) → Meets ds name under → ⊥
apart ds name under fit meets = fit (inr (inr meets))

-- ---- what is declared

pub extends_then : (a b c : List Term) → Extends a b → Extends b c → Extends a c
extends_then a b c first second i low = let one = first i low in let two = second i one.0 in (two.0, two.1 ∙ one.1)

abbrev declared_with : List GoType → TypeId → List Method → Declaration
declared_with types under methods = declaration_of types (record { under = under; methods = methods })

pub declared_one : (t0 t1 t2 : TypeTable) (name : TypeName) (path : List ℕ) (d : ExportedType) (methods : List Method) → Grown t0 t1 → IsDefinedIn (count t0) d
    → name ≡ own_name path d.name → methods ≡ d.methods → declarations_in t1 (own_name path d.name) ≡ None → DeclaresName t1 t2 name d.under methods
    → DeclaresType t0 t2 path (defined_in (types_in t0) d) true
declared_one t0 t1 t2 name path d methods grown within called copied none declares = (
  sym (grown.declarations (own_name path d.name)) ∙ none,
  record {
    table = declares.table;
    extends = extends_then (terms_in t0) (terms_in t1) (terms_in t2) grown.extends declares.extends;
    declared = λ other. by other (is_same_name (own_name path d.name) other) refl;
  },
) where
  its : Declaration
  its = declaration_out (defined_in (types_in t0) d)

  here : declarations_in t2 name ≡ Some its
  here = declares.here ∙ ap Some (ap (declared_with (types_in t1) d.under) copied ∙ ap declaration_out (defined_stays (terms_in t0) (terms_in t1) grown.extends d within))

  by : (other : TypeName) (b : Bool) → is_same_name (own_name path d.name) other ≡ b → declarations_in t2 other ≡ (if b then Some its else declarations_in t0 other)
  by other true is = ap (declarations_in t2) (sym (called ∙ one_name (own_name path d.name) other is)) ∙ here
  by other false is =
      declares.others other (λ same. (let itself : is_same_name (own_name path d.name) other ≡ true = ap (is_same_name (own_name path d.name)) (same ∙ called) ∙ name_itself (own_name path d.name) in absurd cc))
      ∙ grown.declarations other
