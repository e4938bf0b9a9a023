-- What numbered terms lead to is what their types lead to.
use Rattle.std.proofs.Common.{◌≡◌, ℕ, ◌<◌, Bool, true, false, cond, List, [], ◌∷◌, ◌++◌, map, Option, option_map, Some, None, refl, sym, ap, ◌∙◌, arith}
use Rattle.std.specs.Prelude.{IfSome}
use Rattle.std.specs.List.{flat_map}
use Rattle.std.specs.Option.{option_map_or}
use Rattle.std.specs.Str.{bytes_eq}
use Rattle.std.proofs.lemmas.List.Elements.{All-append, All-cons, All-nil, All-head, All-tail}
use Rattle.type_model.specs.declared.term.TypeId.{TypeId}
use Rattle.type_model.specs.declared.term.TypeName.{TypeName}
use Rattle.type_model.specs.declared.term.Signature.{Signature}
use Rattle.type_model.specs.declared.term.Field.{Field}
use Rattle.type_model.specs.declared.term.Method.{Method}
use Rattle.type_model.specs.declared.term.Term.{Term}
use Rattle.type_model.specs.declared.term.Term.TheVariants.{Basic, Defined, Pointer, Slice, Array, Map, Chan, Func, Struct, Interface}
use Rattle.type_model.specs.GoTypes.{GoType, DefinedType, type_at, types_at, signature_of, fields_of, methods_of, type_of, AreBelow, SignatureBelow, FieldsBelow, MethodsBelow, IsOver}
use Rattle.type_model.specs.Parts.{GoMethod, type_list, field_list, method_list, method_of}
use Rattle.type_model.specs.Declarations.{Declaration, Declarations, under_of, declared_methods}
use Rattle.type_model.proofs.FormedLaws.{method_list-of}
use Rattle.type_model.proofs.TypeLaws.{over_more}
use Rattle.package_faces.specs.Reaching.{signature_parts, method_parts, field_part, declared_parts, next_types}
use Rattle.export_text.specs.Reaching.{nothing_declared}
use Rattle.export_text.specs.Searching.{signature_ids, method_ids, methods_ids, fields_ids, declared_ids, next_ids}

pub map_append : {A B : Type 0} (f : A → B) (xs ys : List A) → map f (xs ++ ys) ≡ map f xs ++ map f ys
map_append f [] ys = refl
map_append f (x ∷ xs) ys = ap (λ zs. f x ∷ zs) (map_append f xs ys)

module _ (T : List GoType) where
  abbrev pub seen : List TypeId → List GoType
  seen ids = map (λ id. type_at T id) ids

  types_seen : (ids : List TypeId) → seen ids ≡ type_list (types_at T ids)
  types_seen [] = refl
  types_seen (id ∷ ids) = ap (λ (l : List GoType). type_at T id ∷ l) (types_seen ids)

  signature_seen : (s : Signature) → seen (signature_ids s) ≡ signature_parts (signature_of T s)
  signature_seen s =
      map_append (λ id. type_at T id) s.params s.results
      ∙ ap (λ (l : List GoType). l ++ seen s.results) (types_seen s.params)
      ∙ ap (λ (l : List GoType). type_list (types_at T s.params) ++ l) (types_seen s.results)

  pub methods_seen : (methods : List Method) → seen (methods_ids methods) ≡ flat_map method_parts (map (λ m. method_of T m) methods)
  methods_seen [] = refl
  methods_seen (m ∷ methods) =
      map_append (λ id. type_at T id) (method_ids m) (methods_ids methods)
      ∙ ap (λ (l : List GoType). l ++ seen (methods_ids methods)) (signature_seen m.of)
      ∙ ap (λ (l : List GoType). signature_parts (signature_of T m.of) ++ l) (methods_seen methods)

  fields_seen : (fields : List Field) → seen (fields_ids fields) ≡ map field_part (field_list (fields_of T fields))
  fields_seen [] = refl
  fields_seen (f ∷ fields) = ap (λ (l : List GoType). type_at T f.of ∷ l) (fields_seen fields)

  interface_seen : (methods : List Method) → seen (methods_ids methods) ≡ flat_map method_parts (method_list (methods_of T methods))
  interface_seen methods = methods_seen methods ∙ ap (λ (l : List GoMethod). flat_map method_parts l) (sym (method_list-of T methods))

  declared_seen : (d : Option Declaration) (under : Option TypeId) (methods : List Method) → option_map (λ id. type_at T id) under ≡ option_map (λ (x : Declaration). x.under) d
      → map (λ m. method_of T m) methods ≡ option_map_or (λ (x : Declaration). x.methods) d [] → seen (declared_ids under methods) ≡ option_map_or declared_parts d []
  declared_seen None None methods one two = refl
  declared_seen None (Some under) methods one two = absurd cc
  declared_seen (Some d) None methods one two = absurd cc
  declared_seen (Some d) (Some under) methods one two =
      let first : type_at T under ≡ d.under = cc in
      ap (λ (t : GoType). t ∷ seen (methods_ids methods)) first
      ∙ ap (λ (l : List GoType). d.under ∷ l) (methods_seen methods ∙ ap (λ (l : List GoMethod). flat_map method_parts l) two)

  own_seen : (ds : Declarations) (name : TypeName) (own : Bool) (under : Option TypeId) (methods : List Method) → option_map (λ id. type_at T id) under ≡ under_of ds (DefinedType name)
      → map (λ m. method_of T m) methods ≡ declared_methods ds (DefinedType name) → seen (cond own (declared_ids under methods) []) ≡ cond own (option_map_or declared_parts (ds name) []) []
  own_seen ds name true under methods one two = declared_seen (ds name) under methods one two
  own_seen ds name false under methods one two = refl

  pub next_seen : (ds : Declarations) (path : List ℕ) (term : Term) (under : Option TypeId) (methods : List Method) → option_map (λ id. type_at T id) under ≡ under_of ds (type_of T term)
      → map (λ m. method_of T m) methods ≡ declared_methods ds (type_of T term) → seen (next_ids path term under methods) ≡ next_types ds path (type_of T term)
  next_seen ds path (Basic kind) under methods one two = refl
  next_seen ds path (Defined name) under methods one two = own_seen ds name (bytes_eq name.package path) under methods one two
  next_seen ds path (Pointer of) under methods one two = refl
  next_seen ds path (Slice of) under methods one two = refl
  next_seen ds path (Array size of) under methods one two = refl
  next_seen ds path (Map key of) under methods one two = refl
  next_seen ds path (Chan direction of) under methods one two = refl
  next_seen ds path (Func of) under methods one two = signature_seen of
  next_seen ds path (Struct fields) under methods one two = fields_seen fields
  next_seen ds path (Interface own) under methods one two = interface_seen own

  -- the same without declarations
  none_seen : (own : Bool) → seen (cond own [] []) ≡ cond own [] []
  none_seen true = refl
  none_seen false = refl

  pub parts_seen : (path : List ℕ) (term : Term) → seen (next_ids path term None []) ≡ next_types nothing_declared path (type_of T term)
  parts_seen path (Basic kind) = refl
  parts_seen path (Defined name) = none_seen (bytes_eq name.package path)
  parts_seen path (Pointer of) = refl
  parts_seen path (Slice of) = refl
  parts_seen path (Array size of) = refl
  parts_seen path (Map key of) = refl
  parts_seen path (Chan direction of) = refl
  parts_seen path (Func of) = signature_seen of
  parts_seen path (Struct fields) = fields_seen fields
  parts_seen path (Interface own) = interface_seen own

-- ---- they are types of the table

abbrev pub Low : ℕ → TypeId → Type 0
Low n id = id.0 < n

signature_low : (n : ℕ) (s : Signature) → SignatureBelow n s → AreBelow n (signature_ids s)
signature_low n s below = All-append (Low n) s.params s.results below.0 below.1

pub methods_low : (n : ℕ) (methods : List Method) → MethodsBelow n methods → AreBelow n (methods_ids methods)
methods_low n [] below = All-nil (Low n)
methods_low n (m ∷ methods) below =
    All-append (Low n) (method_ids m) (methods_ids methods) (signature_low n m.of (All-head (λ (x : Method). SignatureBelow n x.of) m methods below))
    (methods_low n methods (All-tail (λ (x : Method). SignatureBelow n x.of) m methods below))

fields_low : (n : ℕ) (fields : List Field) → FieldsBelow n fields → AreBelow n (fields_ids fields)
fields_low n [] below = All-nil (Low n)
fields_low n (f ∷ fields) below =
    All-cons (Low n) f.of (fields_ids fields) (All-head (λ (x : Field). x.of.0 < n) f fields below) (fields_low n fields (All-tail (λ (x : Field). x.of.0 < n) f fields below))

pub one_low : (n : ℕ) (id : TypeId) → id.0 < n → AreBelow n (id ∷ [])
one_low n id low = All-cons (Low n) id [] low (All-nil (Low n))

declared_low : (n : ℕ) (under : Option TypeId) (methods : List Method) → IfSome under (λ id. id.0 < n) → MethodsBelow n methods → AreBelow n (declared_ids under methods)
declared_low n None methods low below = All-nil (Low n)
declared_low n (Some under) methods low below = All-cons (Low n) under (methods_ids methods) low (methods_low n methods below)

own_low : (n : ℕ) (own : Bool) (under : Option TypeId) (methods : List Method) → IfSome under (λ id. id.0 < n) → MethodsBelow n methods → AreBelow n (cond own (declared_ids under methods) [])
own_low n true under methods low below = declared_low n under methods low below
own_low n false under methods low below = All-nil (Low n)

pub next_low : (n : ℕ) (path : List ℕ) (term : Term) (under : Option TypeId) (methods : List Method) → IsOver n term → IfSome under (λ id. id.0 < n) → MethodsBelow n methods
    → AreBelow n (next_ids path term under methods)
next_low n path (Basic kind) under methods over low below = All-nil (Low n)
next_low n path (Defined name) under methods over low below = own_low n (bytes_eq name.package path) under methods low below
next_low n path (Pointer of) under methods over low below = one_low n of over
next_low n path (Slice of) under methods over low below = one_low n of over
next_low n path (Array size of) under methods over low below = one_low n of over
next_low n path (Map key of) under methods over low below = All-cons (Low n) key (of ∷ []) over.0 (one_low n of over.1)
next_low n path (Chan direction of) under methods over low below = one_low n of over
next_low n path (Func of) under methods over low below = signature_low n of over
next_low n path (Struct fields) under methods over low below = fields_low n fields over
next_low n path (Interface own) under methods over low below = methods_low n own over

-- a term over the numbers below one is over those below a greater one
pub over_up : (m n : ℕ) (term : Term) → m < n → IsOver m term → IsOver n term
over_up m n term lt over = over_more m n term (omega (arith, lt)) over
