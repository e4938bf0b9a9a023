-- A term without tags over types without tags has a type without tags.
use Rattle.std.proofs.Common.{◌≡◌, ℕ, ◌<◌, true, List, [], ◌∷◌, length, refl, sym, ap, ◌∙◌, eqb-true}
use Rattle.std.specs.List.{list_all}
use Rattle.std.proofs.lemmas.Bool.{and_parts}
use Rattle.std.proofs.lemmas.List.{nil_from_length}
use Rattle.std.proofs.lemmas.List.Elements.{All-head, All-tail}
use Rattle.type_model.specs.declared.term.TypeId.{TypeId}
use Rattle.type_model.specs.declared.term.Signature.{Signature}
use Rattle.type_model.specs.declared.term.Field.{Field}
use Rattle.type_model.specs.declared.term.Method.{Method}
use Rattle.type_model.specs.declared.term.Term.{Term}
use Rattle.type_model.specs.declared.term.Term.TheVariants.{Basic, Defined, Pointer, Slice, Array, Map, Chan, Func, Struct, Interface}
use Rattle.type_model.specs.GoTypes.{GoType, GoSignature, GoTypes, GoFields, GoMethods, PointerTo, SliceOf, ArrayOf, MapOf, ChanOf, FuncOf, StructOf, InterfaceOf, From, AndType, AndField, AndMethod, type_number, type_at, types_at, signature_of, fields_of, methods_of, type_of, AreBelow, SignatureBelow, FieldsBelow, MethodsBelow, IsOver}
use Rattle.type_model.specs.Tags.{untagged, untagged_signature, untagged_types, untagged_fields, untagged_methods}
use Rattle.type_model.specs.Shapes.{is_untagged, is_bare}

module _ (T : List GoType) (n : ℕ) (plain : (i : ℕ) → i < n → untagged (type_number T i) ≡ type_number T i) where
  types_plain : (ids : List TypeId) → AreBelow n ids → untagged_types (types_at T ids) ≡ types_at T ids
  types_plain [] over = refl
  types_plain (id ∷ ids) over =
      ap (λ (t : GoType). AndType t (untagged_types (types_at T ids))) (plain id.0 (All-head (λ (x : TypeId). x.0 < n) id ids over))
      ∙ ap (λ (r : GoTypes). AndType (type_at T id) r) (types_plain ids (All-tail (λ (x : TypeId). x.0 < n) id ids over))

  signature_plain : (s : Signature) → SignatureBelow n s → untagged_signature (signature_of T s) ≡ signature_of T s
  signature_plain s over =
      ap (λ (p : GoTypes). From p (untagged_types (types_at T s.results)) s.variadic) (types_plain s.params over.0)
      ∙ ap (λ (r : GoTypes). From (types_at T s.params) r s.variadic) (types_plain s.results over.1)

  fields_plain : (fields : List Field) → FieldsBelow n fields → list_all is_untagged fields ≡ true → untagged_fields (fields_of T fields) ≡ fields_of T fields
  fields_plain [] over bare = refl
  fields_plain (f ∷ fields) over bare =
      let both = and_parts (is_untagged f) (list_all is_untagged fields) bare in
      let none : f.tag ≡ [] = nil_from_length f.tag (eqb-true (length f.tag) 0 both.0) in
      ap (λ (t : GoType). AndField f.name f.package f.embedded t [] (untagged_fields (fields_of T fields))) (plain f.of.0 (All-head (λ (x : Field). x.of.0 < n) f fields over))
      ∙ (ap (λ (r : GoFields). AndField f.name f.package f.embedded (type_at T f.of) [] r) (fields_plain fields (All-tail (λ (x : Field). x.of.0 < n) f fields over) both.1)
      ∙ ap (λ (tag : List ℕ). AndField f.name f.package f.embedded (type_at T f.of) tag (fields_of T fields)) (sym none))

  methods_plain : (methods : List Method) → MethodsBelow n methods → untagged_methods (methods_of T methods) ≡ methods_of T methods
  methods_plain [] over = refl
  methods_plain (m ∷ methods) over =
      ap (λ (s : GoSignature). AndMethod m.name m.package m.pointer s (untagged_methods (methods_of T methods))) (signature_plain m.of (All-head (λ (x : Method). SignatureBelow n x.of) m methods over))
      ∙ ap (λ (r : GoMethods). AndMethod m.name m.package m.pointer (signature_of T m.of) r) (methods_plain methods (All-tail (λ (x : Method). SignatureBelow n x.of) m methods over))

  pub bare_plain : (t : Term) → IsOver n t → is_bare t ≡ true → untagged (type_of T t) ≡ type_of T t
  bare_plain (Basic kind) over bare = refl
  bare_plain (Defined name) over bare = refl
  bare_plain (Pointer of) over bare = ap PointerTo (plain of.0 over)
  bare_plain (Slice of) over bare = ap SliceOf (plain of.0 over)
  bare_plain (Array size of) over bare = ap (λ (t : GoType). ArrayOf size t) (plain of.0 over)
  bare_plain (Map key of) over bare =
      ap (λ (t : GoType). MapOf t (untagged (type_at T of))) (plain key.0 over.0) ∙ ap (λ (t : GoType). MapOf (type_at T key) t) (plain of.0 over.1)
  bare_plain (Chan direction of) over bare = ap (λ (t : GoType). ChanOf direction t) (plain of.0 over)
  bare_plain (Func of) over bare = ap FuncOf (signature_plain of over)
  bare_plain (Struct fields) over bare = ap StructOf (fields_plain fields over bare)
  bare_plain (Interface methods) over bare = ap InterfaceOf (methods_plain methods over)
