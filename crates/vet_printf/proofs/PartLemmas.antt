-- Parts of types, by the terms that spell them.
use Rattle.std.proofs.Common.{◌≡◌, ℕ, zero, suc, ◌+◌, ◌<◌, false, List, [], ◌∷◌, ◌++◌, map, Option, Some, None, IfSome, slice_get, refl, sym, ap, ◌∙◌, subst, inl, inr, arith}
use Rattle.std.specs.Option.{option_map_or}
use Rattle.std.proofs.lemmas.List.{length_push}
use Rattle.gv_base.proofs.Lists.{same_some, push_cases}
use Rattle.type_model.specs.declared.term.Field.{Field}
use Rattle.type_model.specs.declared.term.Term.{Term}
use Rattle.type_model.specs.declared.term.Term.TheVariants.{Basic, Defined, Pointer, Slice, Array, Map, Chan, Func, Struct, Interface}
use Rattle.type_model.specs.declared.term.TypeId.{TypeId}
use Rattle.type_model.specs.declared.table.TypeTable.{TypeTable}
use Rattle.type_model.specs.GoTypes.{GoType, is_defined, type_number, type_at, type_of, fields_of, FieldsBelow, IsOver}
use Rattle.type_model.specs.Parts.{GoField, field_list}
use Rattle.type_model.specs.Declarations.{under_of}
use Rattle.type_model.specs.Tables.{types_in, count, declarations_in}
use Rattle.vet_printf.specs.Fitting.{parts_of}
use Rattle.vet_printf.specs.InTable.{field_ids, ids_of, AreParts}

field_parts : (types : List GoType) (fields : List Field) → map (type_number types) (field_ids fields) ≡ map (λ (f : GoField). f.of) (field_list (fields_of types fields))
field_parts types [] = refl
field_parts types (f ∷ fields) = ap (λ l. type_at types f.of ∷ l) (field_parts types fields)

term_parts : (types : List GoType) (term : Term) → map (type_number types) (ids_of term) ≡ parts_of (type_of types term)
term_parts types (Basic kind) = refl
term_parts types (Defined name) = refl
term_parts types (Pointer of) = refl
term_parts types (Slice of) = refl
term_parts types (Array size of) = refl
term_parts types (Map key of) = refl
term_parts types (Chan direction of) = refl
term_parts types (Func of) = refl
term_parts types (Struct fields) = field_parts types fields
term_parts types (Interface methods) = refl

some_is : (a b : ℕ) → Some a ≡ Some b → a ≡ b
some_is a b e = cc

fields_below : (n : ℕ) (fields : List Field) → FieldsBelow n fields → (k id : ℕ) → slice_get (field_ids fields) k ≡ Some id → id < n
fields_below n [] below k id e = absurd (cc)
fields_below n (f ∷ fields) below zero id e = subst (λ (x : ℕ). x < n) (it f.of.0 id e) (below 0 f (omega arith)) where
  it : (a b : ℕ) → Some a ≡ Some b → a ≡ b
  it a b e = cc
fields_below n (f ∷ fields) below (suc k) id e = fields_below n fields (λ i d low. below (suc i) d (omega arith)) k id e

term_below : (n : ℕ) (term : Term) → IsOver n term → (k id : ℕ) → slice_get (ids_of term) k ≡ Some id → id < n
term_below n (Basic kind) over k id e = absurd (cc)
term_below n (Defined name) over k id e = absurd (cc)
term_below n (Pointer of) over k id e = absurd (cc)
term_below n (Slice of) over zero id e = subst (λ (x : ℕ). x < n) (some_is of.0 id e) over
term_below n (Slice of) over (suc k) id e = absurd (cc)
term_below n (Array size of) over zero id e = subst (λ (x : ℕ). x < n) (some_is of.0 id e) over
term_below n (Array size of) over (suc k) id e = absurd (cc)
term_below n (Map key of) over zero id e = subst (λ (x : ℕ). x < n) (some_is key.0 id e) over.0
term_below n (Map key of) over (suc zero) id e = subst (λ (x : ℕ). x < n) (some_is of.0 id e) over.1
term_below n (Map key of) over (suc (suc k)) id e = absurd (cc)
term_below n (Chan direction of) over k id e = absurd (cc)
term_below n (Func of) over k id e = absurd (cc)
term_below n (Struct fields) over k id e = fields_below n fields over k id e
term_below n (Interface methods) over k id e = absurd (cc)

-- a type whose underlying type is spelled by a term
pub parts_under : (t : TypeTable) (n : ℕ) (u : TypeId) (term : Term) (ids : List ℕ) → under_of (declarations_in t) (type_number (types_in t) n) ≡ Some (type_at (types_in t) u)
    → u.0 < count t → type_at (types_in t) u ≡ type_of (types_in t) term → IsOver u.0 term → ids ≡ ids_of term → AreParts t n ids
parts_under t n u term ids under within spelled over is = subst (λ (l : List ℕ). AreParts t n l) (sym is) (record {
  are = term_parts (types_in t) term ∙ (ap parts_of (sym spelled) ∙ sym (ap (λ (o : Option GoType). option_map_or parts_of o []) under));
  below = λ k id at. (let low = term_below u.0 term over k id at in omega (arith, low, within));
})

pub no_parts : (t : TypeTable) (n : ℕ) (ids : List ℕ) → under_of (declarations_in t) (type_number (types_in t) n) ≡ None → ids ≡ [] → AreParts t n ids
no_parts t n ids under is = subst (λ (l : List ℕ). AreParts t n l) (sym is) (record {
  are = sym (ap (λ (o : Option GoType). option_map_or parts_of o []) under);
  below = λ k id at. absurd (cc);
})
