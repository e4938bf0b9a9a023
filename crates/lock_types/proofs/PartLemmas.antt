-- What types hold, by the terms that spell them.
use Rattle.std.proofs.Common.{◌≡◌, ℕ, zero, suc, ◌+◌, ◌<◌, false, List, [], ◌∷◌, ◌++◌, map, Option, Some, None, IfSome, slice_get, refl, sym, ap, ◌∙◌, subst, inl, inr, arith}
use Rattle.std.specs.Option.{option_map_or}
use Rattle.std.proofs.lemmas.List.{length_push}
use Rattle.gv_base.proofs.Lists.{same_some, push_cases}
use Rattle.type_model.specs.declared.term.Field.{Field}
use Rattle.type_model.specs.declared.term.Term.{Term}
use Rattle.type_model.specs.declared.term.Term.TheVariants.{Basic, Defined, Pointer, Slice, Array, Map, Chan, Func, Struct, Interface}
use Rattle.type_model.specs.declared.term.TypeId.{TypeId}
use Rattle.type_model.specs.declared.table.TypeTable.{TypeTable}
use Rattle.type_model.specs.GoTypes.{GoType, is_defined, type_number, type_at, type_of, fields_of, FieldsBelow, IsOver}
use Rattle.type_model.specs.Parts.{GoField, field_list}
use Rattle.type_model.specs.Declarations.{Declarations, under_of, held}
use Rattle.type_model.specs.Tables.{types_in, count, declarations_in}
use Rattle.lock_types.specs.InTable.{field_ids, ids_of, AreParts, ArePartsTo}

field_parts : (types : List GoType) (fields : List Field) → map (type_number types) (field_ids fields) ≡ map (λ (f : GoField). f.of) (field_list (fields_of types fields))
field_parts types [] = refl
field_parts types (f ∷ fields) = ap (λ l. type_at types f.of ∷ l) (field_parts types fields)

term_parts : (types : List GoType) (ds : Declarations) (term : Term) → is_defined (type_of types term) ≡ false → map (type_number types) (ids_of term) ≡ held ds (type_of types term)
term_parts types ds (Basic kind) plain = refl
term_parts types ds (Defined name) plain = absurd (cc)
term_parts types ds (Pointer of) plain = refl
term_parts types ds (Slice of) plain = refl
term_parts types ds (Array size of) plain = refl
term_parts types ds (Map key of) plain = refl
term_parts types ds (Chan direction of) plain = refl
term_parts types ds (Func of) plain = refl
term_parts types ds (Struct fields) plain = field_parts types fields
term_parts types ds (Interface methods) plain = refl

fields_below : (n : ℕ) (fields : List Field) → FieldsBelow n fields → (k id : ℕ) → slice_get (field_ids fields) k ≡ Some id → id < n
fields_below n [] below k id e = absurd (cc)
fields_below n (f ∷ fields) below zero id e = subst (λ (x : ℕ). x < n) (it f.of.0 id e) (below 0 f (omega arith)) where
  it : (a b : ℕ) → Some a ≡ Some b → a ≡ b
  it a b e = cc
fields_below n (f ∷ fields) below (suc k) id e = fields_below n fields (λ i d low. below (suc i) d (omega arith)) k id e

term_below : (n : ℕ) (term : Term) → IsOver n term → (k id : ℕ) → slice_get (ids_of term) k ≡ Some id → id < n
term_below n (Basic kind) over k id e = absurd (cc)
term_below n (Defined name) over k id e = absurd (cc)
term_below n (Pointer of) over k id e = absurd (cc)
term_below n (Slice of) over k id e = absurd (cc)
term_below n (Array size of) over zero id e = subst (λ (x : ℕ). x < n) (it of.0 id e) over where
  it : (a b : ℕ) → Some a ≡ Some b → a ≡ b
  it a b e = cc
term_below n (Array size of) over (suc k) id e = absurd (cc)
term_below n (Map key of) over k id e = absurd (cc)
term_below n (Chan direction of) over k id e = absurd (cc)
term_below n (Func of) over k id e = absurd (cc)
term_below n (Struct fields) over k id e = fields_below n fields over k id e
term_below n (Interface methods) over k id e = absurd (cc)

-- a type whose underlying type is spelled by a term
pub parts_under : (t : TypeTable) (n : ℕ) (u : TypeId) (term : Term) (ids : List ℕ) → under_of (declarations_in t) (type_number (types_in t) n) ≡ Some (type_at (types_in t) u) → is_defined (type_at (types_in t) u) ≡ false
    → u.0 < count t → type_at (types_in t) u ≡ type_of (types_in t) term → IsOver u.0 term → ids ≡ ids_of term → AreParts t n ids
parts_under t n u term ids under plain within spelled over is = subst (λ (l : List ℕ). AreParts t n l) (sym is) (record {
  are = term_parts (types_in t) (declarations_in t) term (ap is_defined (sym spelled) ∙ plain)
      ∙ (ap (held (declarations_in t)) (sym spelled) ∙ sym (ap (λ (o : Option GoType). option_map_or (held (declarations_in t)) o []) under));
  below = λ k id at. (let low = term_below u.0 term over k id at in omega (arith, low, within));
})

pub no_parts : (t : TypeTable) (n : ℕ) (ids : List ℕ) → under_of (declarations_in t) (type_number (types_in t) n) ≡ None → ids ≡ [] → AreParts t n ids
no_parts t n ids under is = subst (λ (l : List ℕ). AreParts t n l) (sym is) (record {
  are = sym (ap (λ (o : Option GoType). option_map_or (held (declarations_in t)) o []) under);
  below = λ k id at. absurd (cc);
})

-- what holds of what is there
pub if_some : {X : Type 0} (P : X → Type 0) (o : Option X) (x : X) → o ≡ Some x → IfSome o P → P x
if_some {X} P None x e h = absurd (cc)
if_some {X} P (Some y) x e h = subst P (same_some (Some y) y x refl e) h

-- ---- rows

pub no_rows : (t : TypeTable) (rows : List (List ℕ)) → rows ≡ [] → ArePartsTo t 0 rows
no_rows t rows is = subst (λ (l : List (List ℕ)). ArePartsTo t 0 l) (sym is) (record { size = refl; each = λ k row at. absurd (cc) })

pub row_more : (t : TypeTable) (n : ℕ) (rows new : List (List ℕ)) (row : List ℕ) → ArePartsTo t n rows → AreParts t n row → new ≡ rows ++ row ∷ [] → ArePartsTo t (n + 1) new
row_more t n rows new row was is now = subst (λ (l : List (List ℕ)). ArePartsTo t (n + 1) l) (sym now) (record {
  size = length_push rows row ∙ ap (λ m. m + 1) was.size;
  each = λ k r at. elim (push_cases rows row r k at) [
    | inl before ↦ was.each k r before
    | inr (last, same) ↦ subst (λ (x : List ℕ). AreParts t k x) same (subst (λ (m : ℕ). AreParts t m row) (sym (last ∙ was.size)) is)
  ];
})

pub all_rows : (t : TypeTable) (n total : ℕ) (rows : List (List ℕ)) → n ≡ total → ArePartsTo t n rows → ArePartsTo t total rows
all_rows t n total rows e are = subst (λ (m : ℕ). ArePartsTo t m rows) e are
