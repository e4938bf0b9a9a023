-- The way through embedded fields, one after the other.
use Rattle.std.proofs.Common.{◌≡◌, ℕ, zero, suc, ◌+◌, ◌<◌, ◌≤◌, List, [], ◌∷◌, drop, length, slice_get, Option, Some, None, option_map, refl, sym, ap, ◌∙◌, subst, arith}
use Rattle.std.proofs.lemmas.List.Elements.{All-head, All-tail}
use Rattle.std.specs.Prelude.{option_and_then}
use Rattle.type_model.specs.declared.term.Field.{Field}
use Rattle.type_model.specs.GoTypes.{GoType, type_at, fields_of, FieldsBelow}
use Rattle.type_model.specs.Parts.{GoField, field_list}
use Rattle.type_model.specs.Declarations.{Declarations}
use Rattle.method_sets.specs.Paths.{base}
use Rattle.type_model.specs.declared.term.TypeId.{TypeId}
use Rattle.type_model.specs.declared.table.TypeTable.{TypeTable}
use Rattle.type_model.specs.Tables.{types_in, count, declarations_in}
use Rattle.selected_methods.specs.Ways.{field_base, embedded, led}
use Rattle.selected_methods.proofs.Lists.{drop_at, drop_end}

-- ---- fields

pub field_at : (types : List GoType) (fields : List Field) (k : ℕ)
    → option_map field_base (slice_get (field_list (fields_of types fields)) k) ≡ option_map (λ (x : Field). base (type_at types x.of)) (slice_get fields k)
field_at types [] k = refl
field_at types (x ∷ fields) zero = refl
field_at types (x ∷ fields) (suc k) = field_at types fields k

pub field_below : (n m : ℕ) (fields : List Field) (k : ℕ) (x : Field) → slice_get fields k ≡ Some x → FieldsBelow n fields → n < m → x.of.0 < m
field_below n m [] k x is all low = absurd cc
field_below n m (y ∷ fields) zero x is all low =
    let same : y ≡ x = cc in
    let first : y.of.0 < n = All-head (λ (z : Field). z.of.0 < n) y fields all in
    subst (λ (z : Field). z.of.0 < m) same (omega arith)
field_below n m (y ∷ fields) (suc k) x is all low = field_below n m fields k x is (All-tail (λ (z : Field). z.of.0 < n) y fields all) low

-- ---- the way

-- from here the rest of the way leads to where all of it leads
pub record Goes (t : TypeTable) (a : GoType) (path : List ℕ) (i : ℕ) (at : TypeId) : Type 0 where
  pub within : at.0 < count t
  pub way : led (declarations_in t) a path ≡ led (declarations_in t) (type_at (types_in t) at) (drop i path)

module _ (ds : Declarations) (a : GoType) (path : List ℕ) (i : ℕ) (b : GoType) (so_far : led ds a path ≡ led ds b (drop i path)) where
  ahead : (k : ℕ) → slice_get path i ≡ Some k → led ds a path ≡ option_and_then (λ c. led ds c (drop (i + 1) path)) (embedded ds b k)
  ahead k is = so_far ∙ ap (λ (l : List ℕ). led ds b l) (drop_at path i k is)

  pub led_on : (k : ℕ) (c : GoType) → slice_get path i ≡ Some k → embedded ds b k ≡ Some c → led ds a path ≡ led ds c (drop (i + 1) path)
  led_on k c is leads = ahead k is ∙ ap (λ (o : Option GoType). option_and_then (λ c. led ds c (drop (i + 1) path)) o) leads

  pub led_nowhere : (k : ℕ) → slice_get path i ≡ Some k → embedded ds b k ≡ None → led ds a path ≡ None
  led_nowhere k is leads = ahead k is ∙ ap (λ (o : Option GoType). option_and_then (λ c. led ds c (drop (i + 1) path)) o) leads

  pub led_ended : length path ≤ i → led ds a path ≡ Some b
  led_ended low = so_far ∙ ap (λ (l : List ℕ). led ds b l) (drop_end path i low)
