-- The objects and the defined types of a package over a table stay what they are where the table grows.
use Rattle.std.proofs.Common.{◌≡◌, ℕ, ◌<◌, List, [], ◌∷◌, ◌++◌, length, map, refl, ap, ◌∙◌}
use Rattle.std.specs.Prelude.{All}
use Rattle.std.proofs.lemmas.List.Elements.{All-head, All-tail, All-push, All-weaker}
use Rattle.type_model.specs.declared.term.TypeId.{TypeId}
use Rattle.type_model.specs.declared.term.Term.{Term}
use Rattle.type_model.specs.GoTypes.{GoType, type_at, types_of}
use Rattle.type_model.specs.declared.table.TypeTable.{TypeTable}
use Rattle.type_model.specs.Tables.{Extends, Grown, terms_in, types_in, count}
use Rattle.package_faces.specs.declared.interface.Exported.{Exported}
use Rattle.package_faces.specs.declared.interface.ExportedType.{ExportedType}
use Rattle.package_faces.specs.Faces.{ObjectOut, DefinedOut}
use Rattle.package_faces.specs.Interfaces.{object_in, defined_in, IsObjectIn, IsDefinedIn, AreObjectsIn, AreDefinedIn}
use Rattle.package_faces.proofs.FaceLaws.{object_grows, object_stays, defined_grows, defined_stays}
use Rattle.type_texts.proofs.ValueLaws.{agree}

module _ (old new : List Term) (grown : Extends old new) where
  -- ---- objects

  pub objects_grow : (path : List ℕ) (objects : List Exported) → AreObjectsIn path (length old) (types_of old) objects → AreObjectsIn path (length new) (types_of new) objects
  objects_grow path objects h = record { each = All-weaker (IsObjectIn path (length old) (types_of old)) (IsObjectIn path (length new) (types_of new)) (object_grows old new grown path) objects h.each }

  all_stay : (path : List ℕ) (objects : List Exported) → All (IsObjectIn path (length old) (types_of old)) objects → map (λ o. object_in (types_of new) o) objects ≡ map (λ o. object_in (types_of old) o) objects
  all_stay path [] h = refl
  all_stay path (o ∷ objects) h =
      let first = object_stays old new grown path o (All-head (IsObjectIn path (length old) (types_of old)) o objects h) in
      let rest = all_stay path objects (All-tail (IsObjectIn path (length old) (types_of old)) o objects h) in
      ap (λ (x : ObjectOut). x ∷ map (λ o. object_in (types_of new) o) objects) first ∙ ap (λ (xs : List ObjectOut). object_in (types_of old) o ∷ xs) rest

  pub objects_stay : (path : List ℕ) (objects : List Exported) → AreObjectsIn path (length old) (types_of old) objects → map (λ o. object_in (types_of new) o) objects ≡ map (λ o. object_in (types_of old) o) objects
  objects_stay path objects h = all_stay path objects h.each

  -- ---- defined types

  pub defineds_grow : (types : List ExportedType) → AreDefinedIn (length old) types → AreDefinedIn (length new) types
  defineds_grow types h = record { each = All-weaker (IsDefinedIn (length old)) (IsDefinedIn (length new)) (defined_grows old new grown) types h.each }

  all_defined : (types : List ExportedType) → All (IsDefinedIn (length old)) types → map (λ d. defined_in (types_of new) d) types ≡ map (λ d. defined_in (types_of old) d) types
  all_defined [] h = refl
  all_defined (d ∷ types) h =
      let first = defined_stays old new grown d (All-head (IsDefinedIn (length old)) d types h) in
      let rest = all_defined types (All-tail (IsDefinedIn (length old)) d types h) in
      ap (λ (x : DefinedOut). x ∷ map (λ d. defined_in (types_of new) d) types) first ∙ ap (λ (xs : List DefinedOut). defined_in (types_of old) d ∷ xs) rest

  pub defineds_stay : (types : List ExportedType) → AreDefinedIn (length old) types → map (λ d. defined_in (types_of new) d) types ≡ map (λ d. defined_in (types_of old) d) types
  defineds_stay types h = all_defined types h.each

pub objects_push : (path : List ℕ) (n : ℕ) (types : List GoType) (objects : List Exported) (o : Exported) → AreObjectsIn path n types objects → IsObjectIn path n types o → AreObjectsIn path n types (objects ++ o ∷ [])
objects_push path n types objects o h one = record { each = All-push (IsObjectIn path n types) objects o h.each one }

pub defineds_push : (n : ℕ) (types : List ExportedType) (d : ExportedType) → AreDefinedIn n types → IsDefinedIn n d → AreDefinedIn n (types ++ d ∷ [])
defineds_push n types d h one = record { each = All-push (IsDefinedIn n) types d h.each one }

-- a type of a table is the same where the table has grown
pub id_stays : (a b : TypeTable) (id : TypeId) → Grown a b → id.0 < count a → type_at (types_in b) id ≡ type_at (types_in a) id
id_stays a b id grown below = agree (terms_in a) (terms_in b) grown.extends id.0 below
