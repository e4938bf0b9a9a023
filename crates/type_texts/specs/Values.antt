-- The parts that stand for values over a table's types, the last one first.
use Rattle.std.specs.Prelude.{ℕ, ◌<◌, List, [], ◌∷◌, All}
use Rattle.type_model.specs.declared.term.Field.{Field}
use Rattle.type_model.specs.declared.term.Method.{Method}
use Rattle.type_model.specs.GoTypes.{GoType, type_at, types_at, signature_of, AreBelow, SignatureBelow}
use Rattle.type_model.specs.Parts.{GoField, method_of}
use Rattle.type_texts.specs.declared.values.Value.{Value}
use Rattle.type_texts.specs.declared.values.Value.TheVariants as value
use Rattle.type_texts.specs.Building.{Part, TypePart, ListPart, FieldPart, TagPart, MethodPart, SignaturePart}

-- the field that a field over numbered types stands for
abbrev pub field_of : List GoType → Field → GoField
field_of types f = record { name = f.name; owner = f.package; embedded = f.embedded; of = type_at types f.of; tag = f.tag }

abbrev pub part_of : List GoType → Value → Part
part_of types (value.Type id) = TypePart (type_at types id)
part_of types (value.List ids) = ListPart (types_at types ids)
part_of types (value.Field f) = FieldPart (field_of types f)
part_of types (value.Tag tag) = TagPart tag
part_of types (value.Method m) = MethodPart (method_of types m)
part_of types (value.Signature s) = SignaturePart (signature_of types s)

-- over parts that stand below them
abbrev pub parts_over : List GoType → List Value → List Part → List Part
parts_over types [] parts = parts
parts_over types (v ∷ values) parts = parts_over types values (part_of types v ∷ parts)

abbrev pub parts_in : List GoType → List Value → List Part
parts_in types values = parts_over types values []

-- the numbers in a value are below n
abbrev pub IsBelow : ℕ → Value → Type 0
IsBelow n (value.Type id) = id.0 < n
IsBelow n (value.List ids) = AreBelow n ids
IsBelow n (value.Field f) = f.of.0 < n
IsBelow n (value.Tag tag) = Unit {0}
IsBelow n (value.Method m) = SignatureBelow n m.of
IsBelow n (value.Signature s) = SignatureBelow n s

pub record Stand (n : ℕ) (values : List Value) : Type 0 where
  pub each : All (IsBelow n) values

-- ---- what was taken off, in front of what is still to be taken

abbrev pub fronted : {X L : Type 0} → (X → L → L) → List X → L → L
fronted cons [] more = more
fronted cons (x ∷ xs) more = cons x (fronted cons xs more)
