-- Underlying types by what a primary expression can make of them (Go 1.17, "Index expressions", "Slice expressions", "Type assertions",
-- "Address operators", "Receive operator").
use Rattle.std.specs.Prelude.{ℕ, if◌then◌else◌}
use Rattle.type_model.specs.declared.term.Dir.{Dir}
use Rattle.type_model.specs.GoTypes.{GoType, BasicType, DefinedType, PointerTo, SliceOf, ArrayOf, MapOf, ChanOf, FuncOf, StructOf, InterfaceOf}
use Rattle.typed_tree.specs.Operands.{is_text}

pub data Shape : Type 0 where
  Texts : Shape
  Slices : GoType → Shape
  Arrays : ℕ → GoType → Shape
  Maps : GoType → GoType → Shape
  Pointers : GoType → Shape
  Channels : Dir → GoType → Shape
  Interfaces : Shape
  Others : Shape

-- a string type, typed or untyped, a slice, an array, a map, a pointer, a channel, an interface, or another
unfoldable pub shape_of : GoType → Shape
shape_of (BasicType kind) = if is_text kind then Texts else Others
shape_of (DefinedType name) = Others
shape_of (PointerTo of) = Pointers of
shape_of (SliceOf of) = Slices of
shape_of (ArrayOf size of) = Arrays size of
shape_of (MapOf key of) = Maps key of
shape_of (ChanOf direction of) = Channels direction of
shape_of (FuncOf of) = Others
shape_of (StructOf fields) = Others
shape_of (InterfaceOf methods) = Interfaces
