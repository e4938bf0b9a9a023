-- The types of constants (Go 1.17, "Constants").
use Rattle.std.specs.Prelude.{Bool, false, not}
use Rattle.type_model.specs.GoTypes.{GoType, BasicType}
use Rattle.typed_tree.specs.Operands.{is_nil}

-- a type that a constant may have: a boolean, an integer or a string type
abbrev pub has_constants : GoType → Bool
has_constants (BasicType kind) = not (is_nil kind)
has_constants _ = false
