-- The Go specification's own examples, as theorems about the definitions.
use Rattle.std.proofs.Common.{◌≡◌, refl}
use Rattle.std.specs.Prelude.{pos}
use Rattle.gv_base.specs.declared.constant.Const.TheVariants as const
use Rattle.gv_base.specs.declared.constant.Kind.TheVariants as k
use Rattle.type_model.specs.GoTypes.{BasicType, DefinedType}
use Rattle.typed_tree.specs.Operands.{constant_mark}
use Rattle.typed_tree.specs.Universe.{type_mark, error_name, predeclared_mark}

-- "Predeclared identifiers": `byte` is uint8 and `rune` is int32, by their numbers among the predeclared names
byte_and_rune : (predeclared_mark 0 2 ≡ type_mark (BasicType k.Uint8)) × (predeclared_mark 0 30 ≡ type_mark (BasicType k.Int32))
byte_and_rune = (refl, refl)

-- `error` is a defined type
error_is_defined : predeclared_mark 0 10 ≡ type_mark (DefinedType error_name)
error_is_defined = refl

-- "Iota": it is the number of its specification
second_iota : predeclared_mark 1 20 ≡ constant_mark k.UntypedInt (const.Int (pos 1))
second_iota = refl
