-- What the predeclared names mean (Go 1.17, "Predeclared identifiers", "Iota").
use Rattle.std.specs.Prelude.{ℕ, true, false, List, [], ◌∷◌, None, pos, slice_get, codes}
use Rattle.std.specs.Option.{option_map_or}
use Rattle.gv_base.specs.declared.constant.Kind.TheVariants as k
use Rattle.gv_base.specs.declared.constant.Const.TheVariants as const
use Rattle.type_model.specs.declared.term.TypeName.{TypeName}
use Rattle.type_model.specs.GoTypes.{GoType, BasicType, DefinedType}
use Rattle.typed_tree.specs.declared.mark.Mode.TheVariants as mode
use Rattle.typed_tree.specs.declared.rule.Limit.TheVariants.{Float, Complex}
use Rattle.typed_tree.specs.declared.universe.Predeclared.{Predeclared}
use Rattle.typed_tree.specs.declared.universe.Predeclared.TheVariants as p
use Rattle.typed_tree.specs.Meanings.{Meaning, Right, Beyond, Quiet}
use Rattle.typed_tree.specs.Operands.{constant_mark}

-- in byte order of the names
abbrev pub meanings : List Predeclared
meanings =
    p.Function  -- append
    ∷ p.Basic k.Bool
    ∷ p.Basic k.Uint8  -- byte
    ∷ p.Function  -- cap
    ∷ p.Function  -- close
    ∷ p.Out Complex  -- complex
    ∷ p.Out Complex  -- complex128
    ∷ p.Out Complex  -- complex64
    ∷ p.Function  -- copy
    ∷ p.Function  -- delete
    ∷ p.Error
    ∷ p.False
    ∷ p.Out Float  -- float32
    ∷ p.Out Float  -- float64
    ∷ p.Out Complex  -- imag
    ∷ p.Basic k.Int
    ∷ p.Basic k.Int16
    ∷ p.Basic k.Int32
    ∷ p.Basic k.Int64
    ∷ p.Basic k.Int8
    ∷ p.Iota
    ∷ p.Function  -- len
    ∷ p.Function  -- make
    ∷ p.Function  -- new
    ∷ p.Nil
    ∷ p.Function  -- panic
    ∷ p.Function  -- print
    ∷ p.Function  -- println
    ∷ p.Out Complex  -- real
    ∷ p.Function  -- recover
    ∷ p.Basic k.Int32  -- rune
    ∷ p.Basic k.Text  -- string
    ∷ p.True
    ∷ p.Basic k.Uint
    ∷ p.Basic k.Uint16
    ∷ p.Basic k.Uint32
    ∷ p.Basic k.Uint64
    ∷ p.Basic k.Uint8
    ∷ p.Basic k.Uintptr
    ∷ []

-- the defined type `error`
abbrev pub error_name : TypeName
error_name = record { «package» = []; name = codes "error"; local = 0 }

abbrev pub type_mark : GoType → Meaning
type_mark of = Right (record { mode = mode.TypeName; of = of; value = None })

-- what has no type that these rules read
abbrev pub plain_mark : Meaning
plain_mark = Right (record { mode = mode.Builtin; of = BasicType k.UntypedNil; value = None })

abbrev pub nil_mark : Meaning
nil_mark = Right (record { mode = mode.Nil; of = BasicType k.UntypedNil; value = None })

-- `iota` is the number of the specification in its declaration
abbrev pub meaning_of : ℕ → Predeclared → Meaning
meaning_of iota (p.Basic kind) = type_mark (BasicType kind)
meaning_of iota p.Error = type_mark (DefinedType error_name)
meaning_of iota p.True = constant_mark k.UntypedBool (const.Truth true)
meaning_of iota p.False = constant_mark k.UntypedBool (const.Truth false)
meaning_of iota p.Iota = constant_mark k.UntypedInt (const.Int (pos iota))
meaning_of iota p.Nil = nil_mark
meaning_of iota p.Function = plain_mark
meaning_of iota (p.Out limit) = Beyond limit

-- the mark of a use of the predeclared name of this number
abbrev pub predeclared_mark : ℕ → ℕ → Meaning
predeclared_mark iota i = option_map_or (meaning_of iota) (slice_get meanings i) Quiet
