-- What stands at the place of an expression, and what a blank, a use and a qualified identifier give (Go 1.17, "Operands", "Blank
-- identifier", "Qualified identifiers").
use Rattle.std.specs.Prelude.{Bool, true, false, Option, Some, None}
use Rattle.typed_tree.specs.declared.mark.Mode.{Mode}
use Rattle.typed_tree.specs.declared.mark.Mode.TheVariants as mode
use Rattle.typed_tree.specs.declared.place.Want.{Want}
use Rattle.typed_tree.specs.declared.place.Want.TheVariants as w
use Rattle.typed_tree.specs.declared.rule.TheConstants.{UNDEFINED, NOT_EXPORTED_BY_PACKAGE, NOT_A_TYPE, BLANK_USED_AS_VALUE}
use Rattle.typed_tree.specs.Meanings.{Meaning, Right, Wrong, need}

-- ---- modes

-- a single value, nil among them
abbrev pub is_single : Mode → Bool
is_single mode.Constant = true
is_single mode.Variable = true
is_single mode.MapIndex = true
is_single mode.Value = true
is_single mode.CommaOk = true
is_single mode.Nil = true
is_single _ = false

abbrev pub is_type : Mode → Bool
is_type mode.TypeName = true
is_type _ = false

abbrev pub is_constant : Mode → Bool
is_constant mode.Constant = true
is_constant _ = false

abbrev pub is_nil_mode : Mode → Bool
is_nil_mode mode.Nil = true
is_nil_mode _ = false

abbrev pub is_package : Mode → Bool
is_package mode.Package = true
is_package _ = false

-- ---- names

-- E17 a blank, E10 where a type is wanted
abbrev pub blank_mark : Want → Meaning
blank_mark w.Type = Wrong NOT_A_TYPE
blank_mark w.Case = Wrong NOT_A_TYPE
blank_mark _ = Wrong BLANK_USED_AS_VALUE

-- the mark of a use, from that of the object which it denotes: E3 where it denotes nothing
abbrev pub use_mark : Option Meaning → Meaning
use_mark None = Wrong UNDEFINED
use_mark (Some m) = need m (λ x. Right x)

-- what the interface of a package has for a name: E9 where it hasn't the name
abbrev pub exported_mark : Option Meaning → Meaning
exported_mark None = Wrong NOT_EXPORTED_BY_PACKAGE
exported_mark (Some m) = need m (λ x. Right x)
