-- Classes and numbers of basic types (Go 1.17, "Boolean types", "Numeric types", "String types" and "Constants").
use Rattle.std.specs.Prelude.{ℕ, Bool as Truth, true, false, List, [], ◌∷◌, slice_index_or}
use Rattle.gv_base.specs.declared.constant.Kind.{Kind}
use Rattle.gv_base.specs.declared.constant.Kind.TheVariants.{Bool, Int, Int8, Int16, Int32, Int64, Uint, Uint8, Uint16, Uint32, Uint64, Uintptr, Text, UntypedBool, UntypedInt, UntypedRune, UntypedText, UntypedNil}
use Rattle.gv_base.specs.Fits.{Values, Truths, Integers, Texts, NoConstants, values_of}

abbrev pub is_truths : Values → Truth
is_truths Truths = true
is_truths (Integers first last) = false
is_truths Texts = false
is_truths NoConstants = false

abbrev pub is_integers : Values → Truth
is_integers Truths = false
is_integers (Integers first last) = true
is_integers Texts = false
is_integers NoConstants = false

abbrev pub is_texts : Values → Truth
is_texts Truths = false
is_texts (Integers first last) = false
is_texts Texts = true
is_texts NoConstants = false

-- the values of the kind are truths, also where it is untyped
abbrev pub is_boolean : Kind → Truth
is_boolean kind = is_truths (values_of kind)

-- the values of the kind are integers, also where it is untyped
abbrev pub is_integer : Kind → Truth
is_integer kind = is_integers (values_of kind)

-- the values of the kind are texts, also where it is untyped
abbrev pub is_string : Kind → Truth
is_string kind = is_texts (values_of kind)

-- the kind is that of `nil`
abbrev pub is_nil : Kind → Truth
is_nil UntypedNil = true
is_nil kind = false

-- the kind is that of untyped operands
abbrev pub is_untyped : Kind → Truth
is_untyped Bool = false
is_untyped Int = false
is_untyped Int8 = false
is_untyped Int16 = false
is_untyped Int32 = false
is_untyped Int64 = false
is_untyped Uint = false
is_untyped Uint8 = false
is_untyped Uint16 = false
is_untyped Uint32 = false
is_untyped Uint64 = false
is_untyped Uintptr = false
is_untyped Text = false
is_untyped UntypedBool = true
is_untyped UntypedInt = true
is_untyped UntypedRune = true
is_untyped UntypedText = true
is_untyped UntypedNil = true

-- the kinds in the order of their declaration
abbrev pub KINDS : List Kind
KINDS =
    Bool ∷ Int ∷ Int8 ∷ Int16 ∷ Int32 ∷ Int64 ∷ Uint ∷ Uint8 ∷ Uint16 ∷ Uint32 ∷ Uint64 ∷ Uintptr ∷ Text
    ∷ UntypedBool ∷ UntypedInt ∷ UntypedRune ∷ UntypedText ∷ UntypedNil ∷ []

-- the kind of this number, its place in that order
abbrev pub kind_numbered : ℕ → Kind
kind_numbered n = slice_index_or KINDS n UntypedNil

-- the number of the kind
abbrev pub kind_number : Kind → ℕ
kind_number Bool = 0
kind_number Int = 1
kind_number Int8 = 2
kind_number Int16 = 3
kind_number Int32 = 4
kind_number Int64 = 5
kind_number Uint = 6
kind_number Uint8 = 7
kind_number Uint16 = 8
kind_number Uint32 = 9
kind_number Uint64 = 10
kind_number Uintptr = 11
kind_number Text = 12
kind_number UntypedBool = 13
kind_number UntypedInt = 14
kind_number UntypedRune = 15
kind_number UntypedText = 16
kind_number UntypedNil = 17
