-- Examples of the specification as facts about the definitions of literals.
-- Go 1.17, "Integer literals", "Floating-point literals", "Imaginary literals", "Rune literals", "String literals".
use Rattle.std.proofs.Common.{◌≡◌, ℕ, List, [], ◌∷◌, Option, Some, None, refl}
use Rattle.std.specs.Prelude.{codes}
use Rattle.go_tree.specs.declared.token.TokenKind.{TokenKind}
use Rattle.go_tree.specs.declared.token.TokenKind.TheVariants.{Int, Float, Imag}
use Rattle.go_tree.specs.Numbers.{digits_step, are_digits, is_int, is_pointed, is_decimal_float, is_hex_float, is_imag, number_kind}
use Rattle.go_tree.specs.Values.{number_with, number_of}

abbrev kinds_of : List (List ℕ) → List (Option TokenKind)
kinds_of [] = []
kinds_of (text ∷ texts) = number_kind text ∷ kinds_of texts

integers : kinds_of (codes "42" ∷ codes "4_2" ∷ codes "0600" ∷ codes "0_600" ∷ codes "0o600" ∷ codes "0xBad_Face" ∷ codes "0x_67_7a" ∷ []) ≡ Some Int ∷ Some Int ∷ Some Int ∷ Some Int ∷ Some Int ∷ Some Int ∷ Some Int ∷ []
unfolding digits_step are_digits is_int number_kind
integers = refl

no_integers : kinds_of (codes "42_" ∷ codes "4__2" ∷ codes "0_xBadFace" ∷ codes "08" ∷ codes "0b12" ∷ []) ≡ None ∷ None ∷ None ∷ None ∷ None ∷ []
unfolding digits_step are_digits is_int is_pointed is_decimal_float is_hex_float is_imag number_kind
no_integers = refl

floats : kinds_of (codes "0." ∷ codes "072.40" ∷ codes "1.e+0" ∷ codes "6.67428e-11" ∷ codes "1E6" ∷ codes ".12345E+5" ∷ codes "1_5." ∷ codes "0.15e+0_2" ∷ codes "0x1p-2" ∷ codes "0x2.p10" ∷ codes "0x1.Fp+0" ∷ codes "0X.8p-0" ∷ codes "0X_1FFFP-16" ∷ []) ≡ Some Float ∷ Some Float ∷ Some Float ∷ Some Float ∷ Some Float ∷ Some Float ∷ Some Float ∷ Some Float ∷ Some Float ∷ Some Float ∷ Some Float ∷ Some Float ∷ Some Float ∷ []
unfolding digits_step are_digits is_int is_pointed is_decimal_float is_hex_float number_kind
floats = refl

no_floats : kinds_of (codes "0x.p1" ∷ codes "1p-2" ∷ codes "0x1.5e-2" ∷ codes "1_.5" ∷ codes "1._5" ∷ codes "1.5_e1" ∷ codes "1.5e_1" ∷ codes "1.5e1_" ∷ []) ≡ None ∷ None ∷ None ∷ None ∷ None ∷ None ∷ None ∷ None ∷ []
unfolding digits_step are_digits is_int is_pointed is_decimal_float is_hex_float is_imag number_kind
no_floats = refl

imaginaries : kinds_of (codes "0i" ∷ codes "0123i" ∷ codes "0o123i" ∷ codes "0xabci" ∷ codes "0.i" ∷ codes "1.e+0i" ∷ codes ".25i" ∷ codes "0x1p-2i" ∷ []) ≡ Some Imag ∷ Some Imag ∷ Some Imag ∷ Some Imag ∷ Some Imag ∷ Some Imag ∷ Some Imag ∷ Some Imag ∷ []
unfolding digits_step are_digits is_int is_pointed is_decimal_float is_hex_float is_imag number_kind
imaginaries = refl

numbers : number_of (codes "0_600") ∷ number_of (codes "0xBadFace") ∷ number_of (codes "0b1_01") ∷ number_of (codes "4_2") ∷ [] ≡ 384 ∷ 195951310 ∷ 5 ∷ 42 ∷ []
unfolding number_with number_of
numbers = refl
