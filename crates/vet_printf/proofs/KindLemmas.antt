-- What a number of kinds says.
use Rattle.std.proofs.Common.{◌≡◌, ℕ, Bool, true, false, refl}
use Rattle.vet_printf.specs.Verbs.{has_flag}
use Rattle.vet_printf.specs.Kinds.{kinds_number}

pub says_print : (a b c : Bool) → has_flag (kinds_number a b c) 1 ≡ a
says_print true true true = refl
says_print true true false = refl
says_print true false true = refl
says_print true false false = refl
says_print false true true = refl
says_print false true false = refl
says_print false false true = refl
says_print false false false = refl

pub says_printf : (a b c : Bool) → has_flag (kinds_number a b c) 2 ≡ b
says_printf true true true = refl
says_printf true true false = refl
says_printf true false true = refl
says_printf true false false = refl
says_printf false true true = refl
says_printf false true false = refl
says_printf false false true = refl
says_printf false false false = refl

pub says_errorf : (a b c : Bool) → has_flag (kinds_number a b c) 4 ≡ c
says_errorf true true true = refl
says_errorf true true false = refl
says_errorf true false true = refl
says_errorf true false false = refl
says_errorf false true true = refl
says_errorf false true false = refl
says_errorf false false true = refl
says_errorf false false false = refl
