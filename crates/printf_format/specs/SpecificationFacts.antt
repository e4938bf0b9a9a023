-- Worked examples of the definitions.
use Rattle.std.specs.Prelude.{◌≡◌, Some, None, true, false, codes, refl}
use Rattle.printf_format.specs.Flags.{flags_of}
use Rattle.printf_format.specs.Grammar.{index_at, size_at, precision_at}

index_one : index_at (codes "%[1]d") 1 ≡ Some (record { number = Some 1; end = 4 })
index_one = refl

index_most : index_at (codes "%[99999]d") 1 ≡ Some (record { number = Some 99999; end = 8 })
index_most = refl

index_none : index_at (codes "%d") 1 ≡ Some (record { number = None; end = 1 })
index_none = refl

index_zero : index_at (codes "%[0]d") 1 ≡ None
index_zero = refl

index_leading_zero : index_at (codes "%[01]d") 1 ≡ None
index_leading_zero = refl

index_too_large : index_at (codes "%[100000]d") 1 ≡ None
index_too_large = refl

index_open : index_at (codes "%[1") 1 ≡ None
index_open = refl

star : size_at (codes "%[2]*d") 1 ≡ Some (record { index = Some 2; star = true; end = 5 })
star = refl

digits : size_at (codes "%10d") 1 ≡ Some (record { index = None; star = false; end = 3 })
digits = refl

point_alone : precision_at (codes "%.f") 1 ≡ Some (record { index = None; star = false; end = 2 })
point_alone = refl

no_point : precision_at (codes "%f") 1 ≡ Some (record { index = None; star = false; end = 1 })
no_point = refl

flags : flags_of (codes "+-") ≡ 3
flags = refl

all_flags : flags_of (codes " 0#-+") ≡ 31
all_flags = refl
