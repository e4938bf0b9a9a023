-- Parameters, results and operands as calls look at them (Go 1.17, "Function types", "Operators").
use Rattle.std.specs.Prelude.{ℕ, zero, suc, Option, Some, None}
use Rattle.type_model.specs.GoTypes.{GoType, GoTypes, NoType, AndType}

-- ---- parameters and results

abbrev pub how_many : GoTypes → ℕ
how_many NoType = 0
how_many (AndType of types) = suc (how_many types)

abbrev pub nth_type : GoTypes → ℕ → Option GoType
nth_type NoType i = None
nth_type (AndType of types) zero = Some of
nth_type (AndType of types) (suc i) = nth_type types i

-- ---- operands
