-- The names that the language declares (Go 1.17, "Predeclared identifiers").
use Rattle.std.specs.Prelude.{ℕ, List, [], ◌∷◌, codes}

-- in byte order
abbrev pub predeclared : List (List ℕ)
predeclared =
    codes "append" ∷ codes "bool" ∷ codes "byte" ∷ codes "cap" ∷ codes "close" ∷ codes "complex" ∷ codes "complex128" ∷ codes "complex64"
    ∷ codes "copy" ∷ codes "delete" ∷ codes "error" ∷ codes "false" ∷ codes "float32" ∷ codes "float64" ∷ codes "imag" ∷ codes "int"
    ∷ codes "int16" ∷ codes "int32" ∷ codes "int64" ∷ codes "int8" ∷ codes "iota" ∷ codes "len" ∷ codes "make" ∷ codes "new" ∷ codes "nil"
    ∷ codes "panic" ∷ codes "print" ∷ codes "println" ∷ codes "real" ∷ codes "recover" ∷ codes "rune" ∷ codes "string" ∷ codes "true"
    ∷ codes "uint" ∷ codes "uint16" ∷ codes "uint32" ∷ codes "uint64" ∷ codes "uint8" ∷ codes "uintptr"
    ∷ []
