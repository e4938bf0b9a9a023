-- The script of a chain of packages: each but the first imports the one before, and mentions its constant.
use Rattle.std.specs.Prelude.{ℕ, zero, suc, ◌-◌, ◌==◌, List, [], ◌∷◌, ◌++◌, length, codes, if◌then◌else◌}
use Rattle.std.specs.Fmt.{decimal}

-- a line
abbrev pub line : List ℕ → List ℕ
line text = text ++ 10 ∷ []

-- the import of the package before, and an empty line
abbrev pub import_text : ℕ → List ℕ
import_text i = if i == 0 then [] else (codes "import q \"m/p" ++ (decimal (i - 1) ++ (codes "\"" ++ (10 ∷ 10 ∷ []))))

-- the constant
abbrev pub constant_text : ℕ → List ℕ
constant_text i = if i == 0 then line (codes "const C = 0") else (codes "const C = q.C + " ++ (decimal i ++ 10 ∷ []))

-- an empty line, and a function in which something is found
abbrev pub function_text : List ℕ
function_text = 10 ∷ (line (codes "func F(x int) int {") ++ (9 ∷ (line (codes "x = x") ++ (9 ∷ (line (codes "return x + C") ++ line (codes "}"))))))

-- the file of the package of this number
abbrev pub file_text : ℕ → List ℕ
file_text i = codes "package p" ++ (10 ∷ 10 ∷ (import_text i ++ (constant_text i ++ function_text)))

-- the command that sets this file of the package of this number
abbrev pub putting : ℕ → List ℕ → List ℕ
putting i file = codes "put p" ++ (decimal i ++ (codes "/p.go " ++ (decimal (length file) ++ (10 ∷ (file ++ 10 ∷ [])))))

-- the command that sets its file
abbrev pub put_text : ℕ → List ℕ
put_text i = putting i (file_text i)

-- those of the first so many packages
abbrev pub puts_below : ℕ → List ℕ
puts_below zero = []
puts_below (suc k) = puts_below k ++ put_text k

abbrev pub ending : List ℕ
ending = line (codes "report") ++ (line (codes "stats") ++ (line (codes "report") ++ (line (codes "stats") ++ line (codes "end"))))

-- The script of a chain of so many packages.
abbrev pub chain_text : ℕ → List ℕ
chain_text count = puts_below count ++ ending
