-- The module path: the second word of the first line of `go.mod` whose first word is `module`.
use Rattle.std.specs.Prelude.{ℕ, List, [], ◌∷◌, ◌-◌, length, take, drop, codes, Bool, false, cond, ◌&&◌, ◌||◌, ◌==◌, bytes_eq, nat_eq, nat_le, get_or, Option, Some, None}
use Rattle.std.specs.List.{starts_with}
use Rattle.std.specs.Str.{is_utf8}
use Rattle.go_tree.specs.Constraints.{behind_blanks}
use Rattle.go_tree.specs.ImportPaths.{are_segments}
use Rattle.gv_base.specs.Files.{Entry, file_at}
use Rattle.import_graph.specs.Sources.{onto_first}
use Rattle.import_graph.specs.declared.go_mod.Stop.{Stop}
use Rattle.import_graph.specs.declared.go_mod.Stop.TheVariants.{Line, Word, Comment}

-- what stands between newlines
abbrev pub lines_of : List ℕ → List (List ℕ)
lines_of [] = [] ∷ []
lines_of (b ∷ bs) = cond (b == 10) ([] ∷ lines_of bs) (onto_first b (lines_of bs))

-- the byte stands first
abbrev pub leads : ℕ → List ℕ → Bool
leads byte [] = false
leads byte (b ∷ bs) = b == byte

-- a line ends at a newline, a word at a space or a tab, and what isn't comment at `//`
abbrev pub stops : Stop → List ℕ → Bool
stops Line rest = leads 10 rest
stops Word rest = leads 32 rest || leads 9 rest
stops Comment rest = starts_with nat_eq rest (codes "//")

-- the bytes up to where this ends
abbrev pub until : Stop → List ℕ → List ℕ
until stop [] = []
until stop (b ∷ bs) = cond (stops stop (b ∷ bs)) [] (b ∷ until stop bs)

abbrev pub first_word : List ℕ → List ℕ
first_word text = until Word (behind_blanks text)

abbrev pub second_word : List ℕ → List ℕ
second_word text = first_word (drop (length (first_word text)) (behind_blanks text))

-- without the double quotes round it
abbrev pub unquoted : List ℕ → List ℕ
unquoted word = cond (nat_le 2 (length word) && (get_or word 0 0 == 34 && get_or word (length word - 1) 0 == 34)) (take (length word - 2) (drop 1 word)) word

-- 1 to 1,024 bytes of segments joined by slashes
abbrev pub is_path : List ℕ → Bool
is_path word = are_segments word && nat_le (length word) 1024

abbrev pub is_module_line : List ℕ → Bool
is_module_line line = bytes_eq (first_word (until Comment line)) (codes "module")

abbrev pub module_line : List (List ℕ) → Option (List ℕ)
module_line [] = None
module_line (line ∷ lines) = cond (is_module_line line) (Some line) (module_line lines)

-- the path that the line names, if it is UTF-8 and its second word is a path
abbrev pub path_in : List ℕ → List ℕ
path_in line = cond (is_utf8 line && is_path (unquoted (second_word (until Comment line)))) (unquoted (second_word (until Comment line))) (codes "m")

-- without such a line the path is `m`
abbrev pub path_named : Option (List ℕ) → List ℕ
path_named None = codes "m"
path_named (Some line) = path_in line

abbrev pub module_in : Option (List ℕ) → List ℕ
module_in None = codes "m"
module_in (Some bytes) = path_named (module_line (lines_of bytes))

-- the module path of a tree
abbrev pub module_path : List Entry → List ℕ
module_path tree = module_in (file_at tree (codes "go.mod"))
