-- The words of a script: how each is spelled, and what follows it.
use Rattle.std.specs.Prelude.{ℕ, List, [], ◌∷◌, ◌++◌, codes, Bool, false, ◌==◌, ◌||◌, not}
use Rattle.std.specs.List.{list_all}
use Rattle.scripts.specs.declared.word.Word.{Word}
use Rattle.scripts.specs.declared.word.Word.TheVariants.{Put, Del, Show, Check, Report, Facts, Fix, Stats, End}
use Rattle.scripts.specs.declared.word.Shape.{Shape}
use Rattle.scripts.specs.declared.word.Shape.TheVariants.{Bare, Path, File}

-- the bytes of a word, and the byte behind it
abbrev pub text_of : Word → List ℕ
text_of Put = codes "put "
text_of Del = codes "del "
text_of Show = codes "show "
text_of Check = codes "check" ++ 10 ∷ []
text_of Report = codes "report" ++ 10 ∷ []
text_of Facts = codes "facts" ++ 10 ∷ []
text_of Fix = codes "fix" ++ 10 ∷ []
text_of Stats = codes "stats" ++ 10 ∷ []
text_of End = codes "end" ++ 10 ∷ []

-- what follows a word
abbrev pub shape_of : Word → Shape
shape_of Put = File
shape_of Del = Path
shape_of Show = Path
shape_of Check = Bare
shape_of Report = Bare
shape_of Facts = Bare
shape_of Fix = Bare
shape_of Stats = Bare
shape_of End = Bare

abbrev pub number_of : Word → ℕ
number_of Put = 0
number_of Del = 1
number_of Show = 2
number_of Check = 3
number_of Report = 4
number_of Facts = 5
number_of Fix = 6
number_of Stats = 7
number_of End = 8

-- the words in the order of their numbers
abbrev pub words : List Word
words = Put ∷ Del ∷ Show ∷ Check ∷ Report ∷ Facts ∷ Fix ∷ Stats ∷ End ∷ []

-- two texts differ before one of them ends
abbrev pub differ : List ℕ → List ℕ → Bool
differ [] ys = false
differ (x ∷ xs) [] = false
differ (x ∷ xs) (y ∷ ys) = not (x == y) || differ xs ys

-- no word's text begins another's
abbrev pub are_apart : List Word → Bool
are_apart ws = list_all (λ w. list_all (λ v. number_of w == number_of v || differ (text_of w) (text_of v)) ws) ws
