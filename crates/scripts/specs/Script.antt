-- The commands of a script, and how each is spelled.
use Rattle.std.specs.Prelude.{◌≡◌, ℕ, ◌^◌, ◌<◌, List, [], ◌∷◌, ◌++◌, length}
use Rattle.std.specs.Fmt.{decimal}
use Rattle.gv_base.specs.Paths.{IsPath}
use Rattle.scripts.specs.declared.word.Word.{Word}
use Rattle.scripts.specs.declared.word.Word.TheVariants.{End}
use Rattle.scripts.specs.declared.word.Shape.{Shape}
use Rattle.scripts.specs.declared.word.Shape.TheVariants.{Bare, Path, File}
use Rattle.scripts.specs.Words.{text_of, shape_of}

-- the fields of a command
pub data Fields : Type 0 where
  bare : Fields
  at_path : (path : List ℕ) → Fields
  with_file : (path bytes : List ℕ) → Fields

-- Fields are of this shape, and hold what they may: a path, and a length of at most nine digits.
abbrev pub Fit : Shape → Fields → Type 0
Fit Bare bare = Unit {0}
Fit Bare (at_path path) = ⊥
Fit Bare (with_file path bytes) = ⊥
Fit Path bare = ⊥
Fit Path (at_path path) = IsPath path
Fit Path (with_file path bytes) = ⊥
Fit File bare = ⊥
Fit File (at_path path) = ⊥
Fit File (with_file path bytes) = IsPath path × (length bytes < 10 ^ 9)

-- what follows a word and the byte behind it
abbrev pub field_text : Fields → List ℕ
field_text bare = []
field_text (at_path path) = path ++ 10 ∷ []
field_text (with_file path bytes) = path ++ 32 ∷ (decimal (length bytes) ++ 10 ∷ (bytes ++ 10 ∷ []))

pub record Command : Type 0 where
  pub word : Word
  pub fields : Fields

-- the command that ends a script
abbrev pub ending : Command
ending = record { word = End; fields = bare }

-- the bytes of a command
abbrev pub spelling : Command → List ℕ
spelling command = text_of command.word ++ field_text command.fields

-- a command of the grammar
abbrev pub IsLawful : Command → Type 0
IsLawful command = Fit (shape_of command.word) command.fields

-- the bytes begin with this command
pub record Begins (command : Command) (bytes more : List ℕ) : Type 0 where
  pub lawful : IsLawful command
  pub spelled : bytes ≡ spelling command ++ more

-- the bytes are the beginning of a command, and less than all of it
pub record IsBeginning (bytes : List ℕ) : Type 0 where
  pub command : Command
  pub lawful : IsLawful command
  pub more : List ℕ
  pub missing : 0 < length more
  pub spelled : bytes ++ more ≡ spelling command

-- however the bytes go on, they begin with no command
abbrev pub NoCommand : List ℕ → Type 0
NoCommand bytes = (command : Command) → IsLawful command → (more after : List ℕ) → bytes ++ more ≡ spelling command ++ after → ⊥
