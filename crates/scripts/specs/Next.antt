-- What the decoder answers.
use Rattle.std.specs.Prelude.{◌≡◌, ℕ, ◌<◌, List, ◌∷◌, ◌++◌, length, drop}
use Rattle.std.specs.Fmt.{decimal}
use Rattle.scripts.specs.declared.word.Shape.{Shape}
use Rattle.scripts.specs.declared.word.Word.{Word}
use Rattle.scripts.specs.declared.fieldset.Fields.{Fields as DecodedFields}
use Rattle.scripts.specs.declared.fieldset.Fields.TheVariants.{Plain, At, With}
use Rattle.scripts.specs.declared.fieldset.FieldsRead.{FieldsRead}
use Rattle.scripts.specs.declared.fieldset.FieldsRead.TheVariants.{Read, Part, Other}
use Rattle.scripts.specs.declared.script.Command.{Command as Decoded}
use Rattle.scripts.specs.declared.script.Next.{Next}
use Rattle.scripts.specs.declared.script.Next.TheVariants.{Whole, NeedMore, Refused}
use Rattle.scripts.specs.declared.script.Found.{Found}
use Rattle.scripts.specs.declared.script.Found.TheVariants.{Known, Started, Unknown}
use Rattle.scripts.specs.Words.{text_of}
use Rattle.scripts.specs.Script.{Fields, bare, at_path, with_file, Fit, field_text, Command, spelling, Begins, IsBeginning, NoCommand}

abbrev pub fields_of : DecodedFields → Fields
fields_of Plain = bare
fields_of (At path) = at_path path.now
fields_of (With path bytes) = with_file path.now bytes.now

abbrev pub command_of : Decoded → Command
command_of command = record { word = command.word; fields = fields_of command.fields }

-- a path, a length, and the rest
abbrev pub file_text : List ℕ → ℕ → List ℕ → List ℕ
file_text path count rest = path ++ 32 ∷ (decimal count ++ 10 ∷ rest)

-- the bytes begin with fields of this shape, or are less than such, or begin otherwise
abbrev pub IsFieldsRead : Shape → List ℕ → FieldsRead → Type 0
IsFieldsRead shape bytes (Read fields n) = Fit shape (fields_of fields) × (bytes ≡ field_text (fields_of fields) ++ drop n bytes) × (n ≡ length (field_text (fields_of fields)))
IsFieldsRead shape bytes Part = (fields : Fields) × (more : List ℕ) × Fit shape fields × (0 < length more) × (bytes ++ more ≡ field_text fields)
IsFieldsRead shape bytes Other = (fields : Fields) (more after : List ℕ) → Fit shape fields → bytes ++ more ≡ field_text fields ++ after → ⊥

-- the bytes begin with a word, or are less than one, or begin with none
abbrev pub IsFound : List ℕ → Found → Type 0
IsFound bytes (Known word n) = (n ≡ length (text_of word)) × (bytes ≡ text_of word ++ drop n bytes)
IsFound bytes Started = (word : Word) × (more : List ℕ) × (0 < length more) × (bytes ++ more ≡ text_of word)
IsFound bytes Unknown = (word : Word) (more after : List ℕ) → bytes ++ more ≡ text_of word ++ after → ⊥

-- the bytes begin with a command, or are less than one, or begin with none
abbrev pub IsNext : List ℕ → Next → Type 0
IsNext bytes (Whole command len) = Begins (command_of command) bytes (drop len bytes) × (len ≡ length (spelling (command_of command)))
IsNext bytes NeedMore = IsBeginning bytes
IsNext bytes Refused = NoCommand bytes
