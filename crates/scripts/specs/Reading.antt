-- How a script is read, by its grammar alone: the commands at its front, the rest, and why reading stops there.
use Rattle.std.specs.Prelude.{◌≡◌, ◌≢◌, ℕ, ◌+◌, ◌-◌, ◌^◌, ◌<◌, ◌≤◌, List, [], ◌∷◌, ◌++◌, length, take, drop, Option, None, Some}
use Rattle.std.specs.List.{AllByRecursion, flat_map}
use Rattle.std.specs.Io.KnownBytes.{IsAtEnd}
use Rattle.scripts.specs.declared.word.Word.TheVariants.{End}
use Rattle.scripts.specs.declared.halt.Halt.{Halt}
use Rattle.scripts.specs.declared.halt.Halt.TheVariants.{Ended, Refused, TooLong}
use Rattle.scripts.specs.Script.{Command, ending, spelling, IsLawful, IsBeginning, NoCommand}

-- the most bytes of a script
abbrev pub limit : ℕ
limit = 2 ^ 28

-- xs begins ys
abbrev pub IsPrefix : List ℕ → List ℕ → Type 0
IsPrefix xs ys = (more : List ℕ) × (xs ++ more ≡ ys)

-- a command of the grammar that is answered
pub record IsStep (command : Command) : Type 0 where
  pub lawful : IsLawful command
  pub goes : command.word ≢ End

abbrev pub spell : List Command → List ℕ
spell commands = flat_map spelling commands

-- the bytes are these commands, and then the rest
pub record Read (bytes : List ℕ) (commands : List Command) (rest : List ℕ) : Type 0 where
  pub parts : bytes ≡ spell commands ++ rest
  pub steps : AllByRecursion IsStep commands
  pub within : length (spell commands) ≤ limit

-- the rest from the offset on begins with a command that is answered
pub record Begun (offset : ℕ) (rest : List ℕ) : Type 0 where
  pub command : Command
  pub more : List ℕ
  pub step : IsStep command
  pub spelled : rest ≡ spelling command ++ more
  pub within : offset + length (spelling command) ≤ limit

-- The rest from the offset on is refused: within the limit it begins no command, however it goes on; or it is the beginning of one, and nothing more comes.
pub data IsRefused (offset : ℕ) (rest : List ℕ) (left : Option (List ℕ)) : Type 0 where
  no_command : NoCommand (take (limit - offset) rest) → IsRefused offset rest left
  cut_short : IsBeginning rest → 0 < length rest → offset + length rest ≤ limit → IsAtEnd left → IsRefused offset rest left

-- the rest from the offset on ends a session
pub data IsEnding (offset : ℕ) (rest : List ℕ) (left : Option (List ℕ)) : Type 0 where
  at_end : rest ≡ [] → IsAtEnd left → IsEnding offset rest left
  by_command : (more : List ℕ) → rest ≡ spelling ending ++ more → offset + length (spelling ending) ≤ limit → IsEnding offset rest left

-- the rest up to the limit is the beginning of a command, and more came
pub record IsPastLimit (offset : ℕ) (rest : List ℕ) : Type 0 where
  pub first : List ℕ
  pub more : List ℕ
  pub parts : rest ≡ first ++ more
  pub beginning : IsBeginning first
  pub full : offset + length first ≡ limit
  pub surplus : 0 < length more

-- Why reading stops at the rest from the offset on. A further reason is a line here, one in `line_of` and one in the status's number.
abbrev pub IsHalt : Halt → ℕ → List ℕ → Option (List ℕ) → Type 0
IsHalt Ended offset rest left = IsEnding offset rest left
IsHalt Refused offset rest left = IsRefused offset rest left
IsHalt TooLong offset rest left = IsPastLimit offset rest

-- ---- a reading that goes on

-- the bytes up to there are commands that are answered
pub record IsReadTo (script : List ℕ) (at : ℕ) : Type 0 where
  pub commands : List Command
  pub read : Read script commands (drop at script)
  pub at_is : at ≡ length (spell commands)
  pub inside : at ≤ length script

-- The script is read to its end.
pub record HasReading (script : List ℕ) : Type 0 where
  pub commands : List Command
  pub rest : List ℕ
  pub read : Read script commands rest
  pub halt : Halt
  pub halts : IsHalt halt (length (spell commands)) rest (Some [])

-- one more command is read, or reading halts
abbrev pub ReadsOn : List ℕ → ℕ → Option ℕ → Type 0
ReadsOn script at (Some next) = IsReadTo script next × (at < next)
ReadsOn script at None = HasReading script

-- Two readings are one.
pub record SameReading (cs ds : List Command) (x y : List ℕ) (h k : Halt) : Type 0 where
  pub commands : cs ≡ ds
  pub rest : x ≡ y
  pub halt : h ≡ k
