-- How a call ends: the statuses, their lines, and which cause may cut a call short at which moment.
use Rattle.std.specs.Prelude.{ℕ, List, [], ◌∷◌, ◌++◌, codes, slice_index_or, Bool, true, false}
use Rattle.std.specs.Fmt.{decimal}
use Rattle.scripts.specs.declared.halt.Halt.{Halt}
use Rattle.scripts.specs.declared.halt.Halt.TheVariants.{Ended, Refused, TooLong}
use Rattle.top_calls.specs.declared.stop.Cut.{Cut}
use Rattle.top_calls.specs.declared.stop.Cut.TheVariants.{Source, Tree, Keeper, Sink, Memory, Stalled, Circle}
use Rattle.top_calls.specs.declared.stop.Stop.{Stop}
use Rattle.top_calls.specs.declared.stop.Stop.TheVariants.{Halted, Broken}

-- the number of a script that was read to its end, and of a cause
abbrev pub number_of_halt : Halt → Bool → ℕ
number_of_halt Ended false = 0
number_of_halt Ended true = 1
number_of_halt Refused found = 8
number_of_halt TooLong found = 9

abbrev pub number_of_cut : Cut → ℕ
number_of_cut Source = 3
number_of_cut Tree = 4
number_of_cut Keeper = 5
number_of_cut Sink = 6
number_of_cut Memory = 7
number_of_cut Stalled = 10
number_of_cut Circle = 12

abbrev pub number_of : Stop → ℕ
number_of (Halted halt found) = number_of_halt halt found
number_of (Broken cut) = number_of_cut cut

-- a status with which no command was cut short: what was executed is exactly what the commands count
abbrev pub is_exact : Stop → Bool
is_exact (Halted halt found) = true
is_exact (Broken Source) = true
is_exact (Broken Tree) = false
is_exact (Broken Keeper) = false
is_exact (Broken Sink) = false
is_exact (Broken Memory) = false
is_exact (Broken Stalled) = false
is_exact (Broken Circle) = false

-- the line for a command that isn't in the grammar
abbrev pub refusal : ℕ → List ℕ
refusal offset = codes "script refused at " ++ decimal offset ++ 10 ∷ []

-- the line that goes out at the end
abbrev pub line_of : Halt → ℕ → List ℕ
line_of Ended offset = []
line_of Refused offset = refusal offset
line_of TooLong offset = []

-- the line for bytes that spell no cache
abbrev pub ignored_line : List ℕ
ignored_line = codes "cache ignored" ++ 10 ∷ []

-- the moments of a call
pub data Moment : Type 0 where
  Fetching : Moment
  Greeting : Moment
  Reading : Moment
  Idle : Moment
  Running : Moment
  Writing : Moment
  Telling : Moment
  Storing : Moment
  Lining : Moment

-- Which cause may cut a call short at which moment: a line a cause.
abbrev pub may : Cut → Moment → Bool
may Source Idle = true
may Tree Reading = true
may Tree Writing = true
may Keeper Fetching = true
may Keeper Storing = true
may Sink Greeting = true
may Sink Telling = true
may Sink Lining = true
may Stalled Greeting = true
may Stalled Telling = true
may Stalled Lining = true
may Circle Running = true
may Memory moment = true
may _ _ = false

-- the name of each status at the place of its number; the two of a call that did all have none
abbrev pub names : List (List ℕ)
names =
    [] ∷ [] ∷ codes "usage" ∷ codes "source fault" ∷ codes "tree fault" ∷ codes "keeper fault" ∷ codes "sink fault" ∷ codes "no memory"
    ∷ codes "script refused" ∷ codes "input too long" ∷ codes "sink stuck" ∷ [] ∷ codes "rules in a circle" ∷ []

-- the name of the status of this number, empty where no status has it
abbrev pub name_of : ℕ → List ℕ
name_of number = slice_index_or names number []
