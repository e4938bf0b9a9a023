-- What is due for a script, and what went out of it.
use Rattle.std.specs.Prelude.{◌≡◌, ℕ, ◌+◌, ◌^◌, ◌<◌, ◌≤◌, List, [], ◌∷◌, ◌++◌, length, true, Option, None, Some}
use Rattle.tree_runs.specs.Reports.{Entries, IsHonest, CacheSpelled, Work}
use Rattle.top_calls.specs.declared.options.ToolOptions.{ToolOptions}
use Rattle.scripts.specs.declared.halt.Halt.{Halt}
use Rattle.top_calls.specs.declared.stop.Stop.{Stop}
use Rattle.top_calls.specs.declared.stop.Stop.TheVariants.{Halted}
use Rattle.scripts.specs.Reading.{IsHalt, IsPrefix}
use Rattle.top_calls.specs.Outcome.{Seen, seen_at, Arrives, offset_of, said}
use Rattle.top_calls.specs.Ends.{is_exact, line_of}

-- What is kept is nothing, or bytes that spell no cache, or the text of an honest cache. Of bytes that no memory holds nothing is asked.
abbrev pub IsLawfulKept : Option (List ℕ) → Type 0
IsLawfulKept None = Unit {0}
IsLawfulKept (Some bytes) = length bytes < 2 ^ 64 → (cache : Entries) → CacheSpelled cache bytes → IsHonest cache

-- How much was executed: no more than what is seen counts, and exactly that where no command was cut short.
pub record IsWorkOf (stop : Stop) (loads runs : ℕ) (seen : Seen) (now : Work) : Type 0 where
  pub loads_most : now.loads ≤ loads + seen.loads
  pub runs_most : now.runs ≤ runs + seen.runs
  pub loads_all : is_exact stop ≡ true → now.loads ≡ loads + seen.loads
  pub runs_all : is_exact stop ≡ true → now.runs ≡ runs + seen.runs

-- What is due for a script over what the keeper holds, and why it ends.
pub record Due (options : ToolOptions) (kept : Option (List ℕ)) (script : List ℕ) (seen : Seen) (halt : Halt) : Type 0 where
  pub arrives : Arrives options [] kept script
  pub halts : IsHalt halt (offset_of arrives) arrives.rest (Some [])
  pub sees : seen ≡ seen_at arrives.now (said arrives ++ line_of halt (offset_of arrives))

-- What was seen is the beginning of what is due.
pub record IsWithin (seen due : Seen) : Type 0 where
  pub out : IsPrefix seen.out due.out
  pub loads : seen.loads ≤ due.loads
  pub runs : seen.runs ≤ due.runs

-- A session that was given a script and ended so: by a halt all that is due was seen, and else the beginning of it. That it halts so and nowhere else stands over any keeper, the rest over a lawful one.
pub record GoesOut (options : ToolOptions) (kept : Option (List ℕ)) (script : List ℕ) (seen : Seen) (stop : Stop) : Type 0 where
  pub due : (halt : Halt) → stop ≡ Halted halt seen.found → Due options kept script seen halt
  pub halts : (whole : Seen) (halt other : Halt) → Due options kept script whole halt → stop ≡ Halted other seen.found → halt ≡ other
  pub single : IsLawfulKept kept → (whole : Seen) (halt other : Halt) → Due options kept script whole halt → stop ≡ Halted other seen.found → seen ≡ whole
  pub within : IsLawfulKept kept → (whole : Seen) (halt : Halt) → Due options kept script whole halt → IsWithin seen whole
