-- What was met in a run of operands, in code.
use Rattle.std.specs.Prelude.{◌≡◌, ℕ, Bool, true, false, if◌then◌else◌, List, [], ◌∷◌, ◌++◌, drop, Option, Some, None, option_map}
use Rattle.std.specs.Option.{option_map_or}
use Rattle.std.specs.Global.{Vec}
use Rattle.std.specs.HashMap.{HashMap, get_by}
use Rattle.std.specs.Str.{bytes_eq}
use Rattle.typed_marks.specs.declared.item.Item.{Item}
use Rattle.typed_marks.specs.Meanings.{Meaning}
use Rattle.unit_read.specs.Units.{Unit}
use Rattle.analysis_core.specs.declared.diagnostic.Diagnostic.{Diagnostic}
use Rattle.vet_words.specs.Texts.{key_at}
use Rattle.vet_simple.specs.declared.chains.Chain.{Chain}
use Rattle.vet_simple.specs.Bools.{tested, in_runs}

-- what is kept under a key
abbrev pub kept : {S : Type 0} → HashMap (Vec ℕ) ℕ S → List ℕ → Option ℕ
kept met key = get_by (λ k. bytes_eq key k.items) met

abbrev pub has_key : (ℕ → Option (List ℕ)) → List ℕ → ℕ → Bool
has_key key k y = option_map_or (λ q. bytes_eq q k) (key y) false

-- the first of a run that has a key
abbrev pub first_keyed : (ℕ → Option (List ℕ)) → List ℕ → List ℕ → Option ℕ
first_keyed key [] k = None
first_keyed key (y ∷ run) k = if has_key key k y then Some y else first_keyed key run k

-- under each key the first of a run that has it
abbrev pub IsTable : {S : Type 0} → (ℕ → Option (List ℕ)) → List ℕ → HashMap (Vec ℕ) ℕ S → Type 0
IsTable key run met = (k : List ℕ) → kept met k ≡ first_keyed key run k

-- what is kept, once another has the key or not
abbrev pub noted : Option ℕ → Bool → ℕ → Option ℕ
noted (Some y) same x = Some y
noted None true x = Some x
noted None false x = None

-- how an operand is spelled
abbrev pub operand_key : Unit → ℕ → ℕ → Option (List ℕ)
operand_key u f x = Some (key_at u f x)

-- how that is spelled which it compares with a constant
abbrev pub compared_key : Unit → (Item → Meaning) → ℕ → Chain → ℕ → Option (List ℕ)
compared_key u marks f c x = option_map (key_at u f) (tested u marks f c x)

-- the operands in front of a place have been looked at
pub record AreSeen {S T : Type 0} (u : Unit) (marks : Item → Meaning) (f : ℕ) (c : Chain) (xs : List ℕ) (start found : List Diagnostic) (i : ℕ) (operands : HashMap (Vec ℕ) ℕ S) (compared : HashMap (Vec ℕ) ℕ T) : Type 0 where
  pub run : List ℕ
  pub met_operands : IsTable (operand_key u f) run operands
  pub met_compared : IsTable (compared_key u marks f c) run compared
  pub so_far : found ++ in_runs u marks f c run (drop i xs) ≡ start ++ in_runs u marks f c [] xs
