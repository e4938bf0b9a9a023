-- The rule over a board's one word and the views of its passes. A view is live where it has a part; the view of a pass that was dropped stays live.
use Rattle.std.specs.Prelude.{◌≡◌, ◌≢◌, ℕ, ◌%◌, ◌^◌, ◌<◌, List, [], ◌∷◌, ◌++◌, length}
use mathlib.Core.Option.{some}
use lib.ListN.{get_elem?}
use Rattle.atomic_table.specs.Table.{State, Me}
use Rattle.wave_run.specs.Numbers.{total, below, AreBelow, times}
use Rattle.wave_run.specs.declared.view.View.{View}
use Rattle.wave_run.specs.Views.{hand}

-- the number of all draws
abbrev pub draws : List View → ℕ
draws views = total (λ v. length v.drawn) views

pub record IsDealt (parts : ℕ) (s : State (Unit {0}) View) : Type 0 where
  -- the word is the number of all draws, modulo 2^64
  pub word : s.words ≡ draws s.views % 2 ^ 64 ∷ []
  -- the parts of all views add up to the board's
  pub whole : total (λ v. v.parts) s.views ≡ parts
  -- a view that is not live has drawn nothing
  pub idle : (id : ℕ) (v : View) → get_elem? s.views id ≡ some v → v.parts ≡ 0 → v.drawn ≡ []
  -- while fewer than 2^64 draws were made, each number below the word was drawn once, and no other
  pub once : draws s.views < 2 ^ 64 → (f : ℕ → ℕ) → total (λ v. total f v.drawn) s.views ≡ below f (draws s.views)

-- one of the views has the number, once, and is live; no other has it
pub record IsInOneView (number : ℕ) (views : List View) : Type 0 where
  pub place : ℕ
  pub view : View
  pub at : get_elem? views place ≡ some view
  pub live : 0 < view.parts
  pub once : times number view.drawn ≡ 1
  pub alone : (k : ℕ) (v : View) → get_elem? views k ≡ some v → k ≢ place → times number v.drawn ≡ 0

abbrev pub Sat : Type 0
Sat = Me (Unit {0}) View

-- A draw: the number found goes to the end of the pass's list.
abbrev pub drew : Sat → ℕ → Sat → Type 0
drew m found n = n ≡ (hand m.0.parts (m.0.drawn ++ found ∷ []), m.1)

-- The word as the pass with all parts finds it: the number of its draws, modulo 2^64. If these are fewer than 2^64, they are the numbers below the word, each once.
pub record Closes (drawn : List ℕ) (word : ℕ) : Type 0 where
  pub counts : word ≡ length drawn % 2 ^ 64
  pub once : length drawn < 2 ^ 64 → AreBelow word drawn

-- A closing load: nothing changes.
abbrev pub looked : Sat → ℕ → Sat → Type 0
looked m found n = (n ≡ m) × Closes m.0.drawn found
