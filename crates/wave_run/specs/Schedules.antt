-- Schedules of workers: who draws the next number, and who ends the job in hand.
use Rattle.std.specs.Prelude.{◌≡◌, ℕ, ◌+◌, ◌≤◌, Option, Some, None, List, [], ◌∷◌, ◌++◌, map, nat_lt, if◌then◌else◌, slice_set}
use mathlib.Core.Option.{some}
use lib.ListN.{get_elem?}
use Rattle.wave_run.specs.declared.view.View.{View}
use Rattle.wave_run.specs.Numbers.{total, Among}
use Rattle.wave_run.specs.Views.{hand}

-- the numbers that a worker has drawn, the job that it has in hand, and the jobs whose answers it has noted
pub record Hired : Type 0 where
  pub drawn : List ℕ
  pub in_hand : Option ℕ
  pub noted : List ℕ

pub record Core : Type 0 where
  pub next : ℕ
  pub workers : List Hired

pub data Event : Type 0 where
  draw : ℕ → Event
  finish : ℕ → Event

abbrev pub taken_up : ℕ → ℕ → Option ℕ
taken_up jobs n = if nat_lt n jobs then Some n else None

abbrev pub drawing : ℕ → ℕ → Hired → Hired
drawing jobs n h = record { drawn = h.drawn ++ n ∷ []; in_hand = taken_up jobs n; noted = h.noted }

abbrev pub noting : ℕ → Hired → Hired
noting n h = record { drawn = h.drawn; in_hand = None; noted = h.noted ++ n ∷ [] }

-- One event. A worker draws with no job in hand: it gets the next number. It ends the job that it has in hand.
pub data Happens (jobs : ℕ) (c d : Core) : Event → Type 0 where
  draws : (w : ℕ) (h : Hired) → get_elem? c.workers w ≡ some h → h.in_hand ≡ None → d.next ≡ c.next + 1 → d.workers ≡ slice_set c.workers w (drawing jobs c.next h) → Happens jobs c d (draw w)
  ends : (w n : ℕ) (h : Hired) → get_elem? c.workers w ≡ some h → h.in_hand ≡ Some n → d.next ≡ c.next → d.workers ≡ slice_set c.workers w (noting n h) → Happens jobs c d (finish w)

pub data Runs (jobs : ℕ) : Core → List Event → Core → Type 0 where
  stays : (c : Core) → Runs jobs c [] c
  goes : (c d e : Core) (first : Event) (more : List Event) → Happens jobs c d first → Runs jobs d more e → Runs jobs c (first ∷ more) e

-- no number was drawn, and no job is in hand or noted
pub record IsStart (c : Core) : Type 0 where
  pub next : c.next ≡ 0
  pub idle : (w : ℕ) (h : Hired) → get_elem? c.workers w ≡ some h → (h.drawn ≡ []) × (h.in_hand ≡ None) × (h.noted ≡ [])

-- each worker has drawn a number that is no job's, and has no job in hand
pub record IsComplete (jobs : ℕ) (c : Core) : Type 0 where
  pub past : (w : ℕ) (h : Hired) → get_elem? c.workers w ≡ some h → (n : ℕ) × Among n h.drawn × (jobs ≤ n)
  pub free : (w : ℕ) (h : Hired) → get_elem? c.workers w ≡ some h → h.in_hand ≡ None

abbrev pub held : (ℕ → ℕ) → Option ℕ → ℕ
held f None = 0
held f (Some n) = f n

-- the weight of all numbers drawn, and of all jobs noted
abbrev pub all_drawn : (ℕ → ℕ) → Core → ℕ
all_drawn f c = total (λ h. total f h.drawn) c.workers

abbrev pub all_noted : (ℕ → ℕ) → Core → ℕ
all_noted f c = total (λ h. total f h.noted) c.workers

abbrev pub all_held : (ℕ → ℕ) → Core → ℕ
all_held f c = total (λ h. held f h.in_hand) c.workers

-- a worker's list as the view of a pass with one part
abbrev pub views_of : Core → List View
views_of c = map (λ h. hand 1 h.drawn) c.workers
