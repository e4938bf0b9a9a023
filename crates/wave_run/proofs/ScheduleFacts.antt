-- Small schedules and boards, as the definitions have them.
use Rattle.std.proofs.Common.{◌≡◌, ◌≤◌, ℕ, zero, suc, List, [], ◌∷◌, refl, sym, ap, ⊎_elim, arith}
use Rattle.std.specs.Prelude.{None, Some}
use mathlib.Core.Option.{some, some-injective, some-ne-none}
use lib.ListN.{get_elem?}
use Rattle.atomic_table.specs.Table.{State}
use Rattle.wave_run.specs.declared.view.View.{View}
use Rattle.wave_run.specs.Numbers.{total, Among}
use Rattle.wave_run.specs.Views.{hand}
use Rattle.wave_run.specs.Dealing.{IsDealt}
use Rattle.wave_run.specs.Schedules.{Hired, Core, Event, Happens, Runs, IsStart, IsComplete}
use Rattle.wave_run.specs.Schedules.Event.{draw, finish}
use Rattle.wave_run.specs.Schedules.Happens.{draws, ends}
use Rattle.wave_run.specs.Schedules.Runs.{stays, goes}

abbrev core : ℕ → List Hired → Core
core n ws = record { next = n; workers = ws }

abbrev idle : Hired
idle = record { drawn = []; in_hand = None; noted = [] }

abbrev busy : Hired
busy = record { drawn = 0 ∷ []; in_hand = Some 0; noted = [] }

abbrev rested : Hired
rested = record { drawn = 0 ∷ []; in_hand = None; noted = 0 ∷ [] }

abbrev ended : Hired
ended = record { drawn = 0 ∷ 2 ∷ []; in_hand = None; noted = 0 ∷ [] }

abbrev late : Hired
late = record { drawn = 1 ∷ []; in_hand = None; noted = [] }

abbrev start : Core
start = core 0 (idle ∷ idle ∷ [])

abbrev end : Core
end = core 3 (ended ∷ late ∷ [])

-- two workers and one job: the second worker comes too late
two_workers : Runs 1 start (draw 0 ∷ draw 1 ∷ finish 0 ∷ draw 0 ∷ []) end
two_workers =
    goes start (core 1 (busy ∷ idle ∷ [])) end (draw 0) _ (draws 0 idle refl refl refl refl)
    (goes (core 1 (busy ∷ idle ∷ [])) (core 2 (busy ∷ late ∷ [])) end (draw 1) _ (draws 1 idle refl refl refl refl)
    (goes (core 2 (busy ∷ late ∷ [])) (core 2 (rested ∷ late ∷ [])) end (finish 0) _ (ends 0 0 busy refl refl refl refl)
    (goes (core 2 (rested ∷ late ∷ [])) end end (draw 0) [] (draws 0 rested refl refl refl refl) (stays end))))

starts_idle : (w : ℕ) (h : Hired) → get_elem? (idle ∷ idle ∷ []) w ≡ some h → (h.drawn ≡ []) × (h.in_hand ≡ None) × (h.noted ≡ [])
starts_idle zero h at = let e = sym (some-injective idle h at) in (ap (λ (x : Hired). x.drawn) e, ap (λ (x : Hired). x.in_hand) e, ap (λ (x : Hired). x.noted) e)
starts_idle (suc zero) h at = let e = sym (some-injective idle h at) in (ap (λ (x : Hired). x.drawn) e, ap (λ (x : Hired). x.in_hand) e, ap (λ (x : Hired). x.noted) e)
starts_idle (suc (suc w)) h at = absurd (some-ne-none h (sym at))

is_start : IsStart start
is_start = record { next = refl; idle = starts_idle }

-- before a worker has drawn a number that is no job's, the schedule is not complete
not_yet : IsComplete 1 (core 2 (rested ∷ late ∷ [])) → ⊥
not_yet c = let p = c.past 0 rested refl in past p.0 p.1 p.2
  where
    past : (n : ℕ) → Among n (0 ∷ []) → 1 ≤ n → ⊥
    past n has l = ⊎_elim (λ (e : n ≡ 0). absurd (omega arith)) (λ (no_one : ⊥). no_one) has

abbrev board : ℕ → List View → State (Unit {0}) View
board n vs = record { words = n ∷ []; homes = []; views = vs }

abbrev is_zero : ℕ → ℕ
is_zero zero = 1
is_zero (suc n) = 0

-- the rule refuses a number that was drawn twice
twice : IsDealt 2 (board 2 (hand 1 (0 ∷ []) ∷ hand 1 (0 ∷ []) ∷ [])) → ⊥
twice o = absurd (omega (arith, o.once (omega arith) is_zero))

-- and one that was left out
left_out : IsDealt 1 (board 1 (hand 1 (1 ∷ []) ∷ [])) → ⊥
left_out o = absurd (omega (arith, o.once (omega arith) is_zero))

-- and a draw that the word doesn't show
unseen : IsDealt 1 (board 0 (hand 1 (0 ∷ []) ∷ [])) → ⊥
unseen o = absurd (omega (arith, ap head o.word))
  where
    head : List ℕ → ℕ
    head [] = 0
    head (x ∷ xs) = x
