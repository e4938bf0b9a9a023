-- Each job once, by any schedule.
use Rattle.std.proofs.Common.{◌≡◌, ℕ, zero, suc, ◌+◌, ◌%◌, ◌^◌, ◌<◌, ◌≤◌, List, [], ◌∷◌, ◌++◌, length, map, cond, sym, refl, ap, ◌∙◌, arith, lt-ltb, le-ltb}
use Rattle.std.specs.Prelude.{Some, None}
use mathlib.Core.Logic.{dite}
use mathlib.Core.Option.{some, some-injective, some-ne-none}
use native.Mathlib.Decide.{dec_le}
use lib.ListN.{get_elem?}
use Rattle.wave_run.specs.declared.view.View.{View}
use Rattle.wave_run.specs.Numbers.{total, below, Among}
use Rattle.wave_run.specs.Views.{hand}
use Rattle.wave_run.specs.Dealing.{IsDealt}
use Rattle.wave_run.specs.Turns.{within}
use Rattle.wave_run.specs.Schedules.{Hired, Core, Event, Happens, Runs, IsStart, IsComplete, held, drawing, noting, taken_up, all_drawn, all_noted, all_held, views_of}
use Rattle.wave_run.specs.Schedules.Happens.{draws, ends}
use Rattle.wave_run.specs.Schedules.Runs.{stays, goes}
use Rattle.wave_run.proofs.Sums.{total-append, total-set, below_more, below_ones, lengths, term_le, among_le, total-map}
use Rattle.wave_run.proofs.Working.{within_yes, within_no}
use Rattle.wave_run.proofs.Finishing.{within_big}
use Rattle.wave_run.proofs.Placing.{only, only_same, below_none}

abbrev drawn_by : (ℕ → ℕ) → Hired → ℕ
drawn_by f h = total f h.drawn

abbrev noted_by : (ℕ → ℕ) → Hired → ℕ
noted_by f h = total f h.noted

abbrev held_by : (ℕ → ℕ) → Hired → ℕ
held_by f h = held f h.in_hand

-- what is held after a draw weighs as much as the number within the jobs
held_up : (jobs n : ℕ) (f : ℕ → ℕ) → held f (taken_up jobs n) ≡ within jobs f n
held_up jobs n f = dite (dec_le jobs n)
    (λ (l : jobs ≤ n). ap (λ b. held f (cond b (Some n) None)) (le-ltb n jobs l) ∙ sym (within_no jobs n f l))
    (λ nl. let l : n < jobs = omega arith in ap (λ b. held f (cond b (Some n) None)) (lt-ltb n jobs l) ∙ sym (within_yes jobs n f l))

pub record Kept (jobs : ℕ) (c : Core) : Type 0 where
  pub drawn : (f : ℕ → ℕ) → all_drawn f c ≡ below f c.next
  pub jobs_up : (f : ℕ → ℕ) → all_noted f c + all_held f c ≡ below (within jobs f) c.next

none_yet : (g : Hired → ℕ) (l : List Hired) → ((w : ℕ) (h : Hired) → get_elem? l w ≡ some h → g h ≡ 0) → total g l ≡ 0
none_yet g [] h = refl
none_yet g (x ∷ xs) h = omega (arith, h 0 x refl, none_yet g xs (λ w. h (suc w)))

pub starts : (jobs : ℕ) (c : Core) → IsStart c → Kept jobs c
starts jobs c s = record {
  drawn = λ f. none_yet (drawn_by f) c.workers (λ w h at. ap (total f) (s.idle w h at).0) ∙ sym (ap (below f) s.next);
  jobs_up = λ f. omega (arith, none_yet (noted_by f) c.workers (λ w h at. ap (total f) (s.idle w h at).2), none_yet (held_by f) c.workers (λ w h at. ap (held f) (s.idle w h at).1), ap (below (within jobs f)) s.next);
}

pub happens : (jobs : ℕ) (c d : Core) (e : Event) → Kept jobs c → Happens jobs c d e → Kept jobs d
happens jobs c d e k (draws w h at free next workers) =
    let h' : Hired = drawing jobs c.next h in
    let none : (f : ℕ → ℕ) → held f h.in_hand ≡ 0 = λ f. ap (held f) free in
    record {
      drawn = λ f. omega (arith, ap (total (drawn_by f)) workers, total-set (drawn_by f) c.workers w h h' at, total-append f h.drawn (c.next ∷ []), k.drawn f, ap (below f) next, below_more f c.next);
      jobs_up = λ f. omega (arith, ap (total (noted_by f)) workers, total-set (noted_by f) c.workers w h h' at, ap (total (held_by f)) workers, total-set (held_by f) c.workers w h h' at, none f, held_up jobs c.next f, k.jobs_up f, ap (below (within jobs f)) next, below_more (within jobs f) c.next);
    }
happens jobs c d e k (ends w n h at busy next workers) =
    let h' : Hired = noting n h in
    record {
      drawn = λ f. omega (arith, ap (total (drawn_by f)) workers, total-set (drawn_by f) c.workers w h h' at, k.drawn f, ap (below f) next);
      jobs_up = λ f. omega (arith, ap (total (noted_by f)) workers, total-set (noted_by f) c.workers w h h' at, ap (total (held_by f)) workers, total-set (held_by f) c.workers w h h' at, total-append f h.noted (n ∷ []), ap (held f) busy, k.jobs_up f, ap (below (within jobs f)) next);
    }

pub keeps_on : (jobs : ℕ) (c d : Core) (events : List Event) → Kept jobs c → Runs jobs c events d → Kept jobs d
keeps_on jobs c d events k (stays _) = k
keeps_on jobs c d events k (goes _ m _ first more h r) = keeps_on jobs m d more (happens jobs c m first k h) r

-- a number that was drawn is below the next
drawn_below : (c : Core) (w n : ℕ) (h : Hired) → ((f : ℕ → ℕ) → all_drawn f c ≡ below f c.next) → get_elem? c.workers w ≡ some h → Among n h.drawn → n < c.next
drawn_below c w n h kept at has = dite (dec_le c.next n)
    (λ (l : c.next ≤ n). absurd (omega (arith, term_le (drawn_by (only n)) c.workers w h at, among_le (only n) h.drawn n has, only_same n n refl, kept (only n), below_none n c.next l)))
    (λ nl. omega arith)

first_one : (l : List Hired) → 0 < length l → (h : Hired) × (get_elem? l 0 ≡ some h)
first_one [] s = absurd (omega arith)
first_one (x ∷ xs) s = (x, refl)

pub completes : (jobs : ℕ) (c : Core) (f : ℕ → ℕ) → Kept jobs c → IsComplete jobs c → 0 < length c.workers → all_noted f c ≡ below f jobs
completes jobs c f k done many =
    let one = first_one c.workers many in
    let p = done.past 0 one.0 one.1 in
    let past = p.2 in
    let enough : jobs ≤ c.next = omega (arith, drawn_below c 0 p.0 one.0 k.drawn one.1 p.1) in
    omega (arith, k.jobs_up f, none_yet (held_by f) c.workers (λ w h at. ap (held f) (done.free w h at)), within_big jobs c.next f enough)

-- the view of a worker has a part
has_part : (l : List Hired) (k : ℕ) (v : View) → get_elem? (map (λ h. hand 1 h.drawn) l) k ≡ some v → v.parts ≡ 1
has_part [] k v at = absurd (some-ne-none v (sym at))
has_part (x ∷ xs) zero v at = sym (ap (λ (u : View). u.parts) (some-injective (hand 1 x.drawn) v at))
has_part (x ∷ xs) (suc k) v at = has_part xs k v at

pub dealt : (jobs : ℕ) (c : Core) → Kept jobs c → IsDealt (length c.workers) (record { words = c.next % 2 ^ 64 ∷ []; homes = []; views = views_of c })
dealt jobs c k =
    let draw_count : (f : ℕ → ℕ) → total (λ (v : View). total f v.drawn) (views_of c) ≡ all_drawn f c = λ f. total-map (λ (v : View). total f v.drawn) (λ h. hand 1 h.drawn) c.workers in
    let many : Rattle.wave_run.specs.Dealing.draws (views_of c) ≡ c.next = all_lengths (views_of c) ∙ (draw_count (λ _. 1) ∙ (k.drawn (λ _. 1) ∙ below_ones c.next)) in
    record {
      word = ap (λ (n : ℕ). n % 2 ^ 64 ∷ []) (sym many);
      whole = total-map (λ (v : View). v.parts) (λ h. hand 1 h.drawn) c.workers ∙ sym (lengths c.workers);
      idle = λ id v at none. absurd (omega (arith, has_part c.workers id v at));
      once = λ few f. draw_count f ∙ (k.drawn f ∙ ap (below f) (sym many));
    }
  where
    all_lengths : (l : List View) → Rattle.wave_run.specs.Dealing.draws l ≡ total (λ (v : View). total (λ _. 1) v.drawn) l
    all_lengths [] = refl
    all_lengths (v ∷ vs) = omega (arith, lengths v.drawn, all_lengths vs)
