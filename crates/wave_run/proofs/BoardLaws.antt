-- Where a number stands, under the rule of a board.
use Rattle.std.proofs.Common.{◌≡◌, ◌≢◌, ℕ, zero, suc, ◌+◌, ◌%◌, ◌^◌, ◌<◌, ◌≤◌, List, [], ◌∷◌, slice_index, refl, ap, ◌∙◌, arith}
use mathlib.Core.Logic.{dite}
use mathlib.Core.Option.{some, some-injective, some-ne-none}
use native.Mathlib.Decide.{dec_le}
use lib.ListN.{get_elem?}
use Rattle.atomic_table.specs.Table.{State}
use Rattle.wave_run.specs.declared.view.View.{View}
use Rattle.wave_run.specs.Numbers.{total, below, Among, times}
use Rattle.wave_run.specs.Dealing.{IsDealt, IsInOneView, draws}
use Rattle.wave_run.proofs.Sums.{term_le, among_le}
use Rattle.wave_run.proofs.Placing.{only, below_once, below_none}

module _ {A : Type 0} (g : A → ℕ) where
  after_first : (x : A) (xs : List A) → g x ≡ 1 → total g (x ∷ xs) ≡ 1 → (k : ℕ) (u : A) → get_elem? (x ∷ xs) k ≡ some u → k ≢ 0 → g u ≡ 0
  after_first x xs one all zero u at apart = absurd (apart refl)
  after_first x xs one all (suc k) u at apart = omega (arith, term_le g xs k u at)

  before_others : (x : A) (xs : List A) (place : ℕ) → g x ≡ 0 → ((k : ℕ) (u : A) → get_elem? xs k ≡ some u → k ≢ place → g u ≡ 0) → (k : ℕ) (u : A) → get_elem? (x ∷ xs) k ≡ some u → k ≢ suc place → g u ≡ 0
  before_others x xs place none others zero u at apart = omega (arith, ap g (some-injective x u at))
  before_others x xs place none others (suc k) u at apart = others k u at (λ e. apart (ap suc e))

  -- where all weigh one together, one item weighs one and no other weighs anything
  one_holder : (l : List A) → total g l ≡ 1 → (place : ℕ) × (v : A) × (get_elem? l place ≡ some v) × (g v ≡ 1) × ((k : ℕ) (u : A) → get_elem? l k ≡ some u → k ≢ place → g u ≡ 0)
  one_holder [] all = absurd (omega arith)
  one_holder (x ∷ xs) all = dite (dec_le 1 (g x))
      (λ (l : 1 ≤ g x). let here : g x ≡ 1 = omega arith in (0, x, refl, here, after_first x xs here all))
      (λ nl. let none : g x ≡ 0 = omega arith in let r = one_holder xs (omega arith) in (suc r.0, r.1, r.2, r.3, before_others x xs r.0 none r.4))

module _ (parts number : ℕ) (s : State (Unit {0}) View) (o : IsDealt parts s) (few : draws s.views < 2 ^ 64) where
  abbrev has : View → ℕ
  has v = total (only number) v.drawn

  word_is : slice_index s.words 0 ≡ draws s.views
  word_is = let e : slice_index s.words 0 ≡ draws s.views % 2 ^ 64 = ap (λ (ws : List ℕ). slice_index ws 0) o.word in omega arith

  pub in_one_view : number < slice_index s.words 0 → IsInOneView number s.views
  in_one_view inside =
      let is = word_is in
      let r = one_holder has s.views (o.once few (only number) ∙ below_once number (draws s.views) (omega arith)) in
      let one = r.3 in
      record {
        place = r.0;
        view = r.1;
        at = r.2;
        live = dite (dec_le 1 r.1.parts) (λ (l : 1 ≤ r.1.parts). omega arith) (λ nl. absurd (omega (arith, ap (total (only number)) (o.idle r.0 r.1 r.2 (omega arith)))));
        once = r.3;
        alone = r.4;
      }

  pub in_no_view : (v : View) → slice_index s.words 0 ≤ number → Among v s.views → times number v.drawn ≡ 0
  in_no_view v past at =
      let is = word_is in
      let none : total has s.views ≡ 0 = o.once few (only number) ∙ below_none number (draws s.views) (omega arith) in
      omega (arith, among_le has s.views v at)
