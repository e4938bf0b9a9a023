-- Declared names are what the search goes out from, and the only objects to which it comes.
use Rattle.std.proofs.Common.{◌≡◌, ℕ, ◌⊎◌, Bool, true, false, if◌then◌else◌, List, [], ◌∷◌, slice_get, Option, Some, None, option_and_then, refl, sym, ap, ◌∙◌, subst, inl, inr}
use Rattle.std.specs.HashMap.{HashMap}
use Rattle.object_order.specs.declared.rows.SpotRows.{SpotRows}
use Rattle.go_tree.specs.Spells.{Among}
use Rattle.go_tree.specs.declared.tree.NodeRef.{NodeRef}
use Rattle.object_order.specs.declared.spot.Mode.TheVariants as m
use Rattle.object_order.specs.declared.spot.Entry.{Entry}
use Rattle.object_order.specs.declared.spot.Spot.{Spot}
use Rattle.object_order.specs.declared.view.View.{View}
use Rattle.object_order.specs.declared.spot.Mode.{Mode}
use Rattle.object_order.specs.declared.spot.Form.{Form}
use Rattle.object_order.specs.declared.spot.Form.TheVariants as form
use Rattle.object_order.specs.declared.spot.Role.{Role}
use Rattle.object_order.specs.declared.spot.Role.TheVariants as r
use Rattle.object_order.specs.Spots.{World, spot, enters, moves}
use Rattle.object_order.specs.Views.{number_in, world_of}
use Rattle.object_order.specs.Names.{IsNamed, AreNamed, has_steps, seeds_of, seeds}
use Rattle.object_order.proofs.SpotLemmas.{among_at, at_among}
use Rattle.object_order.proofs.MoveLemmas.{flat_from, flat_among, comes_declared}
use Rattle.object_order.specs.Trimmed.{trimmed_moves}
use Rattle.object_order.proofs.TrimLemmas.{of_trimmed}
use Rattle.object_order.specs.Orders.{Turns, NeedsBy, IsNeedOrder}
use Rattle.object_order.specs.Picks.{IsPicked}
use Rattle.object_order.specs.Searches.{IsExplored}
use Rattle.object_order.specs.declared.needed.Needed.{Needed}
use Rattle.object_order.proofs.GoLemmas.{Goes, goes_into, goes_across, goes_under, goes_beside, goes_of}
use Rattle.gv_base.proofs.Lists.{same_some}
use Rattle.object_order.proofs.OrderLemmas.{AreSeeds, need_order_of}

seeded : (entries : List Entry) (o : NodeRef) (s : Spot) → IsNamed entries o → ((e : Entry) → e.name ≡ o → Among s (seeds_of e)) → Among s (seeds entries)
seeded entries o s (k, e, at, same) f = flat_among seeds_of entries e s (among_at entries k e at) (f e same)

step_name : (e : Entry) (s : Spot) (b : Bool) → Among s (if b then spot m.Steps e.name ∷ [] else []) → e.name ≡ s.at
step_name e s true (inl same) = ap (λ (x : Spot). x.at) same
step_name e s true (inr none) = absurd none
step_name e s false h = absurd h

of_seeds : (entries : List Entry) (s : Spot) → Among s (seeds entries) → IsNamed entries s.at
of_seeds entries s h =
    let (e, among, there) = flat_from seeds_of entries s h in
    let (k, at) = at_among entries e among in (k, e, at, name_is e there) where
      name_is : (e : Entry) → Among s (seeds_of e) → e.name ≡ s.at
      name_is e (inl same) = ap (λ (x : Spot). x.at) same
      name_is e (inr steps) = step_name e s (has_steps e.form) steps

from_number : {S : Type 0} (entries : List Entry) (numbers : HashMap (ℕ × ℕ) ℕ S) (at : NodeRef) (o : Option ℕ) (d : Entry) → AreNamed entries numbers
    → number_in numbers (at.file, at.node) ≡ o → option_and_then (λ n. slice_get entries n) o ≡ Some d → IsNamed entries at
from_number entries numbers at None d are here is = absurd (cc)
from_number entries numbers at (Some n) d are here is = let (e, there, same) = are.«is» n at here in (n, e, there, same)

-- ---- steps

no_steps : (f : Form) (role : Role) (y : Mode) → has_steps f ≡ false → Among y (enters m.Steps f role) → ⊥
no_steps form.Other r.Typing y e h = h
no_steps form.Other r.Beside y e h = h
no_steps form.Other r.Resting y e h = h
no_steps form.Defined role y e h = cc
no_steps form.Alias role y e h = cc

module _ (w : World) (o : NodeRef) (d : Entry) (is : w.entry o ≡ Some d) (still : has_steps d.form ≡ false) where
  no_going : (y : Mode) (to : NodeRef) → Goes w m.Steps o y to → ⊥
  no_going y to (goes_into g) = g.mode
  no_going y to (goes_across g) = g.mode
  no_going y to (goes_under g) =
      let same : d ≡ g.entry = same_some (w.entry o) d g.entry is g.declared in
      no_steps g.entry.form g.root.role y (sym (ap (λ (e : Entry). has_steps e.form) same) ∙ still) g.mode
  no_going y to (goes_beside g) = g.mode

  no_move : (s : Spot) → Among s (moves w (spot m.Steps o)) → ⊥
  no_move s h = no_going s.mode s.at (goes_of w (spot m.Steps o) s h)

  no_turn : (quiet : NodeRef → Bool) → Turns (trimmed_moves quiet w) o → ⊥
  no_turn quiet ([], path) = no_move (spot m.Steps o) (of_trimmed w quiet (spot m.Steps o) (spot m.Steps o) path)
  no_turn quiet (c ∷ via, path) = no_move c (of_trimmed w quiet (spot m.Steps o) c path.0)

step_there : (b : Bool) (e : Entry) (o : NodeRef) → b ≡ true → e.name ≡ o → Among (spot m.Steps o) (if b then spot m.Steps e.name ∷ [] else [])
step_there true e o is same = inl (ap (λ (x : NodeRef). spot m.Steps x) same)
step_there false e o is same = absurd (cc)

cases_of : (b : Bool) → (b ≡ true) ⊎ (b ≡ false)
cases_of true = inl refl
cases_of false = inr refl

-- from a declared name the search for its steps goes out, or they lead nowhere
step_seeds : (v : View) (quiet : NodeRef → Bool) → AreNamed v.entries.items v.numbers → (o : NodeRef) → IsNamed v.entries.items o
    → Among (spot m.Steps o) (seeds v.entries.items) ⊎ (Turns (trimmed_moves quiet (world_of v)) o → ⊥)
step_seeds v quiet are o (k, e, at, same) =
    let (n, number) = are.has k e at in
    let number_is : number_in v.numbers (o.file, o.node) ≡ Some n = ap (λ (x : NodeRef). number_in v.numbers (x.file, x.node)) (sym same) ∙ number in
    let (d, there, named) = are.«is» n o number_is in
    let declared : (world_of v).entry o ≡ Some d = ap (λ (x : Option ℕ). option_and_then (λ j. slice_get v.entries.items j) x) number_is ∙ there in
    elim (cases_of (has_steps d.form)) [
      | inl is ↦ inl (flat_among seeds_of v.entries.items d (spot m.Steps o) (among_at v.entries.items n d there) (inr (step_there (has_steps d.form) d o is named)))
      | inr still ↦ inr (no_turn (world_of v) o d declared still quiet)
    ]

-- the seeds of a view's declarations
view_seeds : (v : View) (quiet : NodeRef → Bool) → AreNamed v.entries.items v.numbers → AreSeeds (trimmed_moves quiet (world_of v)) (seeds v.entries.items) (IsNamed v.entries.items)
view_seeds v quiet are = record {
  needs = λ o named. seeded v.entries.items o (spot m.Needs o) named (λ e same. inl (ap (λ (x : NodeRef). spot m.Needs x) same));
  steps = step_seeds v quiet are;
  only = λ s from e. elim from [
    | inl seed ↦ of_seeds v.entries.items s seed
    | inr (t, among) ↦ (let (d, is) = comes_declared (world_of v) t s e (of_trimmed (world_of v) quiet t s among) in
        from_number v.entries.items v.numbers s.at (number_in v.numbers (s.at.file, s.at.node)) d are refl is)
  ];
}

-- what is picked of all that the search finds from a view's declarations is an order of need
pub order_is : (v : View) (quiet : NodeRef → Bool) (first found : List Spot) (numbers : SpotRows) (rows : List (List ℕ)) (list : List Needed)
    → AreNamed v.entries.items v.numbers → first ≡ seeds v.entries.items → IsExplored (trimmed_moves quiet (world_of v)) first found numbers rows → IsPicked found numbers rows list
    → IsNeedOrder (NeedsBy (trimmed_moves quiet (world_of v))) (IsNamed v.entries.items) list
order_is v quiet first found numbers rows list are first_is is p =
    need_order_of (trimmed_moves quiet (world_of v)) first found numbers rows (IsNamed v.entries.items) is
    (subst (λ (x : List Spot). AreSeeds (trimmed_moves quiet (world_of v)) x (IsNamed v.entries.items)) (sym first_is) (view_seeds v quiet are))
    p.order p.flags p.full p.flagged list p.list_is
