-- What the marks of items refuse.
use Rattle.std.specs.Prelude.{◌≡◌, ℕ, ◌<◌, ◌≤◌, ◌⊎◌, Bool, true, false, Some, slice_get}
use Rattle.typed_marks.specs.declared.item.Item.{Item}
use Rattle.typed_marks.specs.declared.item.Stage.{Stage}
use Rattle.typed_marks.specs.declared.item.Stage.TheVariants as s
use Rattle.typed_marks.specs.Meanings.{Meaning}
use Rattle.unit_read.specs.declared.passage.Passage.{Passage}
use Rattle.unit_read.specs.Passages.{passages}
use Rattle.unit_read.specs.Units.{Unit}
use Rattle.rule_words.specs.Asking.{item}
use Rattle.check_pkg.specs.declared.refusal.Refusal.{Refusal}
use Rattle.check_pkg.specs.Faults.{fault_in, fault_place}
use Rattle.check_pkg.specs.Gains.{SomeBetween}

-- An item refuses the package once: a node in its place, and the object that is declared at a name. What refuses a node before stands in
-- its place again.
abbrev pub is_told : Stage → Bool
is_told s.Before = false
is_told s.Wanted = false
is_told s.Judged = false
is_told s.Placed = true
is_told s.Object = true
is_told s.Under = false

-- the mark of a node of a passage at a stage refuses the package
abbrev pub RefusesAt : Unit → (Item → Meaning) → ℕ → Passage → ℕ → Stage → Refusal → Type 0
RefusesAt u marks block p n stage x = (fault_in (marks (item stage block n)) ≡ Some x.fault) × (x.place ≡ fault_place u p n x.fault)

-- The mark of some item refuses the package.
pub record IsRefusedItem (u : Unit) (marks : Item → Meaning) (x : Refusal) : Type 0 where
  pub block : ℕ
  pub passage : Passage
  pub node : ℕ
  pub stage : Stage
  pub here : slice_get (passages u.trees) block ≡ Some passage
  pub from : passage.span.low ≤ node
  pub before : node < passage.span.end
  pub told : is_told stage ≡ true
  pub refuses : RefusesAt u marks block passage node stage x

-- ---- as they are found

abbrev pub RefusesNode : Unit → (Item → Meaning) → ℕ → Passage → ℕ → Refusal → Type 0
RefusesNode u marks block p n x = RefusesAt u marks block p n s.Placed x ⊎ RefusesAt u marks block p n s.Object x

abbrev pub RefusesPassage : Unit → (Item → Meaning) → ℕ → Passage → Refusal → Type 0
RefusesPassage u marks block p x = SomeBetween p.span.low p.span.end (RefusesNode u marks block p) x

abbrev pub RefusesBlock : Unit → (Item → Meaning) → ℕ → Refusal → Type 0
RefusesBlock u marks block x = (p : Passage) × (slice_get (passages u.trees) block ≡ Some p) × RefusesPassage u marks block p x
