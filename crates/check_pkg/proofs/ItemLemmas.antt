-- What the marks of a package's items refuse.
use Rattle.std.proofs.Common.{◌≡◌, ℕ, ◌≤◌, List, length, true, Option, Some, None, refl, inl, inr}
use Rattle.std.proofs.lemmas.Option.{slice_get_within}
use Rattle.typed_marks.specs.declared.item.Item.{Item}
use Rattle.typed_marks.specs.declared.item.Stage.{Stage}
use Rattle.typed_marks.specs.declared.item.Stage.TheVariants as s
use Rattle.typed_marks.specs.Meanings.{Meaning}
use Rattle.type_model.specs.Declarations.{Declaration}
use Rattle.typed_marks.specs.Meanings.{declared}
use Rattle.unit_read.specs.declared.passage.Passage.{Passage}
use Rattle.unit_read.specs.Passages.{passages}
use Rattle.unit_read.specs.Units.{Unit}
use Rattle.check_pkg.specs.declared.refusal.Refusal.{Refusal}
use Rattle.check_pkg.specs.Faults.{fault_in, value_in}
use Rattle.check_pkg.specs.Gains.{Gains, SomeBelow}
use Rattle.check_pkg.specs.Items.{is_told, RefusesAt, RefusesNode, RefusesBlock, IsRefusedItem}
use Rattle.check_pkg.proofs.GainLemmas.{Reached, gains_as}

-- a declaration is no fault
pub declared_quiet : (o : Option Declaration) → None ≡ fault_in (declared o)
declared_quiet None = refl
declared_quiet (Some d) = refl

-- the nodes of a passage up to one, and a value that the next doesn't stand before
pub record Walked (u : Unit) (marks : Item → Meaning) (block : ℕ) (p : Passage) (start list : List Refusal) (node at : ℕ) : Type 0 where
  pub gains : Gains (Reached p.span.low p.span.end (RefusesNode u marks block p) node) start list
  pub value : at ≤ value_in u p node

told_node : (u : Unit) (marks : Item → Meaning) (block n : ℕ) (p : Passage) (stage : Stage) (x : Refusal) → is_told stage ≡ true → RefusesAt u marks block p n stage x → RefusesNode u marks block p n x
told_node u marks block n p s.Before x told refuses = absurd cc
told_node u marks block n p s.Wanted x told refuses = absurd cc
told_node u marks block n p s.Judged x told refuses = absurd cc
told_node u marks block n p s.Placed x told refuses = inl refuses
told_node u marks block n p s.Object x told refuses = inr refuses
told_node u marks block n p s.Under x told refuses = absurd cc

down : (u : Unit) (marks : Item → Meaning) (x : Refusal) → SomeBelow (length (passages u.trees)) (RefusesBlock u marks) x → IsRefusedItem u marks x
down u marks x (block, low, (p, here, (n, from, before, refuses))) = elim refuses [
  | inl placed ↦ record { block = block; passage = p; node = n; stage = s.Placed; here = here; from = from; before = before; told = refl; refuses = placed }
  | inr object ↦ record { block = block; passage = p; node = n; stage = s.Object; here = here; from = from; before = before; told = refl; refuses = object }
]

up : (u : Unit) (marks : Item → Meaning) (x : Refusal) → IsRefusedItem u marks x → SomeBelow (length (passages u.trees)) (RefusesBlock u marks) x
up u marks x r = (
  r.block,
  slice_get_within (passages u.trees) r.block r.passage r.here,
  (r.passage, r.here, (r.node, r.from, r.before, told_node u marks r.block r.node r.passage r.stage x r.told r.refuses)),
)

pub items_gain : (u : Unit) (marks : Item → Meaning) (old new : List Refusal) → Gains (SomeBelow (length (passages u.trees)) (RefusesBlock u marks)) old new → Gains (IsRefusedItem u marks) old new
items_gain u marks old new gains = gains_as (SomeBelow (length (passages u.trees)) (RefusesBlock u marks)) (IsRefusedItem u marks) old new gains (λ x. (down u marks x, up u marks x))
