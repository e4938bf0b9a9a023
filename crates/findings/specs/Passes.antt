-- What an analyzer reads: a package, and what is said of it once all is marked.
use Rattle.std.specs.Prelude.{◌≤◌, ◌^◌, length}
use Rattle.mark_walk.specs.Asks.{filled}
use Rattle.package_objects.specs.Declares.{AreSmall}
use Rattle.typed_marks.specs.declared.item.Item.{Item}
use Rattle.typed_marks.specs.Meanings.{Meaning, Quiet}
use Rattle.typed_marks.specs.States.{so_far}
use Rattle.unit_read.specs.Units.{Unit}
use Rattle.unit_read.specs.Subjects.{full_of}
use Rattle.rule_words.specs.Scenes.{IsScene}
use Rattle.findings.specs.declared.passing.Pass.{Pass}

-- the package, with all that is known of other packages
abbrev pub unit_in : Pass → Unit
unit_in p = full_of p.subject.now

-- what the marks say; nothing where there is none
abbrev pub marks_in : Pass → Item → Meaning
marks_in p = filled Quiet (so_far p.state.now)

-- the package has been read, and its numbers are small enough
pub record IsPass (p : Pass) : Type 0 where
  pub scene : IsScene p.subject.now p.state.now
  pub small : AreSmall p.subject.now.trees.now
  pub few : length p.subject.now.trees.now ≤ 2 ^ 32
