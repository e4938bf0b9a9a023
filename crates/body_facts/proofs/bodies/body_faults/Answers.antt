use Rattle.std.proofs.Common.{ℕ, List, length, subst, sym}
use Rattle.std.specs.List.{Contains}
use Rattle.late_list.specs.Late.{IsLate, AreFound}
use Rattle.unit_read.specs.Subjects.{unit_of, cell}
use Rattle.body_rules.specs.declared.file.File.{File}
use Rattle.body_rules.specs.Views.{IsFaultOf, count_of}
use Rattle.body_facts.specs.declared.facts.Facts.{Facts}
use Rattle.body_facts.specs.Bodies.{AreFactsTo}
use Rattle.body_facts.proofs.BodyLemmas.{file_known, faults_are}
use Rattle.body_facts.proofs.bodies.body_faults.Goals as goal

pub all_files-requires-clause-facts : goal.all_files-requires-clause-facts
all_files-requires-clause-facts c =
    subst (λ (l : List Facts). AreFactsTo (unit_of c.args.u.now) (cell c.args.meant.now.items) (length c.args.u.now.trees.now) l) (sym c.deref.ensures.value) c.in_ok-facts.ensures

pub late_faults-requires : goal.late_faults-requires
late_faults-requires c = λ f has.
    file_known (unit_of c.args.u.now) (cell c.args.meant.now.items) c.in_ok-files.files.items c.requires.bodies c.in_ok-files.ensures f (subst (λ (l : List File). Contains l f) c.deref-2.ensures.value has)

pub returns : goal.returns
returns c =
    faults_are (unit_of c.args.u.now) (cell c.args.meant.now.items) c.in_ok-files.files.items c.in_ok-list.list.items c.requires.bodies c.in_ok-files.ensures
    (subst (λ (l : List File). AreFound (IsLate IsFaultOf count_of l) c.in_ok-list.list.items) c.deref-2.ensures.value c.in_ok-list.ensures)
