use Rattle.std.proofs.Common.{List, subst}
use Rattle.late_list.specs.Late.{IsLate, AreFound}
use Rattle.body_rules.specs.declared.view.View.{View}
use Rattle.body_rules.specs.Files.{IsFaultIn, node_count}
use Rattle.body_rules.specs.Given.{given}
use Rattle.body_rules.proofs.ViewLemmas.{late_of}
use Rattle.body_rules.proofs.late.late_faults.Goals as goal

pub returns : goal.returns
returns c =
    late_of c.args.files.now c.in_ok-views.views.items c.in_ok-list.list.items c.in_ok-views.ensures
    (subst (λ (l : List View). AreFound (IsLate (λ (v : View). IsFaultIn (given v.file.now)) (λ (v : View). node_count (given v.file.now)) l) c.in_ok-list.list.items) c.deref.ensures.value c.in_ok-list.ensures)
