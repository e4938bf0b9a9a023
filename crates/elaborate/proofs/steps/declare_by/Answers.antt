use Rattle.std.proofs.Common.{◌∙◌, sym, ap, subst, None, Some, refl}
use Rattle.rule_words.specs.Scenes.{sight}
use Rattle.mark_walk.specs.Telling.{tell}
use Rattle.typed_marks.specs.Meanings.{Quiet}
use Rattle.unit_read.specs.Subjects.{unit_of}
use Rattle.rule_words.specs.declared.declaring.Declaring.{Declaring}
use Rattle.rule_words.specs.declared.declaring.Declaring.TheVariants as d
use Rattle.rule_words.specs.Declaring.{declaring_in, IsDeclaringAt}
use Rattle.elaborate.proofs.StepLemmas.{stays_itself, outcome_same}
use Rattle.elaborate.proofs.steps.declare_by.Goals as goal

pub returns-in_ok-leave-in-Nothing-clause-steps : goal.returns-in_ok-leave-in-Nothing-clause-steps
returns-in_ok-leave-in-Nothing-clause-steps g c =
    let u = c.args.u.now in
    let s = c.args.s.now in
    outcome_same u s c.leave.new.s c.args.item (declaring_in s d.Nothing) (tell (sight s) (g.R.Rules.rule (unit_of u) c.args.item)) None
    (sym (ap (declaring_in s) c.in-Nothing.is) ∙ c.in_ok-declaring.ensures.is) (Quiet, refl, c.in_ok-leave-in-Nothing.ensures.adds)

pub returns-in-Waits-clause-steps : goal.returns-in-Waits-clause-steps
returns-in-Waits-clause-steps g c =
    let u = c.args.u.now in
    let s = c.args.s.now in
    outcome_same u s s c.args.item (declaring_in s (d.Waits c.in-Waits.other)) (tell (sight s) (g.R.Rules.rule (unit_of u) c.args.item)) (Some c.in-Waits.other)
    (sym (ap (declaring_in s) c.in-Waits.is) ∙ c.in_ok-declaring.ensures.is) (refl, stays_itself s)

pub declare_with-requires-clause-is : goal.declare_with-requires-clause-is
declare_with-requires-clause-is g c =
    subst (IsDeclaringAt (unit_of c.args.u.now) c.args.s.now c.args.item) c.in-With.is c.in_ok-declaring.ensures.over

pub returns-in_ok-waits-in-With-clause-steps : goal.returns-in_ok-waits-in-With-clause-steps
returns-in_ok-waits-in-With-clause-steps g c =
    let u = c.args.u.now in
    let s = c.args.s.now in
    outcome_same u s c.declare_with.new.s c.args.item (declaring_in s (d.With c.in-With.of c.in-With.under c.in-With.methods)) (tell (sight s) (g.R.Rules.rule (unit_of u) c.args.item)) c.in_ok-waits-in-With.waits
    (sym (ap (declaring_in s) c.in-With.is) ∙ c.in_ok-declaring.ensures.is) c.in_ok-waits-in-With.ensures.steps
