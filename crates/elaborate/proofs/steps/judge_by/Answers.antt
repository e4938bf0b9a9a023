use Rattle.std.proofs.Common.{refl, sym, ap, ◌∙◌, subst}
use Rattle.std.specs.Global.{Vec}
use Rattle.typed_marks.specs.declared.item.Block.{Block}
use Rattle.unit_read.specs.Subjects.{unit_of}
use Rattle.rule_words.specs.declared.answer.Answer.TheVariants as answer
use Rattle.rule_words.specs.declared.step.Step.{Step}
use Rattle.rule_words.specs.Answers.{answer_in}
use Rattle.rule_words.specs.Steps.{IsStepOf}
use Rattle.type_answers.specs.Coming.{ComesTo}
use Rattle.elaborate.specs.declared.briefly.Brief.{Brief}
use Rattle.elaborate.specs.Briefs.{step_of, ComesBriefly, IsBriefOf}
use Rattle.elaborate.specs.Settling.{YieldsAt, ExpectsAt}
use Rattle.elaborate.proofs.StepLemmas.{stays_itself, comes_yields, comes_expects}
use Rattle.elaborate.proofs.steps.judge_by.Goals as goal

pub returns-in-Waits-clause-steps : goal.returns-in-Waits-clause-steps
returns-in-Waits-clause-steps g c =
    let u = c.args.u.now in
    let s = c.args.s.now in
    let waits = subst (λ (x : Brief). ExpectsAt u s (step_of x) c.in-Waits.other) (sym c.in-Waits.is) refl in
    (comes_expects u s (g.R.Rules.rule (unit_of u) c.args.item) (step_of c.in_ok-brief.brief) c.in-Waits.other c.in_ok-brief.ensures.comes waits, stays_itself s)

pub settle_by-requires-clause-comes : goal.settle_by-requires-clause-comes
settle_by-requires-clause-comes g c =
    let u = c.args.u.now in
    let s = c.args.s.now in
    subst (ComesTo u s (g.R.Rules.rule (unit_of u) c.args.item)) (sym c.into_inner.ensures) (subst (ComesBriefly u s (g.R.Rules.rule (unit_of u) c.args.item)) c.in-Other.is c.in_ok-brief.ensures.comes)

pub settle_by-requires-clause-over : goal.settle_by-requires-clause-over
settle_by-requires-clause-over g c = subst (IsStepOf c.args.s.now) (sym c.into_inner.ensures) (subst (IsBriefOf c.args.s.now) c.in-Other.is c.in_ok-brief.ensures.over)

pub returns-in_ok-keep-in-Mark-clause-work : goal.returns-in_ok-keep-in-Mark-clause-work
returns-in_ok-keep-in-Mark-clause-work g c =
    let kept = c.in_ok-keep-in-Mark.ensures in
    record {
      scene = kept.scene;
      blocks = ap (λ (blocks : Vec Block). blocks.items) kept.blocks ∙ c.requires.work.blocks;
      cells = kept.cells ∙ c.requires.work.cells;
      fits = c.requires.work.fits;
    }

pub returns-in_ok-keep-in-Mark-clause-steps : goal.returns-in_ok-keep-in-Mark-clause-steps
returns-in_ok-keep-in-Mark-clause-steps g c =
    let u = c.args.u.now in
    let s = c.args.s.now in
    let m = answer_in s (answer.Mark c.in-Mark.mark) in
    let says = subst (λ (x : Brief). YieldsAt u s (step_of x) m) (sym c.in-Mark.is) refl in
    (m, comes_yields u s (g.R.Rules.rule (unit_of u) c.args.item) (step_of c.in_ok-brief.brief) m c.in_ok-brief.ensures.comes says, c.in_ok-keep-in-Mark.ensures.adds)
