use Rattle.std.proofs.Common.{ap, ◌∙◌, subst}
use Rattle.std.specs.Global.{Vec}
use Rattle.typed_marks.specs.declared.item.Block.{Block}
use Rattle.unit_read.specs.Subjects.{unit_of}
use Rattle.rule_words.specs.Answers.{answer_in}
use Rattle.elaborate.specs.Settling.{IsSettled}
use Rattle.elaborate.proofs.StepLemmas.{stays_itself, comes_yields, comes_expects}
use Rattle.elaborate.proofs.steps.settle_by.Goals as goal

pub returns-in-Wait-clause-steps : goal.returns-in-Wait-clause-steps
returns-in-Wait-clause-steps g c =
    let u = c.args.u.now in
    let s = c.args.s.now in
    let settled = subst (IsSettled u s c.args.step) c.in-Wait.is c.in_ok-found.ensures in
    (comes_expects u s (g.R.Rules.rule (unit_of u) c.args.item) c.args.step c.in-Wait.other c.requires.comes settled, stays_itself s)

pub returns-in_ok-keep-in-Is-clause-work : goal.returns-in_ok-keep-in-Is-clause-work
returns-in_ok-keep-in-Is-clause-work g c =
    let kept = c.in_ok-keep-in-Is.ensures in
    record {
      scene = kept.scene;
      blocks = ap (λ (blocks : Vec Block). blocks.items) kept.blocks ∙ c.requires.work.blocks;
      cells = kept.cells ∙ c.requires.work.cells;
      fits = c.requires.work.fits;
    }

pub returns-in_ok-keep-in-Is-clause-steps : goal.returns-in_ok-keep-in-Is-clause-steps
returns-in_ok-keep-in-Is-clause-steps g c =
    let u = c.args.u.now in
    let s = c.args.s.now in
    let settled = subst (IsSettled u s c.args.step) c.in-Is.is c.in_ok-found.ensures in (
      answer_in s c.in-Is.answer,
      comes_yields u s (g.R.Rules.rule (unit_of u) c.args.item) c.args.step (answer_in s c.in-Is.answer) c.requires.comes settled.1,
      c.in_ok-keep-in-Is.ensures.adds,
    )
