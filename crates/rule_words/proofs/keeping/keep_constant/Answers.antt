use Rattle.std.proofs.Common.{length, ap, ◌∙◌}
use Rattle.typed_marks.specs.Cells.{Filled}
use Rattle.rule_words.proofs.KeepLemmas.{grown_scene, stays_adds, added_constant}
use Rattle.rule_words.proofs.keeping.keep_constant.Goals as goal

pub keep_mark-requires-clause-scene : goal.keep_mark-requires-clause-scene
keep_mark-requires-clause-scene c = grown_scene c.args.u.now c.args.s.now c.add_constant.new.self c.requires.scene c.in_ok-value.ensures.grown

pub returns-clause-adds : goal.returns-clause-adds
returns-clause-adds c =
    stays_adds _ _ _ c.args.item _ _
    (added_constant c.args.s.now c.add_constant.new.self c.args.of c.args.last c.in_ok-value.value c.args.value c.in_ok-value.ensures.table c.in_ok-value.ensures.added c.in_ok-value.ensures.constants)
    c.in_ok-value.ensures.grown.stays c.in_ok-keep_mark.ensures.adds

pub returns-clause-cells : goal.returns-clause-cells
returns-clause-cells c = c.keep_mark.ensures.cells ∙ ap (λ (cells : Filled). length cells.items) c.in_ok-value.ensures.cells
