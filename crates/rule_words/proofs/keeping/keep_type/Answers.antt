use Rattle.std.proofs.Common.{length, ap, ◌∙◌}
use Rattle.typed_marks.specs.Cells.{Filled}
use Rattle.rule_words.specs.Scenes.{said}
use Rattle.rule_words.proofs.KeepLemmas.{grown_scene, stays_adds, added_typed}
use Rattle.rule_words.proofs.keeping.keep_type.Goals as goal

pub keep_mark-requires-clause-scene : goal.keep_mark-requires-clause-scene
keep_mark-requires-clause-scene c = grown_scene c.args.u.now c.args.s.now c.add.new.self c.requires.scene c.in_ok-added.ensures.grown

pub returns-clause-adds : goal.returns-clause-adds
returns-clause-adds c =
    stays_adds _ _ _ c.args.item _ _
    (ap (said c.add.new.self) c.mark_of.ensures ∙ added_typed c.args.s.now c.add.new.self c.args.mode c.in_ok-added.added c.args.term c.in_ok-added.ensures.added)
    c.in_ok-added.ensures.grown.stays c.in_ok-keep_mark.ensures.adds

pub returns-clause-cells : goal.returns-clause-cells
returns-clause-cells c = c.keep_mark.ensures.cells ∙ ap (λ (cells : Filled). length cells.items) c.in_ok-added.ensures.cells
