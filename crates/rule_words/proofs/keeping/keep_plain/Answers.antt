use Rattle.rule_words.proofs.KeepLemmas.{kept_scene}
use Rattle.rule_words.proofs.keeping.keep_plain.Goals as goal

pub returns-clause-scene : goal.returns-clause-scene
returns-clause-scene c =
    kept_scene c.args.u.now c.args.s.now c.keep.new.self c.args.item c.args.mark c.requires.scene c.requires.unmarked c.requires.plain
    c.in_ok-keep.ensures.state c.keep.ensures.table c.keep.ensures.blocks c.in_ok-keep.ensures.adds
