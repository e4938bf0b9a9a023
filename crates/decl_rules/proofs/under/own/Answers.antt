use Rattle.typed_marks.specs.declared.item.Stage.TheVariants as st
use Rattle.unit_read.specs.Subjects.{unit_of}
use Rattle.rule_words.specs.Scenes.{sight, said}
use Rattle.rule_words.specs.Good.{known_of}
use Rattle.decl_rules.proofs.UnderLemmas.{standing}
use Rattle.decl_rules.proofs.under.own.Goals as goal

pub known_type-requires-clause-stands : goal.known_type-requires-clause-stands
known_type-requires-clause-stands c =
    let s = c.args.s.now in
    standing (unit_of c.args.u.now) (sight s) st.Object c.args.name.file c.args.name.node (said s c.args.m) (known_of s c.in-Some.x) c.requires.told c.in-Some.ensures.is
