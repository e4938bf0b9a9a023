use Rattle.face_table.proofs.UniverseLemmas.{too_wide, is_under}
use Rattle.face_table.proofs.universe.add_under.Goals as goal

pub unreachable-requires : goal.unreachable-requires
unreachable-requires c =
    too_wide c.args.t.now c.add.new.self c.in_ok-term.term c.in_ok-added.added c.requires.basics c.in_ok-term.ensures c.in-TooWide.is c.in_ok-added.ensures.added

pub returns-clause-under : goal.returns-clause-under
returns-clause-under c =
    is_under c.args.t.now c.add.new.self c.in_ok-term.term c.in_ok-added.added c.in-Id.id c.requires.basics c.in_ok-term.ensures c.in-Id.is c.in_ok-added.ensures.added
