use Rattle.std.proofs.Common.{◌∙◌, not, sym, ap}
use Rattle.flow.proofs.SeenLemmas.{flag_behind, marked_behind}
use Rattle.flow.proofs.seen.mark_behind.Goals as goal

pub returns-clause-added : goal.returns-clause-added
returns-clause-added c = c.in_ok-added.ensures.added ∙ ap not (sym (flag_behind c.args.seen.now c.args.at c.requires))

pub returns-clause-marked : goal.returns-clause-marked
returns-clause-marked c =
    let s = c.args.seen.now in
    marked_behind s.start c.args.at s.before.items s.behind.items c.mark_flag.new.flags.items c.requires c.in_ok-added.ensures.marked
