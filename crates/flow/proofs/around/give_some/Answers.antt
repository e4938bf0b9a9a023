use Rattle.std.proofs.Common.{◌∙◌, length, sym, subst}
use Rattle.flow.specs.Around.{AreGiven}
use Rattle.flow.proofs.AroundLemmas.{filled_more, filled_same}
use Rattle.flow.proofs.around.give_some.Goals as goal

pub give-requires-clause-size : goal.give-requires-clause-size
give-requires-clause-size c = c.requires.filled.size

pub returns-then-gives_nothing : goal.returns-then-gives_nothing
returns-then-gives_nothing c =
    let nothing = c.gives_nothing.ensures.0 c.if-gives_nothing.true in
    filled_same c.args.tree.now c.args.p c.args.node.now c.args.table.now.items c.requires.tree c.requires.filled c.requires.p c.requires.node
    nothing.0 nothing.1 (sym c.requires.around ∙ nothing.2)

pub returns : goal.returns
returns c =
    filled_more c.args.tree.now c.args.p c.args.node.now c.args.table.now.items c.give.new.table.items c.requires.tree c.requires.filled c.requires.p c.requires.node
    (subst (λ a. AreGiven c.args.tree.now c.args.p c.args.node.now a (length c.args.node.now.parts) c.args.table.now.items c.give.new.table.items) c.requires.around c.give.ensures)
