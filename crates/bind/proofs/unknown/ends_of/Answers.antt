use Rattle.std.proofs.Common.{ℕ, length, subst, arith}
use Rattle.bind.specs.Undeclared.{counts, AreZeros}
use Rattle.bind.proofs.UndeclaredLemmas.{no_ends_yet, ends_more, all_ends}
use Rattle.bind.proofs.unknown.ends_of.Goals as goal

pub loop-i-init : goal.loop-i-init
loop-i-init c =
    no_ends_yet (counts c.args.file.now c.args.name.now) c.args.file.now.locals.names.items (length c.args.file.now.tree.now.nodes) c.in_ok-ends.ends.items
    (subst (λ (n : ℕ). AreZeros n c.in_ok-ends.ends.items) c.count_nodes.ensures c.in_ok-ends.ensures)

pub loop-i-preserved : goal.loop-i-preserved
loop-i-preserved c =
    ends_more (counts c.args.file.now c.args.name.now) c.args.file.now.locals.names.items c.loop-i.i (length c.args.file.now.tree.now.nodes) c.loop-i.ends.items c.note_nth.new.ends.items c.loop-i.invariant c.note_nth.ensures

pub returns : goal.returns
returns c =
    all_ends (counts c.args.file.now c.args.name.now) c.args.file.now.locals.names.items c.loop-i.i (length c.args.file.now.tree.now.nodes) c.loop-i.ends.items
    (omega (arith, c.loop-i-test.false, c.loop-i.auto.i-end, c.name_count-i-end.ensures)) c.loop-i.invariant
