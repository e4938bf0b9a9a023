use Rattle.file_uses.proofs.AssignedLemmas.{flagged}
use Rattle.file_uses.proofs.file.uses_of.Goals as goal

pub returns : goal.returns
returns c =
    flagged c.args.tree.now.nodes c.args.names.now.items c.deref.result.now c.deref-4.result.now c.args.numbers.now.of.items c.deref-2.result.now c.args.numbers.now.count
    c.args.firsts.now.first.items c.deref-5.result.now c.in_ok-keys.keys.items c.deref-3.result.now c.in_ok-once.once.items c.deref-6.result.now c.in_ok-uses.uses.items c.mark_assigned.new.flags.items
    c.deref.ensures.value c.deref-2.ensures.value c.in_ok-keys.ensures c.deref-3.ensures.value c.in_ok-once.ensures c.in_ok-uses.ensures
    c.deref-4.ensures.value c.deref-5.ensures.value c.deref-6.ensures.value c.mark_assigned.ensures
