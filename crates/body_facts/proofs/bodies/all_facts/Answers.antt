use Rattle.std.proofs.Common.{arith}
use Rattle.unit_read.specs.Subjects.{unit_of, cell}
use Rattle.body_facts.proofs.BodyLemmas.{no_facts, facts_more, facts_all}
use Rattle.body_facts.proofs.bodies.all_facts.Goals as goal

pub loop-k-init : goal.loop-k-init
loop-k-init c = no_facts (unit_of c.args.u.now) (cell c.args.meant.now.items) c.new-list.result.items c.new-list.ensures.items

pub loop-k-preserved : goal.loop-k-preserved
loop-k-preserved c =
    facts_more (unit_of c.args.u.now) (cell c.args.meant.now.items) c.loop-k.k c.tree_at.result.now c.text_at.result.now c.in_ok-facts.facts c.loop-k.list.items c.push.new.self.items
    c.tree_at.ensures c.text_at.ensures c.in_ok-facts.ensures c.in_ok-push.ensures.items c.loop-k.invariant

pub returns : goal.returns
returns c = facts_all (unit_of c.args.u.now) (cell c.args.meant.now.items) c.loop-k.k _ c.loop-k.list.items (let t = c.loop-k-test.false in let e = c.loop-k.auto.k-end in omega arith) c.loop-k.invariant
