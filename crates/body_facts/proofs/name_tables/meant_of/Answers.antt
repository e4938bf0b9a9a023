use Rattle.std.proofs.Common.{None, arith}
use Rattle.unit_read.specs.Subjects.{cell}
use Rattle.body_facts.specs.NameTables.{meant_at}
use Rattle.body_facts.proofs.ValueLemmas.{no_values, value_more, value_all}
use Rattle.body_facts.proofs.name_tables.meant_of.Goals as goal

pub loop-n-init : goal.loop-n-init
loop-n-init c = no_values (meant_at (cell c.args.meant.now.items) c.args.file) None c.in_ok-found.found.items c.in_ok-found.ensures.items

pub loop-n-preserved : goal.loop-n-preserved
loop-n-preserved c =
    value_more (meant_at (cell c.args.meant.now.items) c.args.file) None c.meant_at-value.result c.loop-n.n c.loop-n.found.items c.push.new.self.items c.in_ok-push.ensures.items c.meant_at-value.ensures c.loop-n.invariant

pub returns : goal.returns
returns c =
    value_all (meant_at (cell c.args.meant.now.items) c.args.file) None c.loop-n.n c.args.count c.loop-n.found.items (let t = c.loop-n-test.false in let e = c.loop-n.auto.n-end in omega arith) c.loop-n.invariant
