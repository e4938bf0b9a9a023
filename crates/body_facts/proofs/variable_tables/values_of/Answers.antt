use Rattle.std.proofs.Common.{false, arith}
use Rattle.unit_read.specs.Subjects.{unit_of}
use Rattle.body_facts.specs.NameTables.{is_variable}
use Rattle.body_facts.proofs.ValueLemmas.{no_values, value_more, value_all}
use Rattle.body_facts.proofs.variable_tables.values_of.Goals as goal

pub loop-n-init : goal.loop-n-init
loop-n-init c = no_values (is_variable (unit_of c.args.u.now) c.args.file c.args.inside.now) false c.new-flags.result.items c.new-flags.ensures.items

pub loop-n-preserved : goal.loop-n-preserved
loop-n-preserved c =
    value_more (is_variable (unit_of c.args.u.now) c.args.file c.args.inside.now) false c.is_variable-value.result c.loop-n.n c.loop-n.flags.items c.push.new.self.items c.in_ok-push.ensures.items c.is_variable-value.ensures c.loop-n.invariant

pub returns : goal.returns
returns c =
    value_all (is_variable (unit_of c.args.u.now) c.args.file c.args.inside.now) false c.loop-n.n c.args.count c.loop-n.flags.items (let t = c.loop-n-test.false in let e = c.loop-n.auto.n-end in omega arith) c.loop-n.invariant
