use Rattle.std.proofs.Common.{arith}
use Rattle.body_facts.proofs.LabelLemmas.{second_only, second_none}
use Rattle.body_facts.proofs.label_tables.second_at.Goals as goal

pub returns-then-label : goal.returns-then-label
returns-then-label c = second_only c.args.rows.now c.args.k c.label_at-label.result c.label_at-label.ensures c.if-label.true

pub returns : goal.returns
returns c = second_none c.args.rows.now c.args.k c.label_at-label.result c.label_at-label.ensures c.if-label.false
