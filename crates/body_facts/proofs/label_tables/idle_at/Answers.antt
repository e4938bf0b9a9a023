use Rattle.body_facts.proofs.LabelLemmas.{idle_only, idle_used}
use Rattle.body_facts.proofs.label_tables.idle_at.Goals as goal

pub returns-then-label : goal.returns-then-label
returns-then-label c = idle_used c.args.rows.now c.args.k c.label_at-label.result c.label_at-label.ensures c.if-label.true

pub returns : goal.returns
returns c = idle_only c.args.rows.now c.args.k c.label_at-label.result c.label_at-label.ensures c.if-label.false
