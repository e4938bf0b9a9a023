use Rattle.std.proofs.Common.{ap}
use Rattle.analysis_core.specs.declared.reply.Reply.{Reply}
use Rattle.tree_report.proofs.PlainLemmas.{limit-stands}
use Rattle.tree_report.proofs.run.reply_over.Goals as goal

pub returns-clause-limit : goal.returns-clause-limit
returns-clause-limit c = record { limit = c.args.limit; first = c.requires; replies = c.limit_reply.ensures }

pub returns-clause-stands : goal.returns-clause-stands
returns-clause-stands c = λ asked. limit-stands asked c.args.files.now c.limit_reply.result c.args.limit c.limit_reply.ensures

pub returns-clause-changed : goal.returns-clause-changed
returns-clause-changed c = ap (λ (r : Reply). r.changed) c.limit_reply.ensures
