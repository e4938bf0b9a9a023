use Rattle.vet_printf.proofs.JudgeLemmas.{one_judged}
use Rattle.vet_printf.proofs.kept.judge_type.Goals as goal

pub returns-in_ok-argument-in-None : goal.returns-in_ok-argument-in-None
returns-in_ok-argument-in-None c = one_judged c.args.t.now c.args.id.0 c.in_ok-argument-in-None.argument c.args.cells.now.items c.put.new.cells.items c.requires.cells c.in_ok-argument-in-None.ensures c.put.ensures
