use Rattle.top_calls.proofs.ExistLaws.{has-due}
use Rattle.top_calls.proofs.laws.each_script_has_a_due_output.Goals as goal

pub returns : goal.returns
returns c = λ outcomes analyses o kept cache greeting opens text goes. has-due (c.each_tree_has_a_report.ensures outcomes analyses) o kept c.args.script.now c.each_script_is_read_to_its_end.ensures cache greeting opens text goes
