use Rattle.std.proofs.Common.{sym, ap, ◌∙◌}
use Rattle.gv_bytes.proofs.Options.{some_is}
use Rattle.action_graph.specs.Marks.{marks_of}
use Rattle.action_graph.proofs.Lines.{marks_again}
use Rattle.action_graph.proofs.laws.one_marks_text.Goals as goal

pub returns : goal.returns
returns c = λ xs ys p q e. some_is xs ys (sym (marks_again xs p) ∙ ap marks_of e ∙ marks_again ys q)
