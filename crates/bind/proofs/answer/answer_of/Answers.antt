use Rattle.std.proofs.Common.{sym, ap, ◌∙◌, option_map}
use Rattle.bind.specs.Answers.{named_answer}
use Rattle.bind.specs.Places.{placed}
use Rattle.bind.specs.Tables.{found}
use Rattle.bind.proofs.StepLemmas.{used_answer}
use Rattle.bind.proofs.answer.answer_of.Goals as goal

pub returns-in-Some : goal.returns-in-Some
returns-in-Some c =
    used_answer c.args.file.now c.args.number (record { top_names = found c.args.top_names.now; imports = found c.args.imports.now; universe = placed c.args.universe.now }) c.args.at _ c.named_answer.result
    (sym c.used_name.ensures ∙ ap (λ o. option_map (λ n. n.now) o) c.in-Some.is) c.named_answer.ensures

pub returns-in-None : goal.returns-in-None
returns-in-None c =
    ap (λ o. named_answer c.args.file.now c.args.number (record { top_names = found c.args.top_names.now; imports = found c.args.imports.now; universe = placed c.args.universe.now }) c.args.at o)
    (ap (λ o. option_map (λ n. n.now) o) (sym c.in-None.is) ∙ c.used_name.ensures)
