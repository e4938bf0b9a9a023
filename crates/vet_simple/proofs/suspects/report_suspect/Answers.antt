use Rattle.std.proofs.Common.{ℕ, ◌++◌, [], List, Option, option_map, append-nil, ap, sym, ◌∙◌}
use Rattle.std.specs.Option.{option_map_or}
use Rattle.analysis_core.specs.declared.diagnostic.Diagnostic.{Diagnostic}
use Rattle.vet_words.specs.Texts.{key_at}
use Rattle.findings.specs.Passes.{unit_in, marks_in}
use Rattle.vet_simple.specs.Bools.{suspect_by}
use Rattle.vet_simple.specs.InRuns.{compared_key}
use Rattle.vet_simple.proofs.RunLemmas.{table_same}
use Rattle.vet_simple.proofs.suspects.report_suspect.Goals as goal

pub returns-in-None-clause-found : goal.returns-in-None-clause-found
returns-in-None-clause-found c = λ run was.
    let u = unit_in c.args.p.now in
    let marks = marks_in c.args.p.now in
    sym (append-nil c.args.found.now.items)
    ∙ ap (λ (l : List Diagnostic). c.args.found.now.items ++ l) (sym (ap (λ (o : Option ℕ). option_map_or (suspect_by u marks c.args.file c.args.c run c.args.x) o []) (sym c.tested.ensures ∙ c.in-None.is)))

pub returns-in-None-clause-met : goal.returns-in-None-clause-met
returns-in-None-clause-met c = λ run was.
    let u = unit_in c.args.p.now in
    let marks = marks_in c.args.p.now in
    table_same (compared_key u marks c.args.file c.args.c) run c.args.x c.args.met.now was (ap (λ (o : Option ℕ). option_map (key_at u c.args.file) o) (sym c.tested.ensures ∙ c.in-None.is))
