use Rattle.std.proofs.Common.{ℕ, ◌++◌, [], List, Option, option_map, ap, sym, ◌∙◌}
use Rattle.std.specs.Option.{option_map_or}
use Rattle.std.specs.Str.{bytes_eq}
use Rattle.analysis_core.specs.declared.diagnostic.Diagnostic.{Diagnostic}
use Rattle.vet_words.specs.Texts.{key_at}
use Rattle.findings.specs.Passes.{unit_in, marks_in}
use Rattle.vet_simple.specs.Bools.{suspect_pair, suspect_by}
use Rattle.vet_simple.specs.InRuns.{kept, noted, compared_key}
use Rattle.vet_simple.proofs.RunLemmas.{testing_is, table_more}
use Rattle.vet_simple.proofs.suspects.report_compared.Goals as goal

pub returns-clause-found : goal.returns-clause-found
returns-clause-found c = λ run was.
    let u = unit_in c.args.p.now in
    let marks = marks_in c.args.p.now in
    c.in_ok-push_before.ensures
    ∙ ap (λ (l : List Diagnostic). c.args.found.now.items ++ l)
    (ap (λ (o : Option ℕ). option_map_or (suspect_pair u c.args.file c.args.c c.args.x) o [])
    (c.in_ok-before.ensures.before
    ∙ (ap (λ (q : List ℕ). kept c.args.met.now q) c.in_ok-key.ensures ∙ (was (key_at u c.args.file c.args.t) ∙ sym (testing_is u marks c.args.file c.args.c run c.args.t))))
    ∙ sym (ap (λ (o : Option ℕ). option_map_or (suspect_by u marks c.args.file c.args.c run c.args.x) o []) c.requires))

pub returns-clause-met : goal.returns-clause-met
returns-clause-met c = λ run was.
    let u = unit_in c.args.p.now in
    let marks = marks_in c.args.p.now in
    table_more (compared_key u marks c.args.file c.args.c) run c.args.x (key_at u c.args.file c.args.t) c.args.met.now c.note.new.met was (ap (λ (o : Option ℕ). option_map (key_at u c.args.file) o) c.requires)
    (λ k. c.in_ok-before.ensures.after k ∙ ap (λ (q : List ℕ). noted (kept c.args.met.now k) (bytes_eq q k) c.args.x) c.in_ok-key.ensures)
