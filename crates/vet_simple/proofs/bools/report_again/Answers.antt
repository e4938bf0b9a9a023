use Rattle.std.proofs.Common.{ℕ, Bool, ◌++◌, [], List, is_some, if◌then◌else◌, None, ap, sym, ◌∙◌, refl}
use Rattle.std.specs.Str.{bytes_eq}
use Rattle.analysis_core.specs.declared.analyzer_name.AnalyzerName.TheVariants as analyzer
use Rattle.vet_words.specs.Diagnosing.{diagnosed_at}
use Rattle.vet_words.specs.Texts.{key_at}
use Rattle.findings.specs.Passes.{unit_in}
use Rattle.vet_simple.specs.Bools.{pair_text, redundant_word}
use Rattle.vet_simple.specs.InRuns.{kept, noted, operand_key}
use Rattle.vet_simple.proofs.RunLemmas.{again_is, table_more}
use Rattle.vet_simple.proofs.bools.report_again.Goals as goal

pub returns-clause-found : goal.returns-clause-found
returns-clause-found c = λ run was.
    let u = unit_in c.args.p.now in
    c.in_ok-push_again.ensures
    ∙ ap (λ (b : Bool). c.args.found.now.items
    ++ (if b then diagnosed_at u c.args.file c.args.x analyzer.Bools (pair_text u c.args.file c.args.c (redundant_word c.args.c) c.args.x c.args.x) None else []))
    (ap is_some (c.in_ok-before.ensures.before ∙ (ap (λ (q : List ℕ). kept c.args.met.now q) c.in_ok-key.ensures ∙ was (key_at u c.args.file c.args.x))) ∙ sym (again_is u c.args.file run c.args.x))

pub returns-clause-met : goal.returns-clause-met
returns-clause-met c = λ run was.
    let u = unit_in c.args.p.now in
    table_more (operand_key u c.args.file) run c.args.x (key_at u c.args.file c.args.x) c.args.met.now c.note.new.met was refl
    (λ k. c.in_ok-before.ensures.after k ∙ ap (λ (q : List ℕ). noted (kept c.args.met.now k) (bytes_eq q k) c.args.x) c.in_ok-key.ensures)
