use Rattle.std.proofs.Common.{◌≡◌, ◌∙◌, Option, sym, subst, ap, Some, None, List, ℕ}
use Rattle.fact_cache.specs.Caches.{lookup}
use Rattle.fact_cache.specs.declared.texts.Input.{Input}
use Rattle.action_graph.specs.Analyzing.{IsRunOutcome}
use Rattle.action_graph.specs.Nodes.{run_texts}
use Rattle.gv_driver.specs.Loads.{run_input}
use Rattle.gv_driver.proofs.LoadingLaws.{by-texts, found-run, left-found, left-missing}
use Rattle.gv_driver.proofs.runs.sought.Goals as goal

pub returns-in_ok-outcome-in-Some-clause-fresh : goal.returns-in_ok-outcome-in-Some-clause-fresh
returns-in_ok-outcome-in-Some-clause-fresh c =
    let e : lookup c.args.cache.now (run_input c.args.run.now) ≡ Some c.in-Some.text.now =
    by-texts c.args.cache.now c.args.run.now.analyzer c.args.texts.now (run_texts c.args.run.now) (Some c.in-Some.text.now) c.requires.texts c.in-Some.ensures in
    left-found c.args.cache.now (run_input c.args.run.now) c.in-Some.text.now e

pub returns-in_ok-outcome-in-Some-clause-found : goal.returns-in_ok-outcome-in-Some-clause-found
returns-in_ok-outcome-in-Some-clause-found c = λ honest lawful none.
    let e : lookup c.args.cache.now (run_input c.args.run.now) ≡ Some c.in-Some.text.now =
    by-texts c.args.cache.now c.args.run.now.analyzer c.args.texts.now (run_texts c.args.run.now) (Some c.in-Some.text.now) c.requires.texts c.in-Some.ensures in
    subst (λ (t : List ℕ). IsRunOutcome c.args.run.now t) (sym c.in_ok-outcome-in-Some.ensures) (found-run c.args.cache.now c.args.run.now c.in-Some.text.now honest lawful e)

pub returns-in_ok-key-in-None-clause-fresh : goal.returns-in_ok-key-in-None-clause-fresh
returns-in_ok-key-in-None-clause-fresh c =
    let e : lookup c.args.cache.now (run_input c.args.run.now) ≡ None =
    by-texts c.args.cache.now c.args.run.now.analyzer c.args.texts.now (run_texts c.args.run.now) None c.requires.texts c.in-None.ensures in
    left-missing c.args.cache.now (run_input c.args.run.now) c.in_ok-key-in-None.key e c.in_ok-key-in-None.ensures

pub returns-in_ok-key-in-None-clause-found : goal.returns-in_ok-key-in-None-clause-found
returns-in_ok-key-in-None-clause-found c = λ honest lawful none. (let wrong : Some c.in_ok-key-in-None.key ≡ None = none in cc)
