use Rattle.std.proofs.Common.{◌≡◌, ◌∙◌, ◌++◌, ◌∷◌, [], ap, sym, subst}
use Rattle.action_graph.specs.declared.kit.LoadInput.{LoadInput}
use Rattle.action_graph.specs.declared.kit.RunInput.{RunInput}
use Rattle.action_graph.specs.Analyzing.{IsRunLawful, IsRunOutcome}
use Rattle.action_graph.specs.Nodes.{load_texts}
use Rattle.gv_driver.specs.Caches.{left_of}
use Rattle.gv_driver.specs.Loads.{run_input}
use Rattle.gv_driver.proofs.runs.seek.Goals as goal

pub looked_over-requires : goal.looked_over-requires
looked_over-requires c = record { parts = c.requires.parts ∙ ap (λ (l : LoadInput). load_texts l ++ [] ∷ []) (sym c.set_run.ensures.load) }

pub returns-clause-number : goal.returns-clause-number
returns-clause-number c = c.in_ok-node.ensures.number ∙ ap (λ (r : RunInput). r.analyzer) c.in_ok-set_run.ensures.is

pub returns-clause-fresh : goal.returns-clause-fresh
returns-clause-fresh c = c.in_ok-node.ensures.fresh ∙ ap (λ (r : RunInput). left_of c.args.cache.now (run_input r)) c.in_ok-set_run.ensures.is

pub returns-clause-found : goal.returns-clause-found
returns-clause-found c = λ honest lawful none.
    subst (λ (r : RunInput). IsRunOutcome r c.in_ok-node.node.outcome) c.in_ok-set_run.ensures.is
    (c.in_ok-node.ensures.found honest (subst (λ (r : RunInput). IsRunLawful r) (sym c.in_ok-set_run.ensures.is) lawful) none)
