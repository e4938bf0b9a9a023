use Rattle.std.proofs.Common.{◌≡◌, ◌∙◌, ◌++◌, ◌∷◌, [], List, ℕ, ap}
use Rattle.action_graph.specs.Nodes.{Named, pairs}
use Rattle.action_graph.proofs.RunLaws.{run-texts}
use Rattle.gv_driver.proofs.runs.looked_up.Goals as goal

pub sought-requires : goal.sought-requires
sought-requires c =
    let run = c.args.run.now in
    record {
      texts = c.in_ok-texts.ensures
          ∙ (ap (λ (f : List Named). c.args.parts.now ++ pairs f) c.as_slice.ensures
          ∙ (ap (λ (l : List (List ℕ)). l ++ pairs run.facts) c.requires.parts ∙ run-texts run.load run.facts));
    }
