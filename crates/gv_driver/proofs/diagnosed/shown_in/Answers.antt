use Rattle.std.proofs.Common.{◌≡◌, ◌∙◌, ◌<◌, ◌^◌, List, ℕ, length, sym, ap, subst, arith}
use Rattle.analysis_core.specs.Findings.{AreFindings}
use Rattle.action_graph.specs.Outcomes.{findings_of, outcome_text}
use Rattle.action_graph.proofs.OutcomeLaws.{told}
use Rattle.gv_driver.proofs.diagnosed.shown_in.Goals as goal

pub returns : goal.returns
returns c = record {
  stand = c.in_ok-found.ensures.stand;
  told = λ findings facts ds e spelled all.
      let long : length c.args.outcome.now ≡ length (outcome_text findings facts) = ap (λ (l : List ℕ). length l) e in
      let text : c.findings_in.result.now ≡ findings = c.findings_in.ensures ∙ (ap findings_of e ∙ (told findings facts (omega (arith, long))).0) in
      c.in_ok-found.ensures.right ds (subst (λ (t : List ℕ). AreFindings ds t) (sym text) spelled) all;
}
