use Rattle.std.proofs.Common.{ℕ, List, All, sym, subst}
use Rattle.analysis_core.specs.declared.diagnostic.Diagnostic.{Diagnostic}
use Rattle.analysis_core.specs.Findings.{AreFindings, IsOwn}
use Rattle.go_kit.proofs.analyzing.outcome_in.Goals as goal

pub write_findings-requires : goal.write_findings-requires
write_findings-requires c =
    subst (λ (ds : List Diagnostic). All IsOwn ds) (sym c.deref.ensures.value) (c.fixes_are_own.ensures c.args.asked.now.analyzer _ _ _ _ c.in_ok-told.told.found.items c.in_ok-told.ensures.found)

pub returns : goal.returns
returns c = record {
  findings = (
    c.in_ok-told.told.found.items,
    c.in_ok-told.ensures.found,
    subst (λ (text : List ℕ). AreFindings c.in_ok-told.told.found.items text) (sym c.new.ensures) (subst (λ (ds : List Diagnostic). AreFindings ds c.in_ok-text.text.items) c.deref.ensures.value c.in_ok-text.ensures),
  );
  facts = c.in_ok-told.ensures.facts;
}
