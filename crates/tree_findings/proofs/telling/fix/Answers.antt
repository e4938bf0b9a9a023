use Rattle.std.proofs.Common.{All, List, subst, sym}
use Rattle.analysis_core.specs.declared.reply.FoundLine.{FoundLine}
use Rattle.tree_findings.specs.Lines.{all_lines}
use Rattle.tree_findings.specs.Mending.{FoundFits}
use Rattle.tree_findings.proofs.LineLemmas.{settled-all}
use Rattle.tree_findings.proofs.telling.fix.Goals as goal

pub mend-requires : goal.mend-requires
mend-requires c =
    subst (λ (found : List FoundLine). All (FoundFits c.args.files.now) found) (sym c.deref.ensures.value)
    (settled-all (FoundFits c.args.files.now) (all_lines c.args.results.now.packages.now c.args.results.now.found.now) c.in_ok-found.found.items c.in_ok-found.ensures c.requires.fit)
