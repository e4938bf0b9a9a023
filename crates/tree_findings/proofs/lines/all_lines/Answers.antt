use Rattle.std.proofs.Common.{◌++◌, ◌∙◌, List, ap, map}
use Rattle.analysis_core.specs.declared.diagnostic.Diagnostic.{Diagnostic}
use Rattle.tree_findings.specs.Lines.{line_in_tree}
use Rattle.tree_findings.proofs.LineLemmas.{lines-more}
use Rattle.tree_findings.proofs.lines.all_lines.Goals as goal

pub loop-k-preserved : goal.loop-k-preserved
loop-k-preserved c =
    lines-more c.args.packages.now c.args.found.now c.loop-k.k c.index-packages-k.result c.index-found-k.result c.loop-k.lines.items c.push_lines.new.lines.items c.loop-k-test.true c.requires c.index-packages-k.is c.index-found-k.is
    c.loop-k.invariant (c.in_ok-push_lines.ensures ∙ ap (λ (ds : List Diagnostic). c.loop-k.lines.items ++ map (line_in_tree c.index-packages-k.result.path c.index-packages-k.result.files) ds) c.as_slice.ensures)
