use Rattle.std.proofs.Common.{None}
use Rattle.analysis_core.specs.declared.analyzer_name.AnalyzerName.TheVariants as analyzer
use Rattle.findings.specs.Passes.{unit_in, marks_in}
use Rattle.vet_words.specs.Diagnosing.{diagnosed}
use Rattle.vet_simple.specs.Unused.{IsResult, unused_text}
use Rattle.vet_simple.proofs.GainLemmas.{gains_held}
use Rattle.vet_simple.proofs.unused.report_named.Goals as goal

pub returns-then-counts : goal.returns-then-counts
returns-then-counts c =
    let u = unit_in c.args.p.now in
    gains_held (IsResult u (marks_in c.args.p.now) c.args.file c.args.n c.args.named.now) c.in_ok-counts.counts (diagnosed u c.args.file analyzer.UnusedResult (unused_text u c.args.file c.args.callee) None c.args.node.now)
    c.args.found.now.items c.push_unused.new.found.items c.in_ok-counts.ensures c.if-counts.true c.in_ok-push_unused.ensures
