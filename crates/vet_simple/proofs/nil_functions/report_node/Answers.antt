use Rattle.std.proofs.Common.{None}
use Rattle.analysis_core.specs.declared.analyzer_name.AnalyzerName.TheVariants as analyzer
use Rattle.findings.specs.Passes.{unit_in, marks_in}
use Rattle.vet_words.specs.Called.{IsFunction}
use Rattle.vet_words.specs.Diagnosing.{diagnosed}
use Rattle.vet_simple.specs.NilFunctions.{compared_text}
use Rattle.vet_simple.proofs.GainLemmas.{gains_held}
use Rattle.vet_simple.proofs.nil_functions.report_node.Goals as goal

pub returns-then-counts : goal.returns-then-counts
returns-then-counts c =
    let u = unit_in c.args.p.now in
    gains_held (IsFunction u (marks_in c.args.p.now) c.args.file c.args.n c.args.named.now) c.in_ok-counts.counts (diagnosed u c.args.file analyzer.NilFunc (compared_text u c.args.file c.args.n c.args.outcome.now) None c.args.node.now)
    c.args.found.now.items c.push_compared.new.found.items c.in_ok-counts.ensures c.if-counts.true c.in_ok-push_compared.ensures
