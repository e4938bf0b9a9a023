use Rattle.std.proofs.Common.{true, None, sym, ◌∙◌}
use Rattle.std.specs.Prelude.{codes}
use Rattle.unit_read.specs.Subjects.{flag}
use Rattle.analysis_core.specs.declared.analyzer_name.AnalyzerName.TheVariants as analyzer
use Rattle.findings.specs.Passes.{unit_in}
use Rattle.vet_words.specs.Diagnosing.{diagnosed}
use Rattle.vet_flow.specs.Unreachable.{IsDeadAt}
use Rattle.vet_flow.proofs.DeadLemmas.{gains_held, gains_unheld}
use Rattle.vet_flow.proofs.unreachable.report_dead.Goals as goal

pub returns-then-flag : goal.returns-then-flag
returns-then-flag c =
    let u = unit_in c.args.p.now in
    gains_held (IsDeadAt u c.args.at) (flag c.args.dead.now.items c.args.at) (diagnosed u c.args.at.file analyzer.Unreachable (codes "unreachable code") None c.args.node.now) c.args.found.now.items c.push_dead.new.found.items
    (c.requires.dead c.args.at c.args.node.now c.requires.node) (sym c.flag.ensures ∙ c.if-flag.true) c.in_ok-push_dead.ensures

pub returns : goal.returns
returns c =
    let u = unit_in c.args.p.now in
    gains_unheld (IsDeadAt u c.args.at) (flag c.args.dead.now.items c.args.at) (diagnosed u c.args.at.file analyzer.Unreachable (codes "unreachable code") None c.args.node.now) c.args.found.now.items
    (c.requires.dead c.args.at c.args.node.now c.requires.node) (sym c.flag.ensures ∙ c.if-flag.false)
