use Rattle.std.proofs.Common.{ℕ, subst}
use Rattle.rule_words.specs.Scenes.{type_in}
use Rattle.findings.specs.Gains.{Gains}
use Rattle.findings.specs.Passes.{unit_in, marks_in}
use Rattle.vet_printf.specs.declared.ways.Way.{Way}
use Rattle.vet_printf.specs.Calls.{param_count, IsWayFound}
use Rattle.vet_printf.proofs.calls.report_known.Goals as goal

pub returns : goal.returns
returns c =
    let p = c.args.p.now in
    subst (λ (w : Way). Gains (IsWayFound (unit_in p) (marks_in p) c.args.file c.args.node.now c.args.callee (param_count (type_in p.state.now c.args.x.of)) w) c.args.found.now.items c.report_way.new.found.items) c.way_at-way.ensures
    (subst (λ (k : ℕ). Gains (IsWayFound (unit_in p) (marks_in p) c.args.file c.args.node.now c.args.callee k c.way_at-way.result) c.args.found.now.items c.report_way.new.found.items) c.param_count-count.ensures c.in_ok-report_way.ensures)
