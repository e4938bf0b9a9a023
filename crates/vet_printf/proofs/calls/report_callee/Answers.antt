use Rattle.std.proofs.Common.{ℕ, subst}
use Rattle.findings.specs.Gains.{Gains}
use Rattle.findings.specs.Passes.{unit_in, marks_in}
use Rattle.vet_printf.specs.Calls.{kinds_at, IsBareFound}
use Rattle.vet_printf.proofs.calls.report_callee.Goals as goal

pub returns : goal.returns
returns c =
    subst (λ (n : ℕ). Gains (IsBareFound (kinds_at c.args.kinds.now.items) (unit_in c.args.p.now) (marks_in c.args.p.now) c.args.file c.args.node.now c.args.callee n) c.args.found.now.items c.report_bare.new.found.items) c.bare_at-n.ensures
    c.in_ok-report_bare.ensures
