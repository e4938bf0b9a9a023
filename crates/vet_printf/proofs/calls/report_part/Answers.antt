use Rattle.std.proofs.Common.{sym, ◌∙◌}
use Rattle.package_objects.specs.Declares.{part}
use Rattle.findings.specs.Passes.{unit_in, marks_in}
use Rattle.findings.proofs.GainLemmas.{gains_some, gains_nothing}
use Rattle.vet_printf.specs.Calls.{kinds_at, IsCalleeFound}
use Rattle.vet_printf.proofs.calls.report_part.Goals as goal

pub returns-in_ok-report_callee-in-Some : goal.returns-in_ok-report_callee-in-Some
returns-in_ok-report_callee-in-Some c =
    gains_some (part c.args.node.now 0) (IsCalleeFound (kinds_at c.args.kinds.now.items) (unit_in c.args.p.now) (marks_in c.args.p.now) c.args.file c.args.node.now) c.in-Some.callee c.args.found.now.items c.report_callee.new.found.items
    (sym c.part_of.ensures ∙ c.in-Some.is) c.in_ok-report_callee-in-Some.ensures

pub returns-in-None : goal.returns-in-None
returns-in-None c =
    gains_nothing (part c.args.node.now 0) (IsCalleeFound (kinds_at c.args.kinds.now.items) (unit_in c.args.p.now) (marks_in c.args.p.now) c.args.file c.args.node.now) c.args.found.now.items (sym c.part_of.ensures ∙ c.in-None.is)
