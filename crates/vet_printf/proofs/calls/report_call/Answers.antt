use Rattle.std.proofs.Common.{sym, ◌∙◌}
use Rattle.package_objects.specs.Declares.{part}
use Rattle.findings.specs.Gains.{OfSome}
use Rattle.findings.specs.Passes.{unit_in, marks_in}
use Rattle.findings.proofs.GainLemmas.{gains_if, gains_unless}
use Rattle.vet_words.specs.Forms.{is_plain_call}
use Rattle.vet_printf.specs.Calls.{kinds_at, IsCalleeFound}
use Rattle.vet_printf.proofs.calls.report_call.Goals as goal

pub returns-then-is_plain_call : goal.returns-then-is_plain_call
returns-then-is_plain_call c =
    gains_if (is_plain_call c.args.node.now.kind) (OfSome (part c.args.node.now 0) (IsCalleeFound (kinds_at c.args.kinds.now.items) (unit_in c.args.p.now) (marks_in c.args.p.now) c.args.at.file c.args.node.now)) c.args.found.now.items
    c.report_part.new.found.items (sym c.is_plain_call.ensures ∙ c.if-is_plain_call.true) c.in_ok-report_part.ensures

pub returns : goal.returns
returns c =
    gains_unless (is_plain_call c.args.node.now.kind) (OfSome (part c.args.node.now 0) (IsCalleeFound (kinds_at c.args.kinds.now.items) (unit_in c.args.p.now) (marks_in c.args.p.now) c.args.at.file c.args.node.now)) c.args.found.now.items
    (sym c.is_plain_call.ensures ∙ c.if-is_plain_call.false)
