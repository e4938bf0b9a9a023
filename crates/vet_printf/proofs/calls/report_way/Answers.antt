use Rattle.std.proofs.Common.{refl, sym, subst}
use Rattle.findings.specs.Gains.{Gains}
use Rattle.findings.specs.Passes.{unit_in, marks_in}
use Rattle.findings.proofs.GainLemmas.{gains_none}
use Rattle.vet_printf.specs.declared.ways.Way.{Way}
use Rattle.vet_printf.specs.declared.ways.Way.TheVariants as way
use Rattle.vet_printf.specs.Calls.{IsWayFound}
use Rattle.vet_printf.proofs.calls.report_way.Goals as goal

pub returns-in_ok-report_format_at-in-Format : goal.returns-in_ok-report_format_at-in-Format
returns-in_ok-report_format_at-in-Format c =
    subst (λ (w : Way). Gains (IsWayFound (unit_in c.args.p.now) (marks_in c.args.p.now) c.args.file c.args.node.now c.args.callee c.args.count w) c.args.found.now.items c.report_format_at.new.found.items) (sym c.in-Format.is)
    c.in_ok-report_format_at-in-Format.ensures

pub returns-in_ok-report_plain_at-in-Plain : goal.returns-in_ok-report_plain_at-in-Plain
returns-in_ok-report_plain_at-in-Plain c =
    subst (λ (w : Way). Gains (IsWayFound (unit_in c.args.p.now) (marks_in c.args.p.now) c.args.file c.args.node.now c.args.callee c.args.count w) c.args.found.now.items c.report_plain_at.new.found.items) (sym c.in-Plain.is)
    c.in_ok-report_plain_at-in-Plain.ensures

pub returns-in-Silent : goal.returns-in-Silent
returns-in-Silent c =
    subst (λ (w : Way). Gains (IsWayFound (unit_in c.args.p.now) (marks_in c.args.p.now) c.args.file c.args.node.now c.args.callee c.args.count w) c.args.found.now.items c.args.found.now.items) (sym c.in-Silent.is)
    (gains_none (IsWayFound (unit_in c.args.p.now) (marks_in c.args.p.now) c.args.file c.args.node.now c.args.callee c.args.count way.Silent) c.args.found.now.items c.args.found.now.items refl (λ d h. h))
