use Rattle.std.proofs.Common.{sym, ◌∙◌}
use Rattle.package_objects.specs.Declares.{part}
use Rattle.findings.specs.Gains.{OfSome}
use Rattle.findings.specs.Passes.{unit_in, marks_in}
use Rattle.member_names.specs.InCode.{found_named}
use Rattle.member_names.proofs.NamedLemmas.{what_if, what_unless}
use Rattle.vet_printf.specs.Forwards.{is_spread_call}
use Rattle.vet_printf.specs.Handing.{IsCalleeNamed}
use Rattle.vet_printf.proofs.spreads.call_named.Goals as goal

pub returns-then-is_spread_call : goal.returns-then-is_spread_call
returns-then-is_spread_call c =
    what_if (is_spread_call c.args.call.now.kind) (OfSome (part c.args.call.now 0) (IsCalleeNamed (unit_in c.args.p.now) (marks_in c.args.p.now) c.args.file)) (found_named c.in_ok-named.named)
    (sym c.is_spread_call.ensures ∙ c.if-is_spread_call.true) c.in_ok-named.ensures

pub returns : goal.returns
returns c =
    what_unless (is_spread_call c.args.call.now.kind) (OfSome (part c.args.call.now 0) (IsCalleeNamed (unit_in c.args.p.now) (marks_in c.args.p.now) c.args.file)) (sym c.is_spread_call.ensures ∙ c.if-is_spread_call.false)
