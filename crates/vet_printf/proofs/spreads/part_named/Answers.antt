use Rattle.std.proofs.Common.{sym, ◌∙◌}
use Rattle.package_objects.specs.Declares.{part}
use Rattle.findings.specs.Passes.{unit_in, marks_in}
use Rattle.member_names.specs.InCode.{found_named}
use Rattle.member_names.proofs.NamedLemmas.{what_some, what_nothing}
use Rattle.vet_printf.specs.Handing.{IsCalleeNamed}
use Rattle.vet_printf.proofs.spreads.part_named.Goals as goal

pub returns-in_ok-named-in-Some : goal.returns-in_ok-named-in-Some
returns-in_ok-named-in-Some c =
    what_some (part c.args.call.now 0) (IsCalleeNamed (unit_in c.args.p.now) (marks_in c.args.p.now) c.args.file) c.in-Some.callee (found_named c.in_ok-named-in-Some.named) (sym c.part_of.ensures ∙ c.in-Some.is)
    c.in_ok-named-in-Some.ensures

pub returns-in-None : goal.returns-in-None
returns-in-None c = what_nothing (part c.args.call.now 0) (IsCalleeNamed (unit_in c.args.p.now) (marks_in c.args.p.now) c.args.file) (sym c.part_of.ensures ∙ c.in-None.is)
