use Rattle.std.proofs.Common.{ℕ, subst}
use Rattle.findings.specs.Passes.{unit_in, marks_in}
use Rattle.member_names.specs.InCode.{Finds}
use Rattle.member_names.specs.Named.{IsNamed}
use Rattle.vet_printf.proofs.spreads.callee_named.Goals as goal

pub returns : goal.returns
returns c = subst (λ (n : ℕ). Finds (IsNamed (unit_in c.args.p.now) (marks_in c.args.p.now) c.args.file n) c.in_ok-named.named) c.bare_at-n.ensures c.in_ok-named.ensures
