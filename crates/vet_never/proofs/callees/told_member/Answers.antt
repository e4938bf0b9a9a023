use Rattle.std.proofs.Common.{Option, refl, option_map, subst}
use Rattle.findings.specs.Passes.{unit_in, marks_in}
use Rattle.selected_methods.specs.InCode.{IsWhat}
use Rattle.member_names.specs.declared.named.Named.{Named as Name}
use Rattle.member_names.specs.InCode.{named_in}
use Rattle.member_names.specs.Named.{IsNamed}
use Rattle.never_returns.specs.Admits.{Other, Named}
use Rattle.vet_never.specs.Callees.{member_of}
use Rattle.vet_never.proofs.CalleeLemmas.{member_called, none_called}
use Rattle.vet_never.proofs.callees.told_member.Goals as goal

pub returns-in-Some : goal.returns-in-Some
returns-in-Some c =
    let u = unit_in c.args.p.now in
    let marks = marks_in c.args.p.now in
    member_called u marks c.args.file c.args.n (named_in c.in-Some.name) (Named (member_of (named_in c.in-Some.name)))
    (subst (λ (o : Option Name). IsWhat (IsNamed u marks c.args.file c.args.n) (option_map named_in o)) c.in-Some.is c.in_ok-found.ensures) refl

pub returns-in-None : goal.returns-in-None
returns-in-None c =
    let u = unit_in c.args.p.now in
    let marks = marks_in c.args.p.now in
    none_called u marks c.args.file c.args.n Other (subst (λ (o : Option Name). IsWhat (IsNamed u marks c.args.file c.args.n) (option_map named_in o)) c.in-None.is c.in_ok-found.ensures) refl
