use Rattle.std.proofs.Common.{Option, ℕ, List, sym, ap, ◌∙◌, subst}
use Rattle.findings.specs.Passes.{unit_in, marks_in}
use Rattle.vet_words.specs.Called.{function_at}
use Rattle.vet_words.specs.InCode.{function_found}
use Rattle.selected_methods.specs.InCode.{IsWhat}
use Rattle.member_names.specs.Named.{NodeNamesMethod, IsNamed}
use Rattle.member_names.specs.InCode.{found_named}
use Rattle.member_names.proofs.NamedLemmas.{what_first, what_second}
use Rattle.member_names.proofs.naming.named_at.Goals as goal

pub returns-in_ok-named-in-Some : goal.returns-in_ok-named-in-Some
returns-in_ok-named-in-Some c =
    let u = unit_in c.args.p.now in
    let marks = marks_in c.args.p.now in
    let x = c.in-Some.x in
    subst (λ (o : Option (List ℕ × List ℕ)). IsWhat (IsNamed u marks c.args.file c.args.n) o) c.in_ok-named-in-Some.ensures
    (what_first (function_at u marks c.args.file c.args.n) (NodeNamesMethod u marks c.args.file c.args.n) (x.path.now, x.name.now) (sym c.function_at.ensures ∙ ap function_found c.in-Some.is))

pub returns-in_ok-named-in-None : goal.returns-in_ok-named-in-None
returns-in_ok-named-in-None c =
    let u = unit_in c.args.p.now in
    let marks = marks_in c.args.p.now in
    what_second (function_at u marks c.args.file c.args.n) (NodeNamesMethod u marks c.args.file c.args.n) (found_named c.in_ok-named-in-None.named) (sym c.function_at.ensures ∙ ap function_found c.in-None.is)
    c.in_ok-named-in-None.ensures
