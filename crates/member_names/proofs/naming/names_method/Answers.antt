use Rattle.std.proofs.Common.{sym, ◌∙◌}
use Rattle.unit_read.specs.Units.{last_spelled}
use Rattle.selected_methods.specs.Selected.{declared_by}
use Rattle.findings.specs.Gains.{OfSome}
use Rattle.findings.specs.Passes.{unit_in, marks_in}
use Rattle.vet_words.specs.Forms.{is_selector}
use Rattle.member_names.specs.Named.{owner_of, IsMethodNamed}
use Rattle.member_names.specs.InCode.{found_named}
use Rattle.member_names.proofs.NamedLemmas.{what_if, what_unless}
use Rattle.member_names.proofs.naming.names_method.Goals as goal

pub returns-then-is_selector : goal.returns-then-is_selector
returns-then-is_selector c =
    let u = unit_in c.args.p.now in
    let marks = marks_in c.args.p.now in
    what_if (is_selector c.args.node.now.kind) (OfSome (owner_of marks c.args.file c.args.node.now) (IsMethodNamed u (declared_by u marks) (last_spelled u c.args.file c.args.node.now))) (found_named c.in_ok-named.named)
    (sym c.is_selector.ensures ∙ c.if-is_selector.true) c.in_ok-named.ensures

pub returns : goal.returns
returns c =
    let u = unit_in c.args.p.now in
    let marks = marks_in c.args.p.now in
    what_unless (is_selector c.args.node.now.kind) (OfSome (owner_of marks c.args.file c.args.node.now) (IsMethodNamed u (declared_by u marks) (last_spelled u c.args.file c.args.node.now)))
    (sym c.is_selector.ensures ∙ c.if-is_selector.false)
