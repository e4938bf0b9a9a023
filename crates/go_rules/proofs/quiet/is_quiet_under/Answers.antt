use Rattle.std.proofs.Common.{Option, ℕ, not, is_some, ap, ◌∙◌}
use Rattle.unit_read.specs.Subjects.{unit_of}
use Rattle.unit_read.specs.Units.{is_among, defined, type_name}
use Rattle.decl_rules.proofs.UnderLemmas.{among_test}
use Rattle.go_rules.proofs.quiet.is_quiet_under.Goals as goal

pub returns : goal.returns
returns c =
    let u = unit_of c.args.u.now in
    ap not (c.is_some.ensures
    ∙ (ap (λ (o : Option ℕ). is_some o) (c.local_at.ensures ∙ c.requires.inside c.args.at) ∙ among_test (is_among c.args.at (defined u)) (type_name u c.args.at)))
