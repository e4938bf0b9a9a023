use Rattle.std.proofs.Common.{sym, ◌∙◌}
use Rattle.unit_read.specs.Subjects.{unit_of}
use Rattle.decl_rules.proofs.UnderLemmas.{own_type}
use Rattle.decl_rules.proofs.under.known_type.Goals as goal

pub returns-in_ok-declaring-clause-over : goal.returns-in_ok-declaring-clause-over
returns-in_ok-declaring-clause-over c =
    c.in_ok-declaring.ensures.over c.args.name
    (own_type (unit_of c.args.u.now) c.args.s.now c.args.name c.args.x.of c.requires.facts.of c.requires.stands (sym c.is_of_node.ensures ∙ c.if-is_of_node.true))
