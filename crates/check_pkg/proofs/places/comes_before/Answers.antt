use Rattle.std.proofs.Common.{sym, ◌∙◌}
use Rattle.const_tree.specs.Constants.{values_of}
use Rattle.check_pkg.proofs.ValueLemmas.{past_if, here_if, value_none}
use Rattle.check_pkg.proofs.places.comes_before.Goals as goal

pub returns-in-Some-clause-past : goal.returns-in-Some-clause-past
returns-in-Some-clause-past c = λ h.
    past_if (values_of c.args.nodes.now c.args.spec) c.args.node c.args.value c.in-Some.at c.requires (sym c.value_at.ensures ∙ c.in-Some.is) h

pub returns-in-Some-clause-here : goal.returns-in-Some-clause-here
returns-in-Some-clause-here c = λ h.
    here_if (values_of c.args.nodes.now c.args.spec) c.args.node c.args.value c.in-Some.at c.requires (sym c.value_at.ensures ∙ c.in-Some.is) h

pub returns-in-None-clause-here : goal.returns-in-None-clause-here
returns-in-None-clause-here c = λ h. value_none (values_of c.args.nodes.now c.args.spec) c.args.node c.args.value c.requires (sym c.value_at.ensures ∙ c.in-None.is)
