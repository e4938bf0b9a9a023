use Rattle.std.proofs.Common.{false, refl, sym, ap, ◌∙◌, arith}
use Rattle.std.specs.Option.{option_map_or}
use Rattle.std.proofs.lemmas.Option.{slice_get_within}
use Rattle.go_tree.specs.declared.tree.Node.{Node}
use Rattle.go_tree.proofs.NodeLemmas.{differ}
use Rattle.check_pkg.specs.Leading.{is_vars}
use Rattle.check_pkg.proofs.NamedLemmas.{vars_there}
use Rattle.check_pkg.proofs.leading.top_leads.Goals as goal

pub returns-then-n-nodes : goal.returns-then-n-nodes
returns-then-n-nodes c = (
  λ e. absurd (differ false refl e),
  λ w. absurd (let low = slice_get_within c.args.nodes.now c.args.n w.1.0 w.1.1 in let past = c.if-n-nodes.true in omega (arith, low)),
)

pub returns-then-not-declares_vars : goal.returns-then-not-declares_vars
returns-then-not-declares_vars c = (
  λ e. absurd (differ false refl e),
  λ w. absurd (differ c.declares_vars.result c.if-not-declares_vars.true (c.declares_vars.ensures ∙ (ap (λ o. option_map_or (λ (x : Node). is_vars x.kind) o false) w.1.1 ∙ w.1.2))),
)

pub returns : goal.returns
returns c =
    let (node, there, is) = vars_there c.args.nodes.now c.args.n (sym c.declares_vars.ensures ∙ c.if-not-declares_vars.false) in (
      λ e. let found = c.leads_within.ensures.0 e in (found.0, (node, there, is, found.1)),
      λ w. c.leads_within.ensures.1 (w.0, w.1.3),
    )
