use Rattle.std.proofs.Common.{ℕ, Bool, List, ap, ◌∙◌, length, get_or}
use Rattle.body_rules.specs.declared.endings.Ending.TheVariants as e
use Rattle.body_rules.specs.Endings.{kind_of, flag_of, ending_by}
use Rattle.body_rules.proofs.endings.ending_of.Goals as goal

pub returns : goal.returns
returns c =
    let nodes = c.args.rule.now.nodes.now in
    let found = c.args.found.now in
    let n = length found in
    c.ending_by.ensures
    ∙ (ap (λ (a : Bool). ending_by a c.flag_at-panics.result (kind_of nodes) (λ x. get_or found x e.Open) c.args.node.now.kind c.as_slice.result.now) c.flag_at-left.ensures
    ∙ (ap (λ (b : Bool). ending_by (flag_of c.args.rule.now.left.now n) b (kind_of nodes) (λ x. get_or found x e.Open) c.args.node.now.kind c.as_slice.result.now) c.flag_at-panics.ensures
    ∙ ap (λ (p : List ℕ). ending_by (flag_of c.args.rule.now.left.now n) (flag_of c.args.rule.now.panics.now n) (kind_of nodes) (λ x. get_or found x e.Open) c.args.node.now.kind p) c.as_slice.ensures))
