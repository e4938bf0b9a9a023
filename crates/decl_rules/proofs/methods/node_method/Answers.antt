use Rattle.std.proofs.Common.{List, ℕ, map, sym, ap, subst, ◌∙◌}
use Rattle.unit_read.specs.Methods.{method_name}
use Rattle.unit_read.specs.Subjects.{unit_of}
use Rattle.rule_words.specs.Scenes.{sight, type_in}
use Rattle.type_rules.specs.Elements.{method_in}
use Rattle.decl_rules.specs.Methods.{is_left_out, signature_ask, Gives}
use Rattle.decl_rules.proofs.GiveLemmas.{gives_left, gives_kept}
use Rattle.decl_rules.proofs.methods.node_method.Goals as goal

pub returns-then-is_left_out-clause-gives : goal.returns-then-is_left_out-clause-gives
returns-then-is_left_out-clause-gives c =
    let s = c.args.s.now in
    let u = unit_of c.args.u.now in
    let under = type_in s c.args.under in
    gives_left (sight s) (is_left_out u under c.args.at (method_name u c.args.at)) (signature_ask u c.args.at c.args.node.now (method_name u c.args.at)) (map (method_in s) c.args.out.now.items)
    (ap (is_left_out u under c.args.at) (sym c.method_name-name.ensures) ∙ (sym c.is_left_out.ensures ∙ c.if-is_left_out.true))

pub returns-clause-gives : goal.returns-clause-gives
returns-clause-gives c =
    let s = c.args.s.now in
    let u = unit_of c.args.u.now in
    let under = type_in s c.args.under in
    gives_kept (sight s) (is_left_out u under c.args.at (method_name u c.args.at)) (signature_ask u c.args.at c.args.node.now (method_name u c.args.at)) (map (method_in s) c.args.out.now.items) _ c.in_ok-waits.waits
    (ap (is_left_out u under c.args.at) (sym c.method_name-name.ensures) ∙ (sym c.is_left_out.ensures ∙ c.if-is_left_out.false))
    (subst (λ (name : List ℕ). Gives (sight s) (signature_ask u c.args.at c.args.node.now name) (map (method_in s) c.args.out.now.items) (map (method_in s) c.signature.new.out.items) c.in_ok-waits.waits)
    c.method_name-name.ensures c.in_ok-waits.ensures.gives)
