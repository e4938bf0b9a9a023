use Rattle.std.proofs.Common.{Bool, if◌then◌else◌, map, sym, ap, ◌∙◌}
use Rattle.mark_walk.specs.Asks.{done, bind}
use Rattle.mark_walk.specs.Telling.{tell}
use Rattle.typed_marks.specs.Meanings.{Quiet}
use Rattle.unit_read.specs.Subjects.{unit_of}
use Rattle.rule_words.specs.Scenes.{sight, type_in}
use Rattle.type_rules.specs.Elements.{method_in}
use Rattle.decl_rules.specs.Methods.{methods_ask, all_of}
use Rattle.decl_rules.specs.Under.{with_methods}
use Rattle.decl_rules.proofs.GiveLemmas.{told_all, waits_all}
use Rattle.decl_rules.proofs.under.declared_with.Goals as goal

pub returns-in-Some-clause-is : goal.returns-in-Some-clause-is
returns-in-Some-clause-is c =
    let s = c.args.s.now in
    let under = type_in s c.args.under in
    let asked = methods_ask (unit_of c.args.u.now) under c.args.name in
    waits_all (sight s) asked (λ xss. with_methods under (all_of xss)) (map (method_in s) c.add_methods.new.out.items) c.in_ok-waits.waits c.in-Some.item c.in-Some.is c.in_ok-waits.ensures.gives
    ∙ sym (ap (λ (b : Bool). tell (sight s) (if b then done Quiet else bind asked (λ xss. with_methods under (all_of xss)))) (sym c.is_defined.ensures ∙ c.if-is_defined.false))

pub returns-in-None-clause-is : goal.returns-in-None-clause-is
returns-in-None-clause-is c =
    let s = c.args.s.now in
    let under = type_in s c.args.under in
    let asked = methods_ask (unit_of c.args.u.now) under c.args.name in
    told_all (sight s) asked (with_methods under) (map (method_in s) c.add_methods.new.out.items) c.in_ok-waits.waits c.in-None.is c.in_ok-waits.ensures.gives
    ∙ sym (ap (λ (b : Bool). tell (sight s) (if b then done Quiet else bind asked (λ xss. with_methods under (all_of xss)))) (sym c.is_defined.ensures ∙ c.if-is_defined.false))
