use Rattle.std.proofs.Common.{List, None, map, sym, ap, subst, arith, ◌∙◌}
use Rattle.std.proofs.lemmas.List.Elements.{All-nil}
use Rattle.go_tree.specs.declared.tree.NodeRef.{NodeRef}
use Rattle.mark_walk.specs.Telling.{Waits, tell}
use Rattle.type_model.specs.declared.term.Method.{Method}
use Rattle.type_model.specs.GoTypes.{MethodsBelow, SignatureBelow}
use Rattle.type_model.specs.Tables.{count}
use Rattle.unit_read.specs.Subjects.{unit_of}
use Rattle.rule_words.specs.Asking.{ask_each}
use Rattle.rule_words.specs.Scenes.{sight, type_in}
use Rattle.type_rules.specs.Elements.{method_in}
use Rattle.decl_rules.specs.Methods.{method_ask, GivesAll}
use Rattle.decl_rules.proofs.GiveLemmas.{gathered_first, gathered_more, gathered_wait, gathered_all}
use Rattle.decl_rules.proofs.methods.add_methods.Goals as goal

pub loop-i-init : goal.loop-i-init
loop-i-init c =
    let s = c.args.s.now in
    record {
      gathered = gathered_first (sight s) (method_ask (unit_of c.args.u.now) (type_in s c.args.under)) c.methods_of-methods.result.now (map (method_in s) c.args.out.now.items) (ap (map (method_in s)) c.requires.bare);
      below = subst (λ (list : List Method). MethodsBelow (count s.table) list) (sym c.requires.bare) (All-nil (λ (m : Method). SignatureBelow (count s.table) m.of));
    }

pub returns-in-Some-clause-gives : goal.returns-in-Some-clause-gives
returns-in-Some-clause-gives c =
    let s = c.args.s.now in
    let f = method_ask (unit_of c.args.u.now) (type_in s c.args.under) in
    sym (ap (λ (list : List NodeRef). tell (sight s) (ask_each f list)) c.methods_of-methods.ensures)
    ∙ gathered_wait (sight s) f c.methods_of-methods.result.now c.loop-i.i c.nth.result (map (method_in s) c.loop-i.out.items) _ _ c.in_ok-waits.waits c.in-Some.item c.nth.ensures c.in-Some.is
    c.in_ok-waits.ensures.gives c.loop-i.invariant.gathered

pub loop-i-preserved : goal.loop-i-preserved
loop-i-preserved c =
    let s = c.args.s.now in
    record {
      gathered = gathered_more (sight s) (method_ask (unit_of c.args.u.now) (type_in s c.args.under)) c.methods_of-methods.result.now c.loop-i.i c.nth.result (map (method_in s) c.loop-i.out.items) _ c.in_ok-waits.waits
          c.nth.ensures c.in_default.is c.in_ok-waits.ensures.gives c.loop-i.invariant.gathered;
      below = c.in_ok-waits.ensures.below;
    }

pub returns-clause-gives : goal.returns-clause-gives
returns-clause-gives c =
    let s = c.args.s.now in
    let f = method_ask (unit_of c.args.u.now) (type_in s c.args.under) in
    subst (λ (list : List NodeRef). GivesAll (sight s) (ask_each f list) (map (method_in s) c.loop-i.out.items) None) c.methods_of-methods.ensures
    (gathered_all (sight s) f c.methods_of-methods.result.now c.loop-i.i (map (method_in s) c.loop-i.out.items) (omega arith) c.loop-i.invariant.gathered)
