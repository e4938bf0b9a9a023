use Rattle.std.proofs.Common.{map, sym, arith}
use Rattle.type_model.specs.declared.term.Method.{Method}
use Rattle.type_model.specs.GoTypes.{SignatureBelow}
use Rattle.type_model.specs.Tables.{count}
use Rattle.type_rules.specs.Elements.{method_in}
use Rattle.type_rules.proofs.ListLemmas.{nil_last, mapped_on, mapped_all, all_at}
use Rattle.type_rules.proofs.interfaces.add_all.Goals as goal

pub loop-i-init : goal.loop-i-init
loop-i-init c = record { «is» = sym (nil_last (map (method_in c.args.s.now) c.args.out.now.items)); below = c.requires.below }

pub add_copy-requires-clause-of : goal.add_copy-requires-clause-of
add_copy-requires-clause-of c = all_at (λ (m : Method). SignatureBelow (count c.args.s.now.table) m.of) c.args.methods.now c.loop-i.i c.nth_method-m.result.now c.nth_method-m.ensures c.requires.methods

pub loop-i-preserved : goal.loop-i-preserved
loop-i-preserved c =
    let s = c.args.s.now in
    record {
      «is» = mapped_on (method_in s) c.args.methods.now c.loop-i.i c.nth_method-m.result.now (map (method_in s) c.args.out.now.items) _ _ c.nth_method-m.ensures c.loop-i.invariant.is c.in_ok-add_copy.ensures.is;
      below = c.in_ok-add_copy.ensures.below;
    }

pub returns-clause-is : goal.returns-clause-is
returns-clause-is c =
    let s = c.args.s.now in
    mapped_all (method_in s) c.args.methods.now c.loop-i.i (map (method_in s) c.args.out.now.items) _ (omega arith) c.loop-i.invariant.is
