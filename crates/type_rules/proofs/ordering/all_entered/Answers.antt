use Rattle.std.proofs.Common.{List, map, sym, ap, subst, arith}
use Rattle.type_model.specs.declared.term.Method.{Method}
use Rattle.type_model.specs.GoTypes.{SignatureBelow}
use Rattle.type_model.specs.Tables.{count}
use Rattle.type_rules.specs.Elements.{method_in, Entry, entries_in, AreEntries}
use Rattle.type_rules.specs.Interfaces.{entered}
use Rattle.type_rules.proofs.ListLemmas.{all_at}
use Rattle.type_rules.proofs.OrderLemmas.{entered_on, entered_all}
use Rattle.type_rules.proofs.ordering.all_entered.Goals as goal

pub loop-i-init : goal.loop-i-init
loop-i-init c =
    let s = c.args.s.now in
    record {
      «is» = ap (λ (es : List Entry). entered (entries_in s es) (map (method_in s) c.args.methods.now)) c.new-names.ensures.empty;
      entries = subst (λ (es : List Entry). AreEntries s es) (sym c.new-names.ensures.empty) tt;
    }

pub enter-requires-clause-of : goal.enter-requires-clause-of
enter-requires-clause-of c = all_at (λ (m : Method). SignatureBelow (count c.args.s.now.table) m.of) c.args.methods.now c.loop-i.i c.nth_method-m.result.now c.nth_method-m.ensures c.requires

pub loop-i-preserved : goal.loop-i-preserved
loop-i-preserved c = record {
  «is» = entered_on c.args.s.now c.args.methods.now c.loop-i.i c.nth_method-m.result.now c.loop-i.names.entries c.enter.new.names.entries c.nth_method-m.ensures c.loop-i.invariant.is c.in_ok-enter.ensures.is;
  entries = c.in_ok-enter.ensures.entries;
}

pub returns-clause-is : goal.returns-clause-is
returns-clause-is c = entered_all c.args.s.now c.args.methods.now c.loop-i.i c.loop-i.names.entries (omega arith) c.loop-i.invariant.is
