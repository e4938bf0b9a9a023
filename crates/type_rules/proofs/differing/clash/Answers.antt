use Rattle.std.proofs.Common.{map, arith}
use Rattle.type_model.specs.declared.term.Method.{Method}
use Rattle.type_model.specs.GoTypes.{SignatureBelow}
use Rattle.type_model.specs.Tables.{count}
use Rattle.type_rules.specs.Elements.{method_in}
use Rattle.type_rules.specs.Joining.{differs_among}
use Rattle.type_rules.proofs.JoinLemmas.{any_on, any_end}
use Rattle.type_rules.proofs.ListLemmas.{all_at}
use Rattle.type_rules.proofs.differing.clash.Goals as goal

pub differs_among-requires-clause-of : goal.differs_among-requires-clause-of
differs_among-requires-clause-of c =
    all_at (λ (m : Method). SignatureBelow (count c.args.s.now.table) m.of) c.args.methods.now c.loop-i.i c.nth_method-m.result.now c.nth_method-m.ensures c.requires.methods

pub loop-i-preserved : goal.loop-i-preserved
loop-i-preserved c =
    let s = c.args.s.now in
    any_on (differs_among (map (method_in s) c.args.others.now)) (method_in s) c.args.methods.now c.loop-i.i c.nth_method-m.result.now c.loop-i.found _ _ c.nth_method-m.ensures
    c.loop-i.invariant c.differs_among.ensures c.either-found.ensures

pub returns : goal.returns
returns c =
    let s = c.args.s.now in
    any_end (differs_among (map (method_in s) c.args.others.now)) (method_in s) c.args.methods.now c.loop-i.i c.loop-i.found (omega arith) c.loop-i.invariant
