use Rattle.std.proofs.Common.{refl, arith}
use Rattle.type_model.specs.declared.term.Method.{Method}
use Rattle.type_model.specs.GoTypes.{SignatureBelow}
use Rattle.type_model.specs.Tables.{count}
use Rattle.type_rules.specs.Elements.{method_in}
use Rattle.type_rules.specs.Joining.{differs}
use Rattle.type_rules.proofs.JoinLemmas.{any_on, any_end}
use Rattle.type_rules.proofs.ListLemmas.{all_at}
use Rattle.type_rules.proofs.differing.differs_among.Goals as goal

pub differs-requires-clause-second : goal.differs-requires-clause-second
differs-requires-clause-second c =
    all_at (λ (m : Method). SignatureBelow (count c.args.s.now.table) m.of) c.args.others.now c.loop-i.i c.nth_method-other.result.now c.nth_method-other.ensures c.requires.others

pub loop-i-preserved : goal.loop-i-preserved
loop-i-preserved c =
    let s = c.args.s.now in
    any_on (differs (method_in s c.args.m.now)) (method_in s) c.args.others.now c.loop-i.i c.nth_method-other.result.now c.loop-i.found _ _ c.nth_method-other.ensures c.loop-i.invariant
    c.differs.ensures c.either-found.ensures

pub returns : goal.returns
returns c =
    let s = c.args.s.now in
    any_end (differs (method_in s c.args.m.now)) (method_in s) c.args.others.now c.loop-i.i c.loop-i.found (omega arith) c.loop-i.invariant
