use Rattle.std.proofs.Common.{sym, ◌∙◌, arith}
use Rattle.type_model.specs.Tables.{types_in}
use Rattle.builtin_rules.specs.InCode.{signature_by}
use Rattle.call_rules.proofs.ResultLemmas.{first_rest, passes, stops, all_at_last}
use Rattle.call_rules.proofs.results.all_assigned.Goals as goal

pub loop-i-init : goal.loop-i-init
loop-i-init c = first_rest c.args.u.now c.args.s.now (signature_by c.args.s.now c.args.sig.now) (types_in c.args.s.now.table) c.args.results.now

pub loop-i-preserved : goal.loop-i-preserved
loop-i-preserved c =
    let s = c.args.s.now in
    passes c.args.u.now s (signature_by s c.args.sig.now) (types_in s.table) c.args.results.now c.loop-i.i c.nth-of.result c.in_ok-found.found
    c.nth-of.ensures.is c.in_ok-found.ensures (sym c.ends.ensures ∙ c.if-ends.false) c.loop-i.invariant

pub returns-then-ends : goal.returns-then-ends
returns-then-ends c =
    let s = c.args.s.now in
    stops c.args.u.now s (signature_by s c.args.sig.now) (types_in s.table) c.args.results.now c.loop-i.i c.nth-of.result c.in_ok-found.found
    c.nth-of.ensures.is c.in_ok-found.ensures (sym c.ends.ensures ∙ c.if-ends.true) c.loop-i.invariant

pub returns : goal.returns
returns c =
    let s = c.args.s.now in
    all_at_last c.args.u.now s (signature_by s c.args.sig.now) (types_in s.table) c.args.results.now c.loop-i.i (omega arith) c.loop-i.invariant
