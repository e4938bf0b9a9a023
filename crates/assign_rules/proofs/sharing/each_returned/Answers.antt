use Rattle.std.proofs.Common.{ℕ, ◌≤◌, sym, ◌∙◌, subst, arith}
use Rattle.unit_read.specs.Subjects.{unit_of}
use Rattle.rule_words.specs.Good.{known_of}
use Rattle.rule_words.specs.Scenes.{type_in}
use Rattle.variable_rules.specs.InCode.{types_of}
use Rattle.assign_rules.specs.Sharing.{nth_returned}
use Rattle.assign_rules.proofs.RestLemmas.{first_rest, passes, stops, all_at_last, mapped_at, mapped_length}
use Rattle.assign_rules.proofs.sharing.each_returned.Goals as goal

pub loop-i-init : goal.loop-i-init
loop-i-init c = first_rest c.args.u.now c.args.s.now (nth_returned (unit_of c.args.u.now) (known_of c.args.s.now c.args.x) c.args.many) (types_of c.args.s.now c.args.results.now)

pub loop-i-preserved : goal.loop-i-preserved
loop-i-preserved c =
    let s = c.args.s.now in
    passes c.args.u.now s (nth_returned (unit_of c.args.u.now) (known_of s c.args.x) c.args.many) (types_of s c.args.results.now) c.loop-i.i (type_in s c.nth-to.result) c.in_ok-found.found
    (mapped_at (type_in s) c.args.results.now c.loop-i.i c.nth-to.result c.nth-to.ensures.is) c.in_ok-found.ensures (sym c.ends.ensures ∙ c.if-ends.false) c.loop-i.invariant

pub returns-then-ends : goal.returns-then-ends
returns-then-ends c =
    let s = c.args.s.now in
    stops c.args.u.now s (nth_returned (unit_of c.args.u.now) (known_of s c.args.x) c.args.many) (types_of s c.args.results.now) c.loop-i.i (type_in s c.nth-to.result) c.in_ok-found.found
    (mapped_at (type_in s) c.args.results.now c.loop-i.i c.nth-to.result c.nth-to.ensures.is) c.in_ok-found.ensures (sym c.ends.ensures ∙ c.if-ends.true) c.loop-i.invariant

pub returns : goal.returns
returns c =
    let s = c.args.s.now in
    all_at_last c.args.u.now s (nth_returned (unit_of c.args.u.now) (known_of s c.args.x) c.args.many) (types_of s c.args.results.now) c.loop-i.i
    (subst (λ (n : ℕ). n ≤ c.loop-i.i) (sym (mapped_length (type_in s) c.args.results.now)) (omega arith)) c.loop-i.invariant
