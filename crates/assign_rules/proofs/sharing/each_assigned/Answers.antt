use Rattle.std.proofs.Common.{sym, ◌∙◌, arith}
use Rattle.package_objects.specs.Declares.{items}
use Rattle.unit_read.specs.Subjects.{unit_of}
use Rattle.rule_words.specs.Good.{known_of}
use Rattle.assign_rules.specs.Sharing.{nth_assigned}
use Rattle.assign_rules.proofs.RestLemmas.{first_rest, passes, stops, all_at_last}
use Rattle.assign_rules.proofs.sharing.each_assigned.Goals as goal

pub loop-i-init : goal.loop-i-init
loop-i-init c =
    first_rest c.args.u.now c.args.s.now (nth_assigned (unit_of c.args.u.now) c.args.block c.args.file c.args.nodes.now c.args.kind (known_of c.args.s.now c.args.x) c.args.many)
    (items c.args.nodes.now c.args.targets)

pub loop-i-preserved : goal.loop-i-preserved
loop-i-preserved c =
    passes c.args.u.now c.args.s.now (nth_assigned (unit_of c.args.u.now) c.args.block c.args.file c.args.nodes.now c.args.kind (known_of c.args.s.now c.args.x) c.args.many)
    (items c.args.nodes.now c.args.targets) c.loop-i.i c.target_at-t.result c.in_ok-found.found c.target_at-t.ensures c.in_ok-found.ensures (sym c.ends.ensures ∙ c.if-ends.false) c.loop-i.invariant

pub returns-then-ends : goal.returns-then-ends
returns-then-ends c =
    stops c.args.u.now c.args.s.now (nth_assigned (unit_of c.args.u.now) c.args.block c.args.file c.args.nodes.now c.args.kind (known_of c.args.s.now c.args.x) c.args.many)
    (items c.args.nodes.now c.args.targets) c.loop-i.i c.target_at-t.result c.in_ok-found.found c.target_at-t.ensures c.in_ok-found.ensures (sym c.ends.ensures ∙ c.if-ends.true) c.loop-i.invariant

pub returns : goal.returns
returns c =
    all_at_last c.args.u.now c.args.s.now (nth_assigned (unit_of c.args.u.now) c.args.block c.args.file c.args.nodes.now c.args.kind (known_of c.args.s.now c.args.x) c.args.many)
    (items c.args.nodes.now c.args.targets) c.loop-i.i (omega arith) c.loop-i.invariant
