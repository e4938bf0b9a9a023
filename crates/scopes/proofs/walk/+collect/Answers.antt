use Rattle.std.proofs.Common.{refl, length}
use Rattle.std.proofs.lemmas.Option.{slice_get_read}
use Rattle.scopes.specs.Roles.{role}
use Rattle.scopes.specs.Regions.{Scope}
use Rattle.scopes.proofs.WalkLemmas.{walked_none, walked_more, walked_all, collected, bare}
use Rattle.scopes.proofs.walk.+collect.Goals as goal

pub loop-part-init : goal.loop-part-init
loop-part-init t c = walked_none c.args.nodes.now c.args.from _ _

pub loop-part-preserved : goal.loop-part-preserved
loop-part-preserved t c =
    walked_more c.args.nodes.now c.args.from c.as_slice-parts.result.now c.loop-part.part-index _ c.push_taken-2.new.out.items c.loop-part.out.items c.collect.new.out.items c.loop-part.next
    c.loop-part-test.true c.loop-part.invariant (rw (c.deref.ensures.value, c.deref-in-loop-part.ensures.value) at c.in_ok-collect.ensures)

pub returns-then-is_bare : goal.returns-then-is_bare
returns-then-is_bare t c =
    let nodes = c.args.nodes.now in
    let node = c.index-nodes-at.result in
    let there = slice_get_read nodes (length nodes) c.args.at node refl c.requires.at c.index-nodes-at.is in
    let s : Scope = record { block = c.args.block; within = c.args.within.now; around = c.args.around.now } in
    bare nodes c.args.from c.args.at node (role node.kind) s c.args.out.now.items there refl (c.is_bare.ensures.takes c.if-is_bare.true)
    (rw c.as_slice-parts.ensures at c.is_bare.ensures.parts c.if-is_bare.true)

pub returns : goal.returns
returns t c =
    let nodes = c.args.nodes.now in
    let node = c.index-nodes-at.result in
    let there = slice_get_read nodes (length nodes) c.args.at node refl c.requires.at c.index-nodes-at.is in
    let outer : Scope = record { block = c.args.block; within = c.args.within.now; around = c.args.around.now } in
    let inner : Scope = record { block = c.block_of-inner.result; within = c.push_within.new.names.items; around = c.push_around.new.names.items } in
    let walked = walked_all nodes c.args.from c.as_slice-parts.result.now c.loop-part.part-index inner c.push_taken-2.new.out.items c.loop-part.out.items c.loop-part.next c.loop-part-test.false c.loop-part.invariant in
    collected nodes c.args.from c.args.at node c.role-role.result outer c.block_of-inner.result
    c.push_within.new.names.items c.push_around.new.names.items
    c.args.out.now.items c.push_taken.new.out.items c.declare_before.new.out.items c.push_taken-2.new.out.items c.loop-part.out.items c.declare_after.new.out.items
    there c.role-role.ensures c.block_of-inner.ensures
    c.in_ok-push_taken.ensures
    (rw c.as_slice-parts.ensures at c.in_ok-declare_before.ensures)
    c.in_ok-push_taken-2.ensures
    (rw (c.as_slice-parts.ensures, c.new-handed_within.ensures.items) at c.in_ok-push_within.ensures)
    (rw (c.as_slice-parts.ensures, c.new-handed_around.ensures.items) at c.in_ok-push_around.ensures)
    (rw c.as_slice-parts.ensures at walked)
    (rw c.as_slice-parts.ensures at c.in_ok-declare_after.ensures)
