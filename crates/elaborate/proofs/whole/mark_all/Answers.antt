use Rattle.std.proofs.Common.{◌≡◌, ◌∙◌, sym, ap, length, subst, slice_get, List, ℕ, ◌<◌, arith}
use Rattle.typed_marks.specs.declared.item.Block.{Block}
use Rattle.typed_marks.specs.States.{so_far}
use Rattle.unit_read.specs.Units.{Unit}
use Rattle.unit_read.specs.Subjects.{full_of, unit_of}
use Rattle.elaborate.specs.Walks.{blocks_of}
use Rattle.elaborate.specs.Covering.{AreNodesMarked, AreBlocksMarked}
use Rattle.elaborate.proofs.WalkLemmas.{went_itself, went_then, blocks_still}
use Rattle.elaborate.proofs.CoverLemmas.{rest_at, rest_from, early, ended_well, next_block, blocks_all, no_block, block_there, block_here}
use Rattle.elaborate.proofs.whole.mark_all.Goals as goal

pub loop-k-init : goal.loop-k-init
loop-k-init g c =
    let work = c.args.work.now in
    record {
      went = went_itself g.R.Rules.rule work.subject.now work.state c.requires.work;
      rests = c.requires.rests;
      marked = no_block (unit_of work.subject.now) (so_far work.state);
    }

pub block_at-block-requires : goal.block_at-block-requires
block_at-block-requires g c =
    subst (λ (bs : List Block). c.loop-k.k < length bs) (sym c.deref.ensures.value) (block_there c.args.work.now.subject.now c.loop-k.work.subject.now c.args.work.now.state c.loop-k.work.state c.loop-k.k
    c.requires.work.blocks c.loop-k.invariant.went.unit c.loop-k.invariant.went.work.blocks (omega (arith, c.loop-k-test.true, c.len-count.ensures)))

pub mark_block-requires-clause-work : goal.mark_block-requires-clause-work
mark_block-requires-clause-work g c = c.loop-k.invariant.went.work

pub mark_block-requires-clause-block : goal.mark_block-requires-clause-block
mark_block-requires-clause-block g c = ap (λ (bs : List Block). slice_get bs c.loop-k.k) (sym c.loop-k.invariant.went.work.blocks) ∙ (ap (λ (bs : List Block). slice_get bs c.loop-k.k) (sym c.deref.ensures.value) ∙ c.block_at-block.ensures)

pub mark_block-requires-clause-rests : goal.mark_block-requires-clause-rests
mark_block-requires-clause-rests g c =
    rest_at (full_of c.args.work.now.subject.now) (full_of c.loop-k.work.subject.now) c.loop-k.work.state c.loop-k.walk c.loop-k.invariant.went.full c.loop-k.invariant.rests

pub loop-k-preserved : goal.loop-k-preserved
loop-k-preserved g c =
    let rule = g.R.Rules.rule in
    let before = c.args.work.now in
    let now = c.loop-k.work in
    let next = c.mark_block.new.work in
    let was = c.loop-k.invariant in
    let made = c.in_ok-circle.ensures in
    let u = unit_of before.subject.now in
    let here = block_here u (unit_of now.subject.now) now.state.blocks.items c.loop-k.k c.block_at-block.result was.went.unit was.went.work.blocks (ap (λ (bs : List Block). slice_get bs c.loop-k.k) (sym c.deref.ensures.value) ∙ c.block_at-block.ensures) in
    record {
      went = went_then rule before.subject.now now.subject.now next.subject.now before.state now.state next.state was.went made.went;
      rests = rest_from (full_of before.subject.now) (full_of now.subject.now) next.state c.mark_block.new.walk was.went.full (made.ended.rests c.in_default.is);
      marked = next_block u c.loop-k.k c.block_at-block.result (so_far next.state) here
          (blocks_still u c.loop-k.k (so_far now.state) (so_far next.state) made.went.goes.keeps was.marked) (made.ended.marked c.in_default.is);
    }

pub returns-in-Some-clause-went : goal.returns-in-Some-clause-went
returns-in-Some-clause-went g c =
    let before = c.args.work.now in
    let now = c.loop-k.work in
    let next = c.mark_block.new.work in
    went_then g.R.Rules.rule before.subject.now now.subject.now next.subject.now before.state now.state next.state c.loop-k.invariant.went c.in_ok-circle.ensures.went

pub returns-in-Some-clause-ended : goal.returns-in-Some-clause-ended
returns-in-Some-clause-ended g c =
    let u = full_of c.args.work.now.subject.now in
    early g.R.Rules.rule u (full_of c.loop-k.work.subject.now) c.mark_block.new.work.state c.mark_block.new.walk
    (AreNodesMarked c.loop-k.k c.block_at-block.result.low c.block_at-block.result.end) (AreBlocksMarked u (length (blocks_of u))) c.in_ok-circle.circle c.in-Some.other c.loop-k.invariant.went.full c.in-Some.is c.in_ok-circle.ensures.ended

pub returns-clause-ended : goal.returns-clause-ended
returns-clause-ended g c =
    let now = c.loop-k.work in
    let u = full_of c.args.work.now.subject.now in
    ended_well g.R.Rules.rule u now.state c.loop-k.walk (AreBlocksMarked u (length (blocks_of u))) c.loop-k.invariant.rests
    (subst (λ (n : ℕ). AreBlocksMarked u n (so_far now.state)) (ap (λ (bs : List Block). length bs) c.requires.work.blocks)
    (blocks_all u c.loop-k.k (length c.args.work.now.state.blocks.items) (so_far now.state) (omega arith) c.loop-k.invariant.marked))
