use Rattle.std.proofs.Common.{◌∙◌, ◌++◌, refl, length, take}
use Rattle.std.proofs.lemmas.Option.{slice_get_read}
use Rattle.fact_cache.proofs.RankLemmas.{noted-turn, noted-begins, noted-whole, item-below}
use Rattle.fact_cache.proofs.encode.note_all.Goals as goal

pub loop-i-init : goal.loop-i-init
loop-i-init c = (refl, λ before is. noted-begins c.args.ranks.now.items c.args.order.now.items before is)

pub note-requires : goal.note-requires
note-requires c = item-below (length c.args.ranks.now.items) c.args.numbers.now c.loop-i.i c.note_at-n.result (length c.loop-i.ranks.items) c.requires c.loop-i-test.true c.note_at-n.ensures c.loop-i.invariant.0

pub loop-i-preserved : goal.loop-i-preserved
loop-i-preserved c = (
  c.note.ensures.size ∙ c.loop-i.invariant.0,
  λ before is. noted-turn c.note.new.ranks.items c.note.new.order.items before c.args.numbers.now c.loop-i.i c.note_at-n.result
      (slice_get_read c.args.numbers.now (length c.args.numbers.now) c.loop-i.i c.note_at-n.result refl c.loop-i-test.true c.note_at-n.ensures)
      (c.in_ok-note.ensures.noted (before ++ take c.loop-i.i c.args.numbers.now) (c.loop-i.invariant.1 before is)),
)

pub returns-clause-noted : goal.returns-clause-noted
returns-clause-noted c = λ before is. noted-whole c.loop-i.ranks.items c.loop-i.order.items before c.args.numbers.now c.loop-i.i c.loop-i-test.false (c.loop-i.invariant.1 before is)
