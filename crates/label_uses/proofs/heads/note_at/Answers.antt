use Rattle.std.proofs.Common.{Some, refl, arith}
use Rattle.label_uses.proofs.NameLemmas.{noted_past, noted_one}
use Rattle.label_uses.proofs.heads.note_at.Goals as goal

pub returns-then-n-count_of : goal.returns-then-n-count_of
returns-then-n-count_of c =
    noted_one (Some c.args.n) c.args.h.now c.note_one.new.h c.args.n refl (let e = c.count_of.ensures in let t = c.if-n-count_of.true in omega arith)
    c.note_one.ensures.flags (omega (arith, c.note_one.ensures.low)) (omega (arith, c.note_one.ensures.low)) (omega (arith, c.note_one.ensures.high)) (omega (arith, c.note_one.ensures.high))
    (λ ends. let e = c.count_of.ensures in let t = c.if-n-count_of.true in omega (arith, c.note_one.ensures.high))

pub returns-else-n-count_of : goal.returns-else-n-count_of
returns-else-n-count_of c =
    noted_past (Some c.args.n) c.args.h.now c.args.h.now c.args.n refl refl (let e = c.count_of.ensures in let t = c.if-n-count_of.false in omega arith)
