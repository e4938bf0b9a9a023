use Rattle.std.proofs.Common.{arith, ◌<◌, length, refl, sym}
use Rattle.scripts.proofs.FieldLaws.{length-long, length-part, length-stop, length-padded, length-read}
use Rattle.scripts.proofs.fields.read_length.Goals as goal
use Rattle.scripts.proofs.fields.read_length.Goals.{else-count-gt0-via-then-count-gt0+else-bytes-count-eq10, else-count-gt0-via-else-count-gt0}

pub returns-then-count-gt9 : goal.returns-then-count-gt9
returns-then-count-gt9 c = length-long c.args.bytes.now c.digit_run-count.result c.digit_run-count.ensures c.if-count-gt9.true

pub returns-then-is_padded : goal.returns-then-is_padded
returns-then-is_padded c =
    let p = c.if-is_padded.ensures.padded refl in
    length-padded c.args.bytes.now c.digit_run-count.result c.digit_run-count.ensures p.0 p.1

pub returns-then-count-bytes : goal.returns-then-count-bytes
returns-then-count-bytes c =
    length-part c.args.bytes.now c.digit_run-count.result c.digit_run-count.ensures c.if-count-gt9.false (c.if-is_padded.ensures.plain refl) c.if-count-bytes.true

pub returns-then-bytes-count-eq10 : goal.returns-then-bytes-count-eq10
returns-then-bytes-count-eq10 c =
    let r = c.digit_run-count.ensures in
    let w = r.within in
    let short : c.digit_run-count.result < length c.args.bytes.now = omega (arith, c.if-count-bytes.false) in
    let found = length-read c.args.bytes.now c.digit_run-count.result r c.if-count-gt9.false (c.if-is_padded.ensures.plain refl) c.if-count-gt0.true short c.if-bytes-count-eq10.true in
    rw (sym c.number.ensures) at found

pub returns-else-count-gt0 : goal.returns-else-count-gt0
returns-else-count-gt0 c =
    let r = c.digit_run-count.ensures in
    let w = r.within in
    let short : c.digit_run-count.result < length c.args.bytes.now = omega (arith, c.if-count-bytes.false) in
    length-stop c.args.bytes.now c.digit_run-count.result r short
    (λ some is. elim c.else-count-gt0.branch [
      | else-count-gt0-via-then-count-gt0+else-bytes-count-eq10 v ↦ v.if-bytes-count-eq10.false is
      | else-count-gt0-via-else-count-gt0 v ↦ omega (arith, v.if-count-gt0.false)
    ])
