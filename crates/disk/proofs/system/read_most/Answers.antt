use Rattle.std.proofs.Common.{ℕ, ◌<◌, ◌-◌, arith, vec_len}
use Rattle.disk.proofs.system.read_most.Goals as goal

fall : (most old new : ℕ) → old < most → old < new → most - new < most - old
fall most old new room more = omega (arith, room, more)

pub pieces-smaller : goal.pieces-smaller
pieces-smaller g c = fall c.args.most (vec_len c.pieces.bytes) (vec_len c.read_piece.new.bytes) (omega (arith, c.len.ensures, c.pieces-test.true)) (c.in_ok-more.ensures.more c.if-not-more.false)
