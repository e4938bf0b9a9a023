use Rattle.std.proofs.Common.{length, arith}
use Rattle.bind.specs.Undeclared.{end_of, is_free}
use Rattle.bind.proofs.UndeclaredLemmas.{all_flags}
use Rattle.bind.proofs.unknown.free_row.Goals as goal

pub returns : goal.returns
returns c = all_flags (is_free (end_of c.args.ends.now)) c.loop-n.n (length c.args.ends.now) c.loop-n.row.items (omega (arith, c.loop-n-test.false, c.loop-n.auto.n-end)) c.loop-n.invariant.row
