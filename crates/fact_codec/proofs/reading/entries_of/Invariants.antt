use Rattle.std.proofs.Common.{◌≡◌, ◌-◌}
use Rattle.gv_bytes.specs.Reading.{each_at}
use Rattle.gv_bytes.proofs.Loops.{with_front}
use Rattle.fact_codec.specs.Texts.{entry_at}
use Rattle.fact_codec.proofs.reading.entries_of.Given as goal

abbrev pub invariant-loop : goal.invariant-loop
invariant-loop g l = with_front l.list.items (each_at (entry_at g.F.FactKind.fact_at) (l.count - l.counter) l.rest) ≡ each_at (entry_at g.F.FactKind.fact_at) l.count l.bytes
