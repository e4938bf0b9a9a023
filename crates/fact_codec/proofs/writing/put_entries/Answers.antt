use Rattle.std.proofs.Common.{◌++◌, ◌<◌, ◌^◌, length, arith}
use Rattle.gv_bytes.specs.Spelling.{natural}
use Rattle.fact_codec.specs.Texts.{entry, IsEntry}
use Rattle.fact_codec.proofs.WriteLemmas.{written_more, all_more, all_written, all_taken}
use Rattle.fact_codec.proofs.writing.put_entries.Goals as goal

pub loop-e-preserved : goal.loop-e-preserved
loop-e-preserved g c = record {
  written = written_more (entry g.F.FactKind.spelling) (c.args.out.now.items ++ natural (length c.args.list.now)) c.args.list.now c.loop-e.e-index c.e-item.result c.loop-e.out.items _ c.loop-e-test.true c.e-item.is c.loop-e.invariant.written c.in_ok-put_entry.ensures.written;
  size = all_more IsEntry c.args.list.now c.loop-e.e-index c.e-item.result c.loop-e-test.true c.e-item.is c.loop-e.invariant.size c.in_ok-put_entry.ensures.size;
}

pub returns-clause-written : goal.returns-clause-written
returns-clause-written g c = all_written (entry g.F.FactKind.spelling) c.args.out.now.items c.args.list.now c.loop-e.e-index c.loop-e.out.items (let f = c.loop-e-test.false in omega (arith, f)) c.loop-e.invariant.written

pub returns-clause-size : goal.returns-clause-size
returns-clause-size g c = (c.count_of-count.ensures.small, all_taken IsEntry c.args.list.now c.loop-e.e-index (let f = c.loop-e-test.false in omega (arith, f)) c.loop-e.invariant.size)
