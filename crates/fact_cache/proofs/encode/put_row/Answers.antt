use Rattle.fact_cache.proofs.RankLemmas.{row-written}
use Rattle.fact_cache.proofs.encode.put_row.Goals as goal

pub returns : goal.returns
returns c = row-written c.args.out.now.items c.put_natural.new.out.items c.put_numbers.new.out.items c.put_natural-2.new.out.items c.args.ranks.now c.as_slice.result.now c.args.row.now c.number_of.result
    c.in_ok-put_natural.ensures c.in_ok-put_numbers.ensures c.as_slice.ensures c.in_ok-put_natural-2.ensures c.number_of.ensures
