use Rattle.fact_cache.proofs.RankLemmas.{noted-again, noted-new, risen-by, none-by}
use Rattle.fact_cache.proofs.encode.note.Goals as goal

pub returns-then-rank_of-gt0-clause-noted : goal.returns-then-rank_of-gt0-clause-noted
returns-then-rank_of-gt0-clause-noted c = λ before is.
    noted-again c.args.ranks.now.items c.args.order.now.items before c.args.n is (risen-by c.deref.result.now c.args.ranks.now.items c.args.n c.rank_of.result c.deref.ensures.value c.rank_of.ensures c.if-rank_of-gt0.true)

pub returns-clause-noted : goal.returns-clause-noted
returns-clause-noted c = λ before is.
    noted-new c.args.ranks.now.items c.args.order.now.items before c.set_rank.new.ranks.items c.push.new.self.items c.args.n c.height-next.result is
    (none-by c.deref.result.now c.args.ranks.now.items c.args.n c.rank_of.result c.deref.ensures.value c.rank_of.ensures c.if-rank_of-gt0.false)
    c.requires c.height-next.ensures c.set_rank.ensures c.in_ok-push.ensures.items
