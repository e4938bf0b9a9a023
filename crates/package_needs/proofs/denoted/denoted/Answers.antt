use Rattle.std.proofs.Common.{List, length, slice_get, ap, sym, ◌∙◌, arith}
use Rattle.package_needs.proofs.NotedLemmas.{denoted_more, denoted_all}
use Rattle.package_needs.proofs.denoted.denoted.Goals as goal

pub loop-k-preserved : goal.loop-k-preserved
loop-k-preserved c =
    denoted_more c.args.b.now c.args.trees.now c.loop-k.rows.items c.note.new.rows.items c.loop-k.k c.use_at-one.result.0 c.use_at-one.result.1 c.named_by-name.result c.loop-k.invariant
    (ap (λ (xs : List _). slice_get xs c.loop-k.k) (sym c.entries-uses.ensures) ∙ c.use_at-one.ensures) c.named_by-name.ensures c.note.ensures

pub returns : goal.returns
returns c = denoted_all c.args.b.now c.args.trees.now c.loop-k.rows.items c.loop-k.k (let e = ap length c.entries-uses.ensures in let t = c.loop-k-test.false in omega arith) c.loop-k.invariant
