use Rattle.std.proofs.Common.{◌≡◌, ◌<◌, ◌-◌, ◌^◌, List, ℕ, length, get_or, ap, subst, arith}
use Rattle.file_flow.proofs.TreeLemmas.{empty_few, last_few}
use Rattle.file_flow.proofs.laws.nodes_are_few.Goals as goal

pub returns-then-tops-eq0 : goal.returns-then-tops-eq0
returns-then-tops-eq0 c =
    let size : length c.as_slice-tops.result.now ≡ length c.args.tree.now.tops = ap length c.as_slice-tops.ensures in
    let none = c.if-tops-eq0.true in
    empty_few c.args.tree.now c.args.bytes.now c.requires (omega arith)

pub returns : goal.returns
returns c =
    last_few c.args.tree.now c.args.bytes.now 0 c.requires
    (subst (λ (l : List ℕ). get_or l (length l - 1) 0 < 2 ^ 32) c.as_slice-tops.ensures c.is_small.ensures)
