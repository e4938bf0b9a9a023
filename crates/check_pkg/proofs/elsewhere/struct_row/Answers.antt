use Rattle.std.proofs.Common.{◌≡◌, ℕ, subst, arith}
use Rattle.object_order.specs.Spots.{place}
use Rattle.unit_read.specs.Subjects.{full_of}
use Rattle.check_pkg.specs.Elsewhere.{struct_elsewhere, IsFlagRow}
use Rattle.check_pkg.proofs.ElsewhereLemmas.{row_none, row_more}
use Rattle.check_pkg.proofs.elsewhere.struct_row.Goals as goal

pub loop-node-init : goal.loop-node-init
loop-node-init c = row_none (λ n. struct_elsewhere (full_of c.args.u.now) (place c.args.file n)) _ c.in_ok-row.ensures.items

pub loop-node-preserved : goal.loop-node-preserved
loop-node-preserved c =
    row_more (λ n. struct_elsewhere (full_of c.args.u.now) (place c.args.file n)) c.loop-node.row.items _ c.loop-node.node c.is_elsewhere-is.result c.loop-node.invariant c.is_elsewhere-is.ensures c.in_ok-push.ensures.items

pub returns : goal.returns
returns c = let same : c.loop-node.node ≡ c.args.end = (let t = c.loop-node-test.false in let s = c.loop-node.auto in omega arith) in
    subst (λ (n : ℕ). IsFlagRow (λ m. struct_elsewhere (full_of c.args.u.now) (place c.args.file m)) c.loop-node.row.items n) same c.loop-node.invariant
