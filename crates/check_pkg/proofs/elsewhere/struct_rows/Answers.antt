use Rattle.std.proofs.Common.{◌≡◌, ℕ, length, subst, arith}
use Rattle.std.proofs.lemmas.Option.{slice_get-get_or}
use Rattle.unit_read.specs.Subjects.{full_of}
use Rattle.check_pkg.specs.Elsewhere.{struct_elsewhere, AreFlagRows}
use Rattle.check_pkg.proofs.ElsewhereLemmas.{rows_none, rows_more}
use Rattle.check_pkg.proofs.elsewhere.struct_rows.Goals as goal

pub tree_row-requires-clause-small : goal.tree_row-requires-clause-small
tree_row-requires-clause-small c =
    c.requires.small c.loop-file.file _ (slice_get-get_or c.args.u.now.trees.now c.loop-file.file c.index-u-file.result (omega (arith, c.loop-file-test.true)))

pub loop-file-init : goal.loop-file-init
loop-file-init c = rows_none (struct_elsewhere (full_of c.args.u.now)) c.args.u.now.trees.now _ c.new-rows.ensures.items

pub loop-file-preserved : goal.loop-file-preserved
loop-file-preserved c =
    rows_more (struct_elsewhere (full_of c.args.u.now)) c.args.u.now.trees.now c.loop-file.rows.items c.push.new.self.items c.loop-file.file _ c.in_ok-row.row c.loop-file.invariant
    (slice_get-get_or c.args.u.now.trees.now c.loop-file.file c.index-u-file.result (omega (arith, c.loop-file-test.true))) c.in_ok-row.ensures c.in_ok-push.ensures.items

pub returns : goal.returns
returns c = let same : c.loop-file.file ≡ length c.args.u.now.trees.now = (let t = c.loop-file-test.false in let s = c.loop-file.auto in omega arith) in
    subst (λ (n : ℕ). AreFlagRows (struct_elsewhere (full_of c.args.u.now)) c.args.u.now.trees.now c.loop-file.rows.items n) same c.loop-file.invariant
