use Rattle.std.proofs.Common.{◌≡◌, ◌↔◌, ◌⊎◌, List, ℕ, map, true, length, subst, arith}
use Rattle.std.specs.List.{Contains}
use Rattle.least.specs.Numbered.{is_marked}
use Rattle.least.specs.Work.{set_of}
use Rattle.findings.specs.Passes.{unit_in}
use Rattle.own_functions.specs.Functions.{first_of}
use Rattle.vet_never.specs.Never.{fact_name}
use Rattle.vet_never.proofs.FileLemmas.{no_names, name_more, all_names}
use Rattle.vet_never.proofs.never.table_of.Goals as goal

pub loop-i-init : goal.loop-i-init
loop-i-init c = no_names (unit_in c.args.p.now) c.args.flags.now c.new-table.result c.new-table.ensures

pub loop-i-preserved : goal.loop-i-preserved
loop-i-preserved c =
    let u = unit_in c.args.p.now in
    let flags = c.args.flags.now in
    name_more u flags c.loop-i.i c.loop-i.table c.put_flagged.new.table c.loop-i.invariant (λ q.
    subst (λ (n : List ℕ). Contains (map fact_name c.put_flagged.new.table) q ↔ (Contains (map fact_name c.loop-i.table) q ⊎ ((is_marked (set_of flags) (first_of u n) ≡ true) × (q ≡ n)))) c.nth_text.ensures (c.in_ok-put_flagged.ensures q))

pub returns : goal.returns
returns c = all_names (unit_in c.args.p.now) c.args.flags.now c.loop-i.i (length c.args.list.now) c.loop-i.table (omega (arith, c.loop-i-test.false, c.loop-i.auto.i-end)) c.loop-i.invariant
