use Rattle.std.proofs.Common.{rules, sym, subst, length, ◌≤◌}
use Rattle.std.proofs.Math.Dec.{ltb}
use Rattle.std.proofs.lemmas.List.Sorted.{IsPartitionPoint-from_clause}
use Rattle.unit_read.specs.Entries.{AreAscending, AreBelow, AreAbove}
use Rattle.unit_read.proofs.EntryLemmas.{are_partitioned, below_at, above_at}
use Rattle.unit_read.proofs.entries.place_of.Goals as goal

pub returns : goal.returns
returns g c =
    let list = c.deref.result.now in
    let same = c.deref.ensures.value in
    let place = c.partition_point.result in
    let ascending = subst (λ l. AreAscending l) (sym same) c.requires in
    let point = IsPartitionPoint-from_clause (λ e. ltb e.0 c.args.n) list place c.partition_point.ensures.partitioned (are_partitioned list c.args.n ascending) (λ a r f k. search rules) in
    record {
      within = subst (λ l. place ≤ length l) same c.partition_point.ensures.bound;
      below = subst (λ l. AreBelow l c.args.n place) same (below_at list c.args.n place point.0);
      above = subst (λ l. AreAbove l c.args.n place) same (above_at list c.args.n place point.1);
    }
