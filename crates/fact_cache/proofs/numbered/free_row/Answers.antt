use Rattle.std.proofs.Common.{ℕ, ◌≤◌, List, subst, sym}
use Rattle.fact_cache.specs.Kept.{uses_at}
use Rattle.fact_cache.specs.Numbered.{times, AreFreed}
use Rattle.fact_cache.proofs.NumberedLemmas.{row-first, row-last, freed-more-numbers}
use Rattle.fact_cache.proofs.numbered.free_row.Goals as goal

pub free_all-requires : goal.free_all-requires
free_all-requires c = subst (λ (l : List ℕ). (m : ℕ) → times m l ≤ uses_at c.args.kept.now m) (sym c.as_slice.ensures) (row-first c.args.kept.now c.args.row.now c.requires)

pub free-requires : goal.free-requires
free-requires c = row-last c.args.kept.now c.free_all.new.kept c.args.row.now c.requires (subst (λ (l : List ℕ). AreFreed c.args.kept.now c.free_all.new.kept l) c.as_slice.ensures c.free_all.ensures.freed)

pub returns-clause-freed : goal.returns-clause-freed
returns-clause-freed c = freed-more-numbers c.args.kept.now c.free_all.new.kept c.free.new.self c.args.row.now.texts c.args.row.now.outcome
    (subst (λ (l : List ℕ). AreFreed c.args.kept.now c.free_all.new.kept l) c.as_slice.ensures c.free_all.ensures.freed) c.free.ensures.freed
