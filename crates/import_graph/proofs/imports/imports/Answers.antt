use Rattle.std.proofs.Common.{sym, subst}
use Rattle.std.specs.List.{Contains}
use Rattle.std.specs.List.Sorted.{IsStrictlyIncreasing}
use Rattle.std.proofs.lemmas.List.Filters.{dedup_is}
use Rattle.std.proofs.lemmas.List.Kept.{Contains-dedup_nat, Contains-from_dedup}
use Rattle.std.proofs.lemmas.List.Sorted.{Contains-permutation, IsPermutation-sym}
use Rattle.std.proofs.lemmas.Map.Keys.{IsStrictlyIncreasing-dedup}
use lib.Dec.{eqb}
use Rattle.import_graph.specs.Packages.{lines_of}
use Rattle.import_graph.proofs.ImportLemmas.{found-same}
use Rattle.import_graph.proofs.imports.imports.Goals as goal

pub returns-clause-rising : goal.returns-clause-rising
returns-clause-rising c =
    subst IsStrictlyIncreasing (sym (dedup_is eqb c.sort_unstable.new.self.items c.dedup.new.self.items c.dedup.ensures.filtered))
    (IsStrictlyIncreasing-dedup c.sort_unstable.new.self.items c.sort_unstable.ensures.sorted)

pub returns-clause-found : goal.returns-clause-found
returns-clause-found c =
    let same = dedup_is eqb c.sort_unstable.new.self.items c.dedup.new.self.items c.dedup.ensures.filtered in
    found-same c.args.names.now (lines_of c.args.heads.now c.args.files.now) c.in_ok-found.found.items c.dedup.new.self.items
    (λ k h. Contains-permutation c.sort_unstable.new.self.items c.in_ok-found.found.items k (IsPermutation-sym c.in_ok-found.found.items c.sort_unstable.new.self.items c.sort_unstable.ensures.permutation)
    (Contains-from_dedup eqb c.sort_unstable.new.self.items k (subst (λ t. Contains t k) same h)))
    (λ k h. subst (λ t. Contains t k) (sym same) (Contains-dedup_nat c.sort_unstable.new.self.items k
    (Contains-permutation c.in_ok-found.found.items c.sort_unstable.new.self.items k c.sort_unstable.ensures.permutation h)))
    c.in_ok-found.ensures
