use Rattle.std.proofs.Common.{rules, ◌≡◌, ◌≤◌, ◌<◌, ◌+◌, ◌^◌, ◌∙◌, sym, ap, subst, refl, arith, length, List, ℕ}
use Rattle.gv_driver.specs.Analyzers.{AreAnalyzers, analyzers_of}
use Rattle.gv_driver.specs.Given.{givens}
use Rattle.gv_driver.specs.Making.{IsBegun, IsMade, Takes, digit}
use Rattle.gv_driver.specs.Tables.{load_over}
use Rattle.gv_driver.specs.Tallies.{Tally, tally}
use Rattle.gv_driver.proofs.AnalyzerLaws.{analyzers-few, are-analyzers}
use Rattle.gv_driver.proofs.MakingLaws.{begun-none, begun-same}
use Rattle.gv_driver.proofs.MissingLaws.{digit-one}
use Rattle.gv_driver.proofs.package.made_of.Goals as goal

pub returns-in_err-numbers-clause-begun : goal.returns-in_err-numbers-clause-begun
returns-in_err-numbers-clause-begun g c =
    let h =
    begun-none (givens c.args.tree.now c.args.table.now c.args.env.now) c.args.cache.now (load_over c.args.tree.now c.args.table.now c.args.env.now c.args.pack.now) (analyzers_of c.args.only c.args.pack.now.stub) (tally (g.K.Kit.loads c.args.kit.now) (g.K.Kit.runs c.args.kit.now)) in
    search (rules, h)

pub returns-in_err-parts-clause-begun : goal.returns-in_err-parts-clause-begun
returns-in_err-parts-clause-begun g c =
    let h =
    begun-none (givens c.args.tree.now c.args.table.now c.args.env.now) c.args.cache.now (load_over c.args.tree.now c.args.table.now c.args.env.now c.args.pack.now) (analyzers_of c.args.only c.args.pack.now.stub) (tally (g.K.Kit.loads c.args.kit.now) (g.K.Kit.runs c.args.kit.now)) in
    search (rules, h)

pub returns-in_err-begun-clause-begun : goal.returns-in_err-begun-clause-begun
returns-in_err-begun-clause-begun g c =
    let h =
    begun-same (givens c.args.tree.now c.args.table.now c.args.env.now) c.args.cache.now (load_over c.args.tree.now c.args.table.now c.args.env.now c.args.pack.now) (analyzers_of c.args.only c.args.pack.now.stub)
    (tally (g.K.Kit.loads c.args.kit.now) (g.K.Kit.runs c.args.kit.now)) (tally (g.K.Kit.loads c.begun_of.new.kit) (g.K.Kit.runs c.begun_of.new.kit)) c.in_err-begun.ensures.refused c.begun_of.ensures.runs in
    search (rules, h)

pub with_runs-requires-clause-loads : goal.with_runs-requires-clause-loads
with_runs-requires-clause-loads g c =
    let one : g.K.Kit.loads c.begun_of.new.kit ≡ g.K.Kit.loads c.args.kit.now + digit c.in_ok-begun.begun.loading.tried = c.in_ok-begun.ensures.counts in
    let le : digit c.in_ok-begun.begun.loading.tried ≤ 1 = digit-one c.in_ok-begun.begun.loading.tried in
    let room : g.K.Kit.loads c.args.kit.now + 2 < 2 ^ 63 = c.requires.loads in
    omega (arith, one, le, room)

pub with_runs-requires-clause-runs : goal.with_runs-requires-clause-runs
with_runs-requires-clause-runs g c =
    let same : length c.deref.result.now ≡ length (analyzers_of c.args.only c.args.pack.now.stub) = ap (λ (l : List ℕ). length l) (c.deref.ensures.value ∙ c.in_ok-numbers.ensures) in
    let few : length (analyzers_of c.args.only c.args.pack.now.stub) ≤ 15 = analyzers-few c.args.only c.args.pack.now.stub in
    let runs : g.K.Kit.runs c.begun_of.new.kit ≡ g.K.Kit.runs c.args.kit.now = c.begun_of.ensures.runs in
    let room : g.K.Kit.runs c.args.kit.now + 15 < 2 ^ 63 = c.requires.runs in
    omega (arith, same, few, runs, room)

pub with_runs-requires-clause-numbers : goal.with_runs-requires-clause-numbers
with_runs-requires-clause-numbers g c =
    subst (λ (l : List ℕ). AreAnalyzers l) (sym (c.deref.ensures.value ∙ c.in_ok-numbers.ensures)) (are-analyzers c.args.only c.args.pack.now.stub)

pub returns-in_err-node-clause-begun : goal.returns-in_err-node-clause-begun
returns-in_err-node-clause-begun g c =
    let cache = c.args.cache.now in
    let load = load_over c.args.tree.now c.args.table.now c.args.env.now c.args.pack.now in
    let now = tally (g.K.Kit.loads c.with_runs.new.kit) (g.K.Kit.runs c.with_runs.new.kit) in
    let h =
    subst (λ (l : List ℕ). IsBegun (givens c.args.tree.now c.args.table.now c.args.env.now) cache load l (tally (g.K.Kit.loads c.args.kit.now) (g.K.Kit.runs c.args.kit.now)) now) (c.deref.ensures.value ∙ c.in_ok-numbers.ensures)
    (subst (λ (r : ℕ). IsBegun (givens c.args.tree.now c.args.table.now c.args.env.now) cache load c.deref.result.now (tally (g.K.Kit.loads c.args.kit.now) r) now) c.begun_of.ensures.runs (c.in_err-node.ensures.begun (g.K.Kit.loads c.args.kit.now) c.in_ok-begun.ensures.counts)) in
    search (rules, h)

pub returns-clause-made : goal.returns-clause-made
returns-clause-made g c =
    subst (λ (l : List ℕ). IsMade (givens c.args.tree.now c.args.table.now c.args.env.now) c.args.cache.now (load_over c.args.tree.now c.args.table.now c.args.env.now c.args.pack.now) l c.in_ok-node.node) (c.deref.ensures.value ∙ c.in_ok-numbers.ensures) c.in_ok-node.ensures.made

pub returns-clause-takes : goal.returns-clause-takes
returns-clause-takes g c =
    let cache = c.args.cache.now in
    let load = load_over c.args.tree.now c.args.table.now c.args.env.now c.args.pack.now in
    let now = tally (g.K.Kit.loads c.with_runs.new.kit) (g.K.Kit.runs c.with_runs.new.kit) in
    subst (λ (l : List ℕ). Takes (givens c.args.tree.now c.args.table.now c.args.env.now) cache load l c.in_ok-node.node (tally (g.K.Kit.loads c.args.kit.now) (g.K.Kit.runs c.args.kit.now)) now) (c.deref.ensures.value ∙ c.in_ok-numbers.ensures)
    (subst (λ (r : ℕ). Takes (givens c.args.tree.now c.args.table.now c.args.env.now) cache load c.deref.result.now c.in_ok-node.node (tally (g.K.Kit.loads c.args.kit.now) r) now) c.begun_of.ensures.runs (c.in_ok-node.ensures.takes (g.K.Kit.loads c.args.kit.now) c.in_ok-begun.ensures.counts))
