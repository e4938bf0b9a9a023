use Rattle.std.proofs.Common.{rules, ◌≡◌, ◌∙◌, ◌<◌, ◌≤◌, ◌+◌, ◌^◌, ap, sym, subst, refl, length, take, Bool, true, false, List, ℕ, arith}
use Rattle.gv_driver.specs.declared.node.Node.{Node}
use Rattle.gv_driver.specs.Caches.{missing_of}
use Rattle.gv_driver.specs.Given.{givens}
use Rattle.gv_driver.specs.Loads.{run_keys}
use Rattle.gv_driver.specs.Making.{AreRuns, IsFit, Spends, digit, spent_by}
use Rattle.gv_driver.specs.Tables.{chosen_if, is_good, load_over}
use Rattle.gv_driver.specs.Tallies.{tally}
use Rattle.gv_driver.proofs.AnalyzerLaws.{chosen-analyzers, chosen-few}
use Rattle.gv_driver.proofs.MakingLaws.{begun-runs, made-node, takes-node}
use Rattle.gv_driver.proofs.package.with_runs.Goals as goal

pub runs_for-requires-clause-runs : goal.runs_for-requires-clause-runs
runs_for-requires-clause-runs g c =
    let few : length (chosen_if c.is_accepted.result c.args.numbers.now) ≤ length c.args.numbers.now = chosen-few c.is_accepted.result c.args.numbers.now in
    let same : length c.chosen-numbers.result.now ≡ length (chosen_if c.is_accepted.result c.args.numbers.now) = ap (λ (l : List ℕ). length l) c.chosen-numbers.ensures in
    let room : g.K.Kit.runs c.args.kit.now + length c.args.numbers.now < 2 ^ 63 = c.requires.runs in
    omega (arith, few, same, room)

pub runs_for-requires-clause-numbers : goal.runs_for-requires-clause-numbers
runs_for-requires-clause-numbers g c = chosen-analyzers c.is_accepted.result c.args.numbers.now c.chosen-numbers.result.now c.chosen-numbers.ensures c.requires.numbers

pub returns-in_err-runs-clause-begun : goal.returns-in_err-runs-clause-begun
returns-in_err-runs-clause-begun g c = λ count e.
    let cache = c.args.cache.now in
    let load = load_over c.args.tree.now c.args.table.now c.args.env.now c.args.pack.now in
    let given = givens c.args.tree.now c.args.table.now c.args.env.now in
    let s = c.runs_for.ensures.spends in
    let now = tally (g.K.Kit.loads c.runs_for.new.kit) (g.K.Kit.runs c.runs_for.new.kit) in
    let mid = tally (g.K.Kit.loads c.args.kit.now) (g.K.Kit.runs c.args.kit.now) in
    let h =
    begun-runs given cache load g.K.Kit.is_of g.K.Kit.keeps c.args.numbers.now c.args.begun (tally count (g.K.Kit.runs c.args.kit.now)) mid now c.runs_for.new.loading.tried c.is_accepted.result s.0
    c.requires.opened c.is_accepted.ensures e refl
    (subst (λ (ns : List ℕ). Spends cache (run_keys given load (take s.0 ns)) c.args.begun.loading.tried c.runs_for.new.loading.tried mid now) c.chosen-numbers.ensures s.1) in
    search (rules, h)

pub release-requires-clause-keeps : goal.release-requires-clause-keeps
release-requires-clause-keeps g c = λ l e. (c.runs_for.ensures.loading.held l e).1

pub returns-clause-made : goal.returns-clause-made
returns-clause-made g c =
    let cache = c.args.cache.now in
    let load = load_over c.args.tree.now c.args.table.now c.args.env.now c.args.pack.now in
    let given = givens c.args.tree.now c.args.table.now c.args.env.now in
    let n : Node = record { fresh = c.args.begun.fresh; answer = c.args.begun.answer; reach = c.new-2.result; runs = c.new-3.result } in
    made-node given cache load g.K.Kit.is_of g.K.Kit.keeps c.args.numbers.now c.args.begun n c.in_ok-runs.runs.items c.is_accepted.result c.requires.opened c.is_accepted.ensures refl refl c.new-3.ensures
    (subst (λ (ns : List ℕ). AreRuns given cache load ns c.in_ok-runs.runs.items) c.chosen-numbers.ensures c.in_ok-runs.ensures.made)

pub returns-clause-takes : goal.returns-clause-takes
returns-clause-takes g c = λ count e.
    let cache = c.args.cache.now in
    let load = load_over c.args.tree.now c.args.table.now c.args.env.now c.args.pack.now in
    let given = givens c.args.tree.now c.args.table.now c.args.env.now in
    let good = c.is_accepted.result in
    let numbers = c.args.numbers.now in
    let ns = c.chosen-numbers.result.now in
    let are : ns ≡ chosen_if good numbers = c.chosen-numbers.ensures in
    let n : Node = record { fresh = c.args.begun.fresh; answer = c.args.begun.answer; reach = c.new-2.result; runs = c.new-3.result } in
    let made = made-node given cache load g.K.Kit.is_of g.K.Kit.keeps numbers c.args.begun n c.in_ok-runs.runs.items good c.requires.opened c.is_accepted.ensures refl refl c.new-3.ensures
    (subst (λ (l : List ℕ). AreRuns given cache load l c.in_ok-runs.runs.items) are c.in_ok-runs.ensures.made) in
    let s = c.runs_for.ensures.spends in
    let before = g.K.Kit.runs c.args.kit.now in
    let after = g.K.Kit.runs c.runs_for.new.kit in
    let loads : g.K.Kit.loads c.release.new.kit ≡ g.K.Kit.loads c.runs_for.new.kit = c.release.ensures.loads in
    let runs : g.K.Kit.runs c.release.new.kit ≡ g.K.Kit.runs c.runs_for.new.kit = c.release.ensures.runs in
    let took = takes-node given cache load g.K.Kit.is_of g.K.Kit.keeps numbers c.args.begun n (tally count before) (tally (g.K.Kit.loads c.args.kit.now) before) (tally (g.K.Kit.loads c.runs_for.new.kit) after)
    c.runs_for.new.loading.tried good c.requires.opened c.is_accepted.ensures e refl made
    (c.in_ok-runs.ensures.tried ∙ ap (λ (l : List ℕ). spent_by cache c.args.begun.loading.tried (run_keys given load l)) are) s.1.loads
    (λ fit. c.in_ok-runs.ensures.exact fit ∙ ap (λ (l : List ℕ). before + length (missing_of cache (run_keys given load l))) are)
    (subst (λ (l : List ℕ). after ≤ before + length (missing_of cache (run_keys given load l))) are c.in_ok-runs.ensures.bound) c.runs_for.ensures.least in
    record {
      loads = loads ∙ took.loads;
      runs = λ honest lawful named. runs ∙ took.runs honest lawful named;
      bound = (let a = took.bound in omega (arith, a, runs));
      most = (let a = took.most in omega (arith, a, runs));
    }
