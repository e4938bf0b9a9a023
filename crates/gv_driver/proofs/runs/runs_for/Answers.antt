use Rattle.std.proofs.Common.{rules, ◌≡◌, ◌∙◌, ◌<◌, ◌≤◌, ◌+◌, ◌^◌, ◌++◌, ◌∷◌, ap, sym, subst, refl, map, length, take, [], List, ℕ, arith}
use Rattle.std.proofs.lemmas.List.{length-map}
use Rattle.action_graph.specs.declared.kit.LoadInput.{LoadInput}
use Rattle.action_graph.specs.declared.kit.RunOf.{RunOf}
use Rattle.action_graph.specs.Analyzing.{AreGivenOnce}
use Rattle.action_graph.specs.Judging.{IsLawful, IsStuck}
use Rattle.action_graph.specs.Nodes.{load_texts}
use Rattle.fact_cache.specs.declared.texts.Input.{Input}
use Rattle.gv_driver.specs.Caches.{missing_of}
use Rattle.gv_driver.specs.Given.{givens}
use Rattle.gv_driver.specs.Loads.{run_key, run_keys}
use Rattle.gv_driver.specs.Making.{AreSought, IsAccepting, IsFilled, IsLoading, asked_in}
use Rattle.gv_driver.specs.Tables.{load_over}
use Rattle.gv_driver.specs.Tallies.{tally}
use Rattle.gv_driver.proofs.MissingLaws.{missing-le}
use Rattle.gv_driver.proofs.RunNodeLaws.{spends-none}
use Rattle.gv_driver.proofs.SoughtLaws.{asked-apart, asked-size, runs-filled, spends-all, tried-is}
use Rattle.gv_driver.proofs.runs.runs_for.Goals as goal

pub returns-in_err-run-clause-spends : goal.returns-in_err-run-clause-spends
returns-in_err-run-clause-spends g c =
    (0, spends-none (givens c.args.tree.now c.args.table.now c.args.env.now) c.args.cache.now (load_over c.args.tree.now c.args.table.now c.args.env.now c.args.pack.now) c.args.numbers.now c.args.loading.now.tried (tally (g.K.Kit.loads c.args.kit.now) (g.K.Kit.runs c.args.kit.now)))

pub returns-in_err-parts-clause-spends : goal.returns-in_err-parts-clause-spends
returns-in_err-parts-clause-spends g c =
    (0, spends-none (givens c.args.tree.now c.args.table.now c.args.env.now) c.args.cache.now (load_over c.args.tree.now c.args.table.now c.args.env.now c.args.pack.now) c.args.numbers.now c.args.loading.now.tried (tally (g.K.Kit.loads c.args.kit.now) (g.K.Kit.runs c.args.kit.now)))

pub seek_all-requires-clause-parts : goal.seek_all-requires-clause-parts
seek_all-requires-clause-parts g c = c.in_ok-parts.ensures ∙ ap (λ (l : List (List ℕ)). l ++ [] ∷ []) c.requires.texts ∙ ap (λ (l : LoadInput). load_texts l ++ [] ∷ []) (sym c.in_ok-run.ensures)

pub returns-in_err-nodes-clause-spends : goal.returns-in_err-nodes-clause-spends
returns-in_err-nodes-clause-spends g c =
    (0, spends-none (givens c.args.tree.now c.args.table.now c.args.env.now) c.args.cache.now (load_over c.args.tree.now c.args.table.now c.args.env.now c.args.pack.now) c.args.numbers.now c.args.loading.now.tried (tally (g.K.Kit.loads c.args.kit.now) (g.K.Kit.runs c.args.kit.now)))

pub answered-requires-clause-runs : goal.answered-requires-clause-runs
answered-requires-clause-runs g c =
    let given = givens c.args.tree.now c.args.table.now c.args.env.now in
    let load = load_over c.args.tree.now c.args.table.now c.args.env.now c.args.pack.now in
    let sought : AreSought given c.args.cache.now load c.args.numbers.now c.in_ok-nodes.nodes.items =
    subst (λ (l : LoadInput). AreSought given c.args.cache.now l c.args.numbers.now c.in_ok-nodes.nodes.items) c.in_ok-run.ensures c.in_ok-nodes.ensures.sought in
    let size : length c.deref.result.now ≡ length (missing_of c.args.cache.now (run_keys given load c.args.numbers.now)) =
    ap (λ (l : List RunOf). length l) (c.deref.ensures.value ∙ c.in_ok-nodes.ensures.asked) ∙ (asked-size given c.in_ok-nodes.nodes.items ∙ ap (λ (l : List Input). length l) sought.fresh) in
    let few : length (missing_of c.args.cache.now (run_keys given load c.args.numbers.now)) ≤ length (run_keys given load c.args.numbers.now) = missing-le c.args.cache.now (run_keys given load c.args.numbers.now) in
    let long : length (run_keys given load c.args.numbers.now) ≡ length c.args.numbers.now = length-map c.args.numbers.now (run_key given load) in
    let room : g.K.Kit.runs c.args.kit.now + length c.args.numbers.now < 2 ^ 63 = c.requires.runs in
    omega (arith, size, few, long, room)

pub answered-requires-clause-loading : goal.answered-requires-clause-loading
answered-requires-clause-loading g c =
    subst (λ (l : LoadInput). IsLoading g.K.Kit.is_of g.K.Kit.keeps l c.args.loading.now) (sym (c.seek_all.ensures.load ∙ c.in_ok-run.ensures)) c.requires.loading

pub answered-requires-clause-apart : goal.answered-requires-clause-apart
answered-requires-clause-apart g c =
    subst (λ (l : List RunOf). AreGivenOnce l) (sym (c.deref.ensures.value ∙ c.in_ok-nodes.ensures.asked))
    (asked-apart (givens c.args.tree.now c.args.table.now c.args.env.now) c.in_ok-nodes.nodes.items c.requires.apart)

pub returns-in_err-answered-clause-loading : goal.returns-in_err-answered-clause-loading
returns-in_err-answered-clause-loading g c = subst (λ (l : LoadInput). IsLoading g.K.Kit.is_of g.K.Kit.keeps l c.answered.new.loading) (c.seek_all.ensures.load ∙ c.in_ok-run.ensures) c.answered.ensures.loading

pub returns-in_err-answered-clause-circle : goal.returns-in_err-answered-clause-circle
returns-in_err-answered-clause-circle g c = λ e.
    let stuck : IsStuck c.seek_all.new.run.load = search (rules, e) in
    subst (λ (l : LoadInput). IsStuck l) (c.seek_all.ensures.load ∙ c.in_ok-run.ensures) stuck

pub returns-in_err-answered-clause-spends : goal.returns-in_err-answered-clause-spends
returns-in_err-answered-clause-spends g c =
    let given = givens c.args.tree.now c.args.table.now c.args.env.now in
    let cache = c.args.cache.now in
    let load = load_over c.args.tree.now c.args.table.now c.args.env.now c.args.pack.now in
    let numbers = c.args.numbers.now in
    let asked = c.deref.result.now in
    let nodes = c.in_ok-nodes.nodes.items in
    let sought : AreSought given cache load numbers nodes = subst (λ (l : LoadInput). AreSought given cache l numbers nodes) c.in_ok-run.ensures c.in_ok-nodes.ensures.sought in
    let are : asked ≡ asked_in given nodes = c.deref.ensures.value ∙ c.in_ok-nodes.ensures.asked in
    let size : length asked ≡ length (missing_of cache (run_keys given load numbers)) =
    ap (λ (l : List RunOf). length l) are ∙ (asked-size given nodes ∙ ap (λ (l : List Input). length l) sought.fresh) in
    (length numbers, spends-all cache given load numbers c.args.loading.now.tried c.answered.new.loading.tried (tally (g.K.Kit.loads c.args.kit.now) (g.K.Kit.runs c.args.kit.now)) (tally (g.K.Kit.loads c.answered.new.kit) (g.K.Kit.runs c.answered.new.kit)) asked size c.answered.ensures.begun c.answered.ensures.loads c.answered.ensures.runs)

pub returns-clause-loading : goal.returns-clause-loading
returns-clause-loading g c = subst (λ (l : LoadInput). IsLoading g.K.Kit.is_of g.K.Kit.keeps l c.answered.new.loading) (c.seek_all.ensures.load ∙ c.in_ok-run.ensures) c.answered.ensures.loading

pub returns-clause-made : goal.returns-clause-made
returns-clause-made g c =
    let given = givens c.args.tree.now c.args.table.now c.args.env.now in
    let cache = c.args.cache.now in
    let load = load_over c.args.tree.now c.args.table.now c.args.env.now c.args.pack.now in
    let numbers = c.args.numbers.now in
    let asked = c.deref.result.now in
    let nodes = c.in_ok-nodes.nodes.items in
    let sought : AreSought given cache load numbers nodes = subst (λ (l : LoadInput). AreSought given cache l numbers nodes) c.in_ok-run.ensures c.in_ok-nodes.ensures.sought in
    let are : asked ≡ asked_in given nodes = c.deref.ensures.value ∙ c.in_ok-nodes.ensures.asked in
    let size : length asked ≡ length (missing_of cache (run_keys given load numbers)) =
    ap (λ (l : List RunOf). length l) are ∙ (asked-size given nodes ∙ ap (λ (l : List Input). length l) sought.fresh) in
    let fills = subst (λ (l : LoadInput). IsFilled l asked nodes c.answered.new.nodes.items) (c.seek_all.ensures.load ∙ c.in_ok-run.ensures) c.in_ok-answered.ensures.filled in
    runs-filled given cache load numbers nodes c.answered.new.nodes.items asked c.requires.numbers sought are fills (c.in_ok-answered.ensures.short sought.short)

pub returns-clause-tried : goal.returns-clause-tried
returns-clause-tried g c =
    let given = givens c.args.tree.now c.args.table.now c.args.env.now in
    let cache = c.args.cache.now in
    let load = load_over c.args.tree.now c.args.table.now c.args.env.now c.args.pack.now in
    let numbers = c.args.numbers.now in
    let asked = c.deref.result.now in
    let nodes = c.in_ok-nodes.nodes.items in
    let sought : AreSought given cache load numbers nodes = subst (λ (l : LoadInput). AreSought given cache l numbers nodes) c.in_ok-run.ensures c.in_ok-nodes.ensures.sought in
    let are : asked ≡ asked_in given nodes = c.deref.ensures.value ∙ c.in_ok-nodes.ensures.asked in
    let size : length asked ≡ length (missing_of cache (run_keys given load numbers)) =
    ap (λ (l : List RunOf). length l) are ∙ (asked-size given nodes ∙ ap (λ (l : List Input). length l) sought.fresh) in
    c.in_ok-answered.ensures.tried ∙ tried-is cache c.args.loading.now.tried (run_keys given load numbers) asked size

pub returns-clause-bound : goal.returns-clause-bound
returns-clause-bound g c =
    let given = givens c.args.tree.now c.args.table.now c.args.env.now in
    let cache = c.args.cache.now in
    let load = load_over c.args.tree.now c.args.table.now c.args.env.now c.args.pack.now in
    let numbers = c.args.numbers.now in
    let asked = c.deref.result.now in
    let nodes = c.in_ok-nodes.nodes.items in
    let sought : AreSought given cache load numbers nodes = subst (λ (l : LoadInput). AreSought given cache l numbers nodes) c.in_ok-run.ensures c.in_ok-nodes.ensures.sought in
    let are : asked ≡ asked_in given nodes = c.deref.ensures.value ∙ c.in_ok-nodes.ensures.asked in
    let size : length asked ≡ length (missing_of cache (run_keys given load numbers)) =
    ap (λ (l : List RunOf). length l) are ∙ (asked-size given nodes ∙ ap (λ (l : List Input). length l) sought.fresh) in
    let most : g.K.Kit.runs c.answered.new.kit ≤ g.K.Kit.runs c.args.kit.now + length asked = c.answered.ensures.runs in
    omega (arith, most, size)

pub returns-clause-exact : goal.returns-clause-exact
returns-clause-exact g c = λ fit.
    let given = givens c.args.tree.now c.args.table.now c.args.env.now in
    let cache = c.args.cache.now in
    let load = load_over c.args.tree.now c.args.table.now c.args.env.now c.args.pack.now in
    let numbers = c.args.numbers.now in
    let asked = c.deref.result.now in
    let nodes = c.in_ok-nodes.nodes.items in
    let sought : AreSought given cache load numbers nodes = subst (λ (l : LoadInput). AreSought given cache l numbers nodes) c.in_ok-run.ensures c.in_ok-nodes.ensures.sought in
    let are : asked ≡ asked_in given nodes = c.deref.ensures.value ∙ c.in_ok-nodes.ensures.asked in
    let size : length asked ≡ length (missing_of cache (run_keys given load numbers)) =
    ap (λ (l : List RunOf). length l) are ∙ (asked-size given nodes ∙ ap (λ (l : List Input). length l) sought.fresh) in
    let same : c.seek_all.new.run.load ≡ load = c.seek_all.ensures.load ∙ c.in_ok-run.ensures in
    let now : g.K.Kit.runs c.answered.new.kit ≡ g.K.Kit.runs c.args.kit.now + length asked =
    c.in_ok-answered.ensures.exact (subst (λ (l : LoadInput). IsLawful l) (sym same) fit.lawful) (subst (λ (l : LoadInput). IsAccepting l) (sym same) fit.accepting) in
    omega (arith, now, size)

pub returns-clause-spends : goal.returns-clause-spends
returns-clause-spends g c =
    let given = givens c.args.tree.now c.args.table.now c.args.env.now in
    let cache = c.args.cache.now in
    let load = load_over c.args.tree.now c.args.table.now c.args.env.now c.args.pack.now in
    let numbers = c.args.numbers.now in
    let asked = c.deref.result.now in
    let nodes = c.in_ok-nodes.nodes.items in
    let sought : AreSought given cache load numbers nodes = subst (λ (l : LoadInput). AreSought given cache l numbers nodes) c.in_ok-run.ensures c.in_ok-nodes.ensures.sought in
    let are : asked ≡ asked_in given nodes = c.deref.ensures.value ∙ c.in_ok-nodes.ensures.asked in
    let size : length asked ≡ length (missing_of cache (run_keys given load numbers)) =
    ap (λ (l : List RunOf). length l) are ∙ (asked-size given nodes ∙ ap (λ (l : List Input). length l) sought.fresh) in
    (length numbers, spends-all cache given load numbers c.args.loading.now.tried c.answered.new.loading.tried (tally (g.K.Kit.loads c.args.kit.now) (g.K.Kit.runs c.args.kit.now)) (tally (g.K.Kit.loads c.answered.new.kit) (g.K.Kit.runs c.answered.new.kit)) asked size c.answered.ensures.begun c.answered.ensures.loads c.answered.ensures.runs)
