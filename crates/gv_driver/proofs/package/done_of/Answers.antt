use Rattle.std.proofs.Common.{rules, ◌≡◌, ◌∙◌, List, ℕ, ap, sym, subst, refl}
use Rattle.action_graph.specs.declared.kit.LoadInput.{LoadInput}
use Rattle.action_graph.specs.Judging.{IsStuck}
use Rattle.gv_driver.specs.declared.node.Answer.{Answer}
use Rattle.gv_driver.specs.declared.node.Node.{Node}
use Rattle.gv_driver.specs.declared.node.RunNode.{RunNode}
use Rattle.gv_driver.specs.Analyzers.{analyzers_of}
use Rattle.gv_driver.specs.Given.{givens, givens_from}
use Rattle.gv_driver.specs.Making.{AllApart, IsBegun, IsMade, Takes}
use Rattle.gv_driver.specs.Rows.{merged}
use Rattle.gv_driver.specs.Tables.{IsRowOf, export_part, load_from, load_over}
use Rattle.gv_driver.specs.Tallies.{tally}
use Rattle.gv_driver.proofs.GivenLaws.{givens-apart}
use Rattle.gv_driver.proofs.MakingLaws.{begun-made, begun-none, made-same, takes-same}
use Rattle.gv_driver.proofs.package.done_of.Goals as goal

pub returns-in_err-env-clause-begun : goal.returns-in_err-env-clause-begun
returns-in_err-env-clause-begun g c =
    let h =
    begun-none (givens_from c.args.tree.now c.args.table.now c.args.pack.now) c.args.cache.now (load_from c.args.tree.now c.args.table.now c.args.pack.now) (analyzers_of c.args.only c.args.pack.now.stub) (tally (g.K.Kit.loads c.args.kit.now) (g.K.Kit.runs c.args.kit.now)) in
    search (rules, h)

pub made_of-requires-clause-apart : goal.made_of-requires-clause-apart
made_of-requires-clause-apart g c =
    let tree = c.args.tree.now in
    let table = c.args.table.now in
    let pack = c.args.pack.now in
    let env : c.as_slice-2.result.now ≡ merged table pack.imports = c.as_slice-2.ensures ∙ (c.in_ok-env.ensures ∙ ap (λ (l : List ℕ). merged table l) c.as_slice.ensures) in
    subst (λ (e : List ℕ). AllApart (givens tree table e)) (sym env) (givens-apart tree table pack.imports c.requires.tree c.requires.size)

pub returns-in_err-node-clause-begun : goal.returns-in_err-node-clause-begun
returns-in_err-node-clause-begun g c =
    let tree = c.args.tree.now in
    let table = c.args.table.now in
    let pack = c.args.pack.now in
    let env : c.as_slice-2.result.now ≡ merged table pack.imports = c.as_slice-2.ensures ∙ (c.in_ok-env.ensures ∙ ap (λ (l : List ℕ). merged table l) c.as_slice.ensures) in
    let h =
    subst (λ (e : List ℕ). IsBegun (givens tree table e) c.args.cache.now (load_over tree table e pack) (analyzers_of c.args.only pack.stub) (tally (g.K.Kit.loads c.args.kit.now) (g.K.Kit.runs c.args.kit.now))
    (tally (g.K.Kit.loads c.made_of.new.kit) (g.K.Kit.runs c.made_of.new.kit))) env c.in_err-node.ensures.begun in
    search (rules, h)

pub returns-in_err-node-clause-circle : goal.returns-in_err-node-clause-circle
returns-in_err-node-clause-circle g c = λ e.
    let tree = c.args.tree.now in
    let table = c.args.table.now in
    let pack = c.args.pack.now in
    let env : c.as_slice-2.result.now ≡ merged table pack.imports = c.as_slice-2.ensures ∙ (c.in_ok-env.ensures ∙ ap (λ (l : List ℕ). merged table l) c.as_slice.ensures) in
    let stuck : IsStuck (load_over tree table c.as_slice-2.result.now pack) = search (rules, e) in
    subst (λ (l : List ℕ). IsStuck (load_over tree table l pack)) env stuck

pub returns-in_err-reach-clause-begun : goal.returns-in_err-reach-clause-begun
returns-in_err-reach-clause-begun g c =
    let tree = c.args.tree.now in
    let table = c.args.table.now in
    let pack = c.args.pack.now in
    let cache = c.args.cache.now in
    let numbers = analyzers_of c.args.only pack.stub in
    let count = tally (g.K.Kit.loads c.args.kit.now) (g.K.Kit.runs c.args.kit.now) in
    let now = tally (g.K.Kit.loads c.made_of.new.kit) (g.K.Kit.runs c.made_of.new.kit) in
    let env : c.as_slice-2.result.now ≡ merged table pack.imports = c.as_slice-2.ensures ∙ (c.in_ok-env.ensures ∙ ap (λ (l : List ℕ). merged table l) c.as_slice.ensures) in
    let h =
    begun-made (givens_from tree table pack) cache (load_from tree table pack) numbers c.in_ok-node.node count now
    (subst (λ (e : List ℕ). IsMade (givens tree table e) cache (load_over tree table e pack) numbers c.in_ok-node.node) env c.in_ok-node.ensures.made)
    (subst (λ (e : List ℕ). Takes (givens tree table e) cache (load_over tree table e pack) numbers c.in_ok-node.node count now) env c.in_ok-node.ensures.takes) in
    search (rules, h)

pub returns-clause-made : goal.returns-clause-made
returns-clause-made g c =
    let tree = c.args.tree.now in
    let table = c.args.table.now in
    let pack = c.args.pack.now in
    let cache = c.args.cache.now in
    let numbers = analyzers_of c.args.only pack.stub in
    let env : c.as_slice-2.result.now ≡ merged table pack.imports = c.as_slice-2.ensures ∙ (c.in_ok-env.ensures ∙ ap (λ (l : List ℕ). merged table l) c.as_slice.ensures) in
    made-same (givens_from tree table pack) cache (load_from tree table pack) numbers c.in_ok-node.node c.with_row.result c.with_row.ensures.fresh c.with_row.ensures.answer c.with_row.ensures.runs
    (subst (λ (e : List ℕ). IsMade (givens tree table e) cache (load_over tree table e pack) numbers c.in_ok-node.node) env c.in_ok-node.ensures.made)

pub returns-clause-takes : goal.returns-clause-takes
returns-clause-takes g c =
    let tree = c.args.tree.now in
    let table = c.args.table.now in
    let pack = c.args.pack.now in
    let cache = c.args.cache.now in
    let numbers = analyzers_of c.args.only pack.stub in
    let count = tally (g.K.Kit.loads c.args.kit.now) (g.K.Kit.runs c.args.kit.now) in
    let now = tally (g.K.Kit.loads c.made_of.new.kit) (g.K.Kit.runs c.made_of.new.kit) in
    let env : c.as_slice-2.result.now ≡ merged table pack.imports = c.as_slice-2.ensures ∙ (c.in_ok-env.ensures ∙ ap (λ (l : List ℕ). merged table l) c.as_slice.ensures) in
    takes-same (givens_from tree table pack) cache (load_from tree table pack) numbers c.in_ok-node.node c.with_row.result count now c.with_row.ensures.fresh c.with_row.ensures.runs
    (subst (λ (e : List ℕ). Takes (givens tree table e) cache (load_over tree table e pack) numbers c.in_ok-node.node count now) env c.in_ok-node.ensures.takes)

pub returns-clause-row : goal.returns-clause-row
returns-clause-row g c =
    let tree = c.args.tree.now in
    let table = c.args.table.now in
    let pack = c.args.pack.now in
    let env : c.as_slice-3.result.now ≡ merged table pack.imports = c.as_slice-3.ensures ∙ (c.in_ok-env.ensures ∙ ap (λ (l : List ℕ). merged table l) c.as_slice.ensures) in
    let text : c.export_of.result.now ≡ export_part c.with_row.result.answer = c.export_of.ensures ∙ ap (λ (a : Answer). export_part a) (sym c.with_row.ensures.answer) in
    subst (λ (r : List ℕ). IsRowOf tree table (merged table pack.imports) (export_part c.with_row.result.answer) r) (sym c.with_row.ensures.reach)
    (subst (λ (t : List ℕ). IsRowOf tree table (merged table pack.imports) t c.in_ok-reach.reach) text
    (subst (λ (e : List ℕ). IsRowOf tree table e c.export_of.result.now c.in_ok-reach.reach) env c.in_ok-reach.ensures))
