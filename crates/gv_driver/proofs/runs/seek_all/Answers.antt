use Rattle.std.proofs.Common.{◌≡◌, ◌∙◌, ◌<◌, ◌+◌, ◌++◌, ◌∷◌, [], None, List, ℕ, ap, sym, subst, get_or, length, take, map, refl, arith}
use Rattle.std.proofs.lemmas.Option.{slice_get-get_or}
use Rattle.action_graph.specs.declared.kit.LoadInput.{LoadInput}
use Rattle.action_graph.specs.declared.kit.RunInput.{RunInput}
use Rattle.action_graph.specs.declared.kit.RunOf.{RunOf}
use Rattle.action_graph.specs.Analyzing.{IsRunLawful, IsRunOutcome}
use Rattle.action_graph.specs.Nodes.{load_texts}
use Rattle.fact_cache.specs.declared.texts.Input.{Input}
use Rattle.gv_driver.specs.declared.node.RunNode.{RunNode}
use Rattle.gv_driver.specs.Caches.{left_of}
use Rattle.gv_driver.specs.Given.{givens}
use Rattle.gv_driver.specs.Loads.{run_key, run_over}
use Rattle.gv_driver.specs.Making.{AreSought, IsFit, asked_if, asked_in, asked_of}
use Rattle.gv_driver.proofs.MissingLaws.{take-more}
use Rattle.gv_driver.proofs.SoughtLaws.{asked-push, sought-none, sought-push}
use Rattle.gv_driver.proofs.runs.seek_all.Goals as goal

pub loop-number-init : goal.loop-number-init
loop-number-init c = record {
  load = refl;
  sought = rw c.new-nodes.ensures.items (sought-none (givens c.args.tree.now c.args.table.now c.args.env.now) c.args.cache.now c.args.run.now.load);
  asked = rw c.new-nodes.ensures.items c.requires.none;
}

pub seek-requires : goal.seek-requires
seek-requires c = record { parts = c.requires.parts ∙ ap (λ (l : LoadInput). load_texts l ++ [] ∷ []) (sym c.loop-number.invariant.load) }

pub loop-number-preserved : goal.loop-number-preserved
loop-number-preserved c =
    let cache = c.args.cache.now in
    let given = givens c.args.tree.now c.args.table.now c.args.env.now in
    let load = c.args.run.now.load in
    let numbers = c.args.numbers.now in
    let i = c.loop-number.number-index in
    let a = get_or numbers i 0 in
    let within : i < length numbers = c.loop-number-test.true in
    let same : c.loop-number.run.load ≡ load = c.loop-number.invariant.load in
    let key : run_key given c.loop-number.run.load a ≡ run_key given load a = ap (λ (l : LoadInput). run_key given l a) same in
    let over : run_over given a c.loop-number.run.load ≡ run_over given a load = ap (λ (l : LoadInput). run_over given a l) same in
    let n = c.in_ok-node.node in
    let found : IsFit given cache load → n.fresh ≡ None → IsRunOutcome (run_over given a load) n.outcome = λ fit none.
    subst (λ (r : RunInput). IsRunOutcome r n.outcome) over
    (c.in_ok-node.ensures.found fit.honest (subst (λ (r : RunInput). IsRunLawful r) (sym over) (record { load = fit.lawful; number = c.requires.numbers i a (slice_get-get_or numbers i 0 within); named = fit.named a })) none) in
    record {
      load = c.seek.ensures.load ∙ same;
      sought = subst (λ (l : List RunNode). AreSought given cache load (take (i + 1) numbers) l) (sym c.in_ok-add_run.ensures)
          (sought-push given cache load numbers i c.loop-number.nodes.items n within c.in_ok-node.ensures.number (c.in_ok-node.ensures.fresh ∙ ap (λ (k : Input). left_of cache k) key) found c.in_ok-node.ensures.short c.loop-number.invariant.sought);
      asked = c.in_ok-ask.ensures
          ∙ (ap (λ (l : List RunOf). l ++ asked_if n.fresh (asked_of given n.analyzer)) c.loop-number.invariant.asked
          ∙ (sym (asked-push given c.loop-number.nodes.items n) ∙ ap (λ (l : List RunNode). asked_in given l) (sym c.in_ok-add_run.ensures)));
    }

pub returns-clause-sought : goal.returns-clause-sought
returns-clause-sought c =
    subst (λ (ns : List ℕ). AreSought (givens c.args.tree.now c.args.table.now c.args.env.now) c.args.cache.now c.args.run.now.load ns c.loop-number.nodes.items)
    (take-more c.loop-number.number-index c.args.numbers.now (let f = c.loop-number-test.false in omega (arith, f))) c.loop-number.invariant.sought
