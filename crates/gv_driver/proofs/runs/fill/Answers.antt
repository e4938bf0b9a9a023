use Rattle.std.proofs.Common.{◌≡◌, ◌∙◌, ◌<◌, ◌≤◌, ◌+◌, ◌^◌, Some, List, ℕ, length, set, drop, map, refl, sym, ap, subst, arith}
use Rattle.std.proofs.lemmas.List.{length-set}
use Rattle.std.proofs.lemmas.Option.{slice_get-get_or}
use Rattle.action_graph.specs.Outcomes.{run_text}
use Rattle.gv_driver.specs.declared.node.RunNode.{RunNode}
use Rattle.gv_driver.proofs.SoughtLaws.{fill-end, fill-step, short-set}
use Rattle.gv_driver.proofs.runs.fill.Goals as goal

pub loop-p-init : goal.loop-p-init
loop-p-init c = record { size = refl; whole = refl; short = λ all. all }

pub loop-p-preserved : goal.loop-p-preserved
loop-p-preserved c =
    let nodes = c.loop-p.nodes.items in
    let p = c.loop-p.p in
    let texts = map run_text c.args.outcomes.now in
    let n : RunNode = c.index_mut.result.now in
    let m : RunNode = c.give.new.node in
    let end_is : c.len-p-end.result ≡ length c.args.nodes.now.items = c.len-p-end.ensures ∙ c.args.nodes.now.ok.0 in
    let size : length nodes ≡ length c.args.nodes.now.items = c.loop-p.invariant.size in
    let test : p < c.len-p-end.result = c.loop-p-test.true in
    let within : p < length nodes = omega (arith, end_is, size, test) in
    record {
      size = length-set nodes p m ∙ size;
      whole = fill-step nodes p n m (drop c.loop-p.next texts) (drop c.in_ok-next.next texts) within c.index_mut.ensures.value c.in_ok-next.ensures.node c.in_ok-next.ensures.next ∙ c.loop-p.invariant.whole;
      short = λ all.
          let before = c.loop-p.invariant.short all in
          let few : length n.outcome < 2 ^ 64 = before p n (slice_get-get_or nodes p n within ∙ ap (λ (x : RunNode). Some x) (sym c.index_mut.ensures.value)) in
          short-set nodes p m (c.in_ok-next.ensures.short few) before;
    }

pub returns-clause-filled : goal.returns-clause-filled
returns-clause-filled c =
    let end_is : c.len-p-end.result ≡ length c.args.nodes.now.items = c.len-p-end.ensures ∙ c.args.nodes.now.ok.0 in
    let size : length c.loop-p.nodes.items ≡ length c.args.nodes.now.items = c.loop-p.invariant.size in
    let test = c.loop-p-test.false in
    sym (fill-end c.loop-p.nodes.items c.loop-p.p (drop c.loop-p.next (map run_text c.args.outcomes.now)) (omega (arith, end_is, size, test))) ∙ c.loop-p.invariant.whole

pub returns-clause-short : goal.returns-clause-short
returns-clause-short c = c.loop-p.invariant.short
