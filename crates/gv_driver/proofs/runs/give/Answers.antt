use Rattle.std.proofs.Common.{◌≡◌, ◌+◌, ◌∙◌, ◌∷◌, ℕ, Some, List, drop, map, slice_get, ap, sym}
use Rattle.std.proofs.lemmas.Option.{slice_get-get_or}
use Rattle.action_graph.specs.declared.kit.RunOutcome.{RunOutcome}
use Rattle.action_graph.specs.Outcomes.{run_text}
use Rattle.gv_driver.specs.Making.{with_text}
use Rattle.gv_driver.proofs.SoughtLaws.{given-after, given-text, gives_some}
use Rattle.gv_driver.proofs.runs.give.Goals as goal

pub returns-in_ok-text-in-Some-clause-node : goal.returns-in_ok-text-in-Some-clause-node
returns-in_ok-text-in-Some-clause-node c =
    let node = c.args.node.now in
    let outcomes = c.args.outcomes.now in
    let next = c.args.next in
    let o = c.in-Some.outcome.now in
    let look = c.in-Some.ensures.lookup in
    let at : slice_get outcomes next ≡ Some o = slice_get-get_or outcomes next o look.3.0 ∙ ap (λ (x : RunOutcome). Some x) (sym look.1) in
    let rest : drop next (map run_text outcomes) ≡ run_text o ∷ drop (next + 1) (map run_text outcomes) = gives_some outcomes next o at in
    ap (λ (t : List ℕ). with_text node t)
    (c.new.ensures
    ∙ (c.in_ok-text-in-Some.ensures
    ∙ given-text node.fresh c.is_none.result (drop next (map run_text outcomes)) (drop (next + 1) (map run_text outcomes)) (run_text o) node.outcome c.is_none.ensures c.if-is_none.false rest))

pub returns-in_ok-text-in-Some-clause-next : goal.returns-in_ok-text-in-Some-clause-next
returns-in_ok-text-in-Some-clause-next c =
    let node = c.args.node.now in
    let outcomes = c.args.outcomes.now in
    let next = c.args.next in
    let o = c.in-Some.outcome.now in
    let look = c.in-Some.ensures.lookup in
    let at : slice_get outcomes next ≡ Some o = slice_get-get_or outcomes next o look.3.0 ∙ ap (λ (x : RunOutcome). Some x) (sym look.1) in
    let rest : drop next (map run_text outcomes) ≡ run_text o ∷ drop (next + 1) (map run_text outcomes) = gives_some outcomes next o at in
    given-after node.fresh c.is_none.result (drop next (map run_text outcomes)) (drop (next + 1) (map run_text outcomes)) (run_text o) c.is_none.ensures c.if-is_none.false rest
