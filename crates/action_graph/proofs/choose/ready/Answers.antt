use Rattle.std.proofs.Common.{◌≡◌, ◌<◌, ◌*◌, ◌/◌, Bool, List, length, arith, rules, sym, ap, subst, ◌∙◌}
use Rattle.action_graph.specs.Flags.{IsTable}
use Rattle.action_graph.proofs.ReadyLemmas.{tested, below_adds, below_skips, below_all}
use Rattle.action_graph.proofs.choose.ready.Goals.{then-is_ready+in_ok-push, else-is_ready}
use Rattle.action_graph.proofs.choose.ready.Goals as goal

pub loop-at-preserved : goal.loop-at-preserved
loop-at-preserved c =
    let done = c.args.done.now in
    let accepted = c.args.accepted.now in
    let packages = c.args.packages.now in
    let env = c.args.env.now in
    let flags = c.deref.result.now in
    let node = c.node_at-node.result in
    let line = c.index-packages-at.result in
    let row = c.as_slice-row.result.now in
    let table : IsTable done flags = subst (λ (l : List Bool). IsTable done l) (sym c.deref.ensures.value) c.in_ok-flags.ensures.table in
    let size : length flags ≡ length packages * 16 = ap (λ (l : List Bool). length l) c.deref.ensures.value ∙ c.in_ok-flags.ensures.size in
    let within : c.loop-at.at / 16 < length packages = omega (arith, c.loop-at-test.true) in
    let t = tested packages env node line c.index-env-at.result row (c.loop-at.at / 16) c.node_at-node.ensures.package_number within c.requires.env
    c.index-packages-at.is c.index-env-at.is c.as_slice-row.ensures c.node_at-node.ensures.numbered in
    elim c.if-is_ready.branch [
      | then-is_ready+in_ok-push w ↦ rw (w.nodes-is, w.in_ok-push.ensures.items)
          (below_adds done flags accepted packages env c.args.only c.loop-at.at c.loop-at.nodes.items node line row table size t c.node_at-node.ensures.place
          (c.is_ready.ensures.0 (search (rules, w.if-is_ready.true))) c.loop-at.invariant)
      | else-is_ready w ↦ rw w.nodes-is
          (below_skips done flags accepted packages env c.args.only c.loop-at.at c.loop-at.nodes.items node line row table size t c.node_at-node.ensures.place
          (λ r. let h = c.is_ready.ensures.1 r in let f = w.if-is_ready.false in search (rules, h, f)) c.loop-at.invariant)
    ]

pub returns : goal.returns
returns c =
    below_all c.args.done.now c.args.accepted.now c.args.packages.now c.args.env.now c.args.only c.loop-at.at c.loop-at.nodes.items (omega (arith, c.loop-at-test.false)) c.loop-at.invariant
