use Rattle.std.proofs.Common.{◌≤◌, ◌^◌, length, ap, arith}
use Rattle.conformance.proofs.ReadyLemmas.{parsed_spelled, pushed_ready}
use Rattle.conformance.proofs.parsed.add_file.Goals as goal

pub read_locals-requires-clause-spelled : goal.read_locals-requires-clause-spelled
read_locals-requires-clause-spelled c = parsed_spelled c.args.text.now c.in-Parsed.tree (rw c.in-Parsed.is at c.in_ok-verdict.ensures)

pub returns-in_ok-push-in-Parsed-3 : goal.returns-in_ok-push-in-Parsed-3
returns-in_ok-push-in-Parsed-3 c =
    let size = ap length c.as_slice.ensures in
    let small : length c.in-Parsed.tree.nodes ≤ 2 ^ 32 = omega (arith, size, c.if-as_slice-gt-MOST.false) in
    pushed_ready c.args.files.now.items _ c.args.sources.now.items _ c.in-Parsed.tree c.in_ok-source-in-Parsed.source c.args.text.now
    c.in_ok-push-in-Parsed-2.ensures.items c.in_ok-push-in-Parsed-3.ensures.items c.in_ok-source-in-Parsed.ensures
    (parsed_spelled c.args.text.now c.in-Parsed.tree (rw c.in-Parsed.is at c.in_ok-verdict.ensures)) small c.requires
