use Rattle.std.proofs.Common.{length, ap, arith}
use Rattle.action_graph.specs.Judging.{refused_text}
use Rattle.go_kit.proofs.LoadLemmas.{unread}
use Rattle.go_kit.proofs.loading.load_package.Goals as goal

pub returns-in_ok-marks-in-None-clause-read : goal.returns-in_ok-marks-in-None-clause-read
returns-in_ok-marks-in-None-clause-read c =
    unread c.args.input.now c.as_slice-files.result.now (refused_text c.in_ok-marks-in-None.marks) c.as_slice-files.ensures (rw c.in-None.is at c.in_ok-read.ensures)

pub load_trees-requires-clause-few : goal.load_trees-requires-clause-few
load_trees-requires-clause-few c =
    let low = c.if-files.false in
    let same = ap length c.as_slice-files.ensures in
    omega (arith, low, same)
