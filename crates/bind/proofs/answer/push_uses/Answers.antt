use Rattle.std.proofs.Common.{◌≡◌, ◌++◌, length, ap, ◌∙◌, arith}
use Rattle.bind.specs.Answers.{uses_before}
use Rattle.bind.specs.Places.{placed}
use Rattle.bind.specs.Tables.{found}
use Rattle.bind.proofs.StepLemmas.{uses_more}
use Rattle.bind.proofs.answer.push_uses.Goals as goal

pub loop-at-preserved : goal.loop-at-preserved
loop-at-preserved c =
    uses_more c.args.file.now c.args.number (record { top_names = found c.args.top_names.now; imports = found c.args.imports.now; universe = placed c.args.universe.now }) c.loop-at.at
    c.args.out.now.items c.loop-at.out.items c.push_use.new.out.items c.loop-at.invariant c.in_ok-push_use.ensures

pub returns : goal.returns
returns c =
    let end : c.loop-at.at ≡ length c.args.file.now.tree.now.nodes = omega (arith, c.loop-at-test.false, c.loop-at.auto.at-end, c.count_nodes-at-end.ensures) in
    c.loop-at.invariant
    ∙ ap (λ n. c.args.out.now.items ++ uses_before c.args.file.now c.args.number (record { top_names = found c.args.top_names.now; imports = found c.args.imports.now; universe = placed c.args.universe.now }) n) end
