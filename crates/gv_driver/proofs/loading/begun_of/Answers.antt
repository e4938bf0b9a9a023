use Rattle.std.proofs.Common.{◌≡◌, ◌∙◌}
use Rattle.action_graph.specs.Nodes.{load_texts}
use Rattle.gv_driver.specs.Tables.{load_over}
use Rattle.gv_driver.proofs.LoadingLaws.{opened-found}
use Rattle.gv_driver.proofs.loading.begun_of.Goals as goal

pub returns-in_ok-answer-in-Some-clause-opened : goal.returns-in_ok-answer-in-Some-clause-opened
returns-in_ok-answer-in-Some-clause-opened g c =
    let load = load_over c.args.tree.now c.args.table.now c.args.env.now c.args.pack.now in
    let parts : c.args.parts.now ≡ load_texts load = c.requires.parts in
    opened-found g.K.Kit.is_of g.K.Kit.keeps c.args.cache.now load c.args.parts.now c.found.result c.in-Some.outcome.now parts c.in-Some.ensures
    c.found.ensures.fresh (c.found.ensures.answer ∙ c.in_ok-answer-in-Some.ensures) c.found.ensures.loaded c.found.ensures.tried
