use Rattle.std.proofs.Common.{ℕ, List, Option, length, sym, ◌∙◌, subst}
use Rattle.node_values.specs.Trees.{AreInnermost}
use Rattle.body_rules.specs.Given.{given}
use Rattle.body_rules.specs.Kinds.{is_block}
use Rattle.body_rules.specs.Latest.{AreLatest}
use Rattle.body_rules.proofs.KindLemmas.{goto_there}
use Rattle.body_rules.proofs.rules.goes_over.Goals as goal

pub jumps_over-requires-clause-blocks : goal.jumps_over-requires-clause-blocks
jumps_over-requires-clause-blocks c =
    let f = given c.args.v.now.file.now in
    subst (λ (blocks : List (Option ℕ)). AreInnermost is_block f.nodes blocks) (sym c.deref.ensures.value) (c.requires.blocks c.args.n (goto_there f c.args.n c.in-Some.l (sym c.goto_label.ensures ∙ c.in-Some.is)))

pub jumps_over-requires-clause-latest : goal.jumps_over-requires-clause-latest
jumps_over-requires-clause-latest c =
    let f = given c.args.v.now.file.now in
    subst (λ (blocks : List (Option ℕ)). AreLatest f.nodes blocks (length f.nodes) c.deref-in-Some.result.now) (sym c.deref.ensures.value)
    (subst (λ (latest : List (Option ℕ)). AreLatest f.nodes c.args.v.now.blocks.items (length f.nodes) latest) (sym c.deref-in-Some.ensures.value)
    (c.requires.latest c.args.n (goto_there f c.args.n c.in-Some.l (sym c.goto_label.ensures ∙ c.in-Some.is))))
