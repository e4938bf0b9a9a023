use Rattle.std.proofs.Common.{List, ℕ, sym, ◌∙◌, subst, ◌↔◌, IsTrue}
use Rattle.node_values.specs.Ranges.{starts, IsWithin}
use Rattle.body_rules.proofs.JumpLemmas.{into_some, not_true}
use Rattle.body_rules.proofs.jumps.jumps_into.Goals as goal

pub returns-in-Some : goal.returns-in-Some
returns-in-Some c =
    let is = into_some c.args.nodes.now c.args.blocks.now c.args.n c.args.l c.in-Some.b c.requires.tree c.requires.tiled c.requires.label c.requires.blocks (sym c.number_at.ensures ∙ c.in-Some.is) in
    let out = not_true c.is_within.result (IsWithin (starts c.args.nodes.now) c.in-Some.b c.args.n)
    (subst (λ (s : List ℕ). IsTrue c.is_within.result ↔ IsWithin s c.in-Some.b c.args.n) c.requires.begins c.is_within.ensures) in
    (λ h. is.0 (out.0 h), λ j. out.1 (is.1 j))
