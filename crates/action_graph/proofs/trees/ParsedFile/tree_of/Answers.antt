use Rattle.std.proofs.Common.{List, ℕ, ◌≡◌, ◌∙◌, sym, subst}
use Rattle.std.proofs.lemmas.Bool.{not-false}
use Rattle.std.proofs.lemmas.Slice.Eq.{bytes_eq-Decides}
use Rattle.parse_file.specs.Verdict.{IsParsed}
use Rattle.action_graph.proofs.trees.ParsedFile.tree_of.Goals as goal

pub returns : goal.returns
returns c =
    let same : c.self.inside.bytes ≡ c.args.text.now = sym c.as_slice.ensures ∙ (bytes_eq-Decides c.as_slice.result.now c.args.text.now).0 (not-false _ (sym c.ne.ensures ∙ c.if-ne.false)) in
    subst (λ (b : List ℕ). IsParsed b c.self.inside.tree) same c.self.invariant
