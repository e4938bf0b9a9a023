use Rattle.std.proofs.Common.{List, ℕ, sym, ap, ◌∙◌, subst}
use Rattle.import_graph.specs.Sources.{is_source}
use Rattle.tree_report.specs.Reading.{IsRead}
use Rattle.tree_report.proofs.read.told_of.Goals as goal

pub read-requires : goal.read-requires
read-requires c = λ source. c.requires.small (ap is_source (sym c.as_bytes.ensures.value) ∙ source)

pub parts_of-requires : goal.parts_of-requires
parts_of-requires c =
    let read = subst (λ (b : List ℕ). IsRead (b, c.args.text.now) c.in_ok-verdict.verdict) c.as_bytes.ensures.value c.in_ok-verdict.ensures in
    subst (λ (b : List ℕ). IsRead (c.args.path.now, b) c.in_ok-verdict.verdict) (sym c.requires.same) read

pub returns : goal.returns
returns c = record {
  verdict = c.in_ok-verdict.verdict;
  read = subst (λ (b : List ℕ). IsRead (b, c.args.text.now) c.in_ok-verdict.verdict) c.as_bytes.ensures.value c.in_ok-verdict.ensures;
  head = c.in_ok-head.ensures;
  refusal = c.in_ok-refusal.ensures;
}
