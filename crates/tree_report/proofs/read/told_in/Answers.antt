use Rattle.std.proofs.Common.{length, arith, sym, ap, ◌≤◌, ◌≡◌, ◌∙◌}
use Rattle.std.proofs.lemmas.Option.{same_Some}
use Rattle.gv_base.specs.Files.{Entry}
use Rattle.tree_report.proofs.ReadLemmas.{source-size}
use Rattle.tree_report.proofs.read.told_in.Goals as goal

pub at-requires : goal.at-requires
at-requires c = c.requires.low

pub entry-requires : goal.entry-requires
entry-requires c = c.requires.low

pub told_at-requires-clause-small : goal.told_at-requires-clause-small
told_at-requires-clause-small c = λ source.
    let small : length c.at.result.1.now ≤ 4194304 = source-size (λ size. size ≤ 4194304) c.args.files.now c.args.reading.now.file c.at.result.0.now c.at.result.1.now c.requires.small c.at.ensures source in
    omega (arith, small)

pub told_at-requires-clause-same : goal.told_at-requires-clause-same
told_at-requires-clause-same c =
    ap (λ (e : Entry). e.1) (same_Some c.entry.result.now (c.at.result.0.now, c.at.result.1.now) (sym c.entry.ensures ∙ c.at.ensures))

pub told_at-requires-clause-kept : goal.told_at-requires-clause-kept
told_at-requires-clause-kept c = c.requires.kept

pub returns : goal.returns
returns c = ((c.at.result.0.now, c.at.result.1.now), c.at.ensures, c.in_ok-told.ensures)
