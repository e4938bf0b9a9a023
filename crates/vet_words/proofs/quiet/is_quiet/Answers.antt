use Rattle.std.proofs.Common.{Bool, false, List, length, slice_index_or, sym, ap, ◌∙◌}
use Rattle.findings.specs.Passes.{unit_in, marks_in}
use Rattle.vet_words.specs.Quiet.{quiet_nodes}
use Rattle.vet_words.proofs.RowLemmas.{flag_none}
use Rattle.vet_words.proofs.QuietLemmas.{quiet_past}
use Rattle.vet_words.proofs.quiet.is_quiet.Goals as goal

pub returns-in-Some : goal.returns-in-Some
returns-in-Some c =
    c.flag_in.ensures
    ∙ ap (λ (l : List Bool). slice_index_or l c.args.n false) (c.deref.ensures.value ∙ c.requires.each c.args.file c.in-Some.row.now (sym c.in-Some.ensures))

pub returns-in-None : goal.returns-in-None
returns-in-None c =
    let u = unit_in c.args.p.now in
    flag_none (quiet_nodes u (marks_in c.args.p.now)) c.args.rows.now (length u.trees) c.args.file c.args.n c.requires (sym c.in-None.ensures) (quiet_past u (marks_in c.args.p.now) c.args.file)
