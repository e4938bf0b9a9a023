use Rattle.std.proofs.Common.{length, refl, sym}
use Rattle.std.proofs.lemmas.Option.{slice_get_read}
use Rattle.unit_read.specs.Units.{nodes_at}
use Rattle.findings.specs.Passes.{unit_in}
use Rattle.vet_printf.proofs.TouchLemmas.{flag_got}
use Rattle.vet_printf.proofs.handing.touched_at.Goals as goal

pub returns-in-Some : goal.returns-in-Some
returns-in-Some c =
    let u = unit_in c.args.p.now in
    let row = c.args.row.now in
    let found = c.in-Some.ensures.lookup in
    flag_got u c.args.file (length (nodes_at u c.args.file)) (nodes_at u c.args.file) row c.args.q c.in-Some.flag.now (sym (slice_get_read row (length row) c.args.q c.in-Some.flag.now refl found.3.0 found.1)) c.requires.row
