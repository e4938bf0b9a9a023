use Rattle.std.proofs.Common.{rules, ◌≡◌, ◌<◌, ◌∙◌, ◌^◌, ℕ, length, sym, subst, arith}
use Rattle.std.proofs.lemmas.Option.{slice_get_within}
use Rattle.tree_report.proofs.ReadingLemmas.{told_from}
use Rattle.tree_report.proofs.readers.each_told.Goals as goal

pub all_done-requires-clause-few : goal.all_done-requires-clause-few
all_done-requires-clause-few g c = λ κs _. subst (λ (n : ℕ). n < 2 ^ 32) (sym c.requires.jobs.size) c.requires.jobs.few

pub all_done-requires-clause-lawful : goal.all_done-requires-clause-lawful
all_done-requires-clause-lawful g c = λ κs _ k job h.
    let list = c.args.readings.now.list.items in
    let low : k < length list = slice_get_within list k job h in
    let size : length list ≡ length c.args.files.now = c.requires.jobs.size in
    (c.requires.jobs.each k job h, record { low = omega (arith, low, size); small = c.requires.small; kept = c.requires.kept })

pub all_done-requires-clause-room : goal.all_done-requires-clause-room
all_done-requires-clause-room g c = λ κs _ k reader h. tt

pub returns : goal.returns
returns g c =
    let t = c.in_ok-told.ensures.counted in
    told_from c.args.files.now c.args.readings.now.list.items t.0 c.in_ok-told.told.items c.requires.jobs t.3
