use Rattle.std.proofs.Common.{arith, ◌≡◌, ◌∙◌, map, length, ◌≤◌, string_bytes}
use Rattle.std.proofs.lemmas.List.{take_all, length-map}
use Rattle.gv_base.specs.Trees.{paths_of}
use Rattle.gv_base.proofs.TreeLaws.{paths-lawful}
use Rattle.disk.proofs.listing.paths_of.Goals as goal

pub returns-clause-lawful : goal.returns-clause-lawful
returns-clause-lawful c =
    let files = c.args.files.now in
    let l : length (paths_of files) ≡ length files = length-map files (λ file. file.0) in
    let n = c.count-count.ensures in
    let w : length (paths_of files) ≤ c.loop-file.file = omega (arith, c.loop-file-test.false) in
    let e : map string_bytes c.loop-file.list.items ≡ paths_of files = c.loop-file.invariant ∙ take_all c.loop-file.file (paths_of files) w in
    λ h. rw e (paths-lawful files h)
