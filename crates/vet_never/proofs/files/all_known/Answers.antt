use Rattle.std.proofs.Common.{length, arith}
use Rattle.findings.specs.Passes.{unit_in, marks_in}
use Rattle.vet_never.proofs.FileLemmas.{no_files, file_more, all_files}
use Rattle.vet_never.proofs.files.all_known.Goals as goal

pub loop-file-init : goal.loop-file-init
loop-file-init c = no_files (unit_in c.args.p.now) (marks_in c.args.p.now) c.args.known.now c.new-list.result.items c.new-list.ensures.items

pub loop-file-preserved : goal.loop-file-preserved
loop-file-preserved c =
    file_more (unit_in c.args.p.now) (marks_in c.args.p.now) c.args.known.now c.loop-file.file c.loop-file.list.items c.push.new.self.items c.in_ok-one.one c.loop-file.invariant c.in_ok-one.ensures c.in_ok-push.ensures.items

pub returns : goal.returns
returns c =
    all_files (unit_in c.args.p.now) (marks_in c.args.p.now) c.args.known.now c.loop-file.file (length c.args.p.now.subject.now.trees.now) c.loop-file.list.items (omega (arith, c.loop-file-test.false, c.loop-file.auto.file-end)) c.loop-file.invariant
