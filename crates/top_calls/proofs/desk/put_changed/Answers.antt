use Rattle.std.proofs.Common.{◌∙◌, List, ℕ, ap, sym, subst}
use Rattle.gv_base.specs.Files.{put_file}
use Rattle.gv_base.specs.Paths.{IsPath}
use Rattle.analysis_core.specs.declared.reply.ChangedFile.{ChangedFile}
use Rattle.folder.specs.Folders.{AreAtPaths}
use Rattle.top_calls.proofs.DeskLaws.{changed_more, put_paths}
use Rattle.top_calls.proofs.desk.put_changed.Goals as goal

pub put-requires : goal.put-requires
put-requires c = subst IsPath (sym c.as_str.ensures) (subst (λ (f : ChangedFile). IsPath f.path) (sym c.file-item.is) (c.requires c.loop-file.file-index c.file-item.result c.loop-file-test.true))

pub loop-file-preserved : goal.loop-file-preserved
loop-file-preserved c =
    let is = subst (λ (f : ChangedFile). IsPath f.path) (sym c.file-item.is) (c.requires c.loop-file.file-index c.file-item.result c.loop-file-test.true) in
    let put = c.in_ok-put.ensures.put ∙ (ap (λ (p : List ℕ). put_file c.loop-file.files p c.as_slice.result.now) c.as_str.ensures ∙ ap (put_file c.loop-file.files c.file-item.result.path) c.as_slice.ensures) in (
      changed_more c.args.files.now c.args.changed.now c.loop-file.file-index c.file-item.result c.loop-file.files _ c.loop-file-test.true c.file-item.is c.loop-file.invariant.0 put,
      λ h. subst AreAtPaths (sym put) (put_paths c.loop-file.files c.file-item.result.path c.file-item.result.bytes is (c.loop-file.invariant.1 h)),
    )
