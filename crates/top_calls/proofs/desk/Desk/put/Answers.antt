use Rattle.std.proofs.Common.{◌∙◌, List, ℕ, ap, sym, subst}
use Rattle.gv_base.specs.Files.{put_file}
use Rattle.folder.specs.Folders.{AreAtPaths}
use Rattle.top_calls.proofs.DeskLaws.{put_paths}
use Rattle.top_calls.proofs.desk.Desk.put.Goals as goal

pub returns-clause-ready : goal.returns-clause-ready
returns-clause-ready c = λ h. record {
  paths = subst AreAtPaths (sym (c.in_ok-put.ensures.put ∙ ap (λ (p : List ℕ). put_file c.args.self.now.files p c.args.bytes.now) c.path_text.ensures)) (put_paths c.args.self.now.files c.args.path.now c.args.bytes.now c.requires h.paths);
  heard = h.heard;
}
