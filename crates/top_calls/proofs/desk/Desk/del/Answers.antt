use Rattle.std.proofs.Common.{◌∙◌, ap, sym, subst}
use Rattle.gv_base.specs.Files.{del_file}
use Rattle.folder.specs.Folders.{AreAtPaths}
use Rattle.top_calls.proofs.DeskLaws.{del_paths}
use Rattle.top_calls.proofs.desk.Desk.del.Goals as goal

pub returns-clause-ready : goal.returns-clause-ready
returns-clause-ready c = λ h. record {
  paths = subst AreAtPaths (sym (c.del-held.ensures.del ∙ ap (del_file c.args.self.now.files) c.path_text.ensures)) (del_paths c.args.self.now.files c.args.path.now h.paths);
  heard = h.heard;
}
