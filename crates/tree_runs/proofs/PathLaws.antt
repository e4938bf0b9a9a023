-- Changed files are at paths where the files are.
use Rattle.std.proofs.Common.{List, All, get_or, sym, subst}
use Rattle.std.proofs.lemmas.List.Elements.{All-contains, Contains-get_or}
use Rattle.gv_base.specs.Files.{Entry}
use Rattle.gv_base.specs.Paths.{IsPath}
use Rattle.analysis_core.specs.declared.reply.ChangedFile.{ChangedFile}
use Rattle.folder.specs.Folders.{AreAtPaths}
use Rattle.tree_report.specs.Reports.{AreFilesOf}

pub paths_of : (tree : List Entry) (changed : List ChangedFile) → AreFilesOf tree changed → AreAtPaths tree → All (λ (f : ChangedFile). IsPath f.path) changed
paths_of tree changed of paths k d lt =
    let f = of (get_or changed k d) (Contains-get_or changed k d lt) in
    subst IsPath (sym f.is) (All-contains (λ (e : Entry). IsPath e.0) tree f.entry paths f.has)
