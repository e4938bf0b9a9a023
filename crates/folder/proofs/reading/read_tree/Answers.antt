use Rattle.std.proofs.Common.{◌∙◌, All, List, [], ap, fold, map, subst, sym}
use Rattle.std.specs.Prelude.{String}
use Rattle.std.specs.Global.{Global}
use Rattle.std.specs.String.{string_bytes}
use Rattle.gv_base.specs.Paths.{IsPath}
use Rattle.folder.specs.Folders.{with_front}
use Rattle.folder.proofs.FrontLemmas.{read-whole, reads-by}
use Rattle.folder.proofs.PathLemmas.{lawful-paths}
use Rattle.folder.proofs.reading.read_tree.Goals as goal

pub read_all-requires : goal.read_all-requires
read_all-requires g c =
    subst (λ (l : List (String Global)). All IsPath (map string_bytes l)) (sym c.deref.ensures.value) (lawful-paths (map string_bytes c.in_ok-paths.paths.items) c.in_ok-paths.ensures.paths.each)

pub returns-clause-reads : goal.returns-clause-reads
returns-clause-reads g c =
    reads-by c.args.most (g.T.Tree.view c.args.tree.now).files (g.T.Tree.view c.list.new.self).files (map string_bytes c.in_ok-paths.paths.items) c.in_ok-files.files c.in_ok-paths.ensures.paths c.in_ok-paths.ensures.held c.in_ok-paths.ensures.keeps
    (λ held e. c.in_ok-files.ensures.reads held e ∙ ap (λ (l : List (String Global)). fold (with_front c.args.most held) [] (map string_bytes l)) c.deref.ensures.value)

pub returns-clause-whole : goal.returns-clause-whole
returns-clause-whole g c = read-whole c.args.most c.in_ok-files.files c.in_ok-files.ensures.fitting
