use Rattle.std.proofs.Common.{ℕ, List, sym, ap, ◌∙◌, subst, IsAscii}
use Rattle.std.proofs.lemmas.Str.{IsUtf8-from_ascii}
use Rattle.import_graph.specs.Sources.{directory_of}
use Rattle.disk.proofs.Besides.{directory-ascii}
use Rattle.disk.proofs.beside.folder_of.Goals as goal

pub unreachable-requires : goal.unreachable-requires
unreachable-requires c =
    let P : List ℕ → Type 0 = λ z. IsAscii z in
    c.in-Err.ensures.cases.0 (IsUtf8-from_ascii c.directory_of.result.now (subst P (sym (c.directory_of.ensures ∙ ap directory_of c.as_bytes.ensures.value)) (directory-ascii c.args.path.now c.requires)))
