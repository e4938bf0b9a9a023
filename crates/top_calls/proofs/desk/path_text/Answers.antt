use Rattle.std.proofs.lemmas.Str.{IsUtf8-from_ascii}
use Rattle.scripts.proofs.PathLaws.{path-ascii}
use Rattle.top_calls.proofs.desk.path_text.Goals as goal

pub unreachable-requires : goal.unreachable-requires
unreachable-requires c = c.in-Err.ensures.cases.0 (IsUtf8-from_ascii c.args.path.now (path-ascii c.args.path.now c.requires))
