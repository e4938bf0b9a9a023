use Rattle.std.proofs.Common.{length, nat_le, sym, ◌∙◌}
use Rattle.std.specs.Str.{is_utf8}
use Rattle.std.proofs.lemmas.Bool.{and_parts}
use Rattle.go_tree.specs.ImportPaths.{are_segments}
use Rattle.import_graph.specs.Modules.{is_path}
use Rattle.import_graph.proofs.TextLemmas.{segments-text}
use Rattle.import_graph.proofs.go_mod.path_in.Goals as goal

pub unreachable-requires : goal.unreachable-requires
unreachable-requires c =
    let path = c.unquoted-path.result.now in
    let named = and_parts (is_utf8 c.args.line.now) (is_path path) (sym c.is_named.ensures ∙ c.if-not-is_named.false) in
    c.in-Err.ensures.cases.0 (segments-text path (and_parts (are_segments path) (nat_le (length path) 1024) named.1).0)
