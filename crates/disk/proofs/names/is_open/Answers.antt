use Rattle.std.proofs.Common.{ap, ◌∙◌, ◌++◌, codes}
use Rattle.import_graph.specs.Sources.{is_source}
use Rattle.disk.proofs.names.is_open.Goals as goal

pub returns : goal.returns
returns c = c.is_source.ensures ∙ ap is_source (c.as_bytes.ensures.value ∙ c.in_ok-push_str.ensures.bytes ∙ ap (λ z. z ++ codes "/some_file.go") c.in_ok-path.ensures.ok)
