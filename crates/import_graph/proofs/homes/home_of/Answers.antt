use Rattle.std.proofs.Common.{ap, sym, subst, ◌∙◌}
use Rattle.std.specs.Str.{IsUtf8}
use Rattle.import_graph.specs.Sources.{directory_of, package_of}
use Rattle.import_graph.proofs.TextLemmas.{package-text}
use Rattle.import_graph.proofs.homes.home_of.Goals as goal

pub text-requires : goal.text-requires
text-requires c =
    subst IsUtf8
    (sym (c.in_ok-package.ensures
    ∙ (ap (λ r. package_of r c.directory_of-dir.result.now) c.as_bytes.ensures.value
    ∙ ap (package_of c.args.root.now) (c.directory_of-dir.ensures ∙ ap directory_of c.as_bytes-bytes.ensures.value))))
    (package-text c.args.root.now c.args.path.now (subst IsUtf8 c.as_bytes.ensures.value c.as_bytes.ensures.utf8) (subst IsUtf8 c.as_bytes-bytes.ensures.value c.as_bytes-bytes.ensures.utf8))
