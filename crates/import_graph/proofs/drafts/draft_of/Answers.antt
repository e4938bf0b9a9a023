use Rattle.std.proofs.Common.{◌∙◌, sym, subst, refl}
use Rattle.std.specs.List.{Contains}
use Rattle.std.specs.List.Sorted.{IsStrictlyIncreasing}
use Rattle.import_graph.proofs.drafts.draft_of.Goals as goal

pub returns : goal.returns
returns c = record {
  stands = refl;
  files = c.new.ensures ∙ c.in_ok-files.ensures;
  rising = subst IsStrictlyIncreasing (sym c.new-2.ensures) c.in_ok-imports.ensures.rising;
  imports = λ n. (
    (λ h. (c.in_ok-imports.ensures.imports n).0 (subst (λ t. Contains t n) c.new-2.ensures h)),
    (λ t. subst (λ t. Contains t n) (sym c.new-2.ensures) ((c.in_ok-imports.ensures.imports n).1 t)),
  );
}
