use Rattle.std.proofs.Common.{◌≡◌, ◌<◌, All, List, [], ◌∷◌, ℕ, codes, refl, arith, sym, subst}
use Rattle.std.proofs.lemmas.List.Elements.{All-from_recursion}
use Rattle.gv_base.specs.Paths.{IsPath}
use Rattle.gv_base.proofs.PathFacts.{path-of_segment}
use Rattle.analysis_core.specs.declared.reply.ChangedFile.{ChangedFile}
use Rattle.outside_tests.proofs.folder_tests.changed_files_are_written_in_turn.Goals as goal

both : (f g : ChangedFile) → f.path ≡ codes "go.mod" → g.path ≡ codes "a.go" → All (λ (c : ChangedFile). IsPath c.path) (f ∷ g ∷ [])
both f g p q = All-from_recursion (λ (c : ChangedFile). IsPath c.path) (f ∷ g ∷ []) (
  subst IsPath (sym p) (path-of_segment (codes "go.mod") refl (omega arith) (omega arith)),
  (subst IsPath (sym q) (path-of_segment (codes "a.go") refl (omega arith) (omega arith)), tt),
)

pub write_files-requires : goal.write_files-requires
write_files-requires g c = both c.in_ok-first.first c.in_ok-second.second c.in_ok-first.ensures c.in_ok-second.ensures

pub write_files-requires-2 : goal.write_files-requires-2
write_files-requires-2 g c = both c.in_ok-first.first c.in_ok-second.second c.in_ok-first.ensures c.in_ok-second.ensures
