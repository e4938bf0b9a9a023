-- Where nodes of a package stand, and so what analyzers find there.
use Rattle.std.proofs.Common.{◌≡◌, ℕ, ◌<◌, ◌≤◌, List, [], length, map, slice_index_or, Option, Some, None, refl, sym, ap, ◌∙◌, subst, arith}
use Rattle.fix_apply.specs.declared.edits.Fix.{Fix}
use Rattle.fix_apply.specs.Rewriting.{LieIn}
use Rattle.unit_read.specs.Units.{Unit, text_in}
use Rattle.check_pkg.specs.Packages.{Package, IsUnit}
use Rattle.analysis_core.specs.declared.diagnostic.Diagnostic.{Diagnostic}
use Rattle.vet_suite.specs.Standing.{NodesStand, Stands, CanBeMade as CanBeMadeIn}
use Rattle.action_graph.specs.Nodes.{Named}
use Rattle.action_graph.specs.Judging.{Env, AreParsed, IsPackageOf, text_of}
use Rattle.action_graph.specs.Standing.{CanBeMade, IsFoundBy, bytes_at}
use Rattle.action_graph.specs.Work.{IsAnalyzer}
use Rattle.action_graph.proofs.OneFinding.{as-many}
use Rattle.action_graph.proofs.UnitNodes.{parsed_stand}

module _ (path : List ℕ) (files : List Named) (p : Package) (env : Env) (u : Unit) (of : IsPackageOf path files p) (here : IsUnit p env u) where
  -- the files parse, so their nodes stand in them
  pub nodes-stand : NodesStand u
  nodes-stand = parsed_stand u (subst (AreParsed u.texts) (sym here.trees) (subst (λ (texts : List (List ℕ)). AreParsed texts p.trees) (sym here.texts) of.trees))

  texts-are : u.texts ≡ map text_of files
  texts-are = here.texts ∙ ap (map text_of) of.files

  count-is : length u.trees ≡ length files
  count-is = ap length here.trees ∙ (as-many p.files p.trees of.trees ∙ ap length of.files)

  bytes-are : (f : ℕ) → text_in u f ≡ bytes_at files f
  bytes-are f = ap (λ (texts : List (List ℕ)). slice_index_or texts f []) texts-are

  made : (file : ℕ) (fix : Option Fix) → CanBeMadeIn file (text_in u file) fix → CanBeMade file (bytes_at files file) fix
  made file None h = tt
  made file (Some fix) h = record { file_is = h.file_is; lie = subst (λ (bytes : List ℕ). LieIn bytes fix.edits) (bytes-are file) h.lie; apart = h.apart }

  pub stands-so : (a : ℕ) → IsAnalyzer a → (d : Diagnostic) → Stands u a d → IsFoundBy files a d
  stands-so a number d h = (
    h.analyzer,
    record {
      analyzer = subst IsAnalyzer (sym h.analyzer) number;
      file = (let low = h.file in let same = count-is in omega (arith, low, same));
      offset = subst (λ (bytes : List ℕ). d.place.offset ≤ length bytes) (bytes-are d.place.file) h.offset;
      fix = made d.place.file d.fix h.fix;
    },
  )
