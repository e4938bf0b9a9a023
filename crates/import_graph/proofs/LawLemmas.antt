-- What the packages of a tree allow.
use Rattle.std.proofs.Common.{◌≡◌, ℕ, true, Option, Some, List, [], ◌∷◌, slice_get}
use Rattle.std.proofs.lemmas.Option.{slice_get_within}
use Rattle.gv_base.specs.Files.{Entry}
use Rattle.go_tree.specs.declared.head.Head.{Head}
use Rattle.need_order.specs.Graphs.{Leads, Path}
use Rattle.import_graph.specs.Orders.{is_sound, AreNumbered, SoundImports}
use Rattle.import_graph.specs.Packages.{Imports, IsCyclic, IsStateOf, ArePackages}
use Rattle.import_graph.specs.declared.pack.Package.{Package}
use Rattle.import_graph.specs.declared.pack.PackState.{PackState}
use Rattle.import_graph.specs.declared.pack.PackState.TheVariants.{Broken, NameClash, MissingImport, ImportCycle, Sound}
use Rattle.import_graph.proofs.OrderLemmas.{path-as}

pub numbered : (tree : List Entry) (heads : List (Option Head)) (packages : List Package) → ArePackages tree heads packages → AreNumbered packages
numbered tree heads packages are a b p at has =
    let i = ((are.each a p at).imports b).0 has in slice_get_within packages b i.1.0 i.1.1

not-cyclic : (cyclic : Type 0) (heads : List (Option Head)) (paths : List (List ℕ)) (files : List ℕ) (s : PackState) → is_sound s ≡ true → IsStateOf cyclic heads paths files s → cyclic → ⊥
not-cyclic cyclic heads paths files Broken e h c = cc
not-cyclic cyclic heads paths files (NameClash places) e h c = cc
not-cyclic cyclic heads paths files (MissingImport places) e h c = cc
not-cyclic cyclic heads paths files ImportCycle e h c = cc
not-cyclic cyclic heads paths files Sound e h c = h.1 c

first-sound : (packages : List Package) (via : List ℕ) (a b : ℕ) → Path (SoundImports packages) a via b → (p : Package) × (slice_get packages a ≡ Some p) × (is_sound p.state ≡ true)
first-sound packages [] a b s = (s.0, s.1, s.2)
first-sound packages (c ∷ via) a b s = let t = s.0 in (t.0, t.1, t.2)

sound-imports : (packages : List Package) (a b : ℕ) → SoundImports packages a b → Imports packages a b
sound-imports packages a b s = (s.0, s.1, s.3)

pub acyclic : (tree : List Entry) (heads : List (Option Head)) (packages : List Package) → ArePackages tree heads packages → (a : ℕ) → Leads (SoundImports packages) a a → ⊥
acyclic tree heads packages are a l =
    let f = first-sound packages l.0 a a l.1 in
    not-cyclic (IsCyclic packages a) heads _ f.0.files f.0.state f.2 (are.each a f.0 f.1).state
    (l.0, path-as (SoundImports packages) (Imports packages) (sound-imports packages) l.0 a a l.1)
