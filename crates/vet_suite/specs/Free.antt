-- Where a name denotes what is predeclared.
use Rattle.std.specs.Prelude.{◌≡◌, ℕ, ◌<◌, ◌^◌, ◌↔◌, Bool, true, List, length, map, Some}
use Rattle.go_tree.specs.declared.tree.Node.{Node}
use Rattle.go_tree.specs.declared.tree.NodeRef.{NodeRef}
use Rattle.bind.specs.Answers.{AreSpelled}
use Rattle.bind.specs.Denoting.{IsUndeclared}
use Rattle.bind.specs.Sources.{Sources, AreFiles}
use Rattle.handed_facts.specs.Handed.{ArePathsApart}
use Rattle.package_faces.specs.Faces.{Face}
use Rattle.unit_read.specs.Units.{Unit, node_at}
use Rattle.vet_simple.specs.TagSpots.{AreShort}

-- the path and the bytes of a file
abbrev pub path_of : List ℕ × List ℕ → List ℕ
path_of file = file.0

abbrev pub text_of : List ℕ × List ℕ → List ℕ
text_of file = file.1

-- the path and the name of each package to which imports may lead
abbrev pub known_in : List Face → List (List ℕ × List ℕ)
known_in env = map (λ (f : Face). (f.path, f.name)) env

-- the sources of a package, whose files have these paths
pub record AreSourcesOf (paths : List (List ℕ)) (u : Unit) (p : Sources) : Type 0 where
  pub files : List (List ℕ × List ℕ)
  pub paths_are : map path_of files ≡ paths
  pub texts_are : map text_of files ≡ u.texts
  pub named : p.named ≡ known_in u.env
  pub sources : AreFiles u.trees files p.files

-- The flags of the nodes of a package: whether no declaration of the name is known there, so that it denotes what is predeclared.
pub record IsFree (paths : List (List ℕ)) (u : Unit) (name : List ℕ) (free : NodeRef → Bool) : Type 0 where
  pub sources : Sources
  pub are : AreSourcesOf paths u sources
  pub each : (p : Sources) → AreSourcesOf paths u p → (at : NodeRef) (node : Node) → node_at u at ≡ Some node → (free at ≡ true) ↔ IsUndeclared p at name

-- What is handed to the analyzers beside a package: its files, the path and the name of each package that is known, and the path and the facts of those whose facts are read.
pub record AreGiven (u : Unit) (files named given : List (List ℕ × List ℕ)) : Type 0 where
  pub texts : u.texts ≡ map text_of files
  pub spelled : AreSpelled u.trees files
  pub named_is : named ≡ known_in u.env
  pub few : length u.trees < 2 ^ 32
  pub short : AreShort u.texts
  pub apart : ArePathsApart given
