-- What is read of a load's texts: the tree of each file, and what each export text spells; and what is told of the package.
use Rattle.std.specs.Prelude.{◌≡◌, ℕ, ◌≤◌, ◌^◌, List, [], ◌∷◌, length, map, Option}
use Rattle.export_text.specs.Faces.{IsFace, IsFaceText}
use Rattle.go_tree.specs.declared.tree.FileTree.{FileTree}
use Rattle.package_faces.specs.Faces.{ObjectOut, Face}
use Rattle.package_faces.specs.Interfaces.{object_in, AreObjectsIn}
use Rattle.package_faces.specs.Reaching.{IsExportOf}
use Rattle.parse_file.specs.Verdict.{IsParsed}
use Rattle.type_model.specs.Tables.{IsTable, count, declarations_in, types_in}
use Rattle.check_pkg.specs.declared.judging.Checked.{Checked}
use Rattle.check_pkg.specs.Checks.{table_of}
use Rattle.check_pkg.specs.Packages.{Package}
use Rattle.action_graph.specs.Nodes.{Named}
use Rattle.action_graph.specs.declared.kit.LoadInput.{LoadInput}
use Rattle.action_graph.specs.Judging.{AllKnown, Env, Judged, Finds, IsReadable, Tells}
use Rattle.action_graph.specs.Judging.Judged.{Refuses}

-- a text that is short enough to be counted
abbrev pub IsShort : List ℕ → Type 0
IsShort text = length text ≤ 2 ^ 24

-- the tree is that of the text, which is short enough, and its nodes can be counted
pub record IsFileOf (text : List ℕ) (tree : FileTree) : Type 0 where
  pub parsed : IsParsed text tree
  pub few : length tree.nodes ≤ 2 ^ 32
  pub short : IsShort text

-- so is each
abbrev pub AreFilesOf : List (List ℕ) → List FileTree → Type 0
AreFilesOf [] [] = Unit {0}
AreFilesOf [] (tree ∷ trees) = ⊥
AreFilesOf (text ∷ texts) [] = ⊥
AreFilesOf (text ∷ texts) (tree ∷ trees) = IsFileOf text tree × AreFilesOf texts trees

-- what an export text spells, of the package beside whose path it stands
pub record IsFaceOf (pair : Named) (f : Face) : Type 0 where
  pub spelled : IsFaceText f pair.1
  pub path : f.path ≡ pair.0

-- ---- what is seen of the package that is loaded

-- the objects that it exports, over the table of what was found
abbrev pub objects_of : Checked → List ObjectOut
objects_of c = map (λ e. object_in (types_in (table_of c)) e) c.exports.items

-- their types are in this table
pub record Stands (path : List ℕ) (c : Checked) : Type 0 where
  pub table : IsTable (table_of c)
  pub within : AreObjectsIn path (count (table_of c)) (types_in (table_of c)) c.exports.items

-- this is seen of it, as the table has its types declared; it has a text, and mentions packages that have a place
pub record IsSeenOf (path name : List ℕ) (place : List ℕ → Option ℕ) (c : Checked) (f : Face) : Type 0 where
  pub export : IsExportOf (declarations_in (table_of c)) path name (objects_of c) f
  pub value : IsFace f
  pub known : AllKnown place f

-- ---- answers

-- the text tells what is found of a package
pub record TellsOf (p : Package) (env : Env) (text : List ℕ) : Type 0 where
  pub judged : Judged
  pub finds : Finds p env judged
  pub tells : Tells judged text

-- A load can't be read: there are too many files, or one is too long or has no such tree; or some export text spells nothing of the package
-- beside it; or the types of these packages can't all be declared. Such an input isn't lawful.
abbrev pub IsUnread : LoadInput → Type 0
IsUnread input = IsReadable input → ⊥

-- refused, with no mark
abbrev pub RefusesUnmarked : List ℕ → Type 0
RefusesUnmarked text = Tells (Refuses []) text
