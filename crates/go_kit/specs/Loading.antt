-- A package as it is loaded, and what an analyzer finds of it.
use Rattle.std.specs.Prelude.{◌≡◌, ℕ, ◌<◌, ◌^◌, List, [], length, map, Option, Some, None, slice_get}
use Rattle.action_graph.specs.Stages.{rule}
use Rattle.go_tree.specs.declared.tree.FileTree.{FileTree}
use Rattle.package_faces.specs.declared.interface.Interface.{Interface}
use Rattle.package_faces.specs.Interfaces.{faces_of, AreInterfacesIn}
use Rattle.type_model.specs.declared.table.TypeTable.{TypeTable}
use Rattle.type_model.specs.Tables.{count, types_in}
use Rattle.typed_tree.specs.Basics.{HasBasics}
use Rattle.typed_marks.specs.declared.item.Item.{Item}
use Rattle.typed_marks.specs.Meanings.{Meaning}
use Rattle.unit_read.specs.Units.{Unit}
use Rattle.check_pkg.specs.declared.judging.Checked.{Checked}
use Rattle.check_pkg.specs.declared.judging.Outcome.TheVariants as outcome
use Rattle.check_pkg.specs.declared.typing.Typed.{Typed}
use Rattle.check_pkg.specs.Checks.{IsOutcomeOf as Comes}
use Rattle.check_pkg.specs.Packages.{Package, package_of}
use Rattle.check_pkg.specs.Typings.{unit_by}
use Rattle.analysis_core.specs.declared.diagnostic.Diagnostic.{Diagnostic}
use Rattle.analysis_core.specs.Findings.{AreFindings}
use Rattle.action_graph.specs.Suite.{FactsBy, FoundBy}
use Rattle.action_graph.specs.declared.kit.Load.{Load}
use Rattle.action_graph.specs.declared.kit.Load.TheVariants.{Accepted, Refused}
use Rattle.action_graph.specs.declared.kit.LoadInput.{LoadInput}
use Rattle.action_graph.specs.declared.kit.RunOf.{RunOf}
use Rattle.action_graph.specs.declared.kit.RunOutcome.{RunOutcome}
use Rattle.action_graph.specs.Judging.{Env, AreInterfaces, text_of}
use Rattle.go_kit.specs.declared.loaded.Loaded.{Loaded}
use Rattle.go_kit.specs.Keeping.{AreKnown}
use Rattle.go_kit.specs.Reading.{AreFilesOf}
use Rattle.go_kit.specs.Returning.{AreRead}

-- nothing refuses the package, and this is kept of it
pub record IsAcceptedOf (p : Package) (env : Env) (t : Typed) : Type 0 where
  pub checked : Checked
  pub comes : Comes rule p env (outcome.Checked checked)
  pub none : checked.refused.items ≡ []
  pub typed : checked.typed ≡ t

-- an accepted package with what is kept of it; or a refused one, and its table
abbrev pub kept_with : Load (Prim.Unit {0}) → Typed → Load Typed × Option TypeTable
kept_with (Accepted loaded export) typed = (Accepted typed export, None)
kept_with (Refused marks) typed = (Refused marks, Some typed.state.table)

-- this is kept of the package of an input with these trees, over these interfaces, which its export texts spell
pub record IsTypedOver (input : LoadInput) (trees : List FileTree) (env : List Interface) (t : Typed) : Type 0 where
  pub within : AreInterfacesIn (count t.state.table) (types_in t.state.table) env
  pub faces : AreInterfaces input.env (faces_of (types_in t.state.table) env)
  pub accepted : IsAcceptedOf (package_of input.path input.files trees) (faces_of (types_in t.state.table) env) t

-- This is what a load of an input accepted: the trees of its files, the interfaces that its export texts spell, and what is kept of the package
-- that nothing refuses.
pub record IsLoadOf (l : Loaded) (input : LoadInput) : Type 0 where
  pub few : length input.files < 2 ^ 32
  pub files : AreFilesOf (map text_of input.files) l.trees.items
  pub typed : IsTypedOver input l.trees.items l.env.items l.typed

-- what is known over its table, and each interface is what the text beside it spells
pub record IsKeeping (l : Loaded) : Type 0 where
  pub basics : HasBasics l.typed.state.table
  pub known : AreKnown l.typed.state.table l.known
  pub read : AreRead l.typed.state.table l.texts.items l.env.items

-- what is seen of its environment
abbrev pub faces_over : Loaded → Env
faces_over l = faces_of (types_in l.typed.state.table) l.env.items

-- the package that is read again
abbrev pub unit_loaded : Loaded → LoadInput → Unit
unit_loaded l input = unit_by input.path (map text_of input.files) l.trees.items (faces_over l) l.typed

-- the text of what an analyzer finds
abbrev pub IsFindingsText : RunOf → Unit → (Item → Meaning) → List (List ℕ) → List ℕ → Type 0
IsFindingsText r u marks paths text = (found : List Diagnostic) × FoundBy r.analyzer u marks paths r.facts found × AreFindings found text

-- what comes of a run over a package with these marks, whose files have these paths
pub record IsOutcomeIn (r : RunOf) (u : Unit) (marks : Item → Meaning) (paths : List (List ℕ)) (o : RunOutcome) : Type 0 where
  pub findings : IsFindingsText r u marks paths o.findings
  pub facts : FactsBy r.analyzer u marks r.facts o.facts

-- and of the runs that are asked for, in turn
abbrev pub AreOutcomesIn : Unit → (Item → Meaning) → List (List ℕ) → List RunOf → List RunOutcome → Type 0
AreOutcomesIn u marks paths asked outcomes = (k : ℕ) (r : RunOf) (o : RunOutcome) → slice_get asked k ≡ Some r → slice_get outcomes k ≡ Some o → IsOutcomeIn r u marks paths o
