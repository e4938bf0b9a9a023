-- What comes of a package, by its path, its files and what is seen of the packages of its environment; and what
-- comes of a load, by its texts alone (Go 1.17, "Packages", "Import declarations"). Nothing here reads a cache.
use Rattle.std.specs.Prelude.{◌≡◌, ◌⊎◌, ℕ, ◌<◌, ◌≤◌, ◌^◌, ◌++◌, true, false, List, [], ◌∷◌, map, length, All, Contains, Option, Some, None, slice_get, codes}
use Rattle.gv_base.specs.declared.place.Place.{Place}
use Rattle.gv_base.specs.Files.{is_before, AreInOrder}
use Rattle.export_text.specs.Faces.{IsFace, IsFaceText}
use Rattle.export_text.specs.Mentions.{IsMentioned}
use Rattle.face_table.specs.Fitting.{AreFit, given, paths_in}
use Rattle.go_tree.specs.Head.{head_of}
use Rattle.go_tree.specs.Lexeme.{place_of}
use Rattle.go_tree.specs.declared.head.ImportLine.{ImportLine}
use Rattle.go_tree.specs.declared.tree.FileTree.{FileTree}
use Rattle.import_graph.specs.Packages.{counts}
use Rattle.package_faces.specs.Faces.{DefinedOut, Face}
use Rattle.package_faces.specs.Reaching.{own_name}
use Rattle.parse_file.specs.Verdict.{IsParsed}
use Rattle.type_model.specs.Declarations.{Meets}
use Rattle.type_model.specs.GoTypes.{is_defined}
use Rattle.bind.specs.Answers.{AreSmall}
use Rattle.unit_read.specs.Units.{Unit}
use Rattle.go_rules.specs.Stages.{rule}
use Rattle.check_pkg.specs.declared.judging.Outcome.TheVariants as outcome
use Rattle.check_pkg.specs.declared.refusal.Fault.{Fault}
use Rattle.check_pkg.specs.declared.refusal.Fault.TheVariants.{Rule as RuleFault, Limit as LimitFault}
use Rattle.check_pkg.specs.declared.refusal.Refusal.{Refusal}
use Rattle.check_pkg.specs.Checks.{IsOutcomeOf as Comes}
use Rattle.check_pkg.specs.Faults.{IsOrdered, limit_number}
use Rattle.check_pkg.specs.Interfaces.{HasExports}
use Rattle.check_pkg.specs.Packages.{IsUnit, Package}
use Rattle.check_pkg.specs.Refusals.{HasMarks}
use Rattle.action_graph.specs.declared.kit.LoadInput.{LoadInput}
use Rattle.action_graph.specs.declared.kit.Load.{Load}
use Rattle.action_graph.specs.declared.kit.Load.TheVariants.{Accepted, Refused}
use Rattle.action_graph.specs.declared.marks.MarkLine.{MarkLine}
use Rattle.action_graph.specs.Nodes.{Named, AreNamed, load_texts}
use Rattle.action_graph.specs.Marks.{AreSpelled}

-- what other packages see of an accepted package, or the marks that refuse it
pub data Judged : Type 0 where
  Accepts : Face → Judged
  Refuses : List MarkLine → Judged

-- what is seen of the packages that a package imports and of those that these mention, in the order of their paths
abbrev pub Env : Type 0
Env = List Face

-- the text of a file
abbrev pub text_of : Named → List ℕ
text_of file = file.1

-- each text with its tree
abbrev pub AreParsed : List (List ℕ) → List FileTree → Type 0
AreParsed [] [] = Prim.Unit {0}
AreParsed [] (tree ∷ trees) = ⊥
AreParsed (text ∷ texts) [] = ⊥
AreParsed (text ∷ texts) (tree ∷ trees) = IsParsed text tree × AreParsed texts trees

-- The package of this path and these files: each with its tree, whose nodes can be counted.
pub record IsPackageOf (path : List ℕ) (named : List Named) (p : Package) : Type 0 where
  pub path_is : p.path ≡ path
  pub files : p.files ≡ named
  pub trees : AreParsed (map text_of p.files) p.trees
  pub small : AreSmall p.trees

-- the line of a refusal in the marks text
abbrev pub fault_line : Place → Fault → MarkLine
fault_line at (RuleFault rule) = record { at = at; limit = false; number = rule.0 }
fault_line at (LimitFault limit) = record { at = at; limit = true; number = limit_number limit }

abbrev pub line_of : Refusal → MarkLine
line_of r = fault_line r.place r.fault

-- each package that it mentions has a place
abbrev pub AllKnown : (List ℕ → Option ℕ) → Face → Type 0
AllKnown place f = (path : List ℕ) → IsMentioned f path → place path ≡ None → ⊥

-- What is seen of a package can be imported: it has the package's path; each package that it mentions is one of the environment; and of its
-- own types none has a defined type as its underlying type or needs itself.
pub record IsFit (p : Package) (env : Env) (f : Face) : Type 0 where
  pub path_is : f.path ≡ p.path
  pub known : AllKnown (place_of (paths_in env)) f
  pub plain : (d : DefinedOut) → Contains f.types d → is_defined d.under ≡ false
  pub ends : (d : DefinedOut) → Contains f.types d → Meets (given [] (f ∷ env)) (own_name f.path d.name) d.under → ⊥

-- nothing refuses the package by the typing rules over what is seen of others, this is seen of it, and it can be imported
pub record IsAccepted (p : Package) (env : Env) (f : Face) : Type 0 where
  pub unit : Unit
  pub «is» : IsUnit p env unit
  pub marks : HasMarks rule unit []
  pub exports : HasExports rule unit f
  pub fit : IsFit p env f

-- these refuse it, in order and each once
pub record IsRefused (p : Package) (env : Env) (lines : List MarkLine) : Type 0 where
  pub unit : Unit
  pub «is» : IsUnit p env unit
  pub list : List Refusal
  pub marks : HasMarks rule unit list
  pub ordered : IsOrdered list
  pub some : list ≡ [] → ⊥
  pub lines_are : lines ≡ map line_of list

-- What is found of a package. It rests on the package, on what is seen of others and on the rules alone: no table of types is among it.
abbrev pub Finds : Package → Env → Judged → Type 0
Finds p env (Judged.Accepts f) = IsAccepted p env f
Finds p env (Judged.Refuses lines) = IsRefused p env lines

-- Nothing refuses the package, but what is seen of it can't be told to others: it has no text, since a type of it is local or has more than
-- 10,000 nodes; or it can't be imported.
pub record IsUntold (p : Package) (env : Env) : Type 0 where
  pub unit : Unit
  pub «is» : IsUnit p env unit
  pub marks : HasMarks rule unit []
  pub untold : (f : Face) → HasExports rule unit f → IsFace f → IsFit p env f → ⊥

-- nothing is found of it: over its rules some item waits for itself, or what is seen of it can't be told
abbrev pub HasNothing : Package → Env → Type 0
HasNothing p env = Comes rule p env outcome.Circle ⊎ IsUntold p env

-- The rules: what is found of the package of this path, with these files and over what is seen of these. A run knows of
-- this relation no more than that there is one finding, and that what is seen of a package has its path.
unfoldable pub Judges : List ℕ → List Named → Env → Judged → Type 0
Judges path files env judged = (p : Package) × (IsPackageOf path files p × Finds p env judged)

-- Nothing is found of the package of this path, with these files and over what is seen of these.
unfoldable pub IsStuckOver : List ℕ → List Named → Env → Type 0
IsStuckOver path files env = (p : Package) × (IsPackageOf path files p × HasNothing p env)

-- the tree and the text of a file of a package
pub record IsFileAt (p : Package) (n : ℕ) (t : FileTree) (bytes : List ℕ) : Type 0 where
  pub tree : slice_get p.trees n ≡ Some t
  pub text : slice_get (map text_of p.files) n ≡ Some bytes

-- the package clauses of the files have one name
abbrev pub NamesAgree : Package → Type 0
NamesAgree p = (n m : ℕ) (one other : FileTree) (a b : List ℕ) → IsFileAt p n one a → IsFileAt p m other b → (head_of one a).name ≡ (head_of other b).name

-- some file imports the path, by an import that can lead to a package: neither `unsafe` nor `C`, nor a dot import
pub record ImportsPath (p : Package) (path : List ℕ) : Type 0 where
  pub n : ℕ
  pub tree : FileTree
  pub text : List ℕ
  pub line : ImportLine
  pub at : IsFileAt p n tree text
  pub has : Contains (head_of tree text).imports line
  pub leads : counts line ≡ true
  pub of : line.path ≡ path

-- What is asked of a package's own texts: a path, some file, and files in the order of their paths, of which none
-- is empty; few enough and short enough to be counted, and of one package name.
pub record IsSource (path : List ℕ) (files : List Named) : Type 0 where
  pub has_path : path ≡ [] → ⊥
  pub has_file : files ≡ [] → ⊥
  pub named : AreNamed files
  pub ordered : AreInOrder files
  pub few : length files < 2 ^ 32
  pub short : All (λ text. length text ≤ 2 ^ 24) (map text_of files)
  pub pack : Package
  pub of : IsPackageOf path files pack
  pub agree : NamesAgree pack

-- each export text with what is seen of a package as it spells it, the package beside whose path it stands
abbrev pub AreInterfaces : List Named → Env → Type 0
AreInterfaces [] [] = Prim.Unit {0}
AreInterfaces [] (i ∷ env) = ⊥
AreInterfaces (x ∷ xs) [] = ⊥
AreInterfaces (x ∷ xs) (i ∷ env) = IsFaceText i x.1 × (i.path ≡ x.0) × AreInterfaces xs env

-- An input that can be read: files that parse, few enough and short enough to be counted, and export texts that spell what is seen of other
-- packages, whose types can all be declared.
pub record IsReadable (input : LoadInput) : Type 0 where
  pub few : length input.files < 2 ^ 32
  pub short : All (λ text. length text ≤ 2 ^ 24) (map text_of input.files)
  pub pack : Package
  pub of : IsPackageOf input.path input.files pack
  pub env : Env
  pub faces : AreInterfaces input.env env
  pub fit : AreFit input.path env

-- An input that a load may be asked for: it can be read, the texts of the package are fit, and the interfaces of others stand in the order of
-- their paths, of which none is empty or the package's own; among these is each that the package imports.
pub record IsLawful (input : LoadInput) : Type 0 where
  pub read : IsReadable input
  pub source : IsSource input.path input.files
  pub ordered : (j k : ℕ) (x y : Named) → j < k → slice_get input.env j ≡ Some x → slice_get input.env k ≡ Some y → is_before x.0 y.0 ≡ true
  pub others : (x : Named) → Contains input.env x → (x.0 ≡ [] → ⊥) × (x.0 ≡ input.path → ⊥)
  pub imports : (path : List ℕ) → ImportsPath source.pack path → (x : Named) × Contains input.env x × (x.0 ≡ path)

-- the outcome texts: `1;` and the export text, or `0;` and the marks text
abbrev pub accepted_text : List ℕ → List ℕ
accepted_text export = codes "1;" ++ export

abbrev pub refused_text : List ℕ → List ℕ
refused_text marks = codes "0;" ++ marks

abbrev pub Tells : Judged → List ℕ → Type 0
Tells (Judged.Accepts f) text = (export : List ℕ) × IsFaceText f export × (text ≡ accepted_text export)
Tells (Judged.Refuses list) text = (marks : List ℕ) × AreSpelled list marks × (text ≡ refused_text marks)

-- What comes of a load, by its input alone.
pub record IsOutcome (input : LoadInput) (text : List ℕ) : Type 0 where
  pub env : Env
  pub judged : Judged
  pub faces : AreInterfaces input.env env
  pub judges : Judges input.path input.files env judged
  pub tells : Tells judged text

-- nothing comes of a load: its package is stuck over the interfaces of these texts
pub record IsStuck (input : LoadInput) : Type 0 where
  pub env : Env
  pub faces : AreInterfaces input.env env
  pub stuck : IsStuckOver input.path input.files env

-- these are the texts of a lawful input, and this is what comes of it
pub record IsOutcomeOf (texts : List (List ℕ)) (text : List ℕ) : Type 0 where
  pub load : LoadInput
  pub is : texts ≡ load_texts load
  pub lawful : IsLawful load
  pub outcome : IsOutcome load text

-- the outcome text of what a load answers
abbrev pub load_text : {L : Type 0} → Load L → List ℕ
load_text (Accepted loaded export) = accepted_text export
load_text (Refused marks) = refused_text marks

-- the package as it was accepted
abbrev pub IfAccepted : {L : Type 0} → Load L → (L → Type 0) → Type 0
IfAccepted (Accepted loaded export) P = P loaded
IfAccepted (Refused marks) P = Prim.Unit {0}
