-- What is kept of the files and of a struct while its tags are looked at, in code.
use Rattle.std.specs.Prelude.{◌≡◌, ℕ, ◌≤◌, ◌^◌, ◌==◌, if◌then◌else◌, List, [], length, codes, Option, Some, None, slice_get, slice_index_or, option_map, option_and_then}
use Rattle.std.specs.Option.{option_map_or, option_or}
use Rattle.std.specs.Global.{Vec}
use Rattle.std.specs.HashMap.{HashMap}
use Rattle.go_tree.specs.declared.tree.Node.{Node}
use Rattle.gv_base.specs.Lines.{LineTable, IsTableOf}
use Rattle.package_objects.specs.Declares.{part}
use Rattle.unit_read.specs.Units.{Unit, nodes_at}
use Rattle.type_rules.specs.Structs.{tag_of}
use Rattle.analysis_core.specs.declared.diagnostic.Diagnostic.{Diagnostic}
use Rattle.vet_simple.specs.declared.tags.Pair.{Pair}
use Rattle.vet_simple.specs.InRuns.{kept}
use Rattle.vet_simple.specs.Tags.{pairs_of}
use Rattle.vet_simple.specs.TagNames.{json_key, xml_key}
use Rattle.vet_simple.specs.StructTags.{part_key, tag_key, first_below, bad_text, if_hidden, again_text, field_name, fault_at}

-- a table of lines for each text
pub record AreLines (texts : List (List ℕ)) (lines : List LineTable) : Type 0 where
  pub size : length lines ≡ length texts
  pub each : (f : ℕ) (table : LineTable) → slice_get lines f ≡ Some table → IsTableOf (slice_index_or texts f []) table

-- texts are short enough for their lines to be counted
abbrev pub AreShort : List (List ℕ) → Type 0
AreShort texts = (f : ℕ) → length (slice_index_or texts f []) ≤ 2 ^ 31

-- a table of lines for each of the first few texts
pub record AreFirstLines (texts : List (List ℕ)) (k : ℕ) (lines : List LineTable) : Type 0 where
  pub size : length lines ≡ k
  pub each : (f : ℕ) (table : LineTable) → slice_get lines f ≡ Some table → IsTableOf (slice_index_or texts f []) table

-- under each key the first of the first few parts that has it
abbrev pub IsMet : {S : Type 0} → (List Pair → Option (List ℕ)) → Unit → ℕ → Node → ℕ → HashMap (Vec ℕ) ℕ S → Type 0
IsMet key u f struct few met = (k : List ℕ) → kept met k ≡ first_below (part_key key u f struct) k few

abbrev pub AreMet : {S T : Type 0} → Unit → ℕ → Node → ℕ → HashMap (Vec ℕ) ℕ S → HashMap (Vec ℕ) ℕ T → Type 0
AreMet u f struct few json xml = IsMet json_key u f struct few json × IsMet xml_key u f struct few xml

-- the part of a struct of a number
abbrev pub IsPart : Unit → ℕ → Node → ℕ → Node → Type 0
IsPart u f struct i node = option_and_then (λ n. slice_get (nodes_at u f) n) (part struct i) ≡ Some node

-- what is said of a key, by the part that has it
abbrev pub told_by : (List ℕ → ℕ → List ℕ) → Option (List ℕ) → Option ℕ → Option (List ℕ)
told_by text key before = option_and_then (λ (k : List ℕ). option_map (text k) before) key

-- ---- what a part was read to say

abbrev pub or_this : Option ℕ → ℕ → Option ℕ
or_this (Some b) i = Some b
or_this None i = Some i

-- the first that has the key of a part: for its first name one of the parts before it, for the others this one too
abbrev pub earlier : Option ℕ → ℕ → ℕ → Option ℕ
earlier before i j = if j == 0 then before else or_this before i

-- what a part was read to say: the pairs of its tag, by what its names are told, and the first of the parts before it that have these
pub record ToldOf : Type 0 where
  pub pairs : Option (List Pair)
  pub json : Option (List ℕ)
  pub json_before : Option ℕ
  pub xml : Option (List ℕ)
  pub xml_before : Option ℕ

abbrev pub again_told : List (List ℕ) → Unit → ℕ → Node → ℕ → ℕ → List ℕ → ToldOf → Option (List ℕ)
again_told paths u f struct i j name t =
    option_or (told_by (again_text paths u f struct (codes "json") name) t.json (earlier t.json_before i j)) (told_by (again_text paths u f struct (codes "xml") name) t.xml (earlier t.xml_before i j))

abbrev pub fault_in : List (List ℕ) → Unit → ℕ → Node → ℕ → ℕ → Node → List ℕ → ToldOf → Option (List Pair) → Option (List ℕ)
fault_in paths u f struct i j node name t None = Some bad_text
fault_in paths u f struct i j node name t (Some pairs) = option_or (if_hidden node name pairs) (again_told paths u f struct i j name t)

abbrev pub fault_told : List (List ℕ) → Unit → ℕ → Node → ℕ → Node → ToldOf → ℕ → Option (List ℕ)
fault_told paths u f struct i node t j = fault_in paths u f struct i j node (field_name u f node j) t t.pairs

abbrev pub nth_told : List (List ℕ) → Unit → ℕ → Node → ℕ → ℕ → Node → ToldOf → ℕ → List Diagnostic
nth_told paths u f struct i n node t j = option_map_or (fault_at u f n) (fault_told paths u f struct i node t j) []

-- the part of a number was read, over what was kept of those before it
pub record IsTold (u : Unit) (f : ℕ) (struct : Node) (i : ℕ) (node : Node) (t : ToldOf) : Type 0 where
  pub pairs : t.pairs ≡ pairs_of (tag_of u f node)
  pub json : t.json ≡ tag_key json_key u f node
  pub json_before : (k : List ℕ) → t.json ≡ Some k → t.json_before ≡ first_below (part_key json_key u f struct) k i
  pub xml : t.xml ≡ tag_key xml_key u f node
  pub xml_before : (k : List ℕ) → t.xml ≡ Some k → t.xml_before ≡ first_below (part_key xml_key u f struct) k i
