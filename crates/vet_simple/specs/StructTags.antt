-- structtag: tags of fields that are no pairs, that name a field that isn't seen, or that name one twice.
use Rattle.std.specs.Prelude.{ℕ, zero, suc, drop, ◌&&◌, not, min, nat_lt, Bool, true, false, if◌then◌else◌, List, [], ◌∷◌, ◌++◌, codes, length, is_some, Option, Some, None, slice_get, slice_index_or, option_map, option_and_then}
use Rattle.std.specs.List.{Contains}
use Rattle.std.specs.Option.{option_map_or, option_or}
use Rattle.std.specs.Fmt.{decimal}
use Rattle.gv_base.specs.Lines.{line_of, column_of}
use Rattle.go_tree.specs.declared.tree.Node.{Node}
use Rattle.go_tree.specs.declared.tree.NodeKind.{NodeKind}
use Rattle.go_tree.specs.declared.tree.NodeKind.TheVariants as k
use Rattle.go_tree.specs.declared.tree.NodeRef.{NodeRef}
use Rattle.object_order.specs.Spots.{place}
use Rattle.package_objects.specs.Declares.{gather, items, part}
use Rattle.typed_marks.specs.declared.item.Item.{Item}
use Rattle.typed_marks.specs.Meanings.{Meaning}
use Rattle.unit_read.specs.Units.{Unit, text_in, nodes_at, name_at}
use Rattle.unit_read.specs.Members.{embedded_name}
use Rattle.type_rules.specs.Structs.{is_exported, tag_of}
use Rattle.analysis_core.specs.declared.analyzer_name.AnalyzerName.TheVariants as analyzer
use Rattle.analysis_core.specs.declared.diagnostic.Diagnostic.{Diagnostic}
use Rattle.findings.specs.Reported.{AreFindings}
use Rattle.vet_words.specs.Diagnosing.{start_of, diagnosed_at}
use Rattle.vet_simple.specs.declared.tags.Pair.{Pair}
use Rattle.vet_simple.specs.InRuns.{has_key, noted}
use Rattle.vet_simple.specs.Tags.{pairs_of}
use Rattle.vet_simple.specs.TagNames.{pair_of, json_key, xml_key}

-- ---- fields

abbrev pub is_field : NodeKind → Bool
is_field k.Field = true
is_field _ = false

-- the names of a field
abbrev pub names_of : Unit → ℕ → Node → List ℕ
names_of u f node = items (nodes_at u f) (part node 0)

-- how many fields a part of a struct declares: one for each of its names, or an embedded one
abbrev pub count_by : Unit → ℕ → Node → NodeKind → ℕ
count_by u f node k.Field = length (names_of u f node)
count_by u f node k.Embedded = 1
count_by u f node k.EmbeddedPointer = 1
count_by u f node _ = 0

abbrev pub field_count : Unit → ℕ → Node → ℕ
field_count u f node = count_by u f node node.kind

abbrev pub written_name : Unit → ℕ → ℕ → List ℕ
written_name u f n = name_at u (place f n)

-- the name of one of them
abbrev pub nth_name : Unit → ℕ → Node → ℕ → List ℕ
nth_name u f node j = option_map_or (written_name u f) (slice_get (names_of u f node) j) []

abbrev pub field_name : Unit → ℕ → Node → ℕ → List ℕ
field_name u f node j = if is_field node.kind then nth_name u f node j else embedded_name u f node

-- ---- what their tags name

-- by what a name in the tag of a node is told; a tag that isn't pairs names nothing
abbrev pub tag_key : (List Pair → Option (List ℕ)) → Unit → ℕ → Node → Option (List ℕ)
tag_key key u f node = option_and_then key (pairs_of (tag_of u f node))

abbrev pub node_key : (List Pair → Option (List ℕ)) → Unit → ℕ → ℕ → Option (List ℕ)
node_key key u f n = option_and_then (tag_key key u f) (slice_get (nodes_at u f) n)

-- that of a part of a struct
abbrev pub part_key : (List Pair → Option (List ℕ)) → Unit → ℕ → Node → ℕ → Option (List ℕ)
part_key key u f struct i = option_and_then (node_key key u f) (part struct i)

-- the first of the first few parts that has a key
abbrev pub first_below : (ℕ → Option (List ℕ)) → List ℕ → ℕ → Option ℕ
first_below key k zero = None
first_below key k (suc i) = noted (first_below key k i) (has_key key k i) i

-- ---- what is said

abbrev pub said_of : List ℕ → List ℕ → List ℕ
said_of name rest = codes "struct field " ++ (name ++ rest)

abbrev pub hidden_text : List ℕ → List ℕ → List ℕ
hidden_text word name = said_of name (codes " has " ++ (word ++ codes " tag but is not exported"))

abbrev pub hidden_by : List ℕ → List ℕ → List Pair → Option (List ℕ)
hidden_by word name pairs = if is_some (pair_of word pairs) then Some (hidden_text word name) else None

-- neither exported nor embedded
abbrev pub is_hidden : Node → List ℕ → Bool
is_hidden node name = is_field node.kind && not (is_exported name)

abbrev pub if_hidden : Node → List ℕ → List Pair → Option (List ℕ)
if_hidden node name pairs = if is_hidden node name then option_or (hidden_by (codes "json") name pairs) (hidden_by (codes "xml") name pairs) else None

-- an offset of a file as path, line and column; one behind its end is its end
abbrev pub offset_text : List ℕ → List ℕ → ℕ → List ℕ
offset_text path bytes offset = path ++ (58 ∷ (decimal (line_of bytes (min offset (length bytes))) ++ (58 ∷ decimal (column_of bytes (min offset (length bytes))))))

abbrev pub first_start : Unit → ℕ → Node → ℕ
first_start u f node = start_of u f node.first

abbrev pub node_start : Unit → ℕ → ℕ → ℕ
node_start u f n = option_map_or (first_start u f) (slice_get (nodes_at u f) n) 0

abbrev pub spot_text : List (List ℕ) → Unit → ℕ → ℕ → List ℕ
spot_text paths u f n = if nat_lt f (length u.texts) then offset_text (slice_index_or paths f []) (text_in u f) (node_start u f n) else []

-- where a part of a struct begins
abbrev pub part_spot : List (List ℕ) → Unit → ℕ → Node → ℕ → List ℕ
part_spot paths u f struct i = option_map_or (spot_text paths u f) (part struct i) []

-- a key is a mark and the name behind it
abbrev pub again_text : List (List ℕ) → Unit → ℕ → Node → List ℕ → List ℕ → List ℕ → ℕ → List ℕ
again_text paths u f struct word name k i =
    said_of name (codes " repeats " ++ (word ++ (codes " tag \"" ++ (drop 1 k ++ (codes "\" also at " ++ part_spot paths u f struct i)))))

abbrev pub again_by : List (List ℕ) → Unit → ℕ → Node → List ℕ → (ℕ → Option (List ℕ)) → ℕ → List ℕ → List ℕ → Option (List ℕ)
again_by paths u f struct word key few name k = option_map (again_text paths u f struct word name k) (first_below key k few)

-- a name that one of the first few parts has
abbrev pub again : List (List ℕ) → Unit → ℕ → Node → List ℕ → (List Pair → Option (List ℕ)) → ℕ → List ℕ → List Pair → Option (List ℕ)
again paths u f struct word key few name pairs = option_and_then (again_by paths u f struct word (part_key key u f struct) few name) (key pairs)

abbrev pub if_again : List (List ℕ) → Unit → ℕ → Node → ℕ → List ℕ → List Pair → Option (List ℕ)
if_again paths u f struct few name pairs =
    option_or (again paths u f struct (codes "json") json_key few name pairs) (again paths u f struct (codes "xml") xml_key few name pairs)

abbrev pub bad_text : List ℕ
bad_text = codes "struct field tag is not key:\"value\" pairs"

-- the first fault of a tag
abbrev pub fault_of : List (List ℕ) → Unit → ℕ → Node → ℕ → Node → List ℕ → Option (List Pair) → Option (List ℕ)
fault_of paths u f struct few node name None = Some bad_text
fault_of paths u f struct few node name (Some pairs) = option_or (if_hidden node name pairs) (if_again paths u f struct few name pairs)

-- ---- what is reported

-- Of the names of one field the first comes before the others: these have its tag, too.
abbrev pub few_before : ℕ → ℕ → ℕ
few_before i zero = i
few_before i (suc j) = suc i

abbrev pub name_fault : List (List ℕ) → Unit → ℕ → Node → ℕ → Node → ℕ → Option (List ℕ)
name_fault paths u f struct i node j = fault_of paths u f struct (few_before i j) node (field_name u f node j) (pairs_of (tag_of u f node))

abbrev pub fault_at : Unit → ℕ → ℕ → List ℕ → List Diagnostic
fault_at u f n text = diagnosed_at u f n analyzer.StructTag text None

abbrev pub nth_fault : List (List ℕ) → Unit → ℕ → Node → ℕ → ℕ → Node → ℕ → List Diagnostic
nth_fault paths u f struct i n node j = option_map_or (fault_at u f n) (name_fault paths u f struct i node j) []

abbrev pub field_faults : List (List ℕ) → Unit → ℕ → Node → ℕ → ℕ → Node → List Diagnostic
field_faults paths u f struct i n node = gather (nth_fault paths u f struct i n node) (field_count u f node)

abbrev pub node_faults : List (List ℕ) → Unit → ℕ → Node → ℕ → ℕ → List Diagnostic
node_faults paths u f struct i n = option_map_or (field_faults paths u f struct i n) (slice_get (nodes_at u f) n) []

abbrev pub part_faults : List (List ℕ) → Unit → ℕ → Node → ℕ → List Diagnostic
part_faults paths u f struct i = option_map_or (node_faults paths u f struct i) (part struct i) []

abbrev pub is_struct : NodeKind → Bool
is_struct k.StructType = true
is_struct _ = false

-- The fields of a struct whose tags have a fault, each name at the first token of its field; `paths` are those of the files.
abbrev pub tag_faults : List (List ℕ) → Unit → (Item → Meaning) → NodeRef → Node → List Diagnostic
tag_faults paths u marks at node = if is_struct node.kind then gather (part_faults paths u at.file node) (length node.parts) else []

abbrev pub IsTagFault : List (List ℕ) → Unit → (Item → Meaning) → NodeRef → Node → Diagnostic → Type 0
IsTagFault paths u marks at node d = Contains (tag_faults paths u marks at node) d

abbrev pub AreTagFaults : List (List ℕ) → Unit → (Item → Meaning) → List Diagnostic → Type 0
AreTagFaults paths u marks found = AreFindings (IsTagFault paths) u marks found
