-- The passages of a package's files that are read as one: each file, and each list of constants as a specification without values repeats it
-- (Go 1.17, "Constant declarations", "Iota").
use Rattle.std.specs.Prelude.{ℕ, suc, ◌-◌, ◌+◌, if◌then◌else◌, List, [], ◌∷◌, ◌++◌, length, map, Option, Some, None, slice_get}
use Rattle.std.specs.Option.{option_map_or}
use Rattle.go_tree.specs.declared.tree.FileTree.{FileTree}
use Rattle.go_tree.specs.declared.tree.Node.{Node}
use Rattle.package_objects.specs.Declares.{gather, part}
use Rattle.const_tree.specs.declared.constant.Spec.{Spec}
use Rattle.const_tree.specs.Constants.{specs_in, is_repeated}
use Rattle.typed_marks.specs.declared.item.Span.{Span}
use Rattle.unit_read.specs.declared.passage.Passage.{Passage}

-- ---- files

abbrev pub file_passage : ℕ → FileTree → Passage
file_passage file tree = record { file = file; spec = None; span = record { low = 0; end = length tree.nodes } }

abbrev pub nth_file : List FileTree → ℕ → List Passage
nth_file trees file = option_map_or (λ (tree : FileTree). file_passage file tree ∷ []) (slice_get trees file) []

-- ---- repeated lists

-- the nodes after one and before another
abbrev pub span_between : ℕ → ℕ → Span
span_between n until = record { low = suc n; end = until }

abbrev pub span_behind : ℕ → Option ℕ → List Span
span_behind end None = []
span_behind end (Some n) = span_between n end ∷ []

-- the nodes of a specification's values: they come after its names and its type, and before the specification itself
abbrev pub values_span : List Node → ℕ → List Span
values_span nodes n = option_map_or (λ (node : Node). span_behind n (part node (length node.parts - 2))) (slice_get nodes n) []

abbrev pub copied : ℕ → Spec → Span → Passage
copied file spec span = record { file = file; spec = Some spec; span = span }

abbrev pub copies_from : ℕ → List Node → Spec → ℕ → List Passage
copies_from file nodes spec source = map (copied file spec) (values_span nodes source)

-- what a specification repeats
abbrev pub copies_by : ℕ → List Node → Spec → List Passage
copies_by file nodes spec = if is_repeated nodes spec then option_map_or (copies_from file nodes spec) spec.source [] else []

abbrev pub nth_copy : ℕ → List Node → ℕ → List Passage
nth_copy file nodes i = option_map_or (copies_by file nodes) (slice_get (specs_in nodes) i) []

abbrev pub copies_in : ℕ → FileTree → List Passage
copies_in file tree = gather (nth_copy file tree.nodes) (length (specs_in tree.nodes))

abbrev pub file_copies : List FileTree → ℕ → List Passage
file_copies trees file = option_map_or (copies_in file) (slice_get trees file) []

-- The files in turn, then the repeated lists of each.
abbrev pub passages : List FileTree → List Passage
passages trees = gather (nth_file trees) (length trees) ++ gather (file_copies trees) (length trees)

abbrev pub spans : List Passage → List Span
spans list = map (λ (p : Passage). p.span) list
