-- What rules read of parts: how, and what is read.
use Rattle.std.specs.Prelude.{ℕ, List, [], length, map, Option, Some, None, slice_get}
use Rattle.std.specs.Option.{option_map_or}
use Rattle.go_tree.specs.declared.tree.Node.{Node}
use Rattle.go_tree.specs.declared.tree.NodeKind.{NodeKind}
use Rattle.package_objects.specs.Declares.{gather, items, part}
use Rattle.type_model.specs.GoTypes.{GoType}
use Rattle.typed_marks.specs.declared.item.Stage.{Stage}
use Rattle.typed_marks.specs.declared.item.Stage.TheVariants as s
use Rattle.typed_marks.specs.Meanings.{Meaning, Quiet}
use Rattle.rule_words.specs.declared.read.How.{How}
use Rattle.rule_words.specs.declared.read.How.TheVariants as h
use Rattle.rule_words.specs.declared.read.Read.{Read}

-- a part: its mark, and the underlying type of its final type where that is read and known
pub record Part : Type 0 where
  pub mark : Meaning
  pub under : Option GoType

abbrev pub no_part : Part
no_part = record { mark = Quiet; under = None }

-- one of the parts that were read
abbrev pub part_at : List Part → ℕ → Part
part_at parts i = option_map_or (λ (p : Part). p) (slice_get parts i) no_part

-- a type is read in its place, whatever the whole is judged for; a value at the stage of the whole
abbrev pub stage_of : How → Stage → Stage
stage_of h.Type stage = s.Placed
stage_of h.TypeAndUnder stage = s.Placed
stage_of h.Value stage = stage
stage_of h.Mark stage = stage

abbrev pub read_as : How → ℕ → Read
read_as how n = record { how = how; node = n }

abbrev pub slot_reads : Option How → List ℕ → List Read
slot_reads None list = []
slot_reads (Some how) list = map (read_as how) list

-- What is read of a node's parts, in their order: each part that is a list gives what it lists.
abbrev pub reads : (ℕ → Option How) → List Node → Node → List Read
reads how nodes node = gather (λ slot. slot_reads (how slot) (items nodes (part node slot))) (length node.parts)
