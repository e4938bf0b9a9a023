-- Conditions (Go 1.17, "If statements", "For statements with single condition", "For statements with for clause").
use Rattle.std.specs.Prelude.{ℕ, Option}
use Rattle.std.specs.Option.{option_map_or}
use Rattle.go_tree.specs.declared.tree.Node.{Node}
use Rattle.mark_walk.specs.Asks.{done, bind}
use Rattle.type_model.specs.GoTypes.{GoType}
use Rattle.typed_tree.specs.Operands.{is_boolean}
use Rattle.typed_marks.specs.declared.item.Stage.TheVariants as s
use Rattle.typed_marks.specs.Meanings.{Known, Meaning, Right, Quiet}
use Rattle.unit_read.specs.Units.{Unit, nodes_at}
use Rattle.rule_words.specs.Asking.{Rule, mark_ask, under_ask}
use Rattle.rule_words.specs.Good.{given}
use Rattle.rule_words.specs.Words.{need_type}
use Rattle.rule_words.specs.Types.{is_of}
use Rattle.typed_tree.specs.declared.rule.TheConstants.{CONDITION_IS_NOT_BOOLEAN}
use Rattle.assign_rules.specs.Kinds.{condition_of}
use Rattle.assign_rules.specs.Words.{holds, held_if}

-- E76: "the value of a boolean expression"
abbrev pub condition_under : GoType → Rule
condition_under under = held_if (is_of is_boolean under) CONDITION_IS_NOT_BOOLEAN

abbrev pub condition_told : Option GoType → Rule
condition_told under = need_type under condition_under

abbrev pub condition_known : Unit → Known → Rule
condition_known u x = bind (under_ask u x.last) condition_told

abbrev pub condition_placed : Unit → Meaning → Rule
condition_placed u m = given m (condition_known u)

abbrev pub condition_part : Unit → ℕ → ℕ → Rule
condition_part u block n = bind (mark_ask u s.Placed block n) (condition_placed u)

-- The rule of a statement that may have a condition.
abbrev pub conditional_rule : Unit → ℕ → ℕ → Node → Rule
conditional_rule u block file node = option_map_or (condition_part u block) (condition_of node.kind (nodes_at u file) node) holds

-- ---- what stands for what is in it: the condition of a for clause, the guard of a type switch

abbrev pub handed_known : Known → Rule
handed_known x = done (Right x)

abbrev pub handed_placed : Meaning → Rule
handed_placed m = given m handed_known

abbrev pub handed_part : Unit → ℕ → ℕ → Rule
handed_part u block n = bind (mark_ask u s.Placed block n) handed_placed

abbrev pub handing_rule : Unit → ℕ → Option ℕ → Rule
handing_rule u block o = option_map_or (handed_part u block) o (done Quiet)
