-- The rule of a call (Go 1.17, "Calls", "Conversions", "Built-in functions").
use Rattle.std.specs.Prelude.{ℕ, Bool, false, if◌then◌else◌, List, Option, Some, None}
use Rattle.std.specs.Option.{option_map_or}
use Rattle.go_tree.specs.declared.tree.Node.{Node}
use Rattle.go_tree.specs.declared.tree.NodeKind.{NodeKind}
use Rattle.go_tree.specs.declared.tree.NodeRef.{NodeRef}
use Rattle.package_objects.specs.Declares.{part}
use Rattle.mark_walk.specs.Asks.{done}
use Rattle.typed_marks.specs.Meanings.{Known, Wrong}
use Rattle.unit_read.specs.Units.{Unit, nodes_at}
use Rattle.rule_words.specs.declared.read.How.{How}
use Rattle.rule_words.specs.declared.read.How.TheVariants as h
use Rattle.rule_words.specs.Asking.{Rule}
use Rattle.rule_words.specs.Parts.{Part, part_at}
use Rattle.rule_words.specs.Words.{Wanted, need}
use Rattle.call_rules.specs.declared.callee.Callee.{Callee}
use Rattle.call_rules.specs.declared.callee.Callee.TheVariants as c
use Rattle.builtin_rules.specs.Builtin.{builtin_rule}
use Rattle.builtin_rules.specs.Named.{is_call, is_spread, builtin_in}
use Rattle.call_rules.specs.Callees.{callee_of, calls}
use Rattle.call_rules.specs.Calling.{called_rule}
use Rattle.call_rules.specs.Converting.{conversion_rule}

-- ---- how parts are read

-- What is called and each argument, with the underlying type of its final type; that of a type is the type's own.
abbrev pub call_reads : NodeKind → ℕ → Option How
call_reads kind slot = if is_call kind then Some h.Value else None

-- ---- the rule

-- the first argument is a call, parentheses aside
unfoldable pub passes_call : Unit → ℕ → Node → Bool
passes_call u file node = option_map_or (calls (nodes_at u file)) (part node 1) false

unfoldable pub callee_rule : Unit → ℕ → ℕ → Node → List Part → Known → Callee → Rule
callee_rule u block file node ps f c.Value = called_rule (is_spread node.kind) (passes_call u file node) ps
callee_rule u block file node ps f c.Type = conversion_rule (is_spread node.kind) f.of ps
callee_rule u block file node ps f c.Builtin = builtin_rule u block file node ps (is_spread node.kind) (builtin_in u file node)
callee_rule u block file node ps f (c.Refused rule) = done (Wrong rule)

abbrev pub known_callee : Unit → ℕ → ℕ → Node → List Part → Known → Rule
known_callee u block file node ps f = callee_rule u block file node ps f (callee_of f.mode)

-- The rule of a call, from its parts: nothing is said where what is called isn't good. What its place wants doesn't count: what it gives has a type.
abbrev pub call_rule : Unit → ℕ → NodeRef → Node → List Part → Wanted → Rule
call_rule u block at node ps w = need (part_at ps 0).mark (known_callee u block at.file node ps)
