-- The rules of statements (Go 1.17, "Statements").
use Rattle.std.specs.Prelude.{ℕ, List, Option, None}
use Rattle.go_tree.specs.declared.tree.Node.{Node}
use Rattle.go_tree.specs.declared.tree.NodeKind.{NodeKind}
use Rattle.go_tree.specs.declared.tree.NodeKind.TheVariants as k
use Rattle.go_tree.specs.declared.tree.NodeRef.{NodeRef}
use Rattle.package_objects.specs.Declares.{part}
use Rattle.unit_read.specs.Units.{Unit}
use Rattle.rule_words.specs.declared.read.How.{How}
use Rattle.rule_words.specs.Asking.{Rule}
use Rattle.rule_words.specs.Parts.{Part}
use Rattle.rule_words.specs.Words.{Wanted}
use Rattle.assign_rules.specs.Assigning.{assign_rule, define_rule, step_rule}
use Rattle.statement_rules.specs.Conditions.{conditional_rule, handing_rule}
use Rattle.assign_rules.specs.Ranging.{range_rule, range_define_rule}
use Rattle.statement_rules.specs.Returning.{return_rule}
use Rattle.assign_rules.specs.Selecting.{comm_rule}
use Rattle.assign_rules.specs.Sending.{send_rule}
use Rattle.statement_rules.specs.Standing.{go_rule}
use Rattle.statement_rules.specs.Switching.{default_rule}
use Rattle.statement_rules.specs.TypeSwitching.{type_switch_rule}
use Rattle.assign_rules.specs.Words.{holds}

-- A statement asks for the parts that it tests itself.
abbrev pub statement_reads : NodeKind → ℕ → Option How
statement_reads _ _ = None

abbrev pub rule_by : Unit → ℕ → NodeRef → Node → NodeKind → Rule
rule_by u block at node k.Assign = assign_rule u block at node
rule_by u block at node k.Define = define_rule u block at node
rule_by u block at node k.Increment = step_rule u block at node
rule_by u block at node k.Decrement = step_rule u block at node
rule_by u block at node k.Send = send_rule u block node
rule_by u block at node k.If = conditional_rule u block at.file node
rule_by u block at node k.For = conditional_rule u block at.file node
rule_by u block at node k.ForClause = conditional_rule u block at.file node
rule_by u block at node k.Condition = handing_rule u block (part node 0)
rule_by u block at node k.TypeGuard = handing_rule u block (part node 0)
rule_by u block at node k.Bind = handing_rule u block (part node 1)
rule_by u block at node k.ForRange = range_rule u block at.file node
rule_by u block at node k.ForRangeAssign = range_rule u block at.file node
rule_by u block at node k.ForRangeDefine = range_define_rule u block at.file node
rule_by u block at node k.Return = return_rule u block at node
rule_by u block at node k.Go = go_rule u block at.file node
rule_by u block at node k.Defer = go_rule u block at.file node
rule_by u block at node k.Default = default_rule u at
rule_by u block at node k.TypeSwitch = type_switch_rule u block at.file node
rule_by u block at node k.Comm = comm_rule node
rule_by u block at node _ = holds

-- The rule of a statement, or of what stands for statements in one. Blocks, labels and jumps have no test here: those of labels and jumps are told once all are
-- marked.
abbrev pub statement_rule : Unit → ℕ → NodeRef → Node → List Part → Wanted → Rule
statement_rule u block at node ps w = rule_by u block at node node.kind
