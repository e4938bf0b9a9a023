-- Function literals (Go 1.17, "Function literals"): a value of the type that its signature has. The body is no part of it.
use Rattle.std.specs.Prelude.{ℕ, None}
use Rattle.go_tree.specs.declared.tree.Node.{Node}
use Rattle.go_tree.specs.declared.tree.NodeRef.{NodeRef}
use Rattle.mark_walk.specs.Asks.{done, bind}
use Rattle.type_model.specs.GoTypes.{GoType}
use Rattle.typed_tree.specs.declared.mark.Mode.TheVariants as mode
use Rattle.typed_marks.specs.Meanings.{Meaning, Right, Wrong, Beyond, Quiet, Wishes, Declares}
use Rattle.unit_read.specs.Units.{Unit, nodes_at}
use Rattle.rule_words.specs.Asking.{Rule}
use Rattle.type_rules.specs.Signatures.{signature_rule}

abbrev pub value_of : GoType → Meaning
value_of of = Right (record { mode = mode.Value; of = of; value = None; last = of })

-- a value of the type that a mark gives
abbrev pub valued : Meaning → Meaning
valued (Right x) = value_of x.of
valued (Wrong rule) = Wrong rule
valued (Beyond limit) = Beyond limit
valued Quiet = Quiet
valued (Wishes demand wish) = Quiet
valued (Declares d) = Quiet

abbrev pub valued_rule : Meaning → Rule
valued_rule m = done (valued m)

-- The rule of a function literal.
abbrev pub function_rule : Unit → ℕ → NodeRef → Node → Rule
function_rule u block at node = bind (signature_rule u block (nodes_at u at.file) node 0) valued_rule
