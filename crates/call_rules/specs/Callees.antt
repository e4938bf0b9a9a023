-- What a call calls (Go 1.17, "Calls", "Conversions", "Built-in functions").
use Rattle.std.specs.Prelude.{ℕ, Bool, List}
use Rattle.go_tree.specs.declared.tree.Node.{Node}
use Rattle.package_objects.specs.Declares.{kind_at}
use Rattle.typed_tree.specs.declared.mark.Mode.{Mode}
use Rattle.typed_tree.specs.declared.mark.Mode.TheVariants as mode
use Rattle.typed_tree.specs.declared.rule.TheConstants.{NOT_A_VALUE, SEVERAL_VALUES}
use Rattle.builtin_rules.specs.Named.{inner, is_call}
use Rattle.call_rules.specs.declared.callee.Callee.{Callee}
use Rattle.call_rules.specs.declared.callee.Callee.TheVariants as c

-- A single value is called, a type converts. E24 where neither stands, E25 where several values do.
unfoldable pub callee_of : Mode → Callee
callee_of mode.Constant = c.Value
callee_of mode.Variable = c.Value
callee_of mode.MapIndex = c.Value
callee_of mode.Value = c.Value
callee_of mode.CommaOk = c.Value
callee_of mode.Nil = c.Value
callee_of mode.TypeName = c.Type
callee_of mode.Builtin = c.Builtin
callee_of mode.NoValue = c.Refused NOT_A_VALUE
callee_of mode.Package = c.Refused NOT_A_VALUE
callee_of mode.Many = c.Refused SEVERAL_VALUES

-- a node that is a call, parentheses aside
unfoldable pub calls : List Node → ℕ → Bool
calls nodes n = is_call (kind_at nodes (inner nodes n))
