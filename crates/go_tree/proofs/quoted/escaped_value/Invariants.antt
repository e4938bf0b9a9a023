use Rattle.std.proofs.Common.{◌≡◌, ◌++◌, drop}
use Rattle.go_tree.specs.declared.class.Escape.TheVariants.{Plain}
use Rattle.go_tree.specs.Values.{text_from}
use Rattle.go_tree.proofs.quoted.escaped_value.Given as goal

abbrev pub invariant-loop-b : goal.invariant-loop-b
invariant-loop-b l = l.text.items ++ text_from l.state (drop l.b-index l.body) ≡ text_from Plain l.body
