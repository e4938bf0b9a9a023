-- What is handed down in bodies.
use Rattle.std.specs.Prelude.{ℕ, ◌==◌, ◌&&◌, ◌||◌, not, if◌then◌else◌, Bool, false, List}
use Rattle.go_tree.specs.declared.tree.Node.{Node}
use Rattle.go_tree.specs.declared.tree.NodeKind.{NodeKind}
use Rattle.node_values.specs.Handed.{IsHandedDown}
use Rattle.body_rules.specs.Branches.{is_first}
use Rattle.body_rules.specs.Endings.{from_last, is_passed}
use Rattle.body_rules.specs.Kinds.{is_switch, is_assigning, is_several, is_paren, is_label, is_clause, is_list}

-- The end of a clause that isn't the last of an expression switch: a switch hands this to all parts but the last, and only clauses pass it on,
-- each to its list, that to its last statement, and a label to what it stands on.
abbrev pub clause_by : NodeKind → List ℕ → ℕ → Bool → Bool
clause_by kind parts n own =
    if is_switch kind then not (from_last parts 1 == n)
    else (own && (is_label kind || ((is_clause kind || is_list kind) && (from_last parts 1 == n))))

abbrev pub clause_rule : ℕ → Node → ℕ → Bool → Bool
clause_rule p node n own = clause_by node.kind node.parts n own

-- an operand alone on the left of `=` or `:=`
abbrev pub alone_by : NodeKind → List ℕ → ℕ → Bool → Bool
alone_by kind parts n own =
    if is_assigning kind then is_first parts n
    else (own && (is_several kind || is_paren kind))

abbrev pub alone_rule : ℕ → Node → ℕ → Bool → Bool
alone_rule p node n own = alone_by node.kind node.parts n own

abbrev pub AreClauseEnds : List Node → List Bool → Type 0
AreClauseEnds nodes found = IsHandedDown clause_rule false nodes found

abbrev pub AreAlone : List Node → List Bool → Type 0
AreAlone nodes found = IsHandedDown alone_rule false nodes found
