use Rattle.std.proofs.Common.{sym, subst, arith}
use Rattle.std.specs.Prelude.{IfOk}
use Rattle.unit_read.specs.Subjects.{unit_of}
use Rattle.rule_words.specs.Asking.{Rule}
use Rattle.rule_words.specs.Scenes.{parts_in}
use Rattle.rule_words.specs.Wanting.{wanted_of}
use Rattle.type_answers.specs.Coming.{ComesTo}
use Rattle.type_answers.proofs.ComingLaws.{same_comes}
use Rattle.go_rules.specs.declared.family.Family.{Family}
use Rattle.go_rules.specs.declared.family.Family.TheVariants as f
use Rattle.go_rules.specs.Families.{rule_by}
use Rattle.go_rules.proofs.PassingLemmas.{same_passes}
use Rattle.go_rules.proofs.by_family.judge_by.Goals as goal

pub returns-in-Variable-clause-comes : goal.returns-in-Variable-clause-comes
returns-in-Variable-clause-comes c = grind (arith, same_comes)

pub returns-in-Statement-clause-comes : goal.returns-in-Statement-clause-comes
returns-in-Statement-clause-comes c = grind (arith, same_comes)

pub returns-in-Operand-clause-comes : goal.returns-in-Operand-clause-comes
returns-in-Operand-clause-comes c =
    let s = c.args.s.now in
    let rule : Family → Rule = λ by. rule_by by (unit_of c.args.u.now) c.args.block c.args.at c.args.node.now (parts_in s c.args.list.now) (wanted_of s c.args.w) in
    subst (λ (by : Family). IfOk c.judge_op.result (ComesTo c.args.u.now s (rule by))) (sym c.in-Operand.is) (same_passes c.args.u.now s (rule f.Operand) c.judge_op.result c.requires.scene c.judge_op.ensures.is)

pub returns-in-Literal-clause-comes : goal.returns-in-Literal-clause-comes
returns-in-Literal-clause-comes c =
    let s = c.args.s.now in
    let rule : Family → Rule = λ by. rule_by by (unit_of c.args.u.now) c.args.block c.args.at c.args.node.now (parts_in s c.args.list.now) (wanted_of s c.args.w) in
    subst (λ (by : Family). IfOk c.judge_literal.result (ComesTo c.args.u.now s (rule by))) (sym c.in-Literal.is) (same_passes c.args.u.now s (rule f.Literal) c.judge_literal.result c.requires.scene c.judge_literal.ensures.is)

pub returns-in-Function-clause-comes : goal.returns-in-Function-clause-comes
returns-in-Function-clause-comes c =
    let s = c.args.s.now in
    let rule : Family → Rule = λ by. rule_by by (unit_of c.args.u.now) c.args.block c.args.at c.args.node.now (parts_in s c.args.list.now) (wanted_of s c.args.w) in
    subst (λ (by : Family). IfOk c.judge_function.result (ComesTo c.args.u.now s (rule by))) (sym c.in-Function.is) (same_passes c.args.u.now s (rule f.Function) c.judge_function.result c.requires.scene c.judge_function.ensures.is)

pub returns-in-Type-clause-comes : goal.returns-in-Type-clause-comes
returns-in-Type-clause-comes c =
    let s = c.args.s.now in
    let rule : Family → Rule = λ by. rule_by by (unit_of c.args.u.now) c.args.block c.args.at c.args.node.now (parts_in s c.args.list.now) (wanted_of s c.args.w) in
    subst (λ (by : Family). IfOk c.judge_type.result (ComesTo c.args.u.now s (rule by))) (sym c.in-Type.is) (same_passes c.args.u.now s (rule f.Type) c.judge_type.result c.requires.scene c.judge_type.ensures.is)

pub returns-in-Declaration-clause-comes : goal.returns-in-Declaration-clause-comes
returns-in-Declaration-clause-comes c =
    let s = c.args.s.now in
    let rule : Family → Rule = λ by. rule_by by (unit_of c.args.u.now) c.args.block c.args.at c.args.node.now (parts_in s c.args.list.now) (wanted_of s c.args.w) in
    subst (λ (by : Family). IfOk c.judge_decl.result (ComesTo c.args.u.now s (rule by))) (sym c.in-Declaration.is) (same_passes c.args.u.now s (rule f.Declaration) c.judge_decl.result c.requires.scene c.judge_decl.ensures.is)

pub returns-in-Operation-clause-comes : goal.returns-in-Operation-clause-comes
returns-in-Operation-clause-comes c =
    let s = c.args.s.now in
    let rule : Family → Rule = λ by. rule_by by (unit_of c.args.u.now) c.args.block c.args.at c.args.node.now (parts_in s c.args.list.now) (wanted_of s c.args.w) in
    subst (λ (by : Family). IfOk c.judge_operation.result (ComesTo c.args.u.now s (rule by))) (sym c.in-Operation.is) (same_passes c.args.u.now s (rule f.Operation) c.judge_operation.result c.requires.scene c.judge_operation.ensures.is)

pub returns-in-Clause-clause-comes : goal.returns-in-Clause-clause-comes
returns-in-Clause-clause-comes c =
    let s = c.args.s.now in
    let rule : Family → Rule = λ by. rule_by by (unit_of c.args.u.now) c.args.block c.args.at c.args.node.now (parts_in s c.args.list.now) (wanted_of s c.args.w) in
    subst (λ (by : Family). IfOk c.judge_clause.result (ComesTo c.args.u.now s (rule by))) (sym c.in-Clause.is) (same_passes c.args.u.now s (rule f.Clause) c.judge_clause.result c.requires.scene c.judge_clause.ensures.is)
