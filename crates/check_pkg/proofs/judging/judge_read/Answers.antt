use Rattle.std.proofs.Common.{ℕ, List, sym, ap, ◌∙◌, subst}
use Rattle.go_tree.specs.declared.tree.FileTree.{FileTree}
use Rattle.package_objects.specs.Declares.{AreSmall}
use Rattle.type_model.specs.declared.term.Term.{Term}
use Rattle.type_model.specs.Tables.{Extends, terms_in}
use Rattle.type_model.proofs.TypeLaws.{extends-itself}
use Rattle.unit_read.specs.declared.environment.Environment.{Environment}
use Rattle.unit_read.specs.Environments.{faces_in}
use Rattle.unit_read.specs.Index.{texts_of}
use Rattle.unit_read.specs.Subjects.{full_of}
use Rattle.body_facts.specs.Bodies.{AreBodies}
use Rattle.check_pkg.specs.declared.judging.Outcome.{Outcome}
use Rattle.check_pkg.specs.Checks.{HasTypes, IsOutcomeBy}
use Rattle.check_pkg.specs.Judgings.{outcome_in}
use Rattle.check_pkg.proofs.PackageLemmas.{given_base, read_outcome, read_types}
use Rattle.check_pkg.proofs.judging.judge_read.Goals as goal

pub judge_unit-requires-clause-small : goal.judge_unit-requires-clause-small
judge_unit-requires-clause-small g c = subst (λ (trees : List FileTree). AreSmall trees) (sym c.in_ok-subject.ensures.of.trees) c.requires.small

pub judge_unit-requires-clause-bodies : goal.judge_unit-requires-clause-bodies
judge_unit-requires-clause-bodies g c =
    subst (λ (trees : List FileTree). AreBodies (texts_of c.in_ok-subject.field-0.subject.texts.now) trees) (sym c.in_ok-subject.ensures.of.trees)
    (subst (λ (texts : List (List ℕ)). AreBodies texts c.args.trees.now) (sym c.in_ok-subject.ensures.of.texts) c.requires.bodies)

pub judge_unit-requires-clause-env : goal.judge_unit-requires-clause-env
judge_unit-requires-clause-env g c =
    subst (λ (terms : List Term). Extends terms (terms_in c.args.table)) (sym (ap (λ (e : Environment). e.types.now) c.in_ok-subject.ensures.env ∙ c.requires.types)) (extends-itself (terms_in c.args.table))

pub judge_unit-requires-clause-base : goal.judge_unit-requires-clause-base
judge_unit-requires-clause-base g c = λ name.
    c.requires.base name ∙ given_base (full_of c.in_ok-subject.field-0.subject) c.args.path.now (faces_in c.args.env.now) c.in_ok-subject.ensures.of.path c.in_ok-subject.ensures.of.env name

pub returns-clause-is : goal.returns-clause-is
returns-clause-is g c =
    subst (λ (o : Outcome). IsOutcomeBy g.R.Rules.rule c.args.path.now (texts_of c.args.sources.now) c.args.trees.now c.args.uses (faces_in c.args.env.now) o) (sym c.outcome_of.ensures)
    (read_outcome g.R.Rules.rule c.in_ok-subject.field-0.subject c.in_ok-judged.judged c.flags_of-flags.result c.args.path.now (texts_of c.args.sources.now) c.args.trees.now c.args.uses (faces_in c.args.env.now)
    c.in_ok-subject.ensures.of c.in_ok-judged.ensures c.flags_of-flags.ensures)

pub returns-clause-types : goal.returns-clause-types
returns-clause-types g c =
    subst (λ (terms : List Term). HasTypes terms c.outcome_of.result) (ap (λ (e : Environment). e.types.now) c.in_ok-subject.ensures.env ∙ c.requires.types)
    (subst (λ (o : Outcome). HasTypes c.in_ok-subject.field-0.subject.env.now.types.now o) (sym c.outcome_of.ensures)
    (read_types g.R.Rules.rule c.in_ok-subject.field-0.subject c.in_ok-judged.judged c.flags_of-flags.result c.args.uses c.in_ok-judged.ensures))
