use Rattle.std.proofs.Common.{ℕ, List, length, sym, ◌∙◌, subst, ap}
use Rattle.face_table.specs.Fitting.{given}
use Rattle.package_faces.specs.Faces.{Face}
use Rattle.package_faces.specs.Interfaces.{faces_of, AreInterfacesIn}
use Rattle.type_model.specs.declared.term.Term.{Term}
use Rattle.type_model.specs.GoTypes.{types_of}
use Rattle.type_model.specs.Tables.{terms_in}
use Rattle.unit_read.specs.Environments.{faces_in}
use Rattle.unit_read.specs.Index.{texts_of}
use Rattle.unit_read.specs.Texts.{AreTexts}
use Rattle.body_facts.specs.Bodies.{AreBodies}
use Rattle.check_pkg.specs.Checks.{IsOutcomeBy}
use Rattle.check_pkg.proofs.BodyLemmas.{spelled_bodies}
use Rattle.check_pkg.proofs.PackageLemmas.{faces_are}
use Rattle.check_pkg.proofs.judging.judge_files.Goals as goal

pub new-requires : goal.new-requires
new-requires g c = subst (λ (terms : List Term). AreInterfacesIn (length terms) (types_of terms) c.args.env.now) (sym c.terms.ensures) c.requires.within

pub judge_read-requires-clause-bodies : goal.judge_read-requires-clause-bodies
judge_read-requires-clause-bodies g c =
    subst (λ (texts : List (List ℕ)). AreBodies texts c.args.trees.now) (sym (ap texts_of c.deref.ensures.value ∙ c.in_ok-sources.ensures))
    (spelled_bodies c.args.trees.now c.args.files.now c.requires.spelled c.requires.small c.requires.few)

pub judge_read-requires-clause-texts : goal.judge_read-requires-clause-texts
judge_read-requires-clause-texts g c =
    subst (λ (texts : List (List ℕ)). AreTexts c.args.path.now texts c.args.trees.now) (sym (ap texts_of c.deref.ensures.value ∙ c.in_ok-sources.ensures)) c.requires.texts

pub judge_read-requires-clause-types : goal.judge_read-requires-clause-types
judge_read-requires-clause-types g c = c.in_ok-environment.ensures.types ∙ c.terms.ensures

pub judge_read-requires-clause-base : goal.judge_read-requires-clause-base
judge_read-requires-clause-base g c = λ name.
    c.requires.base name
    ∙ ap (λ (faces : List Face). given c.args.path.now faces name)
    (sym (faces_are c.in_ok-environment.environment c.args.env.now (terms_in c.args.table) c.in_ok-environment.ensures.of (c.in_ok-environment.ensures.types ∙ c.terms.ensures)))

pub returns-clause-is : goal.returns-clause-is
returns-clause-is g c =
    let rule = g.R.Rules.rule in
    subst (λ (texts : List (List ℕ)). IsOutcomeBy rule c.args.path.now texts c.args.trees.now c.args.uses (faces_of (types_of (terms_in c.args.table)) c.args.env.now) c.in_ok-outcome.outcome) (ap texts_of c.deref.ensures.value ∙ c.in_ok-sources.ensures)
    (subst (λ (faces : List Face). IsOutcomeBy rule c.args.path.now (texts_of c.deref.result.now) c.args.trees.now c.args.uses faces c.in_ok-outcome.outcome)
    (faces_are c.in_ok-environment.environment c.args.env.now (terms_in c.args.table) c.in_ok-environment.ensures.of (c.in_ok-environment.ensures.types ∙ c.terms.ensures)) c.in_ok-outcome.ensures.is)
