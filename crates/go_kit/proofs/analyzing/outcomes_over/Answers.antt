use Rattle.std.proofs.Common.{◌≡◌, ℕ, ◌≤◌, ◌^◌, List, length, map, refl, sym, ap, ◌∙◌, subst, arith}
use Rattle.go_tree.specs.declared.tree.FileTree.{FileTree}
use Rattle.bind.specs.Answers.{AreSmall}
use Rattle.unit_read.specs.declared.environment.Environment.{Environment}
use Rattle.unit_read.specs.Environments.{faces_in}
use Rattle.unit_read.specs.Index.{texts_of}
use Rattle.unit_read.specs.Subjects.{full_of}
use Rattle.unit_read.specs.Texts.{AreTexts}
use Rattle.unit_read.specs.Units.{Unit}
use Rattle.check_pkg.specs.Typings.{marks_of}
use Rattle.action_graph.specs.Free.{path_of}
use Rattle.action_graph.specs.Nodes.{Named}
use Rattle.go_kit.specs.Loading.{AreOutcomesIn, unit_loaded}
use Rattle.unit_read.proofs.TextLemmas.{are_texts}
use Rattle.action_graph.specs.Judging.{text_of}
use Rattle.go_kit.proofs.NameTexts.{files_texts}
use Rattle.go_kit.proofs.RunLemmas.{few-files, given-of, ordered-uses, read-as, scene-of, small-trees}
use Rattle.go_kit.proofs.analyzing.outcomes_over.Goals as goal

pub subject-requires-clause-small : goal.subject-requires-clause-small
subject-requires-clause-small c = subst (λ (trees : List FileTree). AreSmall trees) (sym c.deref.ensures.value) (small-trees c.args.loaded.now c.args.load.now c.requires.of)

pub subject-requires-clause-few : goal.subject-requires-clause-few
subject-requires-clause-few c =
    let few = few-files c.args.loaded.now c.args.load.now c.requires.of in
    subst (λ (trees : List FileTree). length trees ≤ 2 ^ 32) (sym c.deref.ensures.value) (omega (arith, few))

pub subject-requires-clause-texts : goal.subject-requires-clause-texts
subject-requires-clause-texts c =
    let tokens = files_texts c.args.load.now.files c.args.load.now.files c.args.loaded.now.trees.items refl c.requires.of.files in
    subst (λ (texts : List (List ℕ)). AreTexts c.as_bytes-path.result.now texts c.deref.result.now) (sym c.requires.texts)
    (subst (λ (trees : List FileTree). AreTexts c.as_bytes-path.result.now (map text_of c.args.load.now.files) trees) (sym c.deref.ensures.value)
    (are_texts c.as_bytes-path.result.now (map text_of c.args.load.now.files) c.args.loaded.now.trees.items c.as_bytes-path.ensures.utf8 tokens))

pub subject-requires-clause-uses : goal.subject-requires-clause-uses
subject-requires-clause-uses c = ordered-uses c.args.loaded.now c.args.load.now c.requires.of

pub outcomes_in-requires-clause-pass : goal.outcomes_in-requires-clause-pass
outcomes_in-requires-clause-pass c =
    let l = c.args.loaded.now in
    let input = c.args.load.now in
    let same : full_of c.in_ok-subject.subject ≡ unit_loaded l input =
    read-as l input c.requires.of (full_of c.in_ok-subject.subject) c.as_bytes-path.result.now (texts_of c.args.texts.now) c.deref.result.now (faces_in c.args.env.now) c.in_ok-subject.ensures.of
    (c.as_bytes-path.ensures.value ∙ c.as_str.ensures) c.requires.texts c.deref.ensures.value c.requires.faces in
    let trees : c.in_ok-subject.subject.trees.now ≡ l.trees.items = ap (λ (u : Unit). u.trees) same in
    let few = few-files l input c.requires.of in
    record {
      scene = scene-of l input c.requires.of c.in_ok-subject.subject c.in_ok-subject.ensures.read same (ap (λ (e : Environment). e.types.now) c.in_ok-subject.ensures.env ∙ c.requires.types);
      small = subst (λ (ts : List FileTree). AreSmall ts) (sym trees) (small-trees l input c.requires.of);
      few = subst (λ (ts : List FileTree). length ts ≤ 2 ^ 32) (sym trees) (omega (arith, few));
    }

pub outcomes_in-requires-clause-given : goal.outcomes_in-requires-clause-given
outcomes_in-requires-clause-given c = λ k r at.
    let l = c.args.loaded.now in
    let input = c.args.load.now in
    let same : full_of c.in_ok-subject.subject ≡ unit_loaded l input =
    read-as l input c.requires.of (full_of c.in_ok-subject.subject) c.as_bytes-path.result.now (texts_of c.args.texts.now) c.deref.result.now (faces_in c.args.env.now) c.in_ok-subject.ensures.of
    (c.as_bytes-path.ensures.value ∙ c.as_str.ensures) c.requires.texts c.deref.ensures.value c.requires.faces in
    given-of l input c.requires.of (full_of c.in_ok-subject.subject) c.as_slice-files.result.now c.args.named.now r.facts same c.as_slice-files.ensures c.requires.named (c.requires.apart k r at)

pub returns-clause-each : goal.returns-clause-each
returns-clause-each c =
    let l = c.args.loaded.now in
    let input = c.args.load.now in
    let same : full_of c.in_ok-subject.subject ≡ unit_loaded l input =
    read-as l input c.requires.of (full_of c.in_ok-subject.subject) c.as_bytes-path.result.now (texts_of c.args.texts.now) c.deref.result.now (faces_in c.args.env.now) c.in_ok-subject.ensures.of
    (c.as_bytes-path.ensures.value ∙ c.as_str.ensures) c.requires.texts c.deref.ensures.value c.requires.faces in
    subst (λ (u : Unit). AreOutcomesIn u (marks_of l.typed) (map path_of input.files) c.args.asked.now c.in_ok-outcomes.outcomes.items) same
    (subst (λ (files : List Named). AreOutcomesIn (full_of c.in_ok-subject.subject) (marks_of l.typed) (map path_of files) c.args.asked.now c.in_ok-outcomes.outcomes.items) c.as_slice-files.ensures c.in_ok-outcomes.ensures.each)
