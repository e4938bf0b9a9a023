-- What an analyzer reads of a package that was loaded, and what comes of its run.
use Rattle.std.proofs.Common.{◌≡◌, ℕ, zero, suc, ◌+◌, ◌<◌, ◌≤◌, ◌^◌, inl, inr, Some, List, [], ◌∷◌, ◌++◌, length, map, slice_get, slice_index_or, refl, sym, ap, ◌∙◌, subst, arith}
use Rattle.std.proofs.Math.Path.{fun_ext}
use Rattle.std.proofs.lemmas.List.{length_push}
use Rattle.std.proofs.lemmas.Option.{same_Some, slice_get-get_or, slice_get_within}
use Rattle.gv_base.proofs.Lists.{push_cases}
use Rattle.action_graph.specs.Stages.{rule}
use Rattle.go_tree.specs.Bindings.{AreInOrder}
use Rattle.go_tree.specs.declared.tree.FileTree.{FileTree}
use Rattle.package_faces.specs.Faces.{Face}
use Rattle.type_model.specs.Tables.{Extends, terms_in}
use Rattle.type_model.specs.declared.term.Term.{Term}
use Rattle.type_model.proofs.TypeLaws.{extends-itself}
use Rattle.typed_marks.specs.declared.item.Item.{Item}
use Rattle.typed_marks.specs.Meanings.{Meaning}
use Rattle.bind.specs.Answers.{AreSmall}
use Rattle.unit_read.specs.declared.subject.Subject.{Subject}
use Rattle.unit_read.specs.Subjects.{full_of, IsRead}
use Rattle.unit_read.specs.Units.{Unit}
use Rattle.rule_words.specs.Scenes.{IsScene}
use Rattle.check_pkg.specs.declared.typing.Typed.{Typed}
use Rattle.check_pkg.specs.Packages.{IsUnit, Package, known_of, package_of}
use Rattle.check_pkg.specs.Refusals.{IsOneAnnotation}
use Rattle.check_pkg.specs.Typings.{IsTyped, marks_of, unit_by}
use Rattle.check_pkg.proofs.OneUnit.{the_unit}
use Rattle.check_pkg.proofs.TypedLaws.{typed_scene, typed_unit}
use Rattle.handed_facts.specs.Handed.{ArePathsApart}
use Rattle.action_graph.specs.Free.{path_of, AreGiven}
use Rattle.action_graph.specs.Suite.{FactsBy, FoundBy}
use Rattle.action_graph.specs.declared.kit.LoadInput.{LoadInput}
use Rattle.action_graph.specs.declared.kit.RunOf.{RunOf}
use Rattle.action_graph.specs.declared.kit.RunOutcome.{RunOutcome}
use Rattle.action_graph.specs.Analyzing.{Analyzes, AreRunOutcomes, run_of, IsRunOutcome}
use Rattle.action_graph.specs.Judging.{Env, text_of}
use Rattle.action_graph.specs.Nodes.{Named}
use Rattle.action_graph.specs.Outcomes.{run_text}
use Rattle.action_graph.proofs.JudgingLaws.{faces_once}
use Rattle.action_graph.proofs.OneFinding.{one-package}
use Rattle.go_kit.specs.declared.loaded.Loaded.{Loaded}
use Rattle.go_kit.specs.Loading.{AreOutcomesIn, IsAcceptedOf, IsLoadOf, IsOutcomeIn, faces_over, unit_loaded}
use Rattle.go_kit.specs.Reading.{AreFilesOf}
use Rattle.go_kit.proofs.LoadLemmas.{few-trees, files-small, files-spelled, package-is}

-- texts that are short enough to be counted are short enough for their lines
short-at : (texts : List (List ℕ)) (trees : List FileTree) → AreFilesOf texts trees → (f : ℕ) → length (slice_index_or texts f []) ≤ 2 ^ 31
short-at [] trees h f = omega arith
short-at (x ∷ xs) [] h f = absurd h
short-at (x ∷ xs) (t ∷ ts) h zero = let low : length x ≤ 2 ^ 24 = h.0.short in omega (arith, low)
short-at (x ∷ xs) (t ∷ ts) h (suc f) = short-at xs ts h.1 f

unit-as : (path path2 : List ℕ) (texts texts2 : List (List ℕ)) (trees trees2 : List FileTree) (env env2 : List Face) (l : Loaded) → path ≡ path2 → texts ≡ texts2 → trees ≡ trees2 → env ≡ env2
    → unit_by path texts trees env l.typed ≡ unit_by path2 texts2 trees2 env2 l.typed
unit-as path path2 texts texts2 trees trees2 env env2 l a b c d =
    ap (λ (x : List ℕ). unit_by x texts trees env l.typed) a
    ∙ (ap (λ (x : List (List ℕ)). unit_by path2 x trees env l.typed) b
    ∙ (ap (λ (x : List FileTree). unit_by path2 texts2 x env l.typed) c
    ∙ ap (λ (x : List Face). unit_by path2 texts2 trees2 x l.typed) d))

module _ (l : Loaded) (input : LoadInput) (of : IsLoadOf l input) where
  abbrev pub accepted : IsAcceptedOf (package_of input.path input.files l.trees.items) (faces_over l) l.typed
  accepted = of.typed.accepted

  -- the unit by which it was checked
  abbrev pub own-unit : Unit
  own-unit = accepted.comes.unit

  pub typed : IsTyped rule own-unit l.typed
  typed = subst (λ (t : Typed). IsTyped rule own-unit t) accepted.typed accepted.comes.comes.typed

  -- is the one that is read again
  pub unit-is : unit_loaded l input ≡ own-unit
  unit-is =
      let here = accepted.comes.is in
      unit-as input.path own-unit.path (map text_of input.files) own-unit.texts l.trees.items own-unit.trees (faces_over l) own-unit.env l (sym here.path) (sym here.texts) (sym here.trees) (sym here.env)
      ∙ typed_unit rule own-unit l.typed typed

  -- a package that is read over what is the same is that one
  pub read-as : (u : Unit) (path : List ℕ) (texts : List (List ℕ)) (trees : List FileTree) (env : List Face) → u ≡ unit_by path texts trees env l.typed → path ≡ input.path → texts ≡ map text_of input.files
      → trees ≡ l.trees.items → env ≡ faces_over l → u ≡ unit_loaded l input
  read-as u path texts trees env made its here all seen = made ∙ unit-as path input.path texts (map text_of input.files) trees l.trees.items env (faces_over l) l its here all seen

  pub ordered-uses : AreInOrder l.typed.uses
  ordered-uses = subst AreInOrder (sym typed.uses) accepted.comes.is.uses.ordered

  pub small-trees : AreSmall l.trees.items
  small-trees = files-small input.files l.trees.items of.files

  pub few-files : length l.trees.items < 2 ^ 32
  few-files = few-trees input.files l.trees.items of.files of.few

  pub scene-of : (s : Subject) → IsRead s → full_of s ≡ unit_loaded l input → s.env.now.types.now ≡ terms_in l.typed.state.table → IsScene s l.typed.state
  scene-of s read same types =
      typed_scene rule own-unit l.typed typed s read (same ∙ unit-is) (subst (λ (terms : List Term). Extends terms (terms_in l.typed.state.table)) (sym types) (extends-itself (terms_in l.typed.state.table)))

  -- what is handed on beside the package
  pub given-of : (u : Unit) (files named given : List Named) → u ≡ unit_loaded l input → files ≡ input.files → named ≡ known_of (faces_over l) → ArePathsApart given → AreGiven u files named given
  given-of u files named given same here known once = subst (λ (v : Unit). AreGiven v files named given) (sym same) (record {
    texts = ap (map text_of) (sym here);
    spelled = files-spelled files input.files l.trees.items here of.files;
    named_is = known;
    few = few-files;
    short = short-at (map text_of input.files) l.trees.items of.files;
    apart = once;
  })

  -- what comes of a run
  pub run-outcome : (r : RunOf) (o : RunOutcome) → IsOutcomeIn r (unit_loaded l input) (marks_of l.typed) (map path_of input.files) o → IsRunOutcome (run_of input r) (run_text o)
  unfolding Analyzes
  run-outcome r o x = record {
    env = faces_over l;
    findings = o.findings;
    facts = o.facts;
    faces = of.typed.faces;
    analyzes = (
      package_of input.path input.files l.trees.items,
      (
        package-is input.path input.files l.trees.items of.files,
        record {
          checked = accepted.checked;
          comes = accepted.comes;
          none = accepted.none;
          marks = marks_of l.typed;
          annotated = typed.annotated;
          found = x.findings.0;
          right = subst (λ (u : Unit). FoundBy r.analyzer u (marks_of l.typed) (map path_of input.files) r.facts x.findings.0) unit-is x.findings.1;
          spelled = x.findings.2;
          facts_are = subst (λ (u : Unit). FactsBy r.analyzer u (marks_of l.typed) r.facts o.facts) unit-is x.facts;
        },
      ),
    );
    tells = refl;
  }

  pub run-outcomes : (asked : List RunOf) (outcomes : List RunOutcome) → AreOutcomesIn (unit_loaded l input) (marks_of l.typed) (map path_of input.files) asked outcomes → AreRunOutcomes input asked outcomes
  run-outcomes asked outcomes each k r o at there lawful = run-outcome r o (each k r o at there)

-- ---- runs in turn

-- what comes of the first few
pub record AreFirst (u : Unit) (marks : Item → Meaning) (paths : List (List ℕ)) (asked : List RunOf) (n : ℕ) (outcomes : List RunOutcome) : Type 0 where
  pub size : length outcomes ≡ n
  pub each : AreOutcomesIn u marks paths asked outcomes

module _ (u : Unit) (marks : Item → Meaning) (paths : List (List ℕ)) (asked : List RunOf) where
  nothing-at : (outcomes : List RunOutcome) (k : ℕ) (o : RunOutcome) → outcomes ≡ [] → slice_get outcomes k ≡ Some o → ⊥
  nothing-at outcomes k o none there = let low : k < 0 = slice_get_within [] k o (ap (λ (l : List RunOutcome). slice_get l k) (sym none) ∙ there) in omega (arith, low)

  pub outcomes-none : (outcomes : List RunOutcome) → outcomes ≡ [] → AreFirst u marks paths asked 0 outcomes
  outcomes-none outcomes none = record { size = ap (λ (l : List RunOutcome). length l) none; each = λ k r o at there. absurd (nothing-at outcomes k o none there) }

  pub outcomes-more : (n : ℕ) (r : RunOf) (outcomes new : List RunOutcome) (o : RunOutcome) → r ≡ slice_index_or asked n r → n < length asked → AreFirst u marks paths asked n outcomes → IsOutcomeIn r u marks paths o
      → new ≡ outcomes ++ o ∷ [] → AreFirst u marks paths asked (n + 1) new
  outcomes-more n r outcomes new o item low first here pushed = subst (λ (l : List RunOutcome). AreFirst u marks paths asked (n + 1) l) (sym pushed) (record {
    size = length_push outcomes o ∙ ap (λ (m : ℕ). m + 1) first.size;
    each = λ k x y at there. elim (push_cases outcomes o y k there) [
      | inl before ↦ first.each k x y at before
      | inr last ↦
          let place : k ≡ n = last.0 ∙ first.size in
          let mine : slice_get asked n ≡ Some r = slice_get-get_or asked n r low ∙ ap Some (sym item) in
          let asks : r ≡ x = same_Some r x (sym mine ∙ (ap (λ (m : ℕ). slice_get asked m) (sym place) ∙ at)) in
          subst (λ (z : RunOutcome). IsOutcomeIn x u marks paths z) last.1 (subst (λ (z : RunOf). IsOutcomeIn z u marks paths o) asks here)
    ];
  })

-- ---- however a package was loaded

module _ (l m : Loaded) (input : LoadInput) (of : IsLoadOf l input) (other : IsLoadOf m input) where
  abbrev pack : List FileTree → Package
  pack trees = package_of input.path input.files trees

  same-pack : pack l.trees.items ≡ pack m.trees.items
  same-pack =
      one-package input.path input.files (pack l.trees.items) (pack m.trees.items) (package-is input.path input.files l.trees.items of.files) (package-is input.path input.files m.trees.items other.files)

  same-faces : faces_over l ≡ faces_over m
  same-faces = faces_once input.env (faces_over l) (faces_over m) of.typed.faces other.typed.faces

  same-unit : own-unit l input of ≡ own-unit m input other
  same-unit =
      the_unit (pack m.trees.items) (faces_over m) (own-unit l input of) (own-unit m input other)
      (subst (λ (env : Env). IsUnit (pack m.trees.items) env (own-unit l input of)) same-faces
      (subst (λ (p : Package). IsUnit p (faces_over l) (own-unit l input of)) same-pack of.typed.accepted.comes.is))
      other.typed.accepted.comes.is
      (files-spelled input.files input.files m.trees.items refl other.files)

  pub same-read : unit_loaded l input ≡ unit_loaded m input
  same-read = unit-is l input of ∙ (same-unit ∙ sym (unit-is m input other))

  pub same-marks : marks_of l.typed ≡ marks_of m.typed
  same-marks =
      let here : IsOneAnnotation rule (own-unit m input other) (marks_of l.typed) = subst (λ (u : Unit). IsOneAnnotation rule u (marks_of l.typed)) same-unit (typed l input of).annotated in
      fun_ext ((typed m input other).annotated.alone (marks_of l.typed) here.is)
