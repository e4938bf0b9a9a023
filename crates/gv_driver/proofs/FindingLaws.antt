-- What the analyzers found, as a table shows it.
use Rattle.std.proofs.Common.{◌≡◌, ℕ, ◌<◌, ◌≤◌, ◌+◌, inl, inr, Bool, true, false, Option, Some, None, List, [], ◌∷◌, ◌++◌, length, slice_get, get_or, map, take, All, zero, suc, refl, sym, ap, ◌∙◌, subst, arith, append_assoc}
use Rattle.std.specs.List.{Contains}
use Rattle.std.proofs.lemmas.Option.{same_Some, slice_get_within}
use Rattle.std.proofs.lemmas.List.{length-append, take_more}
use Rattle.analysis_core.specs.declared.diagnostic.Diagnostic.{Diagnostic}
use Rattle.analysis_core.specs.Findings.{AreFindings}
use Rattle.package_faces.specs.Faces.{Face}
use Rattle.action_graph.specs.declared.kit.LoadInput.{LoadInput}
use Rattle.action_graph.specs.Nodes.{Named}
use Rattle.action_graph.specs.Analyzing.{Analyzes, IsRunOutcome}
use Rattle.action_graph.specs.Judging.{Judged, Env}
use Rattle.action_graph.specs.Judging.Judged.{Accepts, Refuses}
use Rattle.action_graph.specs.Outcomes.{outcome_text}
use Rattle.action_graph.specs.Standing.{AllFound, IsFoundBy, IsFoundIn}
use Rattle.action_graph.specs.Work.{IsAnalyzer}
use Rattle.action_graph.proofs.JudgingLaws.{tells_accepted, tells_refused}
use Rattle.action_graph.proofs.RunLaws.{findings-there}
use Rattle.gv_driver.specs.declared.tree.PackageTexts.{PackageTexts}
use Rattle.gv_driver.specs.declared.node.Answer.{Answer}
use Rattle.gv_driver.specs.declared.node.Answer.TheVariants as answer
use Rattle.gv_driver.specs.declared.node.Node.{Node}
use Rattle.gv_driver.specs.declared.node.RunNode.{RunNode}
use Rattle.gv_driver.specs.declared.reply.Verdict.{Verdict}
use Rattle.gv_driver.specs.declared.reply.Verdict.TheVariants as verdict
use Rattle.gv_driver.specs.Analyzers.{AreAnalyzers, analyzers_of}
use Rattle.gv_driver.specs.Facts.{IsGiven}
use Rattle.gv_driver.specs.Loads.{IsLoadOf, run_over}
use Rattle.gv_driver.specs.Reports.{AllFoundShown, AreFoundOf, AreFoundShown, AreShown, HasFound, IsAnswerShown, IsFoundOf, IsFoundShown, IsRunReport, IsShown}
use Rattle.gv_driver.specs.Standing.{AreFoundIn}
use Rattle.gv_driver.specs.Tables.{AreRight, IsReady, IsRightNode, chosen_if, is_good, number_in, numbers_in, runs_of_node}
use Rattle.gv_driver.specs.Whole.{Checked, HasEnv}
use Rattle.gv_driver.proofs.AnalyzerLaws.{are-analyzers}
use Rattle.gv_driver.proofs.Places.{element, get-push_cases}
use Rattle.gv_driver.proofs.WholeLaws.{env-of, one-row, same_pack}

-- ---- over any cache

all-append : (P : Diagnostic → Type 0) (xs ys : List Diagnostic) → All P xs → All P ys → All P (xs ++ ys)
all-append P [] ys a b k d l = b k d l
all-append P (x ∷ xs) ys a b zero d l = a zero d (omega arith)
all-append P (x ∷ xs) ys a b (suc k) d l =
    all-append P xs ys (λ j e m. a (suc j) e (let f : length (x ∷ xs) ≡ suc (length xs) = refl in omega (arith, m, f))) b k d
    (let f : length (x ∷ (xs ++ ys)) ≡ suc (length (xs ++ ys)) = refl in omega (arith, l, f))

shown-stand : (files : List Named) (runs : List RunNode) (ds : List Diagnostic) → AreFoundShown files runs ds → All (IsFoundIn files) ds
shown-stand files [] ds e = subst (λ (l : List Diagnostic). All (IsFoundIn files) l) (sym e) (λ k d l. absurd (omega (arith, l)))
shown-stand files (r ∷ runs) ds (mine, rest, one, more, e) =
    subst (λ (l : List Diagnostic). All (IsFoundIn files) l) (sym e)
    (all-append (IsFoundIn files) mine rest (λ k d l. (one.stand k d l).1) (shown-stand files runs rest more))

-- what a table shows stands in the files of the packages, whatever the cache held
pub found-stands : (tree : List PackageTexts) (table : List (Option Node)) (found : List (List Diagnostic)) → length table ≡ length tree → AllFoundShown tree table found (length tree) → AreFoundIn tree found
found-stands tree table found long shown = record {
  size = shown.size;
  stand = λ p pack ds at h.
      let l : p < length tree = slice_get_within tree p pack at in
      let node = element table p (omega (arith, l, long)) in
      shown-stand pack.files (runs_of_node node.0) ds (shown.each p pack node.0 ds at node.1 h);
}

pub found-none : (tree : List PackageTexts) (table : List (Option Node)) → AllFoundShown tree table [] 0
found-none tree table = record { size = refl; each = λ p pack node ds a b h. cc }

pub found-adds : (tree : List PackageTexts) (table : List (Option Node)) (list : List (List Diagnostic)) (p : ℕ) (pack : PackageTexts) (node : Option Node) (ds : List Diagnostic) → slice_get tree p ≡ Some pack
    → slice_get table p ≡ Some node → AreFoundShown pack.files (runs_of_node node) ds → AllFoundShown tree table list p → AllFoundShown tree table (list ++ ds ∷ []) (p + 1)
found-adds tree table list p pack node ds at node_at shown is = record {
  size = length-append list (ds ∷ []) ∙ ap (λ n. n + 1) is.size;
  each = λ q other o w a b h. elim (get-push_cases list ds w q h) [
    | inl was ↦ is.each q other o w a b was
    | inr new ↦
        let same : q ≡ p = new.0 ∙ is.size in
        let e : pack ≡ other = same_Some pack other (sym at ∙ (ap (λ k. slice_get tree k) (sym same) ∙ a)) in
        let f : node ≡ o = same_Some node o (sym node_at ∙ (ap (λ k. slice_get table k) (sym same) ∙ b)) in
        subst (λ (x : List Diagnostic). AreFoundShown other.files (runs_of_node o) x) new.1
        (subst (λ (x : Option Node). AreFoundShown other.files (runs_of_node x) ds) f (subst (λ (x : PackageTexts). AreFoundShown x.files (runs_of_node node) ds) e shown))
  ];
}

-- ---- runs in turn

pub shown-push : (files : List Named) (runs : List RunNode) (r : RunNode) (ds more : List Diagnostic) → AreFoundShown files runs ds → IsFoundShown files r.analyzer r.outcome more → AreFoundShown files (runs ++ r ∷ []) (ds ++ more)
shown-push files [] r ds more e one = (more, [], one, refl, ap (λ (l : List Diagnostic). l ++ more) e ∙ sym (nil more))
  where
    nil : (xs : List Diagnostic) → xs ++ [] ≡ xs
    nil [] = refl
    nil (x ∷ xs) = ap (λ l. x ∷ l) (nil xs)
shown-push files (x ∷ runs) r ds more (mine, rest, first, others, e) one =
    (mine, rest ++ more, first, shown-push files runs r rest more others one, ap (λ (l : List Diagnostic). l ++ more) e ∙ append_assoc mine rest more)

pub shown-next : (files : List Named) (runs : List RunNode) (i : ℕ) (r : RunNode) (ds more now : List Diagnostic) → i < length runs → r ≡ get_or runs i r → AreFoundShown files (take i runs) ds
    → IsFoundShown files r.analyzer r.outcome more → now ≡ ds ++ more → AreFoundShown files (take (i + 1) runs) now
shown-next files runs i r ds more now l is before one e =
    subst (λ (rs : List RunNode). AreFoundShown files rs now) (sym (take_more runs i r l ∙ ap (λ (x : RunNode). take i runs ++ x ∷ []) (sym is)))
    (subst (λ (x : List Diagnostic). AreFoundShown files (take i runs ++ r ∷ []) x) (sym e) (shown-push files (take i runs) r ds more before one))

-- ---- over an honest cache

-- what analyzers find of a package stands in its files
abbrev pub AllFoundStand : Type 0
AllFoundStand = (a : ℕ) (path : List ℕ) (files : List Named) (env : Env) (given : List Named) (findings facts : List ℕ) (ds : List Diagnostic) → IsAnalyzer a → Analyzes a path files env given findings facts → AreFindings ds findings → AllFound files a ds

module _ (tree : List PackageTexts) (only p : ℕ) (pack : PackageTexts) (given : ℕ → List Named) (load : LoadInput) (of : IsLoadOf tree p load) (at : slice_get tree p ≡ Some pack) where
  files-are : load.files ≡ pack.files
  files-are = of.files ∙ ap (λ (x : PackageTexts). x.files) (same_pack tree p of.pack pack of.at at)

  path-is : load.path ≡ pack.path
  path-is = of.path ∙ ap (λ (x : PackageTexts). x.path) (same_pack tree p of.pack pack of.at at)

  analyzed : (a : ℕ) (text : List ℕ) (out : IsRunOutcome (run_over given a load) text) → Analyzes a pack.path pack.files out.env (given a) out.findings out.facts
  analyzed a text out =
      subst (λ (x : List ℕ). Analyzes a x pack.files out.env (given a) out.findings out.facts) path-is
      (subst (λ (x : List Named). Analyzes a load.path x out.env (given a) out.findings out.facts) files-are out.analyzes)

  -- some diagnostics are found
  pub found-there : (a : ℕ) (text : List ℕ) → IsGiven tree a of.numbers (given a) → IsRunOutcome (run_over given a load) text → (ds : List Diagnostic) × IsFoundOf tree p a pack ds
  found-there a text gives out =
      let ds = findings-there a pack.path pack.files out.env (given a) out.findings out.facts (analyzed a text out) in
      let faces : HasEnv tree p out.env = env-of tree p load out.env of out.faces in
      let row : of.numbers ≡ faces.0 = one-row tree p of.numbers faces.0 of.faces out.env of.are faces.1 in (
        ds.0,
        record {
          env = out.env;
          faces = faces;
          given = given a;
          are_given = subst (λ (l : List ℕ). IsGiven tree a l (given a)) row gives;
          findings = out.findings;
          facts = out.facts;
          analyzes = analyzed a text out;
          spelled = ds.1;
        },
      )

  one-found : AllFoundStand → (a : ℕ) (text : List ℕ) (mine : List Diagnostic) → IsAnalyzer a → IsGiven tree a of.numbers (given a) → (out : IsRunOutcome (run_over given a load) text) → IsFoundShown pack.files a text mine
      → IsFoundOf tree p a pack mine
  unfolding found-there
  one-found law a text mine number gives out shown =
      let there = found-there a text gives out in
      let stand = law a pack.path pack.files out.env (given a) out.findings out.facts there.0 number (analyzed a text out) there.1.spelled in
      let same : mine ≡ there.0 = shown.told out.findings out.facts there.0 out.tells there.1.spelled stand in
      subst (IsFoundOf tree p a pack) (sym same) there.1

  all-found : AllFoundStand → (runs : List RunNode) (ds : List Diagnostic) → ((k : ℕ) (r : RunNode) → slice_get runs k ≡ Some r → IsAnalyzer r.analyzer)
      → ((k : ℕ) (r : RunNode) → slice_get runs k ≡ Some r → IsGiven tree r.analyzer of.numbers (given r.analyzer))
      → ((k : ℕ) (r : RunNode) → slice_get runs k ≡ Some r → IsRunOutcome (run_over given r.analyzer load) r.outcome) → AreFoundShown pack.files runs ds → AreFoundOf tree p pack (numbers_in runs) ds
  all-found law [] ds numbers gives outcomes e = e
  all-found law (r ∷ runs) ds numbers gives outcomes (mine, rest, one, more, e) =
      (mine, rest, one-found law r.analyzer r.outcome mine (numbers 0 r refl) (gives 0 r refl) (outcomes 0 r refl) one, all-found law runs rest (λ k. numbers (suc k)) (λ k. gives (suc k)) (λ k. outcomes (suc k)) more, e)

shown-nothing : (files : List Named) (runs : List RunNode) (ds : List Diagnostic) → runs ≡ [] → AreFoundShown files runs ds → ds ≡ []
shown-nothing files [] ds none e = e
shown-nothing files (r ∷ runs) ds none e = cc

number-at : (runs : List RunNode) (ns : List ℕ) → AreAnalyzers ns → numbers_in runs ≡ ns → (k : ℕ) (r : RunNode) → slice_get runs k ≡ Some r → IsAnalyzer r.analyzer
number-at [] ns are e zero r h = cc
number-at [] ns are e (suc k) r h = cc
number-at (x ∷ runs) ns are e k r h = are k r.analyzer (subst (λ (l : List ℕ). slice_get l k ≡ Some r.analyzer) e (mapped (x ∷ runs) k r h))
  where
    mapped : (xs : List RunNode) (j : ℕ) (y : RunNode) → slice_get xs j ≡ Some y → slice_get (numbers_in xs) j ≡ Some y.analyzer
    mapped [] zero y g = cc
    mapped [] (suc j) y g = cc
    mapped (z ∷ xs) zero y g = ap (λ (w : RunNode). Some w.analyzer) (same_Some z y g)
    mapped (z ∷ xs) (suc j) y g = mapped xs j y g

no-runs : (runs : List RunNode) → numbers_in runs ≡ [] → runs ≡ []
no-runs [] e = refl
no-runs (r ∷ runs) e = cc

node-found : AllFoundStand → (tree : List PackageTexts) (only p : ℕ) (pack : PackageTexts) (n : Node) (a : Answer) (v : Verdict) (ds : List Diagnostic) → slice_get tree p ≡ Some pack → IsRightNode tree only p n → n.answer ≡ a → IsAnswerShown pack.files a v
    → AreFoundShown pack.files n.runs ds → HasFound tree only p v ds
node-found law tree only p pack n (answer.Accepted export) v ds at r is shown found =
    let numbers : numbers_in n.runs ≡ analyzers_of only r.of.pack.stub = r.numbers ∙ ap (λ (x : Answer). chosen_if (is_good x) (analyzers_of only r.of.pack.stub)) is in
    let same : r.of.pack ≡ pack = same_pack tree p r.of.pack pack r.of.at at in
    let mine : numbers_in n.runs ≡ analyzers_of only pack.stub = numbers ∙ ap (λ (x : PackageTexts). analyzers_of only x.stub) same in
    let all = all-found tree only p pack r.given r.load r.of at law n.runs ds (number-at n.runs (analyzers_of only pack.stub) (are-analyzers only pack.stub) mine) r.are_given r.runs found in
    subst (λ (x : Verdict). HasFound tree only p x ds) (sym shown) (pack, at, subst (λ (ns : List ℕ). AreFoundOf tree p pack ns ds) mine all)
node-found law tree only p pack n (answer.Refused text) v ds at r is shown found =
    let numbers : numbers_in n.runs ≡ [] = r.numbers ∙ ap (λ (x : Answer). chosen_if (is_good x) (analyzers_of only r.of.pack.stub)) is in
    let none : ds ≡ [] = shown-nothing pack.files n.runs ds (no-runs n.runs numbers) found in
    subst (λ (x : Verdict). HasFound tree only p x ds) (sym shown.1) none

row-found : AllFoundStand → (tree : List PackageTexts) (only p : ℕ) (table : List (Option Node)) (pack : PackageTexts) (b : Bool) (o : Option Node) (v : Verdict) (ds : List Diagnostic) → AreRight tree only table → slice_get tree p ≡ Some pack
    → slice_get table p ≡ Some o → pack.sound ≡ b → IsShown pack.files b o v → AreFoundShown pack.files (runs_of_node o) ds → HasFound tree only p v ds
row-found law tree only p table pack false None v ds right at here sound shown found = subst (λ (x : Verdict). HasFound tree only p x ds) (sym shown) found
row-found law tree only p table pack false (Some n) v ds right at here sound shown found =
    let r = right.node p n here in
    let same : r.of.pack ≡ pack = same_pack tree p r.of.pack pack r.of.at at in
    let yes_it : pack.sound ≡ true = ap (λ (x : PackageTexts). x.sound) (sym same) ∙ r.of.sound in
    let wrong : true ≡ false = sym yes_it ∙ sound in cc
row-found law tree only p table pack true None v ds right at here sound shown found = subst (λ (x : Verdict). HasFound tree only p x ds) (sym shown) found
row-found law tree only p table pack true (Some n) v ds right at here sound shown found = node-found law tree only p pack n n.answer v ds at (right.node p n here) refl shown found

pub found-right : AllFoundStand → (tree : List PackageTexts) (only : ℕ) (table : List (Option Node)) (verdicts : List Verdict) (found : List (List Diagnostic)) → AreRight tree only table → ((p : ℕ) → IsReady tree table p → ⊥)
    → AreShown tree table verdicts (length tree) → AllFoundShown tree table found (length tree) → IsRunReport tree only verdicts found
found-right law tree only table verdicts found right none shown all = record {
  size = all.size;
  each = λ p v ds h g.
      let l : p < length found = slice_get_within found p ds g in
      let s : length found ≡ length tree = all.size in
      let t : length table ≡ length tree = right.size in
      let pack = element tree p (omega (arith, l, s)) in
      let node = element table p (omega (arith, l, s, t)) in
      row-found law tree only p table pack.0 pack.0.sound node.0 v ds right pack.1 node.1 refl (shown.each p pack.0 node.0 v pack.1 node.1 h) (all.each p pack.0 node.0 ds pack.1 node.1 g);
}
