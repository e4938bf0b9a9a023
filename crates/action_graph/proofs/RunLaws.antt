-- What a run may know of the analyzers: there is one finding, texts have one outcome, and a run's texts tell its input.
use Rattle.std.proofs.Common.{◌≡◌, ℕ, ◌<◌, List, [], ◌∷◌, ◌++◌, Some, All, Contains, map, zero, suc, length, refl, sym, ap, ◌∙◌, subst, arith, append_assoc}
use Rattle.std.proofs.Math.Path.{fun_ext}
use Rattle.gv_bytes.specs.Spelling.{items}
use Rattle.bind.specs.Answers.{AreSpelled}
use Rattle.mark_walk.specs.Asks.{IsTheAnnotation}
use Rattle.typed_marks.specs.declared.item.Item.{Item}
use Rattle.typed_marks.specs.Meanings.{Meaning}
use Rattle.unit_read.specs.Units.{Unit}
use Rattle.elaborate.specs.Walks.{item_rule}
use Rattle.type_answers.specs.Answering.{says_of}
use Rattle.go_rules.specs.Stages.{rule}
use Rattle.check_pkg.specs.Packages.{Package}
use Rattle.check_pkg.proofs.OneUnit.{the_unit}
use Rattle.analysis_core.specs.declared.diagnostic.Diagnostic.{Diagnostic}
use Rattle.analysis_core.specs.Findings.{AreFindings, diagnostic_text}
use Rattle.analysis_core.proofs.FindingLemmas.{spelled_is_read}
use Rattle.std.proofs.lemmas.Option.{same_Some}
use Rattle.vet_suite.specs.Free.{path_of}
use Rattle.vet_suite.specs.Suite.{FactsBy, FoundBy}
use Rattle.vet_suite.proofs.OneLemmas.{one_by, one_facts}
use Rattle.vet_suite.specs.Standing.{NodesStand, Stands}
use Rattle.std.proofs.lemmas.List.Elements.{All-weaker}
use Rattle.action_graph.specs.Standing.{AllFound, IsFoundBy}
use Rattle.action_graph.specs.Work.{IsAnalyzer}
use Rattle.action_graph.specs.declared.kit.LoadInput.{LoadInput}
use Rattle.action_graph.specs.declared.kit.RunInput.{RunInput}
use Rattle.action_graph.specs.Nodes.{Named, AreNamed, pairs, load_texts, run_texts}
use Rattle.action_graph.specs.Judging.{Env, IsPackageOf}
use Rattle.action_graph.specs.Analyzing.{IsAnalyzed, Analyzes, IsRunOutcome, IsRunOutcomeOf, IsRunLawful}
use Rattle.action_graph.specs.Outcomes.{outcome_text}
use Rattle.action_graph.proofs.NodeLemmas.{same_named, one_pairs, same_load}
use Rattle.action_graph.proofs.OneFinding.{one-package, package-spelled}
use Rattle.action_graph.proofs.JudgingLaws.{faces_once}
use Rattle.action_graph.proofs.NodeStanding.{nodes-stand, stands-so}

module _ (a : ℕ) (p : Package) (env : Env) (given : List Named) (spelled : AreSpelled p.trees p.files) (x y f g : List ℕ) (one : IsAnalyzed a p env given x f) (other : IsAnalyzed a p env given y g) where
  unit-is : one.comes.unit ≡ other.comes.unit
  unit-is = the_unit p env one.comes.unit other.comes.unit one.comes.is other.comes.is spelled

  first : IsTheAnnotation (says_of other.comes.unit) (item_rule rule other.comes.unit) one.marks
  first = subst (λ (u : Unit). IsTheAnnotation (says_of u) (item_rule rule u) one.marks) unit-is one.annotated

  marks-are : one.marks ≡ other.marks
  marks-are = fun_ext (other.annotated.alone one.marks first.is)

  found-here : FoundBy a other.comes.unit other.marks (map path_of p.files) given one.found
  found-here =
      subst (λ (m : Item → Meaning). FoundBy a other.comes.unit m (map path_of p.files) given one.found) marks-are
      (subst (λ (u : Unit). FoundBy a u one.marks (map path_of p.files) given one.found) unit-is one.right)

  found-is : one.found ≡ other.found
  found-is = one_by other.comes.unit other.marks a (map path_of p.files) given one.found other.found found-here other.right

  facts-here : FactsBy a other.comes.unit other.marks given f
  facts-here =
      subst (λ (m : Item → Meaning). FactsBy a other.comes.unit m given f) marks-are
      (subst (λ (u : Unit). FactsBy a u one.marks given f) unit-is one.facts_are)

  analyzed_once : (x ≡ y) × (f ≡ g)
  analyzed_once = (
    one.spelled.whole ∙ (ap (λ (ds : List Diagnostic). items diagnostic_text ds) found-is ∙ sym other.spelled.whole),
    one_facts other.comes.unit other.marks a given f g facts-here other.facts_are,
  )

-- there is one finding
pub analyzes_once : (analyzer : ℕ) (path : List ℕ) (files : List Named) (env : Env) (given : List Named) (a b f g : List ℕ)
    → Analyzes analyzer path files env given a f → Analyzes analyzer path files env given b g → (a ≡ b) × (f ≡ g)
unfolding Analyzes
analyzes_once analyzer path files env given a b f g (p, (of, is)) (q, (of2, is2)) =
    analyzed_once analyzer q env given (package-spelled path files q of2) a b f g
    (subst (λ (x : Package). IsAnalyzed analyzer x env given a f) (one-package path files p q of of2) is) is2

pub run_outcome_once : (run : RunInput) (a b : List ℕ) → IsRunOutcome run a → IsRunOutcome run b → a ≡ b
run_outcome_once run a b h g =
    let env : h.env ≡ g.env = faces_once run.load.env h.env g.env h.faces g.faces in
    let same : (h.findings ≡ g.findings) × (h.facts ≡ g.facts) =
    analyzes_once run.analyzer run.load.path run.load.files g.env run.facts h.findings g.findings h.facts g.facts
    (subst (λ (e : Env). Analyzes run.analyzer run.load.path run.load.files e run.facts h.findings h.facts) env h.analyzes) g.analyzes in
    h.tells ∙ (ap (λ (x : List ℕ). outcome_text x h.facts) same.0 ∙ (ap (λ (x : List ℕ). outcome_text g.findings x) same.1 ∙ sym g.tells))

-- pairs up to an empty text, and what is behind it
parted : (fs gs : List Named) (more others : List (List ℕ)) → AreNamed fs → AreNamed gs → pairs fs ++ [] ∷ more ≡ pairs gs ++ [] ∷ others → (fs ≡ gs) × (more ≡ others)
parted [] [] more others nf ng h = let same : more ≡ others = cc in (refl, same)
parted [] (g ∷ gs) more others nf ng h = let e : g.0 ≡ [] = cc in absurd (ng.0 e)
parted (f ∷ fs) [] more others nf ng h = let e : f.0 ≡ [] = cc in absurd (nf.0 e)
parted (f ∷ fs) (g ∷ gs) more others nf ng h =
    let a : f.0 ≡ g.0 = cc in
    let b : f.1 ≡ g.1 = cc in
    let left : pairs fs ++ [] ∷ more ≡ pairs gs ++ [] ∷ others = cc in
    let rest = parted fs gs more others nf.1 ng.1 left in
    (ap (λ (p : Named). p ∷ fs) (same_named f g a b) ∙ ap (λ (l : List Named). g ∷ l) rest.0, rest.1)

pub same_run : (a b : RunInput) → a.load ≡ b.load → a.analyzer ≡ b.analyzer → a.facts ≡ b.facts → a ≡ b
same_run a b l n f =
    ap (λ (x : LoadInput). record { analyzer = a.analyzer; load = x; facts = a.facts }) l
    ∙ (ap (λ (x : ℕ). record { analyzer = x; load = b.load; facts = a.facts }) n
    ∙ ap (λ (x : List Named). record { analyzer = b.analyzer; load = b.load; facts = x }) f)

pub one_run : (a b : RunInput) → AreNamed a.load.files → AreNamed b.load.files → AreNamed a.load.env → AreNamed b.load.env → a.analyzer ≡ b.analyzer → run_texts a ≡ run_texts b → a ≡ b
one_run a b fa fb ea eb number h =
    let p : a.load.path ≡ b.load.path = cc in
    let more : pairs a.load.files ++ [] ∷ (pairs a.load.env ++ [] ∷ pairs a.facts) ≡ pairs b.load.files ++ [] ∷ (pairs b.load.env ++ [] ∷ pairs b.facts) = cc in
    let files = parted a.load.files b.load.files _ _ fa fb more in
    let env = parted a.load.env b.load.env _ _ ea eb files.1 in
    same_run a b (same_load a.load b.load p files.0 env.0) number (one_pairs a.facts b.facts env.1)

-- each package of a lawful environment has a path
named-from : (xs : List Named) → ((x : Named) → Contains xs x → x.0 ≡ [] → ⊥) → AreNamed xs
named-from [] h = tt
named-from (x ∷ xs) h = (h x (zero, omega arith, refl), named-from xs (λ y c. h y (suc c.0, (let l : c.0 < length xs = c.1 in omega (arith, l)), c.2)))

pub env_named : (run : RunInput) → IsRunLawful run → AreNamed run.load.env
env_named run lawful = named-from run.load.env (λ x c. (lawful.load.others x c).0)

pub run_outcome_of_once : (analyzer : ℕ) (texts : List (List ℕ)) (a b : List ℕ) → IsRunOutcomeOf analyzer texts a → IsRunOutcomeOf analyzer texts b → a ≡ b
run_outcome_of_once analyzer texts a b h g =
    let run : h.run ≡ g.run = one_run h.run g.run h.lawful.load.source.named g.lawful.load.source.named (env_named h.run h.lawful) (env_named g.run g.lawful) (h.of ∙ sym g.of) (sym h.is ∙ g.is) in
    run_outcome_once g.run a b (subst (λ (r : RunInput). IsRunOutcome r a) run h.outcome) g.outcome

again : (a b c : List (List ℕ)) → ((a ++ [] ∷ b) ++ [] ∷ []) ++ c ≡ a ++ [] ∷ (b ++ [] ∷ c)
again a b c = append_assoc (a ++ [] ∷ b) ([] ∷ []) c ∙ append_assoc a ([] ∷ b) ([] ∷ c)

-- the texts of a load, an empty text and the facts
pub run-texts : (load : LoadInput) (facts : List Named) → (load_texts load ++ [] ∷ []) ++ pairs facts ≡ run_texts (record { analyzer = 0; load = load; facts = facts })
run-texts load facts = ap (λ (l : List (List ℕ)). load.path ∷ l) (again (pairs load.files) (pairs load.env) (pairs facts))

-- ---- what was found

-- some diagnostics are spelled
pub findings-there : (a : ℕ) (path : List ℕ) (files : List Named) (env : Env) (given : List Named) (findings facts : List ℕ) → Analyzes a path files env given findings facts → (ds : List Diagnostic) × AreFindings ds findings
unfolding Analyzes
findings-there a path files env given findings facts (p, (of, is)) = (is.found, is.spelled)

-- what is found stands in the files: the law is that of the analyzers
pub found-stand : ((number : ℕ) (u : Unit) (marks : Item → Meaning) (paths : List (List ℕ)) (given : List Named) (found : List Diagnostic) → NodesStand u → FoundBy number u marks paths given found → All (Stands u number) found)
    → (a : ℕ) (path : List ℕ) (files : List Named) (env : Env) (given : List Named) (findings facts : List ℕ) (ds : List Diagnostic) → IsAnalyzer a → Analyzes a path files env given findings facts → AreFindings ds findings
    → AllFound files a ds
unfolding Analyzes
found-stand law a path files env given findings facts ds number (p, (of, is)) spelled =
    let same : is.found ≡ ds = same_Some is.found ds (sym (spelled_is_read findings is.found is.spelled) ∙ spelled_is_read findings ds spelled) in
    let u = is.comes.unit in
    let stand : All (Stands u a) is.found = law a u is.marks (map path_of p.files) given is.found (nodes-stand path files p env u of is.comes.is) is.right in
    subst (λ (l : List Diagnostic). AllFound files a l) same (All-weaker (Stands u a) (IsFoundBy files a) (stands-so path files p env u of is.comes.is a number) is.found stand)
