-- What is known of a load that was executed.
use Rattle.std.proofs.Common.{◌≡◌, ℕ, ◌<◌, inl, inr, true, false, Bool, Option, Some, None, List, map, if◌then◌else◌, refl, sym, ap, ◌∙◌, subst, arith}
use Rattle.std.proofs.lemmas.Option.{same_Some}
use Rattle.std.specs.Option.{option_map}
use Rattle.action_graph.specs.declared.kit.LoadInput.{LoadInput}
use Rattle.action_graph.specs.declared.kit.RunInput.{RunInput}
use Rattle.action_graph.specs.declared.kit.Load.{Load}
use Rattle.action_graph.specs.declared.kit.Load.TheVariants.{Accepted, Refused}
use Rattle.action_graph.specs.Analyzing.{IsRunLawful, IsRunOutcome, IsRunOutcomeOf}
use Rattle.action_graph.specs.Nodes.{load_texts, run_texts}
use Rattle.action_graph.specs.Judging.{IsLawful, IsOutcome, IsOutcomeOf, IfAccepted, accepted_text, load_text, refused_text}
use Rattle.action_graph.proofs.JudgingLaws.{outcome_once, tells_accepted, tells_refused}
use Rattle.action_graph.proofs.NodeLemmas.{one_load}
use Rattle.action_graph.proofs.RunLaws.{env_named, one_run}
use Rattle.fact_cache.specs.declared.texts.Input.{Input}
use Rattle.fact_cache.specs.declared.list.Entry.{Entry}
use Rattle.fact_cache.specs.Caches.{lookup}
use Rattle.gv_driver.specs.declared.node.Answer.{Answer}
use Rattle.gv_driver.specs.declared.node.Answer.TheVariants as answer
use Rattle.gv_driver.specs.declared.node.Begun.{Begun}
use Rattle.gv_driver.specs.declared.node.Loading.{Loading}
use Rattle.gv_driver.specs.Caches.{IsHonest, is_cached, is_found, left_of}
use Rattle.gv_driver.specs.Loads.{load_input, run_input}
use Rattle.gv_driver.specs.Making.{IsAccepting, IsLoading, IsOpened, IsRunFit, spent}
use Rattle.gv_driver.specs.Opening.{loaded_in}
use Rattle.gv_driver.specs.Tables.{answer_in, answer_text, begins_with_one, is_good}
use Rattle.gv_driver.proofs.CacheLaws.{honest-lookup}
use Rattle.gv_driver.proofs.TableLaws.{read-again}

other-texts : (load : LoadInput) (export marks : List ℕ) → IsOutcome load (accepted_text export) → IsOutcome load (refused_text marks) → ⊥
other-texts load export marks a r =
    let e : accepted_text export ≡ refused_text marks = outcome_once load (accepted_text export) (refused_text marks) a r in
    let f : true ≡ false = ap begins_with_one e in
    cc

module _ {L : Type 0} (is_of : L → LoadInput → Type 0) (keeps : L → Type 0) (input : LoadInput) where
  held-case : (load : Load L) (l : L) → loaded_in load ≡ Some l → IfAccepted load (λ x. is_of x input) → IfAccepted load keeps → is_of l input × keeps l
  held-case (Accepted x export) l e h k = subst (λ (y : L). is_of y input × keeps y) (same_Some x l e) (h, k)
  held-case (Refused marks) l e h k = cc

  there-case : (load : Load L) → IsOutcome input (load_text load) → IsAccepting input → (l : L) × (loaded_in load ≡ Some l)
  there-case (Accepted x export) out a = (x, refl)
  there-case (Refused marks) out a = absurd (other-texts input a.export marks a.outcome out)

  pub opened-loading : (load : Load L) (o : Loading L) → o.loaded ≡ loaded_in load → IfAccepted load (λ x. is_of x input) → IfAccepted load keeps → (IsLawful input → IsOutcome input (load_text load))
      → IsLoading is_of keeps input o
  opened-loading load o e h k right = record {
    held = λ l f. held-case load l (sym e ∙ f) h k;
    there = λ tried lawful accepting.
        let t = there-case load (right lawful) accepting in
        (t.0, e ∙ t.1);
  }

  -- the trees for the load were taken out
  pub taken-loading : (o p : Loading L) → p.loaded ≡ o.loaded → p.tried ≡ o.tried → IsLoading is_of keeps input o → IsLoading is_of keeps input p
  taken-loading o p e f is = record {
    held = λ l h. is.held l (sym e ∙ h);
    there = λ tried lawful accepting.
        let t = is.there (sym f ∙ tried) lawful accepting in
        (t.0, e ∙ t.1);
  }

  -- nothing was loaded
  pub none-loading : (o : Loading L) → o.loaded ≡ None → o.tried ≡ false → IsLoading is_of keeps input o
  none-loading o e f = record {
    held = λ l g. (let h : None ≡ Some l = sym e ∙ g in cc);
    there = λ tried lawful accepting. (let h : true ≡ false = sym tried ∙ f in cc);
  }

-- ---- what an honest cache has

load-of : (load : LoadInput) (texts : List (List ℕ)) (text : List ℕ) → IsLawful load → texts ≡ load_texts load → IsOutcomeOf texts text → IsOutcome load text
load-of load texts text lawful e r =
    let same : r.load ≡ load = one_load r.load load r.lawful.source.named lawful.source.named (sym r.is ∙ e) in
    subst (λ (l : LoadInput). IsOutcome l text) same r.outcome

-- of a lawful load it has the outcome
pub found-right : (cache : List Entry) (load : LoadInput) (text : List ℕ) → IsHonest cache → IsLawful load → lookup cache (load_input load) ≡ Some text → IsOutcome load (answer_text (answer_in text))
found-right cache load text honest lawful e =
    let out : IsOutcome load text = elim (honest-lookup cache (load_input load) text honest e) [
      | inl r ↦ load-of load (load_texts load) text lawful refl r.1
      | inr r ↦ let l : 0 < 0 = r.0 in absurd (omega (arith, l))
    ] in
    subst (λ (t : List ℕ). IsOutcome load t) (sym (read-again out.judged text out.tells)) out

run-of : (run : RunInput) (a : ℕ) (texts : List (List ℕ)) (text : List ℕ) → IsRunLawful run → a ≡ run.analyzer → texts ≡ run_texts run → IsRunOutcomeOf a texts text → IsRunOutcome run text
run-of run a texts text lawful number e r =
    let same : r.run ≡ run = one_run r.run run r.lawful.load.source.named lawful.load.source.named (env_named r.run r.lawful) (env_named run lawful) (r.of ∙ number) (sym r.is ∙ e) in
    subst (λ (l : RunInput). IsRunOutcome l text) same r.outcome

-- and of a lawful run
pub found-run : (cache : List Entry) (run : RunInput) (text : List ℕ) → IsHonest cache → IsRunLawful run → lookup cache (run_input run) ≡ Some text → IsRunOutcome run text
found-run cache run text honest lawful e = elim (honest-lookup cache (run_input run) text honest e) [
  | inl r ↦ let zero_is : run.analyzer ≡ 0 = r.0 in let l : 0 < run.analyzer = lawful.number.0 in absurd (omega (arith, zero_is, l))
  | inr r ↦ run-of run run.analyzer (run_texts run) text lawful refl refl r.1
]

-- ---- looked up

-- the input by its texts
pub by-texts : (cache : List Entry) (node : ℕ) (texts of : List (List ℕ)) (found : Option (List ℕ)) → texts ≡ of → found ≡ lookup cache (record { node = node; texts = texts }) → lookup cache (record { node = node; texts = of }) ≡ found
by-texts cache node texts of found e h = ap (λ (l : List (List ℕ)). lookup cache (record { node = node; texts = l })) (sym e) ∙ sym h

left-by : (x : Option (List ℕ)) (i : Input) (o : List ℕ) → x ≡ Some o → None ≡ (if is_found x then None else Some i)
left-by None i o e = cc
left-by (Some y) i o e = refl

missing-by : (x : Option (List ℕ)) (i key : Input) → x ≡ None → key ≡ i → Some key ≡ (if is_found x then None else Some i)
missing-by None i key e same = ap (λ (k : Input). Some k) same
missing-by (Some y) i key e same = cc

-- a node of which the cache has an outcome isn't fresh
pub left-found : (cache : List Entry) (i : Input) (o : List ℕ) → lookup cache i ≡ Some o → None ≡ left_of cache i
left-found cache i o e = left-by (lookup cache i) i o e

-- and another is
pub left-missing : (cache : List Entry) (i key : Input) → lookup cache i ≡ None → key ≡ i → Some key ≡ left_of cache i
left-missing cache i key e same = missing-by (lookup cache i) i key e same

pub cached-found : (cache : List Entry) (i : Input) (o : List ℕ) → lookup cache i ≡ Some o → is_cached cache i ≡ true
cached-found cache i o e = ap is_found e

pub cached-missing : (cache : List Entry) (i : Input) → lookup cache i ≡ None → is_cached cache i ≡ false
cached-missing cache i e = ap is_found e

-- ---- accepted

accepting-case : (load : LoadInput) (a : Answer) → is_good a ≡ true → IsOutcome load (answer_text a) → IsAccepting load
accepting-case load (answer.Accepted export) good out = record { export = export; outcome = out }
accepting-case load (answer.Refused marks) good out = cc

pub accepting : (load : LoadInput) (a : Answer) → is_good a ≡ true → IsOutcome load (answer_text a) → IsAccepting load
accepting load a good out = accepting-case load a good out

-- what comes of an input that was made of the table
pub outcome-from : (load from : LoadInput) (text other : List ℕ) → load ≡ from → other ≡ text → (IsLawful load → IsOutcome load text) → IsLawful from → IsOutcome from other
outcome-from load from text other made same right lawful =
    subst (λ (t : List ℕ). IsOutcome from t) (sym same) (subst (λ (l : LoadInput). IsOutcome l text) made (right (subst (λ (l : LoadInput). IsLawful l) (sym made) lawful)))

module _ {L : Type 0} (is_of : L → LoadInput → Type 0) (keeps : L → Type 0) where
  pub loading-from : (load from : LoadInput) (o : Loading L) → load ≡ from → IsLoading is_of keeps load o → IsLoading is_of keeps from o
  loading-from load from o made is = subst (λ (l : LoadInput). IsLoading is_of keeps l o) made is

  -- the cache had an outcome of the load
  pub opened-found : (cache : List Entry) (load : LoadInput) (texts : List (List ℕ)) (b : Begun L) (text : List ℕ) → texts ≡ load_texts load → Some text ≡ lookup cache (record { node = 0; texts = texts })
      → b.fresh ≡ None → b.answer ≡ answer_in text → b.loading.loaded ≡ None → b.loading.tried ≡ false → IsOpened is_of keeps cache load b
  opened-found cache load texts b text parts there fresh answer loaded tried =
      let e : lookup cache (load_input load) ≡ Some text = by-texts cache 0 texts (load_texts load) (Some text) parts there in
      let found : is_cached cache (load_input load) ≡ true = cached-found cache (load_input load) text e in
      record {
        left = fresh ∙ left-found cache (load_input load) text e;
        tried = tried ∙ ap (λ (x : Bool). spent false x) (sym found);
        right = λ honest lawful. subst (λ (a : Answer). IsOutcome load (answer_text a)) (sym answer) (found-right cache load text honest lawful e);
        loading = none-loading is_of keeps load b.loading loaded tried;
      }

  -- or it was executed
  pub opened-executed : (cache : List Entry) (load : LoadInput) (texts : List (List ℕ)) (b : Begun L) → texts ≡ load_texts load → None ≡ lookup cache (record { node = 0; texts = texts })
      → b.fresh ≡ Some (load_input load) → b.loading.tried ≡ true → (IsLawful load → IsOutcome load (answer_text b.answer)) → IsLoading is_of keeps load b.loading → IsOpened is_of keeps cache load b
  opened-executed cache load texts b parts there fresh tried right loading =
      let e : lookup cache (load_input load) ≡ None = by-texts cache 0 texts (load_texts load) None parts there in
      let missing : is_cached cache (load_input load) ≡ false = cached-missing cache (load_input load) e in
      record {
        left = fresh ∙ left-missing cache (load_input load) (load_input load) e refl;
        tried = tried ∙ ap (λ (x : Bool). spent false x) (sym missing);
        right = λ honest lawful. right lawful;
        loading = loading;
      }
