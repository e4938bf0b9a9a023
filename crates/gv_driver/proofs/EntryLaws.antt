-- The entries of what was executed can be kept.
use Rattle.std.proofs.Common.{◌≡◌, ℕ, ◌<◌, ◌≤◌, ◌+◌, ◌⊎◌, inl, inr, Bool, true, false, if◌then◌else◌, Option, Some, None, List, [], ◌∷◌, ◌++◌, length, slice_get, get_or, map, drop, take, ◌-◌, refl, sym, ap, ◌∙◌, subst, arith, zero, suc}
use Rattle.std.specs.List.{Contains}
use Rattle.std.proofs.lemmas.Option.{same_Some}
use Rattle.std.proofs.lemmas.List.{map-append}
use Rattle.fact_cache.specs.declared.texts.Input.{Input}
use Rattle.fact_cache.specs.declared.list.Entry.{Entry}
use Rattle.fact_cache.specs.Caches.{lookup, trimmed}
use Rattle.action_graph.specs.declared.kit.LoadInput.{LoadInput}
use Rattle.action_graph.specs.declared.kit.RunInput.{RunInput}
use Rattle.action_graph.specs.Nodes.{Named}
use Rattle.action_graph.specs.Analyzing.{IsRunLawful, IsRunOutcome}
use Rattle.action_graph.specs.Judging.{IsLawful}
use Rattle.action_graph.specs.Work.{IsAnalyzer}
use Rattle.gv_driver.specs.declared.tree.PackageTexts.{PackageTexts}
use Rattle.gv_driver.specs.declared.node.Node.{Node}
use Rattle.gv_driver.specs.declared.node.RunNode.{RunNode}
use Rattle.gv_driver.specs.Analyzers.{analyzers_of}
use Rattle.gv_driver.specs.Trees.{IsTree}
use Rattle.gv_driver.specs.Caches.{IsHonest, IsCacheAfter, IsPartKept, input_of, is_cached, left_of, missing_of}
use Rattle.gv_driver.specs.Entries.{all_entries, entries_in, entry_if, run_entries}
use Rattle.gv_driver.specs.Loads.{IsRunOf, load_input, run_input, run_key, run_keys, run_over}
use Rattle.gv_driver.specs.Runs.{CanKeep}
use Rattle.gv_driver.specs.Tables.{AreLookedUp, IsLookedUp, IsRightNode, IsTable, answer_text, fresh_in, fresh_inputs, fresh_node, fresh_runs, number_in, numbers_in, with_fresh}
use Rattle.gv_driver.proofs.AnalyzerLaws.{analyzers-rise, are-analyzers}
use Rattle.gv_driver.proofs.CacheLaws.{honest-append, lookup-append, lookup-others, not-found}
use Rattle.gv_driver.proofs.FactLaws.{run-of-once}
use Rattle.gv_driver.proofs.FactsTold.{run-lawful}
use Rattle.gv_driver.proofs.MissingLaws.{fresh-missing, get-taken}
use Rattle.gv_driver.proofs.Places.{at-contained, contains-head, contains-tail, get-mapped, get-unmapped, nothing-contained}
use Rattle.gv_driver.proofs.WholeLaws.{same-number, unique-load}

-- what is left of one input is another: that one has no entry, and is the other
pub left-some : (b : Bool) (key i : Input) → (if b then None else Some key) ≡ Some i → (b ≡ false) × (key ≡ i)
left-some true key i h = cc
left-some false key i h = (refl, same_Some key i h)

-- ---- the inputs of the entries are the fresh ones

one-input : (o : Option Input) (text : List ℕ) (rest : List Input) → map input_of (entry_if o text) ++ rest ≡ with_fresh o rest
one-input None text rest = refl
one-input (Some i) text rest = refl

runs-inputs : (runs : List RunNode) → map input_of (run_entries runs) ≡ fresh_runs runs
runs-inputs [] = refl
runs-inputs (r ∷ runs) =
    map-append input_of (entry_if r.fresh r.outcome) (run_entries runs)
    ∙ (ap (λ (l : List Input). map input_of (entry_if r.fresh r.outcome) ++ l) (runs-inputs runs) ∙ one-input r.fresh r.outcome (fresh_runs runs))

node-inputs : (o : Option Node) → map input_of (entries_in o) ≡ fresh_in o
node-inputs None = refl
node-inputs (Some n) =
    map-append input_of (entry_if n.fresh (answer_text n.answer)) (run_entries n.runs)
    ∙ (ap (λ (l : List Input). map input_of (entry_if n.fresh (answer_text n.answer)) ++ l) (runs-inputs n.runs) ∙ one-input n.fresh (answer_text n.answer) (fresh_runs n.runs))

pub all-inputs : (table : List (Option Node)) → map input_of (all_entries table) ≡ fresh_inputs table
all-inputs [] = refl
all-inputs (o ∷ more) =
    map-append input_of (entries_in o) (all_entries more)
    ∙ (ap (λ (l : List Input). l ++ map input_of (all_entries more)) (node-inputs o) ∙ ap (λ (l : List Input). fresh_in o ++ l) (all-inputs more))

-- ---- each once

-- no two are one
abbrev pub Distinct : List Input → Type 0
Distinct [] = Unit {0}
Distinct (x ∷ xs) = (Contains xs x → ⊥) × Distinct xs

pub in-append : (xs ys : List Input) (i : Input) → Contains (xs ++ ys) i → Contains xs i ⊎ Contains ys i
in-append [] ys i c = inr c
in-append (x ∷ xs) ys i (zero, l, e) = inl (zero, omega arith, e)
in-append (x ∷ xs) ys i (suc k, l, e) = elim (in-append xs ys i (k, (let m : suc k < length (x ∷ (xs ++ ys)) = l in omega (arith, m)), e)) [
  | inl c ↦ inl (contains-tail x i xs c)
  | inr c ↦ inr c
]

pub distinct-append : (xs ys : List Input) → Distinct xs → Distinct ys → ((i : Input) → Contains xs i → Contains ys i → ⊥) → Distinct (xs ++ ys)
distinct-append [] ys a b none = b
distinct-append (x ∷ xs) ys a b none = (
  λ c. elim (in-append xs ys x c) [ inl h ↦ a.0 h | inr h ↦ none x (contains-head x xs) h ],
  distinct-append xs ys a.1 b (λ i c d. none i (contains-tail x i xs c) d),
)

kept-if : (b : Bool) (x : Input) (xs : List Input) (i : Input) → Contains (if b then xs else (x ∷ xs)) i → Contains (x ∷ xs) i
kept-if true x xs i c = contains-tail x i xs c
kept-if false x xs i c = c

-- what is missing is among them
pub missing-in : (cache : List Entry) (xs : List Input) (i : Input) → Contains (missing_of cache xs) i → Contains xs i
missing-in cache [] i c = c
missing-in cache (x ∷ xs) i c = elim (head-or x (missing_of cache xs) i (kept-if (is_cached cache x) x (missing_of cache xs) i c)) [
  | inl e ↦ subst (λ (j : Input). Contains (x ∷ xs) j) e (contains-head x xs)
  | inr h ↦ contains-tail x i xs (missing-in cache xs i h)
]
  where
    head-or : (y : Input) (ys : List Input) (j : Input) → Contains (y ∷ ys) j → (y ≡ j) ⊎ Contains ys j
    head-or y ys j (zero, l, e) = inl e
    head-or y ys j (suc k, l, e) = inr (k, (let m : suc k < length (y ∷ ys) = l in omega (arith, m)), e)

not-if : (b : Bool) (x : Input) (xs : List Input) (i : Input) (cache : List Entry) → is_cached cache x ≡ b → ((j : Input) → Contains xs j → is_cached cache j ≡ false) → Contains (if b then xs else (x ∷ xs)) i → is_cached cache i ≡ false
not-if true x xs i cache e h c = h i c
not-if false x xs i cache e h (zero, l, s) = ap (λ (j : Input). is_cached cache j) (sym s) ∙ e
not-if false x xs i cache e h (suc k, l, s) = h i (k, (let m : suc k < length (x ∷ xs) = l in omega (arith, m)), s)

-- and has no entry
pub missing-not : (cache : List Entry) (xs : List Input) (i : Input) → Contains (missing_of cache xs) i → is_cached cache i ≡ false
missing-not cache [] i c = absurd (let l : c.0 < 0 = c.1 in omega (arith, l))
missing-not cache (x ∷ xs) i c = not-if (is_cached cache x) x (missing_of cache xs) i cache refl (missing-not cache xs) c

distinct-if : (b : Bool) (x : Input) (xs : List Input) → Distinct xs → (Contains xs x → ⊥) → Distinct (if b then xs else (x ∷ xs))
distinct-if true x xs h none = h
distinct-if false x xs h none = (none, h)

pub distinct-missing : (cache : List Entry) (xs : List Input) → Distinct xs → Distinct (missing_of cache xs)
distinct-missing cache [] h = tt
distinct-missing cache (x ∷ xs) h = distinct-if (is_cached cache x) x (missing_of cache xs) (distinct-missing cache xs h.1) (λ c. h.0 (missing-in cache xs x c))

-- the runs of distinct analyzers
runs-distinct : (given : ℕ → List Named) (load : LoadInput) (ns : List ℕ) → ((j k a b : ℕ) → j < k → slice_get ns j ≡ Some a → slice_get ns k ≡ Some b → a < b) → Distinct (run_keys given load ns)
runs-distinct given load [] rises = tt
runs-distinct given load (a ∷ ns) rises = (
  λ c.
      let h = get-unmapped (run_key given load) ns c.0 (run_key given load a) (at-contained (run_keys given load ns) (run_key given load a) c) in
      let l : a < h.0 = rises 0 (suc c.0) a h.0 (omega arith) refl h.1 in
      let e : h.0 ≡ a = ap (λ (i : Input). i.node) h.2 in
      omega (arith, l, e),
  runs-distinct given load ns (λ j k x y l h g. rises (suc j) (suc k) x y (omega (arith, l)) h g),
)

-- the node of p
pub record IsFrom (tree : List PackageTexts) (p : ℕ) (i : Input) : Type 0 where
  pub pack : PackageTexts
  pub at : slice_get tree p ≡ Some pack
  pub path : get_or i.texts 0 [] ≡ pack.path

module _ (tree : List PackageTexts) (only : ℕ) (before : List Entry) where
  fresh-is : (p : ℕ) (n : Node) (l : IsLookedUp tree only before p n) → fresh_node n ≡ missing_of before (load_input l.load ∷ run_keys l.given l.load (numbers_in n.runs))
  fresh-is p n l = ap (λ (o : Option Input). with_fresh o (fresh_runs n.runs)) l.left ∙ (ap (λ (ks : List Input). with_fresh (left_of before (load_input l.load)) ks) l.runs ∙ fresh-missing before (load_input l.load) (run_keys l.given l.load (numbers_in n.runs)))

  numbers-rise : (p : ℕ) (n : Node) (l : IsLookedUp tree only before p n) → (j k a b : ℕ) → j < k → slice_get (numbers_in n.runs) j ≡ Some a → slice_get (numbers_in n.runs) k ≡ Some b → a < b
  numbers-rise p n l j k a b low h g =
      (analyzers-rise only l.pack.stub).rises j k a b low
      (get-taken l.done j (analyzers_of only l.pack.stub) a (subst (λ (ns : List ℕ). slice_get ns j ≡ Some a) l.numbers h))
      (get-taken l.done k (analyzers_of only l.pack.stub) b (subst (λ (ns : List ℕ). slice_get ns k ≡ Some b) l.numbers g))

  number-some : (p : ℕ) (n : Node) (l : IsLookedUp tree only before p n) → (k a : ℕ) → slice_get (numbers_in n.runs) k ≡ Some a → 0 < a
  number-some p n l k a h = ((analyzers-rise only l.pack.stub).each k a (get-taken l.done k (analyzers_of only l.pack.stub) a (subst (λ (ns : List ℕ). slice_get ns k ≡ Some a) l.numbers h))).0

  keys-distinct : (p : ℕ) (n : Node) (l : IsLookedUp tree only before p n) → Distinct (load_input l.load ∷ run_keys l.given l.load (numbers_in n.runs))
  keys-distinct p n l = (
    λ c.
        let h = get-unmapped (run_key l.given l.load) (numbers_in n.runs) c.0 (load_input l.load) (at-contained (run_keys l.given l.load (numbers_in n.runs)) (load_input l.load) c) in
        let some : 0 < h.0 = number-some p n l c.0 h.0 h.1 in
        let e : h.0 ≡ 0 = ap (λ (i : Input). i.node) h.2 in
        omega (arith, some, e),
    runs-distinct l.given l.load (numbers_in n.runs) (numbers-rise p n l),
  )

  key-from : (p : ℕ) (n : Node) (l : IsLookedUp tree only before p n) (i : Input) → Contains (load_input l.load ∷ run_keys l.given l.load (numbers_in n.runs)) i → IsFrom tree p i
  key-from p n l i (zero, low, e) = record { pack = l.pack; at = l.at; path = ap (λ (j : Input). get_or j.texts 0 []) (sym e) ∙ l.path }
  key-from p n l i (suc k, low, e) =
      let c : Contains (run_keys l.given l.load (numbers_in n.runs)) i = (k, (let m : suc k < length (load_input l.load ∷ run_keys l.given l.load (numbers_in n.runs)) = low in omega (arith, m)), e) in
      let h = get-unmapped (run_key l.given l.load) (numbers_in n.runs) k i (at-contained (run_keys l.given l.load (numbers_in n.runs)) i c) in
      record { pack = l.pack; at = l.at; path = ap (λ (j : Input). get_or j.texts 0 []) (sym h.2) ∙ l.path }

  fresh-from : (p : ℕ) (n : Node) → IsLookedUp tree only before p n → (i : Input) → Contains (fresh_node n) i → IsFrom tree p i
  fresh-from p n l i c = key-from p n l i (missing-in before (load_input l.load ∷ run_keys l.given l.load (numbers_in n.runs)) i (subst (λ (ks : List Input). Contains ks i) (fresh-is p n l) c))

  fresh-not : (p : ℕ) (n : Node) → IsLookedUp tree only before p n → (i : Input) → Contains (fresh_node n) i → is_cached before i ≡ false
  fresh-not p n l i c = missing-not before (load_input l.load ∷ run_keys l.given l.load (numbers_in n.runs)) i (subst (λ (ks : List Input). Contains ks i) (fresh-is p n l) c)

  node-distinct : (p : ℕ) (n : Node) → IsLookedUp tree only before p n → Distinct (fresh_node n)
  node-distinct p n l = subst Distinct (sym (fresh-is p n l)) (distinct-missing before (load_input l.load ∷ run_keys l.given l.load (numbers_in n.runs)) (keys-distinct p n l))

  -- the table from a place on
  abbrev AreFrom : ℕ → List (Option Node) → Type 0
  AreFrom from table = (p : ℕ) (n : Node) → slice_get table p ≡ Some (Some n) → IsLookedUp tree only before (from + p) n

  next-from : (from : ℕ) (o : Option Node) (table : List (Option Node)) → AreFrom from (o ∷ table) → AreFrom (suc from) table
  next-from from o table are p n h = subst (λ (q : ℕ). IsLookedUp tree only before q n) (omega arith) (are (suc p) n h)

  all-from : (from : ℕ) (table : List (Option Node)) → AreFrom from table → (i : Input) → Contains (fresh_inputs table) i → (p : ℕ) × (from ≤ p) × IsFrom tree p i
  all-from from [] are i c = absurd (nothing-contained i c)
  all-from from (None ∷ table) are i c = (let h = all-from (suc from) table (next-from from None table are) i c in (h.0, (let l : suc from ≤ h.0 = h.1 in omega (arith, l)), h.2))
  all-from from (Some n ∷ table) are i c = elim (in-append (fresh_node n) (fresh_inputs table) i c) [
    | inl d ↦ (from, (omega arith), fresh-from from n (subst (λ (q : ℕ). IsLookedUp tree only before q n) (omega arith) (are 0 n refl)) i d)
    | inr d ↦ (let h = all-from (suc from) table (next-from from (Some n) table are) i d in (h.0, (let l : suc from ≤ h.0 = h.1 in omega (arith, l)), h.2))
  ]

  all-not : (from : ℕ) (table : List (Option Node)) → AreFrom from table → (i : Input) → Contains (fresh_inputs table) i → is_cached before i ≡ false
  all-not from [] are i c = absurd (nothing-contained i c)
  all-not from (None ∷ table) are i c = all-not (suc from) table (next-from from None table are) i c
  all-not from (Some n ∷ table) are i c = elim (in-append (fresh_node n) (fresh_inputs table) i c) [
    | inl d ↦ fresh-not from n (subst (λ (q : ℕ). IsLookedUp tree only before q n) (omega arith) (are 0 n refl)) i d
    | inr d ↦ all-not (suc from) table (next-from from (Some n) table are) i d
  ]

  all-distinct : IsTree tree → (from : ℕ) (table : List (Option Node)) → AreFrom from table → Distinct (fresh_inputs table)
  all-distinct formed from [] are = tt
  all-distinct formed from (None ∷ table) are = all-distinct formed (suc from) table (next-from from None table are)
  all-distinct formed from (Some n ∷ table) are =
      let mine : IsLookedUp tree only before from n = subst (λ (q : ℕ). IsLookedUp tree only before q n) (omega arith) (are 0 n refl) in
      distinct-append (fresh_node n) (fresh_inputs table) (node-distinct from n mine) (all-distinct formed (suc from) table (next-from from (Some n) table are)) (λ i c d.
      let a : IsFrom tree from i = fresh-from from n mine i c in
      let b : (p : ℕ) × (suc from ≤ p) × IsFrom tree p i = all-from (suc from) table (next-from from (Some n) table are) i d in
      let same : from ≡ b.0 = same-number tree from b.0 a.pack b.2.pack formed a.at b.2.at (sym a.path ∙ b.2.path) in
      let l : suc from ≤ b.0 = b.1 in
      omega (arith, same, l))

  whole : (table : List (Option Node)) → AreLookedUp tree only before table → AreFrom 0 table
  whole table are p n h = subst (λ (q : ℕ). IsLookedUp tree only before q n) (omega arith) (are p n h)

  -- ---- the entries

  entry-contained : (es : List Entry) (k : ℕ) (e : Entry) → slice_get es k ≡ Some e → Contains (map input_of es) e.input
  entry-contained [] zero e h = cc
  entry-contained [] (suc k) e h = cc
  entry-contained (x ∷ es) zero e h = subst (λ (y : Entry). Contains (map input_of (x ∷ es)) y.input) (same_Some x e h) (contains-head x.input (map input_of es))
  entry-contained (x ∷ es) (suc k) e h = contains-tail x.input e.input (map input_of es) (entry-contained es k e h)

  once : (es : List Entry) → Distinct (map input_of es) → (j k : ℕ) (e f : Entry) → slice_get es j ≡ Some e → slice_get es k ≡ Some f → e.input ≡ f.input → j ≡ k
  once [] d zero k e f h g s = cc
  once [] d (suc j) k e f h g s = cc
  once (x ∷ es) d zero zero e f h g s = refl
  once (x ∷ es) d zero (suc k) e f h g s =
      absurd (d.0 (subst (λ (i : Input). Contains (map input_of es) i) (sym s ∙ ap (λ (y : Entry). y.input) (sym (same_Some x e h))) (entry-contained es k f g)))
  once (x ∷ es) d (suc j) zero e f h g s =
      absurd (d.0 (subst (λ (i : Input). Contains (map input_of es) i) (s ∙ ap (λ (y : Entry). y.input) (sym (same_Some x f g))) (entry-contained es j e h)))
  once (x ∷ es) d (suc j) (suc k) e f h g s = ap suc (once es d.1 j k e f h g s)

  load-entry : (p : ℕ) (n : Node) (l : IsLookedUp tree only before p n) → IsHonest before → (r : IsRightNode tree only p n) → (o : Option Input) → n.fresh ≡ o → IsHonest (entry_if o (answer_text n.answer))
  load-entry p n l honest r None e = tt
  load-entry p n l honest r (Some i) e =
      let is : load_input l.load ≡ i = (left-some (is_cached before (load_input l.load)) (load_input l.load) i (sym l.left ∙ e)).1 in
      let same : l.load ≡ r.load = unique-load tree p l.load r.load (l.of honest) r.of in
      let key : i ≡ load_input r.load = sym is ∙ ap load_input same in
      (inl (ap (λ (k : Input). k.node) key, record { load = r.load; is = ap (λ (k : Input). k.texts) key; lawful = r.lawful; outcome = r.outcome }), tt)

  -- a run, what it was looked up by, and what came of it
  record IsEntered (r : RunNode) : Type 0 where
    run : RunInput
    analyzer : run.analyzer ≡ r.analyzer
    lawful : IsRunLawful run
    left : r.fresh ≡ left_of before (run_input run)
    outcome : IsRunOutcome run r.outcome

  run-entry : (r : RunNode) (is : IsEntered r) (o : Option Input) → r.fresh ≡ o → IsHonest (entry_if o r.outcome)
  run-entry r is None e = tt
  run-entry r is (Some i) e =
      let key : run_input is.run ≡ i = (left-some (is_cached before (run_input is.run)) (run_input is.run) i (sym is.left ∙ e)).1 in
      let node : is.run.analyzer ≡ i.node = ap (λ (k : Input). k.node) key in
      let some : 0 < is.run.analyzer = is.lawful.number.0 in
      (inr (omega (arith, node, some), record { run = is.run; of = node; is = ap (λ (k : Input). k.texts) (sym key); lawful = is.lawful; outcome = is.outcome }), tt)

  run-all : (runs : List RunNode) → ((k : ℕ) (r : RunNode) → slice_get runs k ≡ Some r → IsEntered r) → IsHonest (run_entries runs)
  run-all [] each = tt
  run-all (r ∷ runs) each = honest-append (entry_if r.fresh r.outcome) (run_entries runs) (run-entry r (each 0 r refl) r.fresh refl) (run-all runs (λ k. each (suc k)))

  number-of : (p : ℕ) (n : Node) (l : IsLookedUp tree only before p n) (k : ℕ) (r : RunNode) → slice_get n.runs k ≡ Some r → IsAnalyzer r.analyzer
  number-of p n l k r h =
      let at : slice_get (numbers_in n.runs) k ≡ Some r.analyzer = get-mapped number_in n.runs k r h in
      are-analyzers only l.pack.stub k r.analyzer (get-taken l.done k (analyzers_of only l.pack.stub) r.analyzer (subst (λ (ns : List ℕ). slice_get ns k ≡ Some r.analyzer) l.numbers at))

  -- a run of a node that is right
  entered : IsTree tree → (p : ℕ) (n : Node) (l : IsLookedUp tree only before p n) → IsHonest before → (right : IsRightNode tree only p n) → (k : ℕ) (r : RunNode) → slice_get n.runs k ≡ Some r → IsEntered r
  entered formed p n l honest right k r h =
      let mine : IsRunOf tree r.analyzer p (run_over l.given r.analyzer l.load) = record { analyzer = refl; of = l.of honest; given = l.are_given honest k r h } in
      let other : IsRunOf tree r.analyzer p (run_over right.given r.analyzer right.load) = record { analyzer = refl; of = right.of; given = right.are_given k r h } in
      let same : run_over l.given r.analyzer l.load ≡ run_over right.given r.analyzer right.load = run-of-once tree r.analyzer p (run_over l.given r.analyzer l.load) (run_over right.given r.analyzer right.load) mine other in
      record {
        run = run_over right.given r.analyzer right.load;
        analyzer = refl;
        lawful = run-lawful tree r.analyzer p (run_over right.given r.analyzer right.load) formed right.lawful (number-of p n l k r h) other;
        left = l.each k r h ∙ ap (λ (x : RunInput). left_of before (run_input x)) same;
        outcome = right.runs k r h;
      }

  node-entries : IsTree tree → (p : ℕ) (n : Node) → IsLookedUp tree only before p n → IsHonest before → IsRightNode tree only p n → IsHonest (entries_in (Some n))
  node-entries formed p n l honest r =
      honest-append (entry_if n.fresh (answer_text n.answer)) (run_entries n.runs) (load-entry p n l honest r n.fresh refl) (run-all n.runs (entered formed p n l honest r))

  abbrev AreRightFrom : ℕ → List (Option Node) → Type 0
  AreRightFrom from table = (p : ℕ) (n : Node) → slice_get table p ≡ Some (Some n) → IsRightNode tree only (from + p) n

  all-honest : IsTree tree → IsHonest before → (from : ℕ) (table : List (Option Node)) → AreFrom from table → AreRightFrom from table → IsHonest (all_entries table)
  all-honest formed honest from [] are right = tt
  all-honest formed honest from (None ∷ table) are right =
      all-honest formed honest (suc from) table (next-from from None table are) (λ p n h. subst (λ (q : ℕ). IsRightNode tree only q n) (omega arith) (right (suc p) n h))
  all-honest formed honest from (Some n ∷ table) are right =
      honest-append (entries_in (Some n)) (all_entries table)
      (node-entries formed from n (subst (λ (q : ℕ). IsLookedUp tree only before q n) (omega arith) (are 0 n refl)) honest (subst (λ (q : ℕ). IsRightNode tree only q n) (omega arith) (right 0 n refl)))
      (all-honest formed honest (suc from) table (next-from from (Some n) table are) (λ p m h. subst (λ (q : ℕ). IsRightNode tree only q m) (omega arith) (right (suc p) m h)))

  -- the entries of a table can be kept
  pub can-keep : (table : List (Option Node)) → IsTree tree → IsTable tree only before table → CanKeep before (all_entries table)
  can-keep table formed is =
      let are = whole table is.looked in
      record {
        missing = λ k e h. all-not 0 table are e.input (subst (λ (ks : List Input). Contains ks e.input) (all-inputs table) (entry-contained (all_entries table) k e h));
        distinct = once (all_entries table) (subst Distinct (sym (all-inputs table)) (all-distinct formed 0 table are));
        right = λ honest. all-honest formed honest 0 table are (λ p n h. subst (λ (q : ℕ). IsRightNode tree only q n) (omega arith) ((is.right honest).node p n h));
      }

-- ---- kept

taken-contained : (done : ℕ) (es : List Entry) (e : Entry) → Contains (take done es) e → (j : ℕ) × (j < done) × (slice_get es j ≡ Some e)
taken-contained zero es e c = absurd (nothing-contained e c)
taken-contained (suc done) [] e c = absurd (nothing-contained e c)
taken-contained (suc done) (x ∷ es) e (zero, l, s) = (0, (omega arith), ap (λ y. Some y) s)
taken-contained (suc done) (x ∷ es) e (suc k, l, s) =
    let h = taken-contained done es e (k, (let m : suc k < length (take (suc done) (x ∷ es)) = l in let f : length (take (suc done) (x ∷ es)) ≡ suc (length (take done es)) = refl in omega (arith, m, f)), s) in
    (suc h.0, (let m : h.0 < done = h.1 in omega (arith, m)), h.2)

-- the next entry is new
pub keep-new : (before es : List Entry) (p : ℕ) (e : Entry) → CanKeep before es → slice_get es p ≡ Some e → lookup (before ++ take p es) e.input ≡ None
keep-new before es p e can at =
    lookup-append before (take p es) e.input (not-found (lookup before e.input) (can.missing p e at))
    (lookup-others (take p es) e.input (λ x c s.
    let h = taken-contained p es x c in
    let same : h.0 ≡ p = can.distinct h.0 p x e h.2 at s in
    let l : h.0 < p = h.1 in
    omega (arith, same, l)))

honest-taken : (k : ℕ) (es : List Entry) → IsHonest es → IsHonest (take k es)
honest-taken zero es h = tt
honest-taken (suc k) [] h = tt
honest-taken (suc k) (e ∷ es) h = (h.0, honest-taken k es h.1)

split : {X : Type 0} (k : ℕ) (xs : List X) → take k xs ++ drop k xs ≡ xs
split zero xs = refl
split (suc k) [] = refl
split (suc k) (x ∷ xs) = ap (λ l. x ∷ l) (split k xs)

pub kept-honest : (before es : List Entry) (done : ℕ) → CanKeep before es → IsHonest before → IsHonest (before ++ take done es)
kept-honest before es done can honest = honest-append before (take done es) honest (honest-taken done es (can.right honest))

pub kept-all : (before es : List Entry) → CanKeep before es → IsHonest before → IsHonest (before ++ es)
kept-all before es can honest = honest-append before es honest (can.right honest)

pub kept-part : (before es now : List Entry) (done : ℕ) (inputs : List Input) → CanKeep before es → IsHonest before → now ≡ before ++ take done es → map input_of es ≡ missing_of before inputs
    → IsPartKept before (trimmed now) inputs
kept-part before es now done inputs can honest is same = record {
  added = take done es;
  more = map input_of (drop done es);
  is = ap (λ (l : List Entry). trimmed l) is;
  part = sym (map-append input_of (take done es) (drop done es)) ∙ (ap (λ (l : List Entry). map input_of l) (split done es) ∙ same);
  right = honest-taken done es (can.right honest);
}

pub kept-whole : (before es now : List Entry) (inputs : List Input) → CanKeep before es → IsHonest before → now ≡ before ++ es → map input_of es ≡ missing_of before inputs → IsCacheAfter before (trimmed now) inputs
kept-whole before es now inputs can honest is same = record { added = es; is = ap (λ (l : List Entry). trimmed l) is; whole = same; right = can.right honest }
