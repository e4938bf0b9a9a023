-- The plan of a tree, and what a run leaves.
use Rattle.std.proofs.Common.{◌≡◌, ℕ, ◌<◌, ◌≤◌, ◌+◌, ◌*◌, inl, inr, Bool, true, false, if◌then◌else◌, Option, Some, None, List, [], ◌∷◌, ◌++◌, length, slice_get, replicate, refl, sym, ap, ◌∙◌, subst, arith, zero, suc, map, drop, take}
use Rattle.std.specs.Prelude.{sum_by}
use Rattle.std.proofs.lemmas.Option.{same_Some, slice_get_within}
use Rattle.std.proofs.lemmas.List.{length-map}
use Rattle.fact_cache.specs.declared.texts.Input.{Input}
use Rattle.fact_cache.specs.declared.list.Entry.{Entry}
use Rattle.fact_cache.specs.Caches.{trimmed}
use Rattle.action_graph.specs.Judging.Judged.{Accepts}
use Rattle.gv_driver.specs.declared.tree.PackageTexts.{PackageTexts}
use Rattle.gv_driver.specs.declared.node.Node.{Node}
use Rattle.gv_driver.specs.declared.reply.Judgement.{Judgement}
use Rattle.gv_driver.specs.Analyzers.{analyzers_of}
use Rattle.gv_driver.specs.Loads.{IsInput, IsNodeInput, IsPlan, IsRunInput, all_inputs}
use Rattle.gv_driver.specs.Caches.{IsHonest, IsPartKept, input_of, load_cost, loads_of, missing_of, run_cost, runs_of}
use Rattle.gv_driver.specs.Entries.{all_entries}
use Rattle.gv_driver.specs.Given.{told_at}
use Rattle.gv_driver.specs.Tables.{AreLookedUp, AreRight, IsReady, IsTable, chosen_if, executed, executed_runs, fresh_inputs, is_good, loads_in, missing_in, nodes_in, number_in, numbers_in, runs_in, waiting}
use Rattle.gv_driver.specs.Reports.{AllFoundShown, AreShown}
use Rattle.gv_driver.specs.Runs.{CanKeep, Goes, Ran, IsCutOff, Stops}
use Rattle.gv_driver.specs.Tallies.{Tally}
use Rattle.gv_driver.proofs.EntryLaws.{all-inputs, kept-part, kept-whole}
use Rattle.gv_driver.proofs.FindingLaws.{AllFoundStand, found-right}
use Rattle.gv_driver.proofs.InputLaws.{AreInputsOf, IsLeft, fresh-all, inputs-of, loads-all, missing-all, nodes-all, runs-all}
use Rattle.gv_driver.proofs.MissingLaws.{Begins, missing-begins, one-begins}
use Rattle.gv_driver.proofs.Places.{append-none, element}
use Rattle.gv_driver.proofs.PlanLaws.{costs-le, unique-node, unique-plan}
use Rattle.gv_driver.proofs.ToldLaws.{told-right}
use Rattle.gv_driver.proofs.WholeLaws.{same_pack}
use Rattle.gv_driver.proofs.TableLaws.{load-done, accepted-good, answer-good, node-tells}
use Rattle.gv_driver.proofs.StepLaws.{executed-none, runs-none, waiting-none}
use Rattle.gv_driver.proofs.ReportLaws.{report-right}

-- a run's place is among the runs of an accepted package
run-within : (tree : List PackageTexts) (only p k : ℕ) (table : List (Option Node)) (i : Input) (n : Node) → AreRight tree only table → slice_get table p ≡ Some (Some n) → IsRunInput tree only p k i → k < length n.runs
run-within tree only p k table i n right at is =
    let r = right.node p n at in
    let good : is_good n.answer ≡ true = answer-good n.answer is.face (node-tells tree table p n (Accepts is.face) right at is.good) in
    let numbers : numbers_in n.runs ≡ analyzers_of only r.of.pack.stub = r.numbers ∙ ap (λ b. chosen_if b (analyzers_of only r.of.pack.stub)) good in
    let here : slice_get (numbers_in n.runs) k ≡ Some is.analyzer =
    subst (λ (ns : List ℕ). slice_get ns k ≡ Some is.analyzer) (sym numbers)
    (subst (λ (x : PackageTexts). slice_get (analyzers_of only x.stub) k ≡ Some is.analyzer) (same_pack tree p is.of.pack r.of.pack is.of.at r.of.at) is.chosen) in
    let l : k < length (numbers_in n.runs) = slice_get_within (numbers_in n.runs) k is.analyzer here in
    let e : length (numbers_in n.runs) ≡ length n.runs = length-map n.runs number_in in
    omega (arith, l, e)

-- where nothing is ready, each node of the tree is in the table
node-there : (tree : List PackageTexts) (only : ℕ) (before : List Entry) (table : List (Option Node)) → AreRight tree only table → ((p : ℕ) → IsReady tree table p → ⊥) → (p k : ℕ) (keys : List Input) (i : Input)
    → ((row : Option Node) → slice_get table p ≡ Some row → IsLeft before row keys) → IsNodeInput tree only p k i → k < length keys
node-there tree only before table right none p zero keys i left is =
    let n = load-done tree table right none p is.load is.of in
    let h = left (Some n.0) n.1 in
    let size : length keys ≡ suc (length n.0.runs) = h.size in
    omega (arith, size)
node-there tree only before table right none p (suc k) keys i left is =
    let n = load-done tree table right none p is.load is.of in
    let h = left (Some n.0) n.1 in
    let size : length keys ≡ suc (length n.0.runs) = h.size in
    let l : k < length n.0.runs = run-within tree only p k table i n.0 right n.1 is in
    omega (arith, size, l)

plan-right : (tree : List PackageTexts) (only : ℕ) (before : List Entry) (table : List (Option Node)) → AreRight tree only table → ((p : ℕ) → IsReady tree table p → ⊥) → (are : AreInputsOf tree only before table)
    → IsPlan tree only are.rows
plan-right tree only before table right none are = record {
  size = are.size ∙ right.size;
  right = λ p k keys i h g.
      let row = row-of p keys h in
      are.of p row.0 keys row.1 h k i g;
  every = λ p k keys i h is.
      let row = row-of p keys h in
      let low : k < length keys = node-there tree only before table right none p k keys i (λ o at. are.left p o keys at h) is in
      let there = element keys k low in
      there.1 ∙ ap (λ (x : Input). Some x) (unique-node tree only p k there.0 i (are.of p row.0 keys row.1 h k there.0 there.1) is);
}
  where
    row-of : (p : ℕ) (keys : List Input) → slice_get are.rows p ≡ Some keys → (row : Option Node) × (slice_get table p ≡ Some row)
    row-of p keys h =
        let within : p < length are.rows = slice_get_within are.rows p keys h in
        let size : length are.rows ≡ length table = are.size in
        element table p (omega (arith, within, size))

-- ---- no more than the plan's

module _ (tree : List PackageTexts) (only : ℕ) (before : List Entry) (broken : List (Option Node)) (honest : IsHonest before) (long : length broken ≡ length tree) (looked : AreLookedUp tree only before broken) (plan : List (List Input))
    (is : IsPlan tree only plan) where
  are : AreInputsOf tree only before broken
  are = inputs-of tree only before broken honest looked

  begins : (p : ℕ) (x y : List Input) → slice_get are.rows p ≡ Some x → slice_get plan p ≡ Some y → Begins x y
  begins p x y h g k i there =
      let within : p < length are.rows = slice_get_within are.rows p x h in
      let size : length are.rows ≡ length broken = are.size in
      let row = element broken p (omega (arith, within, size)) in
      is.every p k y i g (are.of p row.0 x row.1 h k i there)

  begins-after : (xs ys : List Input) → Begins xs ys → Begins (drop 1 xs) (drop 1 ys)
  begins-after [] ys h zero i e = cc
  begins-after [] ys h (suc k) i e = cc
  begins-after (x ∷ xs) [] h k i e = let f : None ≡ Some x = h 0 x refl in cc
  begins-after (x ∷ xs) (y ∷ ys) h k i e = h (suc k) i e

  sizes : length are.rows ≡ length plan
  sizes = are.size ∙ (long ∙ sym is.size)

  pub loads-within : executed broken ≤ loads_of before plan
  loads-within =
      let e : executed broken ≡ loads_of before are.rows = loads-all tree only before broken are in
      let le : loads_of before are.rows ≤ loads_of before plan = costs-le are.rows plan (load_cost before) sizes (λ p x y h g. one-begins before x y (begins p x y h g)) in
      omega (arith, e, le)

  pub runs-within : executed_runs broken ≤ runs_of before plan
  runs-within =
      let e : executed_runs broken ≡ runs_of before are.rows = runs-all tree only before broken are in
      let le : runs_of before are.rows ≤ runs_of before plan = costs-le are.rows plan (run_cost before) sizes (λ p x y h g. missing-begins before (drop 1 x) (drop 1 y) (begins-after x y (begins p x y h g))) in
      omega (arith, e, le)

-- over any cache there are at most as many loads as packages, and fifteen runs for each
pub loads-bound : (tree : List PackageTexts) (only : ℕ) (before : List Entry) (first : List (Option Node)) (count now : Tally) → first ≡ replicate (length tree) None → Stops tree only before first count now
    → now.loads ≤ count.loads + length tree
loads-bound tree only before first count now start stops =
    let w : waiting first ≡ length tree = waiting-none (length tree) first start in
    let r : now.loads ≤ count.loads + waiting first = stops.room in
    omega (arith, w, r)

pub runs-bound : (tree : List PackageTexts) (only : ℕ) (before : List Entry) (first : List (Option Node)) (count now : Tally) → first ≡ replicate (length tree) None → Stops tree only before first count now
    → now.runs ≤ count.runs + 15 * length tree
runs-bound tree only before first count now start stops =
    let w : waiting first ≡ length tree = waiting-none (length tree) first start in
    let r : now.runs ≤ count.runs + 15 * waiting first = stops.most in
    omega (arith, w, r)

nothing-kept : (before : List Entry) (inputs : List Input) → IsPartKept before (trimmed before) inputs
nothing-kept before inputs = record { added = []; more = missing_of before inputs; is = ap (λ (l : List Entry). trimmed l) (sym (append-none before)); part = refl; right = tt }

-- cut off before anything was done
pub cut-first : (tree : List PackageTexts) (only : ℕ) (before : List Entry) (count : Tally) → IsCutOff tree only before (trimmed before) count count
cut-first tree only before count = record { loads = λ plan is. omega arith; runs = λ plan is. omega arith; cache = λ plan is. nothing-kept before (all_inputs plan) }

-- cut off before anything was kept
pub cut-stops : (tree : List PackageTexts) (only : ℕ) (before : List Entry) (first : List (Option Node)) (count now : Tally) → IsHonest before → first ≡ replicate (length tree) None
    → Stops tree only before first count now → IsCutOff tree only before (trimmed before) count now
cut-stops tree only before first count now honest start stops = record {
  loads = λ plan is. (
      let e : executed first ≡ 0 = executed-none (length tree) first start in
      let f : now.loads + executed first ≤ count.loads + executed stops.broken = stops.loads in
      let l : executed stops.broken ≤ loads_of before plan = loads-within tree only before stops.broken honest stops.size stops.looked plan is in
      omega (arith, e, f, l));
  runs = λ plan is. (
      let e : executed_runs first ≡ 0 = runs-none (length tree) first start in
      let f : now.runs + executed_runs first ≤ count.runs + executed_runs stops.broken = stops.runs honest in
      let l : executed_runs stops.broken ≤ runs_of before plan = runs-within tree only before stops.broken honest stops.size stops.looked plan is in
      omega (arith, e, f, l));
  cache = λ plan is. nothing-kept before (all_inputs plan);
}

-- what is kept is what was missing
missing-kept : (tree : List PackageTexts) (only : ℕ) (before : List Entry) (table : List (Option Node)) (are : AreInputsOf tree only before table) → map input_of (all_entries table) ≡ missing_of before (all_inputs are.rows)
missing-kept tree only before table are = all-inputs table ∙ fresh-all tree only before table are

-- cut off while the entries were kept
pub cut-in_keep : (tree : List PackageTexts) (only : ℕ) (before after : List Entry) (first table : List (Option Node)) (count now : Tally) (done : ℕ) → IsHonest before → first ≡ replicate (length tree) None
    → Goes tree only before first table count now → Stops tree only before first count now → ((p : ℕ) → IsReady tree table p → ⊥) → CanKeep before (all_entries table) → after ≡ before ++ take done (all_entries table)
    → IsCutOff tree only before (trimmed after) count now
cut-in_keep tree only before after first table count now done honest start goes stops none can is =
    let are = inputs-of tree only before table honest goes.right.looked in
    let mine = plan-right tree only before table (goes.right.right honest) none are in
    let cut = cut-stops tree only before first count now honest start stops in
    record {
      loads = cut.loads;
      runs = cut.runs;
      cache = λ plan is_plan.
          let same : are.rows ≡ plan = unique-plan tree only are.rows plan mine is_plan in
          kept-part before (all_entries table) after done (all_inputs plan) can honest is
          (missing-kept tree only before table are ∙ ap (λ (rows : List (List Input)). missing_of before (all_inputs rows)) same);
    }

pub ran-right : AllFoundStand → (tree : List PackageTexts) (only : ℕ) (before after : List Entry) (first table : List (Option Node)) (count now : Tally) (reply : Judgement) → IsHonest before → first ≡ replicate (length tree) None
    → Goes tree only before first table count now → ((p : ℕ) → IsReady tree table p → ⊥) → CanKeep before (all_entries table) → after ≡ before ++ all_entries table
    → AreShown tree table reply.verdicts (length tree) → AllFoundShown tree table reply.found (length tree) → reply.facts ≡ map told_at table
    → reply.counts.nodes ≡ sum_by nodes_in table → reply.counts.missing ≡ sum_by missing_in table → reply.counts.loads ≡ sum_by loads_in table → reply.counts.runs ≡ sum_by runs_in table
    → Ran tree only before (trimmed after) count now reply
ran-right law tree only before after first table count now reply honest start goes none can is shown found facts nodes missing loads runs =
    let right = goes.right.right honest in
    let are = inputs-of tree only before table honest goes.right.looked in
    record {
      plan = are.rows;
      is_plan = plan-right tree only before table right none are;
      report = report-right tree table reply.verdicts right none shown;
      found = found-right law tree only table reply.verdicts reply.found right none shown found;
      facts = told-right tree only table reply.verdicts reply.facts right shown facts;
      cache = kept-whole before (all_entries table) after (all_inputs are.rows) can honest is (missing-kept tree only before table are);
      nodes = nodes ∙ nodes-all tree only before table are;
      missing = missing ∙ missing-all tree only before table are;
      loads = loads ∙ loads-all tree only before table are;
      runs = runs ∙ runs-all tree only before table are;
      risen =
          let e : executed first ≡ 0 = executed-none (length tree) first start in
          let f : now.loads + executed first ≡ count.loads + executed table = goes.loads in
          let l : reply.counts.loads ≡ executed table = loads in
          omega (arith, e, f, l);
      ran =
          let e : executed_runs first ≡ 0 = runs-none (length tree) first start in
          let f : now.runs + executed_runs first ≡ count.runs + executed_runs table = goes.runs honest in
          let l : reply.counts.runs ≡ executed_runs table = runs in
          omega (arith, e, f, l);
    }

-- A run that came to its end did no more than one that is cut off may do.
pub ran-cut : (tree : List PackageTexts) (only : ℕ) (b c : List Entry) (n m : Tally) (r : Judgement) → Ran tree only b c n m r → IsCutOff tree only b c n m
ran-cut tree only b c n m r is = record {
  loads = λ plan is_plan.
      let same : is.plan ≡ plan = unique-plan tree only is.plan plan is.is_plan is_plan in
      let long : loads_of b is.plan ≡ loads_of b plan = ap (λ (i : List (List Input)). loads_of b i) same in
      let loads : r.counts.loads ≡ loads_of b is.plan = is.loads in
      let risen : m.loads ≡ n.loads + r.counts.loads = is.risen in
      omega (arith, long, loads, risen);
  runs = λ plan is_plan.
      let same : is.plan ≡ plan = unique-plan tree only is.plan plan is.is_plan is_plan in
      let long : runs_of b is.plan ≡ runs_of b plan = ap (λ (i : List (List Input)). runs_of b i) same in
      let runs : r.counts.runs ≡ runs_of b is.plan = is.runs in
      let risen : m.runs ≡ n.runs + r.counts.runs = is.ran in
      omega (arith, long, runs, risen);
  cache = λ plan is_plan.
      subst (λ (i : List (List Input)). IsPartKept b c (all_inputs i)) (unique-plan tree only is.plan plan is.is_plan is_plan)
      (record { added = is.cache.added; more = []; is = is.cache.is; part = append-none (map input_of is.cache.added) ∙ is.cache.whole; right = is.cache.right });
}

-- the same run, counted over several kits
pub ran-over : (tree : List PackageTexts) (only : ℕ) (b c : List Entry) (n m over later : Tally) (r : Judgement) → Ran tree only b c n m r → later.loads + n.loads ≡ over.loads + m.loads → later.runs + n.runs ≡ over.runs + m.runs
    → Ran tree only b c over later r
ran-over tree only b c n m over later r is e f = record {
  plan = is.plan;
  is_plan = is.is_plan;
  report = is.report;
  found = is.found;
  facts = is.facts;
  cache = is.cache;
  nodes = is.nodes;
  missing = is.missing;
  loads = is.loads;
  runs = is.runs;
  risen = let h : m.loads ≡ n.loads + r.counts.loads = is.risen in omega (arith, e, h);
  ran = let h : m.runs ≡ n.runs + r.counts.runs = is.ran in omega (arith, f, h);
}

pub cut-over : (tree : List PackageTexts) (only : ℕ) (b c : List Entry) (n m over later : Tally) → IsCutOff tree only b c n m → later.loads + n.loads ≡ over.loads + m.loads → later.runs + n.runs ≡ over.runs + m.runs
    → IsCutOff tree only b c over later
cut-over tree only b c n m over later is e f = record {
  loads = λ plan is_plan. let h : m.loads ≤ n.loads + loads_of b plan = is.loads plan is_plan in omega (arith, e, h);
  runs = λ plan is_plan. let h : m.runs ≤ n.runs + runs_of b plan = is.runs plan is_plan in omega (arith, f, h);
  cache = is.cache;
}
