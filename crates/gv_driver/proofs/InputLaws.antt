-- The rows of a table, and the inputs by which they were looked up.
use Rattle.std.proofs.Common.{◌≡◌, ℕ, zero, suc, ◌+◌, ◌<◌, ◌≤◌, Bool, true, false, if◌then◌else◌, Option, Some, None, List, [], ◌∷◌, ◌++◌, length, slice_get, map, drop, take, refl, sym, ap, ◌∙◌, subst, arith}
use Rattle.std.specs.Prelude.{sum_by}
use Rattle.std.proofs.lemmas.Option.{same_Some, slice_get_within}
use Rattle.std.proofs.lemmas.List.{length-append, length-map}
use Rattle.std.proofs.lemmas.List.Sums.{sum_by-cons}
use Rattle.package_faces.specs.Faces.{Face}
use Rattle.action_graph.specs.Judging.Judged.{Accepts}
use Rattle.fact_cache.specs.declared.texts.Input.{Input}
use Rattle.fact_cache.specs.declared.list.Entry.{Entry}
use Rattle.gv_driver.specs.declared.tree.PackageTexts.{PackageTexts}
use Rattle.gv_driver.specs.declared.node.Node.{Node}
use Rattle.gv_driver.specs.declared.node.RunNode.{RunNode}
use Rattle.gv_driver.specs.Analyzers.{analyzers_of}
use Rattle.gv_driver.specs.Facts.{IsGiven}
use Rattle.gv_driver.specs.Whole.{Checked}
use Rattle.gv_driver.specs.Loads.{IsInput, IsNodeInput, IsRunInput, all_inputs, load_input, run_key, run_keys}
use Rattle.gv_driver.specs.Caches.{IsHonest, is_cached, left_of, load_cost, loads_of, missing_of, one_of, run_cost, runs_of}
use Rattle.gv_driver.specs.Tables.{AreLookedUp, IsLookedUp, executed, executed_runs, fresh_in, fresh_inputs, fresh_node, fresh_runs, loads_in, missing_in, nodes_in, number_in, numbers_in, runs_in, with_fresh}
use Rattle.gv_driver.proofs.MissingLaws.{fresh-missing, get-taken, missing-append}
use Rattle.gv_driver.proofs.Places.{get-unmapped}
use Rattle.gv_driver.proofs.WholeLaws.{same_pack}

-- a list of what each item of another has
choose-at : {X Y : Type 0} (P : ℕ → X → Y → Type 0) (x : X) (y : Y) (xs : List X) (ys : List Y) → P 0 x y
    → ((p : ℕ) (a : X) (b : Y) → slice_get xs p ≡ Some a → slice_get ys p ≡ Some b → P (suc p) a b)
    → (p : ℕ) (a : X) (b : Y) → slice_get (x ∷ xs) p ≡ Some a → slice_get (y ∷ ys) p ≡ Some b → P p a b
choose-at P x y xs ys first rest zero a b h g = subst (λ z. P 0 z b) (same_Some x a h) (subst (λ z. P 0 x z) (same_Some y b g) first)
choose-at P x y xs ys first rest (suc p) a b h g = rest p a b h g

pub choose : {X Y : Type 0} (P : ℕ → X → Y → Type 0) (xs : List X) → ((p : ℕ) (x : X) → slice_get xs p ≡ Some x → (y : Y) × P p x y)
    → (ys : List Y) × (length ys ≡ length xs) × ((p : ℕ) (x : X) (y : Y) → slice_get xs p ≡ Some x → slice_get ys p ≡ Some y → P p x y)
choose P [] f = ([], refl, λ p x y h g. cc)
choose P (x ∷ xs) f =
    let first = f 0 x refl in
    let rest = choose (λ p. P (suc p)) xs (λ p. f (suc p)) in
    (first.0 ∷ rest.0, ap suc rest.1, choose-at P x first.0 xs rest.0 first.1 rest.2)

-- what a node has of its inputs: which are fresh, and how many there are
pub record HasKeys (before : List Entry) (n : Node) (keys : List Input) : Type 0 where
  pub fresh : fresh_node n ≡ missing_of before keys
  pub runs : fresh_runs n.runs ≡ missing_of before (drop 1 keys)
  pub size : length keys ≡ suc (length n.runs)

-- the inputs by which a package was looked up
abbrev pub IsLeft : List Entry → Option Node → List Input → Type 0
IsLeft before None keys = keys ≡ []
IsLeft before (Some n) keys = HasKeys before n keys

-- they are those of p's nodes
abbrev pub AreOf : List PackageTexts → ℕ → ℕ → List Input → Type 0
AreOf tree only p keys = (k : ℕ) (i : Input) → slice_get keys k ≡ Some i → IsNodeInput tree only p k i

-- The inputs of a table's rows, each at its place.
pub record AreInputsOf (tree : List PackageTexts) (only : ℕ) (before : List Entry) (table : List (Option Node)) : Type 0 where
  pub rows : List (List Input)
  pub size : length rows ≡ length table
  pub left : (p : ℕ) (row : Option Node) (keys : List Input) → slice_get table p ≡ Some row → slice_get rows p ≡ Some keys → IsLeft before row keys
  pub of : (p : ℕ) (row : Option Node) (keys : List Input) → slice_get table p ≡ Some row → slice_get rows p ≡ Some keys → AreOf tree only p keys

nothing-at : (k : ℕ) (i : Input) → slice_get [] k ≡ Some i → ⊥
nothing-at zero i e = cc
nothing-at (suc k) i e = cc

some-runs : (runs : List RunNode) (k a : ℕ) → slice_get (numbers_in runs) k ≡ Some a → runs ≡ [] → ⊥
some-runs [] zero a h e = cc
some-runs [] (suc k) a h e = cc
some-runs (r ∷ runs) k a h e = cc

module _ (tree : List PackageTexts) (only : ℕ) (before : List Entry) where
  node-of : (p k : ℕ) (n : Node) (l : IsLookedUp tree only before p n) (i : Input) → IsHonest before → slice_get (load_input l.load ∷ run_keys l.given l.load (numbers_in n.runs)) k ≡ Some i → IsNodeInput tree only p k i
  node-of p zero n l i honest h = record { load = l.load; of = l.of honest; is = sym (same_Some (load_input l.load) i h) }
  node-of p (suc k) n l i honest h =
      let a = get-unmapped (run_key l.given l.load) (numbers_in n.runs) k i h in
      let run = get-unmapped number_in n.runs k a.0 a.1 in
      let of = l.of honest in
      let good = l.good honest (some-runs n.runs k a.0 a.1) in
      let mine : slice_get (analyzers_of only l.pack.stub) k ≡ Some a.0 = get-taken l.done k (analyzers_of only l.pack.stub) a.0 (subst (λ (ns : List ℕ). slice_get ns k ≡ Some a.0) l.numbers a.1) in
      record {
        load = l.load;
        of = of;
        face = good.0;
        good = good.1;
        analyzer = a.0;
        chosen = subst (λ (x : PackageTexts). slice_get (analyzers_of only x.stub) k ≡ Some a.0) (same_pack tree p l.pack of.pack l.at of.at) mine;
        given = l.given;
        are_given = subst (λ (m : ℕ). IsGiven tree m of.numbers (l.given m)) run.2 (l.are_given honest k run.0 run.1);
        is = sym a.2;
      }

  row-keys : (p : ℕ) (n : Node) (l : IsLookedUp tree only before p n) → HasKeys before n (load_input l.load ∷ run_keys l.given l.load (numbers_in n.runs))
  row-keys p n l = record {
    fresh = ap (λ (o : Option Input). with_fresh o (fresh_runs n.runs)) l.left ∙ (ap (λ (ks : List Input). with_fresh (left_of before (load_input l.load)) ks) l.runs ∙ fresh-missing before (load_input l.load) (run_keys l.given l.load (numbers_in n.runs)));
    runs = l.runs;
    size = ap suc (length-map (numbers_in n.runs) (run_key l.given l.load) ∙ length-map n.runs number_in);
  }

  row-input : (table : List (Option Node)) → IsHonest before → AreLookedUp tree only before table
      → (p : ℕ) (row : Option Node) → slice_get table p ≡ Some row → (keys : List Input) × (IsLeft before row keys × AreOf tree only p keys)
  row-input table honest are p None at = ([], (refl, λ k i h. absurd (nothing-at k i h)))
  row-input table honest are p (Some n) at =
      let l = are p n at in
      (load_input l.load ∷ run_keys l.given l.load (numbers_in n.runs), (row-keys p n l, λ k i h. node-of p k n l i honest h))

  -- over an honest cache the rows have inputs
  pub inputs-of : (table : List (Option Node)) → IsHonest before → AreLookedUp tree only before table → AreInputsOf tree only before table
  inputs-of table honest are =
      let c = choose (λ p row keys. IsLeft before row keys × AreOf tree only p keys) table (row-input table honest are) in
      record { rows = c.0; size = c.1; left = λ p row keys h g. (c.2 p row keys h g).0; of = λ p row keys h g. (c.2 p row keys h g).1 }

-- ---- what the rows tell of the inputs

abbrev AllLeft : List Entry → List (Option Node) → List (List Input) → Type 0
AllLeft before table rows = (p : ℕ) (row : Option Node) (keys : List Input) → slice_get table p ≡ Some row → slice_get rows p ≡ Some keys → IsLeft before row keys

fresh-row : (before : List Entry) (row : Option Node) (keys : List Input) → IsLeft before row keys → fresh_in row ≡ missing_of before keys
fresh-row before None keys h = ap (λ (ks : List Input). missing_of before ks) (sym h)
fresh-row before (Some n) keys h = h.fresh

runs-row : (before : List Entry) (row : Option Node) (keys : List Input) → IsLeft before row keys → runs_in row ≡ run_cost before keys
runs-row before None keys h = ap (λ (ks : List Input). run_cost before ks) (sym h)
runs-row before (Some n) keys h = ap (λ (ks : List Input). length ks) h.runs

nodes-row : (before : List Entry) (row : Option Node) (keys : List Input) → IsLeft before row keys → nodes_in row ≡ length keys
nodes-row before None keys h = ap (λ (ks : List Input). length ks) (sym h)
nodes-row before (Some n) keys h = sym h.size

fresh-left : (before : List Entry) (table : List (Option Node)) (rows : List (List Input)) → length rows ≡ length table → AllLeft before table rows → fresh_inputs table ≡ missing_of before (all_inputs rows)
fresh-left before [] [] l f = refl
fresh-left before [] (y ∷ ys) l f = let e : suc (length ys) ≡ 0 = l in absurd (omega arith)
fresh-left before (x ∷ xs) [] l f = let e : 0 ≡ suc (length xs) = l in absurd (omega arith)
fresh-left before (x ∷ xs) (y ∷ ys) l f =
    let e : suc (length ys) ≡ suc (length xs) = l in
    ap (λ (ks : List Input). ks ++ fresh_inputs xs) (fresh-row before x y (f 0 x y refl refl))
    ∙ (ap (λ (ks : List Input). missing_of before y ++ ks) (fresh-left before xs ys (omega arith) (λ p. f (suc p)))
    ∙ sym (missing-append before y (all_inputs ys)))

sums : (f : Option Node → ℕ) (g : List Input → ℕ) (table : List (Option Node)) (rows : List (List Input)) → length rows ≡ length table
    → ((p : ℕ) (row : Option Node) (keys : List Input) → slice_get table p ≡ Some row → slice_get rows p ≡ Some keys → f row ≡ g keys) → sum_by f table ≡ sum_by g rows
sums f g [] [] l h = refl
sums f g [] (y ∷ ys) l h = let e : suc (length ys) ≡ 0 = l in absurd (omega arith)
sums f g (x ∷ xs) [] l h = let e : 0 ≡ suc (length xs) = l in absurd (omega arith)
sums f g (x ∷ xs) (y ∷ ys) l h =
    let e : suc (length ys) ≡ suc (length xs) = l in
    let first : f x ≡ g y = h 0 x y refl refl in
    let rest : sum_by f xs ≡ sum_by g ys = sums f g xs ys (omega arith) (λ p. h (suc p)) in
    let a : sum_by f (x ∷ xs) ≡ f x + sum_by f xs = sum_by-cons f x xs in
    let b : sum_by g (y ∷ ys) ≡ g y + sum_by g ys = sum_by-cons g y ys in
    omega (arith, first, rest, a, b)

abbrev size_of : List Input → ℕ
size_of keys = length keys

abbrev missing_size : List Entry → List Input → ℕ
missing_size before keys = length (missing_of before keys)

all-size : (rows : List (List Input)) → length (all_inputs rows) ≡ sum_by size_of rows
all-size [] = refl
all-size (y ∷ ys) =
    let a : length (y ++ all_inputs ys) ≡ length y + length (all_inputs ys) = length-append y (all_inputs ys) in
    let b : sum_by size_of (y ∷ ys) ≡ length y + sum_by size_of ys = sum_by-cons size_of y ys in
    let h : length (all_inputs ys) ≡ sum_by size_of ys = all-size ys in
    omega (arith, a, b, h)

missing-size : (before : List Entry) (rows : List (List Input)) → length (missing_of before (all_inputs rows)) ≡ sum_by (missing_size before) rows
missing-size before [] = refl
missing-size before (y ∷ ys) =
    let e : length (missing_of before (y ++ all_inputs ys)) ≡ length (missing_of before y ++ missing_of before (all_inputs ys)) = ap (λ (l : List Input). length l) (missing-append before y (all_inputs ys)) in
    let a : length (missing_of before y ++ missing_of before (all_inputs ys)) ≡ length (missing_of before y) + length (missing_of before (all_inputs ys)) = length-append (missing_of before y) (missing_of before (all_inputs ys)) in
    let b : sum_by (missing_size before) (y ∷ ys) ≡ length (missing_of before y) + sum_by (missing_size before) ys = sum_by-cons (missing_size before) y ys in
    let h : length (missing_of before (all_inputs ys)) ≡ sum_by (missing_size before) ys = missing-size before ys in
    omega (arith, e, a, b, h)

module _ (tree : List PackageTexts) (only : ℕ) (before : List Entry) (table : List (Option Node)) (are : AreInputsOf tree only before table) where
  -- what is fresh is what is missing
  pub fresh-all : fresh_inputs table ≡ missing_of before (all_inputs are.rows)
  fresh-all = fresh-left before table are.rows are.size are.left

  pub loads-all : executed table ≡ loads_of before are.rows
  loads-all = sums loads_in (load_cost before) table are.rows are.size (λ p row keys h g. ap one_of (fresh-row before row keys (are.left p row keys h g)))

  pub runs-all : executed_runs table ≡ runs_of before are.rows
  runs-all = sums runs_in (run_cost before) table are.rows are.size (λ p row keys h g. runs-row before row keys (are.left p row keys h g))

  pub nodes-all : sum_by nodes_in table ≡ length (all_inputs are.rows)
  nodes-all = sums nodes_in size_of table are.rows are.size (λ p row keys h g. nodes-row before row keys (are.left p row keys h g)) ∙ sym (all-size are.rows)

  pub missing-all : sum_by missing_in table ≡ length (missing_of before (all_inputs are.rows))
  missing-all = sums missing_in (missing_size before) table are.rows are.size (λ p row keys h g. ap (λ (l : List Input). length l) (fresh-row before row keys (are.left p row keys h g))) ∙ sym (missing-size before are.rows)
