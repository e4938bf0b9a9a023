-- A table of nodes, when a node is put into it.
use Rattle.std.proofs.Common.{◌≡◌, ℕ, ◌<◌, ◌≤◌, ◌+◌, ◌*◌, inl, inr, Bool, true, false, if◌then◌else◌, Option, Some, None, List, [], ◌∷◌, length, slice_get, set, get_or, replicate, take, refl, sym, ap, ◌∙◌, subst, arith, zero, suc}
use Rattle.std.specs.List.{Contains}
use Rattle.std.specs.Prelude.{sum_by}
use Rattle.std.proofs.Math.ListN.{length-set}
use Rattle.std.proofs.lemmas.List.{length-map}
use Rattle.std.proofs.lemmas.Option.{same_Some, slice_get_within, get_or_from_slice_get}
use Rattle.std.proofs.lemmas.List.Sums.{sum_by-set, sum_by-cons}
use Rattle.fact_cache.specs.declared.texts.Input.{Input}
use Rattle.fact_cache.specs.declared.list.Entry.{Entry}
use Rattle.gv_driver.specs.declared.tree.PackageTexts.{PackageTexts}
use Rattle.gv_driver.specs.declared.node.Node.{Node}
use Rattle.gv_driver.specs.Analyzers.{analyzers_of}
use Rattle.gv_driver.specs.Trees.{Imports}
use Rattle.gv_driver.specs.Caches.{IsHonest}
use Rattle.gv_driver.specs.Tables.{AreLookedUp, AreShort, IsRightNode, AreRight, AreRows, IsLookedUp, IsTable, IsReady, executed, executed_runs, loads_in, number_in, runs_in, runs_of_node, waiting, weight}
use Rattle.gv_driver.specs.Runs.{Goes, Stops}
use Rattle.gv_driver.specs.Tallies.{Tally}
use Rattle.gv_driver.proofs.AnalyzerLaws.{analyzers-few}
use Rattle.gv_driver.proofs.MissingLaws.{one-le, take-le}
use Rattle.gv_driver.proofs.Places.{get-set_cases}
use Rattle.gv_driver.proofs.WholeLaws.{same_pack}
use Rattle.gv_driver.proofs.ReachLaws.{good-kept}

sum-set : (f : Option Node → ℕ) (table : List (Option Node)) (p : ℕ) (n : Node) → slice_get table p ≡ Some None → f None ≡ 0 → sum_by f (set table p (Some n)) ≡ sum_by f table + f (Some n)
sum-set f table p n h none =
    let within : p < length table = slice_get_within table p None h in
    let e : get_or table p None ≡ None = get_or_from_slice_get table p None None h in
    let g : f (get_or table p None) ≡ f None = ap f e in
    let s : sum_by f (set table p (Some n)) + f (get_or table p None) ≡ sum_by f table + f (Some n) = sum_by-set f table p (Some n) None within in
    omega (arith, g, s, none)

pub executed-set : (table : List (Option Node)) (p : ℕ) (n : Node) → slice_get table p ≡ Some None → executed (set table p (Some n)) ≡ executed table + loads_in (Some n)
executed-set table p n h = sum-set loads_in table p n h refl

pub runs-set : (table : List (Option Node)) (p : ℕ) (n : Node) → slice_get table p ≡ Some None → executed_runs (set table p (Some n)) ≡ executed_runs table + runs_in (Some n)
runs-set table p n h = sum-set runs_in table p n h refl

pub waiting-set : (table : List (Option Node)) (p : ℕ) (n : Node) → slice_get table p ≡ Some None → waiting (set table p (Some n)) + 1 ≡ waiting table
waiting-set table p n h =
    let within : p < length table = slice_get_within table p None h in
    let e : get_or table p None ≡ None = get_or_from_slice_get table p None None h in
    let f : weight (get_or table p None) ≡ 1 = ap weight e in
    let s : waiting (set table p (Some n)) + weight (get_or table p None) ≡ waiting table + 0 = sum_by-set weight table p (Some n) None within in
    omega (arith, f, s)

pub loads-le : (n : Node) → loads_in (Some n) ≤ 1
loads-le n = one-le _

imports-in : (tree : List PackageTexts) (p q : ℕ) (pack : PackageTexts) → slice_get tree p ≡ Some pack → Imports tree p q → Contains pack.imports q
imports-in tree p q pack at (other, h, c) = subst (λ (x : PackageTexts). Contains x.imports q) (same_pack tree p other pack h at) c

right-set : (tree : List PackageTexts) (only : ℕ) (table : List (Option Node)) (p : ℕ) (n : Node) → AreRight tree only table → IsRightNode tree only p n → AreRight tree only (set table p (Some n))
right-set tree only table p n is right = record {
  size = length-set table p (Some n) ∙ is.size;
  node = λ q m h. elim (get-set_cases table p q (Some n) (Some m) h) [
    | inl e ↦ subst (λ (x : ℕ). IsRightNode tree only x m) (sym e.0) (subst (λ (x : Node). IsRightNode tree only p x) (same_Some n m e.1) right)
    | inr was ↦ is.node q m was
  ];
}

pub looked-set : (tree : List PackageTexts) (only : ℕ) (before : List Entry) (table : List (Option Node)) (p : ℕ) (n : Node) → AreLookedUp tree only before table → IsLookedUp tree only before p n
    → AreLookedUp tree only before (set table p (Some n))
looked-set tree only before table p n is looked q m h = elim (get-set_cases table p q (Some n) (Some m) h) [
  | inl e ↦ subst (λ (x : ℕ). IsLookedUp tree only before x m) (sym e.0) (subst (λ (x : Node). IsLookedUp tree only before p x) (same_Some n m e.1) looked)
  | inr was ↦ is q m was
]

pub table-set : (tree : List PackageTexts) (only : ℕ) (before : List Entry) (table : List (Option Node)) (p : ℕ) (n : Node) → IsTable tree only before table → IsReady tree table p
    → IsLookedUp tree only before p n → (IsHonest before → IsRightNode tree only p n) → IsTable tree only before (set table p (Some n))
table-set tree only before table p n is ready looked right = record {
  size = length-set table p (Some n) ∙ is.size;
  closed = λ q r m h import. good-kept table p r n ready.waits (elim (get-set_cases table p q (Some n) (Some m) h) [
    | inl e ↦ ready.accepted r (imports-in tree p r ready.pack ready.at (subst (λ (x : ℕ). Imports tree x r) e.0 import))
    | inr was ↦ is.closed q r m was import
  ]);
  looked = looked-set tree only before table p n is.looked looked;
  right = λ honest. right-set tree only table p n (is.right honest) (right honest);
}

pub goes-refl : (tree : List PackageTexts) (only : ℕ) (before : List Entry) (table : List (Option Node)) (count : Tally) → IsTable tree only before table → Goes tree only before table table count count
goes-refl tree only before table count is = record { right = is; loads = refl; runs = λ honest. refl; room = omega arith; most = omega arith }

pub goes-on : (tree : List PackageTexts) (only : ℕ) (before : List Entry) (first table next : List (Option Node)) (begun count now : Tally) → Goes tree only before first table begun count → Goes tree only before table next count now
    → Goes tree only before first next begun now
goes-on tree only before first table next begun count now a b =
    let one : count.loads + executed first ≡ begun.loads + executed table = a.loads in
    let two : now.loads + executed table ≡ count.loads + executed next = b.loads in
    let three : count.loads + waiting table ≤ begun.loads + waiting first = a.room in
    let four : now.loads + waiting next ≤ count.loads + waiting table = b.room in
    let five : count.runs + 15 * waiting table ≤ begun.runs + 15 * waiting first = a.most in
    let six : now.runs + 15 * waiting next ≤ count.runs + 15 * waiting table = b.most in
    record {
      right = b.right;
      loads = omega (arith, one, two);
      runs = λ honest. (
          let x : count.runs + executed_runs first ≡ begun.runs + executed_runs table = a.runs honest in
          let y : now.runs + executed_runs table ≡ count.runs + executed_runs next = b.runs honest in
          omega (arith, x, y));
      room = omega (arith, three, four);
      most = omega (arith, five, six);
    }

-- ---- cut off

-- nothing was begun
pub stops-none : (tree : List PackageTexts) (only : ℕ) (before : List Entry) (table : List (Option Node)) (count : Tally) → IsTable tree only before table → Stops tree only before table count count
stops-none tree only before table count is = record {
  broken = table;
  size = is.size;
  looked = is.looked;
  loads = omega arith;
  runs = λ honest. omega arith;
  room = omega arith;
  most = omega arith;
}

-- after some of the way
pub stops-on : (tree : List PackageTexts) (only : ℕ) (before : List Entry) (first table : List (Option Node)) (begun count now : Tally) → Goes tree only before first table begun count → Stops tree only before table count now
    → Stops tree only before first begun now
stops-on tree only before first table begun count now a b =
    let one : count.loads + executed first ≡ begun.loads + executed table = a.loads in
    let two : now.loads + executed table ≤ count.loads + executed b.broken = b.loads in
    let three : count.loads + waiting table ≤ begun.loads + waiting first = a.room in
    let four : now.loads ≤ count.loads + waiting table = b.room in
    let five : count.runs + 15 * waiting table ≤ begun.runs + 15 * waiting first = a.most in
    let six : now.runs ≤ count.runs + 15 * waiting table = b.most in
    record {
      broken = b.broken;
      size = b.size;
      looked = b.looked;
      loads = omega (arith, one, two);
      runs = λ honest. (
          let x : count.runs + executed_runs first ≡ begun.runs + executed_runs table = a.runs honest in
          let y : now.runs + executed_runs table ≤ count.runs + executed_runs b.broken = b.runs honest in
          omega (arith, x, y));
      room = omega (arith, three, four);
      most = omega (arith, five, six);
    }

-- all of it was gone through
pub stops-goes : (tree : List PackageTexts) (only : ℕ) (before : List Entry) (first table : List (Option Node)) (begun now : Tally) → Goes tree only before first table begun now → Stops tree only before first begun now
stops-goes tree only before first table begun now a = stops-on tree only before first table begun now now a (stops-none tree only before table now a.right)

-- a package has at most fifteen runs
pub table-short : (tree : List PackageTexts) (only : ℕ) (before : List Entry) (table : List (Option Node)) → IsTable tree only before table → AreShort table
table-short tree only before table is p None at = omega arith
table-short tree only before table is p (Some n) at =
    let l = is.looked p n at in
    let a : length n.runs ≡ length (take l.done (analyzers_of only l.pack.stub)) = sym (length-map n.runs number_in) ∙ ap (λ (ns : List ℕ). length ns) l.numbers in
    let b : length (take l.done (analyzers_of only l.pack.stub)) ≤ length (analyzers_of only l.pack.stub) = take-le l.done (analyzers_of only l.pack.stub) in
    let c : length (analyzers_of only l.pack.stub) ≤ 15 = analyzers-few only l.pack.stub in
    omega (arith, a, b, c)

abbrev nones : ℕ → List (Option Node)
nones n = replicate n None

no-node : (n p : ℕ) (m : Node) → slice_get (replicate n None) p ≡ Some (Some m) → ⊥
no-node zero p m h = cc
no-node (suc n) zero m h = let e : None ≡ Some m = same_Some None (Some m) h in cc
no-node (suc n) (suc p) m h = no-node n p m h

length-none : (n : ℕ) → length (nones n) ≡ n
length-none zero = refl
length-none (suc n) = ap (λ m. suc m) (length-none n)

-- the table in which nothing is done
pub table-none : (tree : List PackageTexts) (only : ℕ) (before : List Entry) (table : List (Option Node)) → table ≡ replicate (length tree) None → IsTable tree only before table
table-none tree only before table e = rw e (record {
  size = length-none (length tree);
  closed = λ p q n h import. absurd (no-node (length tree) p n h);
  looked = λ p n h. absurd (no-node (length tree) p n h);
  right = λ honest. record { size = length-none (length tree); node = λ p n h. absurd (no-node (length tree) p n h) };
})

-- nor are there rows
pub rows-none : (tree : List PackageTexts) (before : List Entry) (table : List (Option Node)) → table ≡ replicate (length tree) None → AreRows tree before table
rows-none tree before table e = rw e (record { good = λ p n h. absurd (no-node (length tree) p n h); reached = λ honest p n f h. absurd (no-node (length tree) p n h) })

waiting-replicate : (n : ℕ) → waiting (replicate n None) ≡ n
waiting-replicate zero = refl
waiting-replicate (suc n) =
    let e : waiting (None ∷ replicate n None) ≡ 1 + waiting (replicate n None) = sum_by-cons weight None (replicate n None) in
    let h : waiting (replicate n None) ≡ n = waiting-replicate n in
    omega (arith, e, h)

pub waiting-none : (n : ℕ) (table : List (Option Node)) → table ≡ replicate n None → waiting table ≡ n
waiting-none n table e = ap waiting e ∙ waiting-replicate n

none-replicate : (f : Option Node → ℕ) (n : ℕ) → f None ≡ 0 → sum_by f (replicate n None) ≡ 0
none-replicate f zero none = refl
none-replicate f (suc n) none =
    let e : sum_by f (None ∷ replicate n None) ≡ f None + sum_by f (replicate n None) = sum_by-cons f None (replicate n None) in
    let h : sum_by f (replicate n None) ≡ 0 = none-replicate f n none in
    omega (arith, e, h, none)

pub executed-none : (n : ℕ) (table : List (Option Node)) → table ≡ replicate n None → executed table ≡ 0
executed-none n table e = ap executed e ∙ none-replicate loads_in n refl

pub runs-none : (n : ℕ) (table : List (Option Node)) → table ≡ replicate n None → executed_runs table ≡ 0
runs-none n table e = ap executed_runs e ∙ none-replicate runs_in n refl
