-- The rows of a table give the environment of each package.
use Rattle.std.proofs.Common.{◌≡◌, ◌⊎◌, inl, inr, ℕ, ◌<◌, ◌↔◌, true, false, Option, Some, None, List, [], ◌∷◌, length, slice_get, replicate, set, map, refl, sym, ap, ◌∙◌, subst, arith}
use Rattle.std.specs.List.{Contains}
use Rattle.std.proofs.lemmas.Option.{same_Some, slice_get_within}
use Rattle.std.proofs.lemmas.List.{length-map}
use Rattle.export_text.specs.Faces.{IsFaceText}
use Rattle.export_text.specs.Mentions.{AreMentions, IsMentioned}
use Rattle.package_faces.specs.Faces.{Face}
use Rattle.action_graph.specs.Nodes.{Named}
use Rattle.action_graph.specs.Judging.{Env, Judged, Tells}
use Rattle.action_graph.specs.Judging.Judged.{Accepts, Refuses}
use Rattle.action_graph.proofs.JudgingLaws.{tells_accepted, tells_refused, same_accepts}
use Rattle.fact_cache.specs.declared.list.Entry.{Entry}
use Rattle.gv_driver.specs.declared.tree.PackageTexts.{PackageTexts}
use Rattle.gv_driver.specs.declared.node.Answer.{Answer}
use Rattle.gv_driver.specs.declared.node.Answer.TheVariants.{Accepted, Refused}
use Rattle.gv_driver.specs.declared.node.Node.{Node}
use Rattle.gv_driver.specs.Trees.{IsTree}
use Rattle.gv_driver.specs.Whole.{IsEnv, Checked, Reaches}
use Rattle.gv_driver.specs.Whole.Reaches.{at_once, onward}
use Rattle.gv_driver.specs.Caches.{IsHonest}
use Rattle.gv_driver.specs.Waves.{IsOwnRow}
use Rattle.gv_driver.specs.Rows.{merged, of_paths, path_in, reach_in, with_each}
use Rattle.gv_driver.specs.Loads.{IsExport, IsLoadOf}
use Rattle.gv_driver.specs.Tables.{AreGood, AreRight, AreRows, IsGood, IsReady, IsRightNode, IsRowOf, IsTable, accepted_in, answer_text, export_in, export_part, load_from, pair_at}
use Rattle.gv_driver.proofs.Places.{at-contained, contains-at, get-mapped, get-set_cases, get-set_other}
use Rattle.gv_driver.proofs.AroundLaws.{IsNearby, reach-low, row-env}
use Rattle.gv_driver.proofs.RowLemmas.{places-rise}
use Rattle.gv_driver.proofs.EnvLaws.{IsFrom, merged-from, in-merged, of-paths, in-paths}
use Rattle.gv_driver.proofs.WholeLaws.{judged-of, same_pack, same-number, shows-number, unique, unique-face}
use Rattle.gv_driver.proofs.LawfulLaws.{mentions-of}
use Rattle.gv_driver.proofs.TableLaws.{GoodNode, good-node}

-- ---- over any cache

-- the node of a package that is done and accepted
node-by : (table : List (Option Node)) (q : ℕ) (o : Option (Option Node)) → slice_get table q ≡ o → accepted_in o ≡ true → (n : Node) × (slice_get table q ≡ Some (Some n))
node-by table q None at is = cc
node-by table q (Some None) at is = cc
node-by table q (Some (Some n)) at is = (n, at)

pub node-of : (table : List (Option Node)) (q : ℕ) → IsGood table q → (n : Node) × (slice_get table q ≡ Some (Some n))
node-of table q is = node-by table q (slice_get table q) refl is

-- the row of such a package
row-in : (table : List (Option Node)) (s q : ℕ) (n : Node) → slice_get table s ≡ Some (Some n) → Contains (reach_in (slice_get table s)) q → Contains n.reach q
row-in table s q n at c = subst (λ (o : Option (Option Node)). Contains (reach_in o) q) at c

in-row : (table : List (Option Node)) (s q : ℕ) (n : Node) → slice_get table s ≡ Some (Some n) → Contains n.reach q → Contains (reach_in (slice_get table s)) q
in-row table s q n at c = subst (λ (o : Option (Option Node)). Contains (reach_in o) q) (sym at) c

pub good-within : (table : List (Option Node)) (q : ℕ) → IsGood table q → q < length table
good-within table q is = let n = node-of table q is in slice_get_within table q (Some n.0) n.1

-- what is reached from packages that are accepted is accepted
pub good-merged : (tree : List PackageTexts) (before : List Entry) (table : List (Option Node)) (numbers : List ℕ) → AreRows tree before table → AreGood table numbers → AreGood table (merged table numbers)
good-merged tree before table numbers rows good q c =
    let from = merged-from table numbers q c in
    elim from.2 [
      | inl e ↦ subst (λ (n : ℕ). IsGood table n) e (good from.0 from.1)
      | inr h ↦ (let n = node-of table from.0 (good from.0 from.1) in rows.good from.0 n.0 n.1 q (row-in table from.0 q n.0 n.1 h))
    ]

-- ---- over an honest cache

module _ {only : ℕ} (tree : List PackageTexts) (before : List Entry) (table : List (Option Node)) (honest : IsHonest before) (right : AreRight tree only table) (rows : AreRows tree before table) (formed : IsTree tree) where
  -- the row of an accepted package holds what is reached from it
  reached-from : (s q : ℕ) (f : Face) → IsGood table s → Checked tree s (Accepts f) → Contains (reach_in (slice_get table s)) q → Reaches tree q f
  reached-from s q f ok good c = let n = node-of table s ok in (rows.reached honest s n.0 f n.1 good q).0 (row-in table s q n.0 n.1 c)

  has-reached : (s q : ℕ) (f : Face) → IsGood table s → Checked tree s (Accepts f) → Reaches tree q f → Contains (reach_in (slice_get table s)) q
  has-reached s q f ok good r = let n = node-of table s ok in in-row table s q n.0 n.1 ((rows.reached honest s n.0 f n.1 good q).1 r)

  module _ (p : ℕ) (pack : PackageTexts) (at : slice_get tree p ≡ Some pack) (good : AreGood table pack.imports) where
    abbrev pub row : List ℕ
    row = merged table pack.imports

    good-imports : (q : ℕ) → Contains pack.imports q → (f : Face) × Checked tree q (Accepts f)
    good-imports q c = let g = good-node tree table q right (good q c) in (g.face, g.good)

    row-from : (q : ℕ) → Contains row q → IsNearby tree pack.imports q
    row-from q c =
        let from = merged-from table pack.imports q c in
        let f = good-imports from.0 from.1 in (
          from.0,
          f.0,
          from.1,
          f.1,
          elim from.2 [
            | inl e ↦ inl e
            | inr h ↦ inr (reached-from from.0 q f.0 (good from.0 from.1) f.1 h)
          ],
        )

    row-to : (q : ℕ) → IsNearby tree pack.imports q → Contains row q
    row-to q n = elim n.4 [
      | inl e ↦ in-merged table pack.imports q n.0 (subst (λ (x : ℕ). x < length table) e (good-within table n.0 (good n.0 n.2))) n.2 (inl e)
      | inr r ↦ (let size : length table ≡ length tree = right.size in let inside : q < length tree = reach-low tree q n.1 r in
          in-merged table pack.imports q n.0 (omega (arith, inside, size)) n.2 (inr (has-reached n.0 q n.1 (good n.0 n.2) n.3 r)))
    ]

    -- the merged row is the environment
    env-is : (faces : Env) × IsEnv tree p row faces
    env-is = row-env tree formed p pack at good-imports row (places-rise (with_each table pack.imports (replicate (length table) false)) (length table)) row-from row-to

    export-at : (faces : Env) → IsEnv tree p row faces → (k q : ℕ) (f : Face) (x : Named) → slice_get row k ≡ Some q → slice_get faces k ≡ Some f → slice_get (map (pair_at tree table) row) k ≡ Some x → IsExport tree q f x
    export-at faces is k q f x a b c =
        let g = good-node tree table q right (good-merged tree before table pack.imports rows good q (contains-at row k q a)) in
        let same : g.face ≡ f = unique-face tree q g.face f g.good (is.good q f (k, a, b)) in
        let made : pair_at tree table q ≡ x = same_Some (pair_at tree table q) x (sym (get-mapped (pair_at tree table) row k q a) ∙ c) in
        subst (λ (y : Named). IsExport tree q f y) made (record {
          other = g.other;
          at = g.other_at;
          path = ap path_in g.other_at;
          spelled = subst (λ (o : Option (Option Node)). IsFaceText f (export_in o)) (sym g.at) (subst (λ (z : Face). IsFaceText z (export_part g.node.answer)) same g.spelled);
        })

    row-load : pack.sound ≡ true → IsLoadOf tree p (load_from tree table pack)
    row-load sound = record {
      pack = pack;
      at = at;
      sound = sound;
      path = refl;
      files = refl;
      numbers = row;
      faces = env-is.0;
      are = env-is.1;
      env = record { size = length-map row (pair_at tree table); each = λ k q f x a b c. export-at env-is.0 env-is.1 k q f x a b c };
    }

    -- ---- the row of the package itself

    -- a package that is mentioned is of the environment
    mention-in : (f : Face) → Checked tree p (Accepts f) → (r : ℕ) (other : PackageTexts) → IsMentioned f other.path → slice_get tree r ≡ Some other → Contains row r
    mention-in f ok r other m there =
        let x = mentions-of tree p f other.path ok m in
        let shows = x.inside row env-is.0 env-is.1 in
        let same : x.r ≡ r = same-number tree x.r r x.seen.other other formed x.seen.at there (sym x.seen.path_is ∙ x.path_is) in
        subst (λ (n : ℕ). Contains row n) same (shows-number row env-is.0 x.r x.face shows)

    module _ (f : Face) (ok : Checked tree p (Accepts f)) (paths : List (List ℕ)) (are : AreMentions f paths) where
      abbrev pub mine : List ℕ
      mine = of_paths tree paths row

      good-mine : (q : ℕ) → Contains mine q → IsGood table q
      good-mine q c = good-merged tree before table pack.imports rows good q (of-paths tree paths row q c).0

      mine-mentioned : (s : ℕ) → Contains mine s → (other : PackageTexts) × (slice_get tree s ≡ Some other) × IsMentioned f other.path
      mine-mentioned s c =
          let g = good-node tree table s right (good-mine s c) in
          let path : Contains paths g.other.path = subst (λ (o : Option PackageTexts). Contains paths (path_in o)) g.other_at (of-paths tree paths row s c).1 in
          (g.other, g.other_at, are.each g.other.path path)

      in-mine : (s : ℕ) (other : PackageTexts) → IsMentioned f other.path → slice_get tree s ≡ Some other → Contains mine s
      in-mine s other m there =
          in-paths tree paths row s (mention-in f ok s other m there) (subst (λ (o : Option PackageTexts). Contains paths (path_in o)) (sym there) (are.all other.path m))

      pub row-reaches : (r : ℕ) → Contains (merged table mine) r → Reaches tree r f
      row-reaches r c =
          let from = merged-from table mine r c in
          let m = mine-mentioned from.0 from.1 in
          elim from.2 [
            | inl e ↦ subst (λ (n : ℕ). Reaches tree n f) e (at_once f m.0 m.2 m.1)
            | inr h ↦ (let g = good-node tree table from.0 right (good-mine from.0 from.1) in
                onward f from.0 m.0 g.face m.2 m.1 g.good (reached-from from.0 r g.face (good-mine from.0 from.1) g.good h))
          ]

      row-holds : (r : ℕ) (g : Face) → r < length table → g ≡ f → Reaches tree r g → Contains (merged table mine) r
      row-holds r _ low e (at_once g other m there) = in-merged table mine r r low (in-mine r other (subst (λ (x : Face). IsMentioned x other.path) e m) there) (inl refl)
      row-holds r _ low e (onward g s other h m there good2 more) =
          let c = in-mine s other (subst (λ (x : Face). IsMentioned x other.path) e m) there in
          in-merged table mine r s low c (inr (has-reached s r h (good-mine s c) good2 more))

      pub row-has : (r : ℕ) → Reaches tree r f → Contains (merged table mine) r
      row-has r reaches =
          let size : length table ≡ length tree = right.size in
          let inside : r < length tree = reach-low tree r f reaches in
          row-holds r f (omega (arith, inside, size)) refl reaches

-- what a ready package's load is made of is its load
pub ready-load : {only : ℕ} (tree : List PackageTexts) (before : List Entry) (table : List (Option Node)) (p : ℕ) (pack : PackageTexts) → IsTree tree → IsHonest before → AreRight tree only table → AreRows tree before table → slice_get tree p ≡ Some pack
    → IsReady tree table p → IsLoadOf tree p (load_from tree table pack)
ready-load tree before table p pack formed honest right rows at ready =
    let same : ready.pack ≡ pack = same_pack tree p ready.pack pack ready.at at in
    row-load tree before table honest right rows formed p pack at (subst (λ (x : PackageTexts). AreGood table x.imports) same ready.accepted) (ap (λ (k : PackageTexts). k.sound) (sym same) ∙ ready.sound)

-- over the merged row
pub ready-numbers : {only : ℕ} (tree : List PackageTexts) (before : List Entry) (table : List (Option Node)) (p : ℕ) (pack : PackageTexts) (formed : IsTree tree) (honest : IsHonest before) (right : AreRight tree only table)
    (rows : AreRows tree before table) (at : slice_get tree p ≡ Some pack) (ready : IsReady tree table p) → (ready-load tree before table p pack formed honest right rows at ready).numbers ≡ merged table pack.imports
unfolding ready-load row-load
ready-numbers tree before table p pack formed honest right rows at ready = refl

-- ---- a node is put

good-other : (table : List (Option Node)) (p q : ℕ) → slice_get table p ≡ Some None → IsGood table q → q ≡ p → ⊥
good-other table p q waits ok e =
    let at : accepted_in (slice_get table q) ≡ false = ap accepted_in (ap (λ n. slice_get table n) e ∙ waits) in cc

pub good-kept : (table : List (Option Node)) (p q : ℕ) (n : Node) → slice_get table p ≡ Some None → IsGood table q → IsGood (set table p (Some n)) q
good-kept table p q n waits ok = ap accepted_in (get-set_other table p q (Some n) (good-other table p q waits ok)) ∙ ok

text-of : (a : Answer) (i : Face) (v : Judged) → v ≡ Accepts i → Tells v (answer_text a) → IsFaceText i (export_part a)
text-of (Accepted export) i v e tells =
    let t = tells_accepted v export tells in
    let same : t.0 ≡ i = same_accepts t.0 i (sym t.1 ∙ e) in
    subst (λ (x : Face). IsFaceText x export) same t.2
text-of (Refused marks) i v e tells = (let t = tells_refused v marks tells in let wrong : Accepts i ≡ Refuses t.0 = sym e ∙ t.1 in absurd cc)

-- the row of a ready package, which is made of what its text mentions
pub own-row : {only : ℕ} (tree : List PackageTexts) (before : List Entry) (table : List (Option Node)) (p : ℕ) (pack : PackageTexts) (node : Node) → IsTree tree → IsTable tree only before table → AreRows tree before table
    → slice_get tree p ≡ Some pack → IsReady tree table p → (IsHonest before → IsRightNode tree only p node)
    → IsRowOf tree table (merged table pack.imports) (export_part node.answer) node.reach → IsOwnRow tree before table p node
own-row tree before table p pack node formed is rows at ready right made = record { good = own-good; reached = own-reached }
  where
    accepted : AreGood table pack.imports
    accepted = subst (λ (x : PackageTexts). AreGood table x.imports) (same_pack tree p ready.pack pack ready.at at) ready.accepted

    own-good : AreGood table node.reach
    own-good =
        let numbers = of_paths tree made.paths (merged table pack.imports) in
        let all : AreGood table numbers = λ q c. good-merged tree before table pack.imports rows accepted q (of-paths tree made.paths (merged table pack.imports) q c).0 in
        subst (λ (l : List ℕ). AreGood table l) (sym made.is) (good-merged tree before table numbers rows all)

    own-reached : IsHonest before → (f : Face) → Checked tree p (Accepts f) → (r : ℕ) → Contains node.reach r ↔ Reaches tree r f
    own-reached honest f ok r =
        let n = right honest in
        let j = judged-of tree p n.load (answer_text node.answer) n.of n.outcome in
        let text : IsFaceText f (export_part node.answer) = text-of node.answer f j.0 (unique tree p j.0 (Accepts f) j.1 ok) j.2 in
        let are = made.told f text in
        let numbers = of_paths tree made.paths (merged table pack.imports) in (
          λ c. row-reaches tree before table honest (is.right honest) rows formed p pack at accepted f ok made.paths are r (subst (λ (l : List ℕ). Contains l r) made.is c),
          λ reaches. subst (λ (l : List ℕ). Contains l r) (sym made.is) (row-has tree before table honest (is.right honest) rows formed p pack at accepted f ok made.paths are r reaches),
        )

-- the rows after p's node is put
pub rows-put : (tree : List PackageTexts) (before : List Entry) (table : List (Option Node)) (p : ℕ) (node : Node) → slice_get table p ≡ Some None → AreRows tree before table → IsOwnRow tree before table p node
    → AreRows tree before (set table p (Some node))
rows-put tree before table p node waits rows own = record { good = good; reached = reached }
  where
    good : (q : ℕ) (n : Node) → slice_get (set table p (Some node)) q ≡ Some (Some n) → AreGood (set table p (Some node)) n.reach
    good q n h r c = good-kept table p r node waits (elim (get-set_cases table p q (Some node) (Some n) h) [
      | inl e ↦ own.good r (subst (λ (x : Node). Contains x.reach r) (sym (same_Some node n e.1)) c)
      | inr was ↦ rows.good q n was r c
    ])

    reached : IsHonest before → (q : ℕ) (n : Node) (f : Face) → slice_get (set table p (Some node)) q ≡ Some (Some n) → Checked tree q (Accepts f) → (r : ℕ) → Contains n.reach r ↔ Reaches tree r f
    reached honest q n f h ok r = elim (get-set_cases table p q (Some node) (Some n) h) [
      | inl e ↦
          let mine : Checked tree p (Accepts f) = subst (λ (x : ℕ). Checked tree x (Accepts f)) e.0 ok in
          subst (λ (x : Node). Contains x.reach r ↔ Reaches tree r f) (same_Some node n e.1) (own.reached honest f mine r)
      | inr was ↦ rows.reached honest q n f was ok r
    ]

-- it stays while another node is put
pub own-kept : (tree : List PackageTexts) (before : List Entry) (table : List (Option Node)) (q p : ℕ) (m n : Node) → slice_get table q ≡ Some None → IsOwnRow tree before table p n → IsOwnRow tree before (set table q (Some m)) p n
own-kept tree before table q p m n waits own = record { good = λ r c. good-kept table q r m waits (own.good r c); reached = own.reached }
