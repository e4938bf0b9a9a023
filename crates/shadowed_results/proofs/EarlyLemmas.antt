-- Where no function whose results have names has a `return` without values, no result is shadowed.
use Rattle.std.proofs.Common.{◌≡◌, ℕ, zero, suc, ◌<◌, ◌+◌, ◌≤◌, ◌⊎◌, ◌==◌, ◌&&◌, ◌||◌, not, nat_lt, Bool, true, false, if◌then◌else◌, List, [], ◌∷◌, length, get_or, slice_get, replicate, Some, refl, sym, ap, ◌∙◌, subst, inl, inr, arith, eqb→eq, eq-eqb, T}
use Rattle.std.specs.Option.{option_map_or}
use Rattle.std.proofs.lemmas.List.{get_or-replicate, length-replicate}
use Rattle.std.proofs.lemmas.Option.{slice_get_within}
use Rattle.std.proofs.lemmas.Grind.{get_or_default_zero}
use Rattle.go_tree.specs.declared.tree.FileTree.{FileTree}
use Rattle.go_tree.specs.declared.tree.Node.{Node}
use Rattle.go_tree.specs.declared.tree.NodeKind.{NodeKind}
use Rattle.go_tree.specs.declared.tree.NodeKind.TheVariants as k
use Rattle.gv_base.proofs.Lists.{same_some}
use Rattle.go_tree.specs.Kinds.{is_function}
use Rattle.node_values.specs.Trees.{IsPart, IsTree, Holds, part, deep, IsOfKind, InnermostOf}
use Rattle.node_values.proofs.CaseLemmas.{before_or_at}
use Rattle.go_tree.proofs.NodeLemmas.{differ}
use Rattle.node_values.proofs.InnerLemmas.{holds_after, holds_by}
use Rattle.scopes.specs.Regions.{form_of, is_names, is_params, is_param}
use Rattle.shadowed_results.specs.declared.results.Stage.{Stage}
use Rattle.shadowed_results.specs.declared.results.Stage.TheVariants as s
use Rattle.shadowed_results.specs.Kinds.{bare_parts, from_last, is_return, is_nil, is_bare, is_bare_at}
use Rattle.shadowed_results.specs.Stages.{lists_results, is_first, stage_if, passed, stage_by, AreStages, is_named}
use Rattle.shadowed_results.specs.Shadows.{IsShadowed, AreShadowed}
use Rattle.shadowed_results.specs.Early.{is_param_at, any_param, lists_param, names_results, names_results_at, IsIn, ReturnsBare, MayShadow}
use Rattle.shadowed_results.proofs.ShadowLemmas.{and_split, and_join}

-- ---- results with names

or_right : (a b : Bool) → b ≡ true → (a || b) ≡ true
or_right true b e = refl
or_right false b e = e

-- a parameter with names among some parts
param_among : (nodes : List Node) (parts : List ℕ) (n k : ℕ) → k < length parts → get_or parts k 0 ≡ n → is_param_at nodes n ≡ true → any_param nodes parts ≡ true
param_among nodes [] n k low at is = absurd (omega arith)
param_among nodes (x ∷ xs) n zero low at is = ap (λ (b : Bool). b || any_param nodes xs) (ap (is_param_at nodes) at ∙ is)
param_among nodes (x ∷ xs) n (suc k) low at is = or_right (is_param_at nodes x) (any_param nodes xs) (param_among nodes xs n k (omega arith) at is)

-- the list of the function's results
abbrev Lists : List Node → ℕ → ℕ → Type 0
Lists nodes f l = (node : Node) × (slice_get nodes f ≡ Some node) × (lists_results node.kind node.parts l ≡ true)

names_by : (nodes : List Node) (f l p : ℕ) → Lists nodes f l → IsPart nodes l p → is_param_at nodes p ≡ true → names_results_at nodes f ≡ true
names_by nodes f l p (node, there, lists) (list, list_there, (k, low, at)) is =
    let split = and_split (nat_lt (bare_parts node.kind) (length node.parts)) (from_last node.parts 2 == l) lists in
    let last : from_last node.parts 2 ≡ l = eqb→eq (from_last node.parts 2) l (subst (λ (x : Bool). T x) (sym split.1) tt) in
    ap (λ o. option_map_or (λ (x : Node). names_results nodes x.kind x.parts) o false) there
    ∙ and_join (nat_lt (bare_parts node.kind) (length node.parts)) (lists_param nodes (from_last node.parts 2)) split.0
    (ap (lists_param nodes) last ∙ (ap (λ o. option_map_or (λ (x : Node). any_param nodes x.parts) o false) list_there
    ∙ param_among nodes list.parts p k low (sym (get_or_default_zero list.parts k p low) ∙ at) is))

-- What the stage of a node tells of the function that holds it.
abbrev Told : List Node → ℕ → ℕ → Stage → Type 0
Told nodes f r s.Outside = true ≡ true
Told nodes f r s.List = Lists nodes f r
Told nodes f r s.Parameter = (l : ℕ) × Lists nodes f l × IsPart nodes l r
Told nodes f r s.Names = names_results_at nodes f ≡ true

-- what a function gives its parts
by_function : (nodes : List Node) (f r : ℕ) (node : Node) (own : Stage) → slice_get nodes f ≡ Some node → is_function node.kind ≡ true → Told nodes f r (stage_by node.kind node.parts r own)
by_function nodes f r node own there is =
    subst (λ (b : Bool). Told nodes f r (if b then stage_if (lists_results node.kind node.parts r) s.List else passed own node.kind node.parts r)) (sym is) (by (lists_results node.kind node.parts r) refl)
  where
    by : (b : Bool) → lists_results node.kind node.parts r ≡ b → Told nodes f r (stage_if b s.List)
    by true e = (node, there, e)
    by false e = refl

-- what is passed on
by_passing : (nodes : List Node) (f q r : ℕ) (node : Node) (own : Stage) → slice_get nodes q ≡ Some node → IsPart nodes q r → is_function node.kind ≡ false → Told nodes f q own
    → Told nodes f r (stage_by node.kind node.parts r own)
by_passing nodes f q r node own there has is told =
    subst (λ (b : Bool). Told nodes f r (if b then stage_if (lists_results node.kind node.parts r) s.List else passed own node.kind node.parts r)) (sym is) (by own told)
  where
    listed : (b : Bool) → Lists nodes f q → Told nodes f r (stage_if b s.Parameter)
    listed true lists = (q, lists, has)
    listed false lists = refl

    named : (b : Bool) → names_results_at nodes f ≡ true → Told nodes f r (stage_if b s.Names)
    named true e = e
    named false e = refl

    first : (b : Bool) → (is_param (form_of node.kind) && is_first node.parts r) ≡ b → (l : ℕ) × Lists nodes f l × IsPart nodes l q → Told nodes f r (stage_if b s.Names)
    first true e (l, lists, within) =
        names_by nodes f l q lists within
        (ap (λ o. option_map_or (λ (x : Node). is_param (form_of x.kind)) o false) there ∙ (and_split (is_param (form_of node.kind)) (is_first node.parts r) e).0)
    first false e list = refl

    by : (own : Stage) → Told nodes f q own → Told nodes f r (passed own node.kind node.parts r)
    by s.Outside told = refl
    by s.List told = listed (is_params (form_of node.kind)) told
    by s.Parameter told = first (is_param (form_of node.kind) && is_first node.parts r) refl told
    by s.Names told = named (is_names (form_of node.kind)) told

module _ (nodes : List Node) (is_tree : IsTree nodes) where
  no_loop : (f q : ℕ) → Holds nodes f q → (q ≡ f) ⊎ Holds nodes q f → ⊥
  no_loop f q held (inl same) = let a = holds_after nodes is_tree f q held in omega arith
  no_loop f q held (inr back) = let a = holds_after nodes is_tree f q held in let b = holds_after nodes is_tree q f back in omega arith

  module _ (stages : List Stage) (are : AreStages nodes stages) where
    told_at : (f p r : ℕ) → (has : IsPart nodes p r) → Told nodes f r (stage_by has.0.kind has.0.parts r (get_or stages p s.Outside)) → Told nodes f r (get_or stages r s.Outside)
    told_at f p r has told =
        subst (λ (x : Stage). Told nodes f r x) (sym (are.handed.given p r has.0 has.1 has.2
        (let a = is_tree.after p r has in let b = slice_get_within nodes p has.0 has.1 in omega arith))) told

    told_part : (f q r : ℕ) → Holds nodes f q → (has : IsPart nodes q r) → (IsOfKind is_function nodes q → (q ≡ f) ⊎ Holds nodes q f) → Told nodes f q (get_or stages q s.Outside)
        → Told nodes f r (get_or stages r s.Outside)
    told_part f q r held has inner told = told_at f q r has (by (is_function has.0.kind) refl) where
      by : (b : Bool) → is_function has.0.kind ≡ b → Told nodes f r (stage_by has.0.kind has.0.parts r (get_or stages q s.Outside))
      by true e = absurd (no_loop f q held (inner (has.0, has.1, e)))
      by false e = by_passing nodes f q r has.0 (get_or stages q s.Outside) has.1 has e told

    -- by the way from the function down
    told_down : (f r : ℕ) → IsOfKind is_function nodes f → Holds nodes f r → ((g : ℕ) → IsOfKind is_function nodes g → Holds nodes g r → (g ≡ f) ⊎ Holds nodes g f)
        → Told nodes f r (get_or stages r s.Outside)
    told_down f r (node, there, is) (part has) inner =
        told_at f f r has (by_function nodes f r has.0 (get_or stages f s.Outside) has.1
        (ap (λ (x : Node). is_function x.kind) (same_some (slice_get nodes f) has.0 node has.1 there) ∙ is))
    told_down f r kind (deep {q = q} held has) inner =
        told_part f q r held has (λ is. inner q is (part has)) (told_down f q kind held (λ g is above. inner g is (deep above has)))

    -- the function of a result has results with names
    results_named : (f r : ℕ) → InnermostOf is_function nodes r f → is_named (get_or stages r s.Outside) ≡ true → names_results_at nodes f ≡ true
    results_named f r is = by (get_or stages r s.Outside) (told_down f r is.kind is.holds is.innermost) where
      by : (x : Stage) → Told nodes f r x → is_named x ≡ true → names_results_at nodes f ≡ true
      by s.Outside told e = absurd cc
      by s.List told e = absurd cc
      by s.Parameter told e = absurd cc
      by s.Names told e = told

  -- ---- `return`s without values

  is_bare_is : (m : ℕ) (node : Node) → slice_get nodes m ≡ Some node → is_bare_at nodes m ≡ is_bare node
  is_bare_is m node there = ap (λ o. option_map_or (λ (x : Node). is_bare x) o false) there

  not_bare : (m : ℕ) (node : Node) → slice_get nodes m ≡ Some node → is_bare node ≡ false → is_bare_at nodes m ≡ false
  not_bare m node there none = is_bare_is m node there ∙ none

  -- what a node holds is one of its parts, or stands in one
  by_part : (m n : ℕ) → Holds nodes m n → (p : ℕ) × IsPart nodes m p × IsIn nodes p n
  by_part m n (part has) = (n, has, inl refl)
  by_part m n (deep {q = q} held has) = from (by_part m q held) where
    from : (p : ℕ) × IsPart nodes m p × IsIn nodes p q → (p : ℕ) × IsPart nodes m p × IsIn nodes p n
    from (p, first, inl same) = (p, first, inr (part (subst (λ (x : ℕ). IsPart nodes x n) same has)))
    from (p, first, inr deeper) = (p, first, inr (deep deeper has))

  -- what stands in a part stands in the node
  under : (m p n : ℕ) → IsPart nodes m p → Holds nodes p n → Holds nodes m n
  under m p n has (part is) = deep (part has) is
  under m p n has (deep {q = q} held is) = deep (under m p q has held) is

  in_part : (m p n : ℕ) → IsPart nodes m p → IsIn nodes p n → Holds nodes m n
  in_part m p n has (inl same) = part (subst (λ (x : ℕ). IsPart nodes m x) (sym same) has)
  in_part m p n has (inr held) = under m p n has held

  -- of two nodes that hold a third one holds the other
  chained : (a b n : ℕ) → Holds nodes a n → Holds nodes b n → (a ≡ b) ⊎ (Holds nodes a b ⊎ Holds nodes b a)
  chained a b n held (part is) = elim (holds_by nodes is_tree a b n is held) [
    | inl same ↦ inl same
    | inr above ↦ inr (inl above)
  ]
  chained a b n held (deep {q = q} below is) = elim (holds_by nodes is_tree a q n is held) [
    | inl same ↦ inr (inr (subst (λ (x : ℕ). Holds nodes b x) (sym same) below))
    | inr above ↦ chained a b q above below
  ]

  -- a part of m isn't held by what m holds
  apart_from : (m p g : ℕ) → IsPart nodes m p → Holds nodes m g → Holds nodes g p → ⊥
  apart_from m p g has below above = no_loop m g below (holds_by nodes is_tree g m p has above)

  -- what m holds and what holds something of a part p of it stands in p
  between : (m p g n : ℕ) → IsPart nodes m p → IsIn nodes p n → Holds nodes m g → Holds nodes g n → IsIn nodes p g
  between m p g n has (inl same) below held = absurd (apart_from m p g has below (subst (λ (x : ℕ). Holds nodes g x) same held))
  between m p g n has (inr inside) below held = elim (chained g p n held inside) [
    | inl same ↦ inl same
    | inr (inl above) ↦ absurd (apart_from m p g has below above)
    | inr (inr under) ↦ inr under
  ]

  -- ---- in a node

  pub bare_here : (f m : ℕ) (node : Node) → slice_get nodes m ≡ Some node → is_bare node ≡ true → ReturnsBare nodes f m m
  bare_here f m node there is = record {
    bare = is_bare_is m node there ∙ is;
    within = inl refl;
    own = λ g kind inside held. absurd (elim inside [
      | inl same ↦ no_loop g m held (inl (sym same))
      | inr below ↦ no_loop g m held (inr below)
    ]);
  }

  -- in another function nothing is of this one
  pub other_none : (f m : ℕ) (node : Node) → slice_get nodes m ≡ Some node → is_bare node ≡ false → (not (m == f) && is_function node.kind) ≡ true → (n : ℕ) → ReturnsBare nodes f m n → ⊥
  other_none f m node there none is n r = by r.within where
    split : (not (m == f) ≡ true) × (is_function node.kind ≡ true)
    split = and_split (not (m == f)) (is_function node.kind) is

    by : IsIn nodes m n → ⊥
    by (inl same) = differ (is_bare_at nodes n) (ap (is_bare_at nodes) same ∙ not_bare m node there none) r.bare
    by (inr held) = differ (not (m == f)) (ap not (eq-eqb m f (r.own m (node, there, split.1) (inl refl) held))) split.0

  -- a function that is no other is this one
  this_one : (m f : ℕ) (is : Bool) → (not (m == f) && is) ≡ false → is ≡ true → m ≡ f
  this_one m f is none e = by (m == f) refl none where
    by : (same : Bool) → (m == f) ≡ same → (not same && is) ≡ false → m ≡ f
    by true q none = eqb→eq m f (subst (λ (x : Bool). T x) (sym q) tt)
    by false q none = absurd (differ is none e)

  pub bare_part : (f m p n : ℕ) (node : Node) → slice_get nodes m ≡ Some node → (not (m == f) && is_function node.kind) ≡ false → IsPart nodes m p → ReturnsBare nodes f p n
      → ReturnsBare nodes f m n
  bare_part f m p n node there none has r = record {
    bare = r.bare;
    within = inr (in_part m p n has r.within);
    own = λ g kind inside held. elim inside [
      | inl same ↦ same ∙ this_one m f (is_function node.kind) none
          (ap (λ (x : Node). is_function x.kind) (same_some (slice_get nodes m) node kind.0 there (ap (slice_get nodes) (sym same) ∙ kind.1)) ∙ kind.2)
      | inr below ↦ r.own g kind (between m p g n has r.within below held) held
    ];
  }

  -- in the first few parts there is none
  abbrev pub NoneBare : ℕ → List ℕ → ℕ → Type 0
  NoneBare f parts few = (j n : ℕ) → j < few → ReturnsBare nodes f (get_or parts j 0) n → ⊥

  pub none_bare_more : (f i : ℕ) (parts : List ℕ) → ((n : ℕ) → ReturnsBare nodes f (get_or parts i 0) n → ⊥) → NoneBare f parts i → NoneBare f parts (i + 1)
  none_bare_more f i parts one before j n low = elim (before_or_at j i low) [
    | inl less ↦ before j n less
    | inr same ↦ subst (λ (x : ℕ). ReturnsBare nodes f (get_or parts x 0) n → ⊥) (sym same) (one n)
  ]

  pub none_bare : (f m few : ℕ) (node : Node) → slice_get nodes m ≡ Some node → is_bare node ≡ false → length node.parts ≤ few → NoneBare f node.parts few → (n : ℕ) → ReturnsBare nodes f m n → ⊥
  none_bare f m few node there none enough before n r = by r.within where
    from : (p : ℕ) × IsPart nodes m p × IsIn nodes p n → ⊥
    from (p, (other, other_there, (k, low, at)), inside) =
        let alike : other.parts ≡ node.parts = ap (λ (x : Node). x.parts) (same_some (slice_get nodes m) other node other_there there) in
        let short : k < length node.parts = subst (λ (l : List ℕ). k < length l) alike low in
        let at_k : get_or node.parts k 0 ≡ p = ap (λ (l : List ℕ). get_or l k 0) (sym alike) ∙ (sym (get_or_default_zero other.parts k p low) ∙ at) in
        before k n (omega arith)
        (subst (λ (x : ℕ). ReturnsBare nodes f x n) (sym at_k) (record {
          bare = r.bare;
          within = inside;
          own = λ g kind in_p held. r.own g kind (inr (in_part m p g (other, other_there, (k, low, at)) in_p)) held;
        }))

    by : IsIn nodes m n → ⊥
    by (inl same) = differ (is_bare_at nodes n) (ap (is_bare_at nodes) same ∙ not_bare m node there none) r.bare
    by (inr held) = from (by_part m n held)

  -- ---- in a function

  bare_kind : (node : Node) → is_bare node ≡ true → is_return node.kind ≡ true
  bare_kind node is = (and_split (is_return node.kind) (is_nil node.parts) is).0

  no_function : (kind : NodeKind) → is_return kind ≡ true → is_function kind ≡ true → ⊥
  no_function k.Return is function = cc
  no_function _ is function = cc

  pub may_shadow : (f n : ℕ) (node : Node) → slice_get nodes f ≡ Some node → (is_function node.kind && names_results nodes node.kind node.parts) ≡ true → ReturnsBare nodes f f n
      → MayShadow nodes f n
  may_shadow f n node there is r = record {
    named = ap (λ o. option_map_or (λ (x : Node). names_results nodes x.kind x.parts) o false) there ∙ split.1;
    function = record {
      kind = (node, there, split.0);
      holds = held;
      innermost = λ g kind above. elim (chained g f n above held) [
        | inl same ↦ inl same
        | inr (inl over) ↦ inr over
        | inr (inr below) ↦ inl (r.own g kind (inr below) above)
      ];
    };
    bare = r.bare;
  } where
    split : (is_function node.kind ≡ true) × (names_results nodes node.kind node.parts ≡ true)
    split = and_split (is_function node.kind) (names_results nodes node.kind node.parts) is

    held_by : IsIn nodes f n → Holds nodes f n
    held_by (inl same) = absurd (no_function node.kind (bare_kind node (sym (is_bare_is f node there) ∙ (ap (is_bare_at nodes) (sym same) ∙ r.bare))) split.0)
    held_by (inr held) = held

    held : Holds nodes f n
    held = held_by r.within

  pub shadow_bare : (f n : ℕ) → MayShadow nodes f n → ReturnsBare nodes f f n
  shadow_bare f n may = record {
    bare = may.bare;
    within = inr may.function.holds;
    own = λ g kind inside held. elim (may.function.innermost g kind held) [
      | inl same ↦ same
      | inr above ↦ elim inside [
        | inl same ↦ same
        | inr below ↦ absurd (no_loop f g below (inr above))
      ]
    ];
  }

  pub no_shadow : (f n : ℕ) (node : Node) → slice_get nodes f ≡ Some node → (is_function node.kind && names_results nodes node.kind node.parts) ≡ false → MayShadow nodes f n → ⊥
  no_shadow f n node there none may = differ (is_function node.kind && names_results nodes node.kind node.parts) none
      (and_join (is_function node.kind) (names_results nodes node.kind node.parts)
      (ap (λ (x : Node). is_function x.kind) (same_some (slice_get nodes f) node may.function.kind.0 there may.function.kind.1) ∙ may.function.kind.2)
      (ap (λ o. option_map_or (λ (x : Node). names_results nodes x.kind x.parts) o false) (sym there) ∙ may.named))

  -- ---- in the first few functions

  abbrev pub NoneMay : ℕ → Type 0
  NoneMay few = (f n : ℕ) → f < few → MayShadow nodes f n → ⊥

  pub none_may_more : (f : ℕ) → ((n : ℕ) → MayShadow nodes f n → ⊥) → NoneMay f → NoneMay (f + 1)
  none_may_more f one before g n low = elim (before_or_at g f low) [
    | inl less ↦ before g n less
    | inr same ↦ subst (λ (x : ℕ). MayShadow nodes x n → ⊥) (sym same) (one n)
  ]

  pub none_may : (few : ℕ) → length nodes ≤ few → NoneMay few → (f n : ℕ) → MayShadow nodes f n → ⊥
  none_may few past before f n may = before f n (let low = slice_get_within nodes f may.function.kind.0 may.function.kind.1 in omega arith) may

-- where nothing may be shadowed, nothing is
pub none_shadowed : (bytes : List ℕ) (tree : FileTree) → IsTree tree.nodes → ((f n : ℕ) → MayShadow tree.nodes f n → ⊥) → (flags : List Bool) → flags ≡ replicate (length tree.nodes) false
    → AreShadowed bytes tree flags
none_shadowed bytes tree is_tree none flags is = subst (λ (l : List Bool). AreShadowed bytes tree l) (sym is) record {
  size = length-replicate (length tree.nodes) false;
  each = λ n low. (
    λ e. absurd (differ (get_or (replicate (length tree.nodes) false) n false) (get_or-replicate (length tree.nodes) n false false low) e),
    λ sh. absurd (refuted n sh),
  );
} where
  refuted : (n : ℕ) → IsShadowed bytes tree n → ⊥
  refuted n sh = none sh.f n record {
    named = results_named tree.nodes is_tree sh.result.stages sh.result.are sh.f sh.r sh.result.function sh.result.stands;
    function = sh.function;
    bare = sh.bare;
  }
