-- Declarations that shadow results, and the `return`s that their regions hold.
use Rattle.std.proofs.Common.{◌≡◌, ℕ, zero, suc, ◌<◌, ◌+◌, ◌≤◌, ◌⊎◌, ◌↔◌, ◌&&◌, not, Bool, true, false, is_some, if◌then◌else◌, map, List, [], ◌∷◌, length, get_or, slice_get, Option, Some, None, unwrap_or, option_and_then, refl, sym, ap, ◌∙◌, subst, inl, inr, arith, codes}
use Rattle.std.specs.Str.{bytes_eq}
use Rattle.std.proofs.lemmas.Option.{slice_get_within, slice_get-get_or}
use Rattle.gv_base.proofs.Lists.{same_some, some_once, nothing_there, get_map, map_get, got}
use Rattle.go_tree.specs.Arena.{arena_of}
use Rattle.go_tree.specs.Forest.{Forest}
use Rattle.go_tree.specs.declared.tree.FileTree.{FileTree}
use Rattle.go_tree.specs.declared.tree.Node.{Node}
use Rattle.go_tree.specs.Kinds.{is_function}
use Rattle.scopes.specs.Regions.{file_names}
use Rattle.scopes.specs.declared.scope.Named.{Named}
use Rattle.scopes.specs.declared.visible.Declaration.{Declaration}
use Rattle.scopes.specs.declared.visible.Use.{Use}
use Rattle.scopes.specs.Denotes.{Holds, IsRefused, HasRegion, Denotes, Answers, Inner, IsLaid, HasNames, AreAnswered}
use Rattle.scopes.specs.Laid.{AreLaid}
use Rattle.file_uses.specs.Locals.{IsKnown, IsLocal, HoldsNode, AreAll, AreAnsweredBy}
use Rattle.file_uses.specs.Numbers.{name_in, number}
use Rattle.node_values.specs.Trees.{IsTree, IsInnermost, InnermostOf, AreInnermost}
use Rattle.node_values.proofs.HandLemmas.{below_or_not, default_past, one_value}
use Rattle.node_values.proofs.InnerLemmas.{holds_after, one_innermost}
use Rattle.shadowed_results.specs.declared.results.Stage.{Stage}
use Rattle.shadowed_results.specs.declared.results.Stage.TheVariants as s
use Rattle.shadowed_results.specs.Kinds.{is_body_of, is_bare_at}
use Rattle.shadowed_results.specs.Stages.{AreStages, stage_rule, is_named}
use Rattle.shadowed_results.specs.Shadows.{IsResult, DeclaresWithin, IsShadowed, AreShadowed}
use Rattle.shadowed_results.specs.Tables.{unless_blank, result_name, IsOf, KeptBelow, AreKept, of_nodes}
use Rattle.shadowed_results.specs.InCode.{has_result, shadows, shadow_in, shadow_of, under, turned, or_total, is_flagged, AreValues}
use Rattle.shadowed_results.proofs.SweepLemmas.{no_holder}

-- ---- tests

pub and_split : (a b : Bool) → (a && b) ≡ true → (a ≡ true) × (b ≡ true)
and_split true b e = (refl, e)
and_split false b e = absurd cc

pub and_join : (a b : Bool) → a ≡ true → b ≡ true → (a && b) ≡ true
and_join a b e f = ap (λ x. x && b) e ∙ f

not_true : (a : Bool) → not a ≡ true → a ≡ false
not_true true e = absurd cc
not_true false e = refl

pub some_of : {X : Type 0} (o : Option X) → is_some o ≡ true → (x : X) × (o ≡ Some x)
some_of None e = absurd cc
some_of (Some x) e = (x, refl)

-- ---- regions under other numbers

pub under_start : (total : ℕ) (d : Named) (o : Option ℕ) → (under total d o).start ≡ d.start
under_start total d None = refl
under_start total d (Some f) = refl

pub under_end : (total : ℕ) (d : Named) (o : Option ℕ) → (under total d o).end ≡ d.end
under_end total d None = refl
under_end total d (Some f) = refl

pub under_alike : (total : ℕ) (d e : Named) (a b : Option ℕ) → a ≡ b → (under total d a).name ≡ (under total e b).name
under_alike total d e a b same = ap (λ o. (under total d o).name) same ∙ by b where
  by : (o : Option ℕ) → (under total d o).name ≡ (under total e o).name
  by None = refl
  by (Some f) = refl

-- regions that stay are laid as they were
pub map_laid : (g : Named → Declaration) (ds : List Named) → ((d : Named) → (g d).start ≡ d.start) → ((d : Named) → (g d).end ≡ d.end) → AreLaid ds → IsLaid (map g ds)
map_laid g ds starts ends laid j k a b low is_a is_b =
    let (d, there_d, d_is) = map_get g ds j a is_a in
    let (e, there_e, e_is) = map_get g ds k b is_b in
    let lies = laid j k d e low there_d there_e in
    let s_d : a.start ≡ d.start = ap (λ (x : Declaration). x.start) (sym d_is) ∙ starts d in
    let e_d : a.end ≡ d.end = ap (λ (x : Declaration). x.end) (sym d_is) ∙ ends d in
    let s_e : b.start ≡ e.start = ap (λ (x : Declaration). x.start) (sym e_is) ∙ starts e in
    let e_e : b.end ≡ e.end = ap (λ (x : Declaration). x.end) (sym e_is) ∙ ends e in
    let ordered = lies.0 in (
      omega arith,
      elim lies.1 [
        | inl same ↦ inl (omega arith)
        | inr other ↦ elim other [
          | inl apart ↦ inr (inl (omega arith))
          | inr inner ↦ inr (inr (omega arith, omega arith))
        ]
      ],
    )

in_told : (g f : ℕ) (b : Bool) → (if b then Some g else None) ≡ Some f → (g ≡ f) × (b ≡ true)
in_told g f true e = (some_once e, refl)
in_told g f false e = absurd (nothing_there f e)

of_told : (bytes : List ℕ) (tree : FileTree) (kept : ℕ → List ℕ → Option ℕ) (d : Named) (f : ℕ) (o : Option ℕ) → option_and_then (shadow_in bytes tree kept d) o ≡ Some f
    → (o ≡ Some f) × (shadows bytes tree kept d f ≡ true)
of_told bytes tree kept d f None e = absurd (nothing_there f e)
of_told bytes tree kept d f (Some g) e =
    let told = in_told g f (shadows bytes tree kept d g) e in
    (ap (λ x. Some x) told.0, ap (λ x. shadows bytes tree kept d x) (sym told.0) ∙ told.1)

module _ (bytes : List ℕ) (tree : FileTree) (kept : ℕ → List ℕ → Option ℕ) (functions : List (Option ℕ)) where
  pub turned_start : (d : Named) → (turned bytes tree kept functions d).start ≡ d.start
  turned_start d = under_start (length tree.nodes) d (shadow_of bytes tree kept functions d)

  pub turned_end : (d : Named) → (turned bytes tree kept functions d).end ≡ d.end
  turned_end d = under_end (length tree.nodes) d (shadow_of bytes tree kept functions d)

  pub turned_laid : (ds : List Named) → AreLaid ds → IsLaid (map (turned bytes tree kept functions) ds)
  turned_laid ds laid = map_laid (turned bytes tree kept functions) ds turned_start turned_end laid

-- ---- functions

module _ (bytes : List ℕ) (tree : FileTree) (is_tree : IsTree tree.nodes) (functions : List (Option ℕ)) (are : AreInnermost is_function tree.nodes functions) where
  function_within : (n f : ℕ) → of_nodes functions n ≡ Some f → n < length tree.nodes
  function_within n f e = elim (below_or_not n (length tree.nodes)) [
    | inl low ↦ low
    | inr past ↦ absurd (nothing_there f (sym (default_past functions n None (let s = are.size in omega arith)) ∙ e))
  ]

  pub function_is : (n f : ℕ) → of_nodes functions n ≡ Some f → InnermostOf is_function tree.nodes n f
  function_is n f e = subst (λ (o : Option ℕ). IsInnermost is_function tree.nodes n o) e (are.each n (function_within n f e))

  pub function_low : (n f : ℕ) → InnermostOf is_function tree.nodes n f → f < length tree.nodes
  function_low n f is = slice_get_within tree.nodes f is.kind.0 is.kind.1

  pub held_low : (n f : ℕ) → InnermostOf is_function tree.nodes n f → n < length tree.nodes
  held_low n f is = let a = holds_after tree.nodes is_tree f n is.holds in let b = function_low n f is in omega arith

  pub function_told : (n f : ℕ) → InnermostOf is_function tree.nodes n f → of_nodes functions n ≡ Some f
  function_told n f is = by (of_nodes functions n) refl (are.each n (held_low n f is)) where
    by : (o : Option ℕ) → of_nodes functions n ≡ o → IsInnermost is_function tree.nodes n o → o ≡ Some f
    by None e none = absurd (none f is.kind is.holds)
    by (Some g) e here = ap (λ x. Some x) (one_innermost is_function tree.nodes is_tree n g f here is)

  name_low : (kept : ℕ → List ℕ → Option ℕ) (d : Named) → (turned bytes tree kept functions d).name < length tree.nodes + 1
  name_low kept d = by (shadow_of bytes tree kept functions d) refl where
    by : (o : Option ℕ) → shadow_of bytes tree kept functions d ≡ o → (turned bytes tree kept functions d).name < length tree.nodes + 1
    by None e = let a : (turned bytes tree kept functions d).name ≡ length tree.nodes = ap (λ o. (under (length tree.nodes) d o).name) e in omega arith
    by (Some f) e = let a : (turned bytes tree kept functions d).name ≡ f = ap (λ o. (under (length tree.nodes) d o).name) e in let b = function_low d.end f (function_is d.end f (of_told bytes tree kept d f (of_nodes functions d.end) e).0) in omega arith

  pub turned_below : (kept : ℕ → List ℕ → Option ℕ) (ds : List Named) → HasNames (map (turned bytes tree kept functions) ds) (length tree.nodes + 1)
  turned_below kept ds k a is =
      let (d, there, d_is) = map_get (turned bytes tree kept functions) ds k a is in
      subst (λ (x : Declaration). x.name < length tree.nodes + 1) d_is (name_low kept d)

  -- ---- results

  blank_told : (o : Option (List ℕ)) (q : List ℕ) → unless_blank o ≡ Some q → (o ≡ Some q) × (bytes_eq q (codes "_") ≡ false)
  blank_told None q e = absurd (nothing_there q e)
  blank_told (Some p) q e = by (bytes_eq p (codes "_")) refl where
    by : (b : Bool) → bytes_eq p (codes "_") ≡ b → (Some p ≡ Some q) × (bytes_eq q (codes "_") ≡ false)
    by true f = absurd (nothing_there q (sym (ap (λ (x : Bool). if x then None else Some p) f) ∙ e))
    by false f =
        let same : Some p ≡ Some q = sym (ap (λ (x : Bool). if x then None else Some p) f) ∙ e in
        (same, ap (λ (x : List ℕ). bytes_eq x (codes "_")) (sym (some_once same)) ∙ f)

  named_told : (b : Bool) (o : Option (List ℕ)) (q : List ℕ) → (if b then unless_blank o else None) ≡ Some q → (b ≡ true) × (unless_blank o ≡ Some q)
  named_told true o q e = (refl, e)
  named_told false o q e = absurd (nothing_there q e)

  module _ (stages : List Stage) (staged : AreStages tree.nodes stages) (kept : ℕ → List ℕ → Option ℕ)
      (keeps : AreKept (result_name bytes tree stages) (of_nodes functions) (length tree.nodes) kept) where
    result_is : (f r : ℕ) (q : List ℕ) → kept f q ≡ Some r → IsResult bytes tree f r q
    result_is f r q e = by (subst (λ (o : Option ℕ). KeptBelow (result_name bytes tree stages) (of_nodes functions) (length tree.nodes) f q o) e (keeps f q)) where
      by : KeptBelow (result_name bytes tree stages) (of_nodes functions) (length tree.nodes) f q (Some r) → IsResult bytes tree f r q
      by (low, (name, function)) =
          let told = named_told (is_named (get_or stages r s.Outside)) (name_in bytes tree r) q name in
          let real = blank_told (name_in bytes tree r) q told.1 in
          record { stages = stages; are = staged; stands = told.0; name = real.0; real = real.1; function = function_is r f function }

    name_kept : (f r : ℕ) (q : List ℕ) → IsResult bytes tree f r q → result_name bytes tree stages r ≡ Some q
    name_kept f r q is =
        ap (λ (b : Bool). if b then unless_blank (name_in bytes tree r) else None) (ap is_named (one_value stage_rule s.Outside tree.nodes stages is.stages is_tree staged is.are r) ∙ is.stands)
        ∙ (ap unless_blank is.name ∙ ap (λ (b : Bool). if b then None else Some q) is.real)

    result_kept : (f r : ℕ) (q : List ℕ) → IsResult bytes tree f r q → is_some (kept f q) ≡ true
    result_kept f r q is = by (kept f q) refl (keeps f q) where
      by : (o : Option ℕ) → kept f q ≡ o → KeptBelow (result_name bytes tree stages) (of_nodes functions) (length tree.nodes) f q o → is_some o ≡ true
      by None e none = absurd (none r (held_low r f is.function) (name_kept f r q is, function_told r f is.function))
      by (Some x) e here = refl

    -- ---- what shadows

    has_told : (f : ℕ) (o : Option (List ℕ)) → has_result kept f o ≡ true → (q : List ℕ) × (o ≡ Some q) × (r : ℕ) × (kept f q ≡ Some r)
    has_told f None e = absurd cc
    has_told f (Some q) e = let r = some_of (kept f q) e in (q, refl, r.0, r.1)

    -- a name that shadows a result of f
    pub record IsShadow (d : Named) (f : ℕ) : Type 0 where
      pub q : List ℕ
      pub r : ℕ
      pub name : name_in bytes tree d.node ≡ Some q
      pub result : IsResult bytes tree f r q
      pub function : InnermostOf is_function tree.nodes d.end f
      pub inner : is_body_of tree.nodes f d.end ≡ false

    pub shadow_is : (d : Named) (f : ℕ) → shadow_of bytes tree kept functions d ≡ Some f → IsShadow d f
    shadow_is d f e =
        let told = of_told bytes tree kept d f (of_nodes functions d.end) e in
        let both = and_split (not (is_body_of tree.nodes f d.end)) (has_result kept f (name_in bytes tree d.node)) told.1 in
        let has = has_told f (name_in bytes tree d.node) both.1 in
        record { q = has.0; r = has.2; name = has.1; result = result_is f has.2 has.0 has.3; function = function_is d.end f told.0; inner = not_true (is_body_of tree.nodes f d.end) both.0 }

    pub shadow_told : (d : Named) (f : ℕ) → IsShadow d f → shadow_of bytes tree kept functions d ≡ Some f
    shadow_told d f is =
        ap (option_and_then (shadow_in bytes tree kept d)) (function_told d.end f is.function)
        ∙ ap (λ (b : Bool). if b then Some f else None) (and_join (not (is_body_of tree.nodes f d.end)) (has_result kept f (name_in bytes tree d.node))
        (ap not is.inner) (ap (has_result kept f) is.name ∙ result_kept f is.r is.q is.result))

    -- ---- in the place of names

    pub turned_name : (d : Named) (f : ℕ) → shadow_of bytes tree kept functions d ≡ Some f → (turned bytes tree kept functions d).name ≡ f
    turned_name d f e = ap (λ o. (under (length tree.nodes) d o).name) e

    -- the number of a function stands there where the name shadows a result of it
    pub told_back : (d : Named) (f : ℕ) → f < length tree.nodes → (turned bytes tree kept functions d).name ≡ f → shadow_of bytes tree kept functions d ≡ Some f
    told_back d f low e = by (shadow_of bytes tree kept functions d) refl where
      by : (o : Option ℕ) → shadow_of bytes tree kept functions d ≡ o → o ≡ Some f
      by None is = absurd (let a : length tree.nodes ≡ f = sym (ap (λ o. (under (length tree.nodes) d o).name) is) ∙ e in omega arith)
      by (Some g) is = ap (λ x. Some x) (sym (turned_name d g is) ∙ e)

    pub turned_local : (d : Named) (f : ℕ) → shadow_of bytes tree kept functions d ≡ Some f → (turned bytes tree kept functions d).local ≡ true
    turned_local d f e = ap (λ o. (under (length tree.nodes) d o).local) e
