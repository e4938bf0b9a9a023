-- The `return`s that have an answer are those where a result is shadowed.
use Rattle.std.proofs.Common.{◌≡◌, ℕ, ◌<◌, ◌+◌, ◌≤◌, ◌↔◌, ◌&&◌, Bool, true, false, is_some, if◌then◌else◌, not, map, List, length, get_or, slice_get, Option, Some, None, option_and_then, refl, sym, ap, ◌∙◌, subst, inl, inr, arith}
use Rattle.std.proofs.lemmas.Option.{slice_get_within, get_or_from_slice_get}
use Rattle.std.proofs.lemmas.List.{length-map}
use Rattle.gv_base.proofs.Lists.{get_map, map_get, got}
use Rattle.go_tree.specs.Arena.{arena_of}
use Rattle.go_tree.specs.Forest.{Forest}
use Rattle.go_tree.specs.declared.tree.FileTree.{FileTree}
use Rattle.go_tree.specs.Kinds.{is_function}
use Rattle.scopes.specs.Regions.{file_names}
use Rattle.scopes.specs.declared.scope.Named.{Named}
use Rattle.scopes.specs.declared.visible.Declaration.{Declaration}
use Rattle.scopes.specs.declared.visible.Use.{Use}
use Rattle.scopes.specs.Denotes.{Denotes, Answers, IsRefused, IsLaid, AreAnswered}
use Rattle.scopes.specs.Laid.{AreLaid}
use Rattle.file_uses.specs.Locals.{IsKnown, IsLocal, HoldsNode, AreAll, AreAnsweredBy}
use Rattle.file_uses.specs.Numbers.{name_in, number}
use Rattle.node_values.specs.Trees.{IsTree, InnermostOf, AreInnermost}
use Rattle.node_values.proofs.HandLemmas.{below_or_not, default_past}
use Rattle.shadowed_results.specs.declared.results.Stage.{Stage}
use Rattle.shadowed_results.specs.Kinds.{is_body_of, is_bare_at}
use Rattle.shadowed_results.specs.Stages.{AreStages}
use Rattle.shadowed_results.specs.Shadows.{IsShadowed, AreShadowed}
use Rattle.shadowed_results.specs.Tables.{result_name, AreKept, of_nodes}
use Rattle.shadowed_results.specs.InCode.{has_result, shadow_of, under, turned, or_total, is_flagged, AreValues}
use Rattle.shadowed_results.proofs.SweepLemmas.{no_holder}
use Rattle.shadowed_results.proofs.ShadowLemmas.{and_split, and_join, some_of, function_is, function_low, function_told, held_low, under_alike, shadow_is, shadow_told, turned_start, turned_end, turned_laid, turned_name, told_back, turned_local}

-- the number of a node's function
pub number_told : (total : ℕ) (functions : List (Option ℕ)) (n : ℕ) → n < length functions → number (map (or_total total) functions) n ≡ or_total total (of_nodes functions n)
number_told total functions n low =
    let (o, there) = got functions n low in
    get_or_from_slice_get (map (or_total total) functions) n (or_total total o) 0 (get_map (or_total total) functions n o there)
    ∙ ap (or_total total) (sym (get_or_from_slice_get functions n o None there))

-- no number of a node is too high
pub number_low : (total : ℕ) (functions : List (Option ℕ)) → ((n f : ℕ) → of_nodes functions n ≡ Some f → f < total) → (n : ℕ) → number (map (or_total total) functions) n < total + 1
number_low total functions low n = elim (below_or_not n (length functions)) [
  | inl within ↦ subst (λ (x : ℕ). x < total + 1) (sym (number_told total functions n within)) (by (of_nodes functions n) refl)
  | inr past ↦ subst (λ (x : ℕ). x < total + 1) (sym (default_past (map (or_total total) functions) n 0 (let l = length-map functions (or_total total) in omega arith))) (omega arith)
] where
  by : (o : Option ℕ) → of_nodes functions n ≡ o → or_total total o < total + 1
  by None e = omega arith
  by (Some f) e = let a = low n f e in omega arith

module _ (bytes : List ℕ) (tree : FileTree) (is_tree : IsTree tree.nodes) (functions : List (Option ℕ)) (are : AreInnermost is_function tree.nodes functions)
    (stages : List Stage) (staged : AreStages tree.nodes stages) (kept : ℕ → List ℕ → Option ℕ) (keeps : AreKept (result_name bytes tree stages) (of_nodes functions) (length tree.nodes) kept)
    (forest : Forest) (arena : arena_of tree.tokens forest ≡ tree) (names : List Named) (same : (g : Forest) → arena_of tree.tokens g ≡ tree → names ≡ file_names g) (laid : AreLaid names)
    (numbers : List ℕ) (numbered : numbers ≡ map (or_total (length tree.nodes)) functions)
    (answers : List (Option ℕ)) (by : AreAnsweredBy (map (turned bytes tree kept functions) names) numbers answers) where
  -- by the block and the name of a declaration
  abbrev shadow_by : (ℕ → List ℕ → Option ℕ) → ℕ → Option (List ℕ) → Option ℕ
  shadow_by table b o = option_and_then (λ f. if not (is_body_of tree.nodes f b) && has_result table f o then Some f else None) (of_nodes functions b)

  numbers_size : length numbers ≡ length tree.nodes
  numbers_size = ap (λ (l : List ℕ). length l) numbered ∙ (length-map functions (or_total (length tree.nodes)) ∙ are.size)

  -- the use of a node, with its answer
  pub record IsUseOf (n : ℕ) (u : Use) : Type 0 where
    pub name : u.name ≡ or_total (length tree.nodes) (of_nodes functions n)
    pub at : u.at ≡ n
    pub answer : Answers (map (turned bytes tree kept functions) names) u (get_or answers n None)

  use_is : (n : ℕ) → n < length tree.nodes → (u : Use) × IsUseOf n u
  use_is n low =
      let (u, there) = got by.uses n (let e = by.all.0 in let f = numbers_size in omega arith) in
      let it = by.all.1 n u there in (
        u,
        record {
          name = it.0 ∙ (ap (λ (l : List ℕ). number l n) numbered ∙ number_told (length tree.nodes) functions n (let e = are.size in omega arith));
          at = it.1;
          answer = by.answered.1 n u there;
        },
      )

  laid_turned : IsLaid (map (turned bytes tree kept functions) names)
  laid_turned = turned_laid bytes tree kept functions names laid

  -- one of the function that holds n, by its number
  one_function : (n g : ℕ) (o : Option ℕ) → of_nodes functions n ≡ o → g < length tree.nodes → g ≡ or_total (length tree.nodes) o → InnermostOf is_function tree.nodes n g
  one_function n g None e low same = absurd (omega arith)
  one_function n g (Some f) e low same = function_is bytes tree is_tree functions are n g (e ∙ ap (λ x. Some x) (sym same))

  -- an earlier one of its name and block is one of the same function
  refused_is : (k : ℕ) (e : Named) (d : Declaration) → turned bytes tree kept functions e ≡ d → IsKnown (name_in bytes tree) names k e → IsRefused (map (turned bytes tree kept functions) names) k d
  refused_is k e d is (j, x, before, there, block, name) =
      let alike : shadow_of bytes tree kept functions x ≡ shadow_of bytes tree kept functions e =
      ap (λ b. shadow_by kept b (name_in bytes tree x.node)) block ∙ ap (λ o. shadow_by kept e.end o) name in
      subst (λ (y : Declaration). IsRefused (map (turned bytes tree kept functions) names) k y) is (
        j,
        turned bytes tree kept functions x,
        before,
        get_map (turned bytes tree kept functions) names j x there,
        turned_end bytes tree kept functions x ∙ (block ∙ sym (turned_end bytes tree kept functions e)),
        under_alike (length tree.nodes) x e (shadow_of bytes tree kept functions x) (shadow_of bytes tree kept functions e) alike,
      )

  -- the declaration that is denoted shadows a result
  found_is : (n k : ℕ) (u : Use) → is_bare_at tree.nodes n ≡ true → IsUseOf n u → Denotes (map (turned bytes tree kept functions) names) u k → IsShadowed bytes tree n
  found_is n k u bare used a = from (map_get (turned bytes tree kept functions) names k a.d a.region.0) where
    from : (e : Named) × (slice_get names k ≡ Some e) × (turned bytes tree kept functions e ≡ a.d) → IsShadowed bytes tree n
    from (e, there, is) = by_function (shadow_of bytes tree kept functions e) refl where
      by_function : (o : Option ℕ) → shadow_of bytes tree kept functions e ≡ o → IsShadowed bytes tree n
      by_function None f = absurd (let x : false ≡ true = sym (ap (λ o. (under (length tree.nodes) e o).local) f) ∙ (ap (λ (d : Declaration). d.local) is ∙ a.region.2) in cc)
      by_function (Some f) told =
          let it = shadow_is bytes tree is_tree functions are stages staged kept keeps e f told in
          let name : f ≡ u.name = sym (turned_name bytes tree is_tree functions are stages staged kept keeps e f told) ∙ (ap (λ (d : Declaration). d.name) is ∙ a.named) in
          let start : a.d.start ≡ e.start = ap (λ (d : Declaration). d.start) (sym is) ∙ turned_start bytes tree kept functions e in
          let end : a.d.end ≡ e.end = ap (λ (d : Declaration). d.end) (sym is) ∙ turned_end bytes tree kept functions e in
          let at = used.at in
          let local : IsLocal (name_in bytes tree) (length tree.nodes) names k e =
          (there, (λ known. a.region.1 (refused_is k e a.d is known)), held_low bytes tree is_tree functions are e.end f it.function) in
          record {
            forest = forest;
            arena = arena;
            f = f;
            r = it.r;
            k = k;
            q = it.q;
            e = e;
            bare = bare;
            function = one_function n f (of_nodes functions n) refl (function_low bytes tree is_tree functions are e.end f it.function) (name ∙ used.name);
            result = it.result;
            declares = record {
              region = subst (λ (l : List Named). IsLocal (name_in bytes tree) (length tree.nodes) l k e) (same forest arena) local;
              name = it.name;
              function = it.function;
              inner = it.inner;
            };
            holds = (let h = a.holds.0 in omega arith, let h = a.holds.1 in omega arith);
          }

  -- and where one does, one is denoted
  none_is : (n : ℕ) (u : Use) → IsUseOf n u → ((k : ℕ) → Denotes (map (turned bytes tree kept functions) names) u k → ⊥) → IsShadowed bytes tree n → ⊥
  none_is n u used none is =
      no_holder (map (turned bytes tree kept functions) names) laid_turned u none locals is.k (turned bytes tree kept functions is.e)
      (get_map (turned bytes tree kept functions) names is.k is.e there) (turned_name bytes tree is_tree functions are stages staged kept keeps is.e is.f told ∙ sym named) (
        let s = turned_start bytes tree kept functions is.e in let a = used.at in let h = is.holds.0 in omega arith,
        let s = turned_end bytes tree kept functions is.e in let a = used.at in let h = is.holds.1 in omega arith,
      )
    where
      there : slice_get names is.k ≡ Some is.e
      there = ap (λ (l : List Named). slice_get l is.k) (same is.forest is.arena) ∙ is.declares.region.0

      told : shadow_of bytes tree kept functions is.e ≡ Some is.f
      told = shadow_told bytes tree is_tree functions are stages staged kept keeps is.e is.f
          record { q = is.q; r = is.r; name = is.declares.name; result = is.result; function = is.declares.function; inner = is.declares.inner }

      named : u.name ≡ is.f
      named = used.name ∙ ap (or_total (length tree.nodes)) (function_told bytes tree is_tree functions are n is.f is.function)

      locals : (j : ℕ) (d : Declaration) → slice_get (map (turned bytes tree kept functions) names) j ≡ Some d → d.name ≡ u.name → d.local ≡ true
      locals j d at same_name =
          let (x, there_x, is_x) = map_get (turned bytes tree kept functions) names j d at in
          let back = told_back bytes tree is_tree functions are stages staged kept keeps x is.f (function_low bytes tree is_tree functions are n is.f is.function)
          (ap (λ (y : Declaration). y.name) is_x ∙ (same_name ∙ named)) in
          ap (λ (y : Declaration). y.local) (sym is_x) ∙ turned_local bytes tree is_tree functions are stages staged kept keeps x is.f back

  flag_is : (n : ℕ) → n < length tree.nodes → (is_flagged tree answers n ≡ true) ↔ IsShadowed bytes tree n
  flag_is n low = with_use (use_is n low) where
    with_use : (u : Use) × IsUseOf n u → (is_flagged tree answers n ≡ true) ↔ IsShadowed bytes tree n
    with_use (u, used) = (to, λ is. and_join (is_bare_at tree.nodes n) (is_some (get_or answers n None)) is.bare (some (get_or answers n None) used.answer is)) where
      to : is_flagged tree answers n ≡ true → IsShadowed bytes tree n
      to e =
          let both = and_split (is_bare_at tree.nodes n) (is_some (get_or answers n None)) e in
          let (k, at) = some_of (get_or answers n None) both.1 in
          found_is n k u both.0 used (subst (λ (o : Option ℕ). Answers (map (turned bytes tree kept functions) names) u o) at used.answer)

      some : (o : Option ℕ) → Answers (map (turned bytes tree kept functions) names) u o → IsShadowed bytes tree n → is_some o ≡ true
      some None none is = absurd (none_is n u used none is)
      some (Some k) a is = refl

  pub all_flagged : (flags : List Bool) → AreValues (is_flagged tree answers) (length tree.nodes) flags → AreShadowed bytes tree flags
  all_flagged flags values = record { size = values.size; each = λ n low. (λ e. (flag_is n low).0 (sym (values.each n low) ∙ e), λ is. values.each n low ∙ (flag_is n low).1 is) }
