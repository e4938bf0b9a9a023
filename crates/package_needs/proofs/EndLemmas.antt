-- Where types end, by their links.
use Rattle.std.proofs.Common.{◌≡◌, ℕ, Bool, List, slice_get, Option, Some, None, refl, sym, ap, ◌∙◌, subst}
use Rattle.go_tree.specs.declared.tree.NodeRef.{NodeRef}
use Rattle.object_order.specs.declared.spot.Entry.{Entry}
use Rattle.object_order.specs.Spots.{World}
use Rattle.package_needs.specs.declared.ends.Link.{Link}
use Rattle.package_needs.specs.Follow.{given, next, Peels, bare, in_parens, Ends, there, on, IsEnd}
use Rattle.package_needs.specs.Links.{StepsBy, IsLink, AreLinks, Arrives, at_end, goes_on, ended_to, AreArrivals, AreEnds}
use Rattle.package_needs.proofs.FollowLemmas.{unwraps_next, peels_end, peels_back, step_back, stop_back}
use Rattle.gv_base.proofs.Lists.{same_some}

absent : {A P : Type 0} (o : Option A) (x : A) → o ≡ None → o ≡ Some x → P
absent o x p q = absurd (cc)

-- ---- links and types

-- where links lead, the type ends
pub arrives_ends : {w : World} {entries : List Entry} {far : Bool} {links : List (Option Link)} → AreLinks w entries far links
    → {k : ℕ} {x : NodeRef} → Arrives links k x → (e : Entry) (t : NodeRef) → slice_get entries k ≡ Some e → given far e ≡ Some t → Ends w far t x
arrives_ends {w} {entries} {far} {links} are {k} {x} (at_end l l_at none same) e t e_at gives = (let (o, o_at, link) = are.each k e e_at in last o o_at link) where
  last : (o : Option Link) → slice_get links k ≡ Some o → IsLink w entries far e o → Ends w far t x
  last None o_at link = absent (given far e) t link gives
  last (Some d) o_at (s, gives_s, peels, steps) = at_once d (same_some (slice_get links k) (Some d) (Some l) o_at l_at) s gives_s peels steps where
    at_once : (d : Link) → Some d ≡ Some l → (s : NodeRef) → given far e ≡ Some s → Peels w s d.bare → StepsBy w entries far d.bare d.to → Ends w far t x
    at_once d is s gives_s peels steps = let d_is : d ≡ l = (cc) in let s_is : s ≡ t = same_some (given far e) s t gives_s gives in
        subst (λ (n : NodeRef). Ends w far n x) s_is (peels_end peels (there (subst (λ (o : Option ℕ). StepsBy w entries far d.bare o) (ap (λ (y : Link). y.to) d_is ∙ none) steps) (ap (λ (y : Link). y.bare) d_is ∙ same)))
arrives_ends {w} {entries} {far} {links} are {k} {x} (goes_on l m l_at to more) e t e_at gives = (let (o, o_at, link) = are.each k e e_at in later o o_at link (λ d s d_at gives_s. arrives_ends are more d s d_at gives_s)) where
  later : (o : Option Link) → slice_get links k ≡ Some o → IsLink w entries far e o → ((d : Entry) (s : NodeRef) → slice_get entries m ≡ Some d → given far d ≡ Some s → Ends w far s x) → Ends w far t x
  later None o_at link rest = absent (given far e) t link gives
  later (Some d) o_at (s, gives_s, peels, steps) rest = from d (same_some (slice_get links k) (Some d) (Some l) o_at l_at) s gives_s peels steps where
    from : (d : Link) → Some d ≡ Some l → (s : NodeRef) → given far e ≡ Some s → Peels w s d.bare → StepsBy w entries far d.bare d.to → Ends w far t x
    from d is s gives_s peels steps = let d_is : d ≡ l = (cc) in let s_is : s ≡ t = same_some (given far e) s t gives_s gives in
        (let (f, u, f_at, gives_u, next_is) = subst (λ (o : Option ℕ). StepsBy w entries far d.bare o) (ap (λ (y : Link). y.to) d_is ∙ to) steps in
        subst (λ (n : NodeRef). Ends w far n x) s_is (peels_end peels (on next_is (rest f u f_at gives_u))))

-- where the type ends, links lead
pub ends_arrives : {w : World} {entries : List Entry} {far : Bool} {links : List (Option Link)} → AreLinks w entries far links
    → {s x : NodeRef} → Ends w far s x → (k : ℕ) (l : Link) → slice_get links k ≡ Some (Some l) → Peels w s l.bare → StepsBy w entries far l.bare l.to → Arrives links k x
ends_arrives {w} {entries} {far} {links} are {s} {x} (there none same) k l l_at (bare u eq) steps = last l.to refl steps where
  last : (o : Option ℕ) → l.to ≡ o → StepsBy w entries far l.bare o → Arrives links k x
  last None is steps = at_end l l_at is (sym eq ∙ same)
  last (Some m) is (f, t, f_at, gives, next_is) = absent (next w far l.bare) t (ap (λ (n : NodeRef). next w far n) (sym eq) ∙ none) next_is
ends_arrives {w} {entries} {far} {links} are {s} {x} (there none same) k l l_at (in_parens {part = part} u more) steps = absent (next w far s) part none (unwraps_next w far s part u)
ends_arrives {w} {entries} {far} {links} are {s} {x} (on {to = to} step rest) k l l_at (bare u eq) steps = later l.to refl steps (λ m d d_at peels steps. ends_arrives are rest m d d_at peels steps) where
  later : (o : Option ℕ) → l.to ≡ o → StepsBy w entries far l.bare o → ((m : ℕ) (d : Link) → slice_get links m ≡ Some (Some d) → Peels w to d.bare → StepsBy w entries far d.bare d.to → Arrives links m x) → Arrives links k x
  later None is steps rest = absent (next w far l.bare) to steps (ap (λ (n : NodeRef). next w far n) (sym eq) ∙ step)
  later (Some m) is (f, t, f_at, gives, next_is) rest = (let (o, o_at, link) = are.each m f f_at in
      goes_on l m l_at is (from o o_at link (same_some (next w far l.bare) t to next_is (ap (λ (n : NodeRef). next w far n) (sym eq) ∙ step)))) where
        from : (o : Option Link) → slice_get links m ≡ Some o → IsLink w entries far f o → t ≡ to → Arrives links m x
        from None o_at link t_is = absent (given far f) t link gives
        from (Some d) o_at (v, gives_v, peels, steps) t_is =
            rest m d o_at (subst (λ (n : NodeRef). Peels w n d.bare) (same_some (given far f) v t gives_v gives ∙ t_is) peels) steps
ends_arrives {w} {entries} {far} {links} are {s} {x} (on {to = to} step rest) k l l_at (in_parens {part = part} u more) steps =
    let same : part ≡ to = same_some (next w far s) part to (unwraps_next w far s part u) step in
    ends_arrives are rest k l l_at (subst (λ (n : NodeRef). Peels w n l.bare) same more) steps

-- a type ends where its links lead
pub arrivals_are_ends : (w : World) (entries : List Entry) (far : Bool) (links : List (Option Link)) (table : List (Option NodeRef))
    → AreLinks w entries far links → AreArrivals links table → AreEnds w entries far table
arrivals_are_ends w entries far links table are arrive k e t e_at gives x = (λ is. arrives_ends are ((arrive k x).0 is) e t e_at gives, λ ends. (arrive k x).1 (back ends)) where
  back : Ends w far t x → Arrives links k x
  back ends = (let (o, o_at, link) = are.each k e e_at in from o o_at link) where
    from : (o : Option Link) → slice_get links k ≡ Some o → IsLink w entries far e o → Arrives links k x
    from None o_at link = absent (given far e) t link gives
    from (Some d) o_at (v, gives_v, peels, steps) = ends_arrives are ends k d o_at (subst (λ (n : NodeRef). Peels w n d.bare) (same_some (given far e) v t gives_v gives) peels) steps

-- where a type ends, by the table
pub end_is : (w : World) (entries : List Entry) (far : Bool) (table : List (Option NodeRef)) (at b : NodeRef) (to : Option ℕ)
    → AreEnds w entries far table → Peels w at b → StepsBy w entries far b to → IsEnd w far at (ended_to table b to)
end_is w entries far table at b None are peels none e = (λ is. peels_end peels (there none (same is)), λ ends. ap Some (stop_back (peels_back peels ends) none)) where
  same : ◌≡◌ {A = Option NodeRef} (Some b) (Some e) → b ≡ e
  same is = cc
end_is w entries far table at b (Some m) are peels (f, t, f_at, gives, next_is) e =
    (λ is. peels_end peels (on next_is ((are m f t f_at gives e).0 is)), λ ends. (are m f t f_at gives e).1 (step_back (peels_back peels ends) t next_is))
