-- Whose method a node declares.
use Rattle.std.proofs.Common.{◌≡◌, Bool, true, false, Option, Some, None, option_and_then, refl, sym, ap, ◌∙◌, subst, inl, inr}
use Rattle.go_tree.specs.declared.tree.NodeRef.{NodeRef}
use Rattle.object_order.specs.Spots.{World}
use Rattle.package_needs.specs.declared.kin.Method.{Method}
use Rattle.package_needs.specs.Follow.{kind_at, part_in, IsEnd}
use Rattle.package_needs.specs.Kin.{is_star, is_method, only_type, IsBase, IsOf, IsReceiver, IsMethod, IsBaseOf, IsTarget, IsBaseBy, IsReceiverOf, IsMethodAt, IsOwnerAt, method}
use Rattle.gv_base.proofs.Lists.{same_some}

absent : {A P : Type 0} (o : Option A) (x : A) → o ≡ None → o ≡ Some x → P
absent o x p q = absurd (cc)

both_ways : {P : Type 0} (b : Bool) → b ≡ true → b ≡ false → P
both_ways b p q = absurd (cc)

pub pointer_some : (w : World) (at to : NodeRef) (r o : Option NodeRef) → is_star (kind_at w at) ≡ true → o ≡ Some to → IsTarget w at o → IsBaseOf w to r → IsBaseBy w at r
pointer_some w at to r o pointer o_is target base t = (λ is. inr (to, (target to).0 o_is, (base t).0 is), back) where
  back : IsOf w at t → r ≡ Some t
  back (inl (not, b)) = both_ways (is_star (kind_at w at)) pointer not
  back (inr (f, points, b)) = (base t).1 (subst (λ (n : NodeRef). IsBase w n t) (same_some o f to ((target f).1 points) o_is) b)

pub pointer_none : (w : World) (at : NodeRef) (o : Option NodeRef) → is_star (kind_at w at) ≡ true → o ≡ None → IsTarget w at o → IsBaseBy w at None
pointer_none w at o pointer o_is target t = (λ is. absent {A = NodeRef} None t refl is, back) where
  back : IsOf w at t → None ≡ Some t
  back (inl (not, b)) = both_ways (is_star (kind_at w at)) pointer not
  back (inr (f, points, b)) = absent o f o_is ((target f).1 points)

pub no_pointer : (w : World) (at : NodeRef) (r : Option NodeRef) → is_star (kind_at w at) ≡ false → IsBaseOf w at r → IsBaseBy w at r
no_pointer w at r not base t = (λ is. inl (not, (base t).0 is), back) where
  back : IsOf w at t → r ≡ Some t
  back (inl (no_star, b)) = (base t).1 b
  back (inr (f, points, b)) = both_ways (is_star (kind_at w at)) points.pointer not

pub receiver_some : (w : World) (at e : NodeRef) (r o : Option NodeRef) → o ≡ Some e → IsEnd w false at o → IsBaseBy w e r → IsReceiverOf w at r
receiver_some w at e r o o_is end by t = (λ is. (e, (end e).0 o_is, (by t).0 is), back) where
  back : IsReceiver w at t → r ≡ Some t
  back (f, ends, of) = (by t).1 (subst (λ (n : NodeRef). IsOf w n t) (same_some o f e ((end f).1 ends) o_is) of)

abbrev made : NodeRef → NodeRef → Method
made t m = record { of = t; name = m }

method_parts : (name b : Option NodeRef) (t m : NodeRef) → method name b ≡ Some (made t m) → (name ≡ Some m) × (b ≡ Some t)
method_parts None b t m is = absurd (cc)
method_parts (Some x) None t m is = absurd (cc)
method_parts (Some x) (Some y) t m is = let same : made y x ≡ made t m = (cc) in (ap (λ (d : Method). Some d.name) same, ap (λ (d : Method). Some d.of) same)

method_is : (name b : Option NodeRef) (t m : NodeRef) → name ≡ Some m → b ≡ Some t → method name b ≡ Some (made t m)
method_is name b t m p q = ap (λ o. method o b) p ∙ ap (λ o. method (Some m) o) q

through : (w : World) (o : Option NodeRef) (r : NodeRef) → option_and_then (λ list. only_type w list) o ≡ Some r → (list : NodeRef) × (o ≡ Some list) × (only_type w list ≡ Some r)
through w None r is = absurd (cc)
through w (Some list) r is = (list, refl, is)

pub method_some : (w : World) (at receiver : NodeRef) (name b : Option NodeRef) → is_method (kind_at w at) ≡ true → option_and_then (λ list. only_type w list) (part_in w 0 at) ≡ Some receiver
    → name ≡ part_in w 1 at → IsReceiverOf w receiver b → IsMethodAt w at (method name b)
method_some w at receiver name b kind has name_is of t m = (forth, back) where
  forth : method name b ≡ Some (made t m) → IsMethod w at t m
  forth is = (let (list, list_is, only) = through w (part_in w 0 at) receiver has in let (n_is, b_is) = method_parts name b t m is in
      record { list = list; receiver = receiver; «is» = kind; name = sym name_is ∙ n_is; has = list_is; only = only; base = (of t).0 b_is })

  back : IsMethod w at t m → method name b ≡ Some (made t m)
  back d = method_is name b t m (name_is ∙ d.name) ((of t).1 (subst (λ (n : NodeRef). IsReceiver w n t)
      (same_some (option_and_then (λ list. only_type w list) (part_in w 0 at)) d.receiver receiver (ap (λ o. option_and_then (λ list. only_type w list) o) d.has ∙ d.only) has) d.base))

pub method_none : (w : World) (at : NodeRef) → option_and_then (λ list. only_type w list) (part_in w 0 at) ≡ None → IsMethodAt w at None
method_none w at none t m = (λ is. absent {A = Method} None (made t m) refl is, λ d. absent (option_and_then (λ list. only_type w list) (part_in w 0 at)) d.receiver none (ap (λ o. option_and_then (λ list. only_type w list) o) d.has ∙ d.only))

-- ---- the type of a method

abbrev of_method : Option Method → Option NodeRef
of_method None = None
of_method (Some m) = Some m.of

pub owner_some : (w : World) (at : NodeRef) (o : Option Method) (m : Method) → o ≡ Some m → IsMethodAt w at o → IsOwnerAt w at (Some m.of)
owner_some w at o m e is t = (
  λ f. subst (λ (x : NodeRef). (n : NodeRef) × IsMethod w at x n) (same_some (Some m.of) m.of t refl f) (m.name, (is m.of m.name).0 e),
  λ has. ap of_method (sym e ∙ (is t has.0).1 has.1),
)

pub owner_none : (w : World) (at : NodeRef) (o : Option Method) → o ≡ None → IsMethodAt w at o → IsOwnerAt w at None
owner_none w at o e is t = (λ f. absurd (cc), λ has. let f : o ≡ Some (record { of = t; name = has.0 }) = (is t has.0).1 has.1 in absurd (cc))
