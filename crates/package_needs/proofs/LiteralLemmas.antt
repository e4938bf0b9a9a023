-- The types of literals.
use Rattle.std.proofs.Common.{◌≡◌, ◌↔◌, ℕ, zero, suc, ◌+◌, ◌<◌, ◌≤◌, ◌&&◌, nat_eq, Bool, true, false, if◌then◌else◌, List, length, set, replicate, slice_get, Option, Some, None, option_map, option_and_then, refl, sym, ap, ◌∙◌, subst, inl, inr, arith}
use Rattle.std.specs.List.{list_any}
use Rattle.std.specs.Option.{option_map_or}
use Rattle.std.proofs.Math.Dec.{ltb}
use Rattle.std.proofs.Math.ListN.{length-set}
use Rattle.std.proofs.lemmas.Bool.{ltb-true, cases_eq}
use Rattle.std.proofs.lemmas.List.{length-replicate}
use Rattle.go_tree.specs.declared.tree.FileTree.{FileTree}
use Rattle.go_tree.specs.declared.tree.Node.{Node}
use Rattle.go_tree.specs.declared.tree.NodeKind.{NodeKind}
use Rattle.go_tree.specs.declared.tree.NodeKind.TheVariants as k
use Rattle.go_tree.specs.declared.tree.NodeRef.{NodeRef}
use Rattle.object_order.specs.Spots.{World, place}
use Rattle.package_needs.specs.declared.literal.Held.{Held}
use Rattle.package_needs.specs.Follow.{kind_at, Ends, there, on, IsEnd}
use Rattle.package_needs.specs.Links.{cell}
use Rattle.package_needs.specs.Keys.{is_part_of, above_in, above, up, is_value, is_struct_at, is_part_at, held_in, held, written_in, written, inner_of, elided, IsInner, Literal, own, inner, IsKey, IsMentioned, IsInnerOf, IsLiteral, AreLiterals}
use Rattle.package_needs.proofs.FollowLemmas.{step_back, stop_back}
use Rattle.gv_base.proofs.Lists.{get_set_other, get_set_same, same_some}

absent : {A P : Type 0} (o : Option A) (x : A) → o ≡ None → o ≡ Some x → P
absent o x p q = absurd (cc)

-- ---- one end

pub ends_one : {w : World} {far : Bool} {at x y : NodeRef} → Ends w far at x → Ends w far at y → x ≡ y
ends_one {w} {far} {at} {x} {y} (there none same) other = sym same ∙ stop_back other none
ends_one {w} {far} {at} {x} {y} (on {to = to} step rest) other = ends_one rest (step_back other to step)

pub end_one : (w : World) (far : Bool) (at : NodeRef) (o p : Option NodeRef) → IsEnd w far at o → IsEnd w far at p → o ≡ p
end_one w far at None None one two = refl
end_one w far at None (Some y) one two = (one y).1 ((two y).0 refl)
end_one w far at (Some x) p one two = sym ((two x).1 ((one x).0 refl))

-- ---- elements and keys

pub inner_some : (w : World) (key : Bool) (of end part r : NodeRef) (last : Option NodeRef) → Ends w true of end → Some part ≡ inner_of w key end → IsEnd w true part last → r ≡ elided w part last → IsInnerOf w key of (Some r)
inner_some w key of end part r last ends has leads is t = (
  λ e. record { end = end; part = part; last = last; ends = ends; has = sym has; leads = leads; «is» = sym is ∙ same e },
  λ d. ap Some (is ∙ (joined d ∙ d.«is»)),
) where
  same : ◌≡◌ {A = Option NodeRef} (Some r) (Some t) → r ≡ t
  same e = cc

  joined : (d : IsInner w key of t) → elided w part last ≡ elided w d.part d.last
  joined d =
      let end_is : end ≡ d.end = ends_one ends d.ends in
      let part_is : part ≡ d.part = same_some (inner_of w key end) part d.part (sym has) (ap (λ e. inner_of w key e) end_is ∙ d.has) in
      let last_is : last ≡ d.last = end_one w true d.part last d.last (subst (λ (p : NodeRef). IsEnd w true p last) part_is leads) d.leads in
      ap (λ p. elided w p last) part_is ∙ ap (λ o. elided w d.part o) last_is

pub inner_none : (w : World) (key : Bool) (of end : NodeRef) → Ends w true of end → None ≡ inner_of w key end → IsInnerOf w key of None
inner_none w key of end ends none t = (λ e. absent {A = NodeRef} None t refl e, λ d. absent (inner_of w key end) d.part (sym none) (ap (λ e. inner_of w key e) (ends_one ends d.ends) ∙ d.has))

inner_one : (w : World) (key : Bool) (of one two : NodeRef) → IsInner w key of one → IsInner w key of two → one ≡ two
inner_one w key of one two a b =
    let end_is : a.end ≡ b.end = ends_one a.ends b.ends in
    let part_is : a.part ≡ b.part = same_some (inner_of w key a.end) a.part b.part a.has (ap (λ e. inner_of w key e) end_is ∙ b.has) in
    let last_is : a.last ≡ b.last = end_one w true b.part a.last b.last (subst (λ (p : NodeRef). IsEnd w true p a.last) part_is a.leads) b.leads in
    sym a.«is» ∙ (ap (λ p. elided w p a.last) part_is ∙ (ap (λ o. elided w b.part o) last_is ∙ b.«is»))

-- ---- literals

pub literal_one : {w : World} {up_to : NodeRef → Option NodeRef} {at one two : NodeRef} → Literal w up_to at one → Literal w up_to at two → one ≡ two
literal_one {w} {up_to} {at} {one} {two} (own is) (own other) = same_some (written w up_to at) one two is other
literal_one {w} {up_to} {at} {one} {two} (own is) (inner h none held_is literal i) = absent (written w up_to at) one none is
literal_one {w} {up_to} {at} {one} {two} (inner h none held_is literal i) (own is) = absent (written w up_to at) two none is
literal_one {w} {up_to} {at} {one} {two} (inner {of = of} h none held_is literal i) (inner {of = of_two} h_two none_two held_two literal_two i_two) =
    let h_is : h ≡ h_two = same_some (held w up_to at) h h_two held_is held_two in
    let of_is : of ≡ of_two = literal_one literal (subst (λ (x : Held). Literal w up_to x.braces of_two) (sym h_is) literal_two) in
    inner_one w h_two.key of_two one two (subst (λ (x : Held). IsInner w x.key of_two one) h_is (subst (λ (x : NodeRef). IsInner w h.key x one) of_is i)) i_two

pub literal_written : (w : World) (up_to : NodeRef → Option NodeRef) (at t : NodeRef) → Some t ≡ written w up_to at → IsLiteral w up_to at (Some t)
literal_written w up_to at t is u = (λ e. own (sym is ∙ e), λ l. ap Some (literal_one (own (sym is)) l))

pub literal_unheld : (w : World) (up_to : NodeRef → Option NodeRef) (at : NodeRef) → written w up_to at ≡ None → None ≡ held w up_to at → IsLiteral w up_to at None
literal_unheld w up_to at bare none u = (λ e. absent {A = NodeRef} None u refl e, back) where
  back : Literal w up_to at u → None ≡ Some u
  back (own is) = absent (written w up_to at) u bare is
  back (inner h bare_2 held_is literal i) = absent (held w up_to at) h (sym none) held_is

pub literal_inner : (w : World) (up_to : NodeRef → Option NodeRef) (at of : NodeRef) (h : Held) (o r : Option NodeRef) → written w up_to at ≡ None → held w up_to at ≡ Some h → IsLiteral w up_to h.braces o → o ≡ Some of
    → IsInnerOf w h.key of r → IsLiteral w up_to at r
literal_inner w up_to at of h o r bare held_is literal o_is inner_is u = (λ e. inner h bare held_is ((literal of).0 o_is) ((inner_is u).0 e), back) where
  back : Literal w up_to at u → r ≡ Some u
  back (own is) = absent (written w up_to at) u bare is
  back (inner {of = f} d bare_2 d_is l i) =
      let h_is : d ≡ h = same_some (held w up_to at) d h d_is held_is in
      let f_is : f ≡ of = same_some o f of ((literal f).1 (subst (λ (x : Held). Literal w up_to x.braces f) h_is l)) o_is in
      (inner_is u).1 (subst (λ (x : NodeRef). IsInner w h.key x u) f_is (subst (λ (x : Held). IsInner w x.key f u) h_is i))

pub literal_unknown : (w : World) (up_to : NodeRef → Option NodeRef) (at : NodeRef) (h : Held) (o : Option NodeRef) → written w up_to at ≡ None → held w up_to at ≡ Some h → IsLiteral w up_to h.braces o → o ≡ None
    → IsLiteral w up_to at None
literal_unknown w up_to at h o bare held_is literal o_is u = (λ e. absent {A = NodeRef} None u refl e, back) where
  back : Literal w up_to at u → None ≡ Some u
  back (own is) = absent (written w up_to at) u bare is
  back (inner {of = f} d bare_2 d_is l i) =
      let h_is : d ≡ h = same_some (held w up_to at) d h d_is held_is in
      absent o f o_is ((literal f).1 (subst (λ (x : Held). Literal w up_to x.braces f) h_is l))

-- ---- the node above comes later

part_before : (nodes : List Node) (n p : ℕ) (b c : Bool) → ltb p n ≡ b → (b && c) ≡ true → p < n
part_before nodes n p true c e is = ltb-true p n e
part_before nodes n p false c e is = absurd (cc)

pub above_later : (nodes : List Node) (n p q : ℕ) → above_in nodes n p ≡ Some q → (p < q) × (q < n)
above_later nodes zero p q is = absurd (cc)
above_later nodes (suc n) p q is = from (is_part_of nodes n p) refl is (λ e. above_later nodes n p q e) where
  from : (b : Bool) → is_part_of nodes n p ≡ b → (if b then Some n else above_in nodes n p) ≡ Some q → (above_in nodes n p ≡ Some q → (p < q) × (q < n)) → (p < q) × (q < suc n)
  from true e is rest = let same : n ≡ q = (cc) in let low : p < n = part_before nodes n p (ltb p n) (option_map_or (λ (node : Node). list_any (λ q. nat_eq q p) node.parts) (slice_get nodes n) false) refl e in (omega arith, omega arith)
  from false e is rest = (let (low, high) = rest is in (low, omega (arith, high)))

pub up_later : (trees : List FileTree) (at p : NodeRef) → up trees at ≡ Some p → (p.file ≡ at.file) × (at.node < p.node)
up_later trees at p is = tree (slice_get trees at.file) refl where
  some : (o : Option ℕ) → above trees at.file at.node ≡ o → ((n : ℕ) → o ≡ Some n → at.node < n) → (p.file ≡ at.file) × (at.node < p.node)
  some None e later = absent (up trees at) p (ap (λ o. option_map (λ n. place at.file n) o) e) is
  some (Some n) e later = let same : place at.file n ≡ p = same_some (up trees at) (place at.file n) p (ap (λ o. option_map (λ n. place at.file n) o) e) is in
      (ap (λ (x : NodeRef). x.file) (sym same), subst (λ (x : NodeRef). at.node < x.node) same (later n refl))

  tree : (o : Option FileTree) → slice_get trees at.file ≡ o → (p.file ≡ at.file) × (at.node < p.node)
  tree None e = absent (up trees at) p (ap (λ o. option_map (λ n. place at.file n) (option_and_then (λ (t : FileTree). above_in t.nodes (length t.nodes) at.node) o)) e) is
  tree (Some t) e = some (above trees at.file at.node) refl (λ n n_is. (above_later t.nodes (length t.nodes) at.node n (sym (ap (λ o. option_and_then (λ (t : FileTree). above_in t.nodes (length t.nodes) at.node) o) e) ∙ n_is)).0)

held_same : {h : Held} (g : Held) → Some g ≡ Some h → g ≡ h
held_same g is = cc

pub held_later : (w : World) (trees : List FileTree) (at : NodeRef) (h : Held) → held w (up trees) at ≡ Some h → (h.braces.file ≡ at.file) × (at.node < h.braces.node)
held_later w trees at h is = from (up trees at) refl is where
  in_pair : (p : NodeRef) → (p.file ≡ at.file) × (at.node < p.node) → (o : Option NodeRef) → up trees p ≡ o
      → option_and_then (λ (v : NodeRef). if is_value (kind_at w v) then Some (record { braces = v; key = is_part_at w 0 p at }) else None) o ≡ Some h → (h.braces.file ≡ at.file) × (at.node < h.braces.node)
  in_pair p later None e is = absurd (cc)
  in_pair p (file, low) (Some v) e is = chosen (is_value (kind_at w v)) is (up_later trees p v e) where
    chosen : (b : Bool) → (if b then Some (record { braces = v; key = is_part_at w 0 p at }) else None) ≡ Some h → (v.file ≡ p.file) × (p.node < v.node) → (h.braces.file ≡ at.file) × (at.node < h.braces.node)
    chosen true is (v_file, v_low) = let same : v ≡ h.braces = ap (λ (x : Held). x.braces) (held_same (record { braces = v; key = is_part_at w 0 p at }) is) in
        (ap (λ (x : NodeRef). x.file) (sym same) ∙ (v_file ∙ file), subst (λ (x : NodeRef). at.node < x.node) same (omega (arith, low, v_low)))
    chosen false is later = absurd (cc)

  by_kind : (p : NodeRef) → (p.file ≡ at.file) × (at.node < p.node) → (kind_of_p : NodeKind) → held_in w (up trees) at kind_of_p p ≡ Some h → (h.braces.file ≡ at.file) × (at.node < h.braces.node)
  by_kind p (file, low) k.Value is = let same : p ≡ h.braces = ap (λ (x : Held). x.braces) (held_same (record { braces = p; key = false }) is) in
      (ap (λ (x : NodeRef). x.file) (sym same) ∙ file, subst (λ (x : NodeRef). at.node < x.node) same low)
  by_kind p later k.KeyValue is = in_pair p later (up trees p) refl is
  by_kind p later _ is = absurd (cc)

  from : (o : Option NodeRef) → up trees at ≡ o → option_and_then (λ (p : NodeRef). held_in w (up trees) at (kind_at w p) p) o ≡ Some h → (h.braces.file ≡ at.file) × (at.node < h.braces.node)
  from None e is = absurd (cc)
  from (Some p) e is = by_kind p (up_later trees at p e) (kind_at w p) is

-- ---- all nodes of a file

-- the literal of the braces in which a node stands is known from the nodes after it
pub held_known : (w : World) (trees : List FileTree) (at : NodeRef) (h : Held) (types : List (Option NodeRef)) → held w (up trees) at ≡ Some h → AreLiterals w (up trees) at.file types (at.node + 1)
    → IsLiteral w (up trees) h.braces (cell types h.braces.node)
held_known w trees at h types is known = (let (file, later) = held_later w trees at h is in
    subst (λ (f : ℕ). IsLiteral w (up trees) (place f h.braces.node) (cell types h.braces.node)) (sym file) (known h.braces.node (omega (arith, later))))

cell_here : (table : List (Option NodeRef)) (n : ℕ) (o : Option NodeRef) → n < length table → cell (set table n o) n ≡ o
cell_here table n o low = ap (λ (p : Option (Option NodeRef)). option_and_then (λ (q : Option NodeRef). q) p) (get_set_same table n o low)

cell_there : (table : List (Option NodeRef)) (n m : ℕ) (o : Option NodeRef) → (m ≡ n → ⊥) → cell (set table n o) m ≡ cell table m
cell_there table n m o apart = ap (λ (p : Option (Option NodeRef)). option_and_then (λ (q : Option NodeRef). q) p) (get_set_other table n m o apart)

cell_none : (n k : ℕ) → cell (replicate n None) k ≡ None
cell_none zero k = refl
cell_none (suc n) zero = refl
cell_none (suc n) (suc k) = cell_none n k

-- no literal stands past the last node
past_none : (w : World) (trees : List FileTree) (file n count : ℕ) → ((q p : ℕ) → above trees file p ≡ Some q → q < count) → count ≤ n → (t : NodeRef) → Literal w (up trees) (place file n) t → ⊥
past_none w trees file n count small high t l = none (up trees (place file n)) refl l where
  later : (p : NodeRef) → up trees (place file n) ≡ Some p → ⊥
  later p is = some (above trees file n) refl where
    some : (o : Option ℕ) → above trees file n ≡ o → ⊥
    some None e = absent (up trees (place file n)) p (ap (λ o. option_map (λ m. place file m) o) e) is
    some (Some q) e = (let (f, low) = up_later trees (place file n) (place file q) (ap (λ o. option_map (λ m. place file m) o) e) in let h = small q n e in omega (arith, low, h, high))

  none : (o : Option NodeRef) → up trees (place file n) ≡ o → Literal w (up trees) (place file n) t → ⊥
  none None e (own is) = absent (written w (up trees) (place file n)) t (ap (λ o. option_and_then (written_in w (place file n)) o) e) is
  none None e (inner h bare held_is l i) = absent (held w (up trees) (place file n)) h (ap (λ o. option_and_then (λ (p : NodeRef). held_in w (up trees) (place file n) (kind_at w p) p) o) e) held_is
  none (Some p) e l = later p e

pub record Typed (w : World) (trees : List FileTree) (file : ℕ) (types : List (Option NodeRef)) (count from : ℕ) : Type 0 where
  pub size : length types ≡ count
  pub within : from ≤ count
  pub known : AreLiterals w (up trees) file types from

pub above_small : (trees : List FileTree) (file count : ℕ) → count ≡ option_map_or (λ (tree : FileTree). length tree.nodes) (slice_get trees file) 0 → (q p : ℕ) → above trees file p ≡ Some q → q < count
above_small trees file count is q p e = from (slice_get trees file) refl where
  from : (o : Option FileTree) → slice_get trees file ≡ o → q < count
  from None none = absent (above trees file p) q (ap (λ o. option_and_then (λ (t : FileTree). above_in t.nodes (length t.nodes) p) o) none) e
  from (Some t) some = (let size : count ≡ length t.nodes = is ∙ ap (λ o. option_map_or (λ (x : FileTree). length x.nodes) o 0) some in
      let (low, high) = above_later t.nodes (length t.nodes) p q (sym (ap (λ o. option_and_then (λ (t : FileTree). above_in t.nodes (length t.nodes) p) o) some) ∙ e) in omega (arith, size, high))

pub typed_none : (w : World) (trees : List FileTree) (file count : ℕ) (types : List (Option NodeRef)) → count ≡ option_map_or (λ (tree : FileTree). length tree.nodes) (slice_get trees file) 0 → types ≡ replicate count None
    → Typed w trees file types count count
typed_none w trees file count types is blank = record {
  size = ap (λ (xs : List (Option NodeRef)). length xs) blank ∙ length-replicate count None;
  within = omega arith;
  known = λ n high t. (λ e. absent (cell types n) t (ap (λ (xs : List (Option NodeRef)). cell xs n) blank ∙ cell_none count n) e, λ l. absurd (past_none w trees file n count (above_small trees file count is) high t l));
}

pub typed_more : (w : World) (trees : List FileTree) (file count left n : ℕ) (types new : List (Option NodeRef)) (o : Option NodeRef) → left ≡ n + 1 → Typed w trees file types count left
    → IsLiteral w (up trees) (place file n) o → new ≡ set types n o → Typed w trees file new count n
typed_more w trees file count left n types new o left_is was is now = subst (λ (x : List (Option NodeRef)). Typed w trees file x count n) (sym now) (record {
  size = length-set types n o ∙ was.size;
  within = (let h = was.within in omega (arith, h, left_is));
  known = λ m high. elim (cases_eq m n) [
    | inl same ↦ subst (λ (x : ℕ). IsLiteral w (up trees) (place file x) (cell (set types n o) x)) (sym same)
        (subst (λ (c : Option NodeRef). IsLiteral w (up trees) (place file n) c) (sym (cell_here types n o (let s = was.size in let h = was.within in omega (arith, s, h, left_is)))) is)
    | inr apart ↦ subst (λ (c : Option NodeRef). IsLiteral w (up trees) (place file m) c) (sym (cell_there types n m o apart)) (was.known m (omega (arith, high, apart, left_is)))
  ];
})

-- ---- keys

false_true : {P : Type 0} → false ≡ true → P
false_true e = absurd (cc)

pub key_some : (w : World) (elsewhere : NodeRef → Bool) (up_to : NodeRef → Option NodeRef) (at of : NodeRef) (h : Held) (o e : Option NodeRef) (b : Bool) → held w up_to at ≡ Some h → h.key ≡ true → IsLiteral w up_to h.braces o → o ≡ Some of
    → IsEnd w true of e → b ≡ option_map_or (λ x. is_struct_at w elsewhere x) e false → (b ≡ true) ↔ IsKey w elsewhere up_to at
key_some w elsewhere up_to at of h o e b held_is key literal o_is ends b_is = (forth e refl, back) where
  forth : (d : Option NodeRef) → e ≡ d → b ≡ true → IsKey w elsewhere up_to at
  forth None none t = false_true (sym (b_is ∙ ap (λ x. option_map_or (λ x. is_struct_at w elsewhere x) x false) none) ∙ t)
  forth (Some d) some t = record {
    held_by = h;
    of = of;
    end = d;
    «is» = held_is;
    key = key;
    literal = (literal of).0 o_is;
    ends = (ends d).0 some;
    struct = sym (ap (λ x. option_map_or (λ x. is_struct_at w elsewhere x) x false) some) ∙ (sym b_is ∙ t);
  }

  back : IsKey w elsewhere up_to at → b ≡ true
  back d =
      let h_is : d.held_by ≡ h = same_some (held w up_to at) d.held_by h d.«is» held_is in
      let of_is : d.of ≡ of = same_some o d.of of ((literal d.of).1 (subst (λ (x : Held). Literal w up_to x.braces d.of) h_is d.literal)) o_is in
      b_is ∙ (ap (λ x. option_map_or (λ x. is_struct_at w elsewhere x) x false) ((ends d.end).1 (subst (λ (x : NodeRef). Ends w true x d.end) of_is d.ends)) ∙ d.struct)

pub key_unheld : (w : World) (elsewhere : NodeRef → Bool) (up_to : NodeRef → Option NodeRef) (at : NodeRef) → held w up_to at ≡ None → (false ≡ true) ↔ IsKey w elsewhere up_to at
key_unheld w elsewhere up_to at none = (false_true, λ d. absent (held w up_to at) d.held_by none d.«is»)

pub key_element : (w : World) (elsewhere : NodeRef → Bool) (up_to : NodeRef → Option NodeRef) (at : NodeRef) (h : Held) → held w up_to at ≡ Some h → h.key ≡ false → (false ≡ true) ↔ IsKey w elsewhere up_to at
key_element w elsewhere up_to at h held_is element = (false_true, λ d. sym element ∙ (ap (λ (x : Held). x.key) (same_some (held w up_to at) h d.held_by held_is d.«is») ∙ d.key))

pub key_unknown : (w : World) (elsewhere : NodeRef → Bool) (up_to : NodeRef → Option NodeRef) (at : NodeRef) (h : Held) (o : Option NodeRef) → held w up_to at ≡ Some h → IsLiteral w up_to h.braces o → o ≡ None → (false ≡ true) ↔ IsKey w elsewhere up_to at
key_unknown w elsewhere up_to at h o held_is literal none = (false_true, λ d. absent o d.of none ((literal d.of).1 (subst (λ (x : Held). Literal w up_to x.braces d.of) (same_some (held w up_to at) d.held_by h d.«is» held_is) d.literal)))

pub mentions_key : (w : World) (elsewhere : NodeRef → Bool) (up_to : NodeRef → Option NodeRef) (at : NodeRef) (b : Bool) → (b ≡ true) ↔ IsKey w elsewhere up_to at → b ≡ true → IsMentioned w elsewhere up_to at None
mentions_key w elsewhere up_to at b key is = inl (key.0 is, refl)

pub mentions_denoted : (w : World) (elsewhere : NodeRef → Bool) (up_to : NodeRef → Option NodeRef) (at : NodeRef) (b : Bool) (o : Option NodeRef) → (b ≡ true) ↔ IsKey w elsewhere up_to at → b ≡ false → o ≡ w.meant at → IsMentioned w elsewhere up_to at o
mentions_denoted w elsewhere up_to at b o key is o_is = inr (λ d. false_true (sym is ∙ key.1 d), o_is)
