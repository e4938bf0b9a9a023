-- What nodes by number show.
use Rattle.std.proofs.Common.{◌≡◌, ◌==◌, ℕ, zero, suc, ◌<◌, ◌+◌, ◌≤◌, Bool, true, false, cond, List, [], ◌∷◌, ◌++◌, length, take, get_or, slice_get, Some, refl, sym, ap, ◌∙◌, subst, arith, append_assoc}
use Rattle.std.specs.List.{All}
use Rattle.std.proofs.lemmas.Option.{slice_get_within}
use Rattle.std.proofs.lemmas.List.{take_more, append-nil}
use Rattle.scopes.specs.declared.scope.Form.{Form}
use Rattle.scopes.specs.declared.scope.Form.TheVariants as form
use Rattle.scopes.specs.declared.scope.Declares.{Declares}
use Rattle.scopes.specs.declared.scope.Declares.TheVariants as name
use Rattle.scopes.specs.declared.scope.Named.{Named}
use Rattle.scopes.specs.declared.scope.Role.{Role}
use Rattle.go_tree.specs.declared.tree.Node.{Node}
use Rattle.go_tree.specs.declared.tree.NodeKind.{NodeKind}
use Rattle.go_tree.specs.Arena.{size}
use Rattle.go_tree.specs.Forest.{Forest, Empty, Grow, ◌⊕◌}
use Rattle.scopes.specs.Roles.{role}
use Rattle.scopes.specs.Regions.{Scope, declare, declared, form_of, is_name, is_names, leaf_names, first_names, names_of, parameters, handed_within, handed_around, inside, before, after, is_soft}
use Rattle.scopes.specs.Walk.{Shows, IsFormed}
use Rattle.gv_base.proofs.Lists.{same_some}

size_join : (f g : Forest) → size (f ⊕ g) ≡ size f + size g
size_join Empty g = same (size g) where
  same : (n : ℕ) → n ≡ 0 + n
  same n = omega arith
size_join (Grow k a z ps f) g = ap (λ n. size ps + suc n) (size_join f g) ∙ more (size ps) (size f) (size g) where
  more : (a b c : ℕ) → a + suc (b + c) ≡ (a + suc b) + c
  more a b c = omega arith

further : (m a b : ℕ) → (m + suc a) + b ≡ m + (a + suc b)
further m a b = omega arith

-- trees by more numbers are those by the first and those by the others
pub shows_split : (nodes : List Node) (m : ℕ) (xs ys : List ℕ) (f : Forest) → Shows nodes m (xs ++ ys) f
    → (g : Forest) × (h : Forest) × (f ≡ g ⊕ h) × Shows nodes m xs g × Shows nodes (m + size g) ys h
shows_split nodes m [] ys f s = (Empty, f, refl, tt, subst (λ (x : ℕ). Shows nodes x ys f) (same m) s) where
  same : (m : ℕ) → m ≡ m + 0
  same m = omega arith
shows_split nodes m (x ∷ xs) ys Empty s = absurd s
shows_split nodes m (x ∷ xs) ys (Grow k a z ps rest) (node, there, kind, number, parts, others) =
    let (g, h, e, s, t) = shows_split nodes (m + suc (size ps)) xs ys rest others in (
      Grow k a z ps g,
      h,
      ap (λ r. Grow k a z ps r) e,
      (node, there, kind, number, parts, s),
      subst (λ (x : ℕ). Shows nodes x ys h) (further m (size ps) (size g)) t,
    )

-- what a function of trees gives of trees side by side is what it gives of each
abbrev pub Additive : {X : Type 0} → (ℕ → Forest → List X) → Type 0
Additive g = (m : ℕ) (f h : Forest) → g m (f ⊕ h) ≡ g m f ++ g (m + size f) h

at_same : {X : Type 0} (g : ℕ → Forest → List X) (m : ℕ) (h : Forest) → g m h ≡ g (m + 0) h
at_same g m h = ap (λ x. g x h) (same m) where
  same : (m : ℕ) → m ≡ m + 0
  same m = omega arith

-- one tree more in front
in_front : {X : Type 0} (g : ℕ → Forest → List X) (m : ℕ) (own : List X) (ps f h : Forest)
    → g (m + suc (size ps)) (f ⊕ h) ≡ g (m + suc (size ps)) f ++ g ((m + suc (size ps)) + size f) h
    → own ++ g (m + suc (size ps)) (f ⊕ h) ≡ (own ++ g (m + suc (size ps)) f) ++ g (m + (size ps + suc (size f))) h
in_front g m own ps f h e =
    ap (λ r. own ++ r) (e ∙ ap (λ x. g (m + suc (size ps)) f ++ g x h) (further m (size ps) (size f)))
    ∙ sym (append_assoc own (g (m + suc (size ps)) f) (g (m + (size ps + suc (size f))) h))

pub leaf_names_join : Additive leaf_names
leaf_names_join m Empty h = at_same leaf_names m h
leaf_names_join m (Grow k a z ps f) h = in_front leaf_names m _ ps f h (leaf_names_join (m + suc (size ps)) f h)

pub names_of_join : (p : Form → Bool) → Additive (names_of p)
names_of_join p m Empty h = at_same (names_of p) m h
names_of_join p m (Grow k a z ps f) h = in_front (names_of p) m _ ps f h (names_of_join p (m + suc (size ps)) f h)

pub parameters_join : Additive parameters
parameters_join m Empty h = at_same parameters m h
parameters_join m (Grow k a z ps f) h = in_front parameters m _ ps f h (parameters_join (m + suc (size ps)) f h)

pub declared_join : (s : Scope) → Additive (declared s)
declared_join s m Empty h = at_same (declared s) m h
declared_join s m (Grow k a z ps f) h = in_front (declared s) m _ ps f h (declared_join s (m + suc (size ps)) f h)

-- a loop over parts adds what a function gives of each
pub more : {X : Type 0} (g : ℕ → Forest → List X) → Additive g → (nodes : List Node) (parts : List ℕ) (i : ℕ) (was now new : List X) → i < length parts
    → ((m : ℕ) (f : Forest) → Shows nodes m (take i parts) f → now ≡ was ++ g m f)
    → ((m : ℕ) (f : Forest) → Shows nodes m (get_or parts i 0 ∷ []) f → new ≡ now ++ g m f)
    → (m : ℕ) (f : Forest) → Shows nodes m (take (i + 1) parts) f → new ≡ was ++ g m f
more g additive nodes parts i was now new low so_far this m f s =
    let (a, b, e, left, right) = shows_split nodes m (take i parts) (get_or parts i 0 ∷ []) f (subst (λ (x : List ℕ). Shows nodes m x f) (take_more parts i 0 low) s) in
    this (m + size a) b right ∙ (ap (λ x. x ++ g (m + size a) b) (so_far m a left)
    ∙ (append_assoc was (g m a) (g (m + size a) b) ∙ ap (λ x. was ++ x) (sym (additive m a b) ∙ ap (λ x. g m x) (sym e))))

pub none : {X : Type 0} (g : ℕ → Forest → List X) → ((m : ℕ) → g m Empty ≡ []) → (nodes : List Node) (was : List X) (m : ℕ) (f : Forest) → Shows nodes m [] f → was ≡ was ++ g m f
none g empty nodes was m Empty s = sym (ap (λ x. was ++ x) (empty m) ∙ append-nil was)
none g empty nodes was m (Grow k a z ps rest) s = absurd s

take_all : (xs : List ℕ) (i : ℕ) → length xs ≤ i → take i xs ≡ xs
take_all [] zero h = refl
take_all [] (suc i) h = refl
take_all (x ∷ xs) zero h = absurd (omega arith)
take_all (x ∷ xs) (suc i) h = ap (λ r. x ∷ r) (take_all xs i (omega arith))

pub all : {X : Type 0} (g : ℕ → Forest → List X) (nodes : List Node) (parts : List ℕ) (i : ℕ) (was now : List X) → length parts ≤ i
    → ((m : ℕ) (f : Forest) → Shows nodes m (take i parts) f → now ≡ was ++ g m f)
    → (m : ℕ) (f : Forest) → Shows nodes m parts f → now ≡ was ++ g m f
all g nodes parts i was now end so_far m f s = so_far m f (subst (λ (x : List ℕ). Shows nodes m x f) (sym (take_all parts i end)) s)

-- one node is one tree: this node's
pub one : {X : Type 0} (g : ℕ → Forest → List X) (nodes : List Node) (at : ℕ) (node : Node) (was new : List X) → slice_get nodes at ≡ Some node
    → ((m : ℕ) (k : NodeKind) (a z : ℕ) (ps : Forest) → node.kind ≡ k → at ≡ m + size ps → Shows nodes m node.parts ps → new ≡ was ++ g m (Grow k a z ps Empty))
    → (m : ℕ) (f : Forest) → Shows nodes m (at ∷ []) f → new ≡ was ++ g m f
one g nodes at node was new there is m Empty s = absurd s
one g nodes at node was new there is m (Grow k a z ps (Grow k2 a2 z2 ps2 rest)) (other, same, kind, number, parts, others) = absurd others
one g nodes at node was new there is m (Grow k a z ps Empty) (other, same, kind, number, parts, others) =
    let it : other ≡ node = same_some (slice_get nodes at) other node same there in
    is m k a z ps (sym (ap (λ (x : Node). x.kind) it) ∙ kind) number (subst (λ (x : Node). Shows nodes m x.parts ps) it parts)

pub below_parts : (nodes : List Node) (at : ℕ) (node : Node) → IsFormed nodes → slice_get nodes at ≡ Some node → All (λ k. k < length nodes) node.parts
below_parts nodes at node formed there k d low =
    let h = formed at node there k d low in let w = slice_get_within nodes at node there in omega arith

-- ---- the names that a node is

pub leaf_step : (nodes : List Node) (at : ℕ) (was new : List ℕ) (f : Form) → at < length nodes
    → ((node : Node) → slice_get nodes at ≡ Some node → f ≡ form_of node.kind) → new ≡ was ++ cond (is_name f) (at ∷ []) []
    → (m : ℕ) (h : Forest) → Shows nodes m (at ∷ []) h → new ≡ was ++ leaf_names m h
leaf_step nodes at was new f low is now m Empty s = absurd s
leaf_step nodes at was new f low is now m (Grow k a z ps (Grow k2 a2 z2 ps2 rest)) (node, there, kind, number, parts, others) = absurd others
leaf_step nodes at was new f low is now m (Grow k a z ps Empty) (node, there, kind, number, parts, others) =
    now ∙ (ap (λ x. was ++ cond (is_name x) (at ∷ []) []) (is node there ∙ ap form_of kind)
    ∙ (ap (λ x. was ++ cond (is_name (form_of k)) (x ∷ []) []) number ∙ ap (λ x. was ++ x) (sym (append-nil (cond (is_name (form_of k)) ((m + size ps) ∷ []) [])))))

first_at : (f : Form) (k : NodeKind) (m : ℕ) (ps : Forest) (was new : List ℕ) → f ≡ form_of k
    → new ≡ was ++ cond (is_name f) ((m + size ps) ∷ []) (cond (is_names f) (leaf_names m ps) []) → new ≡ was ++ cond (is_name (form_of k)) ((m + size ps) ∷ []) (cond (is_names (form_of k)) (leaf_names m ps) [])
first_at f k m ps was new e is = is ∙ ap (λ x. was ++ cond (is_name x) ((m + size ps) ∷ []) (cond (is_names x) (leaf_names m ps) [])) e

pub list_name : (nodes : List Node) (at : ℕ) (node : Node) (was new : List ℕ) → slice_get nodes at ≡ Some node → form_of node.kind ≡ form.Name → new ≡ was ++ at ∷ []
    → (m : ℕ) (f : Forest) → Shows nodes m (at ∷ []) f → new ≡ was ++ first_names m f
list_name nodes at node was new there is now = one first_names nodes at node was new there
    (λ m k a z ps kind number parts. first_at form.Name k m ps was new (sym is ∙ ap form_of kind) (now ∙ ap (λ x. was ++ x ∷ []) number))

pub list_names : (nodes : List Node) (at : ℕ) (node : Node) (was new : List ℕ) → slice_get nodes at ≡ Some node → form_of node.kind ≡ form.Names
    → ((m : ℕ) (f : Forest) → Shows nodes m node.parts f → new ≡ was ++ leaf_names m f)
    → (m : ℕ) (f : Forest) → Shows nodes m (at ∷ []) f → new ≡ was ++ first_names m f
list_names nodes at node was new there is now = one first_names nodes at node was new there
    (λ m k a z ps kind number parts. first_at form.Names k m ps was new (sym is ∙ ap form_of kind) (now m ps parts))

pub list_none : (nodes : List Node) (at : ℕ) (node : Node) (was : List ℕ) (f : Form) → slice_get nodes at ≡ Some node → form_of node.kind ≡ f → is_name f ≡ false → is_names f ≡ false
    → (m : ℕ) (h : Forest) → Shows nodes m (at ∷ []) h → was ≡ was ++ first_names m h
list_none nodes at node was f there is a_name some_names = one first_names nodes at node was was there
    (λ m k a z ps kind number parts. first_at f k m ps was was (sym is ∙ ap form_of kind)
    (sym (ap (λ x. was ++ cond x ((m + size ps) ∷ []) (cond (is_names f) (leaf_names m ps) [])) a_name ∙ (ap (λ x. was ++ cond x (leaf_names m ps) []) some_names ∙ append-nil was))))

-- the first names are those of the first node
pub of_first : (nodes : List Node) (parts was new : List ℕ) → 0 < length parts
    → ((m : ℕ) (f : Forest) → Shows nodes m (get_or parts 0 0 ∷ []) f → new ≡ was ++ first_names m f) → (m : ℕ) (f : Forest) → Shows nodes m parts f → new ≡ was ++ first_names m f
of_first nodes [] was new some is m f s = absurd (omega arith)
of_first nodes (x ∷ xs) was new some is m Empty s = absurd s
of_first nodes (x ∷ xs) was new some is m (Grow k a z ps rest) (node, there, kind, number, parts, others) =
    is m (Grow k a z ps Empty) (node, there, kind, number, parts, tt)

pub no_first : (nodes : List Node) (parts was : List ℕ) → length parts ≡ 0 → (m : ℕ) (f : Forest) → Shows nodes m parts f → was ≡ was ++ first_names m f
no_first nodes [] was none m Empty s = sym (append-nil was)
no_first nodes [] was none m (Grow k a z ps rest) s = absurd s
no_first nodes (x ∷ xs) was none m f s = absurd (omega arith)

-- a node of the wanted form gives the names of its parts, another none
pub chosen : (g : ℕ → Forest → List ℕ) (nodes : List Node) (at : ℕ) (node : Node) (was new : List ℕ) (p : Form → Bool) (h : ℕ → Forest → List ℕ) (wanted : Bool)
    → ((m : ℕ) (k : NodeKind) (a z : ℕ) (ps : Forest) → g m (Grow k a z ps Empty) ≡ cond (p (form_of k)) (h m ps) [] ++ [])
    → slice_get nodes at ≡ Some node → wanted ≡ p (form_of node.kind)
    → ((m : ℕ) (f : Forest) → Shows nodes m node.parts f → new ≡ was ++ cond wanted (h m f) [])
    → (m : ℕ) (f : Forest) → Shows nodes m (at ∷ []) f → new ≡ was ++ g m f
chosen g nodes at node was new p h wanted gives there is now = one g nodes at node was new there
    (λ m k a z ps kind number parts. now m ps parts ∙ (ap (λ b. was ++ cond b (h m ps) []) (is ∙ ap (λ x. p (form_of x)) kind)
    ∙ ap (λ x. was ++ x) (sym (append-nil (cond (p (form_of k)) (h m ps) [])) ∙ sym (gives m k a z ps))))

pub if_wanted : (h : ℕ → Forest → List ℕ) (nodes : List Node) (parts was new : List ℕ) (wanted : Bool) → wanted ≡ true
    → ((m : ℕ) (f : Forest) → Shows nodes m parts f → new ≡ was ++ h m f) → (m : ℕ) (f : Forest) → Shows nodes m parts f → new ≡ was ++ cond wanted (h m f) []
if_wanted h nodes parts was new wanted e is m f s = is m f s ∙ ap (λ b. was ++ cond b (h m f) []) (sym e)

pub if_not : (h : ℕ → Forest → List ℕ) (nodes : List Node) (parts was : List ℕ) (wanted : Bool) → wanted ≡ false
    → (m : ℕ) (f : Forest) → Shows nodes m parts f → was ≡ was ++ cond wanted (h m f) []
if_not h nodes parts was wanted e m f s = sym (ap (λ b. was ++ cond b (h m f) []) e ∙ append-nil was)

-- ---- a node

glue : (o0 o1 o2 o3 o4 o5 d1 d2 d3 d4 d5 : List Named) → o1 ≡ o0 ++ d1 → o2 ≡ o1 ++ d2 → o3 ≡ o2 ++ d3 → o4 ≡ o3 ++ d4 → o5 ≡ o4 ++ d5
    → o5 ≡ o0 ++ (((d1 ++ (d2 ++ (d3 ++ d4))) ++ d5) ++ [])
glue o0 o1 o2 o3 o4 o5 d1 d2 d3 d4 d5 a b c d e =
    let two : o2 ≡ o0 ++ (d1 ++ d2) = b ∙ (ap (λ x. x ++ d2) a ∙ append_assoc o0 d1 d2) in
    let three : o3 ≡ o0 ++ (d1 ++ (d2 ++ d3)) = c ∙ (ap (λ x. x ++ d3) two ∙ (append_assoc o0 (d1 ++ d2) d3 ∙ ap (λ x. o0 ++ x) (append_assoc d1 d2 d3))) in
    let four : o4 ≡ o0 ++ (d1 ++ (d2 ++ (d3 ++ d4))) = d ∙ (ap (λ x. x ++ d4) three ∙ (append_assoc o0 (d1 ++ (d2 ++ d3)) d4
    ∙ ap (λ x. o0 ++ x) (append_assoc d1 (d2 ++ d3) d4 ∙ ap (λ x. d1 ++ x) (append_assoc d2 d3 d4)))) in
    e ∙ (ap (λ x. x ++ d5) four ∙ (append_assoc o0 (d1 ++ (d2 ++ (d3 ++ d4))) d5 ∙ ap (λ x. o0 ++ x) (sym (append-nil ((d1 ++ (d2 ++ (d3 ++ d4))) ++ d5)))))

abbrev scope_of : ℕ → List ℕ → List ℕ → Scope
scope_of b w x = record { block = b; within = w; around = x }

-- What the steps of a node add is what the tree declares.
pub collected : (nodes : List Node) (from at : ℕ) (node : Node) (r : Role) (s : Scope) (inner : ℕ) (in_body in_clause : List ℕ) (o0 o1 o2 o3 o4 o5 : List Named)
    → slice_get nodes at ≡ Some node → r ≡ role node.kind → inner ≡ cond r.opens at s.block
    → o1 ≡ o0 ++ declare from s.block false (cond r.takes s.around [])
    → ((m : ℕ) (f : Forest) → Shows nodes m node.parts f → o2 ≡ o1 ++ declare from s.block false (before r.declares m f))
    → o3 ≡ o2 ++ declare from inner false (cond r.takes s.within [])
    → ((m : ℕ) (f : Forest) → Shows nodes m node.parts f → in_body ≡ handed_within r.hands m f)
    → ((t : Scope) → t.around ≡ s.around → (m : ℕ) (f : Forest) → Shows nodes m node.parts f → in_clause ≡ handed_around r.hands t m f)
    → ((f : Forest) → Shows nodes from node.parts f → o4 ≡ o3 ++ declared (record { block = inner; within = in_body; around = in_clause }) from f)
    → ((m : ℕ) (f : Forest) → Shows nodes m node.parts f → o5 ≡ o4 ++ declare (at + 1) s.block (is_soft r.declares) (after r.declares m f))
    → (f : Forest) → Shows nodes from (at ∷ []) f → o5 ≡ o0 ++ declared s from f
collected nodes from at node r s inner in_body in_clause o0 o1 o2 o3 o4 o5 there is_role is_inner is_1 is_2 is_3 is_body is_clause is_4 is_5 Empty shows = absurd shows
collected nodes from at node r s inner in_body in_clause o0 o1 o2 o3 o4 o5 there is_role is_inner is_1 is_2 is_3 is_body is_clause is_4 is_5 (Grow k a z ps (Grow k2 a2 z2 ps2 rest)) (other, same, kind, number, parts, others) = absurd others
collected nodes from at node r s inner in_body in_clause o0 o1 o2 o3 o4 o5 there is_role is_inner is_1 is_2 is_3 is_body is_clause is_4 is_5 (Grow k a z ps Empty) (other, same, kind, number, parts, others) =
    let it : other ≡ node = same_some (slice_get nodes at) other node same there in
    let k_is : node.kind ≡ k = ap (λ (x : Node). x.kind) (sym it) ∙ kind in
    let shown : Shows nodes from node.parts ps = subst (λ (x : Node). Shows nodes from x.parts ps) it parts in
    let r_is : r ≡ role k = is_role ∙ ap role k_is in
    let block_is : inner ≡ cond (role k).opens (from + size ps) s.block = is_inner ∙ (ap (λ (x : Role). cond x.opens at s.block) r_is ∙ ap (λ x. cond (role k).opens x s.block) number) in
    let body_is : in_body ≡ handed_within (role k).hands from ps = is_body from ps shown ∙ ap (λ (x : Role). handed_within x.hands from ps) r_is in
    let clause_is : in_clause ≡ handed_around (role k).hands s from ps = is_clause s refl from ps shown ∙ ap (λ (x : Role). handed_around x.hands s from ps) r_is in
    let end_is : at + 1 ≡ from + suc (size ps) = next_to from at (size ps) number in
    let scope_is : scope_of inner in_body in_clause ≡ inside s k from ps = same_scope _ _ _ _ _ _ block_is body_is clause_is in
    glue o0 o1 o2 o3 o4 o5 _ _ _ _ _
    (is_1 ∙ ap (λ (x : Role). o0 ++ declare from s.block false (cond x.takes s.around [])) r_is)
    (is_2 from ps shown ∙ ap (λ (x : Role). o1 ++ declare from s.block false (before x.declares from ps)) r_is)
    (is_3 ∙ (ap (λ x. o2 ++ declare from x false (cond r.takes s.within [])) block_is ∙ ap (λ (x : Role). o2 ++ declare from (inside s k from ps).block false (cond x.takes s.within [])) r_is))
    (is_4 ps shown ∙ ap (λ (x : Scope). o3 ++ declared x from ps) scope_is)
    (is_5 from ps shown ∙ (ap (λ x. o4 ++ declare x s.block (is_soft r.declares) (after r.declares from ps)) end_is
    ∙ ap (λ (x : Role). o4 ++ declare (from + suc (size ps)) s.block (is_soft x.declares) (after x.declares from ps)) r_is)) where
      next_to : (from at n : ℕ) → at ≡ from + n → at + 1 ≡ from + suc n
      next_to from at n e = omega arith

      same_scope : (b c : ℕ) (w v x y : List ℕ) → b ≡ c → w ≡ v → x ≡ y → scope_of b w x ≡ scope_of c v y
      same_scope b c w v x y e f g = ap (λ n. scope_of n w x) e ∙ (ap (λ l. scope_of c l x) f ∙ ap (λ l. scope_of c v l) g)

-- A node without parts that takes no names declares nothing.
bare_before : (d : Declares) (m : ℕ) → before d m Empty ≡ []
bare_before name.Nothing m = refl
bare_before name.Before m = refl
bare_before name.After m = refl
bare_before name.Assigns m = refl

bare_after : (d : Declares) (m : ℕ) → after d m Empty ≡ []
bare_after name.Nothing m = refl
bare_after name.Before m = refl
bare_after name.After m = refl
bare_after name.Assigns m = refl

shows_no_more : (nodes : List Node) (m : ℕ) (parts : List ℕ) (k : NodeKind) (a z : ℕ) (ps rest : Forest) → length parts ≡ 0 → Shows nodes m parts (Grow k a z ps rest) → ⊥
shows_no_more nodes m [] k a z ps rest none shows = shows
shows_no_more nodes m (x ∷ xs) k a z ps rest none shows = omega arith

adds_none : (out d : List Named) → d ≡ [] → out ≡ out ++ d
adds_none out d e = sym (ap (λ x. out ++ x) e ∙ append-nil out)

pub bare : (nodes : List Node) (from at : ℕ) (node : Node) (r : Role) (s : Scope) (out : List Named) → slice_get nodes at ≡ Some node → r ≡ role node.kind → r.takes ≡ false
    → length node.parts ≡ 0 → (f : Forest) → Shows nodes from (at ∷ []) f → out ≡ out ++ declared s from f
bare nodes from at node r s out there is_role leaves none Empty shows = absurd shows
bare nodes from at node r s out there is_role leaves none (Grow k a z ps (Grow k2 a2 z2 ps2 rest)) (other, same, kind, number, parts, others) = absurd others
bare nodes from at node r s out there is_role leaves none (Grow k a z (Grow k2 a2 z2 ps2 rest) Empty) (other, same, kind, number, parts, others) =
    let it : other ≡ node = same_some (slice_get nodes at) other node same there in
    absurd (shows_no_more nodes from node.parts k2 a2 z2 ps2 rest none (subst (λ (x : Node). Shows nodes from x.parts (Grow k2 a2 z2 ps2 rest)) it parts))
bare nodes from at node r s out there is_role leaves none (Grow k a z Empty Empty) (other, same, kind, number, parts, others) =
    let it : other ≡ node = same_some (slice_get nodes at) other node same there in
    let k_is : node.kind ≡ k = ap (λ (x : Node). x.kind) (sym it) ∙ kind in
    let takes_is : (role k).takes ≡ false = sym (ap (λ (x : Role). x.takes) (is_role ∙ ap role k_is)) ∙ leaves in
    glue out out out out out out _ _ _ _ _
    (adds_none out _ (ap (λ b. declare from s.block false (cond b s.around [])) takes_is))
    (adds_none out _ (ap (λ names. declare from s.block false names) (bare_before (role k).declares from)))
    (adds_none out _ (ap (λ b. declare from (inside s k from Empty).block false (cond b s.within [])) takes_is))
    (adds_none out (declared (inside s k from Empty) from Empty) refl)
    (adds_none out _ (ap (λ names. declare (from + 1) s.block (is_soft (role k).declares) names) (bare_after (role k).declares from)))

-- ---- the loop over the parts of a node: the parts so far, and where the next one's nodes begin

pub record Walked (nodes : List Node) (from : ℕ) (parts : List ℕ) (s : Scope) (was now : List Named) (next : ℕ) : Type 0 where
  pub declares : (f : Forest) → Shows nodes from parts f → now ≡ was ++ declared s from f
  pub at : (f : Forest) → Shows nodes from parts f → next ≡ from + size f

pub walked_none : (nodes : List Node) (from : ℕ) (s : Scope) (out : List Named) → Walked nodes from [] s out out from
walked_none nodes from s out = record { declares = λ f shows. none (declared s) (λ m. refl) nodes out from f shows; at = λ f shows. no_size f shows } where
  no_size : (f : Forest) → Shows nodes from [] f → from ≡ from + size f
  no_size Empty shows = omega arith
  no_size (Grow k a z ps rest) shows = absurd shows

pub walked_more : (nodes : List Node) (from : ℕ) (parts : List ℕ) (i : ℕ) (s : Scope) (was now new : List Named) (next : ℕ) → i < length parts
    → Walked nodes from (take i parts) s was now next
    → ((f : Forest) → Shows nodes next (get_or parts i 0 ∷ []) f → new ≡ now ++ declared s next f)
    → Walked nodes from (take (i + 1) parts) s was new (get_or parts i 0 + 1)
walked_more nodes from parts i s was now new next low so_far this = record {
  declares = λ f shows.
      let (a, b, e, left, right) = split f shows in
      let here : next ≡ from + size a = so_far.at a left in
      this b (subst (λ (x : ℕ). Shows nodes x (get_or parts i 0 ∷ []) b) (sym here) right) ∙ (ap (λ x. now ++ declared s x b) here ∙ (ap (λ x. x ++ declared s (from + size a) b) (so_far.declares a left)
      ∙ (append_assoc was (declared s from a) (declared s (from + size a) b) ∙ ap (λ x. was ++ x) (sym (declared_join s from a b) ∙ ap (λ x. declared s from x) (sym e)))));
  at = λ f shows.
      let (a, b, e, left, right) = split f shows in
      one_size (from + size a) (get_or parts i 0) b right ∙ (sized from (size a) (size b) ∙ ap (λ x. from + x) (sym (size_join a b) ∙ ap size (sym e)));
} where
  split : (f : Forest) → Shows nodes from (take (i + 1) parts) f
      → (g : Forest) × (h : Forest) × (f ≡ g ⊕ h) × Shows nodes from (take i parts) g × Shows nodes (from + size g) (get_or parts i 0 ∷ []) h
  split f shows = shows_split nodes from (take i parts) (get_or parts i 0 ∷ []) f (subst (λ (x : List ℕ). Shows nodes from x f) (take_more parts i 0 low) shows)

  sized : (m a b : ℕ) → (m + a) + b ≡ m + (a + b)
  sized m a b = omega arith

  one_size : (m n : ℕ) (h : Forest) → Shows nodes m (n ∷ []) h → n + 1 ≡ m + size h
  one_size m n Empty shows = absurd shows
  one_size m n (Grow k a z ps (Grow k2 a2 z2 ps2 rest)) (node, there, kind, number, parts, others) = absurd others
  one_size m n (Grow k a z ps Empty) (node, there, kind, number, parts, others) = more_one m n (size ps) number where
    more_one : (m n a : ℕ) → n ≡ m + a → n + 1 ≡ m + (a + 1)
    more_one m n a e = omega arith

pub walked_all : (nodes : List Node) (from : ℕ) (parts : List ℕ) (i : ℕ) (s : Scope) (was now : List Named) (next : ℕ) → length parts ≤ i → Walked nodes from (take i parts) s was now next
    → (f : Forest) → Shows nodes from parts f → now ≡ was ++ declared s from f
walked_all nodes from parts i s was now next end so_far f shows = so_far.declares f (subst (λ (x : List ℕ). Shows nodes from x f) (sym (take_all parts i end)) shows)

pub not_empty : (xs : List ℕ) → false ≡ (length xs == 0) → 0 < length xs
not_empty [] e = absurd (cc)
not_empty (x ∷ xs) e = omega arith
