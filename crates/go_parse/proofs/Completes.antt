-- What a state of the parser may still become: the stack of what is wanted, the trees that are done, the tokens that are left.
use Rattle.std.proofs.Common.{◌≡◌, ℕ, suc, zero, ◌-◌, ◌<◌, ◌≤◌, Bool, true, List, [], ◌∷◌, ◌++◌, length, ◌&&◌, ◌||◌, ◌⊎◌, inl, inr, refl, arith, subst, sym, ap, ◌∙◌, Some}
use Rattle.std.specs.Prelude.{nat_lt, nat_le}
use Rattle.std.proofs.Math.Nat.{le_refl}
use Rattle.go_tree.specs.declared.grammar.Setting.{Setting}
use Rattle.go_tree.specs.declared.grammar.Ending.{Ending}
use Rattle.go_tree.specs.declared.grammar.Ending.TheVariants.{Is, Bare, Tail}
use Rattle.go_tree.specs.declared.grammar.Category.{Category}
use Rattle.go_tree.specs.declared.grammar.Terminal.{Terminal}
use Rattle.go_tree.specs.declared.grammar.Symbol.{Symbol}
use Rattle.go_tree.specs.declared.grammar.Symbol.TheVariants.{Token, Part, Inline, Operand}
use Rattle.go_parse.specs.declared.parser.Task.{Task}
use Rattle.go_parse.specs.declared.parser.Task.TheVariants.{Want, Close, After}
use Rattle.go_tree.specs.Forest.{Forest, Empty, ◌⊕◌, count, front, back}
use Rattle.go_tree.specs.Classes.{level_of, next}
use Rattle.go_tree.specs.Follow.{follow}
use Rattle.go_tree.specs.Inlines.{inlines}
use Rattle.go_tree.specs.Nodes.{nodes}
use Rattle.go_tree.specs.Operands.{prefixes, suffixes}
use Rattle.go_tree.specs.Rule.{Rule}
use Rattle.go_tree.specs.Terminals.{admits}
use Rattle.go_tree.specs.declared.grammar.Shape.{Shape}
use Rattle.go_tree.specs.Shape.{shape}
use Rattle.go_tree.specs.Arena.{kinds}
use Rattle.go_tree.specs.Choice.{stands, first_symbol, follow_symbol, may_be_empty, begins, nothing, pick_inline, pick_node, pick_prefix, pick_suffix, empty, rest, whole, permits, fits_inline, fits_node}
use Rattle.go_tree.specs.Spells.{Among, Spells, Closes, done, token, inline, node, prefix, suffix, bare, tail}
use Rattle.go_parse.proofs.Check.{lone_nodes, shapes, among_shapes, all_at, low_suffix, implies, implied, below, all, follows, lone, picked, pick_is, both, at, fine_rule, fine_prefix, fine_suffix}
use Rattle.go_parse.proofs.Checked.{inlines_are_fine, nodes_are_fine, prefixes_are_fine, suffixes_are_fine}
use Rattle.go_parse.proofs.Forests.{beside_none, beside_assoc, front_back, front_more, back_more, front_again, back_again, front_count, back_count}
use Rattle.go_parse.proofs.Begin.{suffix_low, next_below, or_first, or_second, either, begins_split, begins_append, prefix_full, suffix_full, suffix_level, starts, ends}
use Rattle.go_parse.specs.State.{Grows, stop, goes_on, wants, Completes, opens, Tidy, Orderly}
use Rattle.go_parse.proofs.Left.{to_head, from_head}

cons : {n : ℕ} {s : Symbol} {ss : List Symbol} {f g : Forest} {xs ys zs : List ℕ}
    → Spells n (s ∷ []) f xs ys → Spells n ss g ys zs → Spells n (s ∷ ss) (f ⊕ g) xs zs
cons (token a done) t = token a t
cons {n = n} {ss = ss} {g = g} {xs = xs} {zs = zs} (inline {c = x} {g = f} r a m s done) t = subst (λ v. Spells n (Inline x ∷ ss) (v ⊕ g) xs zs) (sym (beside_none f)) (inline r a m s t)
cons {n = n} {ss = ss} {g = g} {xs = xs} {zs = zs} (node {c = x} {t = f} e done) t = subst (λ v. Spells n (Part x ∷ ss) (v ⊕ g) xs zs) (sym (beside_none f)) (node e t)
cons {n = n} {ss = ss} {g = g} {xs = xs} {zs = zs} (prefix {p = p} {l = v} {t = f} r a l s e done) t = subst (λ u. Spells n (Operand p v ∷ ss) (u ⊕ g) xs zs) (sym (beside_none f)) (prefix r a l s e t)
cons {n = n} {ss = ss} {g = g} {xs = xs} {zs = zs} (suffix {p = p} {l = v} {t = f} r a l left s e done) t = subst (λ u. Spells n (Operand p v ∷ ss) (u ⊕ g) xs zs) (sym (beside_none f)) (suffix r a l left s e t)

record Cut (n : ℕ) (s : Symbol) (ss : List Symbol) (f : Forest) (xs zs : List ℕ) : Type 0 where
  t : Forest
  u : Forest
  ys : List ℕ
  head : Spells n (s ∷ []) t xs ys
  tail : Spells n ss u ys zs
  is : t ⊕ u ≡ f

uncons : {n : ℕ} {s : Symbol} {ss : List Symbol} {f : Forest} {xs zs : List ℕ} → Spells n (s ∷ ss) f xs zs → Cut n s ss f xs zs
uncons (token {f = f} {xs = xs} a t) = record { t = Empty; u = f; ys = xs; head = token a done; tail = t; is = refl }
uncons (inline {g = g} {f = f} {ys = ys} r a m s t) = record { t = g ⊕ Empty; u = f; ys = ys; head = inline r a m s done; tail = t; is = rw beside_none refl }
uncons (node {t = g} {f = f} {ys = ys} e t) = record { t = g ⊕ Empty; u = f; ys = ys; head = node e done; tail = t; is = rw beside_none refl }
uncons (prefix {t = g} {f = f} {ys = ys} r a l s e t) = record { t = g ⊕ Empty; u = f; ys = ys; head = prefix r a l s e done; tail = t; is = rw beside_none refl }
uncons (suffix {t = g} {f = f} {zs = zs} r a l o s e t) = record { t = g ⊕ Empty; u = f; ys = zs; head = suffix r a l o s e done; tail = t; is = rw beside_none refl }

pub split : (n : ℕ) (ss : List Symbol) (k : List Task) (g : Forest) (xs : List ℕ) (f : Forest) → Completes n (wants ss ++ k) g xs f
    → (t : Forest) × (ys : List ℕ) × Spells n ss t xs ys × Completes n k (g ⊕ t) ys f
split n [] k g xs f h = (Empty, xs, done, rw beside_none h)
split n (s ∷ ss) k g xs f (t, ys, q, h) =
    let r = split n ss k (g ⊕ t) ys f h in
    (t ⊕ r.0, r.1, cons q r.2, rw (← beside_assoc g t r.0) r.3)

pub join : (n : ℕ) (ss : List Symbol) (k : List Task) (g t : Forest) (xs ys : List ℕ) (f : Forest)
    → Spells n ss t xs ys → Completes n k (g ⊕ t) ys f → Completes n (wants ss ++ k) g xs f
join n [] k g t xs ys f done h = rw (← beside_none g) h
join n (s ∷ ss) k g t xs ys f q h =
    let c = uncons q in
    (c.t, c.ys, c.head, join n ss k (g ⊕ c.t) c.u c.ys ys f c.tail (rw (beside_assoc g c.t c.u, c.is) h))

mono : (ss : List Symbol) (p q : ℕ → Bool) (c : ℕ) → (p c ≡ true → q c ≡ true) → begins ss p c ≡ true → begins ss q c ≡ true
mono [] p q c i h = i h
mono (s ∷ ss) p q c i h = go (either _ _ h) (mono ss p q c i)
  where
    go : (first_symbol s c ≡ true) ⊎ ((may_be_empty s && begins ss p c) ≡ true) → (begins ss p c ≡ true → begins ss q c ≡ true)
        → (first_symbol s c || (may_be_empty s && begins ss q c)) ≡ true
    go (inl e) f = or_first _ _ e
    go (inr e) f = let w = both (may_be_empty s) (begins ss p c) e in or_second (first_symbol s c) _ (let z = f w.1 in let y = w.0 in cc)

opens_wants : (ss : List Symbol) (k : List Task) (c : ℕ) → opens (wants ss ++ k) c ≡ begins ss (opens k) c
opens_wants [] k c = refl
opens_wants (s ∷ ss) k c = ap (λ b. first_symbol s c || (may_be_empty s && b)) (opens_wants ss k c)

-- An orderly stack stays so where the symbols of a rule go on it.
pub orderly : (ss : List Symbol) (k : List Task) (p : ℕ → Bool) → follows ss p ≡ true
    → ((c : ℕ) → c < 77 → opens k c ≡ true → p c ≡ true) → Orderly k → Orderly (wants ss ++ k)
orderly [] k p h i o = o
orderly (s ∷ ss) k p h i o =
    let w = both (below 77 (λ c. implies (begins ss p c) (follow_symbol s c))) (follows ss p) h in (
      λ c l e. implied _ _ (at 77 (λ c. implies (begins ss p c) (follow_symbol s c)) c w.0 l)
          (mono ss (opens k) p c (i c l) (rw (← opens_wants ss k c) e)),
      orderly ss k p w.1 i o,
    )

-- The stack of a rule is orderly: its symbols, and the end of its node.
follows_append : (ss tt : List Symbol) (p : ℕ → Bool) → follows (ss ++ tt) p ≡ true → (follows ss (begins tt p) ≡ true) × (follows tt p ≡ true)
follows_append [] tt p h = (refl, h)
follows_append (s ∷ ss) tt p h =
    let w = both (below 77 (λ c. implies (begins (ss ++ tt) p c) (follow_symbol s c))) (follows (ss ++ tt) p) h in
    let r = follows_append ss tt p w.1 in
    (cc_and (ap_below 77 (λ c. ap (λ b. implies b (follow_symbol s c)) (begins_append ss tt p c)) w.0) r.0, r.1)
  where
    cc_and : {a b : Bool} → a ≡ true → b ≡ true → (a && b) ≡ true
    cc_and e f = cc

    ap_below : {f g : ℕ → Bool} (n : ℕ) → ((c : ℕ) → f c ≡ g c) → below n f ≡ true → below n g ≡ true
    ap_below zero i h = refl
    ap_below {f = f} {g = g} (suc n) i h = let w = both (f n) (below n f) h in let z = i n in let y = ap_below n i w.1 in cc

tidy : (e : Ending) (k : List Task) (p : ℕ → Bool) → follows (rest e) p ≡ true → ((c : ℕ) → c < 77 → opens k c ≡ true → p c ≡ true) → Tidy e k
tidy (Is m) k p h i = tt
tidy Bare k p h i = tt
tidy (Tail x) k p h i = λ c l e. implied (p c) (follow x c) (at 77 (λ c. implies (p c) (follow x c)) c (both (below 77 (λ c. implies (p c) (follow x c))) true h).0 l) (i c l e)

pub rule_orderly : (r : Rule) (a base : ℕ) (k : List Task) (p : ℕ → Bool) → follows (whole r) p ≡ true
    → ((c : ℕ) → c < 77 → opens k c ≡ true → p c ≡ true) → Orderly k → Orderly (wants r.symbols ++ (Close r.ending a base ∷ k))
rule_orderly r a base k p h i o =
    let w = follows_append r.symbols (rest r.ending) p h in
    orderly r.symbols (Close r.ending a base ∷ k) (begins (rest r.ending) p) w.0
    (λ c l e. mono (rest r.ending) (opens k) p c (i c l) e)
    (tidy r.ending k p w.1 i, o)

full_begins : (ss : List Symbol) (c : ℕ) → (empty ss ≡ true → ⊥) → begins ss (λ _. true) c ≡ true → begins ss nothing c ≡ true
full_begins ss c n h = go (begins_split ss (λ _. true) c h)
  where
    go : (begins ss nothing c ≡ true) ⊎ ((empty ss ≡ true) × (true ≡ true)) → begins ss nothing c ≡ true
    go (inl e) = e
    go (inr e) = absurd (n e.0)

-- A rule begins with the next token.
whole_begins : {n a : ℕ} {b parts t : Forest} {xs ws ys : List ℕ} (r : Rule) (p : ℕ → Bool) → Spells n r.symbols parts xs ws → Closes n r.ending a b t ws ys
    → p (next ys) ≡ true → begins (whole r) p (next xs) ≡ true
whole_begins {xs = xs} r p s e h = begins_append r.symbols (rest r.ending) p (next xs) ∙ starts s (begins (rest r.ending) p) (ends e p h)

full_rule : {n a : ℕ} {b parts t : Forest} {xs ws ys : List ℕ} (r : Rule) → (empty (whole r) ≡ true → ⊥) → Spells n r.symbols parts xs ws → Closes n r.ending a b t ws ys
    → begins (whole r) nothing (next xs) ≡ true
full_rule {xs = xs} r n s e = full_begins (whole r) (next xs) n (whole_begins r (λ _. true) s e refl)

le_true : (a b : ℕ) → a ≤ b → nat_le a b ≡ true
le_true a b h = grind arith

lt_true : (a b : ℕ) → nat_lt a b ≡ true → a < b
lt_true a b h = grind arith

-- What completes a state begins with a token that opens it.
pub may_open : (n : ℕ) (k : List Task) (g : Forest) (xs : List ℕ) (f : Forest) → Completes n k g xs f → opens k (next xs) ≡ true
may_open n [] g xs f (e, q) = rw e refl
may_open n (Want s ∷ k) g xs f (t, ys, q, h) = starts q (opens k) (may_open n k (g ⊕ t) ys f h)
may_open n (Close e a base ∷ k) g xs f (t, ys, c, h) = ends c (opens k) (may_open n k (front base g ⊕ t) ys f h)
may_open n (After p q v a base ∷ k) g xs f (t, ys, stop, h) = or_second (nat_le p (level_of (next xs)) && nat_le (level_of (next xs)) q) _ (may_open n k (front base g ⊕ t) ys f h)
may_open n (After p q v a base ∷ k) g xs f (t, ys, goes_on r m l l' s c w, h) =
    let e = suffix_level v r m (next xs) (next_below xs) (full_rule r (suffix_full v r m) s c) in
    let low = suffix_low v r m in
    let l1 : nat_le p (level_of (next xs)) ≡ true = subst (λ v. nat_le p v ≡ true) (sym e) (le_true p r.level l) in
    let l2 : nat_le (level_of (next xs)) q ≡ true = subst (λ v. nat_le v q ≡ true) (sym e) (le_true r.level q (omega (arith, l', low))) in
    let l3 : (nat_le p (level_of (next xs)) && nat_le (level_of (next xs)) q) ≡ true = cc in
    or_first _ _ l3

-- The steps. Each says that a state becomes what the next state becomes.
pub at_token : (n : ℕ) (s : Terminal) (k : List Task) (g : Forest) (x : ℕ) (xs : List ℕ) (f : Forest)
    → Completes n (Want (Token s) ∷ k) g (x ∷ xs) f → (admits s (next (x ∷ xs)) ≡ true) × Completes n k g xs f
at_token n s k g x xs f (t, ys, token a done, h) = (a, rw (← beside_none g) h)

spells_no_token : {n : ℕ} {s : Terminal} {t : Forest} {ys : List ℕ} → Spells n (Token s ∷ []) t [] ys → ⊥
spells_no_token q = elim q [ ]

pub no_token : (n : ℕ) (s : Terminal) (k : List Task) (g : Forest) (f : Forest) → Completes n (Want (Token s) ∷ k) g [] f → ⊥
no_token n s k g f (t, ys, q, h) = spells_no_token q

pub from_token : (n : ℕ) (s : Terminal) (k : List Task) (g : Forest) (x : ℕ) (xs : List ℕ) (f : Forest)
    → admits s (next (x ∷ xs)) ≡ true → Completes n k g xs f → Completes n (Want (Token s) ∷ k) g (x ∷ xs) f
from_token n s k g x xs f a h = (Empty, xs, token a done, rw beside_none h)

-- an inline part: the rule that the next token picks, and no other
record Inlined (n : ℕ) (x : Category) (t : Forest) (xs ys : List ℕ) : Type 0 where
  r : List Symbol
  among : Among r (inlines x)
  may : permits x r (next xs) ≡ true
  spelled : Spells n r t xs ys

inlined : {n : ℕ} {x : Category} {t : Forest} {xs ys : List ℕ} → Spells n (Inline x ∷ []) t xs ys → Inlined n x t xs ys
inlined {n = n} {xs = xs} {ys = ys} (inline {g = g} r a m s done) = record { r = r; among = a; may = m; spelled = subst (λ v. Spells n r v xs ys) (sym (beside_none g)) s }

inline_lone : (x : Category) (c : ℕ) → c < 77 → lone (fits_inline x c) (inlines x) ≡ true
inline_lone x c l = at 77 (λ c. lone (fits_inline x c) (inlines x)) c (both (below 77 (λ c. lone (fits_inline x c) (inlines x))) (all (fine_rule x) (inlines x)) (inlines_are_fine x)).0 l

node_lone : (x : Category) (c : ℕ) (s : Shape) → c < 77 → lone (fits_node x c s) (nodes x) ≡ true
node_lone x c s l = all_at (λ s. lone (fits_node x c s) (nodes x)) shapes s (at 77 (lone_nodes x) c (both (below 77 (lone_nodes x)) (all (λ r. fine_rule x (whole r)) (nodes x)) (nodes_are_fine x)).0 l) (among_shapes s)

prefix_lone : (v : Setting) (c : ℕ) → c < 77 → lone (λ r. begins (whole r) nothing c) (prefixes v) ≡ true
prefix_lone v c l = at 77 (λ c. lone (λ r. begins (whole r) nothing c) (prefixes v)) c (both (below 77 (λ c. lone (λ r. begins (whole r) nothing c) (prefixes v))) (all fine_prefix (prefixes v)) (prefixes_are_fine v)).0 l

suffix_lone : (v : Setting) (c : ℕ) → c < 77 → lone (λ r. begins (whole r) nothing c) (suffixes v) ≡ true
suffix_lone v c l = at 77 (λ c. lone (λ r. begins (whole r) nothing c) (suffixes v)) c (both (below 77 (λ c. lone (λ r. begins (whole r) nothing c) (suffixes v))) (all fine_suffix (suffixes v) && all low_suffix (suffixes v)) (suffixes_are_fine v)).0 l

and_true : (a b : Bool) → a ≡ true → b ≡ true → (a && b) ≡ true
and_true a b e f = cc

pub at_inline : (n : ℕ) (x : Category) (k : List Task) (g : Forest) (xs : List ℕ) (f : Forest)
    → Orderly (Want (Inline x) ∷ k) → Completes n (Want (Inline x) ∷ k) g xs f
    → (r : List Symbol) × (pick_inline x (next xs) ≡ Some r) × Completes n (wants r ++ k) g xs f
at_inline n x k g xs f o (t, ys, q, h) =
    let i = inlined q in
    let e : begins i.r (follow x) (next xs) ≡ true = starts i.spelled (follow x) (o.0 (next ys) (next_below ys) (may_open n k (g ⊕ t) ys f h)) in
    (i.r, picked (fits_inline x (next xs)) (inlines x) i.r (inline_lone x (next xs) (next_below xs)) i.among (and_true _ _ e i.may), join n i.r k g t xs ys f i.spelled h)

pub from_inline : (n : ℕ) (x : Category) (k : List Task) (g : Forest) (xs : List ℕ) (f : Forest) (r : List Symbol)
    → pick_inline x (next xs) ≡ Some r → Completes n (wants r ++ k) g xs f → Completes n (Want (Inline x) ∷ k) g xs f
from_inline n x k g xs f r e h =
    let m = pick_is (fits_inline x (next xs)) (inlines x) r e in
    let w = split n r k g xs f h in
    (w.0 ⊕ Empty, w.1, inline r m.0 (both (begins r (follow x) (next xs)) (permits x r (next xs)) m.1).1 w.2 done, rw beside_none w.3)

-- a rule and its end
join_rule : (n a base : ℕ) (r : Rule) (k : List Task) (g p t : Forest) (xs ws ys : List ℕ) (f : Forest) → base ≤ count g
    → Spells n r.symbols p xs ws → Closes n r.ending a (back base g ⊕ p) t ws ys → Completes n k (front base g ⊕ t) ys f
    → Completes n (wants r.symbols ++ (Close r.ending a base ∷ k)) g xs f
join_rule n a base r k g p t xs ws ys f b s c h =
    join n r.symbols (Close r.ending a base ∷ k) g p xs ws f s
    (t, ys, subst (λ v. Closes n r.ending a v t ws ys) (sym (back_more base g p b)) c, subst (λ v. Completes n k (v ⊕ t) ys f) (sym (front_more base g p b)) h)

record Rules (n a base : ℕ) (r : Rule) (k : List Task) (g : Forest) (xs : List ℕ) (f : Forest) : Type 0 where
  p : Forest
  t : Forest
  ws : List ℕ
  ys : List ℕ
  spelled : Spells n r.symbols p xs ws
  closes : Closes n r.ending a (back base g ⊕ p) t ws ys
  then : Completes n k (front base g ⊕ t) ys f

split_rule : (n a base : ℕ) (r : Rule) (k : List Task) (g : Forest) (xs : List ℕ) (f : Forest) → base ≤ count g
    → Completes n (wants r.symbols ++ (Close r.ending a base ∷ k)) g xs f → Rules n a base r k g xs f
split_rule n a base r k g xs f b h =
    let w = split n r.symbols (Close r.ending a base ∷ k) g xs f h in
    let v = w.3 in
    record {
      p = w.0;
      t = v.0;
      ws = w.1;
      ys = v.1;
      spelled = w.2;
      closes = subst (λ u. Closes n r.ending a u v.0 w.1 v.1) (back_more base g w.0 b) v.2;
      then = subst (λ u. Completes n k (u ⊕ v.0) v.1 f) (front_more base g w.0 b) v.3;
    }

-- a node: its end is what the next token decides
behind : (g t : Forest) → g ⊕ (t ⊕ Empty) ≡ front (count g) g ⊕ t
behind g t = rw (beside_none, front_count g) refl

pub at_part : (n : ℕ) (x : Category) (k : List Task) (g : Forest) (xs : List ℕ) (f : Forest)
    → Completes n (Want (Part x) ∷ k) g xs f → Completes n (Close (Tail x) (n - length xs) (count g) ∷ k) g xs f
at_part n x k g xs f (w, ys, node {t = t} e done, h) =
    (t, ys, subst (λ v. Closes n (Tail x) (n - length xs) v t xs ys) (sym (back_count g)) e, subst (λ v. Completes n k v ys f) (behind g t) h)

pub from_part : (n : ℕ) (x : Category) (k : List Task) (g : Forest) (xs : List ℕ) (f : Forest)
    → Completes n (Close (Tail x) (n - length xs) (count g) ∷ k) g xs f → Completes n (Want (Part x) ∷ k) g xs f
from_part n x k g xs f (t, ys, e, h) =
    (t ⊕ Empty, ys, node (subst (λ v. Closes n (Tail x) (n - length xs) v t xs ys) (back_count g) e) done, subst (λ v. Completes n k v ys f) (sym (behind g t)) h)

record Tailed (n a : ℕ) (x : Category) (b t : Forest) (xs ys : List ℕ) : Type 0 where
  r : Rule
  among : Among r (nodes x)
  may : stands x r (next xs) (shape (kinds b)) ≡ true
  p : Forest
  ws : List ℕ
  spelled : Spells n r.symbols p xs ws
  closes : Closes n r.ending a (b ⊕ p) t ws ys

tailed : {n a : ℕ} {x : Category} {b t : Forest} {xs ys : List ℕ} → Closes n (Tail x) a b t xs ys → Tailed n a x b t xs ys
tailed (tail {parts = p} {ys = ws} r a m s e) = record { r = r; among = a; may = m; p = p; ws = ws; spelled = s; closes = e }

pub at_tail : (n : ℕ) (x : Category) (a base : ℕ) (k : List Task) (g : Forest) (xs : List ℕ) (f : Forest) → base ≤ count g
    → Orderly (Close (Tail x) a base ∷ k) → Completes n (Close (Tail x) a base ∷ k) g xs f
    → (r : Rule) × (pick_node x (next xs) (shape (kinds (back base g))) ≡ Some r) × Completes n (wants r.symbols ++ (Close r.ending a base ∷ k)) g xs f
at_tail n x a base k g xs f b o (t, ys, c, h) =
    let i = tailed c in
    let e = whole_begins i.r (follow x) i.spelled i.closes (o.0 (next ys) (next_below ys) (may_open n k (front base g ⊕ t) ys f h)) in
    let s = shape (kinds (back base g)) in (
      i.r,
      picked (fits_node x (next xs) s) (nodes x) i.r (node_lone x (next xs) s (next_below xs)) i.among (and_true _ _ e i.may),
      join_rule n a base i.r k g i.p t xs i.ws ys f b i.spelled i.closes h,
    )

pub from_tail : (n : ℕ) (x : Category) (a base : ℕ) (k : List Task) (g : Forest) (xs : List ℕ) (f : Forest) (r : Rule) → base ≤ count g
    → pick_node x (next xs) (shape (kinds (back base g))) ≡ Some r → Completes n (wants r.symbols ++ (Close r.ending a base ∷ k)) g xs f → Completes n (Close (Tail x) a base ∷ k) g xs f
from_tail n x a base k g xs f r b e h =
    let s = shape (kinds (back base g)) in
    let m = pick_is (fits_node x (next xs) s) (nodes x) r e in
    let w = split_rule n a base r k g xs f b h in
    (w.t, w.ys, tail r m.0 (both (begins (whole r) (follow x) (next xs)) (stands x r (next xs) s) m.1).1 w.spelled w.closes, w.then)

-- an operand: a prefix, and the suffixes after it
pub at_operand : (n p : ℕ) (v : Setting) (k : List Task) (g : Forest) (xs : List ℕ) (f : Forest)
    → Completes n (Want (Operand p v) ∷ k) g xs f
    → (r : Rule) × (pick_prefix v (next xs) ≡ Some r) × (p ≤ r.level)
    × Completes n (wants r.symbols ++ (Close r.ending (n - length xs) (count g) ∷ After p r.level v (n - length xs) (count g) ∷ k)) g xs f
at_operand n p v k g xs f (t, zs, q, h) =
    let i = to_head q in
    let a = n - length xs in
    let b = le_refl (count g) in (
      i.r,
      picked (λ r. begins (whole r) nothing (next xs)) (prefixes v) i.r (prefix_lone v (next xs) (next_below xs)) i.among (full_rule i.r (prefix_full v i.r i.among) i.spelled i.closes),
      i.low,
      join_rule n a (count g) i.r (After p i.r.level v a (count g) ∷ k) g i.parts i.t xs i.ws i.ys f b i.spelled
          (subst (λ u. Closes n i.r.ending a (u ⊕ i.parts) i.t i.ws i.ys) (sym (back_count g)) i.closes) (
            t,
            zs,
            subst (λ u. Grows n p a v i.r.level u i.ys t zs) (sym (back_again (count g) g i.t b)) i.grows,
            subst (λ u. Completes n k (u ⊕ t) zs f) (sym (front_again (count g) g i.t b ∙ front_count g)) h,
          ),
    )

pub from_operand : (n p : ℕ) (v : Setting) (k : List Task) (g : Forest) (xs : List ℕ) (f : Forest) (r : Rule)
    → pick_prefix v (next xs) ≡ Some r → p ≤ r.level
    → Completes n (wants r.symbols ++ (Close r.ending (n - length xs) (count g) ∷ After p r.level v (n - length xs) (count g) ∷ k)) g xs f
    → Completes n (Want (Operand p v) ∷ k) g xs f
from_operand n p v k g xs f r e l h =
    let m = pick_is (λ r. begins (whole r) nothing (next xs)) (prefixes v) r e in
    let a = n - length xs in
    let b = le_refl (count g) in
    let w = split_rule n a (count g) r (After p r.level v a (count g) ∷ k) g xs f b h in
    let c = subst (λ u. Closes n r.ending a (u ⊕ w.p) w.t w.ws w.ys) (back_count g) w.closes in
    let d = w.then in
    let s = subst (λ u. Grows n p a v r.level u w.ys d.0 d.1) (back_again (count g) g w.t b) d.2 in (
      d.0,
      d.1,
      from_head s refl l (subst (λ u. Spells n (Operand r.level v ∷ []) u xs w.ys) (beside_none w.t) (prefix r m.0 (le_refl r.level) w.spelled c done)),
      subst (λ u. Completes n k (u ⊕ d.0) d.1 f) (front_again (count g) g w.t b ∙ front_count g) d.3,
    )

-- after a left side: either a suffix that the next token picks, of a level from p on and with a left side up to q, or none
abbrev pub Applies : ℕ → ℕ → Setting → ℕ → Rule → Type 0
Applies p q v c r = (pick_suffix v c ≡ Some r) × (p ≤ r.level) × (r.left ≤ q)

suffix_picked : {n a : ℕ} (v : Setting) {b parts t : Forest} {xs ws ys : List ℕ} (r : Rule) → Among r (suffixes v) → Spells n r.symbols parts xs ws → Closes n r.ending a b t ws ys → pick_suffix v (next xs) ≡ Some r
suffix_picked v {xs = xs} r m s c = picked (λ r. begins (whole r) nothing (next xs)) (suffixes v) r (suffix_lone v (next xs) (next_below xs)) m (full_rule r (suffix_full v r m) s c)

pub at_suffix : (n p q : ℕ) (v : Setting) (a base : ℕ) (k : List Task) (g : Forest) (xs : List ℕ) (f : Forest) (r : Rule)
    → base ≤ count g → Orderly (After p q v a base ∷ k) → Applies p q v (next xs) r
    → Completes n (After p q v a base ∷ k) g xs f
    → Completes n (wants r.symbols ++ (Close r.ending a base ∷ After p r.level v a base ∷ k)) g xs f
at_suffix n p q v a base k g xs f r b o (e, l, l') (t, ys, stop, h) =
    let w : front base g ⊕ back base g ≡ g = front_back base g in
    let m = pick_is (λ r. begins (whole r) nothing (next xs)) (suffixes v) r e in
    let low = lt_true (level_of (next xs)) p (o.0 (next xs) (next_below xs) (may_open n k (front base g ⊕ back base g) xs f h)) in
    let at = suffix_level v r m.0 (next xs) (next_below xs) m.1 in
    absurd (omega arith)
at_suffix n p q v a base k g xs f r b o (e, l, l') (t, zs, goes_on {parts = parts} {t = u} {ws = ws} {ys = ys} r' m l1 l2 s c w, h) =
    let same : r' ≡ r = (let z = suffix_picked v r' m s c in cc) in
    subst (λ r. Completes n (wants r.symbols ++ (Close r.ending a base ∷ After p r.level v a base ∷ k)) g xs f) same
    (join_rule n a base r' (After p r'.level v a base ∷ k) g parts u xs ws ys f b s c
    (t, zs, subst (λ d. Grows n p a v r'.level d ys t zs) (sym (back_again base g u b)) w, subst (λ d. Completes n k (d ⊕ t) zs f) (sym (front_again base g u b)) h))

pub from_suffix : (n p q : ℕ) (v : Setting) (a base : ℕ) (k : List Task) (g : Forest) (xs : List ℕ) (f : Forest) (r : Rule)
    → base ≤ count g → Applies p q v (next xs) r
    → Completes n (wants r.symbols ++ (Close r.ending a base ∷ After p r.level v a base ∷ k)) g xs f
    → Completes n (After p q v a base ∷ k) g xs f
from_suffix n p q v a base k g xs f r b (e, l, l') h =
    let m = pick_is (λ r. begins (whole r) nothing (next xs)) (suffixes v) r e in
    let w = split_rule n a base r (After p r.level v a base ∷ k) g xs f b h in
    let d = w.then in (
      d.0,
      d.1,
      goes_on r m.0 l l' w.spelled w.closes (subst (λ u. Grows n p a v r.level u w.ys d.0 d.1) (back_again base g w.t b) d.2),
      subst (λ u. Completes n k (u ⊕ d.0) d.1 f) (front_again base g w.t b) d.3,
    )

pub at_stop : (n p q : ℕ) (v : Setting) (a base : ℕ) (k : List Task) (g : Forest) (xs : List ℕ) (f : Forest)
    → ((r : Rule) → Applies p q v (next xs) r → ⊥)
    → Completes n (After p q v a base ∷ k) g xs f → Completes n k g xs f
at_stop n p q v a base k g xs f never (t, ys, stop, h) = rw front_back at h
at_stop n p q v a base k g xs f never (t, zs, goes_on r m l l' s c w, h) = absurd (never r (suffix_picked v r m s c, l, l'))

pub from_stop : (n p q : ℕ) (v : Setting) (a base : ℕ) (k : List Task) (g : Forest) (xs : List ℕ) (f : Forest)
    → Completes n k g xs f → Completes n (After p q v a base ∷ k) g xs f
from_stop n p q v a base k g xs f h = (back base g, xs, stop, rw front_back h)

-- parts that stay as they are
record Barely (b t : Forest) (xs ys : List ℕ) : Type 0 where
  same : b ≡ t
  here : xs ≡ ys

barely : {n a : ℕ} {b t : Forest} {xs ys : List ℕ} → Closes n Bare a b t xs ys → Barely b t xs ys
barely bare = record { same = refl; here = refl }

pub at_bare : (n a base : ℕ) (k : List Task) (g : Forest) (xs : List ℕ) (f : Forest)
    → Completes n (Close Bare a base ∷ k) g xs f → Completes n k g xs f
at_bare n a base k g xs f (t, ys, c, h) =
    let w = barely c in
    subst (λ v. Completes n k v xs f) (front_back base g)
    (subst (λ v. Completes n k (front base g ⊕ back base g) v f) (sym w.here) (subst (λ v. Completes n k (front base g ⊕ v) ys f) (sym w.same) h))

pub from_bare : (n a base : ℕ) (k : List Task) (g : Forest) (xs : List ℕ) (f : Forest)
    → Completes n k g xs f → Completes n (Close Bare a base ∷ k) g xs f
from_bare n a base k g xs f h = (back base g, xs, bare, subst (λ v. Completes n k v xs f) (sym (front_back base g)) h)
