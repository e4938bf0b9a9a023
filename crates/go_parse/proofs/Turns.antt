-- A turn leads to a state that may become the same trees.
use Rattle.std.proofs.Common.{◌≡◌, ℕ, suc, ◌-◌, ◌<◌, ◌≤◌, Bool, true, false, List, [], ◌∷◌, ◌++◌, length, take, drop, cond, ◌&&◌, ◌||◌, ◌⊎◌, inl, inr, refl, arith, subst, sym, ap, ◌∙◌, Option, Some, None, append_assoc}
use Rattle.std.specs.Prelude.{nat_lt, nat_le}
use Rattle.std.proofs.Math.Nat.{le_refl}
use Rattle.go_tree.specs.declared.grammar.Setting.{Setting}
use Rattle.go_tree.specs.declared.tree.NodeKind.{NodeKind}
use Rattle.go_tree.specs.declared.grammar.Ending.TheVariants.{Is, Bare, Tail}
use Rattle.go_tree.specs.declared.grammar.Category.{Category}
use Rattle.go_tree.specs.declared.grammar.Terminal.{Terminal}
use Rattle.go_tree.specs.declared.grammar.Symbol.{Symbol}
use Rattle.go_tree.specs.declared.grammar.Symbol.TheVariants.{Token, Part, Inline, Operand}
use Rattle.go_parse.specs.declared.parser.Task.{Task}
use Rattle.go_parse.specs.declared.parser.Task.TheVariants.{Want, Close, After}
use Rattle.go_tree.specs.Forest.{Forest, Empty, Grow, ◌⊕◌, count, front, back}
use Rattle.go_tree.specs.Arena.{node_of, roots, highest, kinds}
use Rattle.go_tree.specs.Classes.{level_of, next}
use Rattle.go_tree.specs.Follow.{follow}
use Rattle.go_tree.specs.Inlines.{inlines}
use Rattle.go_tree.specs.Nodes.{nodes}
use Rattle.go_tree.specs.Operands.{prefixes, suffixes}
use Rattle.go_tree.specs.Rule.{Rule}
use Rattle.go_tree.specs.Terminals.{admits}
use Rattle.go_tree.specs.Shape.{shape}
use Rattle.go_tree.specs.Choice.{begins, nothing, whole, fits_inline, fits_node, pick_inline, pick_node, pick_prefix, pick_suffix}
use Rattle.go_tree.specs.Spells.{Closes, is}
use Rattle.go_parse.specs.State.{State, Outcome, Goes, Takes, Refuses, pushed, on_some, noded, turned, wants, Completes, opens, Orderly, Based, Leads, Fails, Passes}
use Rattle.go_parse.proofs.Check.{pick_is, both, follows}
use Rattle.go_parse.proofs.Forests.{count_beside, count_front}
use Rattle.go_parse.proofs.Begin.{either, inline_fine, node_fine, rule_follows, prefix_follows, suffix_follows}
use Rattle.go_parse.proofs.Arenas.{length_roots, close_flat, close_roots, close_heights, close_kinds, kinds_back}
use Rattle.go_parse.proofs.Completes.{at_token, no_token, from_token, orderly, rule_orderly, Applies, at_inline, from_inline, at_part, from_part, at_tail, from_tail, at_operand, from_operand, at_suffix, from_suffix, at_stop, from_stop, at_bare, from_bare}

pub based_wants : (ss : List Symbol) (k : List Task) (m : ℕ) → Based k m → Based (wants ss ++ k) m
based_wants [] k m h = h
based_wants (s ∷ ss) k m h = based_wants ss k m h

pub based_more : (k : List Task) (m m' : ℕ) → m ≤ m' → Based k m → Based k m'
based_more [] m m' l h = h
based_more (Want s ∷ k) m m' l h = based_more k m m' l h
based_more (Close kind a base ∷ k) m m' l h = (omega arith, h.1)
based_more (After p q v a base ∷ k) m m' l h = (omega arith, h.1)

-- what a turn leads to, by its outcome
abbrev pub Outcomes : ℕ → List ℕ → State → Outcome → Type 0
Outcomes n xs s (Goes s') = Leads n xs s s'
Outcomes n xs s (Takes s') = Passes n xs s s'
Outcomes n xs s Refuses = Fails n xs s

abbrev pub under : Task → State → State
under i s = record { stack = i ∷ s.stack; nodes = s.nodes; pending = s.pending; heights = s.heights; kinds = s.kinds }

by_inline : (n : ℕ) (xs : List ℕ) (s : State) (x : Category) (o : Option (List Symbol)) → pick_inline x (next xs) ≡ o
    → Outcomes n xs (under (Want (Inline x)) s) (on_some o Refuses (λ r. Goes (pushed (wants r) s)))
by_inline n xs s x None e = λ g h f c. (let w = at_inline n x s.stack g xs f h.orderly c in let p = w.1 in cc)
by_inline n xs s x (Some r) e = λ g h. record {
  g' = g;
  holds = record {
    nodes = h.nodes;
    pending = h.pending;
    heights = h.heights;
    kinds = h.kinds;
    orderly = orderly r s.stack (follow x) (rule_follows x r (inline_fine x r (pick_is (fits_inline x (next xs)) (inlines x) r e).0)) h.orderly.0 h.orderly.1;
    based = based_wants r s.stack (count g) h.based;
  };
  goes = λ f c. (let w = at_inline n x s.stack g xs f h.orderly c in let p = w.1 in let q : w.0 ≡ r = cc in subst (λ r. Completes n (wants r ++ s.stack) g xs f) q w.2);
  comes = λ f c. from_inline n x s.stack g xs f r e c;
}

pending_count : (s : State) (g : Forest) → s.pending ≡ roots 0 g → length s.pending ≡ count g
pending_count s g h = ap length h ∙ length_roots 0 g

by_part : (n : ℕ) (xs : List ℕ) (at : ℕ) (s : State) (x : Category) → at ≡ n - length xs
    → Leads n xs (under (Want (Part x)) s) (pushed (Close (Tail x) at (length s.pending) ∷ []) s)
by_part n xs at s x a = λ g h.
    let b = pending_count s g h.pending in
    let same : Close (Tail x) (n - length xs) (count g) ∷ s.stack ≡ Close (Tail x) at (length s.pending) ∷ s.stack = rw (a, b) refl in
    record {
      g' = g;
      holds = record {
        nodes = h.nodes;
        pending = h.pending;
        heights = h.heights;
        kinds = h.kinds;
        orderly = h.orderly;
        based = subst (λ k. Based k (count g)) same (le_refl (count g), h.based);
      };
      goes = λ f c. subst (λ k. Completes n k g xs f) same (at_part n x s.stack g xs f c);
      comes = λ f c. from_part n x s.stack g xs f (subst (λ k. Completes n k g xs f) (sym same) c);
    }

by_tail : (n : ℕ) (xs : List ℕ) (a base : ℕ) (s : State) (x : Category) (o : Option Rule) → pick_node x (next xs) (shape (drop base s.kinds)) ≡ o
    → Outcomes n xs (under (Close (Tail x) a base) s) (on_some o Refuses (λ r. Goes (pushed (wants r.symbols ++ (Close r.ending a base ∷ [])) s)))
by_tail n xs a base s x None e = λ g h f c. (let w = at_tail n x a base s.stack g xs f h.based.0 h.orderly c in
    let p = subst (λ v. pick_node x (next xs) (shape v) ≡ Some w.0) (sym (ap (drop base) h.kinds ∙ kinds_back base g)) w.1 in cc)
by_tail n xs a base s x (Some r) e = λ g h.
    let k : List Task = Close r.ending a base ∷ s.stack in
    let same : wants r.symbols ++ k ≡ (wants r.symbols ++ (Close r.ending a base ∷ [])) ++ s.stack = rw append_assoc refl in
    let parts : drop base s.kinds ≡ kinds (back base g) = ap (drop base) h.kinds ∙ kinds_back base g in
    let e' = subst (λ v. pick_node x (next xs) (shape v) ≡ Some r) parts e in
    record {
      g' = g;
      holds = record {
        nodes = h.nodes;
        pending = h.pending;
        heights = h.heights;
        kinds = h.kinds;
        orderly = subst Orderly same (rule_orderly r a base s.stack (follow x) (rule_follows x (whole r) (node_fine x r (pick_is (fits_node x (next xs) (shape (drop base s.kinds))) (nodes x) r e).0)) h.orderly.0 h.orderly.1);
        based = subst (λ k. Based k (count g)) same (based_wants r.symbols k (count g) h.based);
      };
      goes = λ f c. (let w = at_tail n x a base s.stack g xs f h.based.0 h.orderly c in let p = w.1 in let q : w.0 ≡ r = cc in
          subst (λ k. Completes n k g xs f) same (subst (λ r. Completes n (wants r.symbols ++ (Close r.ending a base ∷ s.stack)) g xs f) q w.2));
      comes = λ f c. from_tail n x a base s.stack g xs f r h.based.0 e' (subst (λ k. Completes n k g xs f) (sym same) c);
    }

lt_of_le : (a b : ℕ) → nat_lt a b ≡ true → (c : ℕ) → b ≤ c → nat_le a c ≡ true
lt_of_le a b h c l = grind arith

le_of_true : (a b : ℕ) → nat_le a b ≡ true → a ≤ b
le_of_true a b h = grind arith

true_of_le : (a b : ℕ) → a ≤ b → nat_le a b ≡ true
true_of_le a b h = grind arith

within : (p q l : ℕ) (b : Bool) → p ≤ q → (b ≡ true → nat_lt l p ≡ true) → ((nat_le p l && nat_le l q) || b) ≡ true → nat_le l q ≡ true
within p q l b h f e = go (either (nat_le p l && nat_le l q) b e)
  where
    go : ((nat_le p l && nat_le l q) ≡ true) ⊎ (b ≡ true) → nat_le l q ≡ true
    go (inl w) = (both (nat_le p l) (nat_le l q) w).1
    go (inr w) = lt_of_le l p (f w) q h

-- the stack of an operand or a suffix: the symbols of the rule, the end of its node, and what may follow it
abbrev grown : ℕ → Setting → Rule → ℕ → ℕ → List Task → List Task
grown p v r a base k = wants r.symbols ++ (Close r.ending a base ∷ After p r.level v a base ∷ k)

grown_orderly : (p : ℕ) (v : Setting) (r : Rule) (a base : ℕ) (k : List Task) → p ≤ r.level → follows (whole r) (λ c. nat_le (level_of c) r.level) ≡ true
    → ((c : ℕ) → c < 77 → opens k c ≡ true → nat_lt (level_of c) p ≡ true) → Orderly k → Orderly (grown p v r a base k)
grown_orderly p v r a base k l h i o =
    rule_orderly r a base (After p r.level v a base ∷ k) (λ c. nat_le (level_of c) r.level) h
    (λ c b e. within p r.level (level_of c) (opens k c) l (i c b) e) (i, o)

by_operand : (n : ℕ) (xs : List ℕ) (at p : ℕ) (v : Setting) (s : State) (o : Option Rule) (b : (r : Rule) → Bool) → ((r : Rule) → b r ≡ nat_le p r.level) → at ≡ n - length xs → pick_prefix v (next xs) ≡ o
    → Outcomes n xs (under (Want (Operand p v)) s) (on_some o Refuses (λ r. cond (b r) (Goes (noded at r (After p r.level v at (length s.pending) ∷ []) s)) Refuses))
by_operand n xs at p v s None b i a e = λ g h f c. (let w = at_operand n p v s.stack g xs f c in let q = w.1 in cc)
by_operand n xs at p v s (Some r) b i a e = go (b r) (i r)
  where
    go : (t : Bool) → t ≡ nat_le p r.level → Outcomes n xs (under (Want (Operand p v)) s) (cond t (Goes (noded at r (After p r.level v at (length s.pending) ∷ []) s)) Refuses)
    go false t = λ g h f c. (let w = at_operand n p v s.stack g xs f c in let q : w.0 ≡ r = (let z = w.1 in cc) in
        let l : p ≤ r.level = subst (λ r. p ≤ r.level) q w.2 in let z = true_of_le p r.level l in cc)
    go true t = λ g h.
        let b = pending_count s g h.pending in
        let l = le_of_true p r.level (sym t) in
        let same : grown p v r (n - length xs) (count g) s.stack ≡ (wants r.symbols ++ (Close r.ending at (length s.pending) ∷ After p r.level v at (length s.pending) ∷ [])) ++ s.stack = rw (a, b, append_assoc) refl in
        record {
          g' = g;
          holds = record {
            nodes = h.nodes;
            pending = h.pending;
            heights = h.heights;
            kinds = h.kinds;
            orderly = subst Orderly same (grown_orderly p v r (n - length xs) (count g) s.stack l (prefix_follows v r (pick_is (λ r. begins (whole r) nothing (next xs)) (prefixes v) r e).0) h.orderly.0 h.orderly.1);
            based = subst (λ k. Based k (count g)) same (based_wants r.symbols _ (count g) (le_refl (count g), (le_refl (count g), h.based)));
          };
          goes = λ f c. (let w = at_operand n p v s.stack g xs f c in let q : w.0 ≡ r = (let z = w.1 in cc) in
              subst (λ k. Completes n k g xs f) same (subst (λ r. Completes n (grown p v r (n - length xs) (count g) s.stack) g xs f) q w.3));
          comes = λ f c. from_operand n p v s.stack g xs f r e l (subst (λ k. Completes n k g xs f) (sym same) c);
        }

by_stop : (n : ℕ) (xs : List ℕ) (p q : ℕ) (v : Setting) (a base : ℕ) (s : State) → ((r : Rule) → Applies p q v (next xs) r → ⊥) → Leads n xs (under (After p q v a base) s) s
by_stop n xs p q v a base s e = λ g h. record {
  g' = g;
  holds = record { nodes = h.nodes; pending = h.pending; heights = h.heights; kinds = h.kinds; orderly = h.orderly.1; based = based_more s.stack base (count g) h.based.0 h.based.1 };
  goes = λ f c. at_stop n p q v a base s.stack g xs f e c;
  comes = λ f c. from_stop n p q v a base s.stack g xs f c;
}

by_bare : (n : ℕ) (xs : List ℕ) (a base : ℕ) (s : State) → Leads n xs (under (Close Bare a base) s) s
by_bare n xs a base s = λ g h. record {
  g' = g;
  holds = record { nodes = h.nodes; pending = h.pending; heights = h.heights; kinds = h.kinds; orderly = h.orderly.1; based = based_more s.stack base (count g) h.based.0 h.based.1 };
  goes = λ f c. at_bare n a base s.stack g xs f c;
  comes = λ f c. from_bare n a base s.stack g xs f c;
}

by_suffix : (n : ℕ) (xs : List ℕ) (p q : ℕ) (v : Setting) (a base : ℕ) (s : State) (o : Option Rule) → pick_suffix v (next xs) ≡ o
    → Outcomes n xs (under (After p q v a base) s) (on_some o (Goes s) (λ r. cond (nat_le p r.level && nat_le r.left q) (Goes (pushed (wants r.symbols ++ (Close r.ending a base ∷ After p r.level v a base ∷ [])) s)) (Goes s)))
by_suffix n xs p q v a base s None e = by_stop n xs p q v a base s (λ r w. (let z = w.0 in cc))
by_suffix n xs p q v a base s (Some r) e = go (nat_le p r.level && nat_le r.left q) refl
  where
    go : (t : Bool) → (nat_le p r.level && nat_le r.left q) ≡ t → Outcomes n xs (under (After p q v a base) s) (cond t (Goes (pushed (wants r.symbols ++ (Close r.ending a base ∷ After p r.level v a base ∷ [])) s)) (Goes s))
    go false t = by_stop n xs p q v a base s (λ r' w. (let z = w.0 in let same : r' ≡ r = cc in
        let l = true_of_le p r'.level w.1 in let l' = true_of_le r'.left q w.2 in cc))
    go true t = λ g h.
        let w = both (nat_le p r.level) (nat_le r.left q) t in
        let l = le_of_true p r.level w.0 in
        let low : base ≤ count g = h.based.0 in
        let fits : Applies p q v (next xs) r = (e, l, le_of_true r.left q w.1) in
        let same : grown p v r a base s.stack ≡ (wants r.symbols ++ (Close r.ending a base ∷ After p r.level v a base ∷ [])) ++ s.stack = rw append_assoc refl in
        record {
          g' = g;
          holds = record {
            nodes = h.nodes;
            pending = h.pending;
            heights = h.heights;
            kinds = h.kinds;
            orderly = subst Orderly same (grown_orderly p v r a base s.stack l (suffix_follows v r (pick_is (λ r. begins (whole r) nothing (next xs)) (suffixes v) r e).0) h.orderly.0 h.orderly.1);
            based = subst (λ k. Based k (count g)) same (based_wants r.symbols _ (count g) (low, (le_refl base, h.based.1)));
          };
          goes = λ f c. subst (λ k. Completes n k g xs f) same (at_suffix n p q v a base s.stack g xs f r low h.orderly fits c);
          comes = λ f c. from_suffix n p q v a base s.stack g xs f r low fits (subst (λ k. Completes n k g xs f) (sym same) c);
        }

-- a node that is at its end
record Ended (n a : ℕ) (kind : NodeKind) (b t : Forest) (xs ys : List ℕ) : Type 0 where
  same : Grow kind a (n - length xs - 1) b Empty ≡ t
  here : xs ≡ ys

ended : {n a : ℕ} {kind : NodeKind} {b t : Forest} {xs ys : List ℕ} → Closes n (Is kind) a b t xs ys → Ended n a kind b t xs ys
ended is = record { same = refl; here = refl }

by_close : (n : ℕ) (xs : List ℕ) (at : ℕ) (s : State) (kind : NodeKind) (a base : ℕ) → at ≡ n - length xs
    → Leads n xs (under (Close (Is kind) a base) s) (record { stack = s.stack; nodes = s.nodes ++ node_of kind a (at - 1) (drop base s.pending) ∷ []; pending = take base s.pending ++ length s.nodes ∷ []; heights = take base s.heights ++ suc (highest (drop base s.heights)) ∷ []; kinds = take base s.kinds ++ kind ∷ [] })
by_close n xs at s kind a base e = λ g h.
    let l : base ≤ count g = h.based.0 in
    let more : Forest = Grow kind a (n - length xs - 1) (back base g) Empty in
    record {
      g' = front base g ⊕ more;
      holds = record {
        nodes = rw (e, h.nodes, h.pending) (sym (close_flat base g kind a (n - length xs - 1) l));
        pending = rw (h.nodes, h.pending) (sym (close_roots base g kind a (n - length xs - 1) l));
        heights = rw h.heights (sym (close_heights base g kind a (n - length xs - 1) l));
        kinds = rw h.kinds (sym (close_kinds base g kind a (n - length xs - 1)));
        orderly = h.orderly.1;
        based = let c = count_beside (front base g) more in let c' = count_front base g l in based_more s.stack base (count (front base g ⊕ more)) (omega (arith, c, c')) h.based.1;
      };
      goes = λ f c. (let w = ended c.2 in
          subst (λ v. Completes n s.stack (front base g ⊕ more) v f) (sym w.here)
          (subst (λ v. Completes n s.stack (front base g ⊕ v) c.1 f) (sym w.same) c.3));
      comes = λ f c. (more, xs, is, c);
    }

by_token : (n : ℕ) (xs : List ℕ) (t : Terminal) (s : State) (b : Bool) → admits t (next xs) ≡ b
    → Outcomes n xs (under (Want (Token t)) s) (cond b (Takes s) Refuses)
by_token n xs t s true e = (
  λ x ys q g h.
      let a : admits t (next (x ∷ ys)) ≡ true = (let z = ap next q in cc) in
      record {
        g' = g;
        holds = record { nodes = h.nodes; pending = h.pending; heights = h.heights; kinds = h.kinds; orderly = h.orderly.1; based = h.based };
        goes = λ f c. (at_token n t s.stack g x ys f c).1;
        comes = λ f c. from_token n t s.stack g x ys f a c;
      },
  λ q g h f c. no_token n t s.stack g f (subst (λ v. Completes n (Want (Token t) ∷ s.stack) g v f) q c),
)
by_token n [] t s false e = λ g h f c. no_token n t s.stack g f c
by_token n (x ∷ xs) t s false e = λ g h f c. (let z = (at_token n t s.stack g x xs f c).0 in cc)

-- Whatever the item on top, a turn leads on to the same trees, or there are none.
pub turn_leads : (n : ℕ) (xs : List ℕ) (at : ℕ) (i : Task) (s : State) → at ≡ n - length xs
    → Outcomes n xs (under i s) (turned i (next xs) at s)
turn_leads n xs at (Want (Token t)) s e = by_token n xs t s (admits t (next xs)) refl
turn_leads n xs at (Want (Part x)) s e = by_part n xs at s x e
turn_leads n xs at (Want (Inline x)) s e = by_inline n xs s x (pick_inline x (next xs)) refl
turn_leads n xs at (Want (Operand p v)) s e = by_operand n xs at p v s (pick_prefix v (next xs)) (λ r. nat_le p r.level) (λ r. refl) e refl
turn_leads n xs at (Close (Is kind) a base) s e = by_close n xs at s kind a base e
turn_leads n xs at (Close Bare a base) s e = by_bare n xs a base s
turn_leads n xs at (Close (Tail x) a base) s e = by_tail n xs a base s x (pick_node x (next xs) (shape (drop base s.kinds))) refl
turn_leads n xs at (After p q v a base) s e = by_suffix n xs p q v a base s (pick_suffix v (next xs)) refl
