-- How many turns come before the next token is taken, at most.
use Rattle.std.proofs.Common.{◌≡◌, ℕ, suc, ◌+◌, ◌<◌, ◌≤◌, Bool, true, false, List, [], ◌∷◌, ◌++◌, length, drop, cond, ◌&&◌, refl, arith, subst, sym, ap, Option, Some, None, append_assoc}
use Rattle.std.specs.Prelude.{nat_lt, nat_le}
use Rattle.go_tree.specs.declared.grammar.Setting.{Setting}
use Rattle.go_tree.specs.declared.grammar.Ending.{Ending}
use Rattle.go_tree.specs.declared.grammar.Ending.TheVariants.{Is, Bare, Tail}
use Rattle.go_tree.specs.declared.grammar.Category.{Category}
use Rattle.go_tree.specs.declared.grammar.Symbol.{Symbol}
use Rattle.go_tree.specs.declared.grammar.Symbol.TheVariants.{Token, Part, Inline, Operand}
use Rattle.go_parse.specs.declared.parser.Task.{Task}
use Rattle.go_parse.specs.declared.parser.Task.TheVariants.{Want, Close, After}
use Rattle.go_tree.specs.First.{nullable}
use Rattle.go_tree.specs.Inlines.{inlines}
use Rattle.go_tree.specs.Nodes.{nodes}
use Rattle.go_tree.specs.Operands.{prefixes, suffixes}
use Rattle.go_tree.specs.Rule.{Rule}
use Rattle.go_tree.specs.Terminals.{admits}
use Rattle.go_tree.specs.declared.grammar.Shape.{Shape}
use Rattle.go_tree.specs.Shape.{shape}
use Rattle.go_parse.proofs.Weights.{weight, weight_symbol, turns_of, end_turns, rule_turns, full, inlines_light, nodes_light, prefixes_light, suffixes_light}
use Rattle.go_tree.specs.Choice.{may_be_empty, begins, nothing, empty, rest, whole, fits_inline, fits_node, pick_inline, pick_node, pick_prefix, pick_suffix}
use Rattle.go_parse.specs.State.{State, Outcome, Goes, Takes, Refuses, pushed, on_some, noded, turned, wants}
use Rattle.go_tree.specs.Spells.{Among}
use Rattle.go_parse.proofs.Check.{all_at, both, pick_is}
use Rattle.go_parse.proofs.Begin.{inline_fine, node_fine, rule_empty}

abbrev pub turns : List Task → ℕ
turns [] = 0
turns (Want s ∷ k) = weight_symbol s + cond (may_be_empty s) (turns k) 0
turns (Close e a base ∷ k) = end_turns e (turns k)
turns (After p q v a base ∷ k) = 60 + turns k

below_true : (a b : ℕ) → nat_lt a b ≡ true → a < b
below_true a b h = grind arith

turns_wants : (ss : List Symbol) (k : List Task) → turns (wants ss ++ k) ≡ turns_of ss (turns k)
turns_wants [] k = refl
turns_wants (s ∷ ss) k = ap (λ m. weight_symbol s + cond (may_be_empty s) m 0) (turns_wants ss k)

turns_grow : (ss : List Symbol) (m m0 d : ℕ) → m ≤ m0 + d → turns_of ss m ≤ turns_of ss m0 + cond (empty ss) d 0
turns_grow [] m m0 d h = h
turns_grow (s ∷ ss) m m0 d h = go (may_be_empty s) (turns_grow ss m m0 d h)
  where
    go : (b : Bool) → turns_of ss m ≤ turns_of ss m0 + cond (empty ss) d 0
        → weight_symbol s + cond b (turns_of ss m) 0 ≤ (weight_symbol s + cond b (turns_of ss m0) 0) + cond (b && empty ss) d 0
    go true h = omega (arith, h)
    go false h = omega arith

end_grow : (e : Ending) (m : ℕ) → end_turns e m ≤ end_turns e 0 + cond (empty (rest e)) m 0
end_grow (Is k) m = omega arith
end_grow Bare m = omega arith
end_grow (Tail x) m = go (nullable x)
  where
    go : (b : Bool) → weight x + cond b (suc m) 0 ≤ (weight x + cond b 1 0) + cond (b && true) m 0
    go true = omega arith
    go false = omega arith

empty_append : (ss tt : List Symbol) → empty (ss ++ tt) ≡ (empty ss && empty tt)
empty_append [] tt = refl
empty_append (s ∷ ss) tt = go (may_be_empty s) (empty_append ss tt)
  where
    go : (b : Bool) → empty (ss ++ tt) ≡ (empty ss && empty tt) → (b && empty (ss ++ tt)) ≡ ((b && empty ss) && empty tt)
    go true e = e
    go false e = refl

turns_rule : (r : Rule) (a base : ℕ) (k : List Task) → turns (wants r.symbols ++ (Close r.ending a base ∷ k)) ≤ rule_turns r 0 + cond (empty (whole r)) (turns k) 0
turns_rule r a base k = go (empty r.symbols) (empty (rest r.ending)) (empty_append r.symbols (rest r.ending)) (turns_grow r.symbols (end_turns r.ending (turns k)) (end_turns r.ending 0) (cond (empty (rest r.ending)) (turns k) 0) (end_grow r.ending (turns k))) (turns_wants r.symbols (Close r.ending a base ∷ k))
  where
    go : (b d : Bool) → empty (whole r) ≡ (b && d) → rule_turns r (turns k) ≤ rule_turns r 0 + cond b (cond d (turns k) 0) 0
        → turns (wants r.symbols ++ (Close r.ending a base ∷ k)) ≡ rule_turns r (turns k)
        → turns (wants r.symbols ++ (Close r.ending a base ∷ k)) ≤ rule_turns r 0 + cond (empty (whole r)) (turns k) 0
    go true true e l w = rw e (omega (arith, l, w))
    go true false e l w = rw e (omega (arith, l, w))
    go false d e l w = rw e (omega (arith, l, w))

turns_full : (r : Rule) (a base : ℕ) (k : List Task) → (nat_lt (rule_turns r 0) 60 && full (whole r)) ≡ true → turns (wants r.symbols ++ (Close r.ending a base ∷ k)) < 60
turns_full r a base k h = go (empty (whole r)) (both (nat_lt (rule_turns r 0) 60) (full (whole r)) h).1 (turns_rule r a base k)
  where
    go : (b : Bool) → cond b false true ≡ true → turns (wants r.symbols ++ (Close r.ending a base ∷ k)) ≤ rule_turns r 0 + cond b (turns k) 0 → turns (wants r.symbols ++ (Close r.ending a base ∷ k)) < 60
    go true e l = cc
    go false e l = let y = below_true _ _ (both (nat_lt (rule_turns r 0) 60) (full (whole r)) h).0 in omega (arith, l, y)

turns_inline : (x : Category) (r : List Symbol) (k : List Task) → Among r (inlines x) → turns (wants r ++ k) < weight x + cond (nullable x) (turns k) 0
turns_inline x r k a =
    go (empty r) (nullable x) (rule_empty x r (inline_fine x r a)) (turns_grow r (turns k) 0 (turns k) (omega arith))
  where
    go : (b d : Bool) → (b ≡ true → d ≡ true) → turns_of r (turns k) ≤ turns_of r 0 + cond b (turns k) 0 → turns (wants r ++ k) < weight x + cond d (turns k) 0
    go true true f l = let z = turns_wants r k in let y = below_true _ _ (all_at (λ r. nat_lt (turns_of r 0) (weight x)) (inlines x) r (inlines_light x) a) in omega (arith, l, z, y)
    go true false f l = let z = f refl in cc
    go false d f l = let z = turns_wants r k in let y = below_true _ _ (all_at (λ r. nat_lt (turns_of r 0) (weight x)) (inlines x) r (inlines_light x) a) in omega (arith, l, z, y)

turns_tail : (x : Category) (r : Rule) (a base : ℕ) (k : List Task) → Among r (nodes x) → turns (wants r.symbols ++ (Close r.ending a base ∷ k)) < weight x + cond (nullable x) (suc (turns k)) 0
turns_tail x r a base k m =
    go (empty (whole r)) (nullable x) (rule_empty x (whole r) (node_fine x r m)) (turns_rule r a base k)
  where
    go : (b d : Bool) → (b ≡ true → d ≡ true) → turns (wants r.symbols ++ (Close r.ending a base ∷ k)) ≤ rule_turns r 0 + cond b (turns k) 0
        → turns (wants r.symbols ++ (Close r.ending a base ∷ k)) < weight x + cond d (suc (turns k)) 0
    go true true f l = let y = below_true _ _ (all_at (λ (r : Rule). nat_lt (rule_turns r 0) (weight x)) (nodes x) r (nodes_light x) m) in omega (arith, l, y)
    go true false f l = let z = f refl in cc
    go false d f l = let y = below_true _ _ (all_at (λ (r : Rule). nat_lt (rule_turns r 0) (weight x)) (nodes x) r (nodes_light x) m) in omega (arith, l, y)

abbrev pub Shorter : ℕ → Outcome → Type 0
Shorter m (Goes s) = turns s.stack < m
Shorter m (Takes s) = Unit {0}
Shorter m Refuses = Unit {0}

by_inline : (x : Category) (c : ℕ) (s : State) (o : Option (List Symbol)) → pick_inline x c ≡ o
    → Shorter (turns (Want (Inline x) ∷ s.stack)) (on_some o Refuses (λ r. Goes (pushed (wants r) s)))
by_inline x c s None e = tt
by_inline x c s (Some r) e = turns_inline x r s.stack (pick_is (fits_inline x c) (inlines x) r e).0

by_part : (x : Category) (at : ℕ) (s : State) → turns (Close (Tail x) at (length s.pending) ∷ s.stack) < turns (Want (Part x) ∷ s.stack)
by_part x at s = go (nullable x)
  where
    go : (b : Bool) → weight x + cond b (suc (turns s.stack)) 0 < (2 + weight x) + cond b (turns s.stack) 0
    go true = omega arith
    go false = omega arith

by_tail : (x : Category) (c a base : ℕ) (z : Shape) (s : State) (o : Option Rule) → pick_node x c z ≡ o
    → Shorter (turns (Close (Tail x) a base ∷ s.stack)) (on_some o Refuses (λ r. Goes (pushed (wants r.symbols ++ (Close r.ending a base ∷ [])) s)))
by_tail x c a base z s None e = tt
by_tail x c a base z s (Some r) e =
    subst (λ k. turns k < turns (Close (Tail x) a base ∷ s.stack)) (sym (append_assoc (wants r.symbols) (Close r.ending a base ∷ []) s.stack))
    (turns_tail x r a base s.stack (pick_is (fits_node x c z) (nodes x) r e).0)

by_operand : (p : ℕ) (v : Setting) (c at : ℕ) (s : State) (o : Option Rule) → pick_prefix v c ≡ o
    → Shorter (turns (Want (Operand p v) ∷ s.stack)) (on_some o Refuses (λ r. cond (nat_le p r.level) (Goes (noded at r (After p r.level v at (length s.pending) ∷ []) s)) Refuses))
by_operand p v c at s None e = tt
by_operand p v c at s (Some r) e = go (nat_le p r.level)
  where
    go : (b : Bool) → Shorter (turns (Want (Operand p v) ∷ s.stack)) (cond b (Goes (noded at r (After p r.level v at (length s.pending) ∷ []) s)) Refuses)
    go false = tt
    go true =
        let h = turns_full r at (length s.pending) (After p r.level v at (length s.pending) ∷ s.stack) (all_at (λ (r : Rule). nat_lt (rule_turns r 0) 60 && full (whole r)) (prefixes v) r (prefixes_light v) (pick_is (λ r. begins (whole r) nothing c) (prefixes v) r e).0) in
        let l : turns ((wants r.symbols ++ (Close r.ending at (length s.pending) ∷ After p r.level v at (length s.pending) ∷ [])) ++ s.stack) < 60 = rw append_assoc h in
        omega (arith, l)

by_suffix : (p q : ℕ) (v : Setting) (a base c : ℕ) (s : State) (o : Option Rule) → pick_suffix v c ≡ o
    → Shorter (turns (After p q v a base ∷ s.stack)) (on_some o (Goes s) (λ r. cond (nat_le p r.level && nat_le r.left q) (Goes (pushed (wants r.symbols ++ (Close r.ending a base ∷ After p r.level v a base ∷ [])) s)) (Goes s)))
by_suffix p q v a base c s None e = omega arith
by_suffix p q v a base c s (Some r) e = go (nat_le p r.level && nat_le r.left q)
  where
    go : (b : Bool) → Shorter (turns (After p q v a base ∷ s.stack)) (cond b (Goes (pushed (wants r.symbols ++ (Close r.ending a base ∷ After p r.level v a base ∷ [])) s)) (Goes s))
    go false = omega arith
    go true =
        let h = turns_full r a base (After p r.level v a base ∷ s.stack) (all_at (λ (r : Rule). nat_lt (rule_turns r 0) 60 && full (whole r)) (suffixes v) r (suffixes_light v) (pick_is (λ r. begins (whole r) nothing c) (suffixes v) r e).0) in
        let l : turns ((wants r.symbols ++ (Close r.ending a base ∷ After p r.level v a base ∷ [])) ++ s.stack) < 60 = rw append_assoc h in
        omega (arith, l)

pub turn_shorter : (i : Task) (c at : ℕ) (s : State) → Shorter (turns (i ∷ s.stack)) (turned i c at s)
turn_shorter (Want (Token t)) c at s = by_token (admits t c)
  where
    by_token : (b : Bool) → Shorter (turns (Want (Token t) ∷ s.stack)) (cond b (Takes s) Refuses)
    by_token true = tt
    by_token false = tt
turn_shorter (Want (Part x)) c at s = by_part x at s
turn_shorter (Want (Inline x)) c at s = by_inline x c s (pick_inline x c) refl
turn_shorter (Want (Operand p v)) c at s = by_operand p v c at s (pick_prefix v c) refl
turn_shorter (Close (Is m) a base) c at s = omega arith
turn_shorter (Close Bare a base) c at s = omega arith
turn_shorter (Close (Tail x) a base) c at s = by_tail x c a base (shape (drop base s.kinds)) s (pick_node x c (shape (drop base s.kinds))) refl
turn_shorter (After p q v a base) c at s = by_suffix p q v a base c s (pick_suffix v c) refl
