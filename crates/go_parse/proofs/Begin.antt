-- What a spelling begins with.
use Rattle.std.proofs.Common.{drop, ◌≡◌, ℕ, ◌<◌, ◌≤◌, Bool, true, false, List, [], ◌∷◌, cond, ◌&&◌, ◌||◌, ◌⊎◌, inl, inr, refl, arith, ap, ◌∙◌, ◌++◌}
use Rattle.std.specs.Prelude.{nat_lt, nat_le, ◌==◌}
use Rattle.go_tree.specs.declared.grammar.Setting.{Setting}
use Rattle.go_tree.specs.declared.grammar.Ending.{Ending}
use Rattle.go_tree.specs.declared.grammar.Category.{Category}
use Rattle.go_tree.specs.declared.grammar.Symbol.{Symbol}
use Rattle.go_tree.specs.Forest.{Forest}
use Rattle.go_tree.specs.Classes.{told, level_of, next, ahead}
use Rattle.go_tree.specs.First.{first, nullable, first_operand}
use Rattle.go_tree.specs.Follow.{follow}
use Rattle.go_tree.specs.Inlines.{inlines}
use Rattle.go_tree.specs.Nodes.{nodes}
use Rattle.go_tree.specs.Operands.{prefixes, suffixes}
use Rattle.go_tree.specs.Rule.{Rule}
use Rattle.go_tree.specs.Choice.{first_symbol, may_be_empty, begins, nothing, empty, rest, whole, fits_inline}
use Rattle.go_tree.specs.Spells.{Among, Spells, Closes, done, token, inline, node, prefix, suffix, is, bare, tail}
use Rattle.go_parse.proofs.Check.{lone_nodes, low_suffix, implies, below, all, fine_rule, fine_prefix, fine_suffix, follows, lone, both, implied, at, all_at}
use Rattle.go_parse.proofs.Checked.{inlines_are_fine, nodes_are_fine, prefixes_are_fine, suffixes_are_fine}

told_below : (a b d : ℕ) → told a b d < 77
told_below a b d =
    below_cond (a == 34 && b == 36) (below_cond (d == 29) (omega arith) (omega arith))
    (below_cond (a == 38 && b == 35) (omega arith) (below_cond (a == 43 && b == 24) (omega arith) (below_cond (a == 42 && b == 24) (omega arith)
    (below_cond (a == 32 && b == 37) (omega arith) (rest_below a)))))
  where
    below_cond : (c : Bool) {x y : ℕ} → x < 77 → y < 77 → cond c x y < 77
    below_cond true l m = l
    below_cond false l m = m

    rest_below : (a : ℕ) → cond (nat_lt a 77) a 74 < 77
    rest_below a = grind arith

pub next_below : (xs : List ℕ) → next xs < 77
next_below xs = told_below (ahead xs) (ahead (drop 1 xs)) (ahead (drop 2 xs))

pub or_first : (a b : Bool) → a ≡ true → (a || b) ≡ true
or_first true b h = refl
or_first false b h = cc

pub or_second : (a b : Bool) → b ≡ true → (a || b) ≡ true
or_second true b h = refl
or_second false b h = h

pub either : (a b : Bool) → (a || b) ≡ true → (a ≡ true) ⊎ (b ≡ true)
either true b h = inl refl
either false b h = inr h

-- A token begins the symbols themselves, or they are empty and it begins what is after them.
pub begins_split : (ss : List Symbol) (p : ℕ → Bool) (c : ℕ) → begins ss p c ≡ true
    → (begins ss nothing c ≡ true) ⊎ ((empty ss ≡ true) × (p c ≡ true))
begins_split [] p c h = inr (refl, h)
begins_split (s ∷ ss) p c h = go (either _ _ h) (begins_split ss p c)
  where
    more : (a : Bool) → a ≡ true → (begins ss nothing c ≡ true) ⊎ ((empty ss ≡ true) × (p c ≡ true))
        → ((first_symbol s c || (a && begins ss nothing c)) ≡ true) ⊎ (((a && empty ss) ≡ true) × (p c ≡ true))
    more true e (inl q) = inl (or_second (first_symbol s c) _ q)
    more true e (inr q) = inr q
    more false e q = cc

    go : (first_symbol s c ≡ true) ⊎ ((may_be_empty s && begins ss p c) ≡ true)
        → (begins ss p c ≡ true → (begins ss nothing c ≡ true) ⊎ ((empty ss ≡ true) × (p c ≡ true)))
        → ((first_symbol s c || (may_be_empty s && begins ss nothing c)) ≡ true) ⊎ (((may_be_empty s && empty ss) ≡ true) × (p c ≡ true))
    go (inl e) f = inl (or_first _ _ e)
    go (inr e) f = let q = both (may_be_empty s) (begins ss p c) e in more (may_be_empty s) q.0 (f q.1)

pub begins_more : (ss : List Symbol) (p : ℕ → Bool) (c : ℕ) → begins ss nothing c ≡ true → begins ss p c ≡ true
begins_more [] p c h = cc
begins_more (s ∷ ss) p c h = go (either _ _ h) (begins_more ss p c)
  where
    go : (first_symbol s c ≡ true) ⊎ ((may_be_empty s && begins ss nothing c) ≡ true) → (begins ss nothing c ≡ true → begins ss p c ≡ true)
        → (first_symbol s c || (may_be_empty s && begins ss p c)) ≡ true
    go (inl e) f = or_first _ _ e
    go (inr e) f = let q = both (may_be_empty s) (begins ss nothing c) e in or_second (first_symbol s c) _ (let z = f q.1 in let y = q.0 in cc)

-- the facts that were checked
pub inline_fine : (x : Category) (r : List Symbol) → Among r (inlines x) → fine_rule x r ≡ true
inline_fine x r h = all_at (fine_rule x) (inlines x) r (both (below 77 (λ c. lone (fits_inline x c) (inlines x))) (all (fine_rule x) (inlines x)) (inlines_are_fine x)).1 h

pub node_fine : (x : Category) (r : Rule) → Among r (nodes x) → fine_rule x (whole r) ≡ true
node_fine x r h = all_at (λ r. fine_rule x (whole r)) (nodes x) r (both (below 77 (lone_nodes x)) (all (λ r. fine_rule x (whole r)) (nodes x)) (nodes_are_fine x)).1 h

pub prefix_fine : (l : Setting) (r : Rule) → Among r (prefixes l) → fine_prefix r ≡ true
prefix_fine l r h = all_at fine_prefix (prefixes l) r (both (below 77 (λ c. lone (λ r. begins (whole r) nothing c) (prefixes l))) (all fine_prefix (prefixes l)) (prefixes_are_fine l)).1 h

suffix_checks : (l : Setting) → (all fine_suffix (suffixes l) ≡ true) × (all low_suffix (suffixes l) ≡ true)
suffix_checks l = both (all fine_suffix (suffixes l)) (all low_suffix (suffixes l)) (both (below 77 (λ c. lone (λ r. begins (whole r) nothing c) (suffixes l))) (all fine_suffix (suffixes l) && all low_suffix (suffixes l)) (suffixes_are_fine l)).1

pub suffix_fine : (l : Setting) (r : Rule) → Among r (suffixes l) → fine_suffix r ≡ true
suffix_fine l r h = all_at fine_suffix (suffixes l) r (suffix_checks l).0 h

pub suffix_low : (l : Setting) (r : Rule) → Among r (suffixes l) → r.level ≤ r.left
suffix_low l r h = low r.level r.left (all_at low_suffix (suffixes l) r (suffix_checks l).1 h)
  where
    low : (a b : ℕ) → nat_le a b ≡ true → a ≤ b
    low a b h = grind arith

-- a && (b && d), where a is a test below 77
parts_of : (f : ℕ → Bool) (b d : Bool) → (below 77 f && (b && d)) ≡ true → ((c : ℕ) → c < 77 → f c ≡ true) × (b ≡ true) × (d ≡ true)
parts_of f b d h = let q = both (below 77 f) (b && d) h in let q' = both b d q.1 in (λ c l. at 77 f c q.0 l, q'.0, q'.1)

never : (b : Bool) → implies b false ≡ true → b ≡ true → ⊥
never b h e = let z : false ≡ true = implied b false h e in cc

pub rule_first : (x : Category) (r : List Symbol) → fine_rule x r ≡ true → (c : ℕ) → c < 77 → begins r nothing c ≡ true → first x c ≡ true
rule_first x r h c l e = implied _ _ ((parts_of (λ c. implies (begins r nothing c) (first x c)) (implies (empty r) (nullable x)) (follows r (follow x)) h).0 c l) e

pub rule_empty : (x : Category) (r : List Symbol) → fine_rule x r ≡ true → empty r ≡ true → nullable x ≡ true
rule_empty x r h e = implied _ _ (parts_of (λ c. implies (begins r nothing c) (first x c)) (implies (empty r) (nullable x)) (follows r (follow x)) h).1 e

pub rule_follows : (x : Category) (r : List Symbol) → fine_rule x r ≡ true → follows r (follow x) ≡ true
rule_follows x r h = (parts_of (λ c. implies (begins r nothing c) (first x c)) (implies (empty r) (nullable x)) (follows r (follow x)) h).2

-- a category begins as its rule does
pub rule_begins : (x : Category) (r : List Symbol) (p : ℕ → Bool) (c : ℕ) → fine_rule x r ≡ true → c < 77 → begins r p c ≡ true → (first x c || (nullable x && p c)) ≡ true
rule_begins x r p c h l e = go (begins_split r p c e)
  where
    go : (begins r nothing c ≡ true) ⊎ ((empty r ≡ true) × (p c ≡ true)) → (first x c || (nullable x && p c)) ≡ true
    go (inl q) = or_first _ _ (rule_first x r h c l q)
    go (inr q) = let e : nullable x ≡ true = rule_empty x r h q.0 in or_second (first x c) _ (cc (e, q.1))

pub prefix_first : (l : Setting) (r : Rule) → Among r (prefixes l) → (c : ℕ) → c < 77 → begins (whole r) nothing c ≡ true → first_operand c ≡ true
prefix_first v r h c l e = implied _ _ ((parts_of (λ c. implies (begins (whole r) nothing c) (first_operand c)) (implies (empty (whole r)) false) (follows (whole r) (λ c. nat_le (level_of c) r.level)) (prefix_fine v r h)).0 c l) e

pub prefix_full : (l : Setting) (r : Rule) → Among r (prefixes l) → empty (whole r) ≡ true → ⊥
prefix_full v r h e = never (empty (whole r)) (parts_of (λ c. implies (begins (whole r) nothing c) (first_operand c)) (implies (empty (whole r)) false) (follows (whole r) (λ c. nat_le (level_of c) r.level)) (prefix_fine v r h)).1 e

pub prefix_follows : (l : Setting) (r : Rule) → Among r (prefixes l) → follows (whole r) (λ c. nat_le (level_of c) r.level) ≡ true
prefix_follows v r h = (parts_of (λ c. implies (begins (whole r) nothing c) (first_operand c)) (implies (empty (whole r)) false) (follows (whole r) (λ c. nat_le (level_of c) r.level)) (prefix_fine v r h)).2

pub suffix_level : (l : Setting) (r : Rule) → Among r (suffixes l) → (c : ℕ) → c < 77 → begins (whole r) nothing c ≡ true → level_of c ≡ r.level
suffix_level v r h c l e =
    let q = both (nat_le r.level (level_of c)) (nat_le (level_of c) r.level) (implied _ _ ((parts_of (λ c. implies (begins (whole r) nothing c) (nat_le r.level (level_of c) && nat_le (level_of c) r.level)) (implies (empty (whole r)) false) (follows (whole r) (λ c. nat_le (level_of c) r.level)) (suffix_fine v r h)).0 c l) e) in
    equal_level (level_of c) r.level q.0 q.1
  where
    equal_level : (a b : ℕ) → nat_le b a ≡ true → nat_le a b ≡ true → a ≡ b
    equal_level a b h1 h2 = grind arith

pub suffix_full : (l : Setting) (r : Rule) → Among r (suffixes l) → empty (whole r) ≡ true → ⊥
suffix_full v r h e = never (empty (whole r)) (parts_of (λ c. implies (begins (whole r) nothing c) (nat_le r.level (level_of c) && nat_le (level_of c) r.level)) (implies (empty (whole r)) false) (follows (whole r) (λ c. nat_le (level_of c) r.level)) (suffix_fine v r h)).1 e

pub suffix_follows : (l : Setting) (r : Rule) → Among r (suffixes l) → follows (whole r) (λ c. nat_le (level_of c) r.level) ≡ true
suffix_follows v r h = (parts_of (λ c. implies (begins (whole r) nothing c) (nat_le r.level (level_of c) && nat_le (level_of c) r.level)) (implies (empty (whole r)) false) (follows (whole r) (λ c. nat_le (level_of c) r.level)) (suffix_fine v r h)).2

pub begins_append : (ss tt : List Symbol) (p : ℕ → Bool) (c : ℕ) → begins (ss ++ tt) p c ≡ begins ss (begins tt p) c
begins_append [] tt p c = refl
begins_append (s ∷ ss) tt p c = ap (λ b. first_symbol s c || (may_be_empty s && b)) (begins_append ss tt p c)

part_begins : (x : Category) (p : ℕ → Bool) (c : ℕ) → (first x c || (nullable x && p c)) ≡ true → (first x c || (nullable x && p c)) ≡ true
part_begins x p c h = h

tail_begins : (x : Category) (r : Rule) → Among r (nodes x) → (p : ℕ → Bool) (c : ℕ) → c < 77 → begins r.symbols (begins (rest r.ending) p) c ≡ true → (first x c || (nullable x && p c)) ≡ true
tail_begins x r a p c l h = rule_begins x (whole r) p c (node_fine x r a) l (begins_append r.symbols (rest r.ending) p c ∙ h)

prefix_begins : (l : Setting) (r : Rule) → Among r (prefixes l) → (p : ℕ → Bool) (c : ℕ) → c < 77 → begins r.symbols (begins (rest r.ending) p) c ≡ true → (first_operand c || (false && p c)) ≡ true
prefix_begins v r a p c l h = go (begins_split (whole r) p c (begins_append r.symbols (rest r.ending) p c ∙ h))
  where
    go : (begins (whole r) nothing c ≡ true) ⊎ ((empty (whole r) ≡ true) × (p c ≡ true)) → (first_operand c || (false && p c)) ≡ true
    go (inl q) = or_first _ _ (prefix_first v r a c l q)
    go (inr q) = absurd (prefix_full v r a q.0)

suffix_begins : (p : ℕ → Bool) (c : ℕ) → (first_operand c || (false && true)) ≡ true → (first_operand c || (false && p c)) ≡ true
suffix_begins p c h = go (either _ _ h)
  where
    go : (first_operand c ≡ true) ⊎ ((false && true) ≡ true) → (first_operand c || (false && p c)) ≡ true
    go (inl q) = or_first _ _ q
    go (inr q) = cc

mutual
  -- A spelling begins with a token that begins its symbols, where what follows is of p.
  pub starts : {n : ℕ} {ss : List Symbol} {f : Forest} {xs ys : List ℕ} → Spells n ss f xs ys
      → (p : ℕ → Bool) → p (next ys) ≡ true → begins ss p (next xs) ≡ true
  starts done p h = h
  starts (token a s) p h = or_first _ _ a
  starts (inline {c = x} {ss = ss} {xs = xs} r a m s t) p h =
      rule_begins x r (begins ss p) (next xs) (inline_fine x r a) (next_below xs) (starts s (begins ss p) (starts t p h))
  starts (node {ss = ss} e t) p h = part_begins _ (begins ss p) _ (ends e (begins ss p) (starts t p h))
  starts (prefix {l = v} {ss = ss} {xs = xs} r a l s e t) p h =
      prefix_begins v r a (begins ss p) (next xs) (next_below xs) (starts s (begins (rest r.ending) (begins ss p)) (ends e (begins ss p) (starts t p h)))
  starts (suffix {ss = ss} {xs = xs} r a l left s e t) p h = suffix_begins (begins ss p) (next xs) (starts left (λ _. true) refl)

  pub ends : {n a : ℕ} {e : Ending} {b f : Forest} {xs ys : List ℕ} → Closes n e a b f xs ys
      → (p : ℕ → Bool) → p (next ys) ≡ true → begins (rest e) p (next xs) ≡ true
  ends is p h = h
  ends bare p h = h
  ends (tail {c = x} {xs = xs} r a m s e) p h =
      tail_begins x r a p (next xs) (next_below xs) (starts s (begins (rest r.ending) p) (ends e p h))
