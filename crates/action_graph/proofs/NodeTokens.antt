-- Each node that the grammar makes has a token, and the first of them is no semicolon; but a list of statements may have none, or begin with one.
use Rattle.std.proofs.Common.{◌≡◌, ◌⊎◌, ℕ, suc, ◌+◌, ◌-◌, ◌<◌, ◌≤◌, Bool, true, false, not, ◌&&◌, ◌||◌, List, [], ◌∷◌, ◌++◌, length, inl, inr, refl, ap, ◌∙◌, arith}
use Rattle.go_tree.specs.declared.grammar.Category.{Category}
use Rattle.go_tree.specs.declared.grammar.Category.TheVariants as c
use Rattle.go_tree.specs.declared.grammar.Ending.{Ending}
use Rattle.go_tree.specs.declared.grammar.Ending.TheVariants.{Is, Bare, Tail}
use Rattle.go_tree.specs.declared.grammar.Setting.{Setting}
use Rattle.go_tree.specs.declared.grammar.Setting.TheVariants as m
use Rattle.go_tree.specs.declared.grammar.Symbol.{Symbol}
use Rattle.go_tree.specs.declared.grammar.Symbol.TheVariants.{Token, Part, Inline, Operand}
use Rattle.go_tree.specs.declared.tree.NodeKind.{NodeKind}
use Rattle.go_tree.specs.declared.tree.NodeKind.TheVariants as k
use Rattle.go_tree.specs.Choice.{may_be_empty, empty, rest, whole}
use Rattle.go_tree.specs.Classes.{next}
use Rattle.go_tree.specs.First.{first, nullable, first_operand}
use Rattle.go_tree.specs.Forest.{Forest, Empty, Grow, ◌⊕◌}
use Rattle.go_tree.specs.Inlines.{inlines}
use Rattle.go_tree.specs.Nodes.{nodes}
use Rattle.go_tree.specs.Operands.{prefixes, suffixes}
use Rattle.go_tree.specs.Rule.{Rule}
use Rattle.go_tree.specs.Spells.{Among, Spells, Closes, done, token, inline, node, prefix, suffix, is, bare, tail}
use Rattle.go_parse.proofs.Begin.{inline_fine, node_fine, rule_empty, prefix_full, starts, ends, either}
use Rattle.go_parse.proofs.Check.{all, all_at, both}

-- ---- what may not be empty takes a token

-- how many tokens there are at least, of what may be empty or not
abbrev least : Bool → ℕ
least true = 0
least false = 1

least_both : (a b : Bool) → least (a && b) ≤ least a + least b
least_both true b = omega arith
least_both false b = omega arith

least_last : (a : Bool) → least a ≤ least (a && true)
least_last true = omega arith
least_last false = omega arith

least_low : (a b : Bool) → (a ≡ true → b ≡ true) → least b ≤ least a
least_low true b h = let e : least b ≡ 0 = ap least (h refl) in omega (arith, e)
least_low false true h = omega arith
least_low false false h = omega arith

and_more : (a b d : Bool) → (a && (b && d)) ≡ ((a && b) && d)
and_more true b d = refl
and_more false b d = refl

empty_beside : (ss more : List Symbol) → empty (ss ++ more) ≡ (empty ss && empty more)
empty_beside [] more = refl
empty_beside (s ∷ ss) more = ap (λ b. may_be_empty s && b) (empty_beside ss more) ∙ and_more (may_be_empty s) (empty ss) (empty more)

-- a rule needs no more than its symbols and its ending
least_rule : (r : Rule) → least (empty (whole r)) ≤ least (empty r.symbols) + least (empty (rest r.ending))
least_rule r = let e = ap least (empty_beside r.symbols (rest r.ending)) in let low = least_both (empty r.symbols) (empty (rest r.ending)) in omega (arith, e, low)

mutual
  -- symbols take a token at least, unless each of them may be empty
  takes : {n : ℕ} {ss : List Symbol} {f : Forest} {xs ys : List ℕ} → Spells n ss f xs ys → length ys + least (empty ss) ≤ length xs
  takes done = omega arith
  takes (token a s) = let more = takes s in omega (arith, more)
  takes (inline {c = x} {ss = ss} r a m s t) =
      let low = least_low (empty r) (nullable x) (rule_empty x r (inline_fine x r a)) in
      let sum = least_both (nullable x) (empty ss) in
      let first = takes s in
      let more = takes t in
      omega (arith, low, sum, first, more)
  takes (node {c = x} {ss = ss} e t) =
      let low = least_last (nullable x) in
      let sum = least_both (nullable x) (empty ss) in
      let first = takes_end e in
      let more = takes t in
      omega (arith, low, sum, first, more)
  takes (prefix {l = l} r a low s e t) =
      let some = least_low (empty (whole r)) false (λ h. absurd (prefix_full l r a h)) in
      let sum = least_rule r in
      let first = takes s in
      let last = takes_end e in
      let more = takes t in
      omega (arith, some, sum, first, last, more)
  takes (suffix r a low left s e t) =
      let first = takes left in
      let next = takes s in
      let last = takes_end e in
      let more = takes t in
      omega (arith, first, next, last, more)

  -- and so does an ending
  takes_end : {n a : ℕ} {e : Ending} {b f : Forest} {xs ys : List ℕ} → Closes n e a b f xs ys → length ys + least (empty (rest e)) ≤ length xs
  takes_end is = omega arith
  takes_end bare = omega arith
  takes_end (tail {c = x} r a m s e) =
      let low = least_low (empty (whole r)) (nullable x) (rule_empty x (whole r) (node_fine x r a)) in
      let sum = least_rule r in
      let same = least_both (nullable x) true in
      let first = takes s in
      let last = takes_end e in
      omega (arith, low, sum, same, first, last)

-- ---- the grammar's rules

-- a list of statements, as clauses have one
abbrev pub is_statements : NodeKind → Bool
is_statements k.List = true
is_statements _ = false

-- what ends so makes no node but a list of statements
abbrev loose : Ending → Bool
loose (Is k) = is_statements k
loose Bare = true
loose (Tail x) = false

abbrev loose_rule : Rule → Bool
loose_rule r = loose r.ending

-- nor where the next token decides
abbrev eases : Ending → Bool
eases (Is k) = is_statements k
eases Bare = true
eases (Tail x) = all loose_rule (nodes x)

loose_eases : (e : Ending) → loose e ≡ true → eases e ≡ true
loose_eases (Is k) h = h
loose_eases Bare h = refl
loose_eases (Tail x) h = absurd (cc)

-- a category that isn't empty, and begins with no semicolon
abbrev firm : Category → Bool
firm x = not (nullable x) && not (first x 31)

abbrev fine_part : Category → Bool
fine_part x = firm x || all loose_rule (nodes x)

-- each category in them that makes a node is firm, or makes none but a list of statements
abbrev pub fine : List Symbol → Bool
fine [] = true
fine (Token t ∷ ss) = fine ss
fine (Part x ∷ ss) = fine_part x && fine ss
fine (Inline x ∷ ss) = fine ss
fine (Operand p l ∷ ss) = fine ss

abbrev fine_rule : Rule → Bool
fine_rule r = fine r.symbols

nodes_fine : (x : Category) → all fine_rule (nodes x) ≡ true
unfolding nodes first nullable
nodes_fine c.Clause = refl
nodes_fine _ = refl

inlines_fine : (x : Category) → all fine (inlines x) ≡ true
unfolding inlines nodes first nullable
inlines_fine c.ClausePiece = refl
inlines_fine _ = refl

prefixes_fine : (l : Setting) → all fine_rule (prefixes l) ≡ true
unfolding prefixes nodes first nullable
prefixes_fine m.Free = refl
prefixes_fine m.Header = refl

suffixes_fine : (l : Setting) → all fine_rule (suffixes l) ≡ true
unfolding suffixes nodes first nullable
suffixes_fine m.Free = refl
suffixes_fine m.Header = refl

-- ---- the nodes that are spelled

-- `At x i` says that the token i is there, of class x; `top` is where tokens end.
module _ (At : ℕ → ℕ → Type 0) (top : ℕ) where
  -- the token is there, and is no semicolon
  abbrev pub Begun : ℕ → Type 0
  Begun a = (x : ℕ) × At x a × (x ≡ 31 → ⊥)

  -- a node of this kind has tokens from a to b, the first no semicolon, unless it is a list of statements
  abbrev pub HasTokens : NodeKind → ℕ → ℕ → Type 0
  HasTokens k a b = is_statements k ≡ false → Begun a × (a ≤ b) × (b < top)

  -- so has each node of trees
  abbrev pub Each : Forest → Type 0
  Each Empty = Prim.Unit {0}
  Each (Grow k a b ps f) = HasTokens k a b × Each ps × Each f

  -- what is left of the classes of the tokens before n is read
  abbrev pub Read : ℕ → List ℕ → Type 0
  Read n [] = n ≤ top
  Read n (x ∷ xs) = At x (n - suc (length xs)) × Read n xs

  -- What began at token a ends as a node with tokens: some are taken, or some will be, or it makes no such node.
  data Ready (n : ℕ) (e : Ending) (a : ℕ) (xs : List ℕ) : Type 0 where
    past : Begun a → a < n - length xs → Ready n e a xs
    due : Begun a → a ≤ n - length xs → empty (rest e) ≡ false → Ready n e a xs
    free : eases e ≡ true → Ready n e a xs

  pub each_beside : (f g : Forest) → Each f → Each g → Each (f ⊕ g)
  each_beside Empty g one other = other
  each_beside (Grow k a b ps f) g one other = (one.0, one.1, each_beside f g one.2 other)

  read_low : (n : ℕ) (xs : List ℕ) → Read n xs → n ≤ top
  read_low n [] h = h
  read_low n (x ∷ xs) h = read_low n xs h.1

  -- what begins as no semicolon does
  begun_at : (n : ℕ) (xs : List ℕ) (may : ℕ → Bool) → Read n xs → 0 < length xs → may (next xs) ≡ true → may 31 ≡ false → Begun (n - length xs)
  begun_at n [] may read some may_be none = absurd (omega (arith, some))
  begun_at n (x ∷ xs) may read some may_be none = (x, read.0, λ semi. let same : next (x ∷ xs) ≡ 31 = ap (λ y. next (y ∷ xs)) semi in absurd (cc (may_be, none, ap may same)))

  -- a rule that isn't empty: its symbols took a token, or its ending will
  ready_rule : {n : ℕ} {f : Forest} {xs ys : List ℕ} (r : Rule) (a : ℕ) → Begun a → a ≤ n - length xs → length xs ≤ n → Spells n r.symbols f xs ys → empty (whole r) ≡ false → Ready n r.ending a ys
  ready_rule {n = n} {xs = xs} {ys = ys} r a begun low within s some = by (empty r.symbols) (empty (rest r.ending)) refl refl (takes s) where
    by : (b d : Bool) → empty r.symbols ≡ b → empty (rest r.ending) ≡ d → length ys + least (empty r.symbols) ≤ length xs → Ready n r.ending a ys
    by false d h g fewer = let one : least (empty r.symbols) ≡ 1 = ap least h in past begun (omega (arith, low, within, fewer, one))
    by true false h g fewer = due begun (omega (arith, low, within, fewer)) g
    by true true h g fewer = let all_empty = empty_beside r.symbols (rest r.ending) in absurd (cc (h, g, some, all_empty))

  -- where the next token decided for a rule
  ready_tail : {n : ℕ} {f : Forest} {xs ys : List ℕ} (x : Category) (r : Rule) (a : ℕ) → Among r (nodes x) → length xs ≤ n → Spells n r.symbols f xs ys → Ready n (Tail x) a xs → Ready n r.ending a ys
  ready_tail {n = n} {xs = xs} {ys = ys} x r a among within s (past begun low) = let fewer = takes s in past begun (omega (arith, low, within, fewer))
  ready_tail {n = n} {xs = xs} {ys = ys} x r a among within s (due begun low some) = ready_rule r a begun low within s (by (empty (whole r)) refl) where
    by : (b : Bool) → empty (whole r) ≡ b → empty (whole r) ≡ false
    by false h = h
    by true h = let null = rule_empty x (whole r) (node_fine x r among) h in absurd (cc (null, some))
  ready_tail {n = n} {xs = xs} {ys = ys} x r a among within s (free h) = free (loose_eases r.ending (all_at loose_rule (nodes x) r h among))

  -- the node is made
  made : {n : ℕ} (k : NodeKind) (a : ℕ) (xs : List ℕ) → Ready n (Is k) a xs → n ≤ top → HasTokens k a (n - length xs - 1)
  made k a xs (past begun low) within other = (begun, omega (arith, low), omega (arith, low, within))
  made k a xs (due begun low some) within other = absurd (cc)
  made k a xs (free h) within other = absurd (cc)

  -- an operand begins with no semicolon
  begun_operand : {n p : ℕ} {l : Setting} {f : Forest} {xs ys : List ℕ} → Spells n (Operand p l ∷ []) f xs ys → Read n xs → Begun (n - length xs)
  begun_operand {n = n} {xs = xs} {ys = ys} s read =
      let fewer = takes s in begun_at n xs first_operand read (omega (arith, fewer)) (alone (first_operand (next xs)) (starts s (λ _. true) refl)) refl where
        alone : (b : Bool) → (b || (false && true)) ≡ true → b ≡ true
        alone true h = refl
        alone false h = h

  some_prefix : (l : Setting) (r : Rule) → Among r (prefixes l) → empty (whole r) ≡ false
  some_prefix l r among = by (empty (whole r)) refl where
    by : (b : Bool) → empty (whole r) ≡ b → empty (whole r) ≡ false
    by false h = h
    by true h = absurd (prefix_full l r among h)

  -- a category within a rule
  ready_part : {n : ℕ} {x : Category} {f : Forest} {xs ys : List ℕ} → Closes n (Tail x) (n - length xs) Empty f xs ys → fine_part x ≡ true → Read n xs → Ready n (Tail x) (n - length xs) xs
  ready_part {n = n} {x = x} {xs = xs} {ys = ys} e h read = by (either (firm x) (all loose_rule (nodes x)) h) where
    by : (firm x ≡ true) ⊎ (all loose_rule (nodes x) ≡ true) → Ready n (Tail x) (n - length xs) xs
    by (inr loose) = free loose
    by (inl firm) =
        let fewer = takes_end e in
        let full : nullable x ≡ false = not_true (nullable x) (both (not (nullable x)) (not (first x 31)) firm).0 in
        let none : first x 31 ≡ false = not_true (first x 31) (both (not (nullable x)) (not (first x 31)) firm).1 in
        let some : (nullable x && true) ≡ false = ap (λ b. b && true) full in
        let one : least (nullable x && true) ≡ 1 = ap least some in
        let starting : first x (next xs) ≡ true = alone (first x (next xs)) (nullable x) full (ends e (λ _. true) refl) in
        due (begun_at n xs (first x) read (omega (arith, fewer, one)) starting none) (omega arith) some
      where
        not_true : (b : Bool) → not b ≡ true → b ≡ false
        not_true true h = absurd (cc)
        not_true false h = refl

        alone : (b d : Bool) → d ≡ false → (b || (d && true)) ≡ true → b ≡ true
        alone true d g h = refl
        alone false false g h = h
        alone false true g h = absurd (cc)

  mutual
    -- each node of what symbols spell has tokens
    pub spelled : {n : ℕ} {ss : List Symbol} {f : Forest} {xs ys : List ℕ} → Spells n ss f xs ys → fine ss ≡ true → length xs ≤ n → Read n xs → Each f × Read n ys
    spelled done h within read = (tt, read)
    spelled (token a s) h within read = spelled s h (omega (arith, within)) read.1
    spelled (inline {c = x} {g = g} {f = f} r a m s t) h within read =
        let first = spelled s (all_at fine (inlines x) r (inlines_fine x) a) within read in
        let fewer = takes s in
        let more = spelled t h (omega (arith, within, fewer)) first.1 in
        (each_beside g f first.0 more.0, more.1)
    spelled {n = n} (node {c = x} {ss = ss} {t = u} {f = f} {xs = xs} e t) h within read =
        let parts = both (fine_part x) (fine ss) h in
        let first = closed e tt (ready_part e parts.0 read) within read in
        let fewer = takes_end e in
        let more = spelled t parts.1 (omega (arith, within, fewer)) first.1 in
        (each_beside u f first.0 more.0, more.1)
    spelled {n = n} (prefix {l = l} {t = u} {f = f} {xs = xs} {ws = ws} r a low s e t) h within read =
        let begun = begun_operand (prefix r a low s e done) read in
        let parts = spelled s (all_at fine_rule (prefixes l) r (prefixes_fine l) a) within read in
        let fewer = takes s in
        let left : length ws ≤ n = omega (arith, within, fewer) in
        let first = closed e parts.0 (ready_rule r (n - length xs) begun (omega arith) within s (some_prefix l r a)) left parts.1 in
        let last = takes_end e in
        let more = spelled t h (omega (arith, left, last)) first.1 in
        (each_beside u f first.0 more.0, more.1)
    spelled {n = n} (suffix {l = l} {left = before} {parts = behind} {t = u} {f = f} {xs = xs} {ys = ys} {vs = vs} r a low left s e t) h within read =
        let begun = begun_operand left read in
        let one = spelled left refl within read in
        let fewer = takes left in
        let middle : length ys ≤ n = omega (arith, within, fewer) in
        let other = spelled s (all_at fine_rule (suffixes l) r (suffixes_fine l) a) middle one.1 in
        let less = takes s in
        let ready : n - length xs < n - length vs = omega (arith, within, fewer, less) in
        let first = closed e (each_beside before behind one.0 other.0) (past begun ready) (omega (arith, middle, less)) other.1 in
        let last = takes_end e in
        let more = spelled t h (omega (arith, middle, less, last)) first.1 in
        (each_beside u f first.0 more.0, more.1)

    closed : {n a : ℕ} {e : Ending} {b f : Forest} {xs ys : List ℕ} → Closes n e a b f xs ys → Each b → Ready n e a xs → length xs ≤ n → Read n xs → Each f × Read n ys
    closed {n = n} (is {k = k} {a = a} {xs = xs}) each ready within read = ((made k a xs ready (read_low n xs read), each, tt), read)
    closed bare each ready within read = (each, read)
    closed {n = n} {a = a} (tail {c = x} {before = b} {parts = parts} {xs = xs} r among m s e) each ready within read =
        let first = spelled s (all_at fine_rule (nodes x) r (nodes_fine x) among) within read in
        let fewer = takes s in
        closed e (each_beside b parts each first.0) (ready_tail x r a among within s ready) (omega (arith, within, fewer)) first.1
