-- Several turns at once.
use Rattle.std.proofs.Common.{◌≡◌, ℕ, ◌-◌, ◌<◌, true, false, List, [], ◌∷◌, ◌++◌, length, drop, cond, ◌⊎◌, inl, inr, refl, arith, subst, sym, Option, Some, None}
use Rattle.std.specs.Prelude.{nat_le, nat_lt, ◌==◌}
use Rattle.go_tree.specs.declared.grammar.Setting.{Setting}
use Rattle.go_tree.specs.declared.grammar.Setting.TheVariants as settings
use Rattle.go_tree.specs.declared.grammar.Category.TheVariants as categories
use Rattle.go_tree.specs.declared.grammar.Ending.TheVariants.{Is, Bare, Tail}
use Rattle.go_tree.specs.declared.grammar.Symbol.TheVariants.{Token, Part, Operand}
use Rattle.go_tree.specs.declared.grammar.Terminal.TheVariants as terminals
use Rattle.go_tree.specs.declared.grammar.Guard.TheVariants as guards
use Rattle.go_tree.specs.declared.tree.NodeKind.TheVariants as node_kinds
use Rattle.go_tree.specs.Classes.{next}
use Rattle.go_tree.specs.Terminals.{admits}
use Rattle.go_tree.specs.Rule.{Rule, row, when, rule}
use Rattle.go_tree.specs.declared.grammar.Shape.{Shape}
use Rattle.go_tree.specs.Shape.{shape}
use Rattle.go_tree.specs.Choice.{pick_node, pick_prefix}
use Rattle.go_tree.specs.First.{first, nullable}
use Rattle.go_tree.specs.Follow.{follow}
use Rattle.go_tree.specs.Inlines.{greedy}
use Rattle.go_tree.specs.Nodes.{nodes}
use Rattle.go_tree.specs.Operands.{prefixes}
use Rattle.go_parse.specs.declared.parser.Task.{Task}
use Rattle.go_parse.specs.declared.parser.Task.TheVariants.{Want, Close, After}
use Rattle.go_parse.specs.State.{State, Outcome, Goes, Takes, Refuses, Runs, stay, on, pushed, on_some, noded, turned, wants, Leads}
use Rattle.go_parse.specs.Names.{IsAtEnd, name_end, ident_taken, type_taken, operand_taken}
use Rattle.go_tree.specs.declared.grammar.Category.{Category}
use Rattle.go_parse.proofs.Begin.{either}
use Rattle.go_tree.specs.declared.grammar.Ending.{Ending}
use Rattle.go_tree.specs.declared.grammar.Symbol.{Symbol}
use Rattle.go_parse.proofs.Steps.{turns, Shorter, turn_shorter}
use Rattle.go_parse.proofs.Turns.{Outcomes, under, turn_leads}
use Rattle.go_parse.proofs.Advance.{chain, led}
use Rattle.go_parse.specs.declared.parser.Turn.{Turn}
use Rattle.go_parse.specs.Machine.{outcome, topped}

-- What is so already takes no further turn.
pub stays : (c at : ℕ) (o o' : Outcome) → o' ≡ o → Runs c at o o'
stays c at o o' e = subst (λ v. Runs c at o v) (sym e) stay

-- What an outcome comes to leads on as it did.
pub runs_on : (n : ℕ) (xs : List ℕ) (c at : ℕ) (s0 : State) {o o' : Outcome} → next xs ≡ c → at ≡ n - length xs → Runs c at o o' → Outcomes n xs s0 o → Outcomes n xs s0 o'
runs_on n xs c at s0 e a stay h = h
runs_on n xs c at s0 e a (on {i = i} {s = s} r) h =
    let turn : Outcomes n xs (under i s) (turned i c at s) = subst (λ v. Outcomes n xs (under i s) (turned i v at s)) e (turn_leads n xs at i s a) in
    runs_on n xs c at s0 e a r (chain n xs s0 (under i s) (turned i c at s) h turn)

shorter_yet : (a b : ℕ) (o : Outcome) → a < b → Shorter a o → Shorter b o
shorter_yet a b (Goes s) l h = omega (arith, l, h)
shorter_yet a b (Takes s) l h = h
shorter_yet a b Refuses l h = h

-- It is shorter.
pub runs_short : (c at m : ℕ) {o o' : Outcome} → Runs c at o o' → Shorter m o → Shorter m o'
runs_short c at m stay h = h
runs_short c at m (on {i = i} {s = s} r) h = runs_short c at m r (shorter_yet (turns (i ∷ s.stack)) m (turned i c at s) h (turn_shorter i c at s))

-- The turn of an end that makes no node leads to the state beneath it.
pub bare_runs : (c at a base : ℕ) (s : State) → Runs c at (Goes (pushed (Close Bare a base ∷ []) s)) (Goes s)
bare_runs c at a base s = on stay

name_rule : (c : ℕ) (z : Shape) → (c == 34) ≡ false → pick_node categories.NameTail c z ≡ Some (when guards.Any terminals.NotDot Bare [])
unfolding nodes follow first nullable greedy
name_rule c z e = rw e refl

literal_rule : (c : ℕ) (z : Shape) → (c == 40) ≡ false → pick_node categories.LitTail c z ≡ Some (when guards.Any terminals.NotBrace Bare [])
unfolding nodes follow first nullable greedy
literal_rule c z e = rw e refl

-- A name that no point follows is at its end.
pub name_runs : (c at a base : ℕ) (s : State) → (c == 34) ≡ false → Runs c at (turned (Close (Tail categories.NameTail) a base) c at s) (Goes s)
name_runs c at a base s e =
    subst (λ o. Runs c at (on_some o Refuses (λ r. Goes (pushed (wants r.symbols ++ (Close r.ending a base ∷ [])) s))) (Goes s)) (sym (name_rule c (shape (drop base s.kinds)) e)) (bare_runs c at a base s)

-- An operand that no brace follows is no literal.
pub literal_runs : (c at a base : ℕ) (s : State) → (c == 40) ≡ false → Runs c at (turned (Close (Tail categories.LitTail) a base) c at s) (Goes s)
literal_runs c at a base s e =
    subst (λ o. Runs c at (on_some o Refuses (λ r. Goes (pushed (wants r.symbols ++ (Close r.ending a base ∷ [])) s))) (Goes s)) (sym (literal_rule c (shape (drop base s.kinds)) e)) (bare_runs c at a base s)

zero_or_blank : (c : ℕ) → admits terminals.Name c ≡ true → (c ≡ 0) ⊎ (c ≡ 76)
zero_or_blank c h = by (either (c == 0) (c == 76) h)
  where
    by : ((c == 0) ≡ true) ⊎ ((c == 76) ≡ true) → (c ≡ 0) ⊎ (c ≡ 76)
    by (inl e) = inl (grind arith)
    by (inr e) = inr (grind arith)

ident_rule : (c : ℕ) (z : Shape) → (c ≡ 0) ⊎ (c ≡ 76) → pick_node categories.Ident c z ≡ Some (row (Is node_kinds.Name) (Token terminals.Name ∷ []))
unfolding nodes follow first nullable greedy
ident_rule c z (inl e) = rw e refl
ident_rule c z (inr e) = rw e refl

type_rule : (c : ℕ) (z : Shape) → (c ≡ 0) ⊎ (c ≡ 76) → pick_node categories.Type c z ≡ Some (row (Tail categories.NameTail) (Part categories.Ident ∷ []))
unfolding nodes follow first nullable greedy
type_rule c z (inl e) = rw e refl
type_rule c z (inr e) = rw e refl

type_name_rule : (c : ℕ) (z : Shape) → (c ≡ 0) ⊎ (c ≡ 76) → pick_node categories.TypeName c z ≡ Some (row (Tail categories.NameTail) (Part categories.Ident ∷ []))
unfolding nodes follow first nullable greedy
type_name_rule c z (inl e) = rw e refl
type_name_rule c z (inr e) = rw e refl

operand_rule : (v : Setting) (c : ℕ) → (c ≡ 0) ⊎ (c ≡ 76) → pick_prefix v c ≡ Some (rule (name_end v) 8 0 (Part categories.TypeName ∷ []))
unfolding prefixes first nullable
operand_rule settings.Free c (inl e) = rw e refl
operand_rule settings.Free c (inr e) = rw e refl
operand_rule settings.Header c (inl e) = rw e refl
operand_rule settings.Header c (inr e) = rw e refl

by_token : (c at : ℕ) (s : State) → admits terminals.Name c ≡ true → Runs c at (Goes (pushed (Want (Token terminals.Name) ∷ []) s)) (Takes s)
by_token c at s h = on (subst (λ b. Runs c at (cond b (Takes s) Refuses) (Takes s)) (sym h) stay)

-- what comes of an end, by its rule
pub tail_on : (c at : ℕ) (x : Category) (a base : ℕ) (s : State) (r : Rule) (o : Outcome) → pick_node x c (shape (drop base s.kinds)) ≡ Some r
    → Runs c at (Goes (pushed (wants r.symbols ++ Close r.ending a base ∷ []) s)) o → Runs c at (turned (Close (Tail x) a base) c at s) o
tail_on c at x a base s r o e h = subst (λ (p : Option Rule). Runs c at (on_some p Refuses (λ r. Goes (pushed (wants r.symbols ++ (Close r.ending a base ∷ [])) s))) o) (sym e) h

pub tail_off : (c at : ℕ) (x : Category) (a base : ℕ) (s : State) → pick_node x c (shape (drop base s.kinds)) ≡ None → Runs c at (turned (Close (Tail x) a base) c at s) Refuses
tail_off c at x a base s e = subst (λ (p : Option Rule). Runs c at (on_some p Refuses (λ r. Goes (pushed (wants r.symbols ++ (Close r.ending a base ∷ [])) s))) Refuses) (sym e) stay

-- An empty rule that makes no node is passed.
pub bare_enters : (c at a base : ℕ) (ss : List Symbol) (e : Ending) (s : State) → (ss ≡ []) × (e ≡ Bare) → Runs c at (Goes (pushed (wants ss ++ Close e a base ∷ []) s)) (Goes s)
bare_enters c at a base ss e s h =
    subst (λ ss. Runs c at (Goes (pushed (wants ss ++ Close e a base ∷ []) s)) (Goes s)) (sym h.0) (subst (λ e. Runs c at (Goes (pushed (Close e a base ∷ []) s)) (Goes s)) (sym h.1) (bare_runs c at a base s))

-- So is an end that nothing goes on with.
pub end_runs : (x : Category) (c at a base : ℕ) (s : State) → IsAtEnd x c → Runs c at (turned (Close (Tail x) a base) c at s) (Goes s)
end_runs x c at a base s (inl h) = subst (λ x. Runs c at (turned (Close (Tail x) a base) c at s) (Goes s)) (sym h.0) (name_runs c at a base s h.1)
end_runs x c at a base s (inr h) = subst (λ x. Runs c at (turned (Close (Tail x) a base) c at s) (Goes s)) (sym h.0) (literal_runs c at a base s h.1)

-- what comes of a turn under another name of its item
pub stays_at : (c at : ℕ) (i j : Task) (s : State) (o : Outcome) → i ≡ j → o ≡ turned j c at s → Runs c at (turned i c at s) o
stays_at c at i j s o e h = subst (λ i. Runs c at (turned i c at s) o) (sym e) (stays c at (turned j c at s) o h)

pub same_item : (c at : ℕ) (i j : Task) (s : State) (o : Outcome) → i ≡ j → Runs c at (turned j c at s) o → Runs c at (turned i c at s) o
same_item c at i j s o e h = subst (λ i. Runs c at (turned i c at s) o) (sym e) h

pub taken_so : (c at : ℕ) (o : Outcome) (s s' : State) → s' ≡ s → Runs c at o (Takes s) → Runs c at o (Takes s')
taken_so c at o s s' e h = subst (λ s. Runs c at o (Takes s)) (sym e) h

-- what comes of the end of a part at its beginning, by its rule
by_rule : (c at : ℕ) (x : Category) (r : Rule) (s : State) (o : Outcome) → pick_node x c (shape (drop (length s.pending) s.kinds)) ≡ Some r
    → Runs c at (Goes (pushed (wants r.symbols ++ (Close r.ending at (length s.pending) ∷ [])) s)) o → Runs c at (Goes (pushed (Want (Part x) ∷ []) s)) o
by_rule c at x r s o e h = on (on (tail_on c at x at (length s.pending) s r o e h))

-- An identifier's token is taken.
pub ident_turns : (c at : ℕ) (s : State) → admits terminals.Name c ≡ true → Runs c at (turned (Want (Part categories.Ident)) c at s) (Takes (ident_taken at s))
ident_turns c at s h = on (tail_on c at categories.Ident at (length s.pending) s (row (Is node_kinds.Name) (Token terminals.Name ∷ [])) _ (ident_rule c _ (zero_or_blank c h)) (by_token c at (ident_taken at s) h))

pub ident_runs : (c at : ℕ) (s : State) → admits terminals.Name c ≡ true → Runs c at (Goes (pushed (Want (Part categories.Ident) ∷ []) s)) (Takes (ident_taken at s))
ident_runs c at s h = by_rule c at categories.Ident (row (Is node_kinds.Name) (Token terminals.Name ∷ [])) s _ (ident_rule c _ (zero_or_blank c h)) (by_token c at (ident_taken at s) h)

-- So is the name with which a type begins.
pub type_turns : (c at : ℕ) (s : State) → admits terminals.Name c ≡ true → Runs c at (turned (Want (Part categories.Type)) c at s) (Takes (type_taken at s))
type_turns c at s h =
    on (tail_on c at categories.Type at (length s.pending) s (row (Tail categories.NameTail) (Part categories.Ident ∷ [])) _ (type_rule c _ (zero_or_blank c h))
    (ident_runs c at (pushed (Close (Tail categories.NameTail) at (length s.pending) ∷ []) s) h))

type_name_runs : (c at : ℕ) (s : State) → admits terminals.Name c ≡ true → Runs c at (Goes (pushed (Want (Part categories.TypeName) ∷ []) s)) (Takes (type_taken at s))
type_name_runs c at s h =
    by_rule c at categories.TypeName (row (Tail categories.NameTail) (Part categories.Ident ∷ [])) s _ (type_name_rule c _ (zero_or_blank c h))
    (ident_runs c at (pushed (Close (Tail categories.NameTail) at (length s.pending) ∷ []) s) h)

-- So is the name with which an operand begins.
pub operand_runs : (p c at : ℕ) (v : Setting) (s : State) → admits terminals.Name c ≡ true → nat_lt 8 p ≡ false → Runs c at (turned (Want (Operand p v)) c at s) (Takes (operand_taken p v at s))
operand_runs p c at v s h l =
    let low : nat_le p 8 ≡ true = grind arith in
    let past : Runs c at (Goes (noded at (rule (name_end v) 8 0 (Part categories.TypeName ∷ [])) (After p 8 v at (length s.pending) ∷ []) s)) (Takes (operand_taken p v at s)) =
    type_name_runs c at (pushed (Close (name_end v) at (length s.pending) ∷ After p 8 v at (length s.pending) ∷ []) s) h in
    subst (λ (o : Option Rule). Runs c at (on_some o Refuses (λ r. cond (nat_le p r.level) (Goes (noded at r (After p r.level v at (length s.pending) ∷ []) s)) Refuses)) (Takes (operand_taken p v at s)))
    (sym (operand_rule v c (zero_or_blank c h))) (subst (λ b. Runs c at (cond b (Goes (noded at (rule (name_end v) 8 0 (Part categories.TypeName ∷ [])) (After p 8 v at (length s.pending) ∷ []) s)) Refuses) (Takes (operand_taken p v at s))) (sym low) past)

-- A name is no operand of a higher level.
pub operand_refused : (p c at : ℕ) (v : Setting) (s : State) → admits terminals.Name c ≡ true → nat_lt 8 p ≡ true → Runs c at (turned (Want (Operand p v)) c at s) Refuses
operand_refused p c at v s h l =
    let high : nat_le p 8 ≡ false = grind arith in
    subst (λ (o : Option Rule). Runs c at (on_some o Refuses (λ r. cond (nat_le p r.level) (Goes (noded at r (After p r.level v at (length s.pending) ∷ []) s)) Refuses)) Refuses)
    (sym (operand_rule v c (zero_or_blank c h))) (subst (λ b. Runs c at (cond b (Goes (noded at (rule (name_end v) 8 0 (Part categories.TypeName ∷ [])) (After p 8 v at (length s.pending) ∷ []) s)) Refuses) Refuses) (sym high) stay)

-- What a turn comes to leads on from the state with its item on the stack.
pub run_led : (n : ℕ) (xs : List ℕ) (k at : ℕ) (next_one : Option Task) (i : Task) (s0 s : State) (o : Outcome) → next xs ≡ k → at ≡ n - length xs
    → next_one ≡ Some i → Leads n xs s0 (topped next_one s) → Runs k at (turned i k at s) o → Outcomes n xs s0 o
run_led n xs k at next_one i s0 s o e a is f r = runs_on n xs k at s0 e a r (led n xs k at next_one i s0 s (turned i k at s) e a is f refl)

-- It is shorter.
pub run_shorter : (i : Task) (k at : ℕ) (s s' : State) → Runs k at (turned i k at s) (Goes s') → turns s'.stack < turns (i ∷ s.stack)
run_shorter i k at s s' r = runs_short k at (turns (i ∷ s.stack)) r (turn_shorter i k at s)

-- what a turn comes to, by its answer
pub answered : (i : Task) (j k at : ℕ) (s s' : State) (t u : Turn) → j ≡ k → t ≡ u → Runs j at (turned i j at s) (outcome t s') → Runs k at (turned i k at s) (outcome u s')
answered i j k at s s' t u e q r = subst (λ k. Runs k at (turned i k at s) (outcome u s')) e (subst (λ (u : Turn). Runs j at (turned i j at s) (outcome u s')) q r)
