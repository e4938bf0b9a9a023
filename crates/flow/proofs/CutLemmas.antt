-- Statements that are cut off, and the numbers of flags.
use Rattle.std.proofs.Common.{◌≡◌, ◌⊎◌, inl, inr, ◌<◌, ◌≤◌, ◌+◌, ◌*◌, ◌↔◌, ℕ, zero, suc, Bool, true, false, cond, List, [], ◌∷◌, ◌++◌, length, Option, Some, None, refl, sym, ap, ◌∙◌, subst, arith, if◌then◌else◌}
use Rattle.std.specs.Prelude.{slice_get, is_some}
use Rattle.std.specs.List.{Contains}
use Rattle.std.proofs.lemmas.Option.{slice_get_within}
use Rattle.std.proofs.lemmas.Bool.{cases_eq}
use Rattle.std.proofs.lemmas.List.Elements.{Contains-push, Contains-push_cases, Contains-append_left}
use Rattle.go_tree.specs.declared.tree.FileTree.{FileTree}
use Rattle.go_tree.specs.declared.tree.Node.{Node}
use Rattle.flow.specs.Around.{IsTree}
use Rattle.flow.specs.Edges.{before}
use Rattle.flow.specs.Passing.{is_statements, Names, IsNamed, Passes, IsUnreached, AreUnreached, flag_of, AreMarked, IsMarkedToo, ArePassing, AreSurelyPassing, cut_part, cut_at, nowhere_named, IsCutOff, AreMarkedBehind, statements_of, IsCutOffIn, AreFlagged}
use Rattle.flow.proofs.AroundLemmas.{either, same_some}
use Rattle.flow.proofs.SearchLemmas.{no_truth, by_bool}
use Rattle.flow.proofs.PassingLemmas.{there_in}

pub none_behind : (passing named : ℕ → Bool) (parts : List ℕ) (flags : List Bool) → AreMarkedBehind passing named parts 0 flags flags
none_behind passing named parts flags = record {
  size = refl;
  kept = λ n is. is;
  marked = λ n cut low. absurd (let under = cut.1 in omega (arith, under));
  only = λ n is isnt. no_truth (sym isnt ∙ is);
}

-- one part more
pub behind_more : (passing named : ℕ → Bool) (parts : List ℕ) (i : ℕ) (at : Option ℕ) (old flags new : List Bool) → at ≡ cut_at passing named parts i
    → AreMarkedBehind passing named parts i old flags → IsMarkedToo at flags new → AreMarkedBehind passing named parts (i + 1) old new
behind_more passing named parts i at old flags new told a m = record {
  size = m.size ∙ a.size;
  kept = λ n is. m.kept n (a.kept n is);
  marked = λ n cut low. either (cases_eq cut.0 i)
      (λ e. m.marked n (told ∙ (ap (cut_at passing named parts) (sym e) ∙ cut.2)) (let s = a.size in omega arith))
      (λ ne. m.kept n (a.marked n (cut.0, (let under = cut.1 in omega arith), cut.2) low));
  only = λ n is isnt. by_bool (flag_of flags n)
      (λ was. let c = a.only n was isnt in (c.0, (let under = c.1 in omega arith), c.2))
      (λ wasnt. (i, omega arith, sym told ∙ m.only n is wasnt));
}

pub all_behind : (passing named : ℕ → Bool) (parts : List ℕ) (i few : ℕ) (old new : List Bool) → i ≡ few → AreMarkedBehind passing named parts i old new → AreMarkedBehind passing named parts few old new
all_behind passing named parts i few old new same a = subst (λ n. AreMarkedBehind passing named parts n old new) same a

-- the statements of one node more
pub cut_more : (passing named : ℕ → Bool) (nodes : List Node) (n : ℕ) (node : Node) (parts : List ℕ) (old new : List Bool) → slice_get nodes n ≡ Some node → parts ≡ statements_of node
    → AreMarked (IsCutOffIn passing named nodes) n (length nodes) old → AreMarkedBehind passing named parts (length parts) old new
    → AreMarked (IsCutOffIn passing named nodes) (n + 1) (length nodes) new
cut_more passing named nodes n node parts old new at is a m = record {
  size = m.size ∙ a.size;
  sound = λ q marked. by_bool (flag_of old q)
      (λ was. a.sound q was)
      (λ wasnt. (n, record { node = node; there = at; cut = subst (λ l. IsCutOff passing named l (length l) q) is (m.only q marked wasnt) }));
  every = λ q b low under given. either (cases_eq b n)
      (λ e.
      let same : given.node ≡ node = same_some (sym given.there ∙ (ap (slice_get nodes) e ∙ at)) in
      m.marked q (subst (λ l. IsCutOff passing named l (length l) q) (ap statements_of same ∙ sym is) given.cut) (let s = a.size in omega arith))
      (λ ne. m.kept q (a.every q b low (omega arith) given));
}

-- what cuts a statement off
record Cut (passing named : ℕ → Bool) (x y : Option ℕ) (n : ℕ) : Type 0 where
  first : ℕ
  is_first : x ≡ Some first
  is_next : y ≡ Some n
  stays : passing first ≡ false
  unnamed : named n ≡ false

nothing_cut : {C : Type 0} (n : ℕ) → None ≡ Some n → C
nothing_cut n e = absurd cc

cut_so : (passing named : ℕ → Bool) (x y : Option ℕ) (n : ℕ) → cut_part passing named x y ≡ Some n → Cut passing named x y n
cut_so passing named None y n e = nothing_cut n e
cut_so passing named (Some first) None n e = nothing_cut n e
cut_so passing named (Some first) (Some next) n e = by_bool (passing first)
    (λ p. nothing_cut n (sym (ap (λ b. cond b None (cond (named next) None (Some next))) p) ∙ e))
    (λ p. let rest : cond (named next) None (Some next) ≡ Some n = sym (ap (λ b. cond b None (cond (named next) None (Some next))) p) ∙ e in
    by_bool (named next)
    (λ q. nothing_cut n (sym (ap (λ b. cond b None (Some next)) q) ∙ rest))
    (λ q. let same : next ≡ n = same_some (sym (ap (λ b. cond b None (Some next)) q) ∙ rest) in
    record { first = first; is_first = refl; is_next = ap Some same; stays = p; unnamed = ap named (sym same) ∙ q }))

so_cut : (passing named : ℕ → Bool) (first n : ℕ) → passing first ≡ false → named n ≡ false → cut_part passing named (Some first) (Some n) ≡ Some n
so_cut passing named first n p q = ap (λ b. cond b None (cond (named n) None (Some n))) p ∙ ap (λ b. cond b None (Some n)) q

-- a list without statements cuts nothing off
empty_cut : (passing named : ℕ → Bool) (few n : ℕ) → IsCutOff passing named [] few n → ⊥
empty_cut passing named few n c =
    let k = cut_so passing named (slice_get [] c.0) (slice_get [] (suc c.0)) n c.2 in
    let low = slice_get_within [] c.0 k.first k.is_first in omega (arith, low)

list_of : (node : Node) → is_statements node.kind ≡ true → statements_of node ≡ node.parts
list_of node is = ap (λ b. cond b node.parts []) is

no_list_of : (node : Node) → is_statements node.kind ≡ false → statements_of node ≡ []
no_list_of node is = ap (λ b. cond b node.parts []) is

pub unreached_by : (tree : FileTree) (labels : List (Option ℕ)) (stops : ℕ → Bool) (passing named flags : List Bool) (found : List ℕ) → IsTree tree.nodes
    → ArePassing tree labels stops (length tree.nodes) passing → AreMarked (Names tree labels) (length tree.nodes) (2 * length tree.nodes) named
    → AreMarked (IsCutOffIn (flag_of passing) (λ n. flag_of named (before n)) tree.nodes) (length tree.nodes) (length tree.nodes) flags
    → AreFlagged flags (length flags) found → AreUnreached tree labels stops found
unreached_by tree labels stops passing named flags found is p m cut f = record {
  rises = f.rises;
  each = λ n. (
    λ c. let w = cut.sound n (f.each n c).1 in by_bool (is_statements w.1.node.kind)
        (λ lists.
        let plain : IsCutOff (flag_of passing) (λ n. flag_of named (before n)) w.1.node.parts (length w.1.node.parts) n =
        subst (λ l. IsCutOff (flag_of passing) (λ n. flag_of named (before n)) l (length l) n) (list_of w.1.node lists) w.1.cut in
        let k = cut_so (flag_of passing) (λ n. flag_of named (before n)) (slice_get w.1.node.parts plain.0) (slice_get w.1.node.parts (suc plain.0)) n plain.2 in
        let list_low = slice_get_within tree.nodes w.0 w.1.node w.1.there in
        let first_low = is.after w.0 plain.0 k.first (w.1.node, w.1.there, k.is_first) in
        let next_low = is.after w.0 (suc plain.0) n (w.1.node, w.1.there, k.is_next) in
        record {
          list = w.0;
          node = w.1.node;
          place = plain.0;
          before = k.first;
          there = w.1.there;
          statements = lists;
          first = k.is_first;
          next = k.is_next;
          stays = λ passes. no_truth (sym k.stays ∙ (p.each k.first (omega arith)).1 passes);
          unnamed = λ names. no_truth (sym k.unnamed ∙ m.every (before n) names.0 (omega (arith, next_low, list_low)) (slice_get_within tree.nodes names.0 names.1.node names.1.there) names.1);
        })
        (λ none. absurd (empty_cut (flag_of passing) (λ n. flag_of named (before n)) (length (statements_of w.1.node)) n
        (subst (λ l. IsCutOff (flag_of passing) (λ n. flag_of named (before n)) l (length (statements_of w.1.node)) n) (no_list_of w.1.node none) w.1.cut))),
    λ u.
        let list_low = slice_get_within tree.nodes u.list u.node u.there in
        let first_low = is.after u.list u.place u.before (u.node, u.there, u.first) in
        let next_low = is.after u.list (suc u.place) n (u.node, u.there, u.next) in
        let s = cut.size in
        let stays : flag_of passing u.before ≡ false = by_bool (flag_of passing u.before) (λ e. absurd (u.stays ((p.each u.before (omega arith)).0 e))) (λ e. e) in
        let unnamed : flag_of named (before n) ≡ false = by_bool (flag_of named (before n)) (λ e. absurd (u.unnamed (m.sound (before n) e))) (λ e. e) in
        let here : cut_at (flag_of passing) (λ n. flag_of named (before n)) u.node.parts u.place ≡ Some n =
        ap (λ x. cut_part (flag_of passing) (λ n. flag_of named (before n)) x (slice_get u.node.parts (suc u.place))) u.first
        ∙ (ap (cut_part (flag_of passing) (λ n. flag_of named (before n)) (Some u.before)) u.next ∙ so_cut (flag_of passing) (λ n. flag_of named (before n)) u.before n stays unnamed) in
        f.every n (omega arith)
        (cut.every n u.list (omega arith) list_low
        (record {
          node = u.node;
          there = u.there;
          cut = subst (λ l. IsCutOff (flag_of passing) (λ n. flag_of named (before n)) l (length l) n) (sym (list_of u.node u.statements))
              (u.place, slice_get_within u.node.parts u.place u.before u.first, here);
        })),
  );
}

-- Where nothing is cut off.

pub none_cut : (passing named : ℕ → Bool) (parts : List ℕ) (n : ℕ) → IsCutOff passing named parts 0 n → ⊥
none_cut passing named parts n c = absurd (let low = c.1 in omega (arith, low))

unsome : (o : Option ℕ) (n : ℕ) → is_some o ≡ false → o ≡ Some n → ⊥
unsome None n e f = cc
unsome (Some x) n e f = cc

some_of : (o : Option ℕ) → is_some o ≡ true → (n : ℕ) × (o ≡ Some n)
some_of None e = no_truth e
some_of (Some x) e = (x, refl)

-- the part at a place cuts off the one behind it
pub cut_here : (passing named : ℕ → Bool) (parts : List ℕ) (i few : ℕ) → i < few → is_some (cut_at passing named parts i) ≡ true → (n : ℕ) × IsCutOff passing named parts few n
cut_here passing named parts i few low some = let w = some_of (cut_at passing named parts i) some in (w.0, (i, low, w.1))

pub uncut_more : (passing named : ℕ → Bool) (parts : List ℕ) (i : ℕ) → is_some (cut_at passing named parts i) ≡ false → ((n : ℕ) → IsCutOff passing named parts i n → ⊥) → (n : ℕ) → IsCutOff passing named parts (i + 1) n → ⊥
uncut_more passing named parts i none before n c = either (cases_eq c.0 i)
    (λ e. unsome (cut_at passing named parts i) n none (ap (cut_at passing named parts) (sym e) ∙ c.2))
    (λ ne. before n (c.0, (let low = c.1 in omega arith), c.2))

pub uncut_all : (passing named : ℕ → Bool) (parts : List ℕ) (i : ℕ) → i ≡ length parts → ((n : ℕ) → IsCutOff passing named parts i n → ⊥) → (n : ℕ) → IsCutOff passing named parts (length parts) n → ⊥
uncut_all passing named parts i same none = subst (λ k. (n : ℕ) → IsCutOff passing named parts k n → ⊥) same none

pub uncut_node : (passing named : ℕ → Bool) (nodes : List Node) (p : ℕ) (node : Node) (parts : List ℕ) → slice_get nodes p ≡ Some node → parts ≡ statements_of node
    → ((n q : ℕ) → q < p → IsCutOffIn passing named nodes n q → ⊥) → ((n : ℕ) → IsCutOff passing named parts (length parts) n → ⊥) → (n q : ℕ) → q < p + 1 → IsCutOffIn passing named nodes n q → ⊥
uncut_node passing named nodes p node parts at is before here n q low c = either (cases_eq q p)
    (λ e.
    let same : c.node ≡ node = same_some (sym c.there ∙ (ap (slice_get nodes) e ∙ at)) in
    here n (subst (λ l. IsCutOff passing named l (length l) n) (ap statements_of same ∙ sym is) c.cut))
    (λ ne. before n q (omega arith) c)

-- a node cuts off one of its parts
pub cut_in : (passing named : ℕ → Bool) (nodes : List Node) (p : ℕ) (node : Node) (parts : List ℕ) → slice_get nodes p ≡ Some node → parts ≡ statements_of node
    → ((n : ℕ) × IsCutOff passing named parts (length parts) n) → (n : ℕ) × (q : ℕ) × IsCutOffIn passing named nodes n q
cut_in passing named nodes p node parts at is w = (w.0, p, record { node = node; there = at; cut = subst (λ l. IsCutOff passing named l (length l) w.0) is w.1 })

pub uncut_nodes : (passing named : ℕ → Bool) (nodes : List Node) (k : ℕ) → k ≡ length nodes → ((n q : ℕ) → q < k → IsCutOffIn passing named nodes n q → ⊥) → (n p : ℕ) → IsCutOffIn passing named nodes n p → ⊥
uncut_nodes passing named nodes k same none n p c = none n p (let low = slice_get_within nodes p c.node c.there in omega arith) c

-- where each statement before another passes
pub none_unreached : (tree : FileTree) (labels : List (Option ℕ)) (stops : ℕ → Bool) (sure : List Bool) (found : List ℕ) → IsTree tree.nodes → AreSurelyPassing tree labels stops (length tree.nodes) sure → found ≡ []
    → ((n p : ℕ) → IsCutOffIn (flag_of sure) nowhere_named tree.nodes n p → ⊥) → AreUnreached tree labels stops found
none_unreached tree labels stops sure found is p bare none = subst (λ l. AreUnreached tree labels stops l) (sym bare) (record {
  rises = λ j k a b lt at bt. absurd (let low = slice_get_within [] j a at in omega (arith, low));
  each = λ n. (
    λ c. absurd (let low = c.1 in omega (arith, low)),
    λ u.
        let list_low = slice_get_within tree.nodes u.list u.node u.there in
        let first_low = is.after u.list u.place u.before (u.node, u.there, u.first) in
        let stays : flag_of sure u.before ≡ false = by_bool (flag_of sure u.before) (λ e. absurd (u.stays (p.each u.before (omega arith) e))) (λ e. e) in
        let here : cut_at (flag_of sure) nowhere_named u.node.parts u.place ≡ Some n =
        ap (λ x. cut_part (flag_of sure) nowhere_named x (slice_get u.node.parts (suc u.place))) u.first
        ∙ (ap (cut_part (flag_of sure) nowhere_named (Some u.before)) u.next ∙ so_cut (flag_of sure) nowhere_named u.before n stays refl) in
        absurd (none n u.list
        (record {
          node = u.node;
          there = u.there;
          cut = subst (λ l. IsCutOff (flag_of sure) nowhere_named l (length l) n) (sym (list_of u.node u.statements))
              (u.place, slice_get_within u.node.parts u.place u.before u.first, here);
        })),
  );
})

-- Numbers of flags.

pub none_flagged : (flags : List Bool) (numbers : List ℕ) → numbers ≡ [] → AreFlagged flags 0 numbers
none_flagged flags numbers is = rw is (record {
  rises = λ j k a b lt at bt. absurd (let low = slice_get_within [] j a at in omega (arith, low));
  each = λ n c. absurd (let low = c.1 in omega (arith, low));
  every = λ n low set. absurd (omega (arith, low));
})

push_cases : (xs : List ℕ) (x j a : ℕ) → slice_get (xs ++ x ∷ []) j ≡ Some a → (slice_get xs j ≡ Some a) ⊎ ((j ≡ length xs) × (x ≡ a))
push_cases [] x zero a e = inr (refl, same_some e)
push_cases [] x (suc j) a e = nothing_cut a e
push_cases (y ∷ ys) x zero a e = inl e
push_cases (y ∷ ys) x (suc j) a e = either (push_cases ys x j a e) (λ l. inl l) (λ p. inr (ap suc p.0, p.1))

pub flagged_more : (flags : List Bool) (n : ℕ) (b : Bool) (old new : List ℕ) → b ≡ flag_of flags n → new ≡ (if b then (old ++ n ∷ []) else old) → AreFlagged flags n old → AreFlagged flags (n + 1) new
flagged_more flags n b old new told is a = by_flag b told is where
  more : flag_of flags n ≡ true → AreFlagged flags (n + 1) (old ++ n ∷ [])
  more set = record {
    rises = λ j k a1 b1 lt at bt. either (push_cases old n k b1 bt)
        (λ bl. either (push_cases old n j a1 at)
        (λ al. a.rises j k a1 b1 lt al bl)
        (λ ae. let e = ae.0 in let low = slice_get_within old k b1 bl in absurd (omega arith)))
        (λ be. either (push_cases old n j a1 at)
        (λ al. let w = (a.each a1 (there_in old j a1 al)).0 in let e = be.1 in omega arith)
        (λ ae. let e = ae.0 in let f = be.0 in absurd (omega arith)));
    each = λ m c. either (Contains-push_cases old n m c)
        (λ was. let w = a.each m was in (let low = w.0 in omega arith, w.1))
        (λ e. (omega arith, ap (flag_of flags) (sym e) ∙ set));
    every = λ m low f. either (cases_eq m n)
        (λ e. subst (Contains (old ++ n ∷ [])) (sym e) (Contains-push old n))
        (λ ne. Contains-append_left old (n ∷ []) m (a.every m (omega arith) f));
  }

  fewer : flag_of flags n ≡ false → AreFlagged flags (n + 1) old
  fewer unset = record {
    rises = a.rises;
    each = λ m c. let w = a.each m c in (let low = w.0 in omega arith, w.1);
    every = λ m low f. either (cases_eq m n)
        (λ e. no_truth (sym unset ∙ (ap (flag_of flags) (sym e) ∙ f)))
        (λ ne. a.every m (omega arith) f);
  }

  by_flag : (c : Bool) → c ≡ flag_of flags n → new ≡ (if c then (old ++ n ∷ []) else old) → AreFlagged flags (n + 1) new
  by_flag true t e = subst (AreFlagged flags (n + 1)) (sym e) (more (sym t))
  by_flag false t e = subst (AreFlagged flags (n + 1)) (sym e) (fewer (sym t))

pub all_flagged : (flags : List Bool) (n few : ℕ) (numbers : List ℕ) → n ≡ few → AreFlagged flags n numbers → AreFlagged flags few numbers
all_flagged flags n few numbers same a = subst (λ i. AreFlagged flags i numbers) same a
