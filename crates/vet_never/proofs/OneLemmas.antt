-- A package has one set of functions that never return, and one text of them.
use Rattle.std.proofs.Common.{◌≡◌, ◌↔◌, ◌⊎◌, ◌<◌, ℕ, zero, suc, Bool, true, false, if◌then◌else◌, List, [], ◌∷◌, map, length, get_or, Option, Some, None, option_map, slice_get, refl, sym, ap, ◌∙◌, subst, inl, inr, arith}
use Rattle.std.proofs.Math.Path.{fun_ext}
use Rattle.std.proofs.lemmas.List.Elements.{Contains-append_left, Contains-append_right, Contains-append_cases, Contains-push, Contains-push_cases}
use Rattle.std.proofs.lemmas.Option.{slice_get_within}
use Rattle.std.specs.List.{Contains}
use Rattle.std.specs.Prelude.{option_and_then, slice_index_or}
use Rattle.gv_base.specs.Files.{is_before}
use Rattle.gv_base.proofs.FileLemmas.{before-itself, before-trans}
use Rattle.gv_base.proofs.Lists.{same_some}
use Rattle.gv_bytes.specs.Spelling.{items}
use Rattle.fact_codec.specs.declared.units.Never.{Never}
use Rattle.fact_codec.specs.Tables.{AreInOrder}
use Rattle.fact_codec.specs.Texts.{AreFacts, entry}
use Rattle.fact_codec.specs.UnitLaws.{one_byte_read}
use Rattle.fact_codec.proofs.TextLemmas.{spelled_is_read}
use Rattle.gv_bytes.proofs.Options.{some_is}
use Rattle.file_flow.specs.Told.{AreTold}
use Rattle.flow.specs.Around.{label_at}
use Rattle.flow.specs.Flow.{NeverReturns}
use Rattle.go_tree.specs.declared.tree.FileTree.{FileTree}
use Rattle.go_tree.specs.declared.tree.Node.{Node}
use Rattle.go_tree.specs.declared.tree.NodeRef.{NodeRef}
use Rattle.handed_facts.specs.Handed.{Named as Given, Facts, TellsFacts, AreToldBy, AreHanded, tables_of}
use Rattle.least.specs.Staged.{with_given, IsClosedIn, IsLeastIn}
use Rattle.least.specs.Tables.{Member, member, home, Tells}
use Rattle.method_sets.specs.Levels.{Chosen, One, Several, Nothing}
use Rattle.method_sets.proofs.ChooseLaws.{selecting_lasts}
use Rattle.method_sets.specs.Members.{AMethod}
use Rattle.never_returns.specs.Admits.{Callee, Named as Called, stops, Body, Admits}
use Rattle.object_order.specs.Spots.{place}
use Rattle.own_functions.specs.Functions.{Pair, is_own, declared_at, block_at}
use Rattle.member_names.specs.Named.{method_led, IsMethodNamed, owner_of, NamesMethod, IsNamed}
use Rattle.selected_methods.specs.Selected.{to_select, declared_by}
use Rattle.type_model.specs.Declarations.{Declarations}
use Rattle.type_model.specs.GoTypes.{GoType}
use Rattle.typed_marks.specs.declared.item.Item.{Item}
use Rattle.typed_marks.specs.Meanings.{Meaning}
use Rattle.unit_read.specs.Units.{Unit, text_in, tree_at, nodes_at, last_spelled}
use Rattle.vet_words.specs.Called.{function_at}
use Rattle.vet_never.specs.Callees.{callee_of, is_panic, member_of, IsMemberCallee, IsCalleeIf, IsCalleeOf, IsCallee}
use Rattle.vet_never.specs.Listed.{listed_in}
use Rattle.vet_never.specs.Never.{Around, body_with, body_in, body_at, body_of, bodies_in, IsAround, spelling, kinds, fact_name, IsNeverText}
use Rattle.vet_never.proofs.MoveLemmas.{never_moved}

abbrev path_of : Chosen → List ℕ
path_of (One path part) = path
path_of (Several depth) = []
path_of Nothing = []

differ : {X : Type 0} (o : Option X) (x : X) → o ≡ None → o ≡ Some x → ⊥
differ o x p q = cc

-- ---- labels

-- a file's labels denote the same (as in vet_flow's LabelLemmas, which keeps it to itself)
one_label : (bytes : List ℕ) (tree : FileTree) (labels other : List (Option ℕ)) → AreTold bytes tree labels → AreTold bytes tree other → (j : ℕ) → label_at labels j ≡ label_at other j
one_label bytes tree labels other told also j = by (label_at labels j) (label_at other j) (λ l e. also.every j l (told.sound j l e)) (λ l e. told.every j l (also.sound j l e)) where
  by : (o p : Option ℕ) → ((l : ℕ) → o ≡ Some l → p ≡ Some l) → ((l : ℕ) → p ≡ Some l → o ≡ Some l) → o ≡ p
  by None None here there = refl
  by None (Some l) here there = there l refl
  by (Some l) p here there = sym (here l refl)

-- ---- callees

module _ (u : Unit) (marks : Item → Meaning) where
  one_method : (ds : Declarations) (name : List ℕ) (of : GoType) (x y : Pair) → IsMethodNamed u ds name of x → IsMethodNamed u ds name of y → x ≡ y
  one_method ds name of x y (path, method, pointer, says, led) (way, other, by, more, also) =
      let same : path ≡ way = ap path_of (selecting_lasts.once ds (to_select u name of) (One path (AMethod method pointer)) (One way (AMethod other by)) says more) in
      same_some (method_led ds name of path) x y led (ap (λ (l : List ℕ). method_led ds name of l) same ∙ also)

  one_selected : (f : ℕ) (node : Node) (x y : Pair) → NamesMethod u marks f node x → NamesMethod u marks f node y → x ≡ y
  one_selected f node x y (selects, (of, owns, named)) (also, (other, owned, more)) =
      let same : other ≡ of = same_some (owner_of marks f node) other of owned owns in
      one_method (declared_by u marks) (last_spelled u f node) of x y named (subst (λ (g : GoType). IsMethodNamed u (declared_by u marks) (last_spelled u f node) g y) same more)

  one_name : (f n : ℕ) (x y : Pair) → IsNamed u marks f n x → IsNamed u marks f n y → x ≡ y
  one_name f n x y (inl e) (inl g) = same_some (function_at u marks f n) x y e g
  one_name f n x y (inl e) (inr (none, more)) = absurd (differ (function_at u marks f n) x none e)
  one_name f n x y (inr (none, more)) (inl e) = absurd (differ (function_at u marks f n) y none e)
  one_name f n x y (inr (none, (node, at, names))) (inr (nothing, (other, there, more))) =
      let same : other ≡ node = same_some (slice_get (nodes_at u f) n) other node there at in
      one_selected f node x y names (subst (λ (z : Node). NamesMethod u marks f z y) same more)

  one_member : (f n : ℕ) (a b : Callee) → IsMemberCallee u marks f n a → IsMemberCallee u marks f n b → a ≡ b
  one_member f n a b (inl (x, is, e)) (inl (y, also, g)) = e ∙ (ap (λ p. Called (member_of p)) (one_name f n x y is also) ∙ sym g)
  one_member f n a b (inl (x, is, e)) (inr (none, g)) = absurd (none x is)
  one_member f n a b (inr (none, e)) (inl (y, is, g)) = absurd (none y is)
  one_member f n a b (inr (none, e)) (inr (other, g)) = e ∙ sym g

  one_callee : (at : NodeRef) (a b : Callee) → IsCallee u marks at a → IsCallee u marks at b → a ≡ b
  one_callee at a b one other = by (callee_of (nodes_at u at.file) at.node) one other where
    by_panic : (n : ℕ) (p : Bool) → IsCalleeIf u marks at.file n p a → IsCalleeIf u marks at.file n p b → a ≡ b
    by_panic n true one other = one ∙ sym other
    by_panic n false one other = one_member at.file n a b one other

    by : (o : Option ℕ) → IsCalleeOf u marks at.file o a → IsCalleeOf u marks at.file o b → a ≡ b
    by None one other = one ∙ sym other
    by (Some n) one other = by_panic n (is_panic u at.file n) one other

  -- ---- admissions

  module _ (a b : Around) (one : IsAround u marks a) (two : IsAround u marks b) where
    -- the two bodies of a member, if it has them, never return for the same members
    record Alike (N : Member → Bool) (x y : Body) : Type 0 where
      pub there : NeverReturns x.tree x.labels (λ n. stops N (x.callee n)) x.block → NeverReturns y.tree y.labels (λ n. stops N (y.callee n)) y.block

    alike : (N : Member → Bool) (f : ℕ) (tree : FileTree) (block : ℕ) → tree_at u f ≡ Some tree → Alike N (body_with a f tree block) (body_with b f tree block)
    alike N f tree block there = record {
      there = never_moved tree (a.labels f) (b.labels f) (λ n. stops N (a.callee (place f n))) (λ n. stops N (b.callee (place f n))) block (one_label (text_in u f) tree (a.labels f) (b.labels f) (one.labels f tree there) (two.labels f tree there))
          (λ n. ap (stops N) (one_callee (place f n) (a.callee (place f n)) (b.callee (place f n)) (one.calls (place f n)) (two.calls (place f n))));
    }

    -- of two optional bodies that are told alike
    abbrev OtherBody : (Member → Bool) → Option Body → Option Body → Type 0
    OtherBody N o p = (x : Body) → o ≡ Some x → (y : Body) × (p ≡ Some y) × Alike N x y

    other_body : (N : Member → Bool) (m : Member) → OtherBody N (bodies_in u a m) (bodies_in u b m)
    other_body N m = by_own (is_own 0 u m) where
      by_block : (f : ℕ) (tree : FileTree) (o : Option ℕ) → tree_at u f ≡ Some tree → OtherBody N (option_map (body_with a f tree) o) (option_map (body_with b f tree) o)
      by_block f tree None there = λ x e. absurd (cc)
      by_block f tree (Some block) there = λ x e. (body_with b f tree block, refl, subst (λ (z : Body). Alike N z (body_with b f tree block)) (same_some (Some (body_with a f tree block)) (body_with a f tree block) x refl e) (alike N f tree block there))

      by_tree : (at : NodeRef) (o : Option FileTree) → tree_at u at.file ≡ o → OtherBody N (option_and_then (body_in a at) o) (option_and_then (body_in b at) o)
      by_tree at None there = λ x e. absurd (cc)
      by_tree at (Some tree) there = by_block at.file tree (block_at tree.nodes at.node) there

      by_at : (o : Option NodeRef) → OtherBody N (option_and_then (body_at u a) o) (option_and_then (body_at u b) o)
      by_at None = λ x e. absurd (cc)
      by_at (Some at) = by_tree at (tree_at u at.file) refl

      by_own : (own : Bool) → OtherBody N (if own then body_of u a m else None) (if own then body_of u b m else None)
      by_own true = by_at (declared_at u m.name)
      by_own false = λ x e. absurd (cc)

    pub admits_moved : (N : Member → Bool) (m : Member) → Admits (listed_in u) (bodies_in u a) N m → Admits (listed_in u) (bodies_in u b) N m
    admits_moved N m (inl listed) = inl listed
    admits_moved N m (inr (x, there, never)) = let (y, other, alike_xy) = other_body N m x there in inr (y, other, alike_xy.there never)

  -- what is least over the one lies within what is least over the other
  within_other : (a b : Around) → IsAround u marks a → IsAround u marks b → (given also : Member → Bool) → ((m : Member) → given m ≡ also m) → (M N : Member → Bool) → IsLeastIn home (Admits (listed_in u) (bodies_in u a)) u.path given M
      → IsLeastIn home (Admits (listed_in u) (bodies_in u b)) u.path also N → (m : Member) → M m ≡ true → N m ≡ true
  within_other a b one two given also same M N least other m e = least.least N closed m e where
    with_same : (m : Member) → with_given given N m ≡ with_given also N m
    with_same m = ap (λ g. if g then true else N m) (same m)

    closed : IsClosedIn home (Admits (listed_in u) (bodies_in u a)) u.path given N
    closed f at admits = other.closed f at (subst (λ (T : Member → Bool). Admits (listed_in u) (bodies_in u b) T f) (fun_ext with_same) (admits_moved a b one two (with_given given N) f admits))

-- ---- texts

-- a text tells one table
one_read : (text : List ℕ) (a b : Facts Never) → AreFacts spelling a text → AreFacts spelling b text → a ≡ b
one_read text a b p q = some_is a b (sym (spelled_is_read (one_byte_read 110 (record {}) (λ fact. refl)) text a p) ∙ spelled_is_read (one_byte_read 110 (record {}) (λ fact. refl)) text b q)

one_told : (text : List ℕ) (a b : Facts Never) → TellsFacts spelling text a → TellsFacts spelling text b → a ≡ b
one_told text a b (inl p) (inl q) = one_read text a b p q
one_told text a b (inl p) (inr (none, e)) = absurd (none a p)
one_told text a b (inr (none, e)) (inl q) = absurd (none b q)
one_told text a b (inr (none, e)) (inr (nothing, g)) = e ∙ sym g

same_places : (xs ys : List (Facts Never)) → length xs ≡ length ys → ((k : ℕ) (a b : Facts Never) → slice_get xs k ≡ Some a → slice_get ys k ≡ Some b → a ≡ b) → xs ≡ ys
same_places [] [] size each = refl
same_places [] (y ∷ ys) size each = absurd (omega (arith, size))
same_places (x ∷ xs) [] size each = absurd (omega (arith, size))
same_places (x ∷ xs) (y ∷ ys) size each = ap (λ z. z ∷ xs) (each 0 x y refl refl) ∙ ap (λ l. y ∷ l) (same_places xs ys (omega (arith, size)) (λ k a b e g. each (suc k) a b e g))

given_at : (given : List Given) (k : ℕ) (n : ℕ) → n ≡ length given → k < n → (x : Given) × (slice_get given k ≡ Some x)
given_at [] k n e low = absurd (omega (arith, e, low))
given_at (x ∷ given) zero n e low = (x, refl)
given_at (x ∷ given) (suc k) n e low = given_at given k (length given) refl (omega (arith, e, low))

one_tables : (given : List Given) (a b : List (Facts Never)) → AreToldBy spelling given a → AreToldBy spelling given b → a ≡ b
one_tables given a b one two = same_places a b (one.size ∙ sym two.size) (λ k x y e g. (
    let low : k < length a = slice_get_within a k x e in
    let (at, there) = given_at given k (length a) one.size low in
    one_told at.1 x y (one.each k x e at there) (two.each k y g at there)
    ))

same_test : (P : Type 0) (b c : Bool) → (b ≡ true) ↔ P → (c ≡ true) ↔ P → b ≡ c
same_test P true true one other = refl
same_test P true false one other = sym (other.1 (one.0 refl))
same_test P false true one other = one.1 (other.0 refl)
same_test P false false one other = refl

one_handed : (given : List Given) (M N : Member → Bool) → AreHanded spelling kinds given M → AreHanded spelling kinds given N → (m : Member) → M m ≡ N m
one_handed given M N one two m =
    same_test (Tells (tables_of kinds given one.tables) m) (M m) (N m) (one.are m)
    (subst (λ (l : List (Facts Never)). (N m ≡ true) ↔ Tells (tables_of kinds given l) m) (sym (one_tables given one.tables two.tables one.told two.told)) (two.are m))

-- ---- tables in order

none_in : {X : Type 0} (b : X) → Contains [] b → ⊥
none_in b (k, low, e) = omega arith

single_is : {X : Type 0} (a b : X) → Contains (a ∷ []) b → a ≡ b
single_is {X} a b there = elim (Contains-push_cases {X = X} [] a b there) [ inl none ↦ absurd (none_in b none) | inr same ↦ same ]

-- the first, or one of the others
split : (x : List ℕ) (xs : List (List ℕ)) (n : List ℕ) → Contains (x ∷ xs) n → (x ≡ n) ⊎ Contains xs n
split x xs n there = elim (Contains-append_cases (x ∷ []) xs n there) [ inl here ↦ inl (single_is x n here) | inr later ↦ inr later ]

first_in : (x : List ℕ) (xs : List (List ℕ)) → Contains (x ∷ xs) x
first_in x xs = Contains-append_left (x ∷ []) xs x (Contains-push [] x)

later_in : (x : List ℕ) (xs : List (List ℕ)) (n : List ℕ) → Contains xs n → Contains (x ∷ xs) n
later_in x xs n there = Contains-append_right (x ∷ []) xs n there

-- the first name stands before the others
behind : (x : List ℕ × Never) (a : Facts Never) → AreInOrder (x ∷ a) → (n : List ℕ) → Contains (map fact_name a) n → is_before x.0 n ≡ true
behind x a order n (k, low, e) =
    let within : k < length a = (let m = mapped_length a in omega (arith, low, m)) in
    subst (λ (z : List ℕ). is_before x.0 z ≡ true) (read a k n within ∙ e) (order 0 (suc k) x (omega arith) (omega (arith, within))) where
      mapped_length : (xs : Facts Never) → length (map fact_name xs) ≡ length xs
      mapped_length [] = refl
      mapped_length (y ∷ xs) = ap (λ m. suc m) (mapped_length xs)

      read : (xs : Facts Never) (k : ℕ) (n : List ℕ) → k < length xs → (slice_index_or xs k x).0 ≡ get_or (map fact_name xs) k n
      read [] k n low = absurd (omega arith)
      read (y ∷ xs) zero n low = refl
      read (y ∷ xs) (suc k) n low = read xs k n (omega arith)

not_before : (a b : List ℕ) → is_before a b ≡ true → a ≡ b → ⊥
not_before a b e same = clash (is_before a b) (before-itself a b same) e where
  clash : (c : Bool) → c ≡ false → c ≡ true → ⊥
  clash c p q = cc

-- two tables in order with the same names are one: a fact is the one of its kind
same_tables : (a b : Facts Never) → AreInOrder a → AreInOrder b → ((name : List ℕ) → Contains (map fact_name a) name ↔ Contains (map fact_name b) name) → a ≡ b
same_tables [] [] one two same = refl
same_tables [] (y ∷ b) one two same = absurd (none_in y.0 ((same y.0).1 (first_in y.0 (map fact_name b))))
same_tables (x ∷ a) [] one two same = absurd (none_in x.0 ((same x.0).0 (first_in x.0 (map fact_name a))))
same_tables (x ∷ a) (y ∷ b) one two same = ap (λ z. z ∷ a) heads ∙ ap (λ l. y ∷ l) (same_tables a b (rest x a one) (rest y b two) (λ n. (to n, back n))) where
  rest : (z : List ℕ × Never) (c : Facts Never) → AreInOrder (z ∷ c) → AreInOrder c
  rest z c order i j d less low = order (suc i) (suc j) d (omega (arith, less)) (omega (arith, low))

  first : x.0 ≡ y.0
  first = elim (split y.0 (map fact_name b) x.0 ((same x.0).0 (first_in x.0 (map fact_name a)))) [
    | inl e ↦ sym e
    | inr late ↦ elim (split x.0 (map fact_name a) y.0 ((same y.0).1 (first_in y.0 (map fact_name b)))) [
      | inl e ↦ e
      | inr later ↦ absurd (not_before x.0 x.0 (before-trans x.0 y.0 x.0 (behind x a one y.0 later) (behind y b two x.0 late)) refl)
    ]
  ]

  heads : x ≡ y
  heads = ap (λ (n : List ℕ). (n, x.1)) first

  to : (n : List ℕ) → Contains (map fact_name a) n → Contains (map fact_name b) n
  to n there = elim (split y.0 (map fact_name b) n ((same n).0 (later_in x.0 (map fact_name a) n there))) [ inl e ↦ absurd (not_before x.0 n (behind x a one n there) (first ∙ e)) | inr later ↦ later ]

  back : (n : List ℕ) → Contains (map fact_name b) n → Contains (map fact_name a) n
  back n there = elim (split x.0 (map fact_name a) n ((same n).1 (later_in y.0 (map fact_name b) n there))) [ inl e ↦ absurd (not_before y.0 n (behind y b two n there) (sym first ∙ e)) | inr later ↦ later ]

pub one_text : (u : Unit) (marks : Item → Meaning) (given : List Given) (x y : List ℕ) → IsNeverText u marks given x → IsNeverText u marks given y → x ≡ y
one_text u marks given x y one other =
    one.spelled.whole ∙ (ap (λ (t : Facts Never). items (entry spelling) t) (same_tables one.table other.table one.spelled.order other.spelled.order names) ∙ sym other.spelled.whole) where
      handed : (m : Member) → one.are.handed m ≡ other.are.handed m
      handed m = one_handed given one.are.handed other.are.handed one.are.are_handed other.are.are_handed m

      to : (m : Member) → one.set m ≡ true → other.set m ≡ true
      to m e = within_other u marks one.are.around other.are.around one.are.is_around other.are.is_around one.are.handed other.are.handed handed one.set other.set one.are.least other.are.least m e

      back : (m : Member) → other.set m ≡ true → one.set m ≡ true
      back m e = within_other u marks other.are.around one.are.around other.are.is_around one.are.is_around other.are.handed one.are.handed (λ m. sym (handed m)) other.set one.set other.are.least one.are.least m e

      names : (name : List ℕ) → Contains (map fact_name one.table) name ↔ Contains (map fact_name other.table) name
      names name = (
        λ there. (other.each name).1 (to (member u.path name 0) ((one.each name).0 there)),
        λ there. (one.each name).1 (back (member u.path name 0) ((other.each name).0 there)),
      )
