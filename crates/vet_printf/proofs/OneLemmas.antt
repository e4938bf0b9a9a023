-- A package has one set of functions that print, one text of them, and one list of findings.
use Rattle.std.proofs.Common.{◌≡◌, ◌↔◌, ◌⊎◌, ◌<◌, ◌==◌, ℕ, zero, suc, Bool, true, false, if◌then◌else◌, List, [], ◌∷◌, length, Option, Some, None, slice_get, refl, sym, ap, ◌∙◌, subst, inl, inr, arith}
use Rattle.std.proofs.Math.Path.{fun_ext}
use Rattle.std.proofs.lemmas.Option.{slice_get_within}
use Rattle.std.specs.List.{Contains}
use Rattle.std.specs.Prelude.{slice_index_or}
use Rattle.std.specs.Str.{bytes_eq}
use Rattle.std.proofs.lemmas.List.Elements.{Contains-append_left, Contains-append_right, Contains-append_cases, Contains-push, Contains-push_cases}
use Rattle.gv_base.specs.Files.{is_before}
use Rattle.gv_base.proofs.FileLemmas.{before-itself, before-trans}
use Rattle.fact_codec.specs.declared.wraps.WrapKind.{WrapKind}
use Rattle.fact_codec.specs.declared.wraps.WrapKind.TheVariants as wrap
use Rattle.fact_codec.specs.declared.wraps.Wraps.{Wraps}
use Rattle.fact_codec.specs.declared.wraps.Wraps.TheVariants as wraps
use Rattle.fact_codec.specs.Kinds.{has_kind, wraps_numbered, wraps_spelling}
use Rattle.fact_codec.specs.Tables.{AreInOrder, fact_of}
use Rattle.fact_codec.specs.Texts.{AreFacts}
use Rattle.fact_codec.specs.WrapLaws.{wraps_read}
use Rattle.fact_codec.proofs.TextLemmas.{spelled_is_read}
use Rattle.handed_facts.specs.Handed.{Named as Given, Facts, TellsFacts, AreToldBy, AreHanded, tables_of}
use Rattle.least.specs.Staged.{with_given, IsClosedIn, IsLeastIn}
use Rattle.least.specs.Tables.{Member, member, home, Tells}
use Rattle.typed_marks.specs.declared.item.Item.{Item}
use Rattle.typed_marks.specs.Meanings.{Meaning}
use Rattle.unit_read.specs.Units.{Unit}
use Rattle.go_tree.specs.declared.tree.Node.{Node}
use Rattle.go_tree.specs.declared.tree.NodeRef.{NodeRef}
use Rattle.object_order.specs.Spots.{place}
use Rattle.unit_read.specs.Units.{nodes_at}
use Rattle.analysis_core.specs.declared.diagnostic.Diagnostic.{Diagnostic}
use Rattle.analysis_core.proofs.OrderLemmas.{order_total}
use Rattle.analysis_core.proofs.OneLemmas.{one_in_order}
use Rattle.findings.specs.Reported.{IsReported}
use Rattle.vet_words.specs.Forms.{bare}
use Rattle.vet_printf.specs.declared.ways.Way.{Way}
use Rattle.vet_printf.specs.declared.ways.Way.TheVariants as way
use Rattle.vet_printf.specs.Calls.{param_count, way_of, IsWayFound, IsPrintFault, ArePrintFaults}
use Rattle.vet_printf.specs.Verbs.{has_flag}
use Rattle.vet_printf.specs.Kinds.{kinds_number}
use Rattle.vet_printf.specs.Wraps.{kinds_of, number_of, AdmitsAs, ArePrinting, HasFact, IsWrapsText, NamesPrinting, AreKinds, ArePrintfFindings}
use Rattle.vet_printf.proofs.HandedLemmas.{fact_there, there_fact}
use Rattle.vet_printf.proofs.ReaderLemmas.{same_some}

-- ---- texts

-- a text tells one table
one_read : (text : List ℕ) (a b : Facts Wraps) → AreFacts wraps_spelling a text → AreFacts wraps_spelling b text → a ≡ b
one_read text a b p q = same_some (sym (spelled_is_read wraps_read text a p) ∙ spelled_is_read wraps_read text b q)

one_told : (text : List ℕ) (a b : Facts Wraps) → TellsFacts wraps_spelling text a → TellsFacts wraps_spelling text b → a ≡ b
one_told text a b (inl p) (inl q) = one_read text a b p q
one_told text a b (inl p) (inr (none, e)) = absurd (none a p)
one_told text a b (inr (none, e)) (inl q) = absurd (none b q)
one_told text a b (inr (none, e)) (inr (nothing, g)) = e ∙ sym g

same_places : (xs ys : List (Facts Wraps)) → length xs ≡ length ys → ((k : ℕ) (a b : Facts Wraps) → slice_get xs k ≡ Some a → slice_get ys k ≡ Some b → a ≡ b) → xs ≡ ys
same_places [] [] size each = refl
same_places [] (y ∷ ys) size each = absurd (omega (arith, size))
same_places (x ∷ xs) [] size each = absurd (omega (arith, size))
same_places (x ∷ xs) (y ∷ ys) size each = ap (λ z. z ∷ xs) (each 0 x y refl refl) ∙ ap (λ l. y ∷ l) (same_places xs ys (omega (arith, size)) (λ k a b e g. each (suc k) a b e g))

given_at : (given : List Given) (k : ℕ) (n : ℕ) → n ≡ length given → k < n → (x : Given) × (slice_get given k ≡ Some x)
given_at [] k n e low = absurd (omega (arith, e, low))
given_at (x ∷ given) zero n e low = (x, refl)
given_at (x ∷ given) (suc k) n e low = given_at given k (length given) refl (omega (arith, e, low))

one_tables : (given : List Given) (a b : List (Facts Wraps)) → AreToldBy wraps_spelling given a → AreToldBy wraps_spelling given b → a ≡ b
one_tables given a b one two = same_places a b (one.size ∙ sym two.size) (λ k x y e g. (
    let low : k < length a = slice_get_within a k x e in
    let (at, there) = given_at given k (length a) one.size low in
    one_told at.1 x y (one.each k x e at there) (two.each k y g at there)
    ))

same_test : (P : Type 0) (b c : Bool) → (b ≡ true) ↔ P → (c ≡ true) ↔ P → b ≡ c
same_test P true true one other = refl
same_test P true false one other = sym (other.1 (one.0 refl))
same_test P false true one other = one.1 (other.0 refl)
same_test P false false one other = refl

one_handed : (given : List Given) (M N : Member → Bool) → AreHanded wraps_spelling kinds_of given M → AreHanded wraps_spelling kinds_of given N → (m : Member) → M m ≡ N m
one_handed given M N one two m =
    same_test (Tells (tables_of kinds_of given one.tables) m) (M m) (N m) (one.are m)
    (subst (λ (l : List (Facts Wraps)). (N m ≡ true) ↔ Tells (tables_of kinds_of given l) m) (sym (one_tables given one.tables two.tables one.told two.told)) (two.are m))

-- ---- sets

module _ (u : Unit) (marks : Item → Meaning) where
  admits_moved : (kind : WrapKind) (F G : Member → List Member) → ((m g : Member) → Contains (F m) g → Contains (G m) g) → (N : Member → Bool) (m : Member) → AdmitsAs kind u marks F N m → AdmitsAs kind u marks G N m
  admits_moved kind F G moves N m (inl is) = inl is
  admits_moved kind F G moves N m (inr (g, there, is)) = inr (g, by (m.kind == number_of kind) there, is) where
    by : (b : Bool) → Contains (if b then F m else []) g → Contains (if b then G m else []) g
    by true has = moves m g has
    by false has = has

  -- what is least over the one lies within what is least over the other
  within_other : (kind : WrapKind) (F G : Member → List Member) → ((m g : Member) → Contains (F m) g → Contains (G m) g) → (given also : Member → Bool) → ((m : Member) → given m ≡ also m) → (M N : Member → Bool)
      → IsLeastIn home (AdmitsAs kind u marks F) u.path given M → IsLeastIn home (AdmitsAs kind u marks G) u.path also N → (m : Member) → M m ≡ true → N m ≡ true
  within_other kind F G moves given also same M N least other m e = least.least N closed m e where
    with_same : (m : Member) → with_given given N m ≡ with_given also N m
    with_same m = ap (λ g. if g then true else N m) (same m)

    closed : IsClosedIn home (AdmitsAs kind u marks F) u.path given N
    closed f at admits = other.closed f at (subst (λ (T : Member → Bool). AdmitsAs kind u marks G T f) (fun_ext with_same) (admits_moved kind F G moves (with_given given N) f admits))

  module _ (given : List Given) (one_handed_in other_handed_in : Member → Bool) (sets others : WrapKind → Member → Bool) (one : ArePrinting u marks given one_handed_in sets) (other : ArePrinting u marks given other_handed_in others) where
    pub handed_same : (m : Member) → one_handed_in m ≡ other_handed_in m
    handed_same m = one_handed given one_handed_in other_handed_in one.are_handed other.are_handed m

    to : (kind : WrapKind) (m : Member) → sets kind m ≡ true → others kind m ≡ true
    to kind m e = within_other kind one.forwards other.forwards (λ n g has. (other.are_forwards.each n g).1 ((one.are_forwards.each n g).0 has)) one_handed_in other_handed_in handed_same (sets kind) (others kind) (one.least kind) (other.least kind) m e

    back : (kind : WrapKind) (m : Member) → others kind m ≡ true → sets kind m ≡ true
    back kind m e = within_other kind other.forwards one.forwards (λ n g has. (one.are_forwards.each n g).1 ((other.are_forwards.each n g).0 has)) other_handed_in one_handed_in (λ n. sym (handed_same n)) (others kind) (sets kind) (other.least kind) (one.least kind) m e

    pub sets_same : (kind : WrapKind) (m : Member) → sets kind m ≡ others kind m
    sets_same kind m = same_test (sets kind m ≡ true) (sets kind m) (others kind m) (λ e. e, λ e. e) (back kind m, to kind m)

-- ---- tables in order

-- a fact is told by its kinds
told_by_kinds : (f : Wraps) → Some f ≡ wraps_numbered (kinds_number (has_kind f wrap.Print) (has_kind f wrap.Printf) (has_kind f wrap.Errorf))
told_by_kinds wraps.Print = refl
told_by_kinds wraps.Printf = refl
told_by_kinds wraps.PrintPrintf = refl
told_by_kinds wraps.Errorf = refl
told_by_kinds wraps.PrintErrorf = refl
told_by_kinds wraps.PrintfErrorf = refl
told_by_kinds wraps.Each = refl

same_fact : (f g : Wraps) → ((kind : WrapKind) → has_kind f kind ≡ has_kind g kind) → f ≡ g
same_fact f g same =
    same_some (told_by_kinds f
    ∙ (ap (λ b. wraps_numbered (kinds_number b (has_kind f wrap.Printf) (has_kind f wrap.Errorf))) (same wrap.Print)
    ∙ (ap (λ b. wraps_numbered (kinds_number (has_kind g wrap.Print) b (has_kind f wrap.Errorf))) (same wrap.Printf)
    ∙ (ap (λ b. wraps_numbered (kinds_number (has_kind g wrap.Print) (has_kind g wrap.Printf) b)) (same wrap.Errorf) ∙ sym (told_by_kinds g)))))

-- each fact has a kind
some_kind : (f : Wraps) → (kind : WrapKind) × (has_kind f kind ≡ true)
some_kind wraps.Print = (wrap.Print, refl)
some_kind wraps.Printf = (wrap.Printf, refl)
some_kind wraps.PrintPrintf = (wrap.Print, refl)
some_kind wraps.Errorf = (wrap.Errorf, refl)
some_kind wraps.PrintErrorf = (wrap.Print, refl)
some_kind wraps.PrintfErrorf = (wrap.Printf, refl)
some_kind wraps.Each = (wrap.Print, refl)

none_in : {X : Type 0} (b : X) → Contains [] b → ⊥
none_in b (k, low, e) = omega arith

single_is : {X : Type 0} (a b : X) → Contains (a ∷ []) b → a ≡ b
single_is {X} a b there = elim (Contains-push_cases {X = X} [] a b there) [ inl none ↦ absurd (none_in b none) | inr same ↦ same ]

split : {X : Type 0} (x : X) (xs : List X) (n : X) → Contains (x ∷ xs) n → (x ≡ n) ⊎ Contains xs n
split x xs n there = elim (Contains-append_cases (x ∷ []) xs n there) [ inl here ↦ inl (single_is x n here) | inr later ↦ inr later ]

first_in : {X : Type 0} (x : X) (xs : List X) → Contains (x ∷ xs) x
first_in x xs = Contains-append_left (x ∷ []) xs x (Contains-push [] x)

later_in : {X : Type 0} (x : X) (xs : List X) (n : X) → Contains xs n → Contains (x ∷ xs) n
later_in x xs n there = Contains-append_right (x ∷ []) xs n there

rest : (z : List ℕ × Wraps) (c : Facts Wraps) → AreInOrder (z ∷ c) → AreInOrder c
rest z c order i j d less low = order (suc i) (suc j) d (omega (arith, less)) (omega (arith, low))

-- the first name stands before the others
behind : (x : List ℕ × Wraps) (a : Facts Wraps) → AreInOrder (x ∷ a) → (e : List ℕ × Wraps) → Contains a e → is_before x.0 e.0 ≡ true
behind x a order e (k, low, is) = subst (λ (z : List ℕ × Wraps). is_before x.0 z.0 ≡ true) (read a k low ∙ is) (order 0 (suc k) x (omega arith) (omega (arith, low))) where
  read : (xs : Facts Wraps) (k : ℕ) → k < length xs → slice_index_or xs k x ≡ slice_index_or xs k e
  read [] k low = absurd (omega (arith, low))
  read (y ∷ xs) zero low = refl
  read (y ∷ xs) (suc k) low = read xs k (omega (arith, low))

not_before : (a b : List ℕ) → is_before a b ≡ true → a ≡ b → ⊥
not_before a b e same = clash (is_before a b) (before-itself a b same) e where
  clash : (c : Bool) → c ≡ false → c ≡ true → ⊥
  clash c p q = cc

-- two tables in order with the same entries are one
same_tables : (a b : Facts Wraps) → AreInOrder a → AreInOrder b → ((e : List ℕ × Wraps) → Contains a e ↔ Contains b e) → a ≡ b
same_tables [] [] one two same = refl
same_tables [] (y ∷ b) one two same = absurd (none_in y ((same y).1 (first_in y b)))
same_tables (x ∷ a) [] one two same = absurd (none_in x ((same x).0 (first_in x a)))
same_tables (x ∷ a) (y ∷ b) one two same = ap (λ z. z ∷ a) heads ∙ ap (λ l. y ∷ l) (same_tables a b (rest x a one) (rest y b two) (λ e. (to e, back e))) where
  heads : x ≡ y
  heads = elim (split y b x ((same x).0 (first_in x a))) [
    | inl e ↦ sym e
    | inr late ↦ elim (split x a y ((same y).1 (first_in y b))) [ inl e ↦ e | inr later ↦ absurd (not_before x.0 x.0 (before-trans x.0 y.0 x.0 (behind x a one y later) (behind y b two x late)) refl) ]
  ]

  to : (e : List ℕ × Wraps) → Contains a e → Contains b e
  to e there = elim (split y b e ((same e).0 (later_in x a e there))) [ inl is ↦ absurd (not_before x.0 e.0 (behind x a one e there) (ap (λ (z : List ℕ × Wraps). z.0) (heads ∙ is))) | inr later ↦ later ]

  back : (e : List ℕ × Wraps) → Contains b e → Contains a e
  back e there = elim (split x a e ((same e).1 (later_in y b e there))) [ inl is ↦ absurd (not_before y.0 e.0 (behind y b two e there) (ap (λ (z : List ℕ × Wraps). z.0) (sym heads ∙ is))) | inr later ↦ later ]

-- an entry of a table is one of another that has the same kinds of each name
moved_entry : (a b : Facts Wraps) → AreInOrder a → AreInOrder b → ((name : List ℕ) (kind : WrapKind) → HasFact a name kind ↔ HasFact b name kind) → (e : List ℕ × Wraps) → Contains a e → Contains b e
moved_entry a b one two same e there =
    let k = some_kind e.1 in
    let h = (same e.0 k.0).0 (e.1, there, k.1) in
    subst (λ (f : Wraps). Contains b (e.0, f)) (sym (same_fact e.1 h.0 (alike h.0 h.1))) h.1 where
      alike : (f : Wraps) → Contains b (e.0, f) → (kind : WrapKind) → has_kind e.1 kind ≡ has_kind f kind
      alike f has kind = same_test (HasFact a e.0 kind) (has_kind e.1 kind) (has_kind f kind) (
        λ h. (e.1, there, h),
        λ (g, here, h). subst (λ (w : Wraps). has_kind w kind ≡ true) (same_some (sym (there_fact a e.0 g one here) ∙ there_fact a e.0 e.1 one there)) h,
      ) (
        λ h. (same e.0 kind).1 (f, has, h),
        λ p. (let (g, here, h) = (same e.0 kind).0 p in subst (λ (w : Wraps). has_kind w kind ≡ true) (same_some (sym (there_fact b e.0 g two here) ∙ there_fact b e.0 f two has)) h),
      )

-- ---- both

pub one_text : (u : Unit) (marks : Item → Meaning) (given : List Given) (x y : List ℕ) → IsWrapsText u marks given x → IsWrapsText u marks given y → x ≡ y
one_text u marks given x y one other = one.spelled.whole ∙ sym spelled.whole where
  same : (kind : WrapKind) (m : Member) → one.sets kind m ≡ other.sets kind m
  same kind m = sets_same u marks given one.handed other.handed one.sets other.sets one.are other.are kind m

  kinds : (name : List ℕ) (kind : WrapKind) → HasFact one.table name kind ↔ HasFact other.table name kind
  kinds name kind = (
    λ h. (other.each name kind).1 (sym (same kind (member u.path name (number_of kind))) ∙ (one.each name kind).0 h),
    λ h. (one.each name kind).1 (same kind (member u.path name (number_of kind)) ∙ (other.each name kind).0 h),
  )

  one_table : other.table ≡ one.table
  one_table = sym (same_tables one.table other.table one.spelled.order other.spelled.order (λ e. (
    moved_entry one.table other.table one.spelled.order other.spelled.order kinds e,
    moved_entry other.table one.table other.spelled.order one.spelled.order (λ name kind. ((kinds name kind).1, (kinds name kind).0)) e,
  )))

  spelled : AreFacts wraps_spelling one.table y
  spelled = subst (λ (t : Facts Wraps). AreFacts wraps_spelling t y) one_table other.spelled

-- ---- findings

-- a call is looked at in a way that these flags tell
way_same : (m n : ℕ) → ((kind : WrapKind) → has_flag m (number_of kind) ≡ has_flag n (number_of kind)) → way_of m ≡ way_of n
way_same m n same =
    ap (λ b. if b then way.Format true else (if has_flag m 2 then way.Format false else (if has_flag m 1 then way.Plain else way.Silent))) (same wrap.Errorf)
    ∙ (ap (λ b. if has_flag n 4 then way.Format true else (if b then way.Format false else (if has_flag m 1 then way.Plain else way.Silent))) (same wrap.Printf)
    ∙ ap (λ b. if has_flag n 4 then way.Format true else (if has_flag n 2 then way.Format false else (if b then way.Plain else way.Silent))) (same wrap.Print))

module _ (u : Unit) (marks : Item → Meaning) where
  fault_moved : (k l : NodeRef → ℕ) → ((at : NodeRef) → way_of (k at) ≡ way_of (l at)) → (at : NodeRef) (node : Node) (d : Diagnostic) → IsPrintFault k u marks at node d → IsPrintFault l u marks at node d
  fault_moved k l same at node d (plain, (callee, calls, (x, known, found))) =
      (plain, (callee, calls, (x, known, subst (λ (w : Way). IsWayFound u marks at.file node callee (param_count x.of) w d) (same (place at.file (bare (nodes_at u at.file) callee))) found)))

  reported_moved : (k l : NodeRef → ℕ) → ((at : NodeRef) → way_of (k at) ≡ way_of (l at)) → (d : Diagnostic) → IsReported (IsPrintFault k) u marks d → IsReported (IsPrintFault l) u marks d
  reported_moved k l same d r = record { at = r.at; node = r.node; stands = r.stands; «is» = fault_moved k l same r.at r.node d r.«is» }

  faults_over : (k l : NodeRef → ℕ) (found : List Diagnostic) → ((at : NodeRef) → way_of (k at) ≡ way_of (l at)) → ArePrintFaults k u marks found → ArePrintFaults l u marks found
  faults_over k l found same are = record {
    each = λ d there. reported_moved k l same d (are.each d there);
    every = λ d r. are.every d (reported_moved l k (λ at. sym (same at)) d r);
    rises = are.rises;
  }

  names_moved : (given also : Member → Bool) (sets others : WrapKind → Member → Bool) → ((m : Member) → given m ≡ also m) → ((kind : WrapKind) (m : Member) → sets kind m ≡ others kind m) → (at : NodeRef) (kind : WrapKind)
      → NamesPrinting u marks given sets at kind → NamesPrinting u marks also others at kind
  names_moved given also sets others same alike at kind (m, named, inl h) = (m, named, inl (sym (same (member m.0 m.1 (number_of kind))) ∙ h))
  names_moved given also sets others same alike at kind (m, named, inr h) = (m, named, inr (sym (alike kind (member m.0 m.1 (number_of kind))) ∙ h))

  pub one_found : (given : List Given) (xs ys : List Diagnostic) → ArePrintfFindings u marks given xs → ArePrintfFindings u marks given ys → xs ≡ ys
  one_found given xs ys one other = one_in_order order_total (IsReported (IsPrintFault other.kinds) u marks) xs ys (faults_over one.kinds other.kinds xs ways one.are) other.are where
    a : AreKinds u marks given one.kinds
    a = one.are_kinds

    b : AreKinds u marks given other.kinds
    b = other.are_kinds

    same : (m : Member) → a.handed m ≡ b.handed m
    same m = handed_same u marks given a.handed b.handed a.sets b.sets a.are b.are m

    alike : (kind : WrapKind) (m : Member) → a.sets kind m ≡ b.sets kind m
    alike kind m = sets_same u marks given a.handed b.handed a.sets b.sets a.are b.are kind m

    flags : (at : NodeRef) (kind : WrapKind) → has_flag (one.kinds at) (number_of kind) ≡ has_flag (other.kinds at) (number_of kind)
    flags at kind = same_test (NamesPrinting u marks a.handed a.sets at kind) (has_flag (one.kinds at) (number_of kind)) (has_flag (other.kinds at) (number_of kind)) (a.each at kind) (
      λ h. names_moved b.handed a.handed b.sets a.sets (λ m. sym (same m)) (λ k m. sym (alike k m)) at kind ((b.each at kind).0 h),
      λ h. (b.each at kind).1 (names_moved a.handed b.handed a.sets b.sets same alike at kind h),
    )

    ways : (at : NodeRef) → way_of (one.kinds at) ≡ way_of (other.kinds at)
    ways at = way_same (one.kinds at) (other.kinds at) (flags at)
