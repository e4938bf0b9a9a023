-- Methods that are entered under their names.
use Rattle.std.proofs.Common.{◌≡◌, ℕ, zero, suc, ◌+◌, ◌⊎◌, ◌&&◌, Bool, true, false, List, [], ◌∷◌, map, drop, length, ◌≤◌, slice_get, Some, refl, sym, ap, ◌∙◌, subst, inl, inr, arith}
use Rattle.std.specs.List.{AllByRecursion}
use Rattle.std.specs.List.Sorted.{IsStrictlySortedBy}
use Rattle.std.specs.BTreeMap.{insert_entry}
use Rattle.std.specs.Map.{keys_of, values_of}
use Rattle.std.specs.Ordering.{nat_cmp, ordering_then, is_eq, match_ordering}
use Rattle.std.specs.declared.cmp.Ordering.{Ordering}
use Rattle.std.specs.declared.cmp.Ordering.TheVariants.{Less, Equal, Greater}
use Rattle.std.specs.Cmp.Lexicographic.{slice_cmp}
use Rattle.std.specs.Str.{bytes_eq}
use Rattle.std.proofs.lemmas.List.Elements.{All-nil, All-cons}
use Rattle.std.proofs.lemmas.Map.Keys.{sorted_head, sorted_tail}
use Rattle.std.proofs.lemmas.Map.Text.{is_eq-slice_cmp}
use Rattle.std.proofs.lemmas.Slice.Eq.{bytes_eq-Decides}
use denote.Ref.{Bor}
use Rattle.type_model.specs.declared.term.Method.{Method}
use Rattle.type_model.specs.GoTypes.{SignatureBelow, MethodsBelow}
use Rattle.type_model.specs.Orders.{IsBefore, ComesBefore, AreInOrder}
use Rattle.type_model.specs.Parts.{GoMethod}
use Rattle.type_model.specs.Tables.{count}
use Rattle.method_sets.specs.Notes.{Key, key_cmp}
use Rattle.method_sets.proofs.NoteSteps.{key_is}
use Rattle.method_sets.proofs.NoteParts.{both_true}
use Rattle.method_sets.proofs.NoteList.{Among}
use Rattle.typed_marks.specs.declared.state.State.{State}
use Rattle.type_rules.specs.Interfaces.{Named, name_cmp, entered}
use Rattle.type_rules.specs.Elements.{method_in, Entry, entry_in, entries_in, listed_methods, IsEntry, AreEntries}
use Rattle.type_rules.proofs.ListLemmas.{dropped_at, dropped_all}

-- ---- one more

inserted : (s : State) (es : List Entry) (k : Key) (v : Bor Method)
    → entries_in s (insert_entry key_cmp es k v) ≡ insert_entry name_cmp (entries_in s es) (k.0.now, k.1.now) (method_in s v.now)
inserted s [] k v = refl
inserted s (e ∷ es) k v = by (key_cmp k e.0) (inserted s es k v) where
  by : (c : Ordering) → entries_in s (insert_entry key_cmp es k v) ≡ insert_entry name_cmp (entries_in s es) (k.0.now, k.1.now) (method_in s v.now)
      → entries_in s (match_ordering c ((k, v) ∷ e ∷ es) ((e.0, v) ∷ es) (e ∷ insert_entry key_cmp es k v))
      ≡ match_ordering c (((k.0.now, k.1.now), method_in s v.now) ∷ entry_in s e ∷ entries_in s es) (((e.0.0.now, e.0.1.now), method_in s v.now) ∷ entries_in s es)
      (entry_in s e ∷ insert_entry name_cmp (entries_in s es) (k.0.now, k.1.now) (method_in s v.now))
  by Less rest = refl
  by Equal rest = refl
  by Greater rest = ap (λ (l : List (Named × GoMethod)). entry_in s e ∷ l) rest

pub inserted_as : (s : State) (es : List Entry) (k : Key) (v : Bor Method) (name owner : List ℕ) → k.0.now ≡ name → k.1.now ≡ owner
    → entries_in s (insert_entry key_cmp es k v) ≡ insert_entry name_cmp (entries_in s es) (name, owner) (method_in s v.now)
inserted_as s es k v name owner a b =
    inserted s es k v ∙ (ap (λ (n : List ℕ). insert_entry name_cmp (entries_in s es) (n, k.1.now) (method_in s v.now)) a
    ∙ ap (λ (n : List ℕ). insert_entry name_cmp (entries_in s es) (name, n) (method_in s v.now)) b)

-- keys that compare as equal are one
same_key : (a b : Key) → key_cmp a b ≡ Equal → (a.0.now ≡ b.0.now) × (a.1.now ≡ b.1.now)
same_key a b is =
    let two = both_true (bytes_eq a.0.now b.0.now) (bytes_eq a.1.now b.1.now) (sym (key_is a.0.now b.0.now a.1.now b.1.now) ∙ ap is_eq is) in
    ((bytes_eq-Decides a.0.now b.0.now).0 two.0, (bytes_eq-Decides a.1.now b.1.now).0 two.1)

pub entered_more : (s : State) (es : List Entry) (k : Key) (v : Bor Method) → AreEntries s es → IsEntry s (k, v) → AreEntries s (insert_entry key_cmp es k v)
entered_more s [] k v all is = (is, tt)
entered_more s (e ∷ es) k v all is = by (key_cmp k e.0) refl (entered_more s es k v all.1 is) where
  by : (c : Ordering) → key_cmp k e.0 ≡ c → AreEntries s (insert_entry key_cmp es k v)
      → AreEntries s (match_ordering c ((k, v) ∷ e ∷ es) ((e.0, v) ∷ es) (e ∷ insert_entry key_cmp es k v))
  by Less at rest = (is, all)
  by Equal at rest = let same = same_key k e.0 at in ((sym same.0 ∙ is.0, sym same.1 ∙ is.1, is.2), all.1)
  by Greater at rest = (all.0, rest)

-- ---- all of a list

pub entered_on : (s : State) (methods : List Method) (i : ℕ) (m : Method) (mid new : List Entry) → slice_get methods i ≡ Some m
    → entered (entries_in s mid) (map (method_in s) (drop i methods)) ≡ entered [] (map (method_in s) methods)
    → entries_in s new ≡ insert_entry name_cmp (entries_in s mid) (m.name, m.package) (method_in s m)
    → entered (entries_in s new) (map (method_in s) (drop (i + 1) methods)) ≡ entered [] (map (method_in s) methods)
entered_on s methods i m mid new at was is =
    ap (λ (es : List (Named × GoMethod)). entered es (map (method_in s) (drop (i + 1) methods))) is
    ∙ (sym (ap (λ (l : List Method). entered (entries_in s mid) (map (method_in s) l)) (dropped_at methods i m at)) ∙ was)

pub entered_all : (s : State) (methods : List Method) (i : ℕ) (es : List Entry) → length methods ≤ i
    → entered (entries_in s es) (map (method_in s) (drop i methods)) ≡ entered [] (map (method_in s) methods) → entries_in s es ≡ entered [] (map (method_in s) methods)
entered_all s methods i es low is = sym (ap (λ (l : List Method). entered (entries_in s es) (map (method_in s) l)) (dropped_all methods i low)) ∙ is

-- ---- the list

pub listed_seen : (s : State) (es : List Entry) → map (method_in s) (listed_methods es) ≡ values_of (entries_in s es)
listed_seen s [] = refl
listed_seen s (e ∷ es) = ap (λ (l : List GoMethod). method_in s e.1.now ∷ l) (listed_seen s es)

pub listed_below : (s : State) (es : List Entry) → AreEntries s es → MethodsBelow (count s.table) (listed_methods es)
listed_below s [] all = All-nil (λ (m : Method). SignatureBelow (count s.table) m.of)
listed_below s (e ∷ es) all = All-cons (λ (m : Method). SignatureBelow (count s.table) m.of) e.1.now (listed_methods es) all.0.2 (listed_below s es all.1)

-- ---- their order

all_among : {A : Type 0} (P : A → Type 0) (xs : List A) (x : A) → AllByRecursion P xs → Among xs x → P x
all_among P [] x all has = absurd has
all_among P (y ∷ ys) x all (inl is) = subst P is all.0
all_among P (y ∷ ys) x all (inr has) = all_among P ys x all.1 has

key_among : (es : List Entry) (x : Entry) → Among es x → Among (keys_of es) x.0
key_among [] x has = absurd has
key_among (y ∷ es) x (inl is) = inl (ap (λ (z : Entry). z.0) is)
key_among (y ∷ es) x (inr has) = inr (key_among es x has)

from_list : (es : List Entry) (m : Method) → Among (listed_methods es) m → (x : Entry) × Among es x × (x.1.now ≡ m)
from_list [] m has = absurd has
from_list (e ∷ es) m (inl is) = (e, inl refl, is)
from_list (e ∷ es) m (inr has) = let r = from_list es m has in (r.0, inr r.1, r.2)

entry_among : (s : State) (es : List Entry) (x : Entry) → AreEntries s es → Among es x → IsEntry s x
entry_among s [] x all has = absurd has
entry_among s (e ∷ es) x all (inl is) = subst (IsEntry s) is all.0
entry_among s (e ∷ es) x all (inr has) = entry_among s es x all.1 has

before_of : (a b p q : List ℕ) (c : Ordering) → slice_cmp nat_cmp a b ≡ c → ordering_then c (slice_cmp nat_cmp p q) ≡ Less → IsBefore a p b q
before_of a b p q Less is less = inl is
before_of a b p q Equal is less = inr ((bytes_eq-Decides a b).0 (sym (is_eq-slice_cmp a b) ∙ ap is_eq is), less)
before_of a b p q Greater is less = absurd (cc)

in_order_more : (m : Method) (methods : List Method) → ((b : Method) → Among methods b → ComesBefore m b) → AreInOrder methods → AreInOrder (m ∷ methods)
in_order_more m methods first rest zero a b at next = subst (λ (x : Method). ComesBefore x b) (inside m a at) (first b (among_get methods 0 b next)) where
  inside : (x y : Method) → Some x ≡ Some y → x ≡ y
  inside x y q = cc

  among_get : (list : List Method) (k : ℕ) (x : Method) → slice_get list k ≡ Some x → Among list x
  among_get [] k x is = absurd (cc)
  among_get (y ∷ list) zero x is = inl (inside y x is)
  among_get (y ∷ list) (suc k) x is = inr (among_get list k x is)
in_order_more m methods first rest (suc k) a b at next =
    rest k a b at (let same : suc k + 1 ≡ suc (k + 1) = omega arith in subst (λ (n : ℕ). slice_get (m ∷ methods) n ≡ Some b) same next)

first_before : (s : State) (e : Entry) (es : List Entry) → IsStrictlySortedBy key_cmp (keys_of (e ∷ es)) → IsEntry s e → AreEntries s es
    → (b : Method) → Among (listed_methods es) b → ComesBefore e.1.now b
first_before s e es sorted mine all b has =
    let from = from_list es b has in
    let x = from.0 in
    let its = entry_among s es x all from.1 in
    let less : key_cmp e.0 x.0 ≡ Less = all_among (λ (y : Key). key_cmp e.0 y ≡ Less) (keys_of es) x.0 (sorted_head key_cmp e.0 (keys_of es) sorted) (key_among es x from.1) in
    let before = before_of e.0.0.now x.0.0.now e.0.1.now x.0.1.now (slice_cmp nat_cmp e.0.0.now x.0.0.now) refl less in
    subst (λ (m : Method). ComesBefore e.1.now m) from.2
    (subst (λ (n : List ℕ). IsBefore n e.1.now.package x.1.now.name x.1.now.package) mine.0
    (subst (λ (n : List ℕ). IsBefore e.0.0.now n x.1.now.name x.1.now.package) mine.1
    (subst (λ (n : List ℕ). IsBefore e.0.0.now e.0.1.now n x.1.now.package) its.0
    (subst (λ (n : List ℕ). IsBefore e.0.0.now e.0.1.now x.0.0.now n) its.1 before))))

pub listed_in_order : (s : State) (es : List Entry) → IsStrictlySortedBy key_cmp (keys_of es) → AreEntries s es → AreInOrder (listed_methods es)
listed_in_order s [] sorted all = λ k a b at next. absurd (cc)
listed_in_order s (e ∷ es) sorted all =
    in_order_more e.1.now (listed_methods es) (first_before s e es sorted all.0 all.1) (listed_in_order s es (sorted_tail key_cmp e.0 (keys_of es) sorted) all.1)
