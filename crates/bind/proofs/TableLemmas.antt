-- The earliest of the nodes at which each name is declared.
use Rattle.std.proofs.Common.{◌≡◌, ℕ, List, [], ◌∷◌, ◌++◌, Bool, true, false, not, ◌↔◌, IsTrue, if◌then◌else◌, Option, Some, None, refl, sym, ap, ◌∙◌, subst, inl, inr, arith}
use Rattle.std.specs.Bool.{Decides}
use Rattle.std.specs.Str.{bytes_eq}
use Rattle.std.proofs.lemmas.List.Elements.{Contains-push, Contains-push_cases, Contains-append_left}
use Rattle.std.proofs.lemmas.Slice.Eq.{bytes_eq-Decides}
use Rattle.gv_base.specs.Files.{is_before}
use Rattle.gv_base.proofs.FileLemmas.{before-flip, before-trans}
use Rattle.go_tree.specs.Bindings.{IsBefore}
use Rattle.go_tree.specs.declared.tree.NodeRef.{NodeRef}
use denote.Ref.{Bor}
use Rattle.std.specs.HashMap.{HashMap}
use Rattle.bind.specs.Tables.{found, Stays, IsEarlierBy, Keeps, Adds, IsEarliestOf, IsEarliest}

path_itself : (p : List ℕ) → is_before p p ≡ true → ⊥
path_itself p e = let f : true ≡ false = sym e ∙ before-flip p p e in cc

pub earlier_itself : (path : ℕ → List ℕ) (a : NodeRef) → IsEarlierBy path a a → ⊥
earlier_itself path a (inl before) = path_itself (path a.file) before
earlier_itself path a (inr (same, inl low)) = omega arith
earlier_itself path a (inr (same, inr (file, low))) = omega arith

before_trans : (a b c : NodeRef) → IsBefore a b → IsBefore b c → IsBefore a c
before_trans a b c (inl x) (inl y) = inl (omega arith)
before_trans a b c (inl x) (inr (file, y)) = inl (omega arith)
before_trans a b c (inr (file, x)) (inl y) = inl (omega arith)
before_trans a b c (inr (file, x)) (inr (other, y)) = inr (file ∙ other, omega arith)

pub earlier_trans : (path : ℕ → List ℕ) (a b c : NodeRef) → IsEarlierBy path a b → IsEarlierBy path b c → IsEarlierBy path a c
earlier_trans path a b c (inl x) (inl y) = inl (before-trans (path a.file) (path b.file) (path c.file) x y)
earlier_trans path a b c (inl x) (inr (same, y)) = inl (subst (λ (q : List ℕ). is_before (path a.file) q ≡ true) same x)
earlier_trans path a b c (inr (same, x)) (inl y) = inl (subst (λ (q : List ℕ). is_before q (path c.file) ≡ true) (sym same) y)
earlier_trans path a b c (inr (same, x)) (inr (other, y)) = inr (same ∙ other, before_trans a b c x y)

abbrev Pair : Type 0
Pair = List ℕ × NodeRef

left_of : (a b : Pair) → a ≡ b → a.0 ≡ b.0
left_of a b e = ap (λ (x : Pair). x.0) e

right_of : (a b : Pair) → a ≡ b → a.1 ≡ b.1
right_of a b e = ap (λ (x : Pair). x.1) e

-- the name's node, where one more is declared
this_more : (path : ℕ → List ℕ) (all : List Pair) (name : List ℕ) (at : NodeRef) (kept now : Option NodeRef) → IsEarliestOf path all name kept → Keeps path kept at now → IsEarliestOf path (all ++ (name, at) ∷ []) name now
this_more path all name at None now none is = subst (λ (o : Option NodeRef). IsEarliestOf path (all ++ (name, at) ∷ []) name o) (sym is) (
  Contains-push all (name, at),
  λ other there earlier. elim (Contains-push_cases all (name, at) (name, other) there) [
    | inl old ↦ none other old
    | inr same ↦ earlier_itself path at (subst (λ (x : NodeRef). IsEarlierBy path x at) (sym (right_of (name, at) (name, other) same)) earlier)
  ],
)
this_more path all name at (Some kept) now was (inl (sooner, is)) = subst (λ (o : Option NodeRef). IsEarliestOf path (all ++ (name, at) ∷ []) name o) (sym is) (
  Contains-push all (name, at),
  λ other there earlier. elim (Contains-push_cases all (name, at) (name, other) there) [
    | inl old ↦ was.1 other old (earlier_trans path other at kept earlier sooner)
    | inr same ↦ earlier_itself path at (subst (λ (x : NodeRef). IsEarlierBy path x at) (sym (right_of (name, at) (name, other) same)) earlier)
  ],
)
this_more path all name at (Some kept) now was (inr (later, is)) = subst (λ (o : Option NodeRef). IsEarliestOf path (all ++ (name, at) ∷ []) name o) (sym is) (
  Contains-append_left all ((name, at) ∷ []) (name, kept) was.0,
  λ other there earlier. elim (Contains-push_cases all (name, at) (name, other) there) [
    | inl old ↦ was.1 other old earlier
    | inr same ↦ later (subst (λ (x : NodeRef). IsEarlierBy path x kept) (sym (right_of (name, at) (name, other) same)) earlier)
  ],
)

-- the node of another name
other_more : (path : ℕ → List ℕ) (all : List Pair) (name q : List ℕ) (at : NodeRef) (kept : Option NodeRef) → (name ≡ q → ⊥) → IsEarliestOf path all q kept → IsEarliestOf path (all ++ (name, at) ∷ []) q kept
other_more path all name q at None apart none = λ other there. elim (Contains-push_cases all (name, at) (q, other) there) [
  | inl old ↦ none other old
  | inr same ↦ apart (left_of (name, at) (q, other) same)
]
other_more path all name q at (Some kept) apart was = (
  Contains-append_left all ((name, at) ∷ []) (q, kept) was.0,
  λ other there earlier. elim (Contains-push_cases all (name, at) (q, other) there) [
    | inl old ↦ was.1 other old earlier
    | inr same ↦ apart (left_of (name, at) (q, other) same)
  ],
)

pub one_more : (path : ℕ → List ℕ) (all : List Pair) (old new : List ℕ → Option NodeRef) (name : List ℕ) (at : NodeRef) → IsEarliest path all old → Adds path old new name at
    → IsEarliest path (all ++ (name, at) ∷ []) new
one_more path all old new name at was adds q = by_name (bytes_eq name q) (bytes_eq-Decides name q) where
  by_name : (same : Bool) → Decides same (name ≡ q) → IsEarliestOf path (all ++ (name, at) ∷ []) q (new q)
  by_name true d = subst (λ (x : List ℕ). IsEarliestOf path (all ++ (name, at) ∷ []) x (new x)) (d.0 refl) (this_more path all name at (old name) (new name) (was name) adds.this)
  by_name false d =
      let apart : name ≡ q → ⊥ = λ e. let f : false ≡ true = d.1 e in cc in
      subst (λ (o : Option NodeRef). IsEarliestOf path (all ++ (name, at) ∷ []) q o) (sym (adds.others q apart)) (other_more path all name q at (old q) apart (was q))

-- ---- one name added

pub none_found : {S : Type 0} (table : HashMap (Bor (List ℕ)) NodeRef S) → table.entries ≡ [] → (q : List ℕ) → found table q ≡ None
none_found table e q = rw e refl

pub added : (path : ℕ → List ℕ) (old new : List ℕ → Option NodeRef) (name : List ℕ) (at : NodeRef) (stays : Bool) → stays ≡ false → Stays path (old name) at stays
    → ((q : List ℕ) → new q ≡ (if bytes_eq name q then Some at else old q)) → Adds path old new name at
added path old new name at true no_way sooner now = absurd (cc)
added path old new name at false it sooner now = record { this = this (old name) refl; others = λ q apart. other q apart (bytes_eq name q) refl (bytes_eq-Decides name q) } where
  itself : (same : Bool) → bytes_eq name name ≡ same → Decides same (name ≡ name) → new name ≡ Some at
  itself true e d = now name ∙ ap (λ b. if b then Some at else old name) e
  itself false e d = absurd (let f : false ≡ true = d.1 refl in cc)

  is_new : new name ≡ Some at
  is_new = itself (bytes_eq name name) refl (bytes_eq-Decides name name)

  this : (o : Option NodeRef) → old name ≡ o → Keeps path o at (new name)
  this None e = is_new
  this (Some kept) e = inl (sooner kept e, is_new)

  other : (q : List ℕ) → (name ≡ q → ⊥) → (same : Bool) → bytes_eq name q ≡ same → Decides same (name ≡ q) → new q ≡ old q
  other q apart true e d = absurd (apart (d.0 refl))
  other q apart false e d = now q ∙ ap (λ b. if b then Some at else old q) e

pub not_added : (path : ℕ → List ℕ) (old : List ℕ → Option NodeRef) (name : List ℕ) (at : NodeRef) (stays : Bool) → stays ≡ true → Stays path (old name) at stays → Adds path old old name at
not_added path old name at false no_way it = absurd (cc)
not_added path old name at true e (kept, is, later) = record {
  this = subst (λ (o : Option NodeRef). Keeps path o at (old name)) (sym is) (inr (later, is));
  others = λ q apart. refl;
}

-- ---- the order by path

pub earlier_by_path : (path : ℕ → List ℕ) (a b : NodeRef) (p q : List ℕ) (r : Bool) → p ≡ path a.file → q ≡ path b.file → r ≡ is_before p q → r ≡ true → (IsTrue true ↔ IsEarlierBy path a b)
earlier_by_path path a b p q r is_p is_q is yes_it = ((λ t. inl (before path a b p q is_p is_q (sym is ∙ yes_it))), (λ e. refl)) where
  before : (path : ℕ → List ℕ) (a b : NodeRef) (p q : List ℕ) → p ≡ path a.file → q ≡ path b.file → is_before p q ≡ true → is_before (path a.file) (path b.file) ≡ true
  before path a b p q is_p is_q e = ap (λ x. is_before x (path b.file)) (sym is_p) ∙ (ap (λ x. is_before p x) (sym is_q) ∙ e)

not_before : (path : ℕ → List ℕ) (a b : NodeRef) (p q : List ℕ) (r : Bool) → p ≡ path a.file → q ≡ path b.file → r ≡ is_before p q → r ≡ false → is_before (path a.file) (path b.file) ≡ true → ⊥
not_before path a b p q r is_p is_q is no_it e =
    let f : is_before p q ≡ true = ap (λ x. is_before p x) is_q ∙ (ap (λ x. is_before x (path b.file)) is_p ∙ e) in
    let g : false ≡ true = sym no_it ∙ (is ∙ f) in cc

pub earlier_by_place : (path : ℕ → List ℕ) (a b : NodeRef) (p q : List ℕ) (r s t : Bool) → p ≡ path a.file → q ≡ path b.file → r ≡ is_before p q → r ≡ false → s ≡ bytes_eq p q → s ≡ true
    → (IsTrue t ↔ IsBefore a b) → (IsTrue t ↔ IsEarlierBy path a b)
earlier_by_place path a b p q r s t is_p is_q is no_it same yes_it order = ((λ x. inr (one, order.0 x)), (λ e. back e)) where
  one : path a.file ≡ path b.file
  one = sym is_p ∙ ((bytes_eq-Decides p q).0 (sym same ∙ yes_it) ∙ is_q)

  back : IsEarlierBy path a b → IsTrue t
  back (inl before) = absurd (not_before path a b p q r is_p is_q is no_it before)
  back (inr (there, it)) = order.1 it

pub not_earlier : (path : ℕ → List ℕ) (a b : NodeRef) (p q : List ℕ) (r s : Bool) → p ≡ path a.file → q ≡ path b.file → r ≡ is_before p q → r ≡ false → s ≡ bytes_eq p q → s ≡ false
    → (IsTrue false ↔ IsEarlierBy path a b)
not_earlier path a b p q r s is_p is_q is no_it same no_same = ((λ x. absurd (let f : false ≡ true = x in cc)), (λ e. back e)) where
  back : IsEarlierBy path a b → IsTrue false
  back (inl before) = absurd (not_before path a b p q r is_p is_q is no_it before)
  back (inr (there, it)) = absurd (let e : bytes_eq p q ≡ true = (bytes_eq-Decides p q).1 (is_p ∙ (there ∙ sym is_q)) in let f : false ≡ true = sym no_same ∙ (same ∙ e) in cc)

same_ref : (a b : NodeRef) → Some a ≡ Some b → a ≡ b
same_ref a b e = cc

pub stays_some : (path : ℕ → List ℕ) (kept : Option NodeRef) (node at : NodeRef) (r : Bool) → kept ≡ Some node → (IsTrue r ↔ IsEarlierBy path at node) → Stays path kept at (not r)
stays_some path kept node at true is order = λ other there. subst (λ (x : NodeRef). IsEarlierBy path at x) (same_ref node other (sym is ∙ there)) (order.0 refl)
stays_some path kept node at false is order = (node, is, λ e. let f : false ≡ true = order.1 e in cc)

pub stays_none : (path : ℕ → List ℕ) (kept : Option NodeRef) (at : NodeRef) → kept ≡ None → Stays path kept at false
stays_none path kept at is = λ node there. absurd (let f : None ≡ Some node = sym is ∙ there in cc)
