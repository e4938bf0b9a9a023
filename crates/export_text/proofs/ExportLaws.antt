-- A package has one interface.
use Rattle.std.proofs.Common.{◌≡◌, ℕ, zero, suc, ◌+◌, Bool, true, List, [], ◌∷◌, slice_get, Some, refl, sym, ap, subst, ◌∙◌, arith}
use Rattle.std.specs.List.{Contains}
use Rattle.std.specs.declared.cmp.Ordering.{Ordering}
use Rattle.std.specs.declared.cmp.Ordering.TheVariants.{Less, Equal, Greater}
use Rattle.std.specs.Ordering.{is_lt, nat_cmp}
use Rattle.std.specs.Cmp.Lexicographic.{slice_cmp}
use Rattle.std.proofs.lemmas.Cmp.{nat_list_cmp_total, tied_itself}
use Rattle.std.proofs.lemmas.List.Elements.{All-contains, All-from_recursion}
use Rattle.std.proofs.lemmas.List.Sorted.{Contains-permutation, IsPermutation-sym}
use Rattle.std.proofs.lemmas.Option.{slice_get_within, slice_get-get_or, get_or_from_slice_get}
use Rattle.gv_bytes.proofs.Options.{some_is}
use Rattle.type_model.specs.declared.term.TypeName.{TypeName}
use Rattle.type_model.specs.GoTypes.{GoType}
use Rattle.type_model.specs.Parts.{GoMethod}
use Rattle.type_model.specs.Declarations.{Declaration, Declarations}
use Rattle.type_model.specs.Identity.{AreSorted}
use Rattle.type_model.proofs.OneInterface.{Has, one-list, one_set}
use Rattle.package_faces.specs.Orders.{rises, rises_after, defined_before, method_before}
use Rattle.package_faces.specs.Faces.{ObjectOut, DefinedOut, Face}
use Rattle.export_text.specs.Faces.{IsDefinedOut, IsFace, face_text}
use Rattle.package_faces.specs.Reaching.{own_name, IsDeclared, IsExportOf}
use Rattle.export_text.specs.Reaching.{IsExportText}
use Rattle.type_texts.proofs.OrderLaws.{is_before, both_hold}

module _ {A : Type 0} (before : A → A → Bool) where
  after_in_turn : (x : A) (xs : List A) → rises_after before x xs ≡ true → (k : ℕ) (a b : A) → slice_get (x ∷ xs) k ≡ Some a → slice_get (x ∷ xs) (k + 1) ≡ Some b → before a b ≡ true
  after_in_turn x [] e zero a b at next = absurd cc
  after_in_turn x [] e (suc k) a b at next = absurd cc
  after_in_turn x (y ∷ xs) e zero a b at next =
      let held = both_hold (before x y) (rises_after before y xs) e in
      subst (λ (z : A). before a z ≡ true) (some_is y b next) (subst (λ (z : A). before z y ≡ true) (some_is x a at) held.0)
  after_in_turn x (y ∷ xs) e (suc k) a b at next =
      let held = both_hold (before x y) (rises_after before y xs) e in
      let step : suc k + 1 ≡ suc (k + 1) = omega arith in
      after_in_turn y xs held.1 k a b at (ap (slice_get (x ∷ y ∷ xs)) (sym step) ∙ next)

  pub in_turn : (xs : List A) → rises before xs ≡ true → (k : ℕ) (a b : A) → slice_get xs k ≡ Some a → slice_get xs (k + 1) ≡ Some b → before a b ≡ true
  in_turn [] e k a b at next = absurd cc
  in_turn (x ∷ xs) e k a b at next = after_in_turn x xs e k a b at next

has_it : {A : Type 0} (xs : List A) (x : A) → Contains xs x → Has xs x
has_it xs x c = (c.0, slice_get-get_or xs c.0 x c.1 ∙ ap Some c.2)

holds_it : {A : Type 0} (xs : List A) (x : A) → Has xs x → Contains xs x
holds_it xs x had = (had.0, slice_get_within xs had.0 x had.1, get_or_from_slice_get xs had.0 x x had.1)

-- ---- the methods of one declaration, in order

sorted_methods : (methods : List GoMethod) → rises method_before methods ≡ true → AreSorted methods
sorted_methods methods e k a b at next = is_before a.name a.owner b.name b.owner (in_turn method_before methods e k a b at next)

one_methods : (xs ys : List GoMethod) → rises method_before xs ≡ true → rises method_before ys ≡ true → ((m : GoMethod) → Contains xs m → Contains ys m) → ((m : GoMethod) → Contains ys m → Contains xs m) → xs ≡ ys
one_methods xs ys p q to from =
    one_set xs ys (sorted_methods xs p) (sorted_methods ys q) (λ z had. has_it ys z (to z (holds_it xs z had))) (λ z had. has_it xs z (from z (holds_it ys z had)))

-- ---- the defined types, in order

not_less : (o : Ordering) → o ≡ Equal → is_lt o ≡ true → ⊥
not_less Less e f = absurd cc
not_less Equal e f = absurd cc
not_less Greater e f = absurd cc

pub less_of : (o : Ordering) → is_lt o ≡ true → o ≡ Less
less_of Less e = refl
less_of Equal e = absurd cc
less_of Greater e = absurd cc

never : (d : DefinedOut) → defined_before d d ≡ true → ⊥
never d e = not_less (slice_cmp nat_cmp d.name d.name) (tied_itself nat_list_cmp_total d.name) e

pub then_before : (a b c : DefinedOut) → defined_before a b ≡ true → defined_before b c ≡ true → defined_before a c ≡ true
then_before a b c p q = ap is_lt (nat_list_cmp_total.trans a.name b.name c.name (less_of (slice_cmp nat_cmp a.name b.name) p) (less_of (slice_cmp nat_cmp b.name c.name) q))

pub one_types : (xs ys : List DefinedOut) → rises defined_before xs ≡ true → rises defined_before ys ≡ true → ((d : DefinedOut) → Contains xs d → Contains ys d) → ((d : DefinedOut) → Contains ys d → Contains xs d) → xs ≡ ys
one_types xs ys p q to from =
    one-list (λ (a b : DefinedOut). defined_before a b ≡ true) never then_before xs ys (in_turn defined_before xs p) (in_turn defined_before ys q)
    (λ z had. has_it ys z (to z (holds_it xs z had))) (λ z had. has_it xs z (from z (holds_it ys z had)))

-- ---- one interface

-- each type has its methods in order
abbrev pub HaveSorted : Face → Type 0
HaveSorted f = (d : DefinedOut) → Contains f.types d → rises method_before d.methods ≡ true

pub have_sorted : (f : Face) → IsFace f → HaveSorted f
have_sorted f fits d c = (All-contains IsDefinedOut f.types d (All-from_recursion IsDefinedOut f.types fits.1.1.1.0.1) c).1.1.1

module _ (ds : Declarations) (path name : List ℕ) (objects : List ObjectOut) where
  pub same_declared : (d e : DefinedOut) → d.name ≡ e.name → IsDeclared ds path d → IsDeclared ds path e → rises method_before d.methods ≡ true → rises method_before e.methods ≡ true → d ≡ e
  same_declared d e same p q rise others =
      let one : p.declaration ≡ q.declaration = some_is p.declaration q.declaration (sym p.is ∙ ap (λ (n : List ℕ). ds (own_name path n)) same ∙ q.is) in
      let under : d.under ≡ e.under = p.under ∙ ap (λ (x : Declaration). x.under) one ∙ sym q.under in
      let from : (m : GoMethod) → Contains d.methods m → Contains e.methods m = λ m c.
      Contains-permutation q.declaration.methods e.methods m q.methods (subst (λ (x : Declaration). Contains x.methods m) one (Contains-permutation d.methods p.declaration.methods m (IsPermutation-sym p.declaration.methods d.methods p.methods) c)) in
      let to : (m : GoMethod) → Contains e.methods m → Contains d.methods m = λ m c.
      Contains-permutation p.declaration.methods d.methods m p.methods (subst (λ (x : Declaration). Contains x.methods m) (sym one) (Contains-permutation e.methods q.declaration.methods m (IsPermutation-sym q.declaration.methods e.methods q.methods) c)) in
      let methods = one_methods d.methods e.methods rise others from to in
      ap (λ (n : List ℕ). record { name = n; under = d.under; methods = d.methods }) same
      ∙ ap (λ (t : GoType). record { name = e.name; under = t; methods = d.methods }) under
      ∙ ap (λ (ms : List GoMethod). record { name = e.name; under = e.under; methods = ms }) methods

  -- what stands in one interface stands in the other
  into : (f g : Face) → IsExportOf ds path name objects f → IsExportOf ds path name objects g → HaveSorted f → HaveSorted g → (d : DefinedOut) → Contains f.types d → Contains g.types d
  into f g p q sorted others d c =
      let there = q.all (own_name path d.name) refl (p.reached d c) in
      let same : d.name ≡ there.0.name = ap (λ (n : TypeName). n.name) there.2 in
      subst (λ (x : DefinedOut). Contains g.types x) (sym (same_declared d there.0 same (p.declared d c) (q.declared there.0 there.1) (sorted d c) (others there.0 there.1))) there.1

  -- with the same defined types
  pub one_of_types : (f g : Face) → IsExportOf ds path name objects f → IsExportOf ds path name objects g → f.types ≡ g.types → f ≡ g
  one_of_types f g p q types =
      ap (λ (n : List ℕ). record { path = n; name = f.name; objects = f.objects; types = f.types }) (p.path_is ∙ sym q.path_is)
      ∙ ap (λ (n : List ℕ). record { path = g.path; name = n; objects = f.objects; types = f.types }) (p.name_is ∙ sym q.name_is)
      ∙ ap (λ (os : List ObjectOut). record { path = g.path; name = g.name; objects = os; types = f.types }) (p.objects_are ∙ sym q.objects_are)
      ∙ ap (λ (ts : List DefinedOut). record { path = g.path; name = g.name; objects = g.objects; types = ts }) types

  -- with types in order, each with its methods in order
  pub one_sorted : (f g : Face) → IsExportOf ds path name objects f → IsExportOf ds path name objects g → rises defined_before f.types ≡ true → rises defined_before g.types ≡ true → HaveSorted f → HaveSorted g → f ≡ g
  one_sorted f g p q rise rises_too sorted others =
      one_of_types f g p q (one_types f.types g.types rise rises_too (into f g p q sorted others) (into g f q p others sorted))

  pub one_export : (f g : Face) → IsExportOf ds path name objects f → IsExportOf ds path name objects g → IsFace f → IsFace g → f ≡ g
  one_export f g p q fits others = one_sorted f g p q fits.1.1.1.1 others.1.1.1.1 (have_sorted f fits) (have_sorted g others)

  pub one_export_text : (a b : List ℕ) → IsExportText ds path name objects a → IsExportText ds path name objects b → a ≡ b
  one_export_text a b p q =
      p.text.whole ∙ ap face_text (one_export p.face q.face p.export q.export p.text.value q.text.value) ∙ sym q.text.whole
