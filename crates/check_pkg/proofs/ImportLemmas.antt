-- What imports declare, and what they refuse.
use Rattle.std.proofs.Common.{◌≡◌, ℕ, ◌+◌, ◌<◌, ◌≤◌, ◌⊎◌, ◌↔◌, ◌==◌, Bool, true, false, if◌then◌else◌, not, IsTrue, nat_le, nat_lt, List, map, length, slice_get, Option, Some, None, is_some, option_map, option_and_then, below_more, refl, sym, ap, ◌∙◌, subst, inl, inr, arith}
use Rattle.std.specs.Bool.{Decides}
use Rattle.std.specs.List.{Contains}
use Rattle.std.specs.Option.{option_map_or}
use Rattle.std.specs.Str.{bytes_eq}
use Rattle.std.proofs.lemmas.Bool.Decides.{nat_tests}
use Rattle.std.proofs.lemmas.Option.{slice_get_within, slice_get-map}
use Rattle.std.proofs.lemmas.Slice.Eq.{bytes_eq-Decides}
use Rattle.gv_base.specs.declared.place.Place.{Place}
use Rattle.go_tree.specs.Head.{import_line, imports_of}
use Rattle.go_tree.specs.Lexeme.{place_of as first_place}
use Rattle.go_tree.specs.declared.bindings.Object.{Object}
use Rattle.go_tree.specs.declared.bindings.Object.TheVariants as o
use Rattle.go_tree.specs.declared.head.ImportLine.{ImportLine}
use Rattle.go_tree.specs.declared.tree.FileTree.{FileTree}
use Rattle.go_tree.specs.declared.tree.Node.{Node}
use Rattle.go_tree.specs.declared.tree.NodeRef.{NodeRef}
use Rattle.object_order.specs.Spots.{place}
use Rattle.bind.specs.Imports.{specs_in, line_name}
use Rattle.bind.specs.Imported.{imported}
use Rattle.bind.proofs.ImportLemmas.{lines_are, map_size, from_imported, to_imported}
use Rattle.typed_tree.specs.declared.rule.TheConstants.{REDECLARED, UNUSED_IMPORT}
use Rattle.typed_marks.specs.declared.item.Item.{Item}
use Rattle.typed_marks.specs.Meanings.{Meaning}
use Rattle.unit_read.specs.Imports.{bare, import_limit}
use Rattle.unit_read.specs.Units.{Unit, text_in, tree_at, nodes_at, node_at, object_in, object_at, name_at}
use Rattle.unit_rows.specs.Redeclared.{package_names}
use Rattle.check_pkg.specs.declared.import_names.Declared.{Declared}
use Rattle.check_pkg.specs.declared.refusal.Fault.TheVariants.{Rule as RuleFault}
use Rattle.check_pkg.specs.declared.refusal.Refusal.{Refusal}
use Rattle.check_pkg.specs.Gains.{Gains, SomeBelow}
use Rattle.check_pkg.specs.ImportLists.{pairs, Names, AreNames, import_in, AreUsed, least, IsLeast, IsFirst, is_before, RefusesIf, HasName, ComesLater, IsUnused, RefusesName, RefusesNthName, RefusesImports}
use Rattle.check_pkg.specs.Packages.{known_of}
use Rattle.check_pkg.specs.Faults.{place_of}
use Rattle.check_pkg.specs.Imports.{import_name, IsTaken, IsUsed}
use Rattle.check_pkg.specs.Names.{spelled_names}
use Rattle.check_pkg.specs.References.{names_field, uses_at}
use Rattle.check_pkg.proofs.FaultLemmas.{same_refusal}
use Rattle.check_pkg.proofs.GainLemmas.{gains_none, gains_as, gains_then, gains_some}
use Rattle.check_pkg.proofs.Lists.{same_some, stands_in, contains_at, first_is, none_is}

pub same_ref : (at : NodeRef) (f n : ℕ) → at.file ≡ f → at.node ≡ n → at ≡ place f n
same_ref at f n file node = ap (λ x. place x at.node) file ∙ ap (λ y. place f y) node

-- ---- names

abbrev pair_of : Declared → List ℕ × NodeRef
pair_of d = (d.name.now, d.at)

pub named_at : (u : Unit) (f : ℕ) (names : List Declared) (k : ℕ) (d : Declared) → AreNames u f names → slice_get names k ≡ Some d → Names u f d.at d.name.now
named_at u f names k d are read =
    (are.each d.at d.name.now).0 (contains_at (pairs names) k (d.name.now, d.at)
    (slice_get-map pair_of names k ∙ ap (option_map pair_of) read))

pub record Stands (names : List Declared) (q : List ℕ) (at : NodeRef) : Type 0 where
  pub place : ℕ
  pub item : Declared
  pub there : slice_get names place ≡ Some item
  pub named : item.name.now ≡ q
  pub node : item.at ≡ at

pub some_is : {X : Type 0} (a b : X) → Some a ≡ Some b → a ≡ b
some_is a b h = cc

stands_at : (names : List Declared) (i : ℕ) (p : List ℕ × NodeRef) (o : Option Declared) → slice_get names i ≡ o → option_map pair_of o ≡ Some p → Stands names p.0 p.1
stands_at names i p None e h = absurd cc
stands_at names i p (Some d) e h =
    let same : pair_of d ≡ p = some_is (pair_of d) p h in
    record { place = i; item = d; there = e; named = ap (λ (x : List ℕ × NodeRef). x.0) same; node = ap (λ (x : List ℕ × NodeRef). x.1) same }

pub from_names : (u : Unit) (f : ℕ) (names : List Declared) (q : List ℕ) (at : NodeRef) → AreNames u f names → Names u f at q → Stands names q at
from_names u f names q at are named =
    let found = stands_in (pairs names) (q, at) ((are.each at q).1 named) in
    stands_at names found.0 (q, at) (slice_get names found.0) refl (sym (slice_get-map pair_of names found.0) ∙ found.1)

pub first_of : (u : Unit) (f : ℕ) (names : List Declared) (q : List ℕ) (o : Option ℕ) → AreNames u f names → IsLeast names (length names) q o → IsFirst u f q o
first_of u f names q None are none = λ at named.
    let s = from_names u f names q at are named in none s.place (slice_get_within names s.place s.item s.there) s.item s.there s.named
first_of u f names q (Some n) are ((j, d, low, read, named, node), all) = (
  (let has = named_at u f names j d are read in
      subst (λ (p : List ℕ). Names u f (place f n) p) named (subst (λ (at : NodeRef). Names u f at d.name.now) (same_ref d.at f n has.0 node) has)),
  λ at other.
      let s = from_names u f names q at are other in
      subst (λ (x : NodeRef). n ≤ x.node) s.node (all s.place (slice_get_within names s.place s.item s.there) s.item s.there s.named),
)

le_true : (m n : ℕ) → nat_le m n ≡ true → m ≤ n
le_true m n h = grind (arith, nat_tests)

le_false : (m n : ℕ) → nat_le m n ≡ false → n ≤ m
le_false m n h = grind (arith, nat_tests)

-- the import at the end has the name
here : (list : List Declared) (k : ℕ) (d : Declared) (o : Option ℕ) → slice_get list k ≡ Some d → IsLeast list k d.name.now o → IsLeast list (k + 1) d.name.now (Some (least o d.at.node))
here list k d None read none = (
  (k, d, omega arith, read, refl, refl),
  below_more (λ j. (e : Declared) → slice_get list j ≡ Some e → e.name.now ≡ d.name.now → d.at.node ≤ e.at.node) k (λ j low e r n. absurd (none j low e r n))
      (λ e r n. subst (λ (x : Declared). d.at.node ≤ x.at.node) (same_some (slice_get list k) d e read r) (omega arith)),
)
here list k d (Some m) read ((j, e, low, r, n, node), all) = by (nat_le m d.at.node) refl where
  by : (b : Bool) → nat_le m d.at.node ≡ b → IsLeast list (k + 1) d.name.now (Some (if b then m else d.at.node))
  by true le = (
    (j, e, omega arith, r, n, node),
    below_more (λ i. (x : Declared) → slice_get list i ≡ Some x → x.name.now ≡ d.name.now → m ≤ x.at.node) k all
        (λ x s h. subst (λ (y : Declared). m ≤ y.at.node) (same_some (slice_get list k) d x read s) (le_true m d.at.node le)),
  )
  by false le = (
    (k, d, omega arith, read, refl, refl),
    below_more (λ i. (x : Declared) → slice_get list i ≡ Some x → x.name.now ≡ d.name.now → d.at.node ≤ x.at.node) k
        (λ i small x s h. let up = all i small x s h in let down = le_false m d.at.node le in omega arith)
        (λ x s h. subst (λ (y : Declared). d.at.node ≤ y.at.node) (same_some (slice_get list k) d x read s) (omega arith)),
  )

-- it has another
apart : (list : List Declared) (k : ℕ) (d : Declared) (q : List ℕ) (o : Option ℕ) → slice_get list k ≡ Some d → (d.name.now ≡ q → ⊥) → IsLeast list k q o → IsLeast list (k + 1) q o
apart list k d q None read differs none =
    below_more (λ j. (e : Declared) → slice_get list j ≡ Some e → e.name.now ≡ q → ⊥) k none
    (λ e r n. differs (ap (λ (x : Declared). x.name.now) (same_some (slice_get list k) d e read r) ∙ n))
apart list k d q (Some m) read differs ((j, e, low, r, n, node), all) = (
  (j, e, omega arith, r, n, node),
  below_more (λ i. (x : Declared) → slice_get list i ≡ Some x → x.name.now ≡ q → m ≤ x.at.node) k all
      (λ x s h. absurd (differs (ap (λ (y : Declared). y.name.now) (same_some (slice_get list k) d x read s) ∙ h))),
)

pub least_more : (list : List Declared) (k : ℕ) (d : Declared) (old : List ℕ → Option ℕ) (q : List ℕ) (new : Option ℕ) → slice_get list k ≡ Some d
    → ((q : List ℕ) → IsLeast list k q (old q)) → (same : Bool) → Decides same (d.name.now ≡ q) → new ≡ (if same then Some (least (old d.name.now) d.at.node) else old q)
    → IsLeast list (k + 1) q new
least_more list k d old q new read before true equal is =
    subst (λ (o : Option ℕ). IsLeast list (k + 1) q o) (sym is)
    (subst (λ (p : List ℕ). IsLeast list (k + 1) p (Some (least (old d.name.now) d.at.node))) (equal.0 refl) (here list k d (old d.name.now) read (before d.name.now)))
least_more list k d old q new read before false equal is =
    subst (λ (o : Option ℕ). IsLeast list (k + 1) q o) (sym is) (apart list k d q (old q) read (λ e. let t = equal.1 e in absurd cc) (before q))

-- ---- taken names

lt_true : (m n : ℕ) → nat_lt m n ≡ true → m < n
lt_true m n h = grind (arith, nat_tests)

true_lt : (m n : ℕ) → m < n → nat_lt m n ≡ true
true_lt m n h = grind (arith, nat_tests)

pub later_is : (u : Unit) (at : NodeRef) (q : List ℕ) (o : Option ℕ) (b : Bool) → IsFirst u at.file q o → b ≡ is_before o at.node → IsTrue b ↔ ComesLater u at q
later_is u at q None b first is = (
  λ h. absurd (let e : false ≡ true = sym is ∙ h in cc),
  λ (other, import, file, before, named). absurd (first other (file, import, named)),
)
later_is u at q (Some n) b (named, all) is = (
  λ h. (place at.file n, named.1, refl, inr (refl, lt_true n at.node (sym is ∙ h)), named.2),
  λ (other, import, file, before, name).
      let low = all other (file, import, name) in
      is ∙ true_lt n at.node (elim before [ inl less ↦ absurd (omega arith) | inr (same, less) ↦ omega arith ]),
)

pub name_some : (u : Unit) (name : List ℕ) (k : ℕ) → first_place (spelled_names u) name ≡ Some k → HasName u name
name_some u name k h =
    let f = first_is (λ spelling. bytes_eq spelling name) 0 (spelled_names u) k h in
    by f.at f.item ((bytes_eq-Decides f.item name).0 f.passes) (slice_get (package_names u) f.at) refl (sym (slice_get-map (name_at u) (package_names u) f.at) ∙ f.there) where
      by : (i : ℕ) (item : List ℕ) → item ≡ name → (o : Option NodeRef) → slice_get (package_names u) i ≡ o → option_map (name_at u) o ≡ Some item → HasName u name
      by i item same None e h = absurd cc
      by i item same (Some n) e h = (n, contains_at (package_names u) i n e, some_is (name_at u n) item h ∙ same)

pub name_none : (u : Unit) (name : List ℕ) → first_place (spelled_names u) name ≡ None → HasName u name → ⊥
name_none u name h (n, has, named) =
    let s = stands_in (package_names u) n has in
    let not : bytes_eq (name_at u n) name ≡ false =
    none_is (λ spelling. bytes_eq spelling name) 0 (spelled_names u) h s.0 (name_at u n)
    (slice_get-map (name_at u) (package_names u) s.0 ∙ ap (option_map (name_at u)) s.1) in
    let is : bytes_eq (name_at u n) name ≡ true = (bytes_eq-Decides (name_at u n) name).1 named in
    absurd cc

-- ---- used imports

import_back : (f : ℕ) (x : Option Object) (j : ℕ) → import_in f x ≡ Some j → x ≡ Some (o.Import (place f j))
import_back f None j h = absurd cc
import_back f (Some (o.Import m)) j h = by (m.file == f) refl h where
  eq_true : (a b : ℕ) → (a == b) ≡ true → a ≡ b
  eq_true a b h = grind (arith, nat_tests)

  node_is : (m : NodeRef) → Some m.node ≡ Some j → m.node ≡ j
  node_is m h = cc

  by : (b : Bool) → (m.file == f) ≡ b → (if b then Some m.node else None) ≡ Some j → Some (o.Import m) ≡ Some (o.Import (place f j))
  by true e h = ap (λ (x : NodeRef). Some (o.Import x)) (same_ref m f j (eq_true m.file f e) (node_is m h))
  by false e h = absurd cc
import_back f (Some (o.Universe i)) j h = absurd cc
import_back f (Some (o.Local m)) j h = absurd cc
import_back f (Some (o.Package m)) j h = absurd cc

import_forth : (f j : ℕ) → import_in f (Some (o.Import (place f j))) ≡ Some j
import_forth f j = by (f == f) (itself f) where
  itself : (a : ℕ) → (a == a) ≡ true
  itself a = grind (arith, nat_tests)

  by : (b : Bool) → b ≡ true → (if b then Some j else None) ≡ Some j
  by true e = refl
  by false e = absurd cc

node_low : (u : Unit) (at : NodeRef) (x : Object) → object_at u at ≡ Some x → at.node < length (nodes_at u at.file)
node_low u at x h = by (node_at u at) refl h where
  by : (o : Option Node) → node_at u at ≡ o → option_and_then (λ (node : Node). object_in u.uses at) o ≡ Some x → at.node < length (nodes_at u at.file)
  by None e h = absurd cc
  by (Some node) e h = slice_get_within (nodes_at u at.file) at.node node e

-- what a node uses it denotes
used_denotes : (names : Bool) (o : Option Object) (x : Object) → (if names then None else o) ≡ Some x → o ≡ Some x
used_denotes true o x h = absurd cc
used_denotes false o x h = h

pub used_noted : (u : Unit) (marks : Item → Meaning) (at : NodeRef) (used : ℕ → Bool) → AreUsed u marks at.file (length (nodes_at u at.file)) used → IsTrue (used at.node) ↔ IsUsed u marks at
used_noted u marks at used are = (
  λ h. let (k, low, uses) = (are at.node).0 h in (place at.file k, refl, import_back at.file (uses_at u marks (place at.file k)) at.node uses),
  λ (n, file, uses).
      let same = same_ref n at.file n.node file refl in
      let low = node_low u n (o.Import at) (used_denotes (names_field u marks n) (object_at u n) (o.Import at) uses) in
      (are at.node).1 (
        n.node,
        subst (λ g. n.node < length (nodes_at u g)) file low,
        ap (import_in at.file) (ap (uses_at u marks) (sym same) ∙ uses) ∙ import_forth at.file at.node,
      ),
)

pub unused_is : (u : Unit) (marks : Item → Meaning) (at : NodeRef) (used : ℕ → Bool) (b : Bool) → AreUsed u marks at.file (length (nodes_at u at.file)) used → import_limit u at ≡ None → b ≡ used at.node
    → IsTrue (not b) ↔ IsUnused u marks at
unused_is u marks at used true are none is = (
  λ h. absurd cc,
  λ (limit, unused). absurd (unused ((used_noted u marks at used are).0 (sym is))),
)
unused_is u marks at used false are none is = (
  λ h. (none, λ uses. let e : false ≡ true = is ∙ (used_noted u marks at used are).1 uses in absurd cc),
  λ unused. refl,
)

-- ---- faults

pub import_gains : (u : Unit) (marks : Item → Meaning) (at : NodeRef) (name : List ℕ) (taken unused : Bool) (lies : Place) (old mid new : List Refusal) → lies ≡ place_of (bare u) at → (IsTrue taken ↔ IsTaken u at name)
    → (IsTrue unused ↔ IsUnused (bare u) marks at) → Gains (RefusesIf taken lies REDECLARED) old mid → Gains (RefusesIf unused lies UNUSED_IMPORT) mid new → Gains (RefusesName u marks at name) old new
import_gains u marks at name taken unused lies old mid new is is_taken is_unused first second =
    gains_as (λ x. RefusesIf taken lies REDECLARED x ⊎ RefusesIf unused lies UNUSED_IMPORT x) (RefusesName u marks at name) old new
    (gains_then (RefusesIf taken lies REDECLARED) (RefusesIf unused lies UNUSED_IMPORT) old mid new first second) (λ x. (
      λ h. elim h [
        | inl (broken, same) ↦ (ap (λ (y : Refusal). y.place) same ∙ is, inl (ap (λ (y : Refusal). y.fault) same, is_taken.0 broken))
        | inr (broken, same) ↦ (ap (λ (y : Refusal). y.place) same ∙ is, inr (ap (λ (y : Refusal). y.fault) same, (is_unused.0 broken).0, (is_unused.0 broken).1))
      ],
      λ (here, fault). elim fault [
        | inl (redeclared, holds) ↦ inl (is_taken.1 holds, same_refusal x lies (RuleFault REDECLARED) (here ∙ sym is) redeclared)
        | inr (never, limit, holds) ↦ inr (is_unused.1 (limit, holds), same_refusal x lies (RuleFault UNUSED_IMPORT) (here ∙ sym is) never)
      ],
    ))

-- the import at a place of the list
pub name_gains : (u : Unit) (marks : Item → Meaning) (list : List Declared) (k : ℕ) (d : Declared) (old new : List Refusal) → slice_get list k ≡ Some d → Gains (RefusesName u marks d.at d.name.now) old new
    → Gains (RefusesNthName u marks list k) old new
name_gains u marks list k d old new read gains = gains_some (slice_get list k) (λ (e : Declared). RefusesName u marks e.at e.name.now) d old new read gains

pub names_gain : (u : Unit) (marks : Item → Meaning) (f : ℕ) (names : List Declared) (old new : List Refusal) → AreNames u f names → Gains (SomeBelow (length names) (RefusesNthName u marks names)) old new
    → Gains (RefusesImports u marks f) old new
names_gain u marks f names old new are gains =
    gains_as (SomeBelow (length names) (RefusesNthName u marks names)) (RefusesImports u marks f) old new gains (λ x. (
      λ (k, low, (d, read, refuses)). (d.at, d.name.now, named_at u f names k d are read, refuses),
      λ (at, name, named, refuses).
          let s = from_names u f names name at are named in (
            s.place,
            slice_get_within names s.place s.item s.there,
            (
              s.item,
              s.there,
              subst (λ (a : NodeRef). RefusesName u marks a s.item.name.now x) (sym s.node) (subst (λ (q : List ℕ). RefusesName u marks at q x) (sym s.named) refuses),
            ),
          ),
    ))

pub no_imports : (u : Unit) (marks : Item → Meaning) (f : ℕ) (list : List Refusal) → tree_at u f ≡ None → Gains (RefusesImports u marks f) list list
no_imports u marks f list none = gains_none (RefusesImports u marks f) list list refl (λ x (at, name, named, refuses).
    differ (tree_at u f) named.1.0 none (ap (tree_at u) (sym named.0) ∙ named.1.1)) where
      differ : (o : Option FileTree) (t : FileTree) → o ≡ None → o ≡ Some t → ⊥
      differ o t p q = cc

-- ---- the names of a file's imports

pub lines_size : (tree : FileTree) (source : List ℕ) (specs : List ℕ) (lines : List ImportLine) → specs ≡ specs_in tree tree.tops → lines ≡ imports_of tree source tree.tops → length lines ≡ length specs
lines_size tree source specs lines is_specs is_lines =
    ap length (is_lines ∙ lines_are tree source tree.tops) ∙ (map_size (import_line tree source) (specs_in tree tree.tops) ∙ ap length (sym is_specs))

name_is : (u : Unit) (at : NodeRef) (tree : FileTree) → tree_at u at.file ≡ Some tree → import_name u at ≡ line_name (known_of u.env) (import_line tree (text_in u at.file) at.node)
name_is u at tree there = ap (λ (o : Option FileTree). option_map_or (λ (tree : FileTree). line_name (known_of u.env) (import_line tree (text_in u at.file) at.node)) o None) there

pub are_names : (u : Unit) (f : ℕ) (tree : FileTree) (specs : List ℕ) (lines : List ImportLine) (names : List Declared) → tree_at u f ≡ Some tree → specs ≡ specs_in tree tree.tops
    → lines ≡ imports_of tree (text_in u f) tree.tops → pairs names ≡ imported (known_of u.env) f specs lines → AreNames u f names
are_names u f tree specs lines names there is_specs is_lines is = record { each = λ at name. (λ has. down at name has, λ named. up at name named) } where
  text : List ℕ
  text = text_in u f

  whole : pairs names ≡ imported (known_of u.env) f (specs_in tree tree.tops) (map (import_line tree (text_in u f)) (specs_in tree tree.tops))
  whole =
      is ∙ (ap (λ l. imported (known_of u.env) f l lines) is_specs
      ∙ ap (λ l. imported (known_of u.env) f (specs_in tree tree.tops) l) (is_lines ∙ lines_are tree (text_in u f) tree.tops))

  down : (at : NodeRef) (name : List ℕ) → Contains (pairs names) (name, at) → Names u f at name
  down at name has =
      let r = from_imported (known_of u.env) f (import_line tree (text_in u f)) (specs_in tree tree.tops) name at (subst (λ (l : List (List ℕ × NodeRef)). Contains l (name, at)) whole has) in
      let here : tree_at u at.file ≡ Some tree = ap (tree_at u) r.0 ∙ there in
      (r.0, (tree, here, r.1), name_is u at tree here ∙ (ap (λ g. line_name (known_of u.env) (import_line tree (text_in u g) at.node)) r.0 ∙ r.2))

  up : (at : NodeRef) (name : List ℕ) → Names u f at name → Contains (pairs names) (name, at)
  up at name (file, (other, here, has), named) =
      let same : other ≡ tree = same_some (tree_at u f) other tree (ap (tree_at u) (sym file) ∙ here) there in
      let among : Contains (specs_in tree tree.tops) at.node = subst (λ (t : FileTree). Contains (specs_in t t.tops) at.node) same has in
      let line : line_name (known_of u.env) (import_line tree (text_in u f) at.node) ≡ Some name =
      ap (λ g. line_name (known_of u.env) (import_line tree (text_in u g) at.node)) (sym file) ∙ (sym (name_is u at tree (ap (tree_at u) file ∙ there)) ∙ named) in
      subst (λ (l : List (List ℕ × NodeRef)). Contains l (name, at)) (sym whole)
      (subst (λ (a : NodeRef). Contains (imported (known_of u.env) f (specs_in tree tree.tops) (map (import_line tree (text_in u f)) (specs_in tree tree.tops))) (name, a))
      (sym (same_ref at f at.node file refl))
      (to_imported (known_of u.env) f (import_line tree (text_in u f)) (specs_in tree tree.tops) name at.node among line))

pub none_of : {X : Type 0} (o : Option X) (b : Bool) → b ≡ is_some o → b ≡ false → o ≡ None
none_of None b is h = refl
none_of (Some x) b is h = absurd cc
