-- The functions of a package as items, and what is found of them.
use Rattle.std.proofs.Common.{◌≡◌, ◌⊎◌, ◌↔◌, ◌<◌, ◌==◌, inl, inr, ℕ, zero, suc, Bool, true, false, not, ◌&&◌, ◌||◌, List, [], ◌∷◌, map, length, Option, Some, None, refl, sym, ap, ◌∙◌, subst, if◌then◌else◌, arith}
use Rattle.std.specs.Prelude.{slice_get, option_map, option_and_then, bytes_eq}
use Rattle.std.specs.List.{Contains, list_any}
use Rattle.std.specs.Option.{option_map_or}
use Rattle.std.proofs.lemmas.Bool.{eq-eqb}
use Rattle.std.proofs.lemmas.Option.{slice_get_within}
use Rattle.fact_codec.specs.declared.wraps.WrapKind.{WrapKind}
use Rattle.go_tree.specs.declared.tree.NodeRef.{NodeRef}
use Rattle.least.specs.Least.{IsLeast}
use Rattle.least.specs.Numbered.{IsNumbering}
use Rattle.least.specs.Tables.{Member, member, home}
use Rattle.least.specs.Work.{among, set_of}
use Rattle.own_functions.specs.Functions.{Named, name_in, node_in, functions, names, first_of, nth_name, number, member_at, declared_at}
use Rattle.own_functions.proofs.NameLemmas.{both_true, bytes_same, place_there, place_none, mapped_there}
use Rattle.own_functions.proofs.NumberLemmas.{number_below, numbered}
use Rattle.typed_marks.specs.declared.item.Item.{Item}
use Rattle.typed_marks.specs.Meanings.{Meaning}
use Rattle.unit_read.specs.Units.{Unit}
use Rattle.vet_printf.specs.declared.buckets.Buckets.{Buckets}
use Rattle.vet_printf.specs.declared.known.Known.{Known}
use Rattle.vet_printf.specs.declared.shapes.Shape.{Shape}
use Rattle.vet_printf.specs.Forwards.{Forwards, declared_takes, takes_named, is_listed_name, is_listed, listed_in}
use Rattle.vet_printf.specs.Handing.{numbers_in, item_of, forwards_by}
use Rattle.vet_printf.specs.InTable.{flag_at, row_of, AreBelow, AreEach}
use Rattle.vet_printf.specs.InTable as table
use Rattle.vet_printf.specs.Items.{forwards_in, IsItemAs, AreItemsAs, ArePrintingFlags}
use Rattle.vet_printf.specs.Knowing.{handed_in, called_at, IsKnown}
use Rattle.vet_printf.specs.Walk.{walk_files, AreFilled}
use Rattle.vet_printf.specs.Wraps.{number_of, listed_as, forwards_as}
use Rattle.vet_printf.specs.Wrappers.{Admits, HandsTo, IsItem, AreItems}
use Rattle.vet_printf.proofs.HandingLemmas.{some_true, numbers_only, item_is, forwards_told, cells_named, bytes_same as spelled_same}
use Rattle.vet_printf.proofs.ReaderLemmas.{same_some, either}
use Rattle.vet_printf.proofs.WalkLemmas.{walked}
use Rattle.vet_printf.proofs.WrapNumbers.{by_items}

-- ---- the first of a name

-- what a first place says
record IsFirst (u : Unit) (i j : ℕ) : Type 0 where
  pub below : j < length (functions u)
  pub name : nth_name u j ≡ nth_name u i
  pub first : first_of u (nth_name u j) ≡ Some j

first_is : (u : Unit) (i j : ℕ) → first_of u (nth_name u i) ≡ Some j → IsFirst u i j
first_is u i j e =
    let (x, there, same) = mapped_there name_in (functions u) j (nth_name u i) (place_there (names u) (nth_name u i) j e) in
    let name : nth_name u j ≡ nth_name u i = ap (λ (o : Option Named). option_map_or name_in o []) there ∙ same in
    record { below = slice_get_within (functions u) j x there; name = name; first = ap (first_of u) name ∙ e }

-- a function's name has a first place
pub own_first : (u : Unit) (i : ℕ) (o : Option ℕ) → i < length (functions u) → first_of u (nth_name u i) ≡ o → o ≡ None → ⊥
own_first u i o low e none =
    let x = there (functions u) i low in
    place_none (names u) (nth_name u i) i (e ∙ none) (mapped (functions u) i x.0 x.1 ∙ ap (λ q. Some q) (sym (ap (λ (p : Option Named). option_map_or name_in p []) x.1))) where
      there : (xs : List Named) (k : ℕ) → k < length xs → (x : Named) × (slice_get xs k ≡ Some x)
      there [] k low = absurd (omega (arith, low))
      there (x ∷ xs) zero low = (x, refl)
      there (x ∷ xs) (suc k) low = there xs k (omega (arith, low))

      mapped : (xs : List Named) (k : ℕ) (x : Named) → slice_get xs k ≡ Some x → slice_get (map name_in xs) k ≡ Some (name_in x)
      mapped [] k x e = absurd (cc)
      mapped (y ∷ xs) zero x e = ap (λ (z : Named). Some (name_in z)) (same_some e)
      mapped (y ∷ xs) (suc k) x e = mapped xs k x e

shape_is : (x : Shape) (parted : Bool) (parts : List ℕ) → x.parted ≡ parted → x.parts ≡ parts → x ≡ record { parted = parted; parts = parts }
shape_is x parted parts e f = ap (λ (b : Bool). shape b x.parts) e ∙ ap (λ (l : List ℕ). shape parted l) f where
  shape : Bool → List ℕ → Shape
  shape b l = record { parted = b; parts = l }

and_holds : (a b : Bool) → a ≡ true → (a && b) ≡ b
and_holds a b e = ap (λ x. x && b) e

-- ---- what is declared has a number

declared_first : (o : Option ℕ) (u : Unit) (at : NodeRef) → option_map node_in (option_and_then (slice_get (functions u)) o) ≡ Some at → o ≡ None → ⊥
declared_first o u at e none = differ (option_map node_in (option_and_then (slice_get (functions u)) o)) at (ap (λ (p : Option ℕ). option_map node_in (option_and_then (slice_get (functions u)) p)) none) e where
  differ : (p : Option NodeRef) (at : NodeRef) → p ≡ None → p ≡ Some at → ⊥
  differ p at x y = cc

unnumbered : (kind : ℕ) (u : Unit) (m : Member) (at : NodeRef) → (m.kind == kind) ≡ true → bytes_eq m.path u.path ≡ true → declared_at u m.name ≡ Some at → number kind u m ≡ None → ⊥
unnumbered kind u m at of own declared none =
    declared_first (first_of u m.name) u at declared
    (sym (ap (λ b. if (b && bytes_eq m.path u.path) then first_of u m.name else None) of ∙ ap (λ b. if b then first_of u m.name else None) own) ∙ none)

module _ (k : Known) (u : Unit) (marks : Item → Meaning) (known : IsKnown u marks k) where
  abbrev listed : Member → Bool
  listed m = listed_in (declared_at u) u marks m

  abbrev forwards : Member → List Member
  forwards m = forwards_in k u marks m

  pub forwards_are : (m g : Member) → Contains (forwards m) g ↔ Forwards (declared_at u) u marks m g
  forwards_are m g = forwards_told (called_at k) (declared_at u) u marks (cells_named u marks k.cells.now known.cells) m g

  -- ---- items

  -- the item of a function is that of the bucket of the first of its name
  pub item_told : (kind i j : ℕ) (b : Buckets) (x : Shape) (is : Bool) → first_of u (nth_name u i) ≡ Some j → AreFilled k u kind (walk_files (called_at k) u marks kind (length u.trees)) b
      → is ≡ is_listed (declared_at u) u marks kind (nth_name u i) → x.parted ≡ not (is || flag_at b.settled.items j) → x.parts ≡ row_of b.parts.items j → IsItemAs k u marks kind i x
  item_told kind i j b x is e filled told parted parts =
      let f = first_is u i j e in
      let m : Member = member_at kind u i in
      let lists : walk_files (called_at k) u marks kind (length u.trees) j ≡ forwards m = walked (called_at k) u marks kind j f.first ∙ ap (λ (q : List ℕ). forwards (member u.path q kind)) f.name in
      let settled : flag_at b.settled.items j ≡ list_any (handed_in k) (forwards m) = filled.settles j f.below ∙ ap (list_any (handed_in k)) lists in
      let own : is ≡ listed m = told ∙ sym (and_holds (bytes_eq u.path u.path) (is_listed (declared_at u) u marks kind (nth_name u i)) (bytes_same u.path)) in
      shape_is x (not (listed m || list_any (handed_in k) (forwards m))) (numbers_in (number kind u) (forwards m))
      (parted ∙ (ap (λ c. not (c || flag_at b.settled.items j)) own ∙ ap (λ c. not (listed m || c)) settled))
      (parts ∙ (filled.numbers j f.below ∙ ap (numbers_in (number kind u)) lists))

  pub items_below : (kind : ℕ) (items : List Shape) → AreItemsAs k u marks kind items → AreBelow items
  items_below kind items are i j (x, there, has) =
      let parts = ap (λ (y : Shape). y.parts) (are.each i x there) in
      let r = numbers_only (number kind u) (forwards (member_at kind u i)) j (subst (λ (l : List ℕ). Contains l j) parts has) in
      let low = number_below kind u r.0 j r.2 in
      let size = are.size in
      omega (arith, low, size)

  -- what has no number isn't admitted
  unadmitted : (kind : WrapKind) (N : Member → Bool) (m : Member) → number (number_of kind) u m ≡ None → Admits (listed_as kind listed) (HandsTo (forwards_as kind forwards)) N m → ⊥
  unadmitted kind N m none (inl is) =
      let a = both_true (m.kind == number_of kind) (listed m) is in
      let b = both_true (bytes_eq m.path u.path) (is_listed (declared_at u) u marks m.kind m.name) a.1 in
      let c = both_true (is_listed_name u.path m.kind m.name) (takes_named (declared_at u) u marks m.kind m.name) b.1 in
      let d = some_true (declared_takes u marks m.kind) (declared_at u m.name) c.1 in
      unnumbered (number_of kind) u m d.0 a.0 b.0 d.1 none
  unadmitted kind N m none (inr (g, there, is)) = by (m.kind == number_of kind) refl there where
    none_in : Contains [] g → ⊥
    none_in (j, low, e) = omega arith

    by : (b : Bool) → (m.kind == number_of kind) ≡ b → Contains (if b then forwards m else []) g → ⊥
    by true of has = let (f, n, h) = (forwards_are m g).0 has in unnumbered (number_of kind) u m _ of (spelled_same m.path u.path h.own) h.declares none
    by false of has = none_in has

  items_are : (kind : WrapKind) (items : List Shape) → AreItemsAs k u marks (number_of kind) items
      → AreItems (listed_as kind listed) (HandsTo (forwards_as kind forwards)) u.path (handed_in k) (number (number_of kind) u) (member_at (number_of kind) u) items
  items_are kind items are = record {
    numbering = subst (λ (n : ℕ). IsNumbering home (Admits (listed_as kind listed) (HandsTo (forwards_as kind forwards))) u.path n (number (number_of kind) u) (member_at (number_of kind) u)) (sym are.size)
        (numbered (Admits (listed_as kind listed) (HandsTo (forwards_as kind forwards))) (number_of kind) u (unadmitted kind));
    each = λ i x there. one i x (are.each i x there);
  } where
    same : (number_of kind == number_of kind) ≡ true
    same = eq-eqb (number_of kind) (number_of kind) refl

    one : (i : ℕ) (x : Shape) → IsItemAs k u marks (number_of kind) i x → IsItem (listed_as kind listed) (HandsTo (forwards_as kind forwards)) (handed_in k) (number (number_of kind) u) (member_at (number_of kind) u i) x
    one i x is =
        let m : Member = member_at (number_of kind) u i in
        let given = handed_in k in
        let numbers = number (number_of kind) u in
        let l : listed m ≡ listed_as kind listed m = sym (and_holds (number_of kind == number_of kind) (listed m) same) in
        let f : forwards m ≡ forwards_as kind forwards m = sym (ap (λ b. if b then forwards m else []) same) in
        subst (λ (y : Shape). IsItem (listed_as kind listed) (HandsTo (forwards_as kind forwards)) given numbers m y)
        (sym (is ∙ (ap (λ b. item_of given numbers b (forwards m)) l ∙ ap (λ (q : List Member). item_of given numbers (listed_as kind listed m) q) f)))
        (item_is (listed_as kind listed) (forwards_as kind forwards) given numbers m)

  -- the flags that are found are those of the functions that print in this way
  pub flags_are : (kind : WrapKind) (items : List Shape) (flags : List Bool) → AreItemsAs k u marks (number_of kind) items → IsLeast (among (length items) (table.Admits [] items)) (set_of flags)
      → ArePrintingFlags k u marks kind flags
  flags_are kind items flags are least = record {
    least = by_items (listed_as kind listed) (HandsTo (forwards_as kind forwards)) u.path (handed_in k) (number (number_of kind) u) (member_at (number_of kind) u) items (items_are kind items are) (set_of flags) least;
  }
