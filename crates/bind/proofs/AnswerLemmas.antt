-- What a node denotes, from the tables of names.
use Rattle.std.proofs.Common.{◌≡◌, ℕ, zero, suc, ◌+◌, ◌<◌, ◌≤◌, ◌⊎◌, List, [], ◌∷◌, Bool, true, false, cond, Option, Some, None, option_map, option_and_then, get_or, length, slice_get, refl, sym, ap, ◌∙◌, subst, inl, inr, arith}
use Rattle.std.specs.Prelude.{codes}
use Rattle.std.specs.Bool.{Decides}
use Rattle.std.specs.Str.{bytes_eq}
use Rattle.std.proofs.lemmas.Bool.{lt-ltb}
use Rattle.std.proofs.lemmas.Option.{slice_get_within}
use Rattle.std.proofs.lemmas.Slice.Eq.{bytes_eq-Decides}
use Rattle.go_tree.specs.declared.bindings.Object.{Object}
use Rattle.go_tree.specs.declared.bindings.Object.TheVariants.{Universe, Import, Local, Package}
use Rattle.go_tree.specs.declared.tree.FileTree.{FileTree}
use Rattle.go_tree.specs.declared.tree.NodeRef.{NodeRef}
use Rattle.scopes.specs.declared.scope.Named.{Named}
use Rattle.gv_base.proofs.Lists.{same_some}
use Rattle.file_uses.specs.Locals.{LocalAnswer, DenotesLocal}
use Rattle.file_uses.specs.Numbers.{name_in}
use Rattle.file_uses.proofs.FileLemmas.{file_laid}
use Rattle.file_uses.proofs.NumberLemmas.{outside}
use Rattle.bind.specs.Answers.{IsRead, Tables, used_name, unless_blank, local_node, narrow_byte, named_answer, answer_of, chosen}
use Rattle.bind.specs.Answers as answers
use Rattle.bind.specs.Denoting.{IsAnswer, DenotesBy}
use Rattle.bind.specs.Imports.{IsImportName}
use Rattle.bind.specs.Package.{narrow, ref}
use Rattle.bind.specs.Places.{place_from}
use Rattle.bind.specs.Sources.{Source, Sources, IsPackageName, IsEarlier, IsUse, name_of, names_in}
use Rattle.bind.specs.Universe.{predeclared}
use Rattle.bind.specs.declared.file.File.{File}
use Rattle.bind.proofs.RegionLemmas.{NoLocal, no_local, local_innermost, package_innermost, import_innermost, undeclared}

-- ---- numbers that fit

pub narrow_low : (n : ℕ) → n < 4294967296 → narrow n ≡ n
narrow_low n h = ap (λ b. cond b n 0) (lt-ltb n 4294967296 h)

pub byte_low : (n : ℕ) → n < 256 → narrow_byte n ≡ n
byte_low n h = ap (λ b. cond b n 0) (lt-ltb n 256 h)

-- ---- the predeclared names

some_nat : (a b : ℕ) → Some a ≡ Some b → a ≡ b
some_nat a b e = cc

some_text : (a b : List ℕ) → Some a ≡ Some b → a ≡ b
some_text a b e = cc

-- a name's place is one of the list
abbrev pub IsPlacedAt : List (List ℕ) → ℕ → ℕ → List ℕ → Type 0
IsPlacedAt xs i k q = (j : ℕ) × (k ≡ i + j) × (slice_get xs j ≡ Some q)

placed_step : (x : List ℕ) (xs : List (List ℕ)) (i k : ℕ) (q : List ℕ) (same : Bool) → Decides same (x ≡ q) → (place_from (suc i) xs q ≡ Some k → IsPlacedAt xs (suc i) k q)
    → cond same (Some i) (place_from (suc i) xs q) ≡ Some k → IsPlacedAt (x ∷ xs) i k q
placed_step x xs i k q true d others e = (0, (let s : i ≡ k = some_nat i k e in omega arith), ap (λ y. Some y) (d.0 refl))
placed_step x xs i k q false d others e = let r = others e in (suc r.0, more k i r.0 r.1, r.2) where
  more : (a b j : ℕ) → a ≡ suc b + j → a ≡ b + suc j
  more a b j e = omega arith

pub placed_there : (xs : List (List ℕ)) (i k : ℕ) (q : List ℕ) → place_from i xs q ≡ Some k → IsPlacedAt xs i k q
placed_there [] i k q e = absurd (cc)
placed_there (x ∷ xs) i k q e = placed_step x xs i k q (bytes_eq x q) (bytes_eq-Decides x q) (λ f. placed_there xs (suc i) k q f) e

nowhere_step : (x : List ℕ) (xs : List (List ℕ)) (i : ℕ) (q : List ℕ) (same : Bool) → Decides same (x ≡ q) → (place_from (suc i) xs q ≡ None → (j : ℕ) → slice_get xs j ≡ Some q → ⊥)
    → cond same (Some i) (place_from (suc i) xs q) ≡ None → (j : ℕ) → slice_get (x ∷ xs) j ≡ Some q → ⊥
nowhere_step x xs i q true d others e j there = cc
nowhere_step x xs i q false d others e zero there = let f : false ≡ true = d.1 (some_text x q there) in cc
nowhere_step x xs i q false d others e (suc j) there = others e j there

pub placed_nowhere : (xs : List (List ℕ)) (i : ℕ) (q : List ℕ) → place_from i xs q ≡ None → (j : ℕ) → slice_get xs j ≡ Some q → ⊥
placed_nowhere [] i q e j there = cc
placed_nowhere (x ∷ xs) i q e j there = nowhere_step x xs i q (bytes_eq x q) (bytes_eq-Decides x q) (λ f. placed_nowhere xs (suc i) q f) e j there

-- ---- the tables

-- the first package-level declaration of a name
abbrev pub IsTopOf : Sources → List ℕ → Option NodeRef → Type 0
IsTopOf p q (Some at) = IsPackageName p at q × ((other : NodeRef) → IsPackageName p other q → IsEarlier p other at → ⊥)
IsTopOf p q None = (other : NodeRef) → IsPackageName p other q → ⊥

-- the first import of a name in a file
abbrev pub IsImportOf : Sources → ℕ → List ℕ → Option NodeRef → Type 0
IsImportOf p file q (Some at) = IsImportName p at q × (at.file ≡ file) × ((other : NodeRef) → other.file ≡ at.file → IsImportName p other q → other.node < at.node → ⊥)
IsImportOf p file q None = (other : NodeRef) → other.file ≡ file → IsImportName p other q → ⊥

pub record AreTables (p : Sources) (file : ℕ) (t : Tables) : Type 0 where
  pub top_names : (q : List ℕ) → IsTopOf p q (t.top_names q)
  pub imports : (q : List ℕ) → IsImportOf p file q (t.imports q)
  pub universe : (q : List ℕ) → t.universe q ≡ place_from 0 predeclared q

-- ---- uses

pub names_are : (f : File) (s : Source) → IsRead f s → (n : ℕ) → name_in f.bytes.now f.tree.now n ≡ name_of s n
names_are f s is n = ap (λ b. name_in b f.tree.now n) is.bytes ∙ ap (λ (t : FileTree). name_in s.bytes t n) is.tree

blank_cases : (o : Option (List ℕ)) (q : List ℕ) → unless_blank o ≡ Some q → (o ≡ Some q) × (bytes_eq q (codes "_") ≡ false)
blank_cases None q e = absurd (cc)
blank_cases (Some name) q e = at (bytes_eq name (codes "_")) refl where
  some_same : (a b : List ℕ) → Some a ≡ Some b → a ≡ b
  some_same a b e = cc

  at : (b : Bool) → bytes_eq name (codes "_") ≡ b → (Some name ≡ Some q) × (bytes_eq q (codes "_") ≡ false)
  at true is = absurd (let f : None ≡ Some q = sym (ap (λ b. cond b None (Some name)) is) ∙ e in cc)
  at false is =
      let same : name ≡ q = some_same name q (sym (ap (λ b. cond b None (Some name)) is) ∙ e) in
      (ap (λ x. Some x) same, ap (λ x. bytes_eq x (codes "_")) (sym same) ∙ is)

from_blank : (o : Option (List ℕ)) (q : List ℕ) → o ≡ Some q → bytes_eq q (codes "_") ≡ false → unless_blank o ≡ Some q
from_blank o q e f = ap unless_blank e ∙ ap (λ b. cond b None (Some q)) f

pub used : (f : File) (s : Source) (n : ℕ) (q : List ℕ) → IsRead f s → used_name f n ≡ Some q → IsUse s n q
used f s n q is e = at (get_or f.locals.uses.items n false) refl where
  at : (b : Bool) → get_or f.locals.uses.items n false ≡ b → IsUse s n q
  at false g = absurd (let h : None ≡ Some q = sym (ap (λ b. cond b (unless_blank (name_in f.bytes.now f.tree.now n)) None) g) ∙ e in cc)
  at true g =
      let o : unless_blank (name_in f.bytes.now f.tree.now n) ≡ Some q = sym (ap (λ b. cond b (unless_blank (name_in f.bytes.now f.tree.now n)) None) g) ∙ e in
      let c = blank_cases (name_in f.bytes.now f.tree.now n) q o in
      (sym (names_are f s is n) ∙ c.0, c.1, is.locals.uses.uses n g)

pub not_used : (f : File) (s : Source) (n : ℕ) → IsRead f s → n < length s.tree.nodes → used_name f n ≡ None → (q : List ℕ) → IsUse s n q → ⊥
not_used f s n is low e q (name, blank, it_is) =
    let g : get_or f.locals.uses.items n false ≡ true = is.locals.uses.all n low it_is in
    let o : used_name f n ≡ Some q = ap (λ b. cond b (unless_blank (name_in f.bytes.now f.tree.now n)) None) g
    ∙ from_blank (name_in f.bytes.now f.tree.now n) q (names_are f s is n ∙ name) blank in
    let h : None ≡ Some q = sym e ∙ o in cc

pub name_low : (s : Source) (n : ℕ) (q : List ℕ) → name_of s n ≡ Some q → n < length s.tree.nodes
name_low s n q e = elim (in_or_out n (length s.tree.nodes)) [
  | inl low ↦ low
  | inr high ↦ absurd (let f : None ≡ Some q = sym (outside s.bytes s.tree n high) ∙ e in cc)
] where
  in_or_out : (k i : ℕ) → (k < i) ⊎ (i ≤ k)
  in_or_out k i = grind arith

-- ---- what the name denotes

-- what is found for a name in a file is what it denotes
abbrev pub IsFound : Sources → NodeRef → List ℕ → Option Object → Type 0
IsFound p at q (Some o) = DenotesBy p at q o
IsFound p at q None = (o : Object) → DenotesBy p at q o → ⊥

no_object : (p : Sources) (at : NodeRef) (q : List ℕ) → NoLocal p at q → ((other : NodeRef) → IsPackageName p other q → ⊥)
    → ((other : NodeRef) → other.file ≡ at.file → IsImportName p other q → ⊥) → ((i : ℕ) → slice_get predeclared i ≡ Some q → ⊥) → (o : Object) → DenotesBy p at q o → ⊥
no_object p at q none own imports universe (Universe i) d = universe i d.0
no_object p at q none own imports universe (Local n) d = undeclared p at q none own imports (Local n) d.region d.has d.holds
no_object p at q none own imports universe (Package n) d = undeclared p at q none own imports (Package n) d.region d.has d.holds
no_object p at q none own imports universe (Import n) d = undeclared p at q none own imports (Import n) d.region d.has d.holds

found_outside : (p : Sources) (at : NodeRef) (q : List ℕ) (top spec : Option NodeRef) (place : Option ℕ) → NoLocal p at q → IsTopOf p q top → IsImportOf p at.file q spec
    → place ≡ place_from 0 predeclared q → IsFound p at q (answers.outside top spec place)
found_outside p at q (Some m) spec place none is_top is_spec is_place = package_innermost p at m q none is_top.0 is_top.1
found_outside p at q None (Some m) place none is_top is_spec is_place = import_innermost p at m q none is_top is_spec.0 is_spec.1 is_spec.2
found_outside p at q None None (Some k) none is_top is_spec is_place = it (placed_there predeclared 0 k q (sym is_place)) where
  it : (j : ℕ) × (k ≡ 0 + j) × (slice_get predeclared j ≡ Some q) → DenotesBy p at q (Universe (narrow_byte k))
  it (j, n, there) =
      let low : j < 39 = slice_get_within predeclared j q there in
      let same : narrow_byte k ≡ j = byte_low k (omega arith) ∙ (let e : k ≡ j = omega arith in e) in
      (ap (λ x. slice_get predeclared x) same ∙ there, undeclared p at q none is_top is_spec)
found_outside p at q None None None none is_top is_spec is_place = no_object p at q none is_top is_spec (λ i there. placed_nowhere predeclared 0 q (sym is_place) i there)

some_place : (l : Option ℕ) (g : ℕ → Option ℕ) (k : ℕ) → l ≡ Some k → option_and_then g l ≡ g k
some_place l g k e = ap (λ o. option_and_then g o) e

pub found_name : (p : Sources) (s : Source) (f : File) (t : Tables) (at : NodeRef) (q : List ℕ) → slice_get p.files at.file ≡ Some s → IsRead f s → AreTables p at.file t → IsUse s at.node q
    → IsFound p at q (chosen (option_map (ref at.file) (local_node f.locals at.node)) (answers.outside (t.top_names q) (t.imports q) (t.universe q)))
found_name p s f t at q there is tables it_is = by_answer (get_or f.locals.answers.items at.node None) refl (is.locals.answers at.node low) where
  low : at.node < length s.tree.nodes
  low = name_low s at.node q it_is.0

  of_local : (k : ℕ) → get_or f.locals.answers.items at.node None ≡ Some k → DenotesLocal (name_of s) (length s.tree.nodes) (names_in s) at.node k
      → IsFound p at q (chosen (option_map (ref at.file) (local_node f.locals at.node)) (answers.outside (t.top_names q) (t.imports q) (t.universe q)))
  of_local k e a =
      let listed : slice_get f.locals.names.items k ≡ Some a.d = ap (λ x. slice_get x k) is.locals.names ∙ a.region.0 in
      let node : local_node f.locals at.node ≡ Some a.d.node =
      some_place (get_or f.locals.answers.items at.node None) (λ k. option_map (λ (d : Named). d.node) (slice_get f.locals.names.items k)) k e ∙ ap (λ o. option_map (λ (d : Named). d.node) o) listed in
      let within : a.d.node < length s.tree.nodes = name_low s a.d.node q (a.named ∙ it_is.0) in
      let fit = is.fit in
      subst (λ (o : Option ℕ). IsFound p at q (chosen (option_map (ref at.file) o) (answers.outside (t.top_names q) (t.imports q) (t.universe q)))) (sym node)
      (local_innermost p s at (ref at.file a.d.node) q k there it_is.0 a refl (narrow_low a.d.node (omega arith)))

  by_answer : (o : Option ℕ) → get_or f.locals.answers.items at.node None ≡ o → LocalAnswer (name_of s) (length s.tree.nodes) (names_in s) at.node o
      → IsFound p at q (chosen (option_map (ref at.file) (local_node f.locals at.node)) (answers.outside (t.top_names q) (t.imports q) (t.universe q)))
  by_answer (Some k) e a = of_local k e a
  by_answer None e a =
      let node : local_node f.locals at.node ≡ None = ap (λ o. option_and_then (λ k. option_map (λ (d : Named). d.node) (slice_get f.locals.names.items k)) o) e in
      subst (λ (o : Option ℕ). IsFound p at q (chosen (option_map (ref at.file) o) (answers.outside (t.top_names q) (t.imports q) (t.universe q)))) (sym node)
      (found_outside p at q (t.top_names q) (t.imports q) (t.universe q) (no_local p s at q there it_is.0 (file_laid s.forest) a) (tables.top_names q) (tables.imports q) (tables.universe q))

-- the answer for a node is what it denotes
pub answered : (p : Sources) (s : Source) (f : File) (t : Tables) (at : NodeRef) → slice_get p.files at.file ≡ Some s → IsRead f s → AreTables p at.file t → at.node < length s.tree.nodes
    → IsAnswer p at (answer_of f at.file t at.node)
answered p s f t at there is tables low = by_name (used_name f at.node) refl where
  of_found : (q : List ℕ) → IsUse s at.node q → (o : Option Object) → IsFound p at q o → IsAnswer p at o
  of_found q it_is (Some o) found = record { src = s; name = q; file = there; used = it_is; denotes = found }
  of_found q it_is None found = λ o d.
      let src : d.src ≡ s = same_some (slice_get p.files at.file) d.src s d.file there in
      let name : d.name ≡ q = some_text d.name q (sym d.used.0 ∙ (ap (λ (x : Source). name_of x at.node) src ∙ it_is.0)) in
      found o (subst (λ (x : List ℕ). DenotesBy p at x o) name d.denotes)

  by_name : (o : Option (List ℕ)) → used_name f at.node ≡ o → IsAnswer p at (named_answer f at.file t at.node o)
  by_name None e = λ o d.
      let src : d.src ≡ s = same_some (slice_get p.files at.file) d.src s d.file there in
      not_used f s at.node is low e d.name (subst (λ (x : Source). IsUse x at.node d.name) src d.used)
  by_name (Some q) e = of_found q (used f s at.node q is e) _ (found_name p s f t at q there is tables (used f s at.node q is e))
