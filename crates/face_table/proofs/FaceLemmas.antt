-- Packages are declared, one after the other.
use Rattle.std.proofs.Common.{◌≡◌, ◌⊎◌, ℕ, zero, suc, ◌+◌, ◌<◌, ◌≤◌, ◌==◌, ◌&&◌, Bool, true, false, not, cond, if◌then◌else◌, List, [], ◌∷◌, ◌++◌, map, take, slice_get, option_and_then, option_map, Option, Some, None, refl, sym, ap, ◌∙◌, subst, inl, inr, arith}
use Rattle.std.specs.List.{position_from}
use Rattle.std.specs.Option.{option_or}
use Rattle.std.specs.Str.{bytes_eq}
use Rattle.std.proofs.lemmas.Bool.{eqb-true, eq-eqb}
use Rattle.std.proofs.lemmas.Slice.Eq.{bytes_eq-Decides}
use Rattle.std.proofs.Math.Path.{fun_ext}
use Rattle.go_tree.specs.Lexeme.{place_of}
use Rattle.package_faces.specs.Declaring.{first_named, path_of, defined_name, declaration_out, declared_in, declared_by}
use Rattle.package_faces.specs.Faces.{DefinedOut, Face}
use Rattle.package_faces.specs.Reaching.{own_name}
use Rattle.type_growth.specs.Growth.{Grows}
use Rattle.type_growth.proofs.GrowthLaws.{meets_grows}
use Rattle.type_model.specs.declared.term.TypeName.{TypeName}
use Rattle.type_model.specs.declared.table.TypeTable.{TypeTable}
use Rattle.type_model.specs.Declarations.{Declaration, Declarations, Meets}
use Rattle.type_model.specs.GoTypes.{is_defined}
use Rattle.type_model.specs.Tables.{IsTable, declarations_in, is_same_name, terms_in}
use Rattle.type_model.proofs.TypeLaws.{extends-itself}
use Rattle.typed_tree.specs.Universe.{error_name}
use Rattle.unit_read.specs.Units.{error_declaration}
use Rattle.face_table.specs.Fitting.{AreFit, AreFresh, Counts, Declares, DeclaresFace, DeclaresTypes, IsStuckAt, counts_at, given, is_place, names_in, paths_in, universe, with_face, with_types}
use Rattle.face_table.proofs.DeclareLemmas.{one_name, name_itself}
use Rattle.face_table.proofs.GivenLemmas.{first_cons, first_push, its_name, other_name, declared_first}

-- ---- what stands first

suc_same : (j k : ℕ) → (suc j == suc k) ≡ (j == k)
suc_same j k = by (j == k) refl where
  other : (c : Bool) → (suc j == suc k) ≡ c → (j == k) ≡ false → (suc j == suc k) ≡ false
  other false is e = is
  other true is e =
      let sucs : suc j ≡ suc k = eqb-true (suc j) (suc k) is in
      let one : j ≡ k = omega arith in
      let told : (j == k) ≡ true = eq-eqb j k one in
      absurd cc

  by : (b : Bool) → (j == k) ≡ b → (suc j == suc k) ≡ b
  by true e = eq-eqb (suc j) (suc k) (ap suc (eqb-true j k e))
  by false e = other (suc j == suc k) refl e

module _ {X : Type 0} (name_of : X → List ℕ) (n : List ℕ) where
  place_up : (k : ℕ) (o : Option ℕ) → is_place (suc k) (option_map suc o) ≡ is_place k o
  place_up k None = refl
  place_up k (Some j) = suc_same j k

  up : (i : ℕ) (xs : List (List ℕ)) → position_from (λ spelling. bytes_eq spelling n) (i + 1) xs ≡ option_map suc (position_from (λ spelling. bytes_eq spelling n) i xs)
  up i [] = refl
  up i (x ∷ xs) = by (bytes_eq x n) (up (i + 1) xs) where
    by : (b : Bool) → position_from (λ spelling. bytes_eq spelling n) (i + 1 + 1) xs ≡ option_map suc (position_from (λ spelling. bytes_eq spelling n) (i + 1) xs)
        → cond b (Some (i + 1)) (position_from (λ spelling. bytes_eq spelling n) (i + 1 + 1) xs) ≡ option_map suc (cond b (Some i) (position_from (λ spelling. bytes_eq spelling n) (i + 1) xs))
    by true rest = let e : i + 1 ≡ suc i = omega arith in ap Some e
    by false rest = rest

  some_one : (a b : X) → Some a ≡ Some b → a ≡ b
  some_one a b e = cc

  -- whether a place is that of a list without its first
  place_on : (y : X) (xs : List X) (k : ℕ) (b : Bool) → bytes_eq (name_of y) n ≡ false → is_place (suc k) (place_of (map name_of (y ∷ xs)) n) ≡ b → is_place k (place_of (map name_of xs) n) ≡ b
  place_on y xs k b e is =
      sym (place_up k (place_of (map name_of xs) n))
      ∙ (ap (is_place (suc k)) (sym (up 0 (map name_of xs)))
      ∙ (sym (ap (λ b. is_place (suc k) (cond b (Some 0) (position_from (λ spelling. bytes_eq spelling n) 1 (map name_of xs)))) e) ∙ is))

  place_off : (y : X) (xs : List X) (k : ℕ) → bytes_eq (name_of y) n ≡ true → is_place (suc k) (place_of (map name_of (y ∷ xs)) n) ≡ false
  place_off y xs k e =
      ap (λ b. is_place (suc k) (cond b (Some 0) (position_from (λ spelling. bytes_eq spelling n) 1 (map name_of xs)))) e ∙ never k
    where
      never : (k : ℕ) → (0 == suc k) ≡ false
      never k = by (0 == suc k) refl where
        by : (b : Bool) → (0 == suc k) ≡ b → b ≡ false
        by false e = refl
        by true e = (let one : 0 ≡ suc k = eqb-true 0 (suc k) e in absurd (omega arith))

  -- what is at its first place has none of its name before it
  pub none_before : (xs : List X) (k : ℕ) (x : X) → slice_get xs k ≡ Some x → bytes_eq (name_of x) n ≡ true → is_place k (place_of (map name_of xs) n) ≡ true → first_named name_of (take k xs) n ≡ None
  none_before [] k x at named is = absurd cc
  none_before (y ∷ xs) zero x at named is = refl
  none_before (y ∷ xs) (suc k) x at named is =
      first_cons name_of n y (take k xs) ∙ by (bytes_eq (name_of y) n) refl (λ rest. none_before xs k x at named rest)
    where
      by : (b : Bool) → bytes_eq (name_of y) n ≡ b → (is_place k (place_of (map name_of xs) n) ≡ true → first_named name_of (take k xs) n ≡ None)
          → (if b then Some y else first_named name_of (take k xs) n) ≡ None
      by true e rest = (let never : is_place (suc k) (place_of (map name_of (y ∷ xs)) n) ≡ false = place_off y xs k e in absurd cc)
      by false e rest = rest (place_on y xs k true e is)

  -- what isn't has one
  pub some_before : (xs : List X) (k : ℕ) (x : X) → slice_get xs k ≡ Some x → bytes_eq (name_of x) n ≡ true → is_place k (place_of (map name_of xs) n) ≡ false
      → (y : X) × (first_named name_of (take k xs) n ≡ Some y)
  some_before [] k x at named is = absurd cc
  some_before (y ∷ xs) zero x at named is =
      let here : bytes_eq (name_of y) n ≡ true = ap (λ z. bytes_eq (name_of z) n) (some_one y x at) ∙ named in
      let there : is_place 0 (place_of (map name_of (y ∷ xs)) n) ≡ true =
      ap (λ b. is_place 0 (cond b (Some 0) (position_from (λ spelling. bytes_eq spelling n) 1 (map name_of xs)))) here in
      absurd cc
  some_before (y ∷ xs) (suc k) x at named is = by (bytes_eq (name_of y) n) refl (λ rest. some_before xs k x at named rest) where
    by : (b : Bool) → bytes_eq (name_of y) n ≡ b → (is_place k (place_of (map name_of xs) n) ≡ false → (z : X) × (first_named name_of (take k xs) n ≡ Some z))
        → (z : X) × (first_named name_of (y ∷ take k xs) n ≡ Some z)
    by true e rest = (y, first_cons name_of n y (take k xs) ∙ ap (λ b. if b then Some y else first_named name_of (take k xs) n) e)
    by false e rest =
        let found = rest (place_on y xs k false e is) in
        (found.0, first_cons name_of n y (take k xs) ∙ (ap (λ b. if b then Some y else first_named name_of (take k xs) n) e ∙ found.1))

  -- the first of some is the first of all
  pub first_of_all : (xs : List X) (k : ℕ) (y : X) → first_named name_of (take k xs) n ≡ Some y → first_named name_of xs n ≡ Some y
  first_of_all [] k y is = absurd (nothing k is) where
    nothing : (k : ℕ) → first_named name_of (take k []) n ≡ Some y → ⊥
    nothing zero e = cc
    nothing (suc k) e = cc
  first_of_all (x ∷ xs) zero y is = absurd cc
  first_of_all (x ∷ xs) (suc k) y is =
      first_cons name_of n x xs ∙ by (bytes_eq (name_of x) n) (first_of_all xs k y) (sym (first_cons name_of n x (take k xs)) ∙ is) where
        by : (b : Bool) → (first_named name_of (take k xs) n ≡ Some y → first_named name_of xs n ≡ Some y)
            → (if b then Some x else first_named name_of (take k xs) n) ≡ Some y → (if b then Some x else first_named name_of xs n) ≡ Some y
        by true rest is = is
        by false rest is = rest is

  pub first_at : (xs : List X) (k : ℕ) (x : X) → slice_get xs k ≡ Some x → place_of (map name_of xs) n ≡ Some k → first_named name_of xs n ≡ Some x
  first_at xs k x at is = ap (option_and_then (slice_get xs)) is ∙ at

itself : (path : List ℕ) → bytes_eq path path ≡ true
itself path = (bytes_eq-Decides path path).1 refl

place_true : (k : ℕ) (o : Option ℕ) → is_place k o ≡ true → o ≡ Some k
place_true k None is = absurd cc
place_true k (Some j) is = ap Some (eqb-true j k is)

pub true_place : (k : ℕ) (o : Option ℕ) → o ≡ Some k → is_place k o ≡ true
true_place k o is = ap (is_place k) is ∙ eq-eqb k k refl

-- ---- one package more

same_itself : (a : TypeName) → is_same_name a a ≡ true
same_itself a = name_itself a

whole_name : (path : List ℕ) (name : TypeName) → path ≡ name.package → name.local ≡ 0 → own_name path name.name ≡ name
whole_name path name one top = ap (λ (p : List ℕ). name_with p name.name 0) one ∙ ap (λ (l : ℕ). name_with name.package name.name l) (sym top) where
  name_with : List ℕ → List ℕ → ℕ → TypeName
  name_with owner word local = record { «package» = owner; name = word; local = local }

none_is : (o : Option Face) (n : List ℕ) → o ≡ None → option_and_then (declared_in n) o ≡ None
none_is o n is = ap (option_and_then (declared_in n)) is

abbrev pub by_local : TypeName → Option Declaration → Option Declaration
by_local name o = if name.local == 0 then o else None

abbrev pub by_own : List ℕ → TypeName → Option Declaration → Option Declaration
by_own own name o = if bytes_eq own name.package then None else o

abbrev pub by_error : TypeName → Option Declaration → Option Declaration
by_error name o = if is_same_name name error_name then Some error_declaration else o

abbrev pub found_in : List Face → TypeName → Option Declaration
found_in faces name = option_and_then (declared_in name.name) (first_named path_of faces name.package)

module _ (own : List ℕ) (faces : List Face) (k : ℕ) (f : Face) (at : slice_get faces k ≡ Some f) where
  abbrev before : List Face
  before = take k faces

  pub counted : counts_at own faces k f ≡ true → (bytes_eq own f.path ≡ false) × (is_place k (place_of (paths_in faces) f.path) ≡ true)
  counted is = by (bytes_eq own f.path) (is_place k (place_of (paths_in faces) f.path)) is where
    by : (a b : Bool) → (not a && b) ≡ true → (a ≡ false) × (b ≡ true)
    by false true e = (refl, refl)
    by false false e = absurd cc
    by true b e = absurd cc

  pub its_counts : counts_at own faces k f ≡ true → Counts own faces k f
  its_counts is = let both = counted is in (at, place_true k (place_of (paths_in faces) f.path) both.1, both.0)

  -- nothing is given yet of the names of a package that counts, but `error`
  given_none : counts_at own faces k f ≡ true → (n : List ℕ) → given own before (own_name f.path n) ≡ by_error (own_name f.path n) None
  given_none is n =
      let both = counted is in
      ap (λ (o : Option Face). by_error (own_name f.path n) (by_own own (own_name f.path n) (option_and_then (declared_in n) o)))
      (none_before path_of f.path faces k f at (itself f.path) both.1)
      ∙ ap (λ (b : Bool). by_error (own_name f.path n) (if b then None else None)) both.0

  pushed : (p : List ℕ) → first_named path_of (before ++ f ∷ []) p ≡ option_or (first_named path_of before p) (if bytes_eq f.path p then Some f else None)
  pushed p = first_push path_of p before f

  or_none : (o : Option Face) → option_or o None ≡ o
  or_none None = refl
  or_none (Some x) = refl

  -- a package of another path changes nothing
  same_apart : (p : List ℕ) → bytes_eq f.path p ≡ false → first_named path_of (before ++ f ∷ []) p ≡ first_named path_of before p
  same_apart p apart = pushed p ∙ (ap (λ (b : Bool). option_or (first_named path_of before p) (if b then Some f else None)) apart ∙ or_none (first_named path_of before p))

  -- nor does one that isn't the first
  same_later : is_place k (place_of (paths_in faces) f.path) ≡ false → first_named path_of (before ++ f ∷ []) f.path ≡ first_named path_of before f.path
  same_later later =
      let there = some_before path_of f.path faces k f at (itself f.path) later in
      pushed f.path ∙ (ap (λ (o : Option Face). option_or o (if bytes_eq f.path f.path then Some f else None)) there.1 ∙ sym there.1)

  same_given : (name : TypeName) → (bytes_eq own name.package ≡ false → name.local ≡ 0 → first_named path_of (before ++ f ∷ []) name.package ≡ first_named path_of before name.package)
      → given own before name ≡ given own (before ++ f ∷ []) name
  same_given name same = ap (by_error name) (outer (bytes_eq own name.package) refl) where
    inner : (b : Bool) → (name.local == 0) ≡ b → bytes_eq own name.package ≡ false → (if b then found_in before name else None) ≡ (if b then found_in (before ++ f ∷ []) name else None)
    inner true e other = ap (option_and_then (declared_in name.name)) (sym (same other (eqb-true name.local 0 e)))
    inner false e other = refl

    outer : (b : Bool) → bytes_eq own name.package ≡ b → (if b then None else by_local name (found_in before name)) ≡ (if b then None else by_local name (found_in (before ++ f ∷ []) name))
    outer true e = refl
    outer false e = inner (name.local == 0) refl e

  -- a name of the package
  more_own : counts_at own faces k f ≡ true → AreFresh f.path f.types (given own before) → (n : List ℕ) → with_types f.path f.types (given own before) (own_name f.path n) ≡ given own (before ++ f ∷ []) (own_name f.path n)
  more_own is fresh n =
      let both = counted is in
      let none = none_before path_of f.path faces k f at (itself f.path) both.1 in
      let now : first_named path_of (before ++ f ∷ []) f.path ≡ Some f =
      pushed f.path ∙ (ap (λ (o : Option Face). option_or o (if bytes_eq f.path f.path then Some f else None)) none ∙ ap (λ (b : Bool). if b then Some f else None) (itself f.path)) in
      its_name f.path f.types (given own before) n fresh
      ∙ (ap (λ (o : Option Declaration). option_or o (declared_first f.types n)) (given_none is n)
      ∙ (by (is_same_name (own_name f.path n) error_name)
      ∙ (ap (λ (b : Bool). by_error (own_name f.path n) (if b then None else declared_in n f)) (sym both.0)
      ∙ ap (λ (o : Option Face). by_error (own_name f.path n) (by_own own (own_name f.path n) (option_and_then (declared_in n) o))) (sym now))))
    where
      by : (b : Bool) → option_or (if b then Some error_declaration else None) (declared_first f.types n) ≡ (if b then Some error_declaration else declared_in n f)
      by true = refl
      by false = refl

  pub given_more : (counts_at own faces k f ≡ true → AreFresh f.path f.types (given own before)) → (name : TypeName) → with_face own faces k f (given own before) name ≡ given own (before ++ f ∷ []) name
  given_more fresh name = by (counts_at own faces k f) refl where
    named_so : (b : Bool) → is_same_name (own_name f.path name.name) name ≡ b → counts_at own faces k f ≡ true → with_types f.path f.types (given own before) name ≡ given own (before ++ f ∷ []) name
    named_so true e is =
        let one : own_name f.path name.name ≡ name = one_name (own_name f.path name.name) name e in
        subst (λ (x : TypeName). with_types f.path f.types (given own before) x ≡ given own (before ++ f ∷ []) x) one (more_own is (fresh is) name.name)
    named_so false e is =
        other_name f.path f.types (given own before) name (λ n same. never n same)
        ∙ same_given name (λ other top. same_apart name.package (apart (bytes_eq f.path name.package) refl top))
      where
        never : (n : List ℕ) → own_name f.path n ≡ name → ⊥
        never n same =
            let names : n ≡ name.name = ap (λ (x : TypeName). x.name) same in
            let whole : own_name f.path name.name ≡ name = ap (own_name f.path) (sym names) ∙ same in
            let told : is_same_name (own_name f.path name.name) name ≡ true = ap (is_same_name (own_name f.path name.name)) (sym whole) ∙ same_itself (own_name f.path name.name) in
            cc

        apart : (b : Bool) → bytes_eq f.path name.package ≡ b → name.local ≡ 0 → bytes_eq f.path name.package ≡ false
        apart false e top = e
        apart true e top = absurd (never name.name (whole_name f.path name ((bytes_eq-Decides f.path name.package).0 e) top))

    by : (b : Bool) → counts_at own faces k f ≡ b → (if b then with_types f.path f.types (given own before) else given own before) name ≡ given own (before ++ f ∷ []) name
    by true is = named_so (is_same_name (own_name f.path name.name) name) refl is
    by false is = same_given name (λ other top. later (bytes_eq f.path name.package) refl other)
      where
        later : (b : Bool) → bytes_eq f.path name.package ≡ b → bytes_eq own name.package ≡ false → first_named path_of (before ++ f ∷ []) name.package ≡ first_named path_of before name.package
        later false e other = same_apart name.package e
        later true e other =
            let one : f.path ≡ name.package = (bytes_eq-Decides f.path name.package).0 e in
            let apart : bytes_eq own f.path ≡ false = ap (bytes_eq own) one ∙ other in
            let not_first : is_place k (place_of (paths_in faces) f.path) ≡ false = sym (ap (λ (b : Bool). not b && is_place k (place_of (paths_in faces) f.path)) apart) ∙ is in
            subst (λ (p : List ℕ). first_named path_of (before ++ f ∷ []) p ≡ first_named path_of before p) one (same_later not_first)

-- ---- a type that can't be declared

module _ (own : List ℕ) (faces : List Face) (k : ℕ) (f : Face) (at : slice_get faces k ≡ Some f) (is : counts_at own faces k f ≡ true) (fit : AreFit own faces) where
  abbrev ds : Declarations
  ds = given own (take k faces)

  both : (bytes_eq own f.path ≡ false) × (is_place k (place_of (paths_in faces) f.path) ≡ true)
  both = counted own faces k f at is

  its : Counts own faces k f
  its = its_counts own faces k f at is

  found_here : first_named path_of faces f.path ≡ Some f
  found_here = first_at path_of f.path faces k f at (place_true k (place_of (paths_in faces) f.path) both.1)

  -- what is given at last of a name of the package
  given_own : (n : List ℕ) → given own faces (own_name f.path n) ≡ by_error (own_name f.path n) (declared_first f.types n)
  given_own n =
      ap (λ (o : Option Face). by_error (own_name f.path n) (by_own own (own_name f.path n) (option_and_then (declared_in n) o))) found_here
      ∙ ap (λ (b : Bool). by_error (own_name f.path n) (if b then None else declared_in n f)) both.0

  or_first : (n : List ℕ) (i : ℕ) → AreFresh f.path (take i f.types) ds
      → with_types f.path (take i f.types) ds (own_name f.path n) ≡ by_error (own_name f.path n) (declared_first (take i f.types) n)
  or_first n i fresh =
      its_name f.path (take i f.types) ds n fresh
      ∙ (ap (λ (o : Option Declaration). option_or o (declared_first (take i f.types) n)) (given_none own faces k f at is n)
      ∙ by (is_same_name (own_name f.path n) error_name))
    where
      by : (b : Bool) → option_or (if b then Some error_declaration else None) (declared_first (take i f.types) n) ≡ (if b then Some error_declaration else declared_first (take i f.types) n)
      by true = refl
      by false = refl

  -- so far no more is declared than at last
  grows : (i : ℕ) → AreFresh f.path (take i f.types) ds → Grows (with_types f.path (take i f.types) ds) (given own faces)
  grows i fresh name d told = by (is_same_name (own_name f.path name.name) name) refl where
    more : (n : List ℕ) (b : Bool) → (if b then Some error_declaration else declared_first (take i f.types) n) ≡ Some d → (if b then Some error_declaration else declared_first f.types n) ≡ Some d
    more n true e = e
    more n false e = found (first_named defined_name (take i f.types) n) refl e where
      found : (o : Option DefinedOut) → first_named defined_name (take i f.types) n ≡ o → option_map declaration_out o ≡ Some d → declared_first f.types n ≡ Some d
      found None at_n e = absurd cc
      found (Some x) at_n e = ap (option_map declaration_out) (first_of_all defined_name n f.types i x at_n) ∙ e

    from : (b : Bool) (o : Bool) (l : Bool) → (if b then Some error_declaration else (if o then None else (if l then found_in (take k faces) name else None))) ≡ Some d
        → (if b then Some error_declaration else (if o then None else (if l then found_in faces name else None))) ≡ Some d
    from true o l e = e
    from false true l e = absurd cc
    from false false false e = absurd cc
    from false false true e = found (first_named path_of (take k faces) name.package) refl e where
      found : (o : Option Face) → first_named path_of (take k faces) name.package ≡ o → option_and_then (declared_in name.name) o ≡ Some d → found_in faces name ≡ Some d
      found None at_n e = absurd cc
      found (Some x) at_n e = ap (option_and_then (declared_in name.name)) (first_of_all path_of name.package faces k x at_n) ∙ e

    by : (b : Bool) → is_same_name (own_name f.path name.name) name ≡ b → given own faces name ≡ Some d
    by true e =
        let one : own_name f.path name.name ≡ name = one_name (own_name f.path name.name) name e in
        ap (given own faces) (sym one) ∙ (given_own name.name
        ∙ more name.name (is_same_name (own_name f.path name.name) error_name) (sym (or_first name.name i fresh) ∙ (ap (with_types f.path (take i f.types) ds) one ∙ told)))
    by false e =
        from (is_same_name name error_name) (bytes_eq own name.package) (name.local == 0)
        (sym (other_name f.path (take i f.types) ds name (λ n same. never n same)) ∙ told)
      where
        never : (n : List ℕ) → own_name f.path n ≡ name → ⊥
        never n same =
            let names : n ≡ name.name = ap (λ (x : TypeName). x.name) same in
            let whole : own_name f.path name.name ≡ name = ap (own_name f.path) (sym names) ∙ same in
            let itself_told : is_same_name (own_name f.path name.name) name ≡ true = ap (is_same_name (own_name f.path name.name)) (sym whole) ∙ same_itself (own_name f.path name.name) in
            cc

  pub not_stuck : (i : ℕ) → IsStuckAt f.path f.types ds i → ⊥
  not_stuck i s = by s.unfit where
    not_declared : (it : Declaration) → with_types f.path (take i f.types) ds (own_name f.path s.of.name) ≡ Some it → ⊥
    not_declared it e =
        let none : first_named defined_name (take i f.types) s.of.name ≡ None =
        none_before defined_name s.of.name f.types i s.of s.there (itself s.of.name) (true_place i (place_of (names_in f) s.of.name) (fit.once k i f s.of its s.there)) in
        let told : with_types f.path (take i f.types) ds (own_name f.path s.of.name) ≡ None =
        or_first s.of.name i s.fresh
        ∙ (ap (λ (o : Option DefinedOut). by_error (own_name f.path s.of.name) (option_map declaration_out o)) none
        ∙ ap (λ (b : Bool). if b then Some error_declaration else None) (fit.other k i f s.of its s.there)) in
        differ it (sym told ∙ e)
      where
        differ : (it : Declaration) → None ≡ Some it → ⊥
        differ it e = cc

    by : ((it : Declaration) × (with_types f.path (take i f.types) ds (own_name f.path s.of.name) ≡ Some it))
        ⊎ ((is_defined s.of.under ≡ true) ⊎ Meets (with_types f.path (take i f.types) ds) (own_name f.path s.of.name) s.of.under) → ⊥
    by (inl (it, e)) = not_declared it e
    by (inr (inl defined)) = (let plain = fit.plain k i f s.of its s.there in cc)
    by (inr (inr meets)) = fit.ends k i f s.of its s.there (meets_grows (with_types f.path (take i f.types) ds) (given own faces) (own_name f.path s.of.name) s.of.under (grows i s.fresh) meets)
