-- What is declared over the marks, as more is marked; and what is known of a type that isn't declared.
use Rattle.std.proofs.Common.{◌≡◌, ◌≢◌, ℕ, ◌<◌, Bool, true, false, if◌then◌else◌, Option, Some, None, unwrap_or, option_map, option_and_then, refl, sym, ap, ◌∙◌, inl, inr}
use Rattle.std.specs.Option.{option_or, option_map_or}
use Rattle.std.specs.Prelude.{IfSome, length, List}
use Rattle.std.specs.Str.{bytes_eq}
use Rattle.type_model.specs.declared.term.TypeName.{TypeName}
use Rattle.type_model.specs.GoTypes.{GoType, BasicType, DefinedType, PointerTo, SliceOf, ArrayOf, MapOf, ChanOf, FuncOf, StructOf, InterfaceOf}
use Rattle.type_model.specs.Declarations.{Declaration, Declarations, under_of}
use Rattle.type_model.specs.declared.term.TypeId.{TypeId}
use Rattle.type_model.specs.declared.term.Term.{Term}
use Rattle.type_model.specs.GoTypes.{type_at, types_of}
use Rattle.type_model.specs.Tables.{types_in, terms_in, count, declarations_in, is_same_name, Extends}
use Rattle.gv_base.specs.declared.constant.Const.{Const}
use Rattle.package_faces.specs.declared.interface.Exported.{Exported}
use Rattle.package_faces.specs.declared.interface.ExportForm.{ExportForm}
use Rattle.package_faces.specs.declared.interface.ExportForm.TheVariants as form
use Rattle.package_faces.specs.Declaring.{declared_by}
use Rattle.package_faces.specs.Faces.{Face}
use Rattle.package_faces.specs.Interfaces.{faces_of, id_of}
use Rattle.package_faces.proofs.FaceLaws.{faces_stay}
use Rattle.typed_tree.specs.declared.mark.Mode.TheVariants as mode
use Rattle.typed_tree.specs.Universe.{error_name}
use Rattle.typed_tree.specs.Meanings.{Meaning as TreeMeaning, Right as RightInTree}
use Rattle.typed_marks.specs.declared.state.State.{State}
use Rattle.unit_read.specs.declared.environment.Environment.{Environment}
use Rattle.unit_read.specs.declared.subject.Subject.{Subject}
use Rattle.unit_read.specs.Environments.{faces_in}
use Rattle.unit_read.specs.Exports.{mark_in, use_in, uses_in, IsUseIn}
use Rattle.unit_read.specs.Imports.{plain_mark}
use Rattle.unit_read.specs.Subjects.{full_of, unit_of}
use Rattle.rule_words.specs.Scenes.{IsScene, sight}
use Rattle.mark_walk.specs.Asks.{Adds, Stays, done, ask, put, bind}
use Rattle.mark_walk.specs.Telling.{Outcome, Says, Waits, Puts, Answered, Pending, glimpsed, tell}
use Rattle.mark_walk.proofs.TellLaws.{told_bind}
use Rattle.go_tree.specs.declared.tree.NodeRef.{NodeRef}
use Rattle.typed_marks.specs.declared.item.Item.{Item}
use Rattle.typed_marks.specs.declared.item.Stage.TheVariants as st
use Rattle.typed_marks.specs.Meanings.{Meaning}
use Rattle.typed_marks.specs.Items.{nowhere}
use Rattle.typed_marks.specs.States.{so_far}
use Rattle.typed_marks.proofs.CellLemmas.{nowhere_unmarked}
use Rattle.type_questions.specs.Over.{mark_of, marked, declared}
use Rattle.type_questions.specs.Questions.{Question, DeclaredAs, Told, Declaring}
use Rattle.unit_read.specs.Units.{Unit, defined, error_declaration, imported_from, base_of}
use Rattle.unit_read.proofs.TypeLemmas.{foreign}
use Rattle.rule_words.specs.Asking.{under_at, type_item, nowhere_of, item_for, declarer, declaration_told, declaration_given, item_ask, named_ask, declaration_ask, named_under, under_ask}

-- ---- the packages to which imports lead

pub extends_then : (a b c : List Term) → Extends a b → Extends b c → Extends a c
extends_then a b c first second i low = let one = first i low in let two = second i one.0 in (two.0, two.1 ∙ one.1)

faces_are : (env : Environment) → faces_in env ≡ faces_of (types_of env.types.now) env.interfaces.now
unfolding faces_in
faces_are env = refl

-- over the table of a scene the packages are seen as the unit has them
pub faces_seen : (u : Subject) (s : State) → IsScene u s → faces_of (types_in s.table) u.env.now.interfaces.now ≡ (full_of u).env
faces_seen u s scene = faces_stay u.env.now.types.now (terms_in s.table) scene.env u.env.now.interfaces.now scene.read.env.within ∙ sym (faces_are u.env.now)

module _ (old new : List Term) (grown : Extends old new) where
  abbrev constant_with : Const → GoType → TreeMeaning
  constant_with c of = RightInTree (record { mode = mode.Constant; of = of; value = Some c })

  mark_stays : (f : ExportForm) → (id_of f).0 < length old → mark_in (types_of new) f ≡ mark_in (types_of old) f
  mark_stays (form.Constant id c) low = ap (constant_with c) (grown id.0 low).1
  mark_stays (form.Variable id) low = ap (plain_mark mode.Variable) (grown id.0 low).1
  mark_stays (form.Function id) low = ap (plain_mark mode.Value) (grown id.0 low).1
  mark_stays (form.Own id) low = ap (plain_mark mode.TypeName) (grown id.0 low).1
  mark_stays (form.Alias id) low = ap (plain_mark mode.TypeName) (grown id.0 low).1

  -- what is exported is the same over more types
  pub uses_stay : (o : Option Exported) → IfSome o (IsUseIn (length old)) → uses_in (types_of new) o ≡ uses_in (types_of old) o
  uses_stay None low = refl
  uses_stay (Some e) low = ap Some (mark_stays e.form low)

  pub uses_grow : (o : Option Exported) → IfSome o (IsUseIn (length old)) → IfSome o (IsUseIn (length new))
  uses_grow None low = tt
  uses_grow (Some e) low = (grown (id_of e.form).0 low).0

-- ---- more marks

stays_at : (a b : Item → Option Meaning) → Stays a b → (i : Item) → b i ≡ a i
stays_at a b s i = by (a i) refl (b i) refl where
  by : (o : Option Meaning) → a i ≡ o → (n : Option Meaning) → b i ≡ n → b i ≡ a i
  by (Some m) was n is = s.stays i m was ∙ sym was
  by None was None is = is ∙ sym was
  by None was (Some m) is = (let never : a i ≡ Some m = s.only i m is in absurd cc)

told_at : (a b : Item → Option Meaning) (i : Item) (m : Meaning) → a i ≡ None → declaration_told m ≡ None → Adds a b i m → (j : Item)
    → option_map_or declaration_told (b j) None ≡ option_map_or declaration_told (a j) None
told_at a b i m none plain adds j = by (a j) refl (b j) refl where
  new : (n : Meaning) → a j ≡ None → b j ≡ Some n → declaration_told n ≡ None
  new n was is = elim (adds.only j n is) [
    | inl same ↦ (let at : b j ≡ Some m = ap b same ∙ adds.new in let one : m ≡ n = cc in ap declaration_told (sym one) ∙ plain)
    | inr stood ↦ absurd cc
  ]

  by : (o : Option Meaning) → a j ≡ o → (n : Option Meaning) → b j ≡ n → option_map_or declaration_told (b j) None ≡ option_map_or declaration_told (a j) None
  by (Some x) was n is = ap (λ y. option_map_or declaration_told y None) (adds.stays j x was ∙ sym was)
  by None was None is = ap (λ y. option_map_or declaration_told y None) (is ∙ sym was)
  by None was (Some x) is = ap (λ y. option_map_or declaration_told y None) is ∙ new x was is ∙ sym (ap (λ y. option_map_or declaration_told y None) was)

same_marked : (u : Unit) (a b : Item → Option Meaning)
    → ((j : Item) → option_map_or declaration_told (b j) None ≡ option_map_or declaration_told (a j) None)
    → (name : TypeName) → marked (type_item u) declaration_told b name ≡ marked (type_item u) declaration_told a name
same_marked u a b same name = by (type_item u name) where
  by : (o : Option Item) → option_map_or declaration_told (option_map_or b o None) None ≡ option_map_or declaration_told (option_map_or a o None) None
  by None = refl
  by (Some j) = same j

-- a type or a constant more
pub stays_declared : (base : Declarations) (u : Unit) (a b : Item → Option Meaning) → Stays a b → (name : TypeName)
    → declared base (type_item u) declaration_told b name ≡ declared base (type_item u) declaration_told a name
stays_declared base u a b s name =
    ap (λ x. option_or (base name) x) (same_marked u a b (λ j. ap (λ y. option_map_or declaration_told y None) (stays_at a b s j)) name)

-- a mark more that declares nothing
pub adds_declared : (base : Declarations) (u : Unit) (a b : Item → Option Meaning) (i : Item) (m : Meaning) → a i ≡ None → declaration_told m ≡ None → Adds a b i m → (name : TypeName)
    → declared base (type_item u) declaration_told b name ≡ declared base (type_item u) declaration_told a name
adds_declared base u a b i m none plain adds name =
    ap (λ x. option_or (base name) x) (same_marked u a b (told_at a b i m none plain adds) name)

-- ---- what types are declared with

-- what is nowhere has no mark
pub nowhere_free : (s : State) → so_far s (nowhere s.blocks.items) ≡ None
unfolding so_far
nowhere_free s = nowhere_unmarked s.table s.constants.items s.blocks.items s.cells.items

abbrev pub behind : ℕ → Item
behind n = record { stage = st.Under; block = n; node = 0 }

pub nowhere_in : (u : Subject) (s : State) → IsScene u s → nowhere s.blocks.items ≡ nowhere_of (unit_of u)
nowhere_in u s scene = ap behind scene.blocks

pub nowhere_none : (u : Subject) (s : State) → IsScene u s → so_far s (nowhere_of (unit_of u)) ≡ None
nowhere_none u s scene = ap (so_far s) (sym (nowhere_in u s scene)) ∙ nowhere_free s

-- what is nowhere declares nothing
pub declarer_same : (base : Declarations) (u : Unit) (x : Item → Option Meaning) → x (nowhere_of u) ≡ None → (name : TypeName)
    → declared base (declarer u) declaration_told x name ≡ declared base (type_item u) declaration_told x name
declarer_same base u x free name = ap (option_or (base name)) (by (type_item u name)) where
  by : (o : Option Item) → option_map_or declaration_told (x (unwrap_or o (nowhere_of u))) None ≡ option_map_or declaration_told (option_map_or x o None) None
  by None = ap (λ (m : Option Meaning). option_map_or declaration_told m None) free
  by (Some i) = refl

module _ (u : Subject) (s : State) (scene : IsScene u s) where
  -- a name of the package isn't declared from the start
  own_base : (name : TypeName) → is_same_name name error_name ≡ false → bytes_eq (unit_of u).path name.package ≡ true → base_of (full_of u) name ≡ None
  own_base name other is =
      ap (λ (b : Bool). if b then Some error_declaration else imported_from (full_of u) name) other
      ∙ ap (λ (b : Bool). if b then None else declared_by (full_of u).env name) is

  error_base : (name : TypeName) → is_same_name name error_name ≡ true → base_of (full_of u) name ≡ Some error_declaration
  error_base name is = ap (λ (b : Bool). if b then Some error_declaration else imported_from (full_of u) name) is

  -- the item of a name is of the package
  item_own : (name : TypeName) (i : Item) → type_item (unit_of u) name ≡ Some i → bytes_eq (unit_of u).path name.package ≡ true
  item_own name i at = by (bytes_eq (unit_of u).path name.package) refl where
    by : (b : Bool) → bytes_eq (unit_of u).path name.package ≡ b → bytes_eq (unit_of u).path name.package ≡ true
    by true is = is
    by false is =
        let none : type_item (unit_of u) name ≡ None = ap (option_and_then (under_at (unit_of u))) (foreign (unit_of u) name (defined (unit_of u)) is) in
        absurd cc

  -- what is known of a name of the package over its imports is known over all
  pub own_full : (name : TypeName) (i : Item) → type_item (unit_of u) name ≡ Some i → base_of (unit_of u) name ≡ None → base_of (full_of u) name ≡ None
  own_full name i at none = by (is_same_name name error_name) refl where
    by : (b : Bool) → is_same_name name error_name ≡ b → base_of (full_of u) name ≡ None
    by true is = absurd (let some : base_of (unit_of u) name ≡ Some error_declaration = ap (λ (b : Bool). if b then Some error_declaration else imported_from (unit_of u) name) is in cc)
    by false is = own_base name is (item_own name i at)

  declared_own : (name : TypeName) → is_same_name name error_name ≡ false → bytes_eq (unit_of u).path name.package ≡ true → declarations_in s.table name ≡ marked (type_item (unit_of u)) declaration_told (so_far s) name
  declared_own name other is = scene.step name ∙ ap (λ o. option_or o (marked (type_item (unit_of u)) declaration_told (so_far s) name)) (own_base name other is)

  declared_error : (name : TypeName) → is_same_name name error_name ≡ true → declarations_in s.table name ≡ Some error_declaration
  declared_error name is = scene.step name ∙ ap (λ o. option_or o (marked (type_item (unit_of u)) declaration_told (so_far s) name)) (error_base name is)

  -- the item of a name that isn't of the package
  pub item_elsewhere : (name : TypeName) → bytes_eq (unit_of u).path name.package ≡ false → item_for (unit_of u) name ≡ nowhere_of (unit_of u)
  item_elsewhere name other =
      ap (λ (o : Option NodeRef). unwrap_or (option_and_then (under_at (unit_of u)) o) (nowhere_of (unit_of u))) (foreign (unit_of u) name (defined (unit_of u)) other)

  item_there : (name : TypeName) (i : Item) → type_item (unit_of u) name ≡ Some i → item_for (unit_of u) name ≡ i
  item_there name i at = ap (λ (o : Option Item). unwrap_or o (nowhere_of (unit_of u))) at

  asked_item : (i : Item) (o : Option Meaning) → so_far s i ≡ o → tell (sight s) (item_ask i) ≡ option_map_or (λ (m : Meaning). Says (declaration_told m)) o (Waits i)
  asked_item i o at = ap (λ (x : Option Meaning). option_map_or (λ (m : Meaning). Says (declaration_told m)) x (Waits i)) at

  -- what is told of a name of the package
  item_says : (name : TypeName) (d : Declaration) → marked (type_item (unit_of u)) declaration_told (so_far s) name ≡ Some d → tell (sight s) (item_ask (item_for (unit_of u) name)) ≡ Says (Some d)
  item_says name d is = by (type_item (unit_of u) name) refl is where
    at_item : (i : Item) (m : Option Meaning) → so_far s i ≡ m → option_map_or declaration_told m None ≡ Some d → tell (sight s) (item_ask i) ≡ Says (Some d)
    at_item i None at told = absurd cc
    at_item i (Some m) at told = asked_item i (Some m) at ∙ ap Says told

    by : (o : Option Item) → type_item (unit_of u) name ≡ o → option_map_or declaration_told (option_map_or (so_far s) o None) None ≡ Some d
        → tell (sight s) (item_ask (item_for (unit_of u) name)) ≡ Says (Some d)
    by None at told = absurd cc
    by (Some i) at told = ap (λ (j : Item). tell (sight s) (item_ask j)) (item_there name i at) ∙ at_item i (so_far s i) refl told

  item_none : (name : TypeName) → marked (type_item (unit_of u)) declaration_told (so_far s) name ≡ None → (so_far s (item_for (unit_of u) name) ≡ None → ⊥)
      → tell (sight s) (item_ask (item_for (unit_of u) name)) ≡ Says None
  item_none name is free = by (type_item (unit_of u) name) refl is where
    at_item : (i : Item) (m : Option Meaning) → so_far s i ≡ m → (so_far s i ≡ None → ⊥) → option_map_or declaration_told m None ≡ None → tell (sight s) (item_ask i) ≡ Says None
    at_item i None at not told = absurd (not at)
    at_item i (Some m) at not told = asked_item i (Some m) at ∙ ap Says told

    by : (o : Option Item) → type_item (unit_of u) name ≡ o → option_map_or declaration_told (option_map_or (so_far s) o None) None ≡ None
        → tell (sight s) (item_ask (item_for (unit_of u) name)) ≡ Says None
    by None at told = absurd (free (ap (λ (o : Option Item). so_far s (unwrap_or o (nowhere_of (unit_of u)))) at ∙ nowhere_none u s scene))
    by (Some i) at told =
        ap (λ (j : Item). tell (sight s) (item_ask j)) (item_there name i at)
        ∙ at_item i (so_far s i) refl (λ none. free (ap (so_far s) (item_there name i at) ∙ none)) told

  -- what is told of a name that is declared, and of one that isn't
  put_says : (name : TypeName) (d : Declaration) → declarations_in s.table name ≡ Some d → tell (sight s) (put (DeclaredAs name) declaration_given) ≡ Says (Some d)
  put_says name d is = by (declarations_in s.table name) is where
    by : (o : Option Declaration) → o ≡ Some d
        → glimpsed (λ a. tell (sight s) (declaration_given a)) Waits (Puts (DeclaredAs name) declaration_given) (option_map_or (λ (d : Declaration). Answered (Declaring d)) o (Pending (nowhere s.blocks.items))) ≡ Says (Some d)
    by None e = absurd cc
    by (Some x) e = ap Says e

  put_waits : (name : TypeName) → declarations_in s.table name ≡ None → tell (sight s) (put (DeclaredAs name) declaration_given) ≡ Waits (nowhere s.blocks.items)
  put_waits name is = by (declarations_in s.table name) is where
    by : (o : Option Declaration) → o ≡ None
        → glimpsed (λ a. tell (sight s) (declaration_given a)) Waits (Puts (DeclaredAs name) declaration_given) (option_map_or (λ (d : Declaration). Answered (Declaring d)) o (Pending (nowhere s.blocks.items))) ≡ Waits (nowhere s.blocks.items)
    by None e = refl
    by (Some x) e = absurd cc

  -- what comes of asking for a declaration, by the cases of its name
  asked : (name : TypeName) (e b : Bool) → is_same_name name error_name ≡ e → bytes_eq (unit_of u).path name.package ≡ b
      → tell (sight s) (declaration_ask (unit_of u) name) ≡ tell (sight s) (if e then done (Some error_declaration) else named_ask b (unit_of u) name)
  asked name e b is here =
      ap (λ (x : Bool). tell (sight s) (if x then done (Some error_declaration) else named_ask (bytes_eq (unit_of u).path name.package) (unit_of u) name)) is
      ∙ ap (λ (x : Bool). tell (sight s) (if e then done (Some error_declaration) else named_ask x (unit_of u) name)) here

  declaration_says : (name : TypeName) (d : Declaration) → declarations_in s.table name ≡ Some d → tell (sight s) (declaration_ask (unit_of u) name) ≡ Says (Some d)
  declaration_says name d is = by (is_same_name name error_name) (bytes_eq (unit_of u).path name.package) refl refl where
    by : (e b : Bool) → is_same_name name error_name ≡ e → bytes_eq (unit_of u).path name.package ≡ b → tell (sight s) (declaration_ask (unit_of u) name) ≡ Says (Some d)
    by true b error here = asked name true b error here ∙ ap Says (sym (declared_error name error) ∙ is)
    by false true other here = asked name false true other here ∙ item_says name d (sym (declared_own name other here) ∙ is)
    by false false other here = asked name false false other here ∙ put_says name d is

  declaration_none : (name : TypeName) → declarations_in s.table name ≡ None → (so_far s (item_for (unit_of u) name) ≡ None → ⊥) → tell (sight s) (declaration_ask (unit_of u) name) ≡ Says None
  declaration_none name is free = by (is_same_name name error_name) (bytes_eq (unit_of u).path name.package) refl refl where
    by : (e b : Bool) → is_same_name name error_name ≡ e → bytes_eq (unit_of u).path name.package ≡ b → tell (sight s) (declaration_ask (unit_of u) name) ≡ Says None
    by true b error here = absurd (let some : declarations_in s.table name ≡ Some error_declaration = declared_error name error in cc)
    by false true other here = asked name false true other here ∙ item_none name (sym (declared_own name other here) ∙ is) free
    by false false other here = absurd (free (ap (so_far s) (item_elsewhere name here) ∙ nowhere_none u s scene))

  declaration_waits : (name : TypeName) (i : Item) → declarations_in s.table name ≡ None → item_for (unit_of u) name ≡ i → so_far s i ≡ None
      → tell (sight s) (declaration_ask (unit_of u) name) ≡ Waits i
  declaration_waits name i is at none = by (is_same_name name error_name) (bytes_eq (unit_of u).path name.package) refl refl where
    by : (e b : Bool) → is_same_name name error_name ≡ e → bytes_eq (unit_of u).path name.package ≡ b → tell (sight s) (declaration_ask (unit_of u) name) ≡ Waits i
    by true b error here = absurd (let some : declarations_in s.table name ≡ Some error_declaration = declared_error name error in cc)
    by false true other here =
        asked name false true other here ∙ (ap (λ (j : Item). tell (sight s) (item_ask j)) at ∙ asked_item i None none)
    by false false other here =
        asked name false false other here ∙ (put_waits name is ∙ ap Waits (nowhere_in u s scene ∙ (sym (item_elsewhere name here) ∙ at)))

  -- ---- underlying types

  abbrev under_told : Option Declaration → Option GoType
  under_told d = option_map (λ (d : Declaration). d.under) d

  named_told : (name : TypeName) (x : Option Declaration) → tell (sight s) (declaration_ask (unit_of u) name) ≡ Says x → tell (sight s) (named_under (unit_of u) name) ≡ Says (under_told x)
  named_told name x e = told_bind (sight s) (declaration_ask (unit_of u) name) (λ d. done (option_map (λ (d : Declaration). d.under) d)) (Says x) e

  pub under_says : (t v : GoType) → under_of (declarations_in s.table) t ≡ Some v
      → tell (sight s) (under_ask (unit_of u) t) ≡ Says (Some v)
  under_says (BasicType kind) v is = ap Says is
  under_says (DefinedType name) v is = by (declarations_in s.table name) refl is where
    by : (o : Option Declaration) → declarations_in s.table name ≡ o → option_map (λ (d : Declaration). d.under) o ≡ Some v → tell (sight s) (named_under (unit_of u) name) ≡ Says (Some v)
    by None at is = absurd cc
    by (Some d) at is = named_told name (Some d) (declaration_says name d at) ∙ ap Says is
  under_says (PointerTo of) v is = ap Says is
  under_says (SliceOf of) v is = ap Says is
  under_says (ArrayOf size of) v is = ap Says is
  under_says (MapOf key of) v is = ap Says is
  under_says (ChanOf direction of) v is = ap Says is
  under_says (FuncOf of) v is = ap Says is
  under_says (StructOf fields) v is = ap Says is
  under_says (InterfaceOf methods) v is = ap Says is

  not_declared : (name : TypeName) → under_of (declarations_in s.table) (DefinedType name) ≡ None → declarations_in s.table name ≡ None
  not_declared name is = by (declarations_in s.table name) refl is where
    by : (o : Option Declaration) → declarations_in s.table name ≡ o → option_map (λ (d : Declaration). d.under) o ≡ None → declarations_in s.table name ≡ None
    by None at is = at
    by (Some d) at is = absurd cc

  -- it isn't declared, and what would declare it is marked
  pub under_none : (t : GoType) → under_of (declarations_in s.table) t ≡ None
      → ((name : TypeName) → t ≡ DefinedType name → so_far s (item_for (unit_of u) name) ≡ None → ⊥) → tell (sight s) (under_ask (unit_of u) t) ≡ Says None
  under_none (BasicType kind) none marked = absurd cc
  under_none (DefinedType name) is marked = named_told name None (declaration_none name (not_declared name is) (marked name refl))
  under_none (PointerTo of) none marked = absurd cc
  under_none (SliceOf of) none marked = absurd cc
  under_none (ArrayOf size of) none marked = absurd cc
  under_none (MapOf key of) none marked = absurd cc
  under_none (ChanOf direction of) none marked = absurd cc
  under_none (FuncOf of) none marked = absurd cc
  under_none (StructOf fields) none marked = absurd cc
  under_none (InterfaceOf methods) none marked = absurd cc

  -- it isn't declared yet
  pub under_waits : (t : GoType) (i : Item) → under_of (declarations_in s.table) t ≡ None → ((name : TypeName) → t ≡ DefinedType name → item_for (unit_of u) name ≡ i) → so_far s i ≡ None
      → tell (sight s) (under_ask (unit_of u) t) ≡ Waits i
  under_waits (BasicType kind) i is at none = absurd cc
  under_waits (DefinedType name) i is at none =
      told_bind (sight s) (declaration_ask (unit_of u) name) (λ d. done (option_map (λ (d : Declaration). d.under) d)) (Waits i) (declaration_waits name i (not_declared name is) (at name refl) none)
  under_waits (PointerTo of) i is at none = absurd cc
  under_waits (SliceOf of) i is at none = absurd cc
  under_waits (ArrayOf size of) i is at none = absurd cc
  under_waits (MapOf key of) i is at none = absurd cc
  under_waits (ChanOf direction of) i is at none = absurd cc
  under_waits (FuncOf of) i is at none = absurd cc
  under_waits (StructOf fields) i is at none = absurd cc
  under_waits (InterfaceOf methods) i is at none = absurd cc
