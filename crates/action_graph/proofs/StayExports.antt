-- What is seen of a package is seen of it where more is seen of other packages.
use Rattle.std.proofs.Common.{◌≡◌, ◌↔◌, ℕ, Bool, true, false, if◌then◌else◌, Option, Some, None, List, [], refl, sym, ap, ◌∙◌, subst}
use Rattle.std.proofs.Math.Path.{fun_ext}
use Rattle.std.specs.List.{Contains}
use Rattle.std.specs.Option.{option_or, option_map_or}
use Rattle.std.specs.Str.{bytes_eq}
use Rattle.std.proofs.lemmas.Slice.Eq.{bytes_eq-Decides}
use Rattle.package_faces.specs.Faces.{ObjectOut, Face}
use Rattle.package_faces.specs.Reaching.{Reaches, ReachesStart, ReachesNext, next_types, declared_parts, own_name, roots, IsExportOf}
use Rattle.type_model.specs.declared.term.TypeName.{TypeName}
use Rattle.type_model.specs.Declarations.{Declaration, Declarations}
use Rattle.type_model.specs.GoTypes.{GoType, BasicType, DefinedType, PointerTo, SliceOf, ArrayOf, MapOf, ChanOf, FuncOf, StructOf, InterfaceOf}
use Rattle.typed_marks.specs.declared.item.Item.{Item}
use Rattle.typed_marks.specs.Meanings.{Meaning}
use Rattle.unit_read.specs.Imports.{bare}
use Rattle.unit_read.specs.Units.{Unit, base_of}
use Rattle.unit_read.proofs.BareLemmas.{over}
use Rattle.rule_words.specs.Asking.{Rule, type_item, declaration_told}
use Rattle.check_pkg.specs.Interfaces.{IsExported, declarations_of, unit_name, HasObjects, HasExports}
use Rattle.check_pkg.specs.Refusals.{IsAnnotation, IsOneAnnotation}
use Rattle.action_graph.proofs.StayImports.{Within, bare_is}
use Rattle.action_graph.proofs.StayMarks.{own_same, annotation_stays}

-- ---- what is reached, where of the package's own types the same is declared

module _ (path : List ℕ) (few many : Declarations) (own : (n : TypeName) → bytes_eq n.package path ≡ true → many n ≡ few n) where
  name_next : (n : TypeName) (b : Bool) → bytes_eq n.package path ≡ b → (if b then option_map_or declared_parts (many n) [] else []) ≡ (if b then option_map_or declared_parts (few n) [] else [])
  name_next n true is = ap (λ (o : Option Declaration). option_map_or declared_parts o []) (own n is)
  name_next n false is = refl

  next_same : (t : GoType) → next_types many path t ≡ next_types few path t
  next_same (BasicType kind) = refl
  next_same (DefinedType n) = name_next n (bytes_eq n.package path) refl
  next_same (PointerTo of) = refl
  next_same (SliceOf of) = refl
  next_same (ArrayOf size of) = refl
  next_same (MapOf key of) = refl
  next_same (ChanOf direction of) = refl
  next_same (FuncOf of) = refl
  next_same (StructOf fields) = refl
  next_same (InterfaceOf methods) = refl

  reaches_forth : (start : List GoType) (t : GoType) → Reaches few path start t → Reaches many path start t
  reaches_forth start _ (ReachesStart t has) = ReachesStart t has
  reaches_forth start _ (ReachesNext t part before has) = ReachesNext t part (reaches_forth start t before) (subst (λ (l : List GoType). Contains l part) (sym (next_same t)) has)

  reaches_back : (start : List GoType) (t : GoType) → Reaches many path start t → Reaches few path start t
  reaches_back start _ (ReachesStart t has) = ReachesStart t has
  reaches_back start _ (ReachesNext t part before has) = ReachesNext t part (reaches_back start t before) (subst (λ (l : List GoType). Contains l part) (next_same t) has)

  own_itself : (name : List ℕ) → bytes_eq (own_name path name).package path ≡ true
  own_itself name = (bytes_eq-Decides path path).1 refl

  export_to : (name : List ℕ) (objects : List ObjectOut) (f : Face) → IsExportOf few path name objects f → IsExportOf many path name objects f
  export_to name objects f is = record {
    path_is = is.path_is;
    name_is = is.name_is;
    objects_are = is.objects_are;
    reached = λ d c. reaches_forth (roots path objects) (DefinedType (own_name path d.name)) (is.reached d c);
    declared = λ d c. (let x = is.declared d c in record { declaration = x.declaration; is = own (own_name path d.name) (own_itself d.name) ∙ x.is; under = x.under; methods = x.methods });
    all = λ n here reaches. is.all n here (reaches_back (roots path objects) (DefinedType n) reaches);
  }

module _ (u : Unit) (world : List Face) (a : Within u world) where
  bytes_sym : (p q : List ℕ) → bytes_eq p q ≡ true → bytes_eq q p ≡ true
  bytes_sym p q is = (bytes_eq-Decides q p).1 (sym ((bytes_eq-Decides p q).0 is))

  -- of the package's own types the same is declared
  declarations_same : (marks : Item → Meaning) (n : TypeName) → bytes_eq n.package u.path ≡ true → declarations_of (over u world) marks n ≡ declarations_of u marks n
  declarations_same marks n own =
      ap (λ (w : Unit). option_or (base_of (over u world) n) (option_map_or declaration_told (option_map_or (λ (i : Item). Some (marks i)) (type_item w n) None) None)) (bare_is u world a)
      ∙ ap (λ (o : Option Declaration). option_or o (option_map_or declaration_told (option_map_or (λ (i : Item). Some (marks i)) (type_item (bare u) n) None) None))
      (own_same u world n (bytes_sym n.package u.path own))

  module _ (rule : Unit → Item → Rule) (marks : Item → Meaning) (one : IsOneAnnotation rule u marks) where
    others_are : (others : Item → Meaning) → IsAnnotation rule (over u world) others → others ≡ marks
    others_are others annotates = fun_ext (λ i. (annotation_stays u world a rule marks one).alone others annotates i)

    objects_stay : (objects : List ObjectOut) → HasObjects rule u objects → HasObjects rule (over u world) objects
    objects_stay objects has = record {
      rise = has.rise;
      each = λ others annotates out.
          subst (λ (b : Unit). Contains objects out ↔ IsExported b others out) (sym (bare_is u world a))
          (subst (λ (ms : Item → Meaning). Contains objects out ↔ IsExported (bare u) ms out) (sym (others_are others annotates)) (has.each marks one.«is» out));
    }

    -- what is seen of the package is seen of it over the world
    pub exports_stay : (f : Face) → HasExports rule u f → HasExports rule (over u world) f
    exports_stay f has = record {
      objects = objects_stay f.objects has.objects;
      types = has.types;
      methods = has.methods;
      reached = λ others annotates.
          subst (λ (ms : Item → Meaning). IsExportOf (declarations_of (over u world) ms) u.path (unit_name u) f.objects f) (sym (others_are others annotates))
          (export_to u.path (declarations_of u marks) (declarations_of (over u world) marks) (declarations_same marks) (unit_name u) f.objects f (has.reached marks one.«is»));
    }
