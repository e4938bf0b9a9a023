-- What is seen of an accepted package, by the table of what was found, is what its unit exports.
use Rattle.std.proofs.Common.{◌≡◌, ℕ, inl, inr, false, List, [], ◌∷◌, map, Option, Some, None, refl, sym, ap, ◌∙◌, subst, arith}
use Rattle.std.proofs.Math.Path.{fun_ext}
use Rattle.std.specs.List.{Contains}
use Rattle.std.specs.Option.{option_map_or, option_or}
use Rattle.export_text.specs.Faces.{IsFace}
use Rattle.export_text.proofs.ExportLaws.{have_sorted}
use Rattle.face_table.specs.Fitting.{given, paths_in}
use Rattle.face_table.proofs.FitLemmas.{declared_plain}
use Rattle.go_tree.specs.Lexeme.{place_of}
use Rattle.go_tree.specs.Names.{spelled_at}
use Rattle.go_tree.specs.declared.tree.FileTree.{FileTree}
use Rattle.action_graph.specs.Stages.{rule}
use Rattle.package_faces.specs.Faces.{ObjectOut, DefinedOut, Face}
use Rattle.package_faces.specs.Interfaces.{AreObjectsIn}
use Rattle.package_faces.specs.Reaching.{own_name, IsExportOf}
use Rattle.type_model.specs.declared.term.TypeName.{TypeName}
use Rattle.type_model.specs.Declarations.{Declaration, Declarations, Meets, MeetsName, MeetsHeld, held}
use Rattle.type_model.specs.GoTypes.{GoType, BasicType, DefinedType, PointerTo, SliceOf, ArrayOf, MapOf, ChanOf, FuncOf, StructOf, InterfaceOf, is_defined}
use Rattle.type_model.proofs.EndLaws.{none_holds_itself}
use Rattle.type_model.specs.Tables.{count, declarations_in, types_in}
use Rattle.typed_marks.specs.declared.item.Item.{Item}
use Rattle.typed_marks.specs.Meanings.{Meaning}
use Rattle.unit_read.specs.Units.{base_of}
use Rattle.check_pkg.specs.declared.judging.Checked.{Checked}
use Rattle.check_pkg.specs.declared.judging.Outcome.TheVariants as outcome
use Rattle.check_pkg.specs.declared.refusal.Refusal.{Refusal}
use Rattle.check_pkg.specs.Checks.{HasExported, table_of, IsOutcomeOf as Comes}
use Rattle.check_pkg.specs.Interfaces.{HasExports, HasObjects, declarations_of, unit_name}
use Rattle.check_pkg.specs.Packages.{Package, package_name}
use Rattle.check_pkg.specs.Refusals.{HasMarks, IsAnnotation}
use Rattle.action_graph.specs.Judging.{AllKnown, Env, HasNothing, IsFit, Tells, line_of}
use Rattle.action_graph.specs.Judging.Judged.{Accepts, Refuses}
use Rattle.action_graph.proofs.OneFinding.{one-objects}
use Rattle.go_kit.specs.Reading.{IsSeenOf, Stands, TellsOf, objects_of}
use Rattle.go_kit.proofs.GivenLemmas.{given_from}

-- the same export, of what is the same
exported-as : (ds es : Declarations) (path other name called : List ℕ) (os ps : List ObjectOut) (f : Face) → ds ≡ es → path ≡ other → name ≡ called → os ≡ ps → IsExportOf ds path name os f → IsExportOf es other called ps f
exported-as ds es path other name called os ps f a b d e x =
    subst (λ (q : List ObjectOut). IsExportOf es other called q f) e
    (subst (λ (n : List ℕ). IsExportOf es other n os f) d (subst (λ (q : List ℕ). IsExportOf es q name os f) b (subst (λ (z : Declarations). IsExportOf z path name os f) a x)))

known-as : (one other : List ℕ → Option ℕ) (f : Face) → ((q : List ℕ) → one q ≡ other q) → AllKnown one f → AllKnown other f
known-as one other f same known path mentioned none = known path mentioned (same path ∙ none)

-- ---- what is met

-- what is declared is declared with the same underlying type too
abbrev SameUnder : Declarations → Declarations → Type 0
SameUnder ds more = (name : TypeName) (d : Declaration) → ds name ≡ Some d → (e : Declaration) × (more name ≡ Some e) × (d.under ≡ e.under)

held-same : (ds more : Declarations) → SameUnder ds more → (of part : GoType) → Contains (held ds of) part → Contains (held more of) part
held-same ds more same (BasicType kind) part has = has
held-same ds more same (DefinedType name) part has = by (ds name) refl has where
  by : (o : Option Declaration) → ds name ≡ o → Contains (option_map_or (λ (d : Declaration). d.under ∷ []) o []) part → Contains (held more (DefinedType name)) part
  by None is has = absurd (let low = has.1 in omega (arith, low))
  by (Some d) is has =
      let e = same name d is in
      let shape : held more (DefinedType name) ≡ e.0.under ∷ [] = ap (λ (o : Option Declaration). option_map_or (λ (d : Declaration). d.under ∷ []) o []) e.1 in
      subst (λ (l : List GoType). Contains l part) (sym shape) (subst (λ (t : GoType). Contains (t ∷ []) part) e.2 has)
held-same ds more same (PointerTo of) part has = has
held-same ds more same (SliceOf of) part has = has
held-same ds more same (ArrayOf size of) part has = has
held-same ds more same (MapOf key of) part has = has
held-same ds more same (ChanOf direction of) part has = has
held-same ds more same (FuncOf of) part has = has
held-same ds more same (StructOf fields) part has = has
held-same ds more same (InterfaceOf methods) part has = has

meets-same : (ds more : Declarations) (name : TypeName) (of : GoType) → SameUnder ds more → Meets ds name of → Meets more name of
meets-same ds more name of same (MeetsName _ e) = MeetsName of e
meets-same ds more name of same (MeetsHeld _ part has rest) = MeetsHeld of part (held-same ds more same of part has) (meets-same ds more name part same rest)

or-first : (o rest : Option Declaration) (d : Declaration) → o ≡ Some d → option_or o rest ≡ Some d
or-first o rest d is = ap (λ (x : Option Declaration). option_or x rest) is

-- ---- the package that is loaded

module _ (p : Package) (env : Env) (c : Checked) (comes : Comes rule p env (outcome.Checked c)) (none : c.refused.items ≡ []) where
  exported : HasExported rule comes.unit c
  exported = comes.comes.exports none

  name-is : unit_name comes.unit ≡ package_name p
  name-is =
      ap (λ (texts : List (List ℕ)). spelled_at (record { texts = texts; trees = comes.unit.trees }) 0 0) comes.is.texts
      ∙ ap (λ (trees : List FileTree). spelled_at (record { texts = map (λ (file : List ℕ × List ℕ). file.1) p.files; trees = trees }) 0 0) comes.is.trees

  declares : (marks : Item → Meaning) → IsAnnotation rule comes.unit marks → declarations_in (table_of c) ≡ declarations_of comes.unit marks
  declares marks annotated = fun_ext (exported.declared marks annotated)

  -- its exports stand in the table
  pub stands : Stands p.path c
  stands = record { table = exported.table; within = subst (λ (q : List ℕ). AreObjectsIn q (count (table_of c)) (types_in (table_of c)) c.exports.items) comes.is.path exported.within }

  -- what is seen by the table is what the unit exports
  pub seen-exports : (place : List ℕ → Option ℕ) (f : Face) → IsSeenOf p.path (package_name p) place c f → HasExports rule comes.unit f
  seen-exports place f seen = record {
    objects = subst (λ (os : List ObjectOut). HasObjects rule comes.unit os) (sym seen.export.objects_are) exported.objects;
    types = seen.value.1.1.1.1;
    methods = have_sorted f seen.value;
    reached = λ marks annotated.
        exported-as (declarations_in (table_of c)) (declarations_of comes.unit marks) p.path comes.unit.path (package_name p) (unit_name comes.unit) (objects_of c) f.objects f
        (declares marks annotated) (sym comes.is.path) (sym name-is) (sym seen.export.objects_are) seen.export;
  }

  -- and the other way
  pub exports-seen : (place : List ℕ → Option ℕ) (f : Face) → HasExports rule comes.unit f → IsFace f → AllKnown place f → IsSeenOf p.path (package_name p) place c f
  exports-seen place f exports value known =
      let marks = comes.comes.marks in
      record {
        export =
            exported-as (declarations_of comes.unit marks.marks) (declarations_in (table_of c)) comes.unit.path p.path (unit_name comes.unit) (package_name p) f.objects (objects_of c) f
            (sym (declares marks.marks marks.annotated.is)) comes.is.path name-is
            (one-objects comes.unit marks.marks marks.annotated.is f.objects (objects_of c) exports.objects exported.objects) (exports.reached marks.marks marks.annotated.is);
        value = value;
        known = known;
      }

  -- of its own types none has a defined type as its underlying type or needs itself: the table has them declared so
  plain : (place : List ℕ → Option ℕ) (f : Face) → IsSeenOf p.path (package_name p) place c f → (d : DefinedOut) → Contains f.types d → is_defined d.under ≡ false
  plain place f seen d has =
      let x = seen.export.declared d has in
      subst (λ (t : GoType). is_defined t ≡ false) (sym x.under) (declared_plain (table_of c) (own_name p.path d.name) x.declaration exported.table x.is)

  from-base : (name : TypeName) (d : Declaration) → base_of comes.unit name ≡ Some d → declarations_in (table_of c) name ≡ Some d
  from-base name d base =
      let marks = comes.comes.marks in
      exported.declared marks.marks marks.annotated.is name ∙ or-first (base_of comes.unit name) _ d base

  -- what is given with this package is declared in the table: its own types as they are seen, `error` and the types of others by `base_of`
  given-same : (place : List ℕ → Option ℕ) (f : Face) → IsSeenOf p.path (package_name p) place c f → SameUnder (given [] (f ∷ env)) (declarations_in (table_of c))
  given-same place f seen name d is = elim (given_from comes.unit env f name d (seen.export.path_is ∙ sym comes.is.path) comes.is.env is) [
    | inl base ↦ (d, from-base name d base, refl)
    | inr (x, has, named, it) ↦
        let y = seen.export.declared x has in
        let called : name ≡ own_name p.path x.name = sym named ∙ ap (λ (q : List ℕ). own_name q x.name) seen.export.path_is in
        (y.declaration, ap (declarations_in (table_of c)) called ∙ y.is, ap (λ (e : Declaration). e.under) (sym it) ∙ y.under)
  ]

  ends : (place : List ℕ → Option ℕ) (f : Face) → IsSeenOf p.path (package_name p) place c f → (d : DefinedOut) → Contains f.types d → Meets (given [] (f ∷ env)) (own_name f.path d.name) d.under → ⊥
  ends place f seen d has met =
      let x = seen.export.declared d has in
      let there : Meets (declarations_in (table_of c)) (own_name f.path d.name) d.under = meets-same (given [] (f ∷ env)) (declarations_in (table_of c)) (own_name f.path d.name) d.under (given-same place f seen) met in
      let named : Meets (declarations_in (table_of c)) (own_name p.path d.name) d.under = subst (λ (q : List ℕ). Meets (declarations_in (table_of c)) (own_name q d.name) d.under) seen.export.path_is there in
      none_holds_itself (declarations_in (table_of c)) exported.table.ends (own_name p.path d.name) x.declaration x.is
      (subst (λ (t : GoType). Meets (declarations_in (table_of c)) (own_name p.path d.name) t) x.under named)

  pub fit : (place : List ℕ → Option ℕ) (f : Face) → ((q : List ℕ) → place q ≡ place_of (paths_in env) q) → IsSeenOf p.path (package_name p) place c f → IsFit p env f
  fit place f places seen = record {
    path_is = seen.export.path_is;
    known = known-as place (place_of (paths_in env)) f places seen.known;
    plain = plain place f seen;
    ends = ends place f seen;
  }

  -- where nothing of this kind is seen, nothing can be told
  pub nothing-told : (place : List ℕ → Option ℕ) → ((q : List ℕ) → place q ≡ place_of (paths_in env) q) → ((f : Face) → IsSeenOf p.path (package_name p) place c f → ⊥) → HasNothing p env
  nothing-told place places unseen = inr (record {
    unit = comes.unit;
    «is» = comes.is;
    marks = subst (λ (list : List Refusal). HasMarks rule comes.unit list) none comes.comes.marks;
    untold = λ f exports value fits. unseen f (exports-seen place f exports value (known-as (place_of (paths_in env)) place f (λ q. sym (places q)) fits.known));
  })

-- what is told of a package by what was found of it
pub found-told : (p : Package) (env : Env) (c : Checked) (place : List ℕ → Option ℕ) (text : List ℕ) → Comes rule p env (outcome.Checked c) → ((q : List ℕ) → place q ≡ place_of (paths_in env) q)
    → (c.refused.items ≡ [] → (f : Face) × IsSeenOf p.path (package_name p) place c f × Tells (Accepts f) text)
    → ((c.refused.items ≡ [] → ⊥) → Tells (Refuses (map line_of c.refused.items)) text) → TellsOf p env text
found-told p env c place text comes places accepted refused = by c.refused.items refl where
  none : (x : Refusal) (xs : List Refusal) → c.refused.items ≡ x ∷ xs → c.refused.items ≡ [] → ⊥
  none x xs is empty = apart x xs (sym is ∙ empty) where
    apart : (x : Refusal) (xs : List Refusal) → x ∷ xs ≡ [] → ⊥
    apart x xs e = cc

  by : (list : List Refusal) → c.refused.items ≡ list → TellsOf p env text
  by [] is =
      let seen = accepted is in
      record { judged = Accepts seen.0; finds = record { unit = comes.unit; «is» = comes.is; marks = subst (λ (list : List Refusal). HasMarks rule comes.unit list) is comes.comes.marks; exports = seen-exports p env c comes is place seen.0 seen.1; fit = fit p env c comes is place seen.0 places seen.1 }; tells = seen.2 }
  by (x ∷ xs) is = record { judged = Refuses (map line_of c.refused.items); finds = record { unit = comes.unit; «is» = comes.is; list = c.refused.items; marks = comes.comes.marks; ordered = comes.comes.ordered; some = none x xs is; lines_are = refl }; tells = refused (none x xs is) }
