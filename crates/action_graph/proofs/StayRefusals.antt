-- What refuses a package refuses it, and nothing else does, where more is seen of other packages.
use Rattle.std.proofs.Common.{◌≡◌, ◌↔◌, inl, inr, ℕ, Bool, Option, Some, None, List, map, refl, sym, ap, ◌∙◌, subst}
use Rattle.std.proofs.Math.Path.{fun_ext}
use Rattle.std.specs.List.{Contains}
use Rattle.std.specs.Option.{option_map_or}
use Rattle.go_tree.specs.Head.{import_line}
use Rattle.go_tree.specs.declared.tree.FileTree.{FileTree}
use Rattle.go_tree.specs.declared.tree.NodeRef.{NodeRef}
use Rattle.bind.specs.Imports.{line_name}
use Rattle.package_faces.specs.Faces.{Face}
use Rattle.typed_marks.specs.declared.item.Item.{Item}
use Rattle.typed_marks.specs.Meanings.{Meaning}
use Rattle.unit_read.specs.Imports.{bare, import_limit}
use Rattle.unit_read.specs.Units.{Unit, text_in}
use Rattle.unit_read.proofs.BareLemmas.{over}
use Rattle.rule_words.specs.Asking.{Rule}
use Rattle.duplicate_cases.specs.Duplicates.{IsDuplicateCase}
use Rattle.selected_methods.specs.Selected.{IsSelectedMethod}
use Rattle.value_circles.specs.Bodies.{body_entries, opened_trees}
use Rattle.value_circles.specs.Circles.{IsInitialCircle}
use Rattle.check_pkg.specs.declared.late_rules.Late.{Late}
use Rattle.check_pkg.specs.declared.late_rules.Late.TheVariants as l
use Rattle.check_pkg.specs.declared.refusal.Fault.{Fault}
use Rattle.check_pkg.specs.declared.refusal.Refusal.{Refusal}
use Rattle.check_pkg.specs.Faults.{place_of}
use Rattle.check_pkg.specs.Imports.{import_name, IsImport, IsDeclared, IsTaken, IsUsed, HasImportFault, IsRefusedImport}
use Rattle.check_pkg.specs.InBodies.{IsRefusedInBody}
use Rattle.check_pkg.specs.Initial.{IsInitialFault}
use Rattle.check_pkg.specs.Items.{IsRefusedItem}
use Rattle.check_pkg.specs.Late.{RefusesLate, IsLateAt, IsRefusedByRow, IsRefusedLate}
use Rattle.check_pkg.specs.References.{reference_at, IsReference, AreReferences}
use Rattle.check_pkg.specs.Refusals.{HasMarks, IsAnnotation, IsOneAnnotation, IsRefused}
use Rattle.action_graph.proofs.StayImports.{Within, bare_is, name_same}
use Rattle.action_graph.proofs.StayMarks.{annotation_stays}
use Rattle.action_graph.proofs.StaySelected.{AllDecided, selected_forth, selected_back}

-- ---- from one unit to another that rules read alike, whose imports declare the same names and in which selectors select the same methods

-- an import declares the same name
abbrev NamesAlike : Unit → Unit → Type 0
NamesAlike one other = (at : NodeRef) → IsImport (bare one) at → import_name one at ≡ import_name other at

abbrev SelectsAlike : Unit → Unit → (Item → Meaning) → Type 0
SelectsAlike one other marks = (at w : NodeRef) → IsSelectedMethod one marks at w ↔ IsSelectedMethod other marks at w

module _ (one other : Unit) (same : bare one ≡ bare other) (names : NamesAlike one other) (marks : Item → Meaning) (selects : SelectsAlike one other marks)
    (trees : one.trees ≡ other.trees) (cyclic : one.cyclic ≡ other.cyclic) where
  taken_to : (at : NodeRef) (name : List ℕ) → IsTaken one at name → IsTaken other at name
  taken_to at name (inl declared) = inl (subst (λ (b : Unit). IsDeclared b name) same declared)
  taken_to at name (inr (before, import, file, less, named)) = inr (before, subst (λ (b : Unit). IsImport b before) same import, file, less, sym (names before import) ∙ named)

  fault_to : (at : NodeRef) (name : List ℕ) (fault : Fault) → HasImportFault one marks at name fault → HasImportFault other marks at name fault
  fault_to at name fault (inl (is, taken)) = inl (is, taken_to at name taken)
  fault_to at name fault (inr (is, limit, unused)) =
      inr (is, subst (λ (b : Unit). import_limit b at ≡ None) same limit, λ used. unused (subst (λ (b : Unit). IsUsed b marks at) (sym same) used))

  import_to : (x : Refusal) → IsRefusedImport one marks x → IsRefusedImport other marks x
  import_to x (at, name, import, named, place, fault) =
      (at, name, subst (λ (b : Unit). IsImport b at) same import, sym (names at import) ∙ named, subst (λ (b : Unit). x.place ≡ place_of b at) same place, fault_to at name x.fault fault)

  reference_to : (at w : NodeRef) → IsReference one marks at w → IsReference other marks at w
  reference_to at w (inl is) = inl (subst (λ (b : Unit). reference_at b marks at ≡ Some w) same is)
  reference_to at w (inr (none, is)) = inr (subst (λ (b : Unit). reference_at b marks at ≡ None) same none, (selects at w).0 is)

  reference_from : (at w : NodeRef) → IsReference other marks at w → IsReference one marks at w
  reference_from at w (inl is) = inl (subst (λ (b : Unit). reference_at b marks at ≡ Some w) (sym same) is)
  reference_from at w (inr (none, is)) = inr (subst (λ (b : Unit). reference_at b marks at ≡ None) (sym same) none, (selects at w).1 is)

  references_to : (meant : NodeRef → Option NodeRef) → AreReferences one marks meant → AreReferences other marks meant
  references_to meant are at w = (λ e. reference_to at w ((are at w).0 e), λ is. (are at w).1 (reference_from at w is))

  initial_to : (at : NodeRef) → IsInitialFault one marks at → IsInitialFault other marks at
  initial_to at (meant, are, circle) = (
    meant,
    references_to meant are,
    subst (λ (ts : List FileTree). IsInitialCircle (opened_trees ts) meant other.cyclic (body_entries ts) at) trees
        (subst (λ (c : NodeRef → Bool). IsInitialCircle (opened_trees one.trees) meant c (body_entries one.trees) at) cyclic circle),
  )

  late_to : (late : Late) (at : NodeRef) → RefusesLate one marks late at → RefusesLate other marks late at
  late_to l.InitialCycle at is = initial_to at is
  late_to l.DuplicateCase at is = subst (λ (b : Unit). IsDuplicateCase b marks at) same is

  row_to : (x : Refusal) → IsRefusedByRow one marks x → IsRefusedByRow other marks x
  row_to x (late, (at, refuses, here)) = (late, (at, late_to late at refuses, subst (λ (b : Unit). IsLateAt b late at x) same here))

  lates_to : (x : Refusal) → IsRefusedLate one marks x → IsRefusedLate other marks x
  lates_to x (inl row) = inl (row_to x row)
  lates_to x (inr body) = inr (subst (λ (b : Unit). IsRefusedInBody b marks x) same body)

  refused_to : (x : Refusal) → IsRefused one marks x → IsRefused other marks x
  refused_to x (inl item) = inl (subst (λ (b : Unit). IsRefusedItem b marks x) same item)
  refused_to x (inr (inl import)) = inr (inl (import_to x import))
  refused_to x (inr (inr late)) = inr (inr (lates_to x late))

-- ---- over the world

module _ (u : Unit) (world : List Face) (a : Within u world) where
  -- an import declares the same name
  names_alike : NamesAlike u (over u world)
  names_alike at (tree, here, has) =
      ap (λ (o : Option FileTree). option_map_or (λ (tree : FileTree). line_name (known u.env) (import_line tree (text_in u at.file) at.node)) o None) here
      ∙ (name_same u world a at.file at.node tree here has
      ∙ sym (ap (λ (o : Option FileTree). option_map_or (λ (tree : FileTree). line_name (known world) (import_line tree (text_in u at.file) at.node)) o None) here))
    where
      known : List Face → List (List ℕ × List ℕ)
      known faces = map (λ (f : Face). (f.path, f.name)) faces

  names_back : NamesAlike (over u world) u
  names_back at import = sym (names_alike at (subst (λ (b : Unit). IsImport b at) (bare_is u world a) import))

  module _ (marks : Item → Meaning) (decided : AllDecided u world a marks) where
    pub refused_forth : (x : Refusal) → IsRefused u marks x → IsRefused (over u world) marks x
    refused_forth =
        refused_to u (over u world) (sym (bare_is u world a)) names_alike marks
        (λ at w. (selected_forth u world a marks decided at w, selected_back u world a marks decided at w)) refl refl

    pub refused_back : (x : Refusal) → IsRefused (over u world) marks x → IsRefused u marks x
    refused_back =
        refused_to (over u world) u (bare_is u world a) names_back marks
        (λ at w. (selected_back u world a marks decided at w, selected_forth u world a marks decided at w)) refl refl

  -- the same refuses the package over the world
  pub marks_stay : (rule : Unit → Item → Rule) → ((marks : Item → Meaning) → IsAnnotation rule u marks → AllDecided u world a marks)
      → (list : List Refusal) → HasMarks rule u list → HasMarks rule (over u world) list
  marks_stay rule decides list has = record { marks = has.marks; annotated = still; each = each } where
    still : IsOneAnnotation rule (over u world) has.marks
    still = annotation_stays u world a rule has.marks has.annotated

    decided : AllDecided u world a has.marks
    decided = decides has.marks has.annotated.«is»

    each : (others : Item → Meaning) → IsAnnotation rule (over u world) others → (x : Refusal) → Contains list x ↔ IsRefused (over u world) others x
    each others annotates x =
        let one : others ≡ has.marks = fun_ext (λ i. (annotation_stays u world a rule has.marks has.annotated).alone others annotates i) in
        subst (λ (ms : Item → Meaning). Contains list x ↔ IsRefused (over u world) ms x) (sym one) (
          λ c. refused_forth has.marks decided x ((has.each has.marks has.annotated.«is» x).0 c),
          λ is. (has.each has.marks has.annotated.«is» x).1 (refused_back has.marks decided x is),
        )
