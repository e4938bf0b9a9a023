-- A package and the unit that is judged.
use Rattle.std.proofs.Common.{◌≡◌, ◌⊎◌, ◌↔◌, ℕ, Bool, true, List, [], map, Option, Some, None, unwrap_or, refl, sym, ap, ◌∙◌, subst, inl, inr, arith}
use Rattle.std.proofs.Math.Path.{fun_ext}
use Rattle.std.specs.List.{Contains}
use Rattle.face_table.specs.Fitting.{given}
use Rattle.package_faces.specs.Faces.{Face, ObjectOut}
use Rattle.package_faces.specs.declared.interface.Interface.{Interface}
use Rattle.std.specs.Global.{Vec}
use Rattle.std.specs.Option.{option_or, option_map_or}
use Rattle.package_faces.specs.Interfaces.{faces_of}
use Rattle.type_model.specs.declared.term.Term.{Term}
use Rattle.type_model.specs.declared.term.TypeName.{TypeName}
use Rattle.type_model.specs.GoTypes.{types_of}
use Rattle.type_questions.specs.Over.{declared}
use Rattle.go_tree.specs.Bindings.{AreInOrder}
use Rattle.go_tree.specs.declared.bindings.Object.{Object}
use Rattle.go_tree.specs.declared.tree.FileTree.{FileTree}
use Rattle.go_tree.specs.declared.tree.NodeRef.{NodeRef}
use Rattle.mark_walk.specs.Asks.{filled}
use Rattle.bind.specs.Denoting.{AreBindings}
use Rattle.bind.specs.Sources.{Sources, AreFiles}
use Rattle.typed_marks.specs.declared.item.Item.{Item}
use Rattle.typed_marks.specs.Meanings.{Meaning, Quiet}
use Rattle.typed_marks.specs.States.{so_far}
use Rattle.unit_read.specs.declared.subject.Subject.{Subject}
use Rattle.unit_read.specs.Imports.{bare}
use Rattle.unit_read.specs.Subjects.{cell, flag, full_of, unit_of}
use Rattle.unit_read.specs.declared.environment.Environment.{Environment}
use Rattle.unit_read.specs.Environments.{faces_in}
use Rattle.unit_read.specs.Units.{Unit, name_at, base_of}
use Rattle.rule_words.specs.Asking.{Rule, type_item, declaration_told}
use Rattle.elaborate.specs.Elaborated.{IsAnnotated}
use Rattle.check_pkg.specs.declared.judging.Found.{Found}
use Rattle.check_pkg.specs.declared.judging.Judged.{Judged}
use Rattle.check_pkg.specs.declared.judging.Judged.TheVariants as j
use Rattle.check_pkg.specs.declared.judging.Outcome.{Outcome}
use Rattle.check_pkg.specs.declared.refusal.Refusal.{Refusal}
use Rattle.check_pkg.specs.declared.typing.Flags.{Flags}
use Rattle.check_pkg.specs.Checks.{HasTypes, IsChecked, IsOutcomeBy, IsOutcomeOf}
use Rattle.check_pkg.specs.Faults.{fault_in}
use Rattle.check_pkg.specs.Gains.{Gains}
use Rattle.check_pkg.specs.ImportLists.{RefusesAllImports}
use Rattle.check_pkg.specs.Imports.{IsRefusedImport}
use Rattle.check_pkg.specs.Items.{IsRefusedItem}
use Rattle.check_pkg.specs.Late.{IsRefusedLate}
use Rattle.check_pkg.specs.Interfaces.{form_of, object_item, declarations_of, IsExported}
use Rattle.check_pkg.specs.Judgings.{IsFound, IsJudged, outcome_in}
use Rattle.check_pkg.specs.Packages.{package_of, text_of, known_of}
use Rattle.check_pkg.specs.Readings.{IsUnitOf}
use Rattle.check_pkg.specs.Refusals.{IsRefused}
use Rattle.check_pkg.specs.Typings.{AreFlagsOf, IsTyped}
use Rattle.check_pkg.proofs.GainLemmas.{gains_then}
use Rattle.std.proofs.lemmas.Option.{slice_get_within}

-- ---- whatever annotation is read

refused_alike : (u : Unit) (a b : Item → Meaning) → ((i : Item) → a i ≡ b i) → (x : Refusal) → IsRefused u a x → IsRefused u b x
refused_alike u a b alike x (inl r) = inl (record {
  block = r.block;
  passage = r.passage;
  node = r.node;
  stage = r.stage;
  here = r.here;
  from = r.from;
  before = r.before;
  told = r.told;
  refuses = (ap fault_in (sym (alike (record { stage = r.stage; block = r.block; node = r.node }))) ∙ r.refuses.0, r.refuses.1);
})
refused_alike u a b alike x (inr (inl import)) = inr (inl (subst (λ (m : Item → Meaning). IsRefusedImport u m x) (fun_ext alike) import))
refused_alike u a b alike x (inr (inr late)) = inr (inr (subst (λ (m : Item → Meaning). IsRefusedLate u m x) (fun_ext alike) late))

exported_alike : (u : Unit) (a b : Item → Meaning) → ((i : Item) → a i ≡ b i) → (out : ObjectOut) → IsExported u a out → IsExported u b out
exported_alike u a b alike out (k, r) = (
  k,
  record {
    name = r.name;
    there = r.there;
    first = r.first;
    exported = r.exported;
    named = r.named;
    form = ap (form_of u.path (name_at u r.name)) (sym (alike (object_item r.name))) ∙ r.form;
  },
)

-- what is declared by the marks so far is what they declare, once nothing is said of the rest
told_at : (u : Unit) (so_far : Item → Option Meaning) (name : TypeName) → declared (base_of u) (type_item (bare u)) declaration_told so_far name ≡ declarations_of u (filled Quiet so_far) name
told_at u so_far name = ap (option_or (base_of u name)) (by (type_item (bare u) name)) where
  at : (i : Item) (m : Option Meaning) → so_far i ≡ m → option_map_or declaration_told (so_far i) None ≡ declaration_told (filled Quiet so_far i)
  at i None e = ap (λ (m : Option Meaning). option_map_or declaration_told m None) e ∙ sym (ap (λ (m : Option Meaning). declaration_told (unwrap_or m Quiet)) e)
  at i (Some x) e = ap (λ (m : Option Meaning). option_map_or declaration_told m None) e ∙ sym (ap (λ (m : Option Meaning). declaration_told (unwrap_or m Quiet)) e)

  by : (o : Option Item) → option_map_or declaration_told (option_map_or so_far o None) None ≡ option_map_or declaration_told (option_map_or (λ (i : Item). Some (filled Quiet so_far i)) o None) None
  by None = refl
  by (Some i) = at i (so_far i) refl

-- what is kept of a unit that is read and marked
is_typed : (rule : Unit → Item → Rule) (u : Subject) (f : Found) (uses : List (NodeRef × Object)) (flags : Flags) → IsFound rule u f → u.uses.now ≡ uses → AreFlagsOf u flags
    → IsTyped rule (full_of u) (record { uses = uses; flags = flags; state = f.state })
is_typed rule u f uses flags found same are = record {
  uses = sym same;
  redeclared = ap (λ (rows : Vec (Vec Bool)). flag rows.items) are.redeclared;
  cyclic = ap (λ (rows : Vec (Vec Bool)). flag rows.items) are.cyclic;
  circular = ap (λ (rows : Vec (Vec Bool)). flag rows.items) are.circular;
  owner = ap (λ (rows : Vec (Vec (Option NodeRef))). cell rows.items) are.owners;
  state = found.scene.state;
  blocks = found.scene.blocks;
  basics = found.scene.basics;
  step = found.scene.step;
  annotated = found.annotated;
}

is_checked : (rule : Unit → Item → Rule) (u : Subject) (f : Found) (uses : List (NodeRef × Object)) (flags : Flags) → IsFound rule u f → u.uses.now ≡ uses → AreFlagsOf u flags
    → IsChecked rule (full_of u) (record { refused = f.refused; exports = f.exports; typed = record { uses = uses; flags = flags; state = f.state } })
is_checked rule u f uses flags found same are = record {
  marks = record {
    marks = marks;
    annotated = the;
    each = λ other is x. (
      λ h. refused_alike (full_of u) marks other (λ i. sym (the.alone other is i)) x ((found.all x).0 h),
      λ h. (found.all x).1 (refused_alike (full_of u) other marks (λ i. the.alone other is i) x h),
    );
  };
  ordered = found.ordered;
  exports = λ empty. record {
    table = found.scene.state.table;
    within = found.within empty;
    objects = record {
      rise = found.rise empty;
      each = λ other is out. (
        λ h. exported_alike (unit_of u) marks other (λ i. sym (the.alone other is i)) out ((found.exported empty out).0 h),
        λ h. (found.exported empty out).1 (exported_alike (unit_of u) other marks (λ i. the.alone other is i) out h),
      );
    };
    declared = λ other is name.
        found.scene.step name ∙ (told_at (full_of u) (so_far f.state) name ∙ ap (λ (m : Item → Meaning). declarations_of (full_of u) m name) (fun_ext (λ i. sym (the.alone other is i))));
  };
  nothing = found.nothing;
  typed = is_typed rule u f uses flags found same are;
} where
  marks : Item → Meaning
  marks = filled Quiet (so_far f.state)

  the : IsAnnotated rule u f.state
  the = found.annotated

-- what comes of a package that has been read
pub read_outcome : (rule : Unit → Item → Rule) (u : Subject) (judged : Judged) (flags : Flags) (path : List ℕ) (texts : List (List ℕ)) (trees : List FileTree) (uses : List (NodeRef × Object)) (env : List Face)
    → IsUnitOf path texts trees uses env (full_of u) → IsJudged rule u judged → AreFlagsOf u flags → IsOutcomeBy rule path texts trees uses env (outcome_in judged uses flags)
read_outcome rule u (j.Found f) flags path texts trees uses env of is are = record { unit = full_of u; «is» = of; comes = is_checked rule u f uses flags is of.uses are }
read_outcome rule u j.Circle flags path texts trees uses env of is are = record { unit = full_of u; «is» = of; comes = is }

pub read_types : (rule : Unit → Item → Rule) (u : Subject) (judged : Judged) (flags : Flags) (uses : List (NodeRef × Object)) → IsJudged rule u judged → HasTypes u.env.now.types.now (outcome_in judged uses flags)
read_types rule u (j.Found f) flags uses is = (is.scene.basics, is.scene.env)
read_types rule u j.Circle flags uses is = tt

-- ---- all that is refused

down_imports : (u : Unit) (marks : Item → Meaning) (x : Refusal) → RefusesAllImports u marks x → IsRefusedImport u marks x
down_imports u marks x (f, low, (at, name, (file, import, named), (lies, fault))) = (at, name, import, named, lies, fault)

up_import : (u : Unit) (marks : Item → Meaning) (x : Refusal) → IsRefusedImport u marks x → RefusesAllImports u marks x
up_import u marks x (at, name, import, named, lies, fault) = (at.file, slice_get_within u.trees at.file import.0 import.1, (at, name, (refl, import, named), (lies, fault)))

-- ---- the environment

-- what is declared from the start is what is given beside the package
pub given_base : (u : Unit) (path : List ℕ) (env : List Face) → u.path ≡ path → u.env ≡ env → (name : TypeName) → given path env name ≡ base_of u name
given_base u path env is are name = ap (λ (p : List ℕ). given p env name) (sym is) ∙ ap (λ (e : List Face). given u.path e name) (sym are)

-- an environment over these terms has the faces over their types
pub faces_are : (e : Environment) (interfaces : List Interface) (terms : List Term) → e.interfaces.now ≡ interfaces → e.types.now ≡ terms → faces_in e ≡ faces_of (types_of terms) interfaces
unfolding faces_in
faces_are e interfaces terms are types =
    ap (λ (ts : List Term). faces_of (types_of ts) e.interfaces.now) types ∙ ap (λ (is : List Interface). faces_of (types_of terms) is) are

-- ---- the package

pub is_outcome : (rule : Unit → Item → Rule) (path : List ℕ) (files : List (List ℕ × List ℕ)) (trees : List FileTree) (env : List Face) (named : List (List ℕ × List ℕ)) (uses : List (NodeRef × Object)) (outcome : Outcome)
    → named ≡ known_of env → AreInOrder uses → ((p : Sources) → p.named ≡ named → AreFiles trees files p.files → AreBindings p uses)
    → IsOutcomeBy rule path (map text_of files) trees uses env outcome → IsOutcomeOf rule (package_of path files trees) env outcome
is_outcome rule path files trees env named uses outcome known ordered bound by = record {
  unit = by.unit;
  «is» = record {
    path = by.is.path;
    texts = by.is.texts;
    trees = by.is.trees;
    uses = record {
      ordered = subst AreInOrder (sym by.is.uses) ordered;
      bound = λ p same are. subst (λ (us : List (NodeRef × Object)). AreBindings p us) (sym by.is.uses) (bound p (same ∙ sym known) are);
    };
    env = by.is.env;
    redeclared = by.is.redeclared;
    needs = by.is.needs;
    circular = by.is.circular;
  };
  comes = by.comes;
}

pub collected : (u : Unit) (marks : Item → Meaning) (start mid last end : List Refusal) → start ≡ [] → Gains (IsRefusedItem (bare u) marks) start mid → Gains (RefusesAllImports u marks) mid last
    → Gains (IsRefusedLate u marks) last end → (x : Refusal) → Contains end x ↔ IsRefused u marks x
collected u marks start mid last end empty items imports lates x =
    let all = gains_then (IsRefusedItem (bare u) marks) (λ y. RefusesAllImports u marks y ⊎ IsRefusedLate u marks y) start mid end items
    (gains_then (RefusesAllImports u marks) (IsRefusedLate u marks) mid last end imports lates) in (
      λ h. elim ((all.all x).0 h) [
        | inl before ↦ absurd (nothing start x empty before)
        | inr gained ↦ elim gained [ inl item ↦ inl item | inr other ↦ inr (elim other [ inl import ↦ inl (down_imports u marks x import) | inr late ↦ inr late ]) ]
      ],
      λ h. (all.all x).1 (inr (elim h [ inl item ↦ inl item | inr other ↦ inr (elim other [ inl import ↦ inl (up_import u marks x import) | inr late ↦ inr late ]) ])),
    ) where
      nothing : (list : List Refusal) (x : Refusal) → list ≡ [] → Contains list x → ⊥
      nothing list x is has = let none : Contains [] x = subst (λ (l : List Refusal). Contains l x) is has in absurd (let (k, low, e) = none in omega arith)
