-- What the late rules of bodies refuse, fault by fault.
use Rattle.std.proofs.Common.{◌≡◌, ◌↔◌, ℕ, ◌<◌, ◌≤◌, ◌^◌, List, [], ◌∷◌, ◌++◌, map, length, slice_get, Option, Some, None, option_map, refl, sym, ap, ◌∙◌, subst, arith}
use Rattle.std.proofs.Math.Path.{fun_ext}
use Rattle.std.proofs.lemmas.List.{length-map}
use Rattle.std.proofs.lemmas.Option.{slice_get_within, slice_get-map}
use Rattle.std.specs.Global.{Vec}
use Rattle.std.specs.List.{Contains}
use Rattle.go_tree.specs.Pieces.{Spelled}
use Rattle.go_tree.specs.declared.tree.FileTree.{FileTree}
use Rattle.go_tree.specs.declared.tree.NodeRef.{NodeRef}
use Rattle.gv_base.proofs.Lists.{same_some, got}
use Rattle.late_list.specs.declared.late.LateFault.{LateFault}
use Rattle.object_order.specs.Spots.{place}
use Rattle.typed_marks.specs.declared.item.Item.{Item}
use Rattle.typed_marks.specs.Meanings.{Meaning}
use Rattle.unit_read.specs.Rows.{AreRows}
use Rattle.unit_read.specs.Subjects.{cell}
use Rattle.unit_read.specs.Units.{Unit, node_at}
use Rattle.bind.specs.Answers.{AreSmall, AreSpelled}
use Rattle.body_facts.specs.Asking.{Asks}
use Rattle.body_facts.specs.Bodies.{AreBodies}
use Rattle.body_facts.specs.Facts.{IsBodyFault}
use Rattle.body_facts.proofs.AskingLemmas.{unasked_body}
use Rattle.check_pkg.specs.declared.references.Counted.TheVariants as counts
use Rattle.check_pkg.specs.declared.refusal.Fault.{Fault}
use Rattle.check_pkg.specs.declared.refusal.Fault.TheVariants.{Rule as RuleFault}
use Rattle.check_pkg.specs.declared.refusal.Refusal.{Refusal}
use Rattle.check_pkg.specs.Gains.{Gains, SomeBelow}
use Rattle.check_pkg.specs.InBodies.{rule_of, IsOfFault, IsRefusedInBody, NthOfFault}
use Rattle.check_pkg.specs.Packages.{text_of}
use Rattle.check_pkg.specs.References.{reads_at, counted_at}
use Rattle.check_pkg.proofs.Lists.{stands_in, contains_at}
use Rattle.check_pkg.proofs.FaultLemmas.{same_refusal}
use Rattle.check_pkg.proofs.GainLemmas.{gains_none, gains_push, gains_as}
use Rattle.check_pkg.proofs.ReferenceLemmas.{counted_are}

-- one fault
pub fault_gain : (y : LateFault) (fault : Fault) (old new : List Refusal) → fault ≡ RuleFault (rule_of y.rule) → new ≡ old ++ record { place = y.place; fault = fault } ∷ [] → Gains (IsOfFault y) old new
fault_gain y fault old new is push =
    gains_push (IsOfFault y) old new (record { place = y.place; fault = fault }) push (refl, is) (λ x (there, same). same_refusal x y.place fault there (same ∙ sym is))

-- all that are found
pub faults_gain : (u : Unit) (marks : Item → Meaning) (methods : List (Vec (Option NodeRef))) (rows : List (Vec (Option NodeRef))) (found given : List LateFault) (old new : List Refusal)
    → methods ≡ [] → AreRows (λ f tree n. counted_at u marks (cell methods) counts.Uses (place f n)) u.trees rows (length u.trees) → given ≡ found → ((y : LateFault) → Contains found y ↔ IsBodyFault u (cell rows) y)
    → Gains (SomeBelow (length given) (NthOfFault given)) old new → Gains (IsRefusedInBody u marks) old new
faults_gain u marks methods rows found given old new bare filled same are gains =
    gains_as (SomeBelow (length found) (NthOfFault found)) (IsRefusedInBody u marks) old new
    (subst (λ (ys : List LateFault). Gains (SomeBelow (length ys) (NthOfFault ys)) old new) same gains) (λ x. (
      λ (k, low, (y, read, is)). (y, (exactly y).0 (contains_at found k y read), is),
      λ (y, fault, is). let s = stands_in found y ((exactly y).1 fault) in (s.0, slice_get_within found s.0 y s.1, (y, s.1, is)),
    )) where
      nothing : (at : NodeRef) → node_at u at ≡ None → cell methods at ≡ None
      nothing at none = ap (λ (r : List (Vec (Option NodeRef))). cell r at) bare

      exactly : (y : LateFault) → Contains found y ↔ IsBodyFault u (reads_at u marks) y
      exactly y = subst (λ (m : NodeRef → Option NodeRef). Contains found y ↔ IsBodyFault u m y) (fun_ext (counted_are u marks (cell methods) nothing counts.Uses rows filled)) (are y)

-- where nothing may be a fault of a body nothing is gained
pub no_bodies_gain : (u : Unit) (marks : Item → Meaning) (list : List Refusal) → AreBodies u.texts u.trees → (Asks u.trees → ⊥) → Gains (IsRefusedInBody u marks) list list
no_bodies_gain u marks list bodies none = gains_none (IsRefusedInBody u marks) list list refl (λ x (y, fault, is). unasked_body u (reads_at u marks) y bodies none fault)

-- ---- the files of a package

-- trees that are spelled are those of bodies
pub spelled_bodies : (trees : List FileTree) (files : List (List ℕ × List ℕ)) → AreSpelled trees files → AreSmall trees → length trees < 2 ^ 32 → AreBodies (map text_of files) trees
spelled_bodies trees files spelled small few = record {
  size = length-map files text_of ∙ sym spelled.size;
  few = omega (arith, few);
  small = small;
  spelled = each;
} where
  each : (k : ℕ) (t : FileTree) (s : List ℕ) → slice_get trees k ≡ Some t → slice_get (map text_of files) k ≡ Some s → Spelled t.tokens s t
  each k t s there text =
      let (file, at) = got files k (let low = slice_get_within trees k t there in let size = spelled.size in omega (arith, low, size)) in
      let same : file.1 ≡ s = same_some (slice_get (map text_of files) k) file.1 s (slice_get-map text_of files k ∙ ap (option_map text_of) at) text in
      subst (λ (x : List ℕ). Spelled t.tokens x t) same (spelled.spelled k t file there at)
