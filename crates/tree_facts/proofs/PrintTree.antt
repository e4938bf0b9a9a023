-- The functions of a tree that print, in each way. Those of all ways are one least set, of which each way has a part of its own.
use Rattle.std.proofs.Common.{◌≡◌, ◌==◌, ◌&&◌, ℕ, Bool, true, false, if◌then◌else◌, List, Some, slice_get, refl, sym, ap, ◌∙◌, subst, eq-eqb}
use Rattle.fact_codec.specs.declared.wraps.WrapKind.{WrapKind}
use Rattle.fact_codec.specs.Kinds.{wraps_spelling}
use Rattle.handed_facts.specs.Handed.{Named, entry}
use Rattle.least.specs.Least.{IsClosed, IsLeast, IsMonotone}
use Rattle.least.specs.Tables.{Member, member}
use Rattle.known_callees.proofs.FunctionNames.{both_true, same_number}
use Rattle.typed_marks.specs.declared.item.Item.{Item}
use Rattle.typed_marks.specs.Meanings.{Meaning}
use Rattle.unit_read.specs.Units.{Unit}
use Rattle.package_faces.specs.Faces.{Face}
use Rattle.known_callees.specs.Wraps.{number_of, kinds_of, IsWrapsText}
use Rattle.gv_driver.specs.Suite.{FactsBy}
use Rattle.gv_driver.specs.Judging.Judged.{Accepts}
use Rattle.gv_driver.specs.declared.tree.PackageTexts.{PackageTexts}
use Rattle.gv_driver.specs.Facts.{HasFacts}
use Rattle.gv_driver.specs.Trees.{IsTree}
use Rattle.gv_driver.specs.Whole.{Checked}
use Rattle.known_callees.proofs.ToldLemmas.{MovesOwn}
use Rattle.known_callees.proofs.WrapLemmas.{admits, admits_kind, admitted_kind, fact_named, named_entry, same_kind, wraps_least, wraps_once}
use Rattle.known_callees.proofs.Words.{both_so}
use Rattle.tree_facts.specs.Accepted.{IsAccepted}
use Rattle.tree_facts.specs.Prints.{IsPrinting, ArePrinting, Prints, NamesKinds, AreWrapTexts}
use Rattle.tree_facts.proofs.TreeLemmas.{Steps, tells}
use Rattle.tree_facts.proofs.UnitLemmas.{same_unit, same_marks}
use Rattle.tree_facts.proofs.WholeLemmas.{IsOwned, whole, whole_least}

-- the facts of `printf`
wraps_text : (u : Unit) (marks : Item → Meaning) (given : List Named) (text : List ℕ) → FactsBy 6 u marks given text → IsWrapsText u marks given text
unfolding FactsBy
wraps_text u marks given text is = is

module _ (tree : List PackageTexts) (formed : IsTree tree) where
  -- what is admitted, in whichever way
  abbrev IsAdmitted : (Member → Bool) → Member → Type 0
  IsAdmitted N m = (kind : WrapKind) × IsPrinting tree kind N m

  -- an admission depends on members of its own way alone
  moved : (kind : WrapKind) (M N : Member → Bool) (m : Member) → ((g : Member) → g.kind ≡ number_of kind → M g ≡ true → N g ≡ true) → IsPrinting tree kind M m → IsPrinting tree kind N m
  moved kind M N m same w = record {
    p = w.p;
    unit = w.unit;
    marks = w.marks;
    accepted = w.accepted;
    own = w.own;
    way = w.way;
    admits = admits_kind w.unit w.marks M N m (λ g alike e. same g (alike ∙ w.way) e) w.admits;
  }

  grows : IsMonotone IsAdmitted
  grows M N m within (kind, w) = (kind, moved kind M N m (λ g alike e. within g e) w)

  owned : (N : Member → Bool) (m : Member) → IsAdmitted N m → IsOwned tree m
  owned N m (kind, w) = record { p = w.p; unit = w.unit; marks = w.marks; accepted = w.accepted; own = w.own }

  module _ (p : ℕ) (u : Unit) (marks : Item → Meaning) (here : IsAccepted tree p u marks) where
    admitted : MovesOwn u (admits u marks) IsAdmitted
    admitted N m own admission =
        let (kind, way) = admitted_kind u marks N m admission in
        (kind, record { p = p; unit = u; marks = marks; accepted = here; own = own; way = way; admits = admission })

    -- what is admitted of the package is admitted as it is typed here
    admits_here : MovesOwn u IsAdmitted (admits u marks)
    admits_here N m own (kind, w) =
        let path : w.unit.path ≡ u.path = sym w.own ∙ own in
        let unit : w.unit ≡ u = same_unit tree formed p w.p u w.unit marks w.marks here w.accepted path in
        let ways : w.marks ≡ marks = same_marks tree formed p w.p u w.unit marks w.marks here w.accepted path in
        subst (λ (n : Item → Meaning). admits u n N m) ways (subst (λ (x : Unit). admits x w.marks N m) unit w.admits)

  step : Steps wraps_spelling kinds_of IsAdmitted 6 tree
  step p u marks here given below beside apart text is = wraps_least u marks given text (wraps_text u marks given text is) IsAdmitted grows (admitted p u marks here) (admits_here p u marks here) below beside apart

  -- ---- one way, and all

  -- of a way these, of the others all
  abbrev widened : WrapKind → (Member → Bool) → Member → Bool
  widened kind N m = if m.kind == number_of kind then N m else true

  widened_is : (kind : WrapKind) (N : Member → Bool) (m : Member) → m.kind ≡ number_of kind → widened kind N m ≡ true → N m ≡ true
  widened_is kind N m way e = sym (ap (λ (b : Bool). if b then N m else true) (eq-eqb m.kind (number_of kind) way)) ∙ e

  widened_closed : (kind : WrapKind) (N : Member → Bool) → IsClosed (IsPrinting tree kind) N → IsClosed IsAdmitted (widened kind N)
  widened_closed kind N closed m (other, w) = by (m.kind == number_of kind) refl where
    by : (b : Bool) → (m.kind == number_of kind) ≡ b → (if b then N m else true) ≡ true
    by true way =
        let one : other ≡ kind = same_kind other kind (sym w.way ∙ same_number m.kind (number_of kind) way) in
        let here : IsPrinting tree kind (widened kind N) m = subst (λ (k : WrapKind). IsPrinting tree k (widened kind N) m) one w in
        closed m (moved kind (widened kind N) N m (λ g way e. widened_is kind N g way e) here)
    by false way = refl

  pub names_each : (p : ℕ) (pack : PackageTexts) (face : Face) (text : List ℕ) → slice_get tree p ≡ Some pack → Checked tree p (Accepts face) → HasFacts tree 6 p text → NamesKinds (Prints tree) pack.path text
  names_each p pack face text at good has =
      let t = tells wraps_spelling kinds_of IsAdmitted 6 tree formed step p text has pack face at good in
      record {
        table = t.table;
        spelled = t.spelled;
        each = λ name kind. (
          λ there N closed. widened_is kind N (member pack.path name (number_of kind)) refl (t.within (widened kind N) (widened_closed kind N closed) (entry name (number_of kind)) (fact_named t.table name kind there)),
          λ all. named_entry t.table name kind (t.only (member pack.path name (number_of kind)) refl (all t.set (λ m w. t.closed m (kind, w)))),
        );
      }

  pub names_set : (sets : WrapKind → Member → Bool) → ArePrinting tree sets → (p : ℕ) (pack : PackageTexts) (face : Face) (text : List ℕ) → slice_get tree p ≡ Some pack → Checked tree p (Accepts face) → HasFacts tree 6 p text
      → NamesKinds (λ kind m. sets kind m ≡ true) pack.path text
  names_set sets are p pack face text at good has =
      let t = names_each p pack face text at good has in
      record {
        table = t.table;
        spelled = t.spelled;
        each = λ name kind. (
          λ there. (t.each name kind).0 there (sets kind) (are kind).closed,
          λ e. (t.each name kind).1 (λ M closed. (are kind).least M closed (member pack.path name (number_of kind)) e),
        );
      }

  -- ---- the sets

  abbrev of_way : (Member → Bool) → WrapKind → Member → Bool
  of_way N kind m = (m.kind == number_of kind) && N m

  ways_least : (N : Member → Bool) → IsLeast IsAdmitted N → ArePrinting tree (of_way N)
  ways_least N least kind = record {
    closed = λ m w. both_so (m.kind == number_of kind) (N m) (eq-eqb m.kind (number_of kind) w.way)
        (least.closed m (kind, moved kind (of_way N kind) N m (λ g way e. (both_true (g.kind == number_of kind) (N g) e).1) w));
    least = λ M closed m e.
        let both = both_true (m.kind == number_of kind) (N m) e in
        widened_is kind M m (same_number m.kind (number_of kind) both.0) (least.least (widened kind M) (widened_closed kind M closed) m both.1);
  }

  pub some_sets : (all : List Named) → AreWrapTexts tree all → (sets : WrapKind → Member → Bool) × ArePrinting tree sets
  some_sets all are =
      let N : Member → Bool = whole wraps_spelling kinds_of wraps_once IsAdmitted grows 6 tree formed step owned all are in
      (of_way N, ways_least N (whole_least wraps_spelling kinds_of wraps_once IsAdmitted grows 6 tree formed step owned all are))
