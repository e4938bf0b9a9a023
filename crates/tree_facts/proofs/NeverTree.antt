-- The functions of a tree that never return.
use Rattle.std.proofs.Common.{◌≡◌, ℕ, Bool, true, List, Some, slice_get, refl, sym, ◌∙◌, subst}
use Rattle.handed_facts.specs.Handed.{Named, entry}
use Rattle.least.specs.Least.{IsMonotone}
use Rattle.least.specs.Tables.{Member, member}
use Rattle.never_returns.specs.Admits.{Admits}
use Rattle.typed_marks.specs.declared.item.Item.{Item}
use Rattle.typed_marks.specs.Meanings.{Meaning}
use Rattle.unit_read.specs.Units.{Unit}
use Rattle.package_faces.specs.Faces.{Face}
use Rattle.known_callees.specs.Listed.{listed_in}
use Rattle.known_callees.specs.Never.{Around, bodies_in, IsAround, spelling, kinds, IsNeverText}
use Rattle.gv_driver.specs.Suite.{FactsBy}
use Rattle.gv_driver.specs.Judging.Judged.{Accepts}
use Rattle.gv_driver.specs.declared.tree.PackageTexts.{PackageTexts}
use Rattle.gv_driver.specs.Facts.{HasFacts}
use Rattle.gv_driver.specs.Trees.{IsTree}
use Rattle.gv_driver.specs.Whole.{Checked}
use Rattle.known_callees.proofs.NeverLemmas.{AdmitLaws, entries_named, named_entry, never_least, never_once}
use Rattle.known_callees.proofs.ToldLemmas.{MovesOwn}
use Rattle.tree_facts.specs.Accepted.{IsAccepted}
use Rattle.tree_facts.specs.NoReturn.{IsAdmitted, AreNoReturn, NoReturn, Names, AreFactTexts}
use Rattle.tree_facts.proofs.TreeLemmas.{Steps, tells}
use Rattle.tree_facts.proofs.UnitLemmas.{same_unit, same_marks}
use Rattle.tree_facts.proofs.WholeLemmas.{IsOwned, whole, whole_least}

-- an admission over one way of listing labels is one over another
abbrev pub Moves : Type 0
Moves = (u : Unit) (marks : Item → Meaning) (a b : Around) → IsAround u marks a → IsAround u marks b → (N : Member → Bool) (m : Member)
    → Admits (listed_in u) (bodies_in u a) N m → Admits (listed_in u) (bodies_in u b) N m

-- the facts of `ctrlflow`
never_text : (u : Unit) (marks : Item → Meaning) (given : List Named) (text : List ℕ) → FactsBy 4 u marks given text → IsNeverText u marks given text
unfolding FactsBy
never_text u marks given text is = is

module _ (laws : AdmitLaws) (moves : Moves) (tree : List PackageTexts) (formed : IsTree tree) where
  -- more functions never take an admitted one away
  grows : IsMonotone (IsAdmitted tree)
  grows M N m within w = record {
    p = w.p;
    unit = w.unit;
    marks = w.marks;
    accepted = w.accepted;
    own = w.own;
    around = w.around;
    is_around = w.is_around;
    admits = laws.grows (listed_in w.unit) (bodies_in w.unit w.around) M N m within w.admits;
  }

  owned : (N : Member → Bool) (m : Member) → IsAdmitted tree N m → IsOwned tree m
  owned N m w = record { p = w.p; unit = w.unit; marks = w.marks; accepted = w.accepted; own = w.own }

  module _ (p : ℕ) (u : Unit) (marks : Item → Meaning) (here : IsAccepted tree p u marks) where
    admitted : (a : Around) → IsAround u marks a → MovesOwn u (Admits (listed_in u) (bodies_in u a)) (IsAdmitted tree)
    admitted a is N m own admits = record { p = p; unit = u; marks = marks; accepted = here; own = own; around = a; is_around = is; admits = admits }

    -- what is admitted of the package is admitted as it is typed here
    admits_here : (a : Around) → IsAround u marks a → MovesOwn u (IsAdmitted tree) (Admits (listed_in u) (bodies_in u a))
    admits_here a is N m own w =
        let path : w.unit.path ≡ u.path = sym w.own ∙ own in
        let unit : w.unit ≡ u = same_unit tree formed p w.p u w.unit marks w.marks here w.accepted path in
        let ways : w.marks ≡ marks = same_marks tree formed p w.p u w.unit marks w.marks here w.accepted path in
        let around : IsAround u marks w.around = subst (λ (n : Item → Meaning). IsAround u n w.around) ways (subst (λ (x : Unit). IsAround x w.marks w.around) unit w.is_around) in
        moves u marks w.around a around is N m (subst (λ (x : Unit). Admits (listed_in x) (bodies_in x w.around) N m) unit w.admits)

  step : Steps spelling kinds (IsAdmitted tree) 4 tree
  step p u marks here given below beside apart text is = never_least laws u marks given text (never_text u marks given text is) (IsAdmitted tree) grows (admitted p u marks here) (admits_here p u marks here) below beside apart

  pub names_each : (p : ℕ) (pack : PackageTexts) (face : Face) (text : List ℕ) → slice_get tree p ≡ Some pack → Checked tree p (Accepts face) → HasFacts tree 4 p text → Names (NoReturn tree) pack.path text
  names_each p pack face text at good has =
      let t = tells spelling kinds (IsAdmitted tree) 4 tree formed step p text has pack face at good in
      record {
        table = t.table;
        spelled = t.spelled;
        each = λ name. (
          λ there N closed. t.within N closed (entry name 0) (named_entry t.table name there),
          λ all. (entries_named t.table (entry name 0) (t.only (member pack.path name 0) refl (all t.set t.closed))).1,
        );
      }

  pub names_set : (N : Member → Bool) → AreNoReturn tree N → (p : ℕ) (pack : PackageTexts) (face : Face) (text : List ℕ) → slice_get tree p ≡ Some pack → Checked tree p (Accepts face) → HasFacts tree 4 p text → Names (λ m. N m ≡ true) pack.path text
  names_set N are p pack face text at good has =
      let t = names_each p pack face text at good has in
      record {
        table = t.table;
        spelled = t.spelled;
        each = λ name. (
          λ there. (t.each name).0 there N are.closed,
          λ e. (t.each name).1 (λ M closed. are.least M closed (member pack.path name 0) e),
        );
      }

  pub some_set : (all : List Named) → AreFactTexts tree all → (N : Member → Bool) × AreNoReturn tree N
  some_set all are =
      (whole spelling kinds never_once (IsAdmitted tree) grows 4 tree formed step owned all are, whole_least spelling kinds never_once (IsAdmitted tree) grows 4 tree formed step owned all are)
