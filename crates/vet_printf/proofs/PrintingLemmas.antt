-- What is found of a package's functions, as it is stated.
use Rattle.std.proofs.Common.{◌≡◌, ◌<◌, ◌^◌, ℕ, List, map, length, refl, sym, ap, ◌∙◌, subst}
use Rattle.fact_codec.specs.declared.wraps.Wraps.{Wraps}
use Rattle.fact_codec.specs.Kinds.{wraps_spelling}
use Rattle.fact_codec.specs.Texts.{AreFacts}
use Rattle.analysis_core.specs.declared.diagnostic.Diagnostic.{Diagnostic}
use Rattle.std.specs.Global.{Vec}
use Rattle.go_tree.specs.declared.tree.NodeRef.{NodeRef}
use Rattle.handed_facts.specs.Handed.{ArePathsApart, AreToldBy}
use Rattle.least.specs.Tables.{member}
use Rattle.typed_marks.specs.declared.item.Item.{Item}
use Rattle.typed_marks.specs.Meanings.{Meaning}
use Rattle.unit_read.specs.Units.{Unit}
use Rattle.vet_printf.specs.declared.known.Known.{Known}
use Rattle.vet_printf.specs.declared.printing.Printing.{Printing}
use Rattle.vet_printf.specs.Calls.{ArePrintFaults, kinds_at}
use Rattle.vet_printf.specs.Items.{forwards_in, sets_of, ArePrintingSets, AreFactsOf, AreKindsRows}
use Rattle.vet_printf.specs.Knowing.{handed_in, IsKnown}
use Rattle.vet_printf.specs.Wraps.{ArePrinting, IsWrapsText, ArePrintfFindings}
use Rattle.vet_printf.proofs.CellLemmas.{rows_told}
use Rattle.vet_printf.proofs.FactLemmas.{facts_told}
use Rattle.vet_printf.proofs.HandedLemmas.{hands_in}
use Rattle.vet_printf.proofs.ItemLemmas.{forwards_are}

module _ (k : Known) (u : Unit) (marks : Item → Meaning) (known : IsKnown u marks k) (apart : ArePathsApart k.handed.now.given.now) (told : AreToldBy wraps_spelling k.handed.now.given.now k.handed.now.tables.items) where
  printing_are : (x : Printing) → ArePrintingSets k u marks x → ArePrinting u marks k.handed.now.given.now (handed_in k) (sets_of u x)
  printing_are x are = record {
    forwards = forwards_in k u marks;
    are_forwards = record { each = λ m g. forwards_are k u marks known m g };
    are_handed = record { tables = k.handed.now.tables.items; told = told; are = hands_in wraps_spelling k.handed.now.given.now k.handed.now.tables.items apart told };
    least = λ kind. (are.each kind).least;
  }

  pub text_is : (x : Printing) (table : List (List ℕ × Wraps)) (text : List ℕ) → ArePrintingSets k u marks x → AreFactsOf u x table → AreFacts wraps_spelling table text → IsWrapsText u marks k.handed.now.given.now text
  text_is x table text are facts spelled = record {
    handed = handed_in k;
    sets = sets_of u x;
    are = printing_are x are;
    table = table;
    spelled = spelled;
    each = λ name kind. facts_told u x table spelled.order facts name kind;
  }

  pub findings_are : (x : Printing) (rows : List (Vec ℕ)) (found : List Diagnostic) → ArePrintingSets k u marks x → AreKindsRows k u marks x rows → ArePrintFaults (kinds_at rows) u marks found → ArePrintfFindings u marks k.handed.now.given.now found
  findings_are x rows found are kinds faults = record {
    kinds = kinds_at rows;
    are_kinds = record { handed = handed_in k; sets = sets_of u x; are = printing_are x are; each = λ at kind. rows_told k u marks x rows kinds at kind };
    are = faults;
  }
