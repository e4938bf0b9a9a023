-- The answers to all questions last.
use Rattle.std.proofs.Common.{◌≡◌, List, Option, Some, None, sym, ap, ◌∙◌}
use Rattle.type_model.specs.declared.term.TypeName.{TypeName}
use Rattle.type_model.specs.Declarations.{Declaration, Declarations}
use Rattle.type_growth.specs.Lasting.{Lasts}
use Rattle.mark_walk.specs.Asks.{Keeps, Lasting}
use Rattle.rel_growth.specs.Assign.{EnoughToAssign, NeedsToAssign, SaysAssignable}
use Rattle.rel_growth.specs.Convert.{EnoughToConvert, NeedsToConvert, SaysConvertible}
use Rattle.rel_growth.specs.Compare.{EnoughToCompare, NeedsToCompare, SaysComparable}
use Rattle.rel_growth.specs.Implement.{EnoughToImplement, NeedsToImplement, SaysImplements}
use Rattle.rel_growth.proofs.AssignLaws.{assigning_lasts}
use Rattle.rel_growth.proofs.ConvertLaws.{converting_lasts}
use Rattle.rel_growth.proofs.CompareLaws.{comparing_lasts}
use Rattle.rel_growth.proofs.ImplementLaws.{implementing_lasts}
use Rattle.method_sets.specs.Levels.{EnoughToSelect, NeedsToSelect, SaysSelected, EnoughToList, NeedsToList, SaysMethods}
use Rattle.method_sets.proofs.ChooseLaws.{selecting_lasts}
use Rattle.method_sets.proofs.ListLaws.{listing_lasts}
use Rattle.type_questions.specs.declared.reached.Reached.{Reached}
use Rattle.type_questions.specs.Over.{declared, says_over, pends_over}
use Rattle.type_questions.specs.Questions.{Question, AssignableTo, ConvertibleTo, IsComparable, MissingMethod, FieldOrMethod, MethodSet, DeclaredAs, Told, Holds, Implementing, Selecting, Listing, Declaring, says, pends}
use Rattle.type_questions.proofs.OverLaws.{marks_grow, over_lasts}

one_declared : (k : Option Declaration) (a b : Declaration) → k ≡ Some a → k ≡ Some b → a ≡ b
one_declared k a b p q = cc

module _ {I M : Type 0} (base : Declarations) (under : TypeName → Option I) (reads : M → Option Declaration) where
  module _ {Q A : Type 0} (Enough : Declarations → Q → Type 0) (Needs : Declarations → Q → TypeName → Type 0) (Says : Declarations → Q → A → Type 0)
      (lasts : Lasts Enough Needs Says) where
    kind_stays : (into : Reached A → Told) (so_far next : I → Option M) (q : Q) (told : Told) → Keeps so_far next
        → (x : Reached A) × (told ≡ into x) × says_over base under reads Enough Needs Says so_far q x
        → (x : Reached A) × (told ≡ into x) × says_over base under reads Enough Needs Says next q x
    kind_stays into so_far next q told keeps (x, is, said) = (x, is, (over_lasts base under reads Enough Needs Says lasts).stays so_far next q x keeps said)

    kind_once : (into : Reached A → Told) (so_far : I → Option M) (q : Q) (told other : Told)
        → (x : Reached A) × (told ≡ into x) × says_over base under reads Enough Needs Says so_far q x
        → (x : Reached A) × (other ≡ into x) × says_over base under reads Enough Needs Says so_far q x → told ≡ other
    kind_once into so_far q told other (x, is, said) (y, also, again) =
        is ∙ (ap into ((over_lasts base under reads Enough Needs Says lasts).once so_far q x y said again) ∙ sym also)

    kind_waits : (so_far next : I → Option M) (q : Q) (item : I) → Keeps so_far next → pends_over base under reads Needs so_far q item → next item ≡ None → pends_over base under reads Needs next q item
    kind_waits so_far next q item keeps waits none = (over_lasts base under reads Enough Needs Says lasts).waits so_far next q item keeps waits none

    kind_missing : (so_far : I → Option M) (q : Q) (item : I) → pends_over base under reads Needs so_far q item → so_far item ≡ None
    kind_missing so_far q item waits = (over_lasts base under reads Enough Needs Says lasts).missing so_far q item waits

  stays : (so_far next : I → Option M) (q : Question) (x : Told) → Keeps so_far next → says base under reads so_far q x → says base under reads next q x
  stays so_far next (AssignableTo q) x keeps said = kind_stays EnoughToAssign NeedsToAssign SaysAssignable assigning_lasts Holds so_far next q x keeps said
  stays so_far next (ConvertibleTo q) x keeps said = kind_stays EnoughToConvert NeedsToConvert SaysConvertible converting_lasts Holds so_far next q x keeps said
  stays so_far next (IsComparable q) x keeps said = kind_stays EnoughToCompare NeedsToCompare SaysComparable comparing_lasts Holds so_far next q x keeps said
  stays so_far next (MissingMethod q) x keeps said = kind_stays EnoughToImplement NeedsToImplement SaysImplements implementing_lasts Implementing so_far next q x keeps said
  stays so_far next (FieldOrMethod q) x keeps said = kind_stays EnoughToSelect NeedsToSelect SaysSelected selecting_lasts Selecting so_far next q x keeps said
  stays so_far next (MethodSet q) x keeps said = kind_stays EnoughToList NeedsToList SaysMethods listing_lasts Listing so_far next q x keeps said
  stays so_far next (DeclaredAs name) x keeps (d, is, said) = (d, is, marks_grow base under reads so_far next keeps name d said)

  once : (so_far : I → Option M) (q : Question) (x y : Told) → says base under reads so_far q x → says base under reads so_far q y → x ≡ y
  once so_far (AssignableTo q) x y p r = kind_once EnoughToAssign NeedsToAssign SaysAssignable assigning_lasts Holds so_far q x y p r
  once so_far (ConvertibleTo q) x y p r = kind_once EnoughToConvert NeedsToConvert SaysConvertible converting_lasts Holds so_far q x y p r
  once so_far (IsComparable q) x y p r = kind_once EnoughToCompare NeedsToCompare SaysComparable comparing_lasts Holds so_far q x y p r
  once so_far (MissingMethod q) x y p r = kind_once EnoughToImplement NeedsToImplement SaysImplements implementing_lasts Implementing so_far q x y p r
  once so_far (FieldOrMethod q) x y p r = kind_once EnoughToSelect NeedsToSelect SaysSelected selecting_lasts Selecting so_far q x y p r
  once so_far (MethodSet q) x y p r = kind_once EnoughToList NeedsToList SaysMethods listing_lasts Listing so_far q x y p r
  once so_far (DeclaredAs name) x y (d, is, said) (e, also, again) = is ∙ (ap Declaring (one_declared (declared base under reads so_far name) d e said again) ∙ sym also)

  waits : (so_far next : I → Option M) (q : Question) (item : I) → Keeps so_far next → pends base under reads so_far q item → next item ≡ None → pends base under reads next q item
  waits so_far next (AssignableTo q) item keeps is none = kind_waits EnoughToAssign NeedsToAssign SaysAssignable assigning_lasts so_far next q item keeps is none
  waits so_far next (ConvertibleTo q) item keeps is none = kind_waits EnoughToConvert NeedsToConvert SaysConvertible converting_lasts so_far next q item keeps is none
  waits so_far next (IsComparable q) item keeps is none = kind_waits EnoughToCompare NeedsToCompare SaysComparable comparing_lasts so_far next q item keeps is none
  waits so_far next (MissingMethod q) item keeps is none = kind_waits EnoughToImplement NeedsToImplement SaysImplements implementing_lasts so_far next q item keeps is none
  waits so_far next (FieldOrMethod q) item keeps is none = kind_waits EnoughToSelect NeedsToSelect SaysSelected selecting_lasts so_far next q item keeps is none
  waits so_far next (MethodSet q) item keeps is none = kind_waits EnoughToList NeedsToList SaysMethods listing_lasts so_far next q item keeps is none
  waits so_far next (DeclaredAs name) item keeps (free, was) none = (free, none)

  missing : (so_far : I → Option M) (q : Question) (item : I) → pends base under reads so_far q item → so_far item ≡ None
  missing so_far (AssignableTo q) item is = kind_missing EnoughToAssign NeedsToAssign SaysAssignable assigning_lasts so_far q item is
  missing so_far (ConvertibleTo q) item is = kind_missing EnoughToConvert NeedsToConvert SaysConvertible converting_lasts so_far q item is
  missing so_far (IsComparable q) item is = kind_missing EnoughToCompare NeedsToCompare SaysComparable comparing_lasts so_far q item is
  missing so_far (MissingMethod q) item is = kind_missing EnoughToImplement NeedsToImplement SaysImplements implementing_lasts so_far q item is
  missing so_far (FieldOrMethod q) item is = kind_missing EnoughToSelect NeedsToSelect SaysSelected selecting_lasts so_far q item is
  missing so_far (MethodSet q) item is = kind_missing EnoughToList NeedsToList SaysMethods listing_lasts so_far q item is
  missing so_far (DeclaredAs name) item (free, none) = none

  pub questions_last : Lasting (says base under reads) (pends base under reads)
  questions_last = record { stays = stays; once = once; waits = waits; missing = missing }
