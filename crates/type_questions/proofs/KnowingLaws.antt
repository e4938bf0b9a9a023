-- Answers stay where more is known from the start.
use Rattle.std.proofs.Common.{◌≡◌, Option, Some, None, refl, sym, ap, ◌∙◌}
use Rattle.std.specs.Option.{option_or, option_map_or}
use Rattle.type_model.specs.declared.term.TypeName.{TypeName}
use Rattle.type_model.specs.Declarations.{Declaration, Declarations}
use Rattle.type_growth.specs.Growth.{Grows}
use Rattle.type_growth.specs.Lasting.{Lasts}
use Rattle.rel_growth.specs.Assign.{EnoughToAssign, NeedsToAssign, SaysAssignable}
use Rattle.rel_growth.specs.Convert.{EnoughToConvert, NeedsToConvert, SaysConvertible}
use Rattle.rel_growth.specs.Compare.{EnoughToCompare, NeedsToCompare, SaysComparable}
use Rattle.rel_growth.specs.Implement.{EnoughToImplement, NeedsToImplement, SaysImplements}
use Rattle.rel_growth.proofs.AssignLaws.{assigning_lasts}
use Rattle.rel_growth.proofs.ConvertLaws.{converting_lasts}
use Rattle.rel_growth.proofs.CompareLaws.{comparing_lasts}
use Rattle.rel_growth.proofs.ImplementLaws.{implementing_lasts}
use Rattle.method_sets.specs.Levels.{EnoughToSelect, NeedsToSelect, SaysSelected, EnoughToList, NeedsToList, SaysMethods}
use Rattle.method_sets.proofs.ChooseLaws.{selecting_lasts}
use Rattle.method_sets.proofs.ListLaws.{listing_lasts}
use Rattle.type_questions.specs.declared.reached.Reached.{Reached}
use Rattle.type_questions.specs.declared.reached.Reached.TheVariants.{Got, Lost}
use Rattle.type_questions.specs.Over.{marked, declared, GivesNothing, says_over}
use Rattle.type_questions.specs.Questions.{Question, AssignableTo, ConvertibleTo, IsComparable, MissingMethod, FieldOrMethod, MethodSet, DeclaredAs, Told, Holds, Implementing, Selecting, Listing, says}
use Rattle.type_questions.proofs.OverLaws.{nothing_declared}

-- of a name that an item declares, but this one, the same is declared from the start
abbrev pub DeclaresSame : {I : Type 0} → Declarations → Declarations → (TypeName → Option I) → I → Type 0
DeclaresSame {I} base more under lone = (name : TypeName) (item : I) → under name ≡ Some item → (item ≡ lone → ⊥) → more name ≡ base name

module _ {I M : Type 0} (base more : Declarations) (under : TypeName → Option I) (reads : M → Option Declaration) (lone : I) (grows : Grows base more) (same : DeclaresSame base more under lone)
    (so_far : I → Option M) (free : so_far lone ≡ None) where
  apart : (item : I) (mark : M) → so_far item ≡ Some mark → item ≡ lone → ⊥
  apart item mark at is = let both : Some mark ≡ None = sym at ∙ (ap so_far is ∙ free) in absurd cc

  -- of a name that marks declare the same is declared from the start
  marked_same : (name : TypeName) (d : Declaration) → marked under reads so_far name ≡ Some d → more name ≡ base name
  marked_same name d is = by (under name) refl is where
    at_item : (item : I) → under name ≡ Some item → (o : Option M) → so_far item ≡ o → option_map_or reads o None ≡ Some d → more name ≡ base name
    at_item item at None none e = absurd cc
    at_item item at (Some mark) there e = same name item at (apart item mark there)

    by : (o : Option I) → under name ≡ o → option_map_or reads (option_map_or so_far o None) None ≡ Some d → more name ≡ base name
    by None at e = absurd cc
    by (Some item) at e = at_item item at (so_far item) refl e

  pub declared_grows : Grows (declared base under reads so_far) (declared more under reads so_far)
  declared_grows name d is = by (base name) refl is where
    with_marks : Option Declaration → Option Declaration
    with_marks o = option_or o (marked under reads so_far name)

    by : (o : Option Declaration) → base name ≡ o → with_marks o ≡ Some d → declared more under reads so_far name ≡ Some d
    by None at e = ap with_marks (marked_same name d e ∙ at) ∙ e
    by (Some x) at e = ap with_marks (grows name x at) ∙ e

  -- what nothing declares nothing declares
  nothing_more : (name : TypeName) → GivesNothing base under reads so_far name → GivesNothing more under reads so_far name
  nothing_more name (none, (item, mark, is, at, gives)) = (same name item is (apart item mark at) ∙ none, (item, mark, is, at, gives))

  module _ {Q A : Type 0} (Enough : Declarations → Q → Type 0) (Needs : Declarations → Q → TypeName → Type 0) (Says : Declarations → Q → A → Type 0)
      (lasts : Lasts Enough Needs Says) where
    over_more : (q : Q) (x : Reached A) → says_over base under reads Enough Needs Says so_far q x → says_over more under reads Enough Needs Says so_far q x
    over_more q (Got a) (enough, said) =
        let more_declared = declared_grows in (
          lasts.enough (declared base under reads so_far) (declared more under reads so_far) q more_declared enough,
          lasts.says (declared base under reads so_far) (declared more under reads so_far) q a more_declared enough said,
        )
    over_more q Lost (name, needs, nothing) =
        let still = nothing_more name nothing in
        (name, lasts.needs (declared base under reads so_far) (declared more under reads so_far) q name declared_grows needs (nothing_declared more under reads so_far name still), still)

    kind_more : (into : Reached A → Told) (q : Q) (told : Told)
        → (x : Reached A) × (told ≡ into x) × says_over base under reads Enough Needs Says so_far q x
        → (x : Reached A) × (told ≡ into x) × says_over more under reads Enough Needs Says so_far q x
    kind_more into q told (x, is, said) = (x, is, over_more q x said)

  -- each question has the answers that it had
  pub says_more : (q : Question) (x : Told) → says base under reads so_far q x → says more under reads so_far q x
  says_more (AssignableTo q) x said = kind_more EnoughToAssign NeedsToAssign SaysAssignable assigning_lasts Holds q x said
  says_more (ConvertibleTo q) x said = kind_more EnoughToConvert NeedsToConvert SaysConvertible converting_lasts Holds q x said
  says_more (IsComparable q) x said = kind_more EnoughToCompare NeedsToCompare SaysComparable comparing_lasts Holds q x said
  says_more (MissingMethod q) x said = kind_more EnoughToImplement NeedsToImplement SaysImplements implementing_lasts Implementing q x said
  says_more (FieldOrMethod q) x said = kind_more EnoughToSelect NeedsToSelect SaysSelected selecting_lasts Selecting q x said
  says_more (MethodSet q) x said = kind_more EnoughToList NeedsToList SaysMethods listing_lasts Listing q x said
  says_more (DeclaredAs name) x (d, is, said) = (d, is, declared_grows name d said)
