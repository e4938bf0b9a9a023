-- What a call over a table replies is said over the marks, where the table is in step with them. A judge that is told an answer goes on
-- with it; one that is told a name waits for the name's item, or goes on without an answer where nothing declares the name.
use Rattle.std.proofs.Common.{◌≡◌, Option, None, refl, subst}
use Rattle.type_model.specs.declared.term.TypeName.{TypeName}
use Rattle.type_model.specs.declared.table.TypeTable.{TypeTable}
use Rattle.type_model.specs.Declarations.{Declaration, Declarations}
use Rattle.std.specs.Global.{Vec}
use Rattle.type_model.specs.declared.term.Method.{Method}
use Rattle.type_model.specs.GoTypes.{GoType, MethodsBelow}
use Rattle.type_model.specs.Tables.{count, declarations_in}
use Rattle.method_sets.specs.Levels.{EnoughToList, NeedsToList}
use Rattle.method_sets.specs.Replies.{IsListIn}
use Rattle.type_growth.specs.declared.reply.Reply.{Reply}
use Rattle.type_growth.specs.declared.reply.Reply.TheVariants as reply
use Rattle.type_growth.specs.Lasting.{Lasts, IsReply}
use Rattle.type_questions.specs.declared.reached.Reached.{Reached}
use Rattle.type_questions.specs.declared.reached.Reached.TheVariants.{Got, Lost}
use Rattle.type_questions.specs.declared.reached.Found.{Found}
use Rattle.type_questions.specs.declared.reached.Found.TheVariants.{Is, Wait}
use Rattle.type_questions.specs.Over.{declared, says_over, pends_over, OnFound}
use Rattle.type_questions.specs.Questions.{Told}
use Rattle.type_questions.specs.Judging.{IsInStep, IsFoundBy, IsOfTable, AreMethodsBelow, seen_as}
use Rattle.type_questions.proofs.OverLaws.{base_none}

pub of_table : {Q A : Type 0} (Enough : Declarations → Q → Type 0) (Needs : Declarations → Q → TypeName → Type 0) (Says : Declarations → Q → A → Type 0)
    (t : TypeTable) (q : Q) (r : Reply A) → IsReply Enough Needs Says t q r → IsOfTable t r
of_table Enough Needs Says t q (reply.Is a) said = tt
of_table Enough Needs Says t q (reply.Waits id) (name, low, is, needs) = low

module _ {I M : Type 0} (base : Declarations) (under : TypeName → Option I) (reads : M → Option Declaration) (so_far : I → Option M)
    (t : TypeTable) (step : IsInStep t base under reads so_far)
    {Q B : Type 0} (Enough : Declarations → Q → Type 0) (Needs : Declarations → Q → TypeName → Type 0) (Says : Declarations → Q → B → Type 0)
    (lasts : Lasts Enough Needs Says) (into : Reached B → Told) (q : Q) where
  got : (b : B) → Enough (declarations_in t) q → Says (declarations_in t) q b → says_over base under reads Enough Needs Says so_far q (Got b)
  got b enough said = (
    lasts.enough (declarations_in t) (declared base under reads so_far) q step.grows enough,
    lasts.says (declarations_in t) (declared base under reads so_far) q b step.grows enough said,
  )

  needed : (name : TypeName) → Needs (declarations_in t) q name → declared base under reads so_far name ≡ None → Needs (declared base under reads so_far) q name
  needed name needs none = lasts.needs (declarations_in t) (declared base under reads so_far) q name step.grows needs none

  -- the answers over a table are those of types
  module _ {A : Type 0} (Replies : Declarations → Q → A → Type 0) (view : A → B) (says : (a : A) → Replies (declarations_in t) q a → Says (declarations_in t) q (view a)) where
    pub found_shown : (r : Reply A) (found : Found (Reached A) I) → IsReply Enough Needs Replies t q r → IsFoundBy t base under reads so_far r found
        → OnFound found (λ x. (y : Reached B) × (into (seen_as view x) ≡ into y) × says_over base under reads Enough Needs Says so_far q y)
        (λ item. pends_over base under reads Needs so_far q item)
    found_shown (reply.Is a) (Is (Got b)) (enough, said) same =
        (Got (view b), refl, subst (λ (x : A). says_over base under reads Enough Needs Says so_far q (Got (view x))) same (got (view a) enough (says a said)))
    found_shown (reply.Is a) (Is Lost) r never = absurd never
    found_shown (reply.Is a) (Wait item) r never = absurd never
    found_shown (reply.Waits id) (Is (Got b)) r never = absurd never
    found_shown (reply.Waits id) (Is Lost) (name, low, is, needs) nothing =
        let none = step.told id name low is (lasts.missing (declarations_in t) q name needs) in
        (Lost, refl, (name, needed name needs none, (base_none base under reads so_far name none, nothing name is none)))
    found_shown (reply.Waits id) (Wait item) (name, low, is, needs) waits =
        let none = step.told id name low is (lasts.missing (declarations_in t) q name needs) in (name, needed name needs none, waits name is none)

module _ {I M : Type 0} (base : Declarations) (under : TypeName → Option I) (reads : M → Option Declaration) (so_far : I → Option M)
    (t : TypeTable) (step : IsInStep t base under reads so_far)
    {Q A : Type 0} (Enough : Declarations → Q → Type 0) (Needs : Declarations → Q → TypeName → Type 0) (Says : Declarations → Q → A → Type 0)
    (lasts : Lasts Enough Needs Says) (into : Reached A → Told) (q : Q) where
  seen_itself : (x : Reached A) → seen_as (λ (a : A). a) x ≡ x
  seen_itself (Got a) = refl
  seen_itself Lost = refl

  on_found : (found : Found (Reached A) I)
      → OnFound found (λ x. (y : Reached A) × (into (seen_as (λ (a : A). a) x) ≡ into y) × says_over base under reads Enough Needs Says so_far q y)
      (λ item. pends_over base under reads Needs so_far q item)
      → OnFound found (λ x. (y : Reached A) × (into x ≡ into y) × says_over base under reads Enough Needs Says so_far q y) (λ item. pends_over base under reads Needs so_far q item)
  on_found (Is x) is = subst (λ (z : Reached A). (y : Reached A) × (into z ≡ into y) × says_over base under reads Enough Needs Says so_far q y) (seen_itself x) is
  on_found (Wait item) is = is

  pub found_told : (r : Reply A) (found : Found (Reached A) I) → IsReply Enough Needs Says t q r → IsFoundBy t base under reads so_far r found
      → OnFound found (λ x. (y : Reached A) × (into x ≡ into y) × says_over base under reads Enough Needs Says so_far q y) (λ item. pends_over base under reads Needs so_far q item)
  found_told r found is by =
      on_found found (found_shown base under reads so_far t step Enough Needs Says lasts into q Says (λ (a : A). a) (λ a said. said) r found is by)

-- the methods of a reply are over the table
pub methods_below : {I M : Type 0} (base : Declarations) (under : TypeName → Option I) (reads : M → Option Declaration) (so_far : I → Option M) (t : TypeTable) (of : GoType)
    (r : Reply (Vec Method)) (found : Found (Reached (Vec Method)) I) → IsReply EnoughToList NeedsToList (IsListIn t) t of r → IsFoundBy t base under reads so_far r found
    → AreMethodsBelow t found
methods_below base under reads so_far t of (reply.Is a) (Is (Got b)) (enough, set) same = subst (λ (v : Vec Method). MethodsBelow (count t) v.items) same set.below
methods_below base under reads so_far t of (reply.Is a) (Is Lost) said never = tt
methods_below base under reads so_far t of (reply.Is a) (Wait item) said never = tt
methods_below base under reads so_far t of (reply.Waits id) (Is (Got b)) said never = absurd never
methods_below base under reads so_far t of (reply.Waits id) (Is Lost) said nothing = tt
methods_below base under reads so_far t of (reply.Waits id) (Wait item) said waits = tt
