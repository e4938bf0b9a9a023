-- What statements call, by what they name.
use Rattle.std.proofs.Common.{◌≡◌, ℕ, ◌+◌, ◌++◌, Bool, true, false, List, [], ◌∷◌, map, Option, Some, None, refl, sym, ap, ◌∙◌, subst, inl, inr}
use Rattle.std.proofs.lemmas.List.{length_push}
use Rattle.gv_base.proofs.Lists.{push_cases}
use Rattle.object_order.specs.Spots.{place}
use Rattle.selected_methods.specs.InCode.{IsWhat}
use Rattle.typed_marks.specs.declared.item.Item.{Item}
use Rattle.typed_marks.specs.Meanings.{Meaning}
use Rattle.unit_read.specs.Units.{Unit, nodes_at}
use Rattle.flow.specs.declared.point.Call.{Call}
use Rattle.least.specs.Tables.{Member}
use Rattle.never_returns.specs.Admits.{Callee, Other, Panic, Named}
use Rattle.never_returns.specs.Bodies.{call_of}
use Rattle.member_names.specs.Named.{IsNamed}
use Rattle.own_functions.specs.Functions.{Pair, number}
use Rattle.vet_never.specs.declared.told.Told.{Told}
use Rattle.vet_never.specs.Callees.{callee_of, is_panic, member_of, IsMemberCallee, IsCalleeIf, IsCalleeOf, IsCallee}
use Rattle.vet_never.specs.InCode.{callee_in, AreCallees, IsCallAt, AreCallsOf}

module _ (u : Unit) (marks : Item → Meaning) where
  pub member_called : (f n : ℕ) (x : Pair) (c : Callee) → IsWhat (IsNamed u marks f n) (Some x) → c ≡ Named (member_of x) → IsMemberCallee u marks f n c
  member_called f n x c what e = inl (x, (what x).0 refl, e)

  pub none_called : (f n : ℕ) (c : Callee) → IsWhat (IsNamed u marks f n) None → c ≡ Other → IsMemberCallee u marks f n c
  none_called f n c what e = inr ((λ x names. differ x ((what x).1 names)), e) where
    differ : (x : Pair) → None ≡ Some x → ⊥
    differ x e = cc

  pub panic_called : (f n : ℕ) (b : Bool) → is_panic u f n ≡ b → b ≡ true → IsCalleeIf u marks f n (is_panic u f n) Panic
  panic_called f n b is e = subst (λ (x : Bool). IsCalleeIf u marks f n x Panic) (sym (is ∙ e)) refl

  pub other_called : (f n : ℕ) (b : Bool) (c : Callee) → is_panic u f n ≡ b → b ≡ false → IsMemberCallee u marks f n c → IsCalleeIf u marks f n (is_panic u f n) c
  other_called f n b c is e called = subst (λ (x : Bool). IsCalleeIf u marks f n x c) (sym (is ∙ e)) called

  pub node_called : (f n callee : ℕ) (c : Callee) → callee_of (nodes_at u f) n ≡ Some callee → IsCalleeIf u marks f callee (is_panic u f callee) c → IsCallee u marks (place f n) c
  node_called f n callee c is called = subst (λ (o : Option ℕ). IsCalleeOf u marks f o c) (sym is) called

  pub nothing_called : (f n : ℕ) → callee_of (nodes_at u f) n ≡ None → IsCallee u marks (place f n) Other
  nothing_called f n is = subst (λ (o : Option ℕ). IsCalleeOf u marks f o Other) (sym is) refl

  -- ---- rows

  pub no_callees : (f : ℕ) (row : List Told) → row ≡ [] → AreCallees u marks f 0 row
  no_callees f row e = subst (λ (l : List Told). AreCallees u marks f 0 l) (sym e) (record { size = refl; each = λ i t at. absurd (cc) })

  pub callee_more : (f n : ℕ) (row new : List Told) (t : Told) → AreCallees u marks f n row → IsCallee u marks (place f n) (callee_in t) → new ≡ row ++ t ∷ [] → AreCallees u marks f (n + 1) new
  callee_more f n row new t was is now = subst (λ (l : List Told). AreCallees u marks f (n + 1) l) (sym now) (record {
    size = length_push row t ∙ ap (λ m. m + 1) was.size;
    each = λ i x at. elim (push_cases row t x i at) [
      | inl before ↦ was.each i x before
      | inr (last, same) ↦ subst (λ (y : Told). IsCallee u marks (place f i) (callee_in y)) same (subst (λ (m : ℕ). IsCallee u marks (place f m) (callee_in t)) (sym (last ∙ was.size)) is)
    ];
  })

  -- ---- by number

  module _ (given : Member → Bool) where
    pub none_numbered : (f : ℕ) (calls : List Call) → calls ≡ [] → AreCallsOf u marks given f 0 calls
    none_numbered f calls e = ([], no_callees f [] refl, e)

    mapped : (row : List Told) (t : Told) → map (λ x. call_of given (number 0 u) (callee_in x)) (row ++ t ∷ []) ≡ map (λ x. call_of given (number 0 u) (callee_in x)) row ++ call_of given (number 0 u) (callee_in t) ∷ []
    mapped [] t = refl
    mapped (x ∷ row) t = ap (λ l. call_of given (number 0 u) (callee_in x) ∷ l) (mapped row t)

    pub one_numbered : (f n : ℕ) (old new : List Call) (call : Call) → AreCallsOf u marks given f n old → IsCallAt u marks given f n call → new ≡ old ++ call ∷ [] → AreCallsOf u marks given f (n + 1) new
    one_numbered f n old new call (row, callees, calls) (t, called, is) now = (
      row ++ t ∷ [],
      callee_more f n row (row ++ t ∷ []) t callees called refl,
      now ∙ (ap (λ (l : List Call). l ++ call ∷ []) calls ∙ (ap (λ (x : Call). map (λ y. call_of given (number 0 u) (callee_in y)) row ++ x ∷ []) is ∙ sym (mapped row t))),
    )

    pub all_numbered : (f n total : ℕ) (calls : List Call) → n ≡ total → AreCallsOf u marks given f n calls → AreCallsOf u marks given f total calls
    all_numbered f n total calls e are = subst (λ (m : ℕ). AreCallsOf u marks given f m calls) e are
