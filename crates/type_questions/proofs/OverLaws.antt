-- A relation whose answers last, asked over marks.
use Rattle.std.proofs.Common.{◌≡◌, Option, Some, None, refl, ap, ◌∙◌}
use Rattle.std.specs.Option.{option_or, option_map_or}
use Rattle.type_model.specs.declared.term.TypeName.{TypeName}
use Rattle.type_model.specs.Declarations.{Declaration, Declarations}
use Rattle.type_growth.specs.Growth.{Grows}
use Rattle.type_growth.specs.Lasting.{Lasts}
use Rattle.mark_walk.specs.Asks.{Keeps, Lasting}
use Rattle.type_questions.specs.declared.reached.Reached.{Reached}
use Rattle.type_questions.specs.declared.reached.Reached.TheVariants.{Got, Lost}
use Rattle.type_questions.specs.Over.{mark_of, marked, declared, GivesNothing, IsOfNothing, IsPending, says_over, pends_over}

or_grows : {D : Type 0} (o a b : Option D) (d : D) → (a ≡ Some d → b ≡ Some d) → option_or o a ≡ Some d → option_or o b ≡ Some d
or_grows None a b d more is = more is
or_grows (Some x) a b d more is = is

or_none : {D : Type 0} (o a : Option D) → option_or o a ≡ None → o ≡ None
or_none None a is = refl
or_none (Some x) a is = absurd cc

module _ {I M : Type 0} (base : Declarations) (under : TypeName → Option I) (reads : M → Option Declaration) where
  -- more marks, more declarations
  marked_grows : (so_far next : I → Option M) → Keeps so_far next → Grows (marked under reads so_far) (marked under reads next)
  marked_grows so_far next keeps name d e = by (under name) e
    where
      by_mark : (item : I) (o : Option M) → so_far item ≡ o → option_map_or reads o None ≡ Some d → option_map_or reads (next item) None ≡ Some d
      by_mark item None at is = absurd cc
      by_mark item (Some m) at is = ap (λ o. option_map_or reads o None) (keeps item m at) ∙ is

      by : (u : Option I) → option_map_or reads (option_map_or so_far u None) None ≡ Some d → option_map_or reads (option_map_or next u None) None ≡ Some d
      by None is = is
      by (Some item) is = by_mark item (so_far item) refl is

  pub marks_grow : (so_far next : I → Option M) → Keeps so_far next → Grows (declared base under reads so_far) (declared base under reads next)
  marks_grow so_far next keeps name d e =
      or_grows (base name) (marked under reads so_far name) (marked under reads next name) d (marked_grows so_far next keeps name d) e

  -- what isn't declared isn't from the start
  pub base_none : (so_far : I → Option M) (name : TypeName) → declared base under reads so_far name ≡ None → base name ≡ None
  base_none so_far name none = or_none (base name) (marked under reads so_far name) none

  marked_declared : (so_far : I → Option M) (name : TypeName) → base name ≡ None → declared base under reads so_far name ≡ marked under reads so_far name
  marked_declared so_far name none = ap (λ o. option_or o (marked under reads so_far name)) none

  -- what is declared by nothing isn't declared, and won't be
  pub nothing_declared : (so_far : I → Option M) (name : TypeName) → GivesNothing base under reads so_far name → declared base under reads so_far name ≡ None
  nothing_declared so_far name (none, (item, mark, is, at, gives)) =
      marked_declared so_far name none
      ∙ (ap (λ o. option_map_or reads (option_map_or so_far o None) None) is ∙ (ap (λ o. option_map_or reads o None) at ∙ gives))

  pub nothing_stays : (so_far next : I → Option M) (name : TypeName) → Keeps so_far next → GivesNothing base under reads so_far name → GivesNothing base under reads next name
  nothing_stays so_far next name keeps (none, (item, mark, is, at, gives)) = (none, (item, mark, is, keeps item mark at, gives))

  -- what waits isn't declared
  pub pending_declared : (so_far : I → Option M) (name : TypeName) (item : I) → base name ≡ None → IsPending under so_far name item → declared base under reads so_far name ≡ None
  pending_declared so_far name item none (is, at) =
      marked_declared so_far name none
      ∙ (ap (λ o. option_map_or reads (option_map_or so_far o None) None) is ∙ ap (λ o. option_map_or reads o None) at)

  module _ {Q A : Type 0} (Enough : Declarations → Q → Type 0) (Needs : Declarations → Q → TypeName → Type 0) (Says : Declarations → Q → A → Type 0)
      (lasts : Lasts Enough Needs Says) where
    over_stays : (so_far next : I → Option M) (q : Q) (x : Reached A) → Keeps so_far next
        → says_over base under reads Enough Needs Says so_far q x → says_over base under reads Enough Needs Says next q x
    over_stays so_far next q (Got a) keeps (enough, said) =
        let grows = marks_grow so_far next keeps in (
          lasts.enough (declared base under reads so_far) (declared base under reads next) q grows enough,
          lasts.says (declared base under reads so_far) (declared base under reads next) q a grows enough said,
        )
    over_stays so_far next q Lost keeps (name, needs, nothing) =
        let still = nothing_stays so_far next name keeps nothing in
        (name, lasts.needs (declared base under reads so_far) (declared base under reads next) q name (marks_grow so_far next keeps) needs (nothing_declared next name still), still)

    over_once : (so_far : I → Option M) (q : Q) (x y : Reached A)
        → says_over base under reads Enough Needs Says so_far q x → says_over base under reads Enough Needs Says so_far q y → x ≡ y
    over_once so_far q (Got a) (Got b) (enough, said) (also, again) = ap Got (lasts.once (declared base under reads so_far) q a b said again)
    over_once so_far q (Got a) Lost (enough, said) (name, needs, nothing) = absurd (lasts.apart (declared base under reads so_far) q name enough needs)
    over_once so_far q Lost (Got a) (name, needs, nothing) (enough, said) = absurd (lasts.apart (declared base under reads so_far) q name enough needs)
    over_once so_far q Lost Lost p r = refl

    over_waits : (so_far next : I → Option M) (q : Q) (item : I) → Keeps so_far next
        → pends_over base under reads Needs so_far q item → next item ≡ None → pends_over base under reads Needs next q item
    over_waits so_far next q item keeps (name, needs, (is, was)) none =
        let first = base_none so_far name (lasts.missing (declared base under reads so_far) q name needs) in (
          name,
          lasts.needs (declared base under reads so_far) (declared base under reads next) q name (marks_grow so_far next keeps) needs
              (pending_declared next name item first (is, none)),
          (is, none),
        )

    over_missing : (so_far : I → Option M) (q : Q) (item : I) → pends_over base under reads Needs so_far q item → so_far item ≡ None
    over_missing so_far q item (name, needs, (is, none)) = none

    pub over_lasts : Lasting (says_over base under reads Enough Needs Says) (pends_over base under reads Needs)
    over_lasts = record { stays = over_stays; once = over_once; waits = over_waits; missing = over_missing }
