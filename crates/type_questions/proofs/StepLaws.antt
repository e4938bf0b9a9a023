-- A table that declares all that is declared is in step with the marks, and stays so.
use Rattle.std.proofs.Common.{◌≡◌, ◌≢◌, ◌⊎◌, List, Option, Some, None, refl, sym, ap, ◌∙◌, inl, inr}
use Rattle.std.specs.Option.{option_or, option_map_or}
use Rattle.type_model.specs.declared.term.TypeId.{TypeId}
use Rattle.type_model.specs.declared.term.TypeName.{TypeName}
use Rattle.type_model.specs.declared.term.Method.{Method}
use Rattle.type_model.specs.declared.table.TypeTable.{TypeTable}
use Rattle.type_model.specs.GoTypes.{DefinedType}
use Rattle.type_model.specs.Declarations.{Declaration, Declarations}
use Rattle.type_model.specs.Tables.{types_in, declarations_in, declaration_of, Declares}
use Rattle.type_model.proofs.DeclarationLaws.{name_or_other}
use Rattle.mark_walk.specs.Asks.{Adds, Stays}
use Rattle.type_questions.specs.Over.{marked, declared}
use Rattle.type_questions.specs.Judging.{IsInStep, DeclaresAll, IsItemOf}
use Rattle.type_questions.proofs.OverLaws.{base_none}

module _ {I M : Type 0} (base : Declarations) (under : TypeName → Option I) (reads : M → Option Declaration) where
  pub all_in_step : (t : TypeTable) (so_far : I → Option M) → DeclaresAll t base under reads so_far → IsInStep t base under reads so_far
  all_in_step t so_far all = record {
    grows = λ name d is. sym (all name) ∙ is;
    told = λ id name low is none. sym (all name) ∙ none;
  }

  -- where what the item's mark says is the same, so is what is declared
  reads_same : (so_far next : I → Option M) (name : TypeName)
      → ((item : I) → under name ≡ Some item → option_map_or reads (next item) None ≡ option_map_or reads (so_far item) None)
      → declared base under reads next name ≡ declared base under reads so_far name
  reads_same so_far next name same = ap (λ (o : Option Declaration). option_or (base name) o) (by (under name) refl)
    where
      by : (u : Option I) → under name ≡ u
          → option_map_or reads (option_map_or next u None) None ≡ option_map_or reads (option_map_or so_far u None) None
      by None at = refl
      by (Some item) at = same item at

  -- marks that are the same say the same
  stays_reads : (so_far next : I → Option M) → Stays so_far next → (item : I) → option_map_or reads (next item) None ≡ option_map_or reads (so_far item) None
  stays_reads so_far next stays item = by (so_far item) (next item) refl refl
    where
      by : (old new : Option M) → so_far item ≡ old → next item ≡ new → option_map_or reads (next item) None ≡ option_map_or reads (so_far item) None
      by (Some m) new at now = ap (λ (o : Option M). option_map_or reads o None) (stays.stays item m at ∙ sym at)
      by None (Some m) at now = absurd (let was = stays.only item m now in cc)
      by None None at now = ap (λ (o : Option M). option_map_or reads o None) (now ∙ sym at)

  -- one mark more, of another item
  adds_reads : (so_far next : I → Option M) (i item : I) (m : M) → Adds so_far next i m → (item ≡ i → ⊥)
      → option_map_or reads (next item) None ≡ option_map_or reads (so_far item) None
  adds_reads so_far next i item m adds apart = by (so_far item) (next item) refl refl
    where
      by : (old new : Option M) → so_far item ≡ old → next item ≡ new → option_map_or reads (next item) None ≡ option_map_or reads (so_far item) None
      by (Some n) new at now = ap (λ (o : Option M). option_map_or reads o None) (adds.stays item n at ∙ sym at)
      by None (Some n) at now = elim (adds.only item n now) [
        | inl same ↦ absurd (apart same)
        | inr was ↦ absurd cc
      ]
      by None None at now = ap (λ (o : Option M). option_map_or reads o None) (now ∙ sym at)

  -- one mark more, which declares nothing
  quiet_reads : (so_far next : I → Option M) (i item : I) (m : M) → Adds so_far next i m → reads m ≡ None
      → option_map_or reads (next item) None ≡ option_map_or reads (so_far item) None
  quiet_reads so_far next i item m adds quiet = by (so_far item) (next item) refl refl
    where
      nothing : (n : M) → next item ≡ Some n → item ≡ i → option_map_or reads (next item) None ≡ None
      nothing n now same =
          ap (λ (x : I). option_map_or reads (next x) None) same ∙ (ap (λ (o : Option M). option_map_or reads o None) adds.new ∙ quiet)

      by : (old new : Option M) → so_far item ≡ old → next item ≡ new → option_map_or reads (next item) None ≡ option_map_or reads (so_far item) None
      by (Some n) new at now = ap (λ (o : Option M). option_map_or reads o None) (adds.stays item n at ∙ sym at)
      by None (Some n) at now = elim (adds.only item n now) [
        | inl same ↦ nothing n now same ∙ sym (ap (λ (o : Option M). option_map_or reads o None) at)
        | inr was ↦ absurd cc
      ]
      by None None at now = ap (λ (o : Option M). option_map_or reads o None) (now ∙ sym at)

  -- types are added, and the marks are the same
  pub types_stay : (t u : TypeTable) (so_far next : I → Option M) → DeclaresAll t base under reads so_far → ((name : TypeName) → declarations_in u name ≡ declarations_in t name)
      → Stays so_far next → DeclaresAll u base under reads next
  types_stay t u so_far next all same stays name =
      same name ∙ (all name ∙ sym (reads_same so_far next name (λ item at. stays_reads so_far next stays item)))

  -- an item is marked that declares nothing
  pub quiet_stays : (t : TypeTable) (so_far next : I → Option M) (item : I) (m : M) → DeclaresAll t base under reads so_far → Adds so_far next item m → reads m ≡ None
      → DeclaresAll t base under reads next
  quiet_stays t so_far next item m all adds quiet name =
      all name ∙ sym (reads_same so_far next name (λ j at. quiet_reads so_far next item j m adds quiet))

  -- a name is declared, and its item is marked
  pub declares_stay : (t u : TypeTable) (so_far next : I → Option M) (item : I) (m : M) (name : TypeName) (below : TypeId) (methods : List Method)
      → DeclaresAll t base under reads so_far → Adds so_far next item m → IsItemOf under name item
      → reads m ≡ Some (declaration_of (types_in t) (record { under = below; methods = methods }))
      → declarations_in t name ≡ None → Declares t u name below methods → DeclaresAll u base under reads next
  declares_stay t u so_far next item m name below methods all adds is means fresh declares other = by (name_or_other name (DefinedType other))
    where
      base_empty : base name ≡ None
      base_empty = base_none base under reads so_far name (sym (all name) ∙ fresh)

      here : declared base under reads next name ≡ Some (declaration_of (types_in t) (record { under = below; methods = methods }))
      here =
          ap (λ (o : Option Declaration). option_or o (marked under reads next name)) base_empty
          ∙ (ap (λ (o : Option I). option_map_or reads (option_map_or next o None) None) is.here
          ∙ (ap (λ (o : Option M). option_map_or reads o None) adds.new ∙ means))

      there : (other ≡ name → ⊥) → declarations_in u other ≡ declared base under reads next other
      there apart =
          declares.others other apart
          ∙ (all other ∙ sym (reads_same so_far next other (λ j at. adds_reads so_far next item j m adds (λ same. apart (is.alone other (at ∙ ap Some same))))))

      one_name : DefinedType other ≡ DefinedType name → other ≡ name
      one_name same = cc

      by : (DefinedType other ≡ DefinedType name) ⊎ (DefinedType other ≢ DefinedType name) → declarations_in u other ≡ declared base under reads next other
      by (inl same) =
          ap (λ (o : TypeName). declarations_in u o) (one_name same)
          ∙ (declares.here ∙ (sym here ∙ sym (ap (λ (o : TypeName). declared base under reads next o) (one_name same))))
      by (inr apart) = there (λ same. apart (ap DefinedType same))
