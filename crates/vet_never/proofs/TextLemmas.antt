-- The text of what is found.
use Rattle.std.proofs.Common.{◌≡◌, ◌<◌, ℕ, Bool, true, if◌then◌else◌, List, [], length, Option, Some, None, refl, sym, ap, ◌∙◌}
use Rattle.std.specs.Option.{option_map_or}
use Rattle.std.proofs.lemmas.Option.{slice_get_within}
use Rattle.fact_codec.specs.declared.units.Never.{Never}
use Rattle.fact_codec.specs.Texts.{AreFacts}
use Rattle.handed_facts.specs.Handed.{Named as Given, AreHanded}
use Rattle.least.specs.Numbered.{is_marked, by_number}
use Rattle.least.specs.Staged.{IsLeastIn}
use Rattle.least.specs.Tables.{Member, member, home}
use Rattle.least.specs.Work.{set_of}
use Rattle.never_returns.specs.Admits.{Admits}
use Rattle.own_functions.specs.Functions.{Named, name_in, functions, names, nth_name, first_of, number}
use Rattle.own_functions.proofs.NameLemmas.{bytes_same, place_there, mapped_there}
use Rattle.typed_marks.specs.declared.item.Item.{Item}
use Rattle.typed_marks.specs.Meanings.{Meaning}
use Rattle.unit_read.specs.Units.{Unit}
use Rattle.vet_never.specs.Knowing.{AreFlaggedNames}
use Rattle.vet_never.specs.Listed.{listed_in}
use Rattle.vet_never.specs.Never.{Around, bodies_in, IsAround, spelling, kinds, IsNeverText}

-- a member is flagged by the first of its name
marked_by : (u : Unit) (flags : List Bool) (name : List ℕ) → by_number (number 0 u) (set_of flags) (member u.path name 0) ≡ is_marked (set_of flags) (first_of u name)
marked_by u flags name = ap (λ b. is_marked (set_of flags) (if b then first_of u name else None)) (bytes_same u.path)

-- what is flagged has a number, so that its name is one of them
flagged_name : (u : Unit) (flags : List Bool) (name : List ℕ) → is_marked (set_of flags) (first_of u name) ≡ true → (i : ℕ) × (i < length (functions u)) × (nth_name u i ≡ name)
flagged_name u flags name e = by (first_of u name) refl e where
  by : (o : Option ℕ) → first_of u name ≡ o → is_marked (set_of flags) o ≡ true → (i : ℕ) × (i < length (functions u)) × (nth_name u i ≡ name)
  by None is e = absurd (cc)
  by (Some i) is e =
      let (x, there, same) = mapped_there name_in (functions u) i name (place_there (names u) name i is) in
      (i, slice_get_within (functions u) i x there, ap (λ (o : Option Named). option_map_or name_in o []) there ∙ same)

pub text_is : (u : Unit) (marks : Item → Meaning) (given : List Given) (a : Around) (handed : Member → Bool) (flags : List Bool) (table : List (List ℕ × Never)) (text : List ℕ) → IsAround u marks a → AreHanded spelling kinds given handed
    → IsLeastIn home (Admits (listed_in u) (bodies_in u a)) u.path handed (by_number (number 0 u) (set_of flags)) → AreFlaggedNames u flags (length (functions u)) table → AreFacts spelling table text → IsNeverText u marks given text
text_is u marks given a handed flags table text around hands least names spelled = record {
  set = by_number (number 0 u) (set_of flags);
  are = record { around = a; is_around = around; handed = handed; are_handed = hands; least = least };
  table = table;
  spelled = spelled;
  each = λ name. (
    λ there. (let (i, low, is, flag) = (names.each name).0 there in marked_by u flags name ∙ flag),
    λ e. (
        let flag : is_marked (set_of flags) (first_of u name) ≡ true = sym (marked_by u flags name) ∙ e in
        let (i, low, is) = flagged_name u flags name flag in
        (names.each name).1 (i, low, is, flag)
        ),
  );
}
