-- A table is what its reader gives; one line more at a time.
use Rattle.std.proofs.Common.{◌≡◌, ℕ, ◌+◌, ◌<◌, Option, Some, None, List, [], ◌∷◌, ◌++◌, length, map, take, slice_get, refl, sym, ap, ◌∙◌}
use Rattle.std.specs.Prelude.{IfSome}
use Rattle.std.proofs.lemmas.List.{take_more}
use Rattle.std.proofs.lemmas.Option.{get_or_from_slice_get, slice_get_within}
use Rattle.gv_bytes.specs.Reading.{Reads}
use Rattle.fact_codec.specs.declared.units.Never.{Never}
use Rattle.fact_codec.specs.declared.wraps.Wraps.{Wraps}
use Rattle.fact_codec.specs.Kinds.{wraps_at, wraps_spelling}
use Rattle.fact_codec.specs.Texts.{Reader, AreFacts, table_in}
use Rattle.fact_codec.specs.UnitLaws.{one_byte_read}
use Rattle.fact_codec.specs.WrapLaws.{wraps_read}
use Rattle.fact_codec.proofs.TextLemmas.{spelled_is_read, table_take}
use Rattle.fact_lines.specs.Told.{never_at}

abbrev pub never_spelling : Never → List ℕ
never_spelling fact = 110 ∷ []

pub never_read : Reads (λ (fact : Never). Unit {0}) never_spelling never_at
never_read = one_byte_read 110 (record {}) (λ fact. refl)

pub wraps_are_read : Reads (λ (fact : Wraps). Unit {0}) wraps_spelling wraps_at
wraps_are_read = wraps_read

module _ {F : Type 0} {spelling : F → List ℕ} {fact_at : Reader F} (facts : Reads (λ (fact : F). Unit {0}) spelling fact_at) where
  pub table_is : (bytes : List ℕ) (table : Option (List (List ℕ × F))) → IfSome table (λ t. AreFacts spelling t bytes) → ((t : List (List ℕ × F)) → AreFacts spelling t bytes → table ≡ Some t) → table ≡ table_in fact_at bytes
  table_is bytes (Some t) found only = sym (spelled_is_read facts bytes t found)
  table_is bytes None found only = by (table_in fact_at bytes) refl
    where
      by : (o : Option (List (List ℕ × F))) → table_in fact_at bytes ≡ o → None ≡ table_in fact_at bytes
      by None e = sym e
      by (Some t) e = absurd (let clash : None ≡ Some t = only t (table_take facts bytes t e) in cc)

map-last : {X Y : Type 0} (f : X → Y) (xs : List X) (x : X) → map f (xs ++ x ∷ []) ≡ map f xs ++ f x ∷ []
map-last f [] x = refl
map-last f (y ∷ ys) x = ap (λ t. f y ∷ t) (map-last f ys x)

pub line-more : {X Y : Type 0} (f : X → Y) (xs : List X) (k : ℕ) (x : X) (old new : List Y) → slice_get xs k ≡ Some x → old ≡ map f (take k xs) → new ≡ old ++ f x ∷ [] → new ≡ map f (take (k + 1) xs)
line-more f xs k x old new at so_far grown =
    let lt : k < length xs = slice_get_within xs k x at in
    let more : take (k + 1) xs ≡ take k xs ++ x ∷ [] = take_more xs k x lt ∙ ap (λ y. take k xs ++ y ∷ []) (get_or_from_slice_get xs k x x at) in
    grown ∙ (ap (λ t. t ++ f x ∷ []) so_far ∙ (sym (map-last f (take k xs) x) ∙ ap (map f) (sym more)))
