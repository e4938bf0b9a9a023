-- Lines one after another, and what stands at a place.
use Rattle.std.proofs.Common.{◌≡◌, ℕ, List, [], ◌∷◌, ◌++◌, Some, codes, ap, sym, ◌∙◌}
use Rattle.std.specs.Option.{option_map_or}
use Rattle.gv_base.specs.Files.{Entry}
use Rattle.gv_base.specs.declared.place.Place.{Place}
use Rattle.analysis_core.specs.declared.reply.ErrorLine.{ErrorLine}
use Rattle.analysis_core.specs.Replies.{place_text, error_line}

pub error-at : (files : List Entry) (e : ErrorLine) (place : Place) (string head text old new : List ℕ) → e.place ≡ Some place → string ≡ place_text files place
    → head ≡ string → text ≡ e.text → new ≡ old ++ (head ++ (codes ": " ++ (text ++ 10 ∷ []))) → new ≡ old ++ error_line files e
error-at files e place string head text old new is said same of grown =
    grown ∙ ap (λ h. old ++ (h ++ (codes ": " ++ (text ++ 10 ∷ [])))) (same ∙ said ∙ sym (ap (λ p. option_map_or (place_text files) p e.package) is))
    ∙ ap (λ t. old ++ (option_map_or (place_text files) e.place e.package ++ (codes ": " ++ (t ++ 10 ∷ [])))) of
