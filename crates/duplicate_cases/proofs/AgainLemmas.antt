-- What stands twice in a list, as it is gathered.
use Rattle.std.proofs.Common.{◌≡◌, ℕ, Bool, false, List, [], slice_get, Option, Some, None, option_map, refl, sym, ap, ◌∙◌}
use Rattle.std.specs.Option.{option_map_or}
use Rattle.std.specs.Global.{Vec}
use Rattle.std.specs.Str.{bytes_eq}
use Rattle.object_order.specs.Spots.{place}
use Rattle.duplicate_cases.specs.InCode.{if_so, again_at}
use Rattle.rule_words.specs.Again.{is_again, is_before}
use Rattle.rule_words.proofs.AgainLemmas.{same_told}

pub items_told : (f : List ℕ → Bool) (key : Option (Vec ℕ)) → option_map_or (λ (v : Vec ℕ). f v.items) key false ≡ option_map_or f (option_map (λ (v : Vec ℕ). v.items) key) false
items_told f None = refl
items_told f (Some v) = refl

-- what was noted tells what is added
pub again_told : (nth : ℕ → Option (List ℕ)) (file : ℕ) (list : List ℕ) (i n : ℕ) (old : List ℕ → Bool) (key : Option (List ℕ)) (again : Bool) → slice_get list i ≡ Some n → key ≡ nth i
    → ((k : List ℕ) → old k ≡ is_before bytes_eq nth i k) → again ≡ option_map_or old key false → if_so again (place file n) ≡ again_at nth file list i
again_told nth file list i n old key again there here were told =
    ap (λ b. if_so b (place file n)) (told ∙ (same_told old (is_before bytes_eq nth i) key were ∙ ap (λ o. option_map_or (is_before bytes_eq nth i) o false) here))
    ∙ ap (λ o. option_map_or (λ m. if_so (is_again bytes_eq nth i) (place file m)) o []) (sym there)
