use Rattle.std.proofs.Common.{◌≡◌, ℕ, List, [], ◌∷◌, ◌++◌, map, ap, sym, ◌∙◌, subst, string_bytes}
use Rattle.std.specs.List.{AllByRecursion}
use Rattle.std.proofs.lemmas.List.{map-append}
use Rattle.disk.specs.Names.{IsFolder}
use Rattle.disk.proofs.Taking.{all-last}
use Rattle.disk.proofs.listing.next_turn.Goals as goal

pub look_into-requires : goal.look_into-requires
look_into-requires g c =
    let e : map string_bytes c.args.waiting.now.items ≡ map string_bytes c.pop.new.self.items ++ string_bytes c.in-Some.folder ∷ [] = ap (map string_bytes) c.in-Some.ensures.items ∙ map-append string_bytes c.pop.new.self.items (c.in-Some.folder ∷ []) in
    let P : List (List ℕ) → Type 0 = λ z. AllByRecursion IsFolder z in
    let Q : List ℕ → Type 0 = λ z. IsFolder z in
    subst Q (sym c.as_str.ensures.value) (all-last IsFolder (map string_bytes c.pop.new.self.items) (string_bytes c.in-Some.folder) (subst P e c.requires))
