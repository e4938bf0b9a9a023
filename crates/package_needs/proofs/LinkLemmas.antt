-- Links from type to type.
use Rattle.std.proofs.Common.{◌≡◌, ℕ, ◌+◌, ◌<◌, Bool, List, [], ◌∷◌, ◌++◌, length, get_or, slice_get, Option, Some, sym, ap, ◌∙◌, subst, inl, inr, arith}
use Rattle.std.proofs.lemmas.Option.{slice_get_within}
use Rattle.object_order.specs.declared.spot.Entry.{Entry}
use Rattle.object_order.specs.Spots.{World}
use Rattle.package_needs.specs.declared.ends.Link.{Link}
use Rattle.package_needs.specs.Links.{IsLink, AreLinks}
use Rattle.std.proofs.lemmas.List.{length-append}
use Rattle.gv_base.proofs.Lists.{get_front, get_last, item_is, same_some, split}

-- the links of the first few declarations
pub record AreLinksBelow (w : World) (entries : List Entry) (far : Bool) (links : List (Option Link)) (n : ℕ) : Type 0 where
  pub size : length links ≡ n
  pub each : (k : ℕ) (e : Entry) → k < n → slice_get entries k ≡ Some e → (l : Option Link) × (slice_get links k ≡ Some l) × IsLink w entries far e l

pub links_none : (w : World) (entries : List Entry) (far : Bool) (links : List (Option Link)) → links ≡ [] → AreLinksBelow w entries far links 0
links_none w entries far links bare = record { size = ap (λ (xs : List (Option Link)). length xs) bare; each = λ k e low at. absurd (omega arith) }

pub links_more : (w : World) (entries : List Entry) (far : Bool) (links new : List (Option Link)) (n : ℕ) (e : Entry) (l : Option Link)
    → AreLinksBelow w entries far links n → n < length entries → e ≡ get_or entries n e → IsLink w entries far e l → new ≡ links ++ (l ∷ []) → AreLinksBelow w entries far new (n + 1)
links_more w entries far links new n e l was low item is now = subst (λ (x : List (Option Link)). AreLinksBelow w entries far x (n + 1)) (sym now) (record {
  size = (let s = was.size in omega (arith, length-append links (l ∷ [])));
  each = λ k d less at. elim (split k n less) [
    | inl before ↦ (let (o, there, link) = was.each k d before at in (o, get_front links l k (let s = was.size in omega arith) ∙ there, link))
    | inr last ↦ (
      l,
      get_last links l k (let s = was.size in omega arith),
      subst (λ (x : Entry). IsLink w entries far x l) (same_some (slice_get entries n) e d (item_is entries n e low item) (ap (λ x. slice_get entries x) (sym last) ∙ at)) is,
    )
  ];
})

pub links_all : (w : World) (entries : List Entry) (far : Bool) (links : List (Option Link)) (n : ℕ) → length entries ≡ n → AreLinksBelow w entries far links n → AreLinks w entries far links
links_all w entries far links n end was = record { size = was.size ∙ sym end; each = λ k e at. was.each k e (let h = slice_get_within entries k e at in omega arith) at }
