-- What embedded fields lead to, while more is declared.
use Rattle.std.proofs.Common.{◌≡◌, ℕ, zero, suc, ◌<◌, ◌≤◌, ◌++◌, List, [], ◌∷◌, map, length, slice_get, Option, Some, None, option_map, refl, sym, ap, ◌∙◌, inl, inr, arith}
use Rattle.std.specs.List.{find}
use Rattle.std.specs.Option.{option_map_or}
use Rattle.type_model.specs.declared.term.TypeName.{TypeName}
use Rattle.type_model.specs.GoTypes.{GoType, DefinedType}
use Rattle.type_model.specs.Parts.{GoField, GoMethod}
use Rattle.type_model.specs.Declarations.{Declaration, Declarations, under_of, declared_methods}
use Rattle.type_growth.specs.Growth.{Grows, IsDeclared, IsKnown}
use Rattle.type_growth.proofs.GrowthLaws.{under_grows, same_under, same_methods, known_stays}
use Rattle.method_sets.specs.Members.{fields_from, methods_from, fields_in, interface_methods, field_member, method_member, meets, Name, Member, members, member_of}
use Rattle.method_sets.specs.Paths.{Embeds, Leads, IsPath, Selects, IsAmbiguous, NoPath}
use Rattle.method_sets.specs.Levels.{IsKnownTo, IsKnownWhole, EnoughFrom, NeedsFrom}
use Rattle.method_sets.proofs.Ways.{before_or_not}

-- what has a member is known
pub member_known : (ds : Declarations) (name : Name) (b : GoType) (m : Member) → member_of ds name b ≡ Some m → IsKnown ds b
member_known ds name b m has o is = by (ds o) refl (ap (λ (x : GoType). member_of ds name x) (sym is) ∙ has)
  where
    by : (d : Option Declaration) → ds o ≡ d
        → find (meets name) (map field_member (fields_from (option_map (λ (x : Declaration). x.under) d))
        ++ (map method_member (option_map_or (λ (x : Declaration). x.methods) d []) ++ map method_member (methods_from (option_map (λ (x : Declaration). x.under) d)))) ≡ Some m
        → IsDeclared ds o
    by None at e = absurd cc
    by (Some d) at e = (d, at)

-- all less deep types are known
abbrev pub IsKnownBelow : Declarations → GoType → ℕ → Type 0
IsKnownBelow ds a depth = (way : List ℕ) (b : GoType) → length way < depth → Leads ds a way b → IsKnown ds b

module _ (ds more : Declarations) (grows : Grows ds more) where
  pub fields_same : (a : GoType) → IsKnown ds a → fields_in more a ≡ fields_in ds a
  fields_same a known = ap fields_from (same_under ds more a grows known)

  interface_same : (a : GoType) → IsKnown ds a → interface_methods more a ≡ interface_methods ds a
  interface_same a known = ap methods_from (same_under ds more a grows known)

  members_same : (a : GoType) → IsKnown ds a → members more a ≡ members ds a
  members_same a known =
      ap (λ (l : List GoField). map field_member l ++ (map method_member (declared_methods more a) ++ map method_member (interface_methods more a))) (fields_same a known)
      ∙ (ap (λ (l : List GoMethod). map field_member (fields_in ds a) ++ (map method_member l ++ map method_member (interface_methods more a))) (same_methods ds more a grows known)
      ∙ ap (λ (l : List GoMethod). map field_member (fields_in ds a) ++ (map method_member (declared_methods ds a) ++ map method_member l)) (interface_same a known))

  pub member_same : (name : Name) (a : GoType) → IsKnown ds a → member_of more name a ≡ member_of ds name a
  member_same name a known = ap (find (meets name)) (members_same a known)

  pub field_grows : (a : GoType) (k : ℕ) (f : GoField) → slice_get (fields_in ds a) k ≡ Some f → slice_get (fields_in more a) k ≡ Some f
  field_grows a k f is = by (under_of ds a) refl is
    where
      by : (u : Option GoType) → under_of ds a ≡ u → slice_get (fields_from u) k ≡ Some f → slice_get (fields_in more a) k ≡ Some f
      by None at e = absurd cc
      by (Some u) at e = ap (λ (o : Option GoType). slice_get (fields_from o) k) (under_grows ds more a u grows at) ∙ e

  pub embeds_grows : (a b : GoType) (k : ℕ) → Embeds ds a k b → Embeds more a k b
  embeds_grows a b k (f, at, embedded, to) = (f, field_grows a k f at, embedded, to)

  pub embeds_back : (a b : GoType) (k : ℕ) → IsKnown ds a → Embeds more a k b → Embeds ds a k b
  embeds_back a b k known (f, at, embedded, to) = (f, ap (λ (l : List GoField). slice_get l k) (sym (fields_same a known)) ∙ at, embedded, to)

  pub leads_grow : (path : List ℕ) (a b : GoType) → Leads ds a path b → Leads more a path b
  leads_grow [] a b leads = leads
  leads_grow (k ∷ path) a b (c, step, leads) = (c, embeds_grows a c k step, leads_grow path c b leads)

  pub leads_back : (path : List ℕ) (depth : ℕ) (a b : GoType) → length path ≤ depth → IsKnownBelow ds a depth → Leads more a path b → Leads ds a path b
  leads_back [] depth a b low known leads = leads
  leads_back (k ∷ path) zero a b low known leads = absurd (omega (arith, low))
  leads_back (k ∷ path) (suc depth) a b low known (c, step, leads) =
      let here : Embeds ds a k c = embeds_back a c k (known [] a (omega arith) refl) step in
      (c, here, leads_back path depth c b (omega (arith, low)) (λ way d less to. known (k ∷ way) d (omega (arith, less)) (c, here, to)) leads)

  pub path_grows : (name : Name) (a : GoType) (path : List ℕ) → IsPath ds name a path → IsPath more name a path
  path_grows name a path (b, m, leads, has) = (b, m, leads_grow path a b leads, member_same name b (member_known ds name b m has) ∙ has)

  pub path_back : (name : Name) (a : GoType) (path : List ℕ) → IsKnownTo ds a (length path) → IsPath more name a path → IsPath ds name a path
  path_back name a path known (b, m, leads, has) =
      let here : Leads ds a path b = leads_back path (length path) a b (omega arith) (λ way d less to. known way d (omega (arith, less)) to) leads in
      (b, m, here, sym (member_same name b (known path b (omega arith) here)) ∙ has)

-- up to a depth at which nothing less deep is found, all are known
pub known_to : (ds : Declarations) (name : Name) (a : GoType) (depth : ℕ) → EnoughFrom ds name a → ((path : List ℕ) → IsPath ds name a path → depth ≤ length path) → IsKnownTo ds a depth
known_to ds name a depth (inl whole) least way b low leads = whole way b leads
known_to ds name a depth (inr (path, is, known)) least way b low leads = known way b (let h = least path is in omega arith) leads

module _ (ds more : Declarations) (grows : Grows ds more) (name : Name) (a : GoType) where
  known_less : (depth n : ℕ) → n ≤ depth → IsKnownTo ds a depth → IsKnownTo ds a n
  known_less depth n less known way b low leads = known way b (omega (arith, less, low)) leads

  least_stays : (depth : ℕ) → IsKnownTo ds a depth → ((path : List ℕ) → IsPath ds name a path → depth ≤ length path)
      → (path : List ℕ) → IsPath more name a path → depth ≤ length path
  least_stays depth known least path is = elim (before_or_not depth (length path)) [
    | inl low ↦ least path (path_back ds more grows name a path (known_less depth (length path) (omega arith) known) is)
    | inr high ↦ high
  ]

  pub selects_stays : (path : List ℕ) (m : Member) → EnoughFrom ds name a → Selects ds name a path m → Selects more name a path m
  selects_stays path m enough s =
      let known : IsKnownTo ds a (length path) = known_to ds name a (length path) enough s.least in
      record {
        to = s.to;
        leads = leads_grow ds more grows path a s.to s.leads;
        has = member_same ds more grows name s.to (member_known ds name s.to m s.has) ∙ s.has;
        least = least_stays (length path) known s.least;
        only = λ other is long. s.only other (path_back ds more grows name a other (known_less (length path) (length other) (omega (arith, long)) known) is) long;
      }

  pub ambiguous_stays : (depth : ℕ) → EnoughFrom ds name a → IsAmbiguous ds name a depth → IsAmbiguous more name a depth
  ambiguous_stays depth enough s = record {
    one = s.one;
    two = s.two;
    first = path_grows ds more grows name a s.one s.first;
    second = path_grows ds more grows name a s.two s.second;
    differ = s.differ;
    first_length = s.first_length;
    second_length = s.second_length;
    least = least_stays depth (known_to ds name a depth enough s.least) s.least;
  }

  pub none_stays : EnoughFrom ds name a → NoPath ds name a → NoPath more name a
  none_stays (inl whole) none path is = none path (path_back ds more grows name a path (λ way b low leads. whole way b leads) is)
  none_stays (inr (path, is, known)) none other more_is = none path is

  pub known_to_stays : (depth : ℕ) → IsKnownTo ds a depth → IsKnownTo more a depth
  known_to_stays depth known way b low leads =
      known_stays ds more b grows (known way b low (leads_back ds more grows way depth a b low (λ other c less to. known other c (omega (arith, less)) to) leads))

  pub whole_stays : IsKnownWhole ds a → IsKnownWhole more a
  whole_stays whole way b leads =
      known_stays ds more b grows (whole way b (leads_back ds more grows way (length way) a b (omega arith) (λ other c less to. whole other c to) leads))

  pub enough_from_stays : EnoughFrom ds name a → EnoughFrom more name a
  enough_from_stays (inl whole) = inl (whole_stays whole)
  enough_from_stays (inr (path, is, known)) = inr (path, path_grows ds more grows name a path is, known_to_stays (length path) known)

  pub needs_from_stays : (o : TypeName) → NeedsFrom ds name a o → more o ≡ None → NeedsFrom more name a o
  needs_from_stays o s none =
      let back = λ (other : List ℕ) (b : GoType) (less : length other < length s.way) (leads : Leads more a other b).
      leads_back ds more grows other (length s.way) a b (omega (arith, less)) s.known leads in
      record {
        way = s.way;
        leads = leads_grow ds more grows s.way a (DefinedType o) s.leads;
        none = none;
        known = λ other b less leads. known_stays ds more b grows (s.known other b less (back other b less leads));
        lacks = λ other is. elim (before_or_not (length s.way) (length other)) [
          | inl low ↦ s.lacks other (path_back ds more grows name a other (λ way b less leads. s.known way b (omega (arith, less, low)) leads) is)
          | inr high ↦ high
        ];
      }

pub from_apart : (ds : Declarations) (name : Name) (a : GoType) (o : TypeName) → EnoughFrom ds name a → NeedsFrom ds name a o → ⊥
from_apart ds name a o (inl whole) s = let d = whole s.way (DefinedType o) s.leads o refl in let has = d.1 in let none = s.none in absurd cc
from_apart ds name a o (inr (path, is, known)) s =
    let low = s.lacks path is in
    let d = known s.way (DefinedType o) low s.leads o refl in let has = d.1 in let none = s.none in absurd cc
