-- Method sets last.
use Rattle.std.proofs.Common.{◌≡◌, ℕ, true, List, [], ◌∷◌, length, slice_get, Some, None, refl, sym, ap, ◌∙◌, subst, inl, inr, arith}
use Rattle.std.specs.List.{Contains}
use Rattle.std.proofs.lemmas.Option.{slice_get_within, slice_get-get_or, get_or_from_slice_get}
use Rattle.type_model.specs.declared.term.TypeName.{TypeName}
use Rattle.type_model.specs.GoTypes.{GoType, DefinedType}
use Rattle.type_model.specs.Parts.{GoField, GoMethod}
use Rattle.type_model.specs.Declarations.{Declarations}
use Rattle.type_model.proofs.OneInterface.{one_set}
use Rattle.type_growth.specs.Growth.{Grows}
use Rattle.type_growth.specs.Lasting.{Lasts}
use Rattle.type_growth.proofs.GrowthLaws.{known_stays, known_or_missing}
use Rattle.method_sets.specs.Members.{identifier, Name, AMethod, Member}
use Rattle.method_sets.specs.Paths.{Embeds, Leads, PassesPointer, Selects}
use Rattle.method_sets.specs.Selections.{IsInSet}
use Rattle.method_sets.specs.Levels.{IsKnownWhole, EnoughToList, NeedsToList, SaysMethods}
use Rattle.method_sets.proofs.LevelLaws.{fields_same, field_grows, embeds_grows, embeds_back, leads_grow, leads_back, member_same, path_grows, selects_stays, whole_stays}
use Rattle.method_sets.proofs.ChooseLaws.{begins_start, one_start, pointer_grows, pointer_back, start_stays, begins_grows, begins_back}

module _ (ds more : Declarations) (grows : Grows ds more) where
  passes_grow : (path : List ℕ) (a : GoType) → PassesPointer ds a path → PassesPointer more a path
  passes_grow [] a passes = passes
  passes_grow (k ∷ path) a (inl (f, at, embedded, pointer)) = inl (f, field_grows ds more grows a k f at, embedded, pointer)
  passes_grow (k ∷ path) a (inr (c, step, passes)) = inr (c, embeds_grows ds more grows a c k step, passes_grow path c passes)

  passes_back : (path : List ℕ) (a : GoType) → IsKnownWhole ds a → PassesPointer more a path → PassesPointer ds a path
  passes_back [] a whole passes = passes
  passes_back (k ∷ path) a whole (inl (f, at, embedded, pointer)) =
      inl (f, ap (λ (l : List GoField). slice_get l k) (sym (fields_same ds more grows a (whole [] a refl))) ∙ at, embedded, pointer)
  passes_back (k ∷ path) a whole (inr (c, step, passes)) =
      let here : Embeds ds a k c = embeds_back ds more grows a c k (whole [] a refl) step in
      inr (c, here, passes_back path c (λ way b leads. whole (k ∷ way) b (c, here, leads)) passes)

  selects_back : (name : Name) (a : GoType) (path : List ℕ) (m : Member) → IsKnownWhole ds a → Selects more name a path m → Selects ds name a path m
  selects_back name a path m whole s =
      let there : Leads ds a path s.to = leads_back ds more grows path (length path) a s.to (omega arith) (λ way b less leads. whole way b leads) s.leads in
      record {
        to = s.to;
        leads = there;
        has = sym (member_same ds more grows name s.to (whole path s.to there)) ∙ s.has;
        least = λ other is. s.least other (path_grows ds more grows name a other is);
        only = λ other is long. s.only other (path_grows ds more grows name a other is) long;
      }

  set_grows : (of : GoType) (m : GoMethod) → EnoughToList ds of → IsInSet ds of m → IsInSet more of m
  set_grows of m (known, inl (p, pointer)) s = absurd (s.given p pointer)
  set_grows of m (known, inr (a, start, whole)) s =
      let same : a ≡ s.from = one_start ds of a s.from start (begins_start ds of s.from s.begins) in
      let here : IsKnownWhole ds s.from = subst (λ (x : GoType). IsKnownWhole ds x) same whole in
      record {
        from = s.from;
        path = s.path;
        begins = begins_grows ds more grows of known s.from (here [] s.from refl) s.begins;
        given = λ p pointer. s.given p (pointer_back ds more grows of known p pointer);
        selects = selects_stays ds more grows (identifier m.name m.owner) s.from s.path (record { name = m.name; owner = m.owner; is = AMethod m.of m.pointer }) (inl here) s.selects;
        receiver = λ pointer. elim (s.receiver pointer) [ inl is ↦ inl is | inr passes ↦ inr (passes_grow s.path s.from passes) ];
      }

  set_back : (of : GoType) (m : GoMethod) → EnoughToList ds of → IsInSet more of m → IsInSet ds of m
  set_back of m (known, inl (p, pointer)) s = absurd (s.given p (pointer_grows ds more grows of known p pointer))
  set_back of m (known, inr (a, start, whole)) s =
      let same : a ≡ s.from = one_start more of a s.from (start_stays ds more grows of known a start) (begins_start more of s.from s.begins) in
      let here : IsKnownWhole ds s.from = subst (λ (x : GoType). IsKnownWhole ds x) same whole in
      record {
        from = s.from;
        path = s.path;
        begins = begins_back ds more grows of known s.from (here [] s.from refl) s.begins;
        given = λ p pointer. s.given p (pointer_grows ds more grows of known p pointer);
        selects = selects_back (identifier m.name m.owner) s.from s.path (record { name = m.name; owner = m.owner; is = AMethod m.of m.pointer }) here s.selects;
        receiver = λ pointer. elim (s.receiver pointer) [ inl is ↦ inl is | inr passes ↦ inr (passes_back s.path s.from here passes) ];
      }

  enough_stays : (of : GoType) → EnoughToList ds of → EnoughToList more of
  enough_stays of (known, inl (p, pointer)) = (known_stays ds more of grows known, inl (p, pointer_grows ds more grows of known p pointer))
  enough_stays of (known, inr (a, start, whole)) =
      (known_stays ds more of grows known, inr (a, start_stays ds more grows of known a start, whole_stays ds more grows (λ n o. true) a whole))

  needs_stay : (of : GoType) (o : TypeName) → NeedsToList ds of o → more o ≡ None → NeedsToList more of o
  needs_stay of o (inl (is, was)) none = inl (is, none)
  needs_stay of o (inr (known, plain, (a, way, start, leads, was))) none =
      inr (
        known_stays ds more of grows known,
        (λ p pointer. plain p (pointer_back ds more grows of known p pointer)),
        (a, way, start_stays ds more grows of known a start, leads_grow ds more grows way a (DefinedType o) leads, none),
      )

contained : (xs : List GoMethod) (y : GoMethod) (k : ℕ) → slice_get xs k ≡ Some y → Contains xs y
contained xs y k is = (k, slice_get_within xs k y is, get_or_from_slice_get xs k y y is)

had : (xs : List GoMethod) (y : GoMethod) → Contains xs y → (k : ℕ) × (slice_get xs k ≡ Some y)
had xs y has = (has.0, slice_get-get_or xs has.0 y has.1 ∙ ap Some has.2)

one_list : (ds : Declarations) (of : GoType) (xs ys : List GoMethod) → SaysMethods ds of xs → SaysMethods ds of ys → xs ≡ ys
one_list ds of xs ys (sorted, each) (also, every) = one_set xs ys sorted also
    (λ z (k, is). had ys z ((every z).1 ((each z).0 (contained xs z k is))))
    (λ z (k, is). had xs z ((each z).1 ((every z).0 (contained ys z k is))))

missing : (ds : Declarations) (of : GoType) (o : TypeName) → NeedsToList ds of o → ds o ≡ None
missing ds of o (inl (is, none)) = none
missing ds of o (inr (known, plain, (a, way, start, leads, none))) = none

apart : (ds : Declarations) (of : GoType) (o : TypeName) → EnoughToList ds of → NeedsToList ds of o → ⊥
apart ds of o (known, more) (inl away) = known_or_missing ds of o known away
apart ds of o (known, inl (p, pointer)) (inr (also, plain, (a, way, start, leads, none))) = plain p pointer
apart ds of o (known, inr (b, begin, whole)) (inr (also, plain, (a, way, start, leads, none))) =
    let same : a ≡ b = one_start ds of a b start begin in
    known_or_missing ds (DefinedType o) o (whole way (DefinedType o) (subst (λ (x : GoType). Leads ds x way (DefinedType o)) same leads)) (refl, none)

pub listing_lasts : Lasts EnoughToList NeedsToList SaysMethods
listing_lasts = record {
  enough = λ ds more of grows enough. enough_stays ds more grows of enough;
  says = λ ds more of methods grows enough (sorted, each).
      (sorted, λ m. ((λ has. set_grows ds more grows of m enough ((each m).0 has)), (λ is. (each m).1 (set_back ds more grows of m enough is))));
  once = one_list;
  needs = λ ds more of o grows needs none. needs_stay ds more grows of o needs none;
  missing = missing;
  apart = apart;
}
