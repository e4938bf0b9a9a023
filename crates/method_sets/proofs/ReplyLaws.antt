-- What a search by levels shows while names may be undeclared.
use Rattle.std.proofs.Common.{◌≡◌, ℕ, ◌+◌, ◌<◌, ◌≤◌, true, false, List, [], ◌∷◌, length, slice_get, get_or, Option, Some, map, option_map, reverse, refl, sym, ap, ◌∙◌, subst, inl, inr, arith}
use Rattle.std.proofs.lemmas.Option.{slice_get_within, slice_get-get_or, slice_get_read}
use Rattle.std.proofs.lemmas.List.{length-reverse}
use Rattle.type_model.specs.declared.term.TypeName.{TypeName}
use Rattle.type_model.specs.declared.table.TypeTable.{TypeTable}
use Rattle.type_model.specs.declared.term.Method.{Method}
use Rattle.type_model.specs.GoTypes.{GoType, InterfaceOf, methods_of, type_number}
use Rattle.type_model.specs.Parts.{GoMethod, method_list, method_of}
use Rattle.type_model.specs.Identity.{AreSorted}
use Rattle.type_model.proofs.FormedLaws.{sorted-of}
use Rattle.type_model.specs.Declarations.{Declarations}
use Rattle.type_model.specs.Tables.{types_in, count, declarations_in}
use Rattle.type_growth.specs.Growth.{IsKnown, IsMissing}
use Rattle.type_growth.proofs.GrowthLaws.{under_known}
use Rattle.method_sets.specs.declared.search.Entry.{Entry}
use Rattle.type_growth.specs.declared.reply.Reply.{Reply}
use Rattle.type_growth.specs.declared.reply.Reply.TheVariants as reply
use Rattle.type_growth.specs.Lasting.{IsReply}
use Rattle.method_sets.specs.declared.selection.Selected.{Selected}
use Rattle.method_sets.specs.declared.selection.Selected.TheVariants as selected
use Rattle.method_sets.specs.declared.selection.Selection.TheVariants as selection
use Rattle.method_sets.specs.Selections.{Shows, IsGiven, IsSelection, IsMethodSet}
use Rattle.method_sets.specs.declared.selection.Selection.{Selection}
use Rattle.method_sets.specs.Members.{Name, Part, Member, fields_from, member_of}
use Rattle.method_sets.specs.declared.selection.Selection.TheVariants.{Absent}
use Rattle.method_sets.specs.Paths.{base, is_pointer, Embeds, Leads, IsInterface, IsDefinedPointer, Opens}
use Rattle.method_sets.specs.Search.{Met, SameLinks, back}
use Rattle.method_sets.specs.Shown.{IsReached, start_of, at_of, Lacks}
use Rattle.method_sets.specs.Levels.{IsKnownTo, IsKnownWhole, EnoughFrom, NeedsFrom, EnoughToSelect, NeedsToSelect, EnoughToList, SaysMethods, IsSelectionIn, SaysSelected, part_in, chosen_in}
use Rattle.method_sets.specs.Replies.{AreKnownBefore, AreKnownBeside, IsMissingBeside, IsAwaited, IsReplyFrom, IsOpenedReply, fields_only_in, IsListAwaited, IsMissingAt, listed_in}
use Rattle.method_sets.proofs.Ways.{length_back, before_or_not, within, passed_here, passed_all}
use Rattle.gv_base.proofs.Lists.{same_some}
use Rattle.method_sets.proofs.Walks.{at_of_is}
use Rattle.method_sets.proofs.Selects.{depth_of_is, least_path, way_leads}
use Rattle.method_sets.proofs.Settles.{has_member}
use Rattle.method_sets.proofs.Openings.{select_plain, select_behind}
use Rattle.method_sets.proofs.Turn.{comes_of, leads_of}

abbrev nil : Entry
nil = record { at = 0; parent = 0; field = 0; depth = 0; several = false; indirect = false }

-- one entry more whose type is known
pub known_on : (t : TypeTable) (es new : List Entry) (i : ℕ) → SameLinks es new → i < length es → AreKnownBefore t es i
    → IsKnown (declarations_in t) (type_number (types_in t) (at_of es i)) → AreKnownBefore t new (i + 1)
known_on t es new i kept inside known here j e low is =
    let there : slice_get es j ≡ Some (get_or es j nil) = slice_get-get_or es j nil (omega arith) in
    let n = kept j (get_or es j nil) there in
    let one : n.0 ≡ e = same_some (slice_get new j) n.0 e n.1 is in
    let same : (get_or es j nil).at ≡ e.at = sym n.5 ∙ ap (λ (x : Entry). x.at) one in
    subst (λ (x : ℕ). IsKnown (declarations_in t) (type_number (types_in t) x)) same
    (elim (before_or_not i j) [
      | inl early ↦ known j (get_or es j nil) early there
      | inr late ↦ (let q : i ≡ j = omega arith in
          subst (λ (x : ℕ). IsKnown (declarations_in t) (type_number (types_in t) x)) (ap (λ (x : ℕ). at_of es x) q ∙ at_of_is es j (get_or es j nil) there) here)
    ])

-- the entries before it and its own
pub known_with : (t : TypeTable) (es : List Entry) (i : ℕ) (e : Entry) → slice_get es i ≡ Some e → AreKnownBefore t es i
    → IsKnown (declarations_in t) (type_number (types_in t) e.at) → AreKnownBefore t es (i + 1)
known_with t es i e here known last j f low is = elim (before_or_not i j) [
  | inl early ↦ known j f early is
  | inr late ↦ (let q : i ≡ j = omega (arith, low, late) in
      let one : e ≡ f = same_some (slice_get es j) e f (subst (λ (x : ℕ). slice_get es x ≡ Some e) q here) is in
      subst (λ (x : Entry). IsKnown (declarations_in t) (type_number (types_in t) x.at)) one last)
]

-- one entry more that isn't as deep, or whose type is known
pub beside_on : (t : TypeTable) (es : List Entry) (i j : ℕ) (z : Entry) → AreKnownBeside t es i j → j < length es → i < length es
    → ((get_or es j z).depth ≡ (get_or es i z).depth → IsKnown (declarations_in t) (type_number (types_in t) (get_or es j z).at))
    → AreKnownBeside t es i (j + 1)
beside_on t es i j z inv low begin here k g less high is depth = elim (before_or_not j k) [
  | inl early ↦ inv k g less early is depth
  | inr late ↦ (let q : j ≡ k = omega arith in
      let one : get_or es j z ≡ g = same_some (slice_get es j) (get_or es j z) g (slice_get-get_or es j z low) (subst (λ (x : ℕ). slice_get es x ≡ Some g) (sym q) is) in
      let deep : (get_or es j z).depth ≡ (get_or es i z).depth =
      ap (λ (x : Entry). x.depth) one ∙ (depth ∙ depth_of_is es i (get_or es i z) (slice_get-get_or es i z begin)) in
      subst (λ (x : Entry). IsKnown (declarations_in t) (type_number (types_in t) x.at)) one (here deep))
]

module _ (t : TypeTable) (es : List Entry) (i : ℕ) (name : Name)
    (s : Met (Embeds (declarations_in t)) (type_number (types_in t)) (start_of t es) es i) where
  ends_at : (way : List ℕ) (b : GoType) (j : ℕ) (e : Entry) → type_number (types_in t) e.at ≡ b → IsKnown (declarations_in t) (type_number (types_in t) e.at) → IsKnown (declarations_in t) b
  ends_at way b j e is known = subst (λ (x : GoType). IsKnown (declarations_in t) x) is known

  -- at an entry whose type isn't declared, or one as deep as the first that has the name
  pub waits_at : (e g : Entry) (l : ℕ) (o : TypeName) → slice_get es i ≡ Some e → slice_get es l ≡ Some g → g.depth ≡ e.depth → AreKnownBefore t es i → Lacks t es i name
      → IsMissing (declarations_in t) (type_number (types_in t) g.at) o → NeedsFrom (declarations_in t) name (start_of t es) o
  waits_at e g l o here there deep known lacks (is, none) =
      let way = reverse (back es l g.depth) in
      let long : length way ≡ g.depth = length-reverse (back es l g.depth) ∙ size g.depth l in
      record {
        way = way;
        leads = subst (λ (x : GoType). Leads (declarations_in t) (start_of t es) way x) is
            (leads_of (declarations_in t) (start_of t es) (type_number (types_in t) g.at) (back es l g.depth) (s.reached l g there));
        none = none;
        known = λ other b less leads.
            let turned : length (reverse other) ≡ length other = length-reverse other in
            let met = within (Embeds (declarations_in t)) (type_number (types_in t)) (start_of t es) es i s e.depth
            (passed_here (Embeds (declarations_in t)) (type_number (types_in t)) (start_of t es) es i s e here)
            (reverse other) b (comes_of (declarations_in t) (start_of t es) b other leads) (omega (arith, turned, less, long, deep)) in
            let high = met.4 in
            let early : met.0 < i = passed_here (Embeds (declarations_in t)) (type_number (types_in t)) (start_of t es) es i s e here met.0 met.1 met.2 (omega (arith, high, turned, less, long, deep)) in
            ends_at other b met.0 met.1 met.3 (known met.0 met.1 early met.2);
        lacks = λ other path. let low = least_path t es i name s lacks e here other path in omega (arith, low, long, deep);
      }
    where
      size : (d j : ℕ) → length (back es j d) ≡ d
      size d j = length_back es d j

  -- once all types of its depth are known
  pub known_at : (e : Entry) → slice_get es i ≡ Some e → AreKnownBefore t es (i + 1) → AreKnownBeside t es i (length es) → IsKnownTo (declarations_in t) (start_of t es) e.depth
  known_at e here before beside way b low leads =
      let turned : length (reverse way) ≡ length way = length-reverse way in
      let met = within (Embeds (declarations_in t)) (type_number (types_in t)) (start_of t es) es i s e.depth
      (passed_here (Embeds (declarations_in t)) (type_number (types_in t)) (start_of t es) es i s e here)
      (reverse way) b (comes_of (declarations_in t) (start_of t es) b way leads) (omega (arith, turned, low)) in
      let high = met.4 in
      ends_at way b met.0 met.1 met.3 (elim (before_or_not (i + 1) met.0) [
        | inl early ↦ before met.0 met.1 early met.2
        | inr late ↦ (let order = s.mono i met.0 e met.1 (omega (arith, late)) here met.2 in
            beside met.0 met.1 (omega (arith, late)) (slice_get_within es met.0 met.1 met.2) met.2 ((let q : met.1.depth ≡ e.depth = omega (arith, order, high, turned, low) in q) ∙ sym (depth_of_is es i e here)))
      ])

  pub awaited_here : (e : Entry) (o : TypeName) → slice_get es i ≡ Some e → AreKnownBefore t es i → Lacks t es i name → e.at < count t
      → IsMissing (declarations_in t) (type_number (types_in t) e.at) o → IsAwaited t (start_of t es) name e.at
  awaited_here e o here known lacks low missing = (o, low, missing.0, waits_at e e i o here here refl known lacks missing)

  pub awaited_beside : (e : Entry) (j : ℕ) → slice_get es i ≡ Some e → AreKnownBefore t es (i + 1) → Lacks t es i name
      → ((k : ℕ) (f : Entry) → slice_get es k ≡ Some f → f.at < count t) → IsMissingBeside t es i j → IsAwaited t (start_of t es) name (get_or es j nil).at
  awaited_beside e j here known lacks within_table (g, o, less, there, deep, missing) =
      let one : get_or es j nil ≡ g = same_some (slice_get es j) (get_or es j nil) g (slice_get-get_or es j nil (slice_get_within es j g there)) there in
      subst (λ (x : Entry). IsAwaited t (start_of t es) name x.at) (sym one) (
        o,
        within_table j g there,
        missing.0,
        waits_at e g j o here there (deep ∙ depth_of_is es i e here) (λ k f low. known k f (omega (arith, low))) lacks missing,
      )

  pub enough_at : (e : Entry) (part : Part) → slice_get es i ≡ Some e → Lacks t es i name → AreKnownBefore t es (i + 1) → AreKnownBeside t es i (length es)
      → Some part ≡ option_map (λ (m : Member). m.is) (member_of (declarations_in t) name (type_number (types_in t) (at_of es i))) → EnoughFrom (declarations_in t) name (start_of t es)
  enough_at e part here lacks before beside has =
      let named = has_member (member_of (declarations_in t) name (type_number (types_in t) e.at)) part
      (has ∙ ap (λ (x : ℕ). option_map (λ (m : Member). m.is) (member_of (declarations_in t) name (type_number (types_in t) x))) (at_of_is es i e here)) in
      let long : length (reverse (back es i e.depth)) ≡ e.depth = length-reverse (back es i e.depth) ∙ length_back es e.depth i in
      inr (
        reverse (back es i e.depth),
        (type_number (types_in t) e.at, named.0, way_leads t es i name s lacks e here, named.1),
        subst (λ (d : ℕ). IsKnownTo (declarations_in t) (start_of t es) d) (sym long) (known_at e here before beside),
      )

  -- where no entry is left
  pub known_whole : length es ≤ i → AreKnownBefore t es i → IsKnownWhole (declarations_in t) (start_of t es)
  known_whole end before way b leads =
      let turned : length (reverse way) ≡ length way = length-reverse way in
      let passed = passed_all (Embeds (declarations_in t)) (type_number (types_in t)) (start_of t es) es i s (length way) end in
      let met = within (Embeds (declarations_in t)) (type_number (types_in t)) (start_of t es) es i s (length way) passed
      (reverse way) b (comes_of (declarations_in t) (start_of t es) b way leads) (omega (arith, turned)) in
      let low = slice_get_within es met.0 met.1 met.2 in
      ends_at way b met.0 met.1 met.3 (before met.0 met.1 (omega (arith, low, end)) met.2)

-- from an interface no embedded field leads anywhere
pub interface_whole : (ds : Declarations) (a : GoType) → IsInterface ds a → IsKnownWhole ds a
interface_whole ds a (methods, under) [] b leads = subst (λ (x : GoType). IsKnown ds x) leads (under_known ds a (InterfaceOf methods) under)
interface_whole ds a (methods, under) (k ∷ way) b (c, (f, at, embedded, to), leads) =
    let none : slice_get [] k ≡ Some f = ap (λ (o : Option GoType). slice_get (fields_from o) k) (sym under) ∙ at in absurd cc

-- ---- from where a type opens

module _ (t : TypeTable) (of : GoType) (name : Name) where
  pub closed_reply : IsInterface (declarations_in t) (base of) → is_pointer of ≡ true → IsOpenedReply t of name (reply.Is Absent)
  closed_reply interface pointer = (
    inl (interface_whole (declarations_in t) (base of) interface),
    inr ((λ a (is, apart). apart pointer (subst (λ (x : GoType). IsInterface (declarations_in t) x) is interface)), refl),
  )

  pub opened_reply : (r : Reply Selection) → Opens (declarations_in t) of (base of) → IsReplyFrom t (base of) name r → IsOpenedReply t of name r
  opened_reply (reply.Is sel) opens (enough, answer) = (enough, inl (base of, opens, answer))
  opened_reply (reply.Waits id) opens awaited = awaited

  pub plain_reply : (r : Reply Selection) → IsKnown (declarations_in t) of → ((p : GoType) → IsDefinedPointer (declarations_in t) of p → ⊥) → IsOpenedReply t of name r
      → IsReply EnoughToSelect NeedsToSelect (IsSelectionIn t) t (record { of = of; name = name }) r
  plain_reply (reply.Is sel) known none (enough, opened) = ((known, (base of, inl (none, refl), enough)), select_plain t of name sel none opened)
  plain_reply (reply.Waits id) known none (o, low, named, needs) = (o, low, named, inr (known, (base of, inl (none, refl), needs)))

  pub behind_reply : (p : GoType) (r : Reply Selection) → IsKnown (declarations_in t) of → IsDefinedPointer (declarations_in t) of p → IsOpenedReply t p name r
      → IsReply EnoughToSelect NeedsToSelect (IsSelectionIn t) t (record { of = of; name = name }) (fields_only_in r)
  behind_reply p (reply.Is sel) known pointer (enough, opened) = ((known, (base p, inr (p, pointer, refl), enough)), select_behind t of name p sel pointer opened)
  behind_reply p (reply.Waits id) known pointer (o, low, named, needs) = (o, low, named, inr (known, (base p, inr (p, pointer, refl), needs)))

-- what a selection over a table says, of types alone
part_is : (t : TypeTable) (kind : Selected) (part : Part) → Shows t kind part → part_in t kind ≡ part
part_is t (selected.Field id) part (low, is) = sym is
part_is t (selected.Method of pointer) part (below, is) = sym is

pub said_in : (t : TypeTable) (of : GoType) (name : Name) (sel : Selection) → IsSelection t of name sel → SaysSelected (declarations_in t) (record { of = of; name = name }) (chosen_in t sel)
said_in t of name (selection.Found path kind) (a, m, begins, selects, shows, given) =
    let is = part_is t kind m.is shows in (a, m, begins, selects, is, subst (λ (x : Part). IsGiven (declarations_in t) of x) (sym is) given)
said_in t of name (selection.Ambiguous depth) (a, begins, ambiguous) = (a, begins, ambiguous)
said_in t of name selection.Absent says = says

-- ---- method sets

pub reached_whole : (t : TypeTable) (a : GoType) (es : List Entry) → IsReached t a es → AreKnownBefore t es (length es) → IsKnownWhole (declarations_in t) a
reached_whole t a es r before way b leads =
    let turned : length (reverse way) ≡ length way = length-reverse way in
    let passed = passed_all (Embeds (declarations_in t)) (type_number (types_in t)) a es (length es) r.search (length way) (omega arith) in
    let met = within (Embeds (declarations_in t)) (type_number (types_in t)) a es (length es) r.search (length way) passed
    (reverse way) b (comes_of (declarations_in t) a b way leads) (omega (arith, turned)) in
    subst (λ (x : GoType). IsKnown (declarations_in t) x) met.3 (before met.0 met.1 (slice_get_within es met.0 met.1 met.2) met.2)

pub list_awaited : (t : TypeTable) (of : GoType) (es : List Entry) (j : ℕ) (e : Entry) → e ≡ get_or es j e → IsKnown (declarations_in t) of → ((p : GoType) → IsDefinedPointer (declarations_in t) of p → ⊥)
    → IsReached t (base of) es → IsMissingAt t es j → IsListAwaited t of (record { 0 = e.at })
list_awaited t of es j e read known none r (g, o, there, missing) =
    let one : g ≡ e = same_some (slice_get es j) g e there (slice_get_read es (length es) j e refl (slice_get_within es j g there) read) in
    subst (λ (x : Entry). IsListAwaited t of (record { 0 = x.at })) one (
      o,
      r.within j g there,
      missing.0,
      inr (
        known,
        none,
        (
          base of,
          reverse (back es j g.depth),
          inl (none, refl),
          subst (λ (x : GoType). Leads (declarations_in t) (base of) (reverse (back es j g.depth)) x) missing.0
              (leads_of (declarations_in t) (base of) (type_number (types_in t) g.at) (back es j g.depth) (r.search.reached j g there)),
          missing.1,
        ),
      ),
    )

pub list_enough : (t : TypeTable) (of : GoType) (es : List Entry) → IsKnown (declarations_in t) of → ((p : GoType) → IsDefinedPointer (declarations_in t) of p → ⊥)
    → IsReached t (base of) es → AreKnownBefore t es (length es) → EnoughToList (declarations_in t) of
list_enough t of es known none r before = (known, inr (base of, inl (none, refl), reached_whole t (base of) es r before))

methods_listed : (types : List GoType) (methods : List Method) → method_list (methods_of types methods) ≡ map (λ m. method_of types m) methods
methods_listed types [] = refl
methods_listed types (m ∷ methods) = ap (λ (l : List GoMethod). method_of types m ∷ l) (methods_listed types methods)

-- what a list of methods over a table says, of types alone
pub said_methods : (t : TypeTable) (of : GoType) (methods : List Method) → IsMethodSet t of methods → SaysMethods (declarations_in t) of (listed_in t methods)
said_methods t of methods set =
    (subst (λ (l : List GoMethod). AreSorted l) (methods_listed (types_in t) methods) (sorted-of (types_in t) methods set.ordered), set.each)
