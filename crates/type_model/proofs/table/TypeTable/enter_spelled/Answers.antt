use Rattle.std.proofs.Common.{◌≡◌, ◌<◌, ◌≤◌, ◌+◌, ◌++◌, ◌∷◌, [], ℕ, List, None, length, inr, sym, ap, ◌∙◌, subst, arith}
use Rattle.std.specs.List.{All}
use Rattle.type_model.specs.declared.term.Term.{Term}
use Rattle.type_model.specs.GoTypes.{IsOver}
use Rattle.type_model.specs.Widths.{capped, width}
use Rattle.type_model.specs.Indexes.{found, AreTerms}
use Rattle.type_model.specs.Classes.{AreClasses, IsClass}
use Rattle.settled.specs.Nets.{size, HasSpace}
use Rattle.type_model.specs.Comparing.{parts_of as parts_of_term}
use Rattle.type_model.proofs.ClassLaws.{classes_same, class-push, still_classes}
use Rattle.type_model.proofs.WovenLaws.{table_woven, parts_below, woven_push, woven_same}
use Rattle.type_model.proofs.StateLaws.{known, too_wide, grown_same, entries_same, grown_push, added_push, puts_from}
use Rattle.type_model.proofs.table.TypeTable.enter_spelled.Goals as goal

pub reserve-requires-clause-net : goal.reserve-requires-clause-net
reserve-requires-clause-net c = (table_woven c.args.self.now c.requires.table).net

pub meet-requires-clause-terms : goal.meet-requires-clause-terms
meet-requires-clause-terms c = subst (λ (l : List Term). AreTerms l) (sym (c.deref-4.ensures.value ∙ c.reserve.ensures.same.terms)) c.requires.table.terms

pub meet-requires-clause-classes : goal.meet-requires-clause-classes
meet-requires-clause-classes c =
    subst (λ (l : List Term). AreClasses l c.reserve.new.self.classes) (sym (c.deref-4.ensures.value ∙ c.reserve.ensures.same.terms))
    (classes_same c.args.self.now.terms.items c.args.self.now.classes c.reserve.new.self.classes c.requires.table.classes c.reserve.ensures.classes)

pub meet-requires-clause-few : goal.meet-requires-clause-few
meet-requires-clause-few c =
    subst (λ (l : List Term). length l ≤ 4294967295) (sym (c.deref-4.ensures.value ∙ c.reserve.ensures.same.terms)) (omega (arith, c.if-count-gt-MOST.false, c.len-count.ensures))

pub meet-requires-clause-over : goal.meet-requires-clause-over
meet-requires-clause-over c = subst (λ (l : List Term). IsOver (length l) c.args.term) (sym (c.deref-4.ensures.value ∙ c.reserve.ensures.same.terms)) c.requires.over

pub push-requires-2-clause-below : goal.push-requires-2-clause-below
push-requires-2-clause-below c =
    let same : length c.args.self.now.terms.items ≡ size c.reserve.new.self.net = sym (table_woven c.args.self.now c.requires.table).count ∙ sym c.reserve.ensures.size in
    subst (λ (l : List ℕ). All (λ p. p < size c.reserve.new.self.net) l) (sym (c.deref-5.ensures.value ∙ c.in_ok-parts.ensures))
    (subst (λ m. All (λ p. p < m) (parts_of_term c.args.term None)) same (parts_below (length c.args.self.now.terms.items) c.args.term c.requires.over))

pub returns-clause-space : goal.returns-clause-space
returns-clause-space c = λ before.
    let more : length c.deref-5.result.now ≡ c.len.result = c.deref-5.ensures.len ∙ sym c.len.ensures in
    subst (λ x. HasSpace c.push-2.new.self x) (omega arith) (c.push-2.ensures.space 1 (subst (λ x. HasSpace c.reserve.new.self.net (x + 1)) (sym more) c.in_ok-reserve.ensures.waits.space))

pub returns-in-Some-clause-added : goal.returns-in-Some-clause-added
returns-in-Some-clause-added c =
    known c.args.self.now c.args.term c.deref.result.now c.in-Some.id c.requires.table (c.deref.ensures.value ∙ c.requires.spelled) (sym c.find.ensures ∙ c.in-Some.is)

pub returns-then-width-gt-LIMIT-clause-added : goal.returns-then-width-gt-LIMIT-clause-added
returns-then-width-gt-LIMIT-clause-added c =
    too_wide c.args.self.now c.args.term c.width_of-width.result c.requires.table c.requires.over
    (c.width_of-width.ensures ∙ ap (λ l. capped (width l c.args.term)) c.deref-2.ensures.value) c.if-width-gt-LIMIT.true

pub returns-clause-grown : goal.returns-clause-grown
returns-clause-grown c =
    grown_push c.args.self.now (record { alloc = c.reserve.new.self.alloc; terms = c.push_sure.new.items; widths = c.push_sure-2.new.items; declared = c.push_sure-3.new.items; numbers = c.keep.new.numbers; classes = c.push.new.self; net = c.push-2.new.self; spelling = c.reserve.new.self.spelling })
    c.args.term c.in_ok-key.key.items c.width_of-width.result c.len-id.result c.requires.table c.requires.over c.requires.ordered (c.in_ok-key.ensures ∙ (c.deref-3.ensures.value ∙ c.requires.spelled))
    (sym (c.find.ensures ∙ ap (λ k. found c.args.self.now.numbers k) (c.deref.ensures.value ∙ sym (c.in_ok-key.ensures ∙ c.deref-3.ensures.value))) ∙ c.in_default.is)
    (c.width_of-width.ensures ∙ ap (λ l. capped (width l c.args.term)) c.deref-2.ensures.value)
    (omega (arith, c.if-width-gt-LIMIT.false))
    (let size : length c.reserve.new.self.terms.items ≡ length c.args.self.now.terms.items = ap length c.reserve.ensures.same.terms in omega (arith, c.len-id.ensures))
    (puts_from c.args.self.now.numbers c.reserve.new.self.numbers c.keep.new.numbers c.in_ok-key.key.items c.len-id.result c.reserve.ensures.numbers c.in_ok-keep.ensures.put)
    (c.push_sure.ensures ∙ ap (λ l. l ++ c.args.term ∷ []) c.reserve.ensures.same.terms)
    (c.push_sure-2.ensures ∙ ap (λ l. l ++ c.width_of-width.result ∷ []) c.reserve.ensures.same.widths)
    (c.push_sure-3.ensures ∙ ap (λ l. l ++ None ∷ []) c.reserve.ensures.same.declared)
    (class-push c.args.self.now.terms.items c.meet.new.self c.push.new.self c.args.term c.in_ok-class.class
    (subst (λ (l : List Term). IsClass l c.meet.new.self c.args.term c.in_ok-class.class) (c.deref-4.ensures.value ∙ c.reserve.ensures.same.terms) c.in_ok-class.ensures.class)
    c.push.ensures.classes c.push.ensures.numbers c.push.ensures.count c.push.ensures.tagged)
    (woven_push c.args.self.now.terms.items c.args.self.now.declared.items c.reserve.new.self.net c.push-2.new.self c.args.term c.deref-5.result.now c.rules_out.result
    (woven_same c.args.self.now.terms.items c.args.self.now.declared.items c.args.self.now.net c.reserve.new.self.net (table_woven c.args.self.now c.requires.table) c.reserve.ensures.net c.reserve.ensures.size c.reserve.ensures.woven)
    c.requires.table.size c.push-2.ensures.net c.push-2.ensures.size c.rules_out.ensures (c.deref-5.ensures.value ∙ c.in_ok-parts.ensures) c.push-2.ensures.blocked c.push-2.ensures.waits)

pub returns-clause-added : goal.returns-clause-added
returns-clause-added c =
    added_push c.args.self.now (record { alloc = c.reserve.new.self.alloc; terms = c.push_sure.new.items; widths = c.push_sure-2.new.items; declared = c.push_sure-3.new.items; numbers = c.keep.new.numbers; classes = c.push.new.self; net = c.push-2.new.self; spelling = c.reserve.new.self.spelling })
    c.args.term c.in_ok-key.key.items c.width_of-width.result c.len-id.result c.requires.table c.requires.over c.requires.ordered (c.in_ok-key.ensures ∙ (c.deref-3.ensures.value ∙ c.requires.spelled))
    (sym (c.find.ensures ∙ ap (λ k. found c.args.self.now.numbers k) (c.deref.ensures.value ∙ sym (c.in_ok-key.ensures ∙ c.deref-3.ensures.value))) ∙ c.in_default.is)
    (c.width_of-width.ensures ∙ ap (λ l. capped (width l c.args.term)) c.deref-2.ensures.value)
    (omega (arith, c.if-width-gt-LIMIT.false))
    (let size : length c.reserve.new.self.terms.items ≡ length c.args.self.now.terms.items = ap length c.reserve.ensures.same.terms in omega (arith, c.len-id.ensures))
    (puts_from c.args.self.now.numbers c.reserve.new.self.numbers c.keep.new.numbers c.in_ok-key.key.items c.len-id.result c.reserve.ensures.numbers c.in_ok-keep.ensures.put)
    (c.push_sure.ensures ∙ ap (λ l. l ++ c.args.term ∷ []) c.reserve.ensures.same.terms)
    (c.push_sure-2.ensures ∙ ap (λ l. l ++ c.width_of-width.result ∷ []) c.reserve.ensures.same.widths)
    (c.push_sure-3.ensures ∙ ap (λ l. l ++ None ∷ []) c.reserve.ensures.same.declared)
    (class-push c.args.self.now.terms.items c.meet.new.self c.push.new.self c.args.term c.in_ok-class.class
    (subst (λ (l : List Term). IsClass l c.meet.new.self c.args.term c.in_ok-class.class) (c.deref-4.ensures.value ∙ c.reserve.ensures.same.terms) c.in_ok-class.ensures.class)
    c.push.ensures.classes c.push.ensures.numbers c.push.ensures.count c.push.ensures.tagged)

pub returns-clause-appended : goal.returns-clause-appended
returns-clause-appended c =
    inr (
      (let size : length c.reserve.new.self.terms.items ≡ length c.args.self.now.terms.items = ap length c.reserve.ensures.same.terms in omega (arith, c.len-id.ensures)),
      c.push_sure.ensures ∙ ap (λ l. l ++ c.args.term ∷ []) c.reserve.ensures.same.terms,
    )

pub returns-in_err-reserve-clause-grown : goal.returns-in_err-reserve-clause-grown
returns-in_err-reserve-clause-grown c =
    grown_same c.args.self.now c.reserve.new.self c.requires.table c.reserve.ensures.same (entries_same c.reserve.new.self.numbers c.args.self.now.numbers c.reserve.ensures.numbers)
    (classes_same c.args.self.now.terms.items c.args.self.now.classes c.reserve.new.self.classes c.requires.table.classes c.reserve.ensures.classes)
    c.reserve.ensures.net c.reserve.ensures.size c.reserve.ensures.woven

pub returns-in_err-keep-clause-grown : goal.returns-in_err-keep-clause-grown
returns-in_err-keep-clause-grown c =
    grown_same c.args.self.now (record { alloc = c.reserve.new.self.alloc; terms = c.reserve.new.self.terms; widths = c.reserve.new.self.widths; declared = c.reserve.new.self.declared; numbers = c.keep.new.numbers; classes = c.meet.new.self; net = c.reserve.new.self.net; spelling = c.reserve.new.self.spelling })
    c.requires.table (record { terms = c.reserve.ensures.same.terms; widths = c.reserve.ensures.same.widths; declared = c.reserve.ensures.same.declared })
    (c.in_err-keep.ensures.unchanged ∙ entries_same c.reserve.new.self.numbers c.args.self.now.numbers c.reserve.ensures.numbers)
    (still_classes c.args.self.now.terms.items c.meet.new.self c.args.term c.in_ok-class.class
    (subst (λ (l : List Term). IsClass l c.meet.new.self c.args.term c.in_ok-class.class) (c.deref-4.ensures.value ∙ c.reserve.ensures.same.terms) c.in_ok-class.ensures.class))
    c.reserve.ensures.net c.reserve.ensures.size c.reserve.ensures.woven

pub returns-in_err-class-clause-grown : goal.returns-in_err-class-clause-grown
returns-in_err-class-clause-grown c =
    grown_same c.args.self.now (record { alloc = c.reserve.new.self.alloc; terms = c.reserve.new.self.terms; widths = c.reserve.new.self.widths; declared = c.reserve.new.self.declared; numbers = c.reserve.new.self.numbers; classes = c.meet.new.self; net = c.reserve.new.self.net; spelling = c.reserve.new.self.spelling })
    c.requires.table (record { terms = c.reserve.ensures.same.terms; widths = c.reserve.ensures.same.widths; declared = c.reserve.ensures.same.declared })
    (entries_same c.reserve.new.self.numbers c.args.self.now.numbers c.reserve.ensures.numbers)
    (subst (λ (l : List Term). AreClasses l c.meet.new.self) (c.deref-4.ensures.value ∙ c.reserve.ensures.same.terms) c.in_err-class.ensures.still)
    c.reserve.ensures.net c.reserve.ensures.size c.reserve.ensures.woven
