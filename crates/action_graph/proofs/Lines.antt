-- The reader of marks: what is read is spelled so, and what is spelled so is read.
use Rattle.std.proofs.Common.{◌≡◌, ℕ, zero, suc, ◌-◌, ◌^◌, ◌<◌, ◌≤◌, Bool, true, false, cond, eqb, List, [], ◌++◌, length, Some, None, refl, sym, ap, subst, ◌∙◌, arith, inl, inr}
use Rattle.std.proofs.lemmas.Bool.{eqb-true}
use Rattle.std.proofs.lemmas.List.{append-nil, nil_from_length}
use Rattle.gv_bytes.specs.Spelling.{natural, items, AreItems}
use Rattle.gv_bytes.specs.Reading.{◌>>=◌, Reads, natural_at, items_at}
use Rattle.gv_bytes.proofs.Options.{bind_some, chosen, some_is, chain, regroup_four}
use Rattle.gv_bytes.proofs.Numbers.{naturals}
use Rattle.gv_bytes.proofs.Items.{lists}
use Rattle.action_graph.specs.declared.marks.MarkLine.{MarkLine}
use Rattle.action_graph.specs.Marks.{limit_number, mark, IsMark, AreSpelled, mark_at, marks_of}

places : Reads (λ n. n ≤ 2 ^ 32 - 1) natural (natural_at (2 ^ 32 - 1))
places = naturals (2 ^ 32 - 1) (omega arith)

truths : Reads (λ n. n ≤ 1) natural (natural_at 1)
truths = naturals 1 (omega arith)

bytes_of : Reads (λ n. n ≤ 255) natural (natural_at 255)
bytes_of = naturals 255 (omega arith)

limit_kept : (n : ℕ) → n ≤ 1 → limit_number (eqb n 1) ≡ n
limit_kept zero h = refl
limit_kept (suc zero) h = refl
limit_kept (suc (suc n)) h = absurd (omega arith)

limit_small : (b : Bool) → limit_number b ≤ 1
limit_small true = omega arith
limit_small false = omega arith

limit_back : (b : Bool) → eqb (limit_number b) 1 ≡ b
limit_back true = refl
limit_back false = refl

mark_take : (bytes : List ℕ) (x : MarkLine × List ℕ) → mark_at bytes ≡ Some x → (bytes ≡ mark x.0 ++ x.1) × IsMark x.0
unfolding mark_at mark
mark_take bytes x e =
    let a = bind_some (natural_at (2 ^ 32 - 1) bytes) (λ file. natural_at (2 ^ 32 - 1) file.1 >>= λ offset. natural_at 1 offset.1 >>= λ limit. natural_at 255 limit.1 >>= λ number. Some (record { at = record { file = file.0; offset = offset.0 }; limit = eqb limit.0 1; number = number.0 }, number.1)) x e in
    let b = bind_some (natural_at (2 ^ 32 - 1) a.0.1) (λ offset. natural_at 1 offset.1 >>= λ limit. natural_at 255 limit.1 >>= λ number. Some (record { at = record { file = a.0.0; offset = offset.0 }; limit = eqb limit.0 1; number = number.0 }, number.1)) x a.2 in
    let c = bind_some (natural_at 1 b.0.1) (λ limit. natural_at 255 limit.1 >>= λ number. Some (record { at = record { file = a.0.0; offset = b.0.0 }; limit = eqb limit.0 1; number = number.0 }, number.1)) x b.2 in
    let d = bind_some (natural_at 255 c.0.1) (λ number. Some (record { at = record { file = a.0.0; offset = b.0.0 }; limit = eqb c.0.0 1; number = number.0 }, number.1)) x c.2 in
    let file = places.takes bytes a.0 a.1 in
    let offset = places.takes a.0.1 b.0 b.1 in
    let limit = truths.takes b.0.1 c.0 c.1 in
    let number = bytes_of.takes c.0.1 d.0 d.1 in
    let third : b.0.1 ≡ natural (limit_number (eqb c.0.0 1)) ++ c.0.1 = limit.0 ∙ ap (λ (n : ℕ). natural n ++ c.0.1) (sym (limit_kept c.0.0 limit.1)) in
    let one = chain bytes (natural a.0.0) a.0.1 (natural b.0.0) b.0.1 file.0 offset.0 in
    let two = chain bytes (natural a.0.0 ++ natural b.0.0) b.0.1 (natural (limit_number (eqb c.0.0 1))) c.0.1 one third in
    let three = chain bytes ((natural a.0.0 ++ natural b.0.0) ++ natural (limit_number (eqb c.0.0 1))) c.0.1 (natural d.0.0) d.0.1 two number.0 in
    let made : MarkLine × List ℕ = (record { at = record { file = a.0.0; offset = b.0.0 }; limit = eqb c.0.0 1; number = d.0.0 }, d.0.1) in
    let file_fits : a.0.0 < 2 ^ 32 = omega (arith, file.1) in
    let offset_fits : b.0.0 < 2 ^ 32 = omega (arith, offset.1) in
    let number_fits : d.0.0 < 256 = omega (arith, number.1) in
    subst (λ (y : MarkLine × List ℕ). (bytes ≡ mark y.0 ++ y.1) × IsMark y.0) (some_is made x d.2) (three, record { file = file_fits; offset = offset_fits; number = number_fits })

mark_again : (m : MarkLine) (rest : List ℕ) → IsMark m → mark_at (mark m ++ rest) ≡ Some (m, rest)
unfolding mark_at mark
mark_again m rest fits =
    let l : List ℕ = natural (limit_number m.limit) in
    ap mark_at (regroup_four (natural m.at.file) (natural m.at.offset) (natural (limit_number m.limit)) (natural m.number) rest)
    ∙ rw (
      places.again m.at.file (natural m.at.offset ++ (natural (limit_number m.limit) ++ (natural m.number ++ rest))) (omega (arith, fits.file)),
      places.again m.at.offset (natural (limit_number m.limit) ++ (natural m.number ++ rest)) (omega (arith, fits.offset)),
      truths.again (limit_number m.limit) (natural m.number ++ rest) (limit_small m.limit),
      bytes_of.again m.number rest (omega (arith, fits.number)),
      limit_back m.limit,
    ) refl

marks : Reads IsMark mark mark_at
marks = record { takes = mark_take; again = mark_again }

all : Reads (AreItems IsMark) (items mark) (items_at mark_at)
all = lists marks

pub marks_take : (bytes : List ℕ) (xs : List MarkLine) → marks_of bytes ≡ Some xs → AreSpelled xs bytes
unfolding marks_of
marks_take bytes xs e =
    let a = bind_some (items_at mark_at bytes) (λ x. cond (eqb (length x.1) 0) (Some x.0) None) xs e in
    let t = all.takes bytes a.0 a.1 in
    elim (chosen (eqb (length a.0.1) 0) (Some a.0.0) None (Some xs) a.2) [
      | inl p ↦
          let nothing : a.0.1 ≡ [] = nil_from_length a.0.1 (eqb-true _ _ p.0) in
          let made : AreSpelled a.0.0 bytes = record { value = t.1; whole = t.0 ∙ ap (λ (r : List ℕ). items mark a.0.0 ++ r) nothing ∙ append-nil (items mark a.0.0) } in
          subst (λ (v : List MarkLine). AreSpelled v bytes) (some_is a.0.0 xs p.1) made
      | inr p ↦ absurd cc
    ]

pub marks_again : (xs : List MarkLine) → AreItems IsMark xs → marks_of (items mark xs) ≡ Some xs
unfolding marks_of
marks_again xs fits =
    let read : items_at mark_at (items mark xs) ≡ Some (xs, []) = ap (items_at mark_at) (sym (append-nil (items mark xs))) ∙ all.again xs [] fits in
    rw read refl

pub spelled_is_read : (bytes : List ℕ) (xs : List MarkLine) → AreSpelled xs bytes → marks_of bytes ≡ Some xs
spelled_is_read bytes xs h = ap marks_of h.whole ∙ marks_again xs h.value
