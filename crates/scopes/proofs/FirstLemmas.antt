-- The first of a name in its block.
use Rattle.std.proofs.Common.{◌≡◌, ℕ, zero, suc, ◌<◌, ◌+◌, ◌≤◌, ◌⊎◌, Bool, true, false, not, cond, ◌&&◌, ◌||◌, List, [], ◌∷◌, ◌++◌, length, slice_get, get_or, Some, refl, sym, ap, ◌∙◌, subst, inl, inr, arith, nat_eq, eqb→eq, eq-eqb, T, take}
use Rattle.std.specs.List.{list_any, Any}
use Rattle.std.proofs.lemmas.List.Folds.{list_any_more, list_any_at, Any-from_list_any}
use Rattle.std.proofs.lemmas.Option.{slice_get_within, get_or_from_slice_get, slice_get-get_or}
use Rattle.std.proofs.Math.ListN.{get_or-append}
use Rattle.std.proofs.Math.Seq.{get_or-append_seam}
use Rattle.scopes.specs.declared.visible.Declaration.{Declaration}
use Rattle.scopes.specs.Denotes.{IsRefused, IsFlags}
use Rattle.gv_base.proofs.Lists.{same_some}

abbrev pub slot_eq : ℕ × ℕ → ℕ × ℕ → Bool
slot_eq a b = nat_eq a.0 b.0 && nat_eq a.1 b.1

abbrev pub has_slot : ℕ × ℕ → Declaration → Bool
has_slot q e = slot_eq (e.end, e.name) q

-- an earlier one has the slot
abbrev pub taken_before : List Declaration → ℕ → Declaration → Bool
taken_before ds k d = list_any (has_slot (d.end, d.name)) (take k ds)

or_cond : (b x : Bool) → cond b true x ≡ (x || b)
or_cond true true = refl
or_cond true false = refl
or_cond false true = refl
or_cond false false = refl

pub slots_more : (ds : List Declaration) (i : ℕ) (other d : Declaration) (q : ℕ × ℕ) (before after : Bool) → i < length ds → get_or ds i other ≡ d
    → before ≡ list_any (has_slot q) (take i ds) → after ≡ cond (slot_eq (d.end, d.name) q) true before → after ≡ list_any (has_slot q) (take (i + 1) ds)
slots_more ds i other d q before after low is was now =
    now ∙ (or_cond (has_slot q d) before ∙ (ap (λ x. x || has_slot q d) was ∙ (ap (λ x. list_any (has_slot q) (take i ds) || has_slot q x) (sym is) ∙ sym (list_any_more (has_slot q) ds i other low))))

and_parts : (a b c d : ℕ) → slot_eq (a, b) (c, d) ≡ true → (a ≡ c) × (b ≡ d)
and_parts a b c d is = at (nat_eq a c) (nat_eq b d) refl refl is where
  at : (x y : Bool) → nat_eq a c ≡ x → nat_eq b d ≡ y → (x && y) ≡ true → (a ≡ c) × (b ≡ d)
  at true true e f h = (eqb→eq a c (subst (λ (x : Bool). T x) (sym e) tt), eqb→eq b d (subst (λ (x : Bool). T x) (sym f) tt))
  at true false e f h = absurd (cc)
  at false y e f h = absurd (cc)

and_true : (a b c d : ℕ) → a ≡ c → b ≡ d → slot_eq (a, b) (c, d) ≡ true
and_true a b c d e f = ap (λ x. x && nat_eq b d) (eq-eqb a c e) ∙ eq-eqb b d f

get-take : (ds : List Declaration) (j k : ℕ) → j < k → slice_get (take k ds) j ≡ slice_get ds j
get-take [] j zero h = absurd (omega arith)
get-take [] j (suc k) h = refl
get-take (d ∷ ds) j zero h = absurd (omega arith)
get-take (d ∷ ds) zero (suc k) h = refl
get-take (d ∷ ds) (suc j) (suc k) h = get-take ds j k (omega arith)

taken_there : (ds : List Declaration) (j k : ℕ) (e : Declaration) → slice_get (take k ds) j ≡ Some e → (j < k) × (slice_get ds j ≡ Some e)
taken_there [] j zero e is = absurd (cc)
taken_there [] j (suc k) e is = absurd (cc)
taken_there (d ∷ ds) j zero e is = absurd (cc)
taken_there (d ∷ ds) zero (suc k) e is = (omega arith, is)
taken_there (d ∷ ds) (suc j) (suc k) e is = let rest = taken_there ds j k e is in (let h = rest.0 in omega arith, rest.1)

-- refused exactly where an earlier one has the slot
pub refused_taken : (ds : List Declaration) (k : ℕ) (d : Declaration) → IsRefused ds k d → taken_before ds k d ≡ true
refused_taken ds k d (j, e, low, there, block, name) =
    let in_front : slice_get (take k ds) j ≡ Some e = get-take ds j k low ∙ there in
    list_any_at (has_slot (d.end, d.name)) (take k ds) j e (slice_get_within (take k ds) j e in_front)
    (ap (has_slot (d.end, d.name)) (get_or_from_slice_get (take k ds) j e e in_front) ∙ and_true e.end e.name d.end d.name block name)

pub taken_refused : (ds : List Declaration) (k : ℕ) (d : Declaration) → taken_before ds k d ≡ true → IsRefused ds k d
taken_refused ds k d is = refused (Any-from_list_any (has_slot (d.end, d.name)) (take k ds) is) where
  refused : Any (λ e. has_slot (d.end, d.name) e ≡ true) (take k ds) → IsRefused ds k d
  refused (j, e, within, value, slot) =
      let at_j = taken_there ds j k e (slice_get-get_or (take k ds) j e within ∙ ap (λ x. Some x) value) in
      let same = and_parts e.end e.name d.end d.name slot in
      (j, e, at_j.0, at_j.1, same.0, same.1)

-- whether the declaration is the first
abbrev pub flag_of : List Declaration → ℕ → Declaration → Bool
flag_of ds k d = not (taken_before ds k d)

not_refused : (ds : List Declaration) (k : ℕ) (d : Declaration) (b : Bool) → taken_before ds k d ≡ b → not b ≡ true → IsRefused ds k d → ⊥
not_refused ds k d true e is refused = cc
not_refused ds k d false e is refused = let t = refused_taken ds k d refused in let g : false ≡ true = sym e ∙ t in cc

flag_is : (ds : List Declaration) (k : ℕ) (d : Declaration) (b : Bool) → taken_before ds k d ≡ b → (IsRefused ds k d → ⊥) → not b ≡ true
flag_is ds k d true e first = absurd (first (taken_refused ds k d e))
flag_is ds k d false e first = refl

pub flags_from : (ds : List Declaration) (first : List Bool) (n : ℕ) → length ds ≤ n → n ≤ length ds → length first ≡ n
    → ((k : ℕ) (d : Declaration) → k < n → slice_get ds k ≡ Some d → get_or first k false ≡ flag_of ds k d) → IsFlags ds first
flags_from ds first n end start size all = (
  omega arith,
  λ k d there.
      let value = all k d (let h = slice_get_within ds k d there in omega arith) there in (
        (
          λ is. not_refused ds k d (taken_before ds k d) refl (sym value ∙ is),
          λ first_one. value ∙ flag_is ds k d (taken_before ds k d) refl first_one,
        ),
        λ is. taken_refused ds k d (not_false (taken_before ds k d) (sym value ∙ is)),
      ),
) where
  not_false : (b : Bool) → not b ≡ false → b ≡ true
  not_false true e = refl
  not_false false e = absurd (cc)

pub flag_more : (ds : List Declaration) (first : List Bool) (i : ℕ) (d : Declaration) (added : Bool) → length first ≡ i → slice_get ds i ≡ Some d → added ≡ flag_of ds i d
    → ((k : ℕ) (e : Declaration) → k < i → slice_get ds k ≡ Some e → get_or first k false ≡ flag_of ds k e)
    → (k : ℕ) (e : Declaration) → k < i + 1 → slice_get ds k ≡ Some e → get_or (first ++ added ∷ []) k false ≡ flag_of ds k e
flag_more ds first i d added size there this so_far k e low is = elim (cases low) [
  | inl old ↦ get_or-append first (added ∷ []) false k (omega arith) ∙ so_far k e old is
  | inr here ↦
      let same : d ≡ e = same_some (slice_get ds i) d e there (ap (λ x. slice_get ds x) (sym here) ∙ is) in
      ap (λ x. get_or (first ++ added ∷ []) x false) (here ∙ sym size) ∙ (get_or-append_seam first added [] false ∙ (this ∙ (ap (λ x. flag_of ds i x) same ∙ ap (λ x. flag_of ds x e) (sym here))))
] where
  cases : k < i + 1 → (k < i) ⊎ (k ≡ i)
  cases h = grind arith
