-- The loop over the pieces of a file.
use Rattle.std.proofs.Common.{◌≡◌, ℕ, suc, ◌+◌, ◌-◌, ◌<◌, ◌≤◌, inl, inr, Bool, true, false, Option, Some, None, List, [], ◌∷◌, ◌++◌, cond, ◌&&◌, length, take, drop, refl, arith, subst, sym, ap, ◌∙◌, max}
use Rattle.std.specs.Prelude.{◌==◌, nat_lt}
use Rattle.std.proofs.Math.Nat.{le_refl, le-max_left, le-max_right, max-le}
use Rattle.std.proofs.lemmas.List.{drop_all, drop-drop, drop-take, length-drop, length-take-le}
use Rattle.go_tree.specs.declared.grammar.Stage.{Stage}
use Rattle.go_tree.specs.declared.grammar.Stage.TheVariants.{Clause, Imports, Declarations}
use Rattle.go_tree.specs.Arena.{depth, heights, highest}
use Rattle.go_tree.specs.Follow.{follow}
use Rattle.go_tree.specs.Forest.{Forest, Empty, Grow, ◌⊕◌}
use Rattle.go_tree.specs.Pieces.{depth_limit, deeper, onto, pieces, wanted, after, IsEnough, SpellsPiece, SpellsPieces, SpellsFile, Finding, Fine, Syntax, TooDeep, Finds, Unspelled}
use Rattle.go_parse.specs.State.{State}
use Rattle.go_parse.specs.Machine.{Built, Ended, SpellsTo}
use Rattle.go_parse.specs.Machine as machine
use Rattle.go_parse.specs.Reading.{first_size, deep_now, Passing, Over, DeepAt, BadAt, Reads}
use Rattle.go_parse.proofs.Arenas.{heights_beside, highest_heights}
use Rattle.go_parse.proofs.Forests.{beside_none, beside_assoc}

-- Each piece may stand at the end of what is read.
pub stage_ends : (s : Stage) → follow (wanted s) 75 ≡ true
unfolding follow
stage_ends Clause = refl
stage_ends Imports = refl
stage_ends Declarations = refl

record Some_pieces (ps : List (List ℕ)) : Type 0 where
  q : List ℕ
  qs : List (List ℕ)
  is : ps ≡ q ∷ qs

pieces_some : (d : ℕ) (cs : List ℕ) → Some_pieces (pieces d cs)
pieces_some d [] = record { q = []; qs = []; is = refl }
pieces_some d (c ∷ cs) = go (c == 31 && d == 0) (pieces_some (deeper d c) cs)
  where
    put : (ps : List (List ℕ)) → Some_pieces ps → Some_pieces (onto c ps)
    put ps w = record { q = c ∷ w.q; qs = w.qs; is = ap (onto c) w.is }

    go : (b : Bool) → Some_pieces (pieces (deeper d c) cs) → Some_pieces (cond b ([] ∷ pieces 0 cs) (onto c (pieces (deeper d c) cs)))
    go true w = record { q = []; qs = pieces 0 cs; is = refl }
    go false w = put (pieces (deeper d c) cs) w

-- The pieces are the first one, up to its semicolon, and those after it.
pub pieces_closed : (d : ℕ) (cs : List ℕ) → first_size d cs < length cs → pieces d cs ≡ take (first_size d cs) cs ∷ pieces 0 (drop (suc (first_size d cs)) cs)
pieces_closed d [] l = absurd (omega (arith, l))
pieces_closed d (c ∷ cs) l = go (c == 31 && d == 0) l (pieces_closed (deeper d c) cs)
  where
    go : (b : Bool) → cond b 0 (suc (first_size (deeper d c) cs)) < suc (length cs)
        → (first_size (deeper d c) cs < length cs → pieces (deeper d c) cs ≡ take (first_size (deeper d c) cs) cs ∷ pieces 0 (drop (suc (first_size (deeper d c) cs)) cs))
        → cond b ([] ∷ pieces 0 cs) (onto c (pieces (deeper d c) cs)) ≡ take (cond b 0 (suc (first_size (deeper d c) cs))) (c ∷ cs) ∷ pieces 0 (drop (suc (cond b 0 (suc (first_size (deeper d c) cs)))) (c ∷ cs))
    go true l h = refl
    go false l h = ap (onto c) (h (omega (arith, l)))

-- Without a semicolon all is one piece.
pub pieces_open : (d : ℕ) (cs : List ℕ) → length cs ≤ first_size d cs → pieces d cs ≡ cs ∷ []
pieces_open d [] l = refl
pieces_open d (c ∷ cs) l = go (c == 31 && d == 0) l (pieces_open (deeper d c) cs)
  where
    go : (b : Bool) → suc (length cs) ≤ cond b 0 (suc (first_size (deeper d c) cs)) → (length cs ≤ first_size (deeper d c) cs → pieces (deeper d c) cs ≡ cs ∷ [])
        → cond b ([] ∷ pieces 0 cs) (onto c (pieces (deeper d c) cs)) ≡ (c ∷ cs) ∷ []
    go true l h = absurd (omega (arith, l))
    go false l h = ap (onto c) (h (omega (arith, l)))

pub first_size_le : (d : ℕ) (cs : List ℕ) → first_size d cs ≤ length cs
first_size_le d [] = omega arith
first_size_le d (c ∷ cs) = go (c == 31 && d == 0) (first_size_le (deeper d c) cs)
  where
    go : (b : Bool) → first_size (deeper d c) cs ≤ length cs → cond b 0 (suc (first_size (deeper d c) cs)) ≤ suc (length cs)
    go true h = omega arith
    go false h = omega (arith, h)

depth_left : (f g : Forest) → depth f ≤ depth (f ⊕ g)
depth_left Empty g = omega arith
depth_left (Grow k a b ps f) g =
    let h = depth_left f g in
    let x = le-max_left (suc (depth ps)) (depth (f ⊕ g)) in
    let y = le-max_right (suc (depth ps)) (depth (f ⊕ g)) in
    max-le x (let z : depth f ≤ max (suc (depth ps)) (depth (f ⊕ g)) = omega (arith, h, y) in z)

depth_right : (f g : Forest) → depth g ≤ depth (f ⊕ g)
depth_right Empty g = le_refl (depth g)
depth_right (Grow k a b ps f) g =
    let h = depth_right f g in
    let y = le-max_right (suc (depth ps)) (depth (f ⊕ g)) in
    omega (arith, h, y)

depth_both : (f g : Forest) (k : ℕ) → depth f ≤ k → depth g ≤ k → depth (f ⊕ g) ≤ k
depth_both Empty g k l h = h
depth_both (Grow kind a b ps f) g k l h =
    let x = le-max_left (suc (depth ps)) (depth f) in
    let y = le-max_right (suc (depth ps)) (depth f) in
    max-le (let z : suc (depth ps) ≤ k = omega (arith, l, x) in z) (depth_both f g k (omega (arith, l, y)) h)

-- Nothing is read yet.
pub over_start : (cs : List ℕ) (st : State) → Built st Empty → Over cs 0 Clause None st
over_start cs st b = record { g = Empty; built = b; goes = λ h w. w; comes = λ f w. (f, w, refl); found = (omega arith, λ v w. w) }

-- A piece that is spelled leads on.
joined : (s : Stage) (at : ℕ) (p : List ℕ) (ps : List (List ℕ)) (g h : Forest) → Some_pieces ps → SpellsPiece s at p g → SpellsPieces (after s p) (at + length p + 1) ps h → SpellsPieces s at (p ∷ ps) (g ⊕ h)
joined s at p ps g h w a b = subst (λ v. SpellsPieces s at (p ∷ v) (g ⊕ h)) (sym w.is) (g, h, a, subst (λ v. SpellsPieces (after s p) (at + length p + 1) v h) w.is b, refl)

record Parted (s : Stage) (at : ℕ) (p : List ℕ) (ps : List (List ℕ)) (f : Forest) : Type 0 where
  g : Forest
  h : Forest
  first : SpellsPiece s at p g
  rest : SpellsPieces (after s p) (at + length p + 1) ps h
  is : g ⊕ h ≡ f

parted : (s : Stage) (at : ℕ) (p : List ℕ) (ps : List (List ℕ)) (f : Forest) → Some_pieces ps → SpellsPieces s at (p ∷ ps) f → Parted s at p ps f
parted s at p ps f w a =
    let z = subst (λ v. SpellsPieces s at (p ∷ v) f) w.is a in
    record { g = z.0; h = z.1; first = z.2; rest = subst (λ v. SpellsPieces (after s p) (at + length p + 1) v z.1) (sym w.is) z.3; is = z.4 }

finds_syntax : (s : Stage) (at : ℕ) (p : List ℕ) (ps : List (List ℕ)) → Some_pieces ps → Unspelled s at p → Finds s at (p ∷ ps) (Syntax at)
finds_syntax s at p ps w u = subst (λ v. Finds s at (p ∷ v) (Syntax at)) (sym w.is) (inl (refl, u))

finds_deep : (s : Stage) (at : ℕ) (p : List ℕ) (ps : List (List ℕ)) (g : Forest) → Some_pieces ps → SpellsPiece s at p g → depth_limit < depth g → Finds s at (p ∷ ps) (TooDeep at)
finds_deep s at p ps g w a l = subst (λ v. Finds s at (p ∷ v) (TooDeep at)) (sym w.is) (inr (inl (refl, g, a, l)))

finds_on : (s : Stage) (at : ℕ) (p : List ℕ) (ps : List (List ℕ)) (g : Forest) (v : Finding) → Some_pieces ps → SpellsPiece s at p g → depth g ≤ depth_limit
    → Finds (after s p) (at + length p + 1) ps v → Finds s at (p ∷ ps) v
finds_on s at p ps g v w a l h = subst (λ u. Finds s at (p ∷ u) v) (sym w.is) (inr (inr (g, a, l, subst (λ u. Finds (after s p) (at + length p + 1) u v) w.is h)))

-- Both ways between the whole and the rest, past a piece that is spelled.
past : (cs : List ℕ) (s : Stage) (at : ℕ) (p : List ℕ) (ps : List (List ℕ)) (b f : Forest) → Some_pieces ps → SpellsPiece s at p f
    → ((h : Forest) → SpellsPieces s at (p ∷ ps) h → SpellsFile cs (b ⊕ h)) → (h : Forest) → SpellsPieces (after s p) (at + length p + 1) ps h → SpellsFile cs ((b ⊕ f) ⊕ h)
past cs s at p ps b f w a go h r = subst (SpellsFile cs) (sym (beside_assoc b f h)) (go (f ⊕ h) (joined s at p ps f h w a r))

back_past : (cs : List ℕ) (s : Stage) (at : ℕ) (p : List ℕ) (ps : List (List ℕ)) (b f : Forest) → Some_pieces ps → ((o : Forest) → SpellsPiece s at p o → f ≡ o)
    → ((f : Forest) → SpellsFile cs f → (h : Forest) × SpellsPieces s at (p ∷ ps) h × (b ⊕ h ≡ f)) → (o : Forest) → SpellsFile cs o
    → (h : Forest) × SpellsPieces (after s p) (at + length p + 1) ps h × ((b ⊕ f) ⊕ h ≡ o)
back_past cs s at p ps b f w only come o x =
    let y = come o x in
    let z = parted s at p ps y.0 w y.1 in
    (z.h, z.rest, beside_assoc b f z.h ∙ ap (λ v. b ⊕ (v ⊕ z.h)) (only z.g z.first) ∙ ap (λ v. b ⊕ v) z.is ∙ y.2)

less_of : (p n : ℕ) → nat_lt p n ≡ true → p < n
less_of p n q = grind arith

not_less : (p n : ℕ) → nat_lt p n ≡ false → n ≤ p
not_less p n q = grind arith

passing_on : (cs : List ℕ) (s : Stage) (at to : ℕ) (p : List ℕ) (ps : List (List ℕ)) (b f : Forest) (deep : Option ℕ) (d : ℕ) → Some_pieces ps
    → pieces 0 (drop at cs) ≡ p ∷ ps → pieces 0 (drop to cs) ≡ ps → to ≡ at + length p + 1 → SpellsPiece s at p f → d ≡ depth f
    → Passing cs at s deep b → Passing cs to (after s p) (deep_now deep d at) (b ⊕ f)
passing_on cs s at to p ps b f None d w e e' q a h x = go (nat_lt 250 d) refl
  where
    go : (t : Bool) → nat_lt 250 d ≡ t → Passing cs to (after s p) (cond t (Some at) None) (b ⊕ f)
    go true t =
        let l : 250 < depth f = subst (λ n. 250 < n) h (less_of 250 d t) in
        ((let r = depth_right b f in omega (arith, l, r)), x.1 (TooDeep at) (subst (λ u. Finds s at u (TooDeep at)) (sym e) (finds_deep s at p ps f w a l)))
    go false t =
        let l : depth f ≤ 250 = subst (λ n. n ≤ 250) h (not_less 250 d t) in (
          depth_both b f 250 x.0 l,
          λ v z. x.1 v (subst (λ u. Finds s at u v) (sym e) (finds_on s at p ps f v w a l (subst (λ i. Finds (after s p) i ps v) q (subst (λ u. Finds (after s p) to u v) e' z)))),
        )
passing_on cs s at to p ps b f (Some m) d w e e' q a h x = ((let l = depth_left b f in let y = x.0 in omega (arith, l, y)), x.1)

-- Past a piece that is spelled, its trees stand after those before.
pub over_on : (cs : List ℕ) (s : Stage) (at to : ℕ) (p : List ℕ) (deep : Option ℕ) (d : ℕ) (st st' : State) (w : Over cs at s deep st)
    → pieces 0 (drop at cs) ≡ p ∷ pieces 0 (drop to cs) → to ≡ at + length p + 1 → (x : Ended (at + length p) (wanted s) p w.g st') → d ≡ depth x.f
    → Over cs to (after s p) (deep_now deep d at) st'
over_on cs s at to p deep d st st' w e q x h =
    let ps = pieces 0 (drop to cs) in
    let sp = pieces_some 0 (drop to cs) in
    record {
      g = w.g ⊕ x.f;
      built = x.built;
      goes = λ h r. past cs s at p ps w.g x.f sp x.spelled (λ h y. w.goes h (subst (λ u. SpellsPieces s at u h) (sym e) y)) h (subst (λ i. SpellsPieces (after s p) i ps h) q r);
      comes = λ o y. (let z = back_past cs s at p ps w.g x.f sp x.only (λ f y. (let z = w.comes f y in (z.0, subst (λ u. SpellsPieces s at u z.0) e z.1, z.2))) o y in
          (z.0, subst (λ i. SpellsPieces (after s p) i ps z.0) (sym q) z.1, z.2));
      found = passing_on cs s at to p ps w.g x.f deep d sp e refl q x.spelled h w.found;
    }

-- A piece that is not spelled ends the reading.
pub reads_bad : (cs : List ℕ) (s : Stage) (at to : ℕ) (p : List ℕ) (deep : Option ℕ) (st st' : State) (w : Over cs at s deep st)
    → pieces 0 (drop at cs) ≡ p ∷ pieces 0 (drop to cs) → Unspelled s at p → Reads cs deep (Some at) st'
reads_bad cs s at to p deep st st' w e u = (
  (λ f y. (let z = w.comes f y in let v = parted s at p (pieces 0 (drop to cs)) z.0 (pieces_some 0 (drop to cs)) (subst (λ u. SpellsPieces s at u z.0) e z.1) in u v.g v.first)),
  go deep w.found,
)
  where
    go : (deep : Option ℕ) → Passing cs at s deep w.g → BadAt cs deep at
    go None x = x.1 (Syntax at) (subst (λ u. Finds s at u (Syntax at)) (sym e) (finds_syntax s at p (pieces 0 (drop to cs)) (pieces_some 0 (drop to cs)) u))
    go (Some m) x = x.1

-- what stands after the last semicolon
abbrev pub bad_end : Bool → ℕ → Option ℕ
bad_end true at = None
bad_end false at = Some at

-- At the last semicolon the file is whole, if no piece is missing and nothing is left.
pub reads_whole : (cs : List ℕ) (s : Stage) (at : ℕ) (deep : Option ℕ) (st : State) → Over cs at s deep st → pieces 0 (drop at cs) ≡ [] ∷ [] → IsEnough s → Reads cs deep None st
reads_whole cs s at deep st w e n = record {
  f = w.g;
  spelled = subst (SpellsFile cs) (beside_none w.g) (w.goes Empty (subst (λ u. SpellsPieces s at u Empty) (sym e) (n, refl, refl)));
  built = w.built;
  only = λ o y. (let z = w.comes o y in let v = subst (λ u. SpellsPieces s at u z.0) e z.1 in sym (beside_none w.g) ∙ ap (λ v. w.g ⊕ v) (sym v.2) ∙ z.2);
  found = go deep w.found;
}
  where
    go : (deep : Option ℕ) → Passing cs at s deep w.g → DeepAt cs deep w.g
    go None x = (x.0, x.1 Fine (subst (λ u. Finds s at u Fine) (sym e) (inl (refl, n, refl))))
    go (Some m) x = x

pub reads_left : (cs : List ℕ) (s : Stage) (at : ℕ) (p : List ℕ) (deep : Option ℕ) (st st' : State) → Over cs at s deep st → pieces 0 (drop at cs) ≡ p ∷ [] → (IsEnough s × (p ≡ []) → ⊥) → Reads cs deep (Some at) st'
reads_left cs s at p deep st st' w e n =
    ((λ f y. (let z = w.comes f y in let v = subst (λ u. SpellsPieces s at u z.0) e z.1 in n (v.0, v.1))), go deep w.found)
  where
    go : (deep : Option ℕ) → Passing cs at s deep w.g → BadAt cs deep at
    go None x = x.1 (Syntax at) (subst (λ u. Finds s at u (Syntax at)) (sym e) (inr (refl, n)))
    go (Some m) x = x.1

-- The depth of a piece is the greatest of the heights that it left.
pub piece_depth : (g f : Forest) (hs : List ℕ) → hs ≡ heights (g ⊕ f) → highest (drop (length (heights g)) hs) ≡ depth f
piece_depth g f hs e = ap (λ v. highest (drop (length (heights g)) v)) (e ∙ heights_beside g f) ∙ ap highest (drop_front (heights g) (heights f)) ∙ highest_heights f
  where
    drop_front : (xs ys : List ℕ) → drop (length xs) (xs ++ ys) ≡ ys
    drop_front [] ys = refl
    drop_front (x ∷ xs) ys = drop_front xs ys

pub highest_past : (n : ℕ) (hs : List ℕ) → length hs ≤ n → 0 ≡ highest (drop n hs)
highest_past n hs l = ap highest (sym (drop_all n hs l))

-- The answer of the machine for the first piece of what is left.
piece_at : (cs ds : List ℕ) (at k to : ℕ) → to ≡ at + k → ds ≡ take to cs → drop at ds ≡ take k (drop at cs)
piece_at cs ds at k to q e = ap (drop at) e ∙ ap (λ n. drop at (take n cs)) q ∙ drop-take at k cs

answered : (cs ds : List ℕ) (s : Stage) (at k to : ℕ) (b : Bool) (g : Forest) (st : State) → to ≡ at + k → k ≤ length (drop at cs) → to ≤ length cs → ds ≡ take to cs
    → machine.Answered b (length ds) (wanted s) (drop at ds) g st → machine.Answered b (at + length (take k (drop at cs))) (wanted s) (take k (drop at cs)) g st
answered cs ds s at k to b g st q l m e a =
    let long : length ds ≡ at + length (take k (drop at cs)) = ap length e ∙ length-take-le to cs m ∙ q ∙ ap (λ n. at + n) (sym (length-take-le k (drop at cs) l)) in
    subst (λ n. machine.Answered b n (wanted s) (take k (drop at cs)) g st) long (subst (λ v. machine.Answered b (length ds) (wanted s) v g st) (piece_at cs ds at k to q e) a)

pub step_good : (cs ds : List ℕ) (s : Stage) (at to : ℕ) (b : Bool) (deep : Option ℕ) (d n : ℕ) (st st' : State) → Over cs at s deep st → at ≤ length cs → to ≡ at + first_size 0 (drop at cs) → to < length cs
    → ds ≡ take to cs → ((g : Forest) → Built st g → machine.Answered b (length ds) (wanted s) (drop at ds) g st') → b ≡ true → n ≡ length st.heights → d ≡ highest (drop n st'.heights)
    → Over cs (to + 1) (after s (take (to - at) (drop at cs))) (deep_now deep d at) st'
step_good cs ds s at to b deep d n st st' w i q l e a t nh dh =
    let k = first_size 0 (drop at cs) in
    let long = length-drop at cs in
    let inside : k < length (drop at cs) = omega (arith, q, l, long, i) in
    let p = take k (drop at cs) in
    let size : length p ≡ k = length-take-le k (drop at cs) (omega (arith, inside)) in
    let x = answered cs ds s at k to true w.g st' q (omega (arith, inside)) (omega (arith, l)) e (subst (λ v. machine.Answered v (length ds) (wanted s) (drop at ds) w.g st') t (a w.g w.built)) in
    let closed : pieces 0 (drop at cs) ≡ p ∷ pieces 0 (drop (to + 1) cs) = pieces_closed 0 (drop at cs) inside ∙ ap (λ v. p ∷ pieces 0 v) (drop-drop (suc k) at cs ∙ ap (λ n. drop n cs) (let z : at + suc k ≡ to + 1 = omega (arith, q) in z)) in
    let depth_is : d ≡ depth x.f = dh ∙ ap (λ n. highest (drop n st'.heights)) (nh ∙ ap length w.built.heights) ∙ piece_depth w.g x.f st'.heights x.built.heights in
    let k_is : k ≡ to - at = omega (arith, q) in
    subst (λ v. Over cs (to + 1) (after s (take v (drop at cs))) (deep_now deep d at) st') k_is
    (over_on cs s at (to + 1) p deep d st st' w closed (omega (arith, q, size)) x depth_is)

pub step_bad : (cs ds : List ℕ) (s : Stage) (at to : ℕ) (b : Bool) (deep : Option ℕ) (st st' st'' : State) → Over cs at s deep st → at ≤ length cs → to ≡ at + first_size 0 (drop at cs) → to < length cs
    → ds ≡ take to cs → ((g : Forest) → Built st g → machine.Answered b (length ds) (wanted s) (drop at ds) g st') → b ≡ false → Reads cs deep (Some at) st''
step_bad cs ds s at to b deep st st' st'' w i q l e a t =
    let k = first_size 0 (drop at cs) in
    let long = length-drop at cs in
    let inside : k < length (drop at cs) = omega (arith, q, l, long, i) in
    let p = take k (drop at cs) in
    let x = answered cs ds s at k to false w.g st' q (omega (arith, inside)) (omega (arith, l)) e (subst (λ v. machine.Answered v (length ds) (wanted s) (drop at ds) w.g st') t (a w.g w.built)) in
    let closed : pieces 0 (drop at cs) ≡ p ∷ pieces 0 (drop (to + 1) cs) = pieces_closed 0 (drop at cs) inside ∙ ap (λ v. p ∷ pieces 0 v) (drop-drop (suc k) at cs ∙ ap (λ n. drop n cs) (let z : at + suc k ≡ to + 1 = omega (arith, q) in z)) in
    reads_bad cs s at (to + 1) p deep st st'' w closed x

open_piece : (cs : List ℕ) (at : ℕ) → at ≤ length cs → length cs ≤ at + first_size 0 (drop at cs) → pieces 0 (drop at cs) ≡ drop at cs ∷ []
open_piece cs at i l = pieces_open 0 (drop at cs) (let z = length-drop at cs in omega (arith, z, i, l))

pub end_whole : (cs : List ℕ) (s : Stage) (at : ℕ) (deep : Option ℕ) (st : State) → Over cs at s deep st → at ≤ length cs → length cs ≤ at + first_size 0 (drop at cs)
    → (at ≡ length cs) × IsEnough s → Reads cs deep None st
end_whole cs s at deep st w i l n =
    reads_whole cs s at deep st w (open_piece cs at i l ∙ ap (λ v. v ∷ []) (drop_all at cs (let z = n.0 in omega (arith, z)))) n.1

pub end_left : (cs : List ℕ) (s : Stage) (at : ℕ) (deep : Option ℕ) (st st' : State) → Over cs at s deep st → at ≤ length cs → length cs ≤ at + first_size 0 (drop at cs)
    → ((at ≡ length cs) × IsEnough s → ⊥) → Reads cs deep (Some at) st'
end_left cs s at deep st st' w i l n =
    reads_left cs s at (drop at cs) deep st st' w (open_piece cs at i l)
    (λ z. n ((let e = ap length z.1 in let long = length-drop at cs in omega (arith, e, long, i)), z.0))
