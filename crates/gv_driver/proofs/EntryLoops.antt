-- Entries one after another, in loops.
use Rattle.std.proofs.Common.{◌≡◌, ℕ, ◌<◌, ◌≤◌, ◌+◌, Option, Some, None, List, [], ◌∷◌, ◌++◌, length, slice_get, get_or, set, map, drop, take, length-drop, ◌-◌, refl, sym, ap, ◌∙◌, subst, arith, zero, suc, append_assoc}
use Rattle.std.proofs.Math.Seq.{drop-cons}
use Rattle.std.proofs.lemmas.Option.{same_Some, slice_get-get_or}
use Rattle.std.proofs.lemmas.List.{length-map, map-append}
use Rattle.fact_cache.specs.declared.list.Entry.{Entry}
use Rattle.gv_driver.specs.declared.node.Node.{Node}
use Rattle.gv_driver.specs.declared.node.RunNode.{RunNode}
use Rattle.gv_driver.specs.Entries.{all_entries, entries_in, entry_if, run_entries}
use Rattle.gv_driver.proofs.MissingLaws.{take-more}
use Rattle.gv_driver.proofs.Places.{append-none, get-unmapped}

next-is : (p : ℕ) → suc p ≡ p + 1
next-is p = omega arith

at_drop : {X : Type 0} (xs : List X) (i : ℕ) (x : X) → x ≡ get_or xs i x → i < length xs → drop i xs ≡ x ∷ drop (i + 1) xs
at_drop xs i x is within =
    drop-cons xs i x within ∙ (ap (λ y. y ∷ drop (suc i) xs) (sym is) ∙ ap (λ n. x ∷ drop n xs) (next-is i))

front-next : (front : List (Option Entry)) (a b all : List Entry) → all ≡ a ++ b → (front ++ map Some a) ++ map Some b ≡ front ++ map Some all
front-next front a b all e =
    append_assoc front (map Some a) (map Some b) ∙ ap (λ (l : List (Option Entry)). front ++ l) (sym (map-append Some a b) ∙ ap (λ (l : List Entry). map Some l) (sym e))

pub run-next : (front : List (Option Entry)) (runs : List RunNode) (i : ℕ) (r : RunNode) → r ≡ get_or runs i r → i < length runs
    → (front ++ map Some (entry_if r.fresh r.outcome)) ++ map Some (run_entries (drop (i + 1) runs)) ≡ front ++ map Some (run_entries (drop i runs))
run-next front runs i r is within =
    front-next front (entry_if r.fresh r.outcome) (run_entries (drop (i + 1) runs)) (run_entries (drop i runs)) (ap run_entries (at_drop runs i r is within))

pub node-next : (front : List (Option Entry)) (table : List (Option Node)) (i : ℕ) (o : Option Node) → o ≡ get_or table i o → i < length table
    → (front ++ map Some (entries_in o)) ++ map Some (all_entries (drop (i + 1) table)) ≡ front ++ map Some (all_entries (drop i table))
node-next front table i o is within =
    front-next front (entries_in o) (all_entries (drop (i + 1) table)) (all_entries (drop i table)) (ap all_entries (at_drop table i o is within))

nothing-behind : {X : Type 0} (xs : List X) (i : ℕ) → length xs ≤ i → drop i xs ≡ []
nothing-behind [] zero h = refl
nothing-behind [] (suc i) h = refl
nothing-behind (x ∷ xs) zero h = absurd (omega (arith, h))
nothing-behind (x ∷ xs) (suc i) h = nothing-behind xs i (omega (arith, h))

pub run-end : (front : List (Option Entry)) (runs : List RunNode) (i : ℕ) → length runs ≤ i → front ++ map Some (run_entries (drop i runs)) ≡ front
run-end front runs i h = ap (λ l. front ++ map Some (run_entries l)) (nothing-behind runs i h) ∙ append-none front

pub node-end : (front : List (Option Entry)) (table : List (Option Node)) (i : ℕ) → length table ≤ i → front ++ map Some (all_entries (drop i table)) ≡ front
node-end front table i h = ap (λ l. front ++ map Some (all_entries l)) (nothing-behind table i h) ∙ append-none front

get-drop : {X : Type 0} (xs : List X) (p : ℕ) → slice_get xs p ≡ slice_get (drop p xs) 0
get-drop [] zero = refl
get-drop [] (suc p) = refl
get-drop (y ∷ ys) zero = refl
get-drop (y ∷ ys) (suc p) = get-drop ys p

drop-one-suc : {X : Type 0} (xs : List X) (p : ℕ) → drop (suc p) xs ≡ drop 1 (drop p xs)
drop-one-suc [] zero = refl
drop-one-suc [] (suc p) = refl
drop-one-suc (y ∷ ys) zero = refl
drop-one-suc (y ∷ ys) (suc p) = drop-one-suc ys p

drop-one : {X : Type 0} (xs : List X) (p : ℕ) → drop (p + 1) xs ≡ drop 1 (drop p xs)
drop-one xs p = ap (λ n. drop n xs) (sym (next-is p)) ∙ drop-one-suc xs p

drop-set-suc : {X : Type 0} (xs : List X) (p : ℕ) (x : X) → drop (suc p) (set xs p x) ≡ drop (suc p) xs
drop-set-suc [] p x = refl
drop-set-suc (y ∷ ys) zero x = refl
drop-set-suc (y ∷ ys) (suc p) x = drop-set-suc ys p x

drop-set : {X : Type 0} (xs : List X) (p : ℕ) (x : X) → drop (p + 1) (set xs p x) ≡ drop (p + 1) xs
drop-set xs p x = ap (λ n. drop n (set xs p x)) (sym (next-is p)) ∙ (drop-set-suc xs p x ∙ ap (λ n. drop n xs) (next-is p))

pub same-later : {X : Type 0} (xs ys : List X) (p : ℕ) (x : X) → drop p xs ≡ drop p ys → drop (p + 1) (set xs p x) ≡ drop (p + 1) ys
same-later xs ys p x h = drop-set xs p x ∙ (drop-one xs p ∙ (ap (drop 1) h ∙ sym (drop-one ys p)))

inside : {X : Type 0} (xs ys : List X) (p : ℕ) → drop p xs ≡ drop p ys → p < length ys → p < length xs
inside xs ys p h l =
    let a : length (drop p xs) ≡ length xs - p = length-drop p xs in
    let b : length (drop p ys) ≡ length ys - p = length-drop p ys in
    let e : length (drop p xs) ≡ length (drop p ys) = ap (λ z. length z) h in
    omega (arith, a, b, e)

pub taken-at : {X : Type 0} (xs ys : List X) (p : ℕ) (r o : X) → drop p xs ≡ drop p ys → p < length ys → r ≡ get_or xs p r → o ≡ r → slice_get ys p ≡ Some o
taken-at xs ys p r o h l is same =
    get-drop ys p ∙ (ap (λ z. slice_get z 0) (sym h) ∙ (sym (get-drop xs p) ∙ (slice_get-get_or xs p r (inside xs ys p h l) ∙ ap (λ x. Some x) (sym is ∙ sym same))))

pub mapped-at : (all : List (Option Entry)) (list : List Entry) (p : ℕ) (x : Entry) → all ≡ map Some list → slice_get all p ≡ Some (Some x) → slice_get list p ≡ Some x
mapped-at all list p x e at =
    let h = get-unmapped Some list p (Some x) (subst (λ (l : List (Option Entry)). slice_get l p ≡ Some (Some x)) e at) in
    h.1 ∙ ap (λ (y : Entry). Some y) (same_Some h.0 x h.2)

pub mapped-none : (all : List (Option Entry)) (list : List Entry) (p : ℕ) → all ≡ map Some list → slice_get all p ≡ Some None → ⊥
mapped-none all list p e at =
    let h = get-unmapped Some list p None (subst (λ (l : List (Option Entry)). slice_get l p ≡ Some None) e at) in
    let f : Some h.0 ≡ None = h.2 in cc

pub keep-none : (before list : List Entry) → before ≡ before ++ take 0 list
keep-none before list = sym (append-none before)

take-next : {X : Type 0} (xs : List X) (p : ℕ) (x : X) → slice_get xs p ≡ Some x → take (p + 1) xs ≡ take p xs ++ x ∷ []
take-next xs p x at = ap (λ n. take n xs) (sym (next-is p)) ∙ more xs p x at
  where
    more : {X : Type 0} (ys : List X) (q : ℕ) (y : X) → slice_get ys q ≡ Some y → take (suc q) ys ≡ take q ys ++ y ∷ []
    more [] q y h = cc
    more (z ∷ ys) zero y h = ap (λ w. w ∷ []) (same_Some z y h)
    more (z ∷ ys) (suc q) y h = ap (λ l. z ∷ l) (more ys q y h)

pub keep-next : (before list : List Entry) (p : ℕ) (x : Entry) (now next : List Entry) → slice_get list p ≡ Some x → now ≡ before ++ take p list → next ≡ now ++ x ∷ [] → next ≡ before ++ take (p + 1) list
keep-next before list p x now next at is put =
    put ∙ (ap (λ (l : List Entry). l ++ x ∷ []) is ∙ (append_assoc before (take p list) (x ∷ []) ∙ ap (λ (l : List Entry). before ++ l) (sym (take-next list p x at))))

pub take-whole : (all : List (Option Entry)) (list : List Entry) (p : ℕ) → all ≡ map Some list → length all ≤ p → take p list ≡ list
take-whole all list p e l =
    let a : length all ≡ length list = ap (λ (x : List (Option Entry)). length x) e ∙ length-map list Some in
    take-more p list (omega (arith, a, l))
