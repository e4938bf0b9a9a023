-- One file that is replaced, step by step.
use Rattle.std.proofs.Common.{◌≡◌, ◌≢◌, ◌⊎◌, inl, inr, ℕ, ◌≤◌, List, Option, Some, None, Result, Ok, Err, refl, ap, sym, ◌∙◌, subst, take, length, option_map, codes, arith}
use Rattle.std.proofs.lemmas.List.{take_all}
use Rattle.gv_base.specs.declared.fault.Denied.{Denied}
use Rattle.gv_base.specs.Files.{Entry, file_at}
use Rattle.gv_base.specs.Keepers.{LeavesKept, IsKept}
use Rattle.disk.specs.Held.{beside, IsSame, Tells, OthersStay, Writes, IsMoved, Moves, Replaces, IsFrontOf}
use Rattle.disk.specs.Kept.{kept_in}

abbrev pub Change : Type 1
Change = List Entry → List Entry → Type 0

-- one step, said otherwise
pub tells-as : (a b : Option (List Entry)) (R T : Change) → Tells a b R → ((x y : List Entry) → R x y → T x y) → Tells a b T
tells-as None b R T h turn = h
tells-as (Some a) None R T h turn = h
tells-as (Some a) (Some b) R T h turn = turn a b h

-- nothing happened
pub tells-same : (a b : Option (List Entry)) (T : Change) → b ≡ a → ((x : List Entry) → T x x) → Tells a b T
tells-same None b T e same = e
tells-same (Some a) b T e same = let P : Option (List Entry) → Type 0 = λ z. Tells (Some a) z T in subst P (sym e) (same a)

-- two steps
pub tells-then : (a b c : Option (List Entry)) (R S T : Change) → Tells a b R → Tells b c S → ((x y z : List Entry) → R x y → S y z → T x z) → Tells a c T
tells-then None None c R S T h k both = k
tells-then None (Some b) c R S T h k both = absurd (let f : ◌≡◌ {A = Option (List Entry)} None (Some b) = sym h in cc)
tells-then (Some a) None c R S T h k both = absurd h
tells-then (Some a) (Some b) None R S T h k both = absurd k
tells-then (Some a) (Some b) (Some c) R S T h k both = both a b c h k

-- nothing was written that counts, and what is left beside was taken away
pub given-up : (path other bytes : List ℕ) (e f : Denied) → other ≡ beside path → other ≢ path → (x y z : List Entry) → Writes other bytes (Err e) x y → OthersStay y z other → Replaces path bytes (Err f) x z
given-up path other bytes e f o apart x y z w d = record {
  others = λ q p b. (let n : q ≡ other → ⊥ = λ s. b (s ∙ o) in d q n ∙ w.others q n);
  done = tt;
  denied = inl (let n : path ≡ other → ⊥ = λ s. apart (sym s) in d path n ∙ w.others path n);
}

-- written, and moved
pub moved : (path other bytes : List ℕ) → other ≡ beside path → other ≢ path → (x y z : List Entry) → Writes other bytes (Ok tt) x y → IsMoved other path y z → Replaces path bytes (Ok tt) x z
moved path other bytes o apart x y z w m = record {
  others = λ q p b. (let n : q ≡ other → ⊥ = λ s. b (s ∙ o) in m.others q p n ∙ w.others q n);
  done = m.here ∙ w.done;
  denied = tt;
}

-- written, and not moved, or moved all the same
pub unmoved : (path other bytes : List ℕ) (e : Denied) → other ≡ beside path → other ≢ path → (x y z : List Entry) → Writes other bytes (Ok tt) x y → Moves other path (Err e) y z → Replaces path bytes (Err e) x z
unmoved path other bytes e o apart x y z w (inl same) = record {
  others = λ q p b. (let n : q ≡ other → ⊥ = λ s. b (s ∙ o) in same q ∙ w.others q n);
  done = tt;
  denied = inl (let n : path ≡ other → ⊥ = λ s. apart (sym s) in same path ∙ w.others path n);
}
unmoved path other bytes e o apart x y z w (inr m) = record {
  others = λ q p b. (let n : q ≡ other → ⊥ = λ s. b (s ∙ o) in m.others q p n ∙ w.others q n);
  done = tt;
  denied = inr (m.here ∙ w.done);
}

-- what is left beside was taken away
pub tidied : (path other bytes : List ℕ) (e : Denied) → other ≡ beside path → other ≢ path → (x y z : List Entry) → Replaces path bytes (Err e) x y → OthersStay y z other → Replaces path bytes (Err e) x z
tidied path other bytes e o apart x y z r d =
    let here : file_at z path ≡ file_at y path = d path (λ s. apart (sym s)) in
    record {
      others = λ q p b. d q (λ s. b (s ∙ o)) ∙ r.others q p b;
      done = tt;
      denied = elim r.denied [ inl k ↦ inl (here ∙ k) | inr k ↦ inr (here ∙ k) ];
    }

-- nothing happened
pub kept-all : (path bytes : List ℕ) (e : Denied) (x : List Entry) → Replaces path bytes (Err e) x x
kept-all path bytes e x = record { others = λ q p b. refl; done = tt; denied = inl refl }

-- what a keeper shows of it
short-front : (bytes : List ℕ) → length bytes ≤ 1073741824 → take 1073741825 bytes ≡ bytes
short-front bytes h = take_all 1073741825 bytes (omega (arith, h))

pub stored : (a b : Option (List Entry)) (r : Result (Unit {0}) Denied) (bytes : List ℕ) → length bytes ≤ 1073741824 → Tells a b (Replaces (codes ".gvet-cache") bytes r) → LeavesKept (option_map kept_in a) (option_map kept_in b) r bytes
stored None b r bytes h t = ap (option_map kept_in) t
stored (Some a) None r bytes h t = absurd t
stored (Some a) (Some b) (Ok done) bytes h t = ap (option_map (λ z. take 1073741825 z)) t.done ∙ ap Some (short-front bytes h)
stored (Some a) (Some b) (Err e) bytes h t = elim t.denied [ inl k ↦ inl (ap (option_map (λ z. take 1073741825 z)) k) | inr k ↦ inr (ap (option_map (λ z. take 1073741825 z)) k ∙ ap Some (short-front bytes h)) ]

-- what was fetched
pub fetched-is : (held : Option (List Entry)) (got : Option (List ℕ)) → IsFrontOf held (codes ".gvet-cache") 1073741825 got → IsKept (option_map kept_in held) got
fetched-is None got h = tt
fetched-is (Some files) got h = h

-- what is left doesn't hang on why it was denied
pub denied-leaves : (a b : Option (Option (List ℕ))) (e f : Denied) (bytes : List ℕ) → LeavesKept a b (Err e) bytes → LeavesKept a b (Err f) bytes
denied-leaves None b e f bytes h = h
denied-leaves (Some a) None e f bytes h = h
denied-leaves (Some a) (Some b) e f bytes h = h
