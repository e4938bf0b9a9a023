-- Names of nodes and their numbers.
use Rattle.std.proofs.Common.{◌≡◌, ℕ, zero, suc, ◌+◌, ◌<◌, ◌≤◌, ◌⊎◌, List, [], ◌∷◌, ◌++◌, get_or, slice_get, map, Option, Some, None, length, refl, sym, ap, ◌∙◌, subst, arith, inl, inr, length-append}
use Rattle.std.proofs.lemmas.Bool.{lt-ltb, ltb-true}
use Rattle.std.proofs.lemmas.Option.{slice_get-get_or}
use Rattle.scopes.specs.declared.scope.Named.{Named}
use Rattle.scopes.specs.declared.visible.Declaration.{Declaration}
use Rattle.scopes.specs.declared.visible.Use.{Use}
use Rattle.scopes.specs.Denotes.{IsRefused, HasRegion, Denotes, Answers, IsLaid, HasNames, AreUses, AreAnswered}
use Rattle.scopes.specs.Laid.{AreLaid, numbered}
use Rattle.file_uses.specs.Locals.{IsKnown, IsLocal, DenotesLocal, LocalAnswer, AreAll}
use Rattle.file_uses.specs.Numbers.{number, IsNumbering}

abbrev pub by_number : List ℕ → ℕ → List Named → List Declaration
by_number numbers total ds = map (numbered (number numbers) total) ds

pub get_map : (g : Named → Declaration) (ds : List Named) (k : ℕ) (d : Named) → slice_get ds k ≡ Some d → slice_get (map g ds) k ≡ Some (g d)
get_map g [] k d e = absurd (cc)
get_map g (x ∷ ds) zero d e = ap (λ y. Some (g y)) (it x d e) where
  it : (x d : Named) → Some x ≡ Some d → x ≡ d
  it x d e = cc
get_map g (x ∷ ds) (suc k) d e = get_map g ds k d e

pub get_unmap : (g : Named → Declaration) (ds : List Named) (k : ℕ) (e : Declaration) → slice_get (map g ds) k ≡ Some e → (d : Named) × (slice_get ds k ≡ Some d) × (g d ≡ e)
get_unmap g [] k e is = absurd (cc)
get_unmap g (x ∷ ds) zero e is = (x, refl, it (g x) e is) where
  it : (x d : Declaration) → Some x ≡ Some d → x ≡ d
  it x d e = cc
get_unmap g (x ∷ ds) (suc k) e is = get_unmap g ds k e is

pub laid_numbers : (numbers : List ℕ) (total : ℕ) (ds : List Named) → AreLaid ds → IsLaid (by_number numbers total ds)
laid_numbers numbers total ds laid j k a b low is_a is_b =
    let g = numbered (number numbers) total in
    let (d, there_d, d_is) = get_unmap g ds j a is_a in
    let (e, there_e, e_is) = get_unmap g ds k b is_b in
    let lies = laid j k d e low there_d there_e in
    let s_d : a.start ≡ d.start = ap (λ (x : Declaration). x.start) (sym d_is) in
    let e_d : a.end ≡ d.end = ap (λ (x : Declaration). x.end) (sym d_is) in
    let s_e : b.start ≡ e.start = ap (λ (x : Declaration). x.start) (sym e_is) in
    let e_e : b.end ≡ e.end = ap (λ (x : Declaration). x.end) (sym e_is) in
    let ordered = lies.0 in (
      omega arith,
      elim lies.1 [
        | inl same ↦ inl (omega arith)
        | inr other ↦ elim other [
          | inl apart ↦ inr (inl (omega arith))
          | inr inner ↦ inr (inr (omega arith, omega arith))
        ]
      ],
    )

pub names_below : (numbers : List ℕ) (total count : ℕ) (ds : List Named) → ((k : ℕ) → number numbers k < count) → HasNames (by_number numbers total ds) count
names_below numbers total count ds below k a is =
    let (d, there, d_is) = get_unmap (numbered (number numbers) total) ds k a is in
    subst (λ (x : Declaration). x.name < count) d_is (below d.node)

pub uses_below : (numbers : List ℕ) (count : ℕ) (uses : List Use) → ((k : ℕ) → number numbers k < count) → AreAll numbers uses → AreUses uses count
uses_below numbers count uses below all = (
  (λ k u is. subst (λ (x : ℕ). x < count) (sym (all.1 k u is).0) (below k)),
  (λ j k u v low is_u is_v. let a = (all.1 j u is_u).1 in let b = (all.1 k v is_v).1 in omega arith),
)

-- ---- a declaration by its name, and by its number

pub to_refused : (name : ℕ → Option (List ℕ)) (total count : ℕ) (numbers : List ℕ) → IsNumbering name total numbers count → (ds : List Named) (k : ℕ) (d : Named)
    → IsKnown name ds k d → IsRefused (by_number numbers total ds) k (numbered (number numbers) total d)
to_refused name total count numbers is ds k d (j, e, low, there, block, same) =
    (j, numbered (number numbers) total e, low, get_map (numbered (number numbers) total) ds j e there, block, (is.same e.node d.node).1 same)

pub from_refused : (name : ℕ → Option (List ℕ)) (total count : ℕ) (numbers : List ℕ) → IsNumbering name total numbers count → (ds : List Named) (k : ℕ) (d : Named)
    → IsRefused (by_number numbers total ds) k (numbered (number numbers) total d) → IsKnown name ds k d
from_refused name total count numbers is ds k d (j, a, low, there, block, same) =
    let (e, there_e, e_is) = get_unmap (numbered (number numbers) total) ds j a there in
    (j, e, low, there_e, ap (λ (x : Declaration). x.end) e_is ∙ block, (is.same e.node d.node).0 (ap (λ (x : Declaration). x.name) e_is ∙ same))

to_region : (name : ℕ → Option (List ℕ)) (total count : ℕ) (numbers : List ℕ) → IsNumbering name total numbers count → (ds : List Named) (k : ℕ) (d : Named)
    → IsLocal name total ds k d → HasRegion (by_number numbers total ds) k (numbered (number numbers) total d)
to_region name total count numbers is ds k d (there, first, low) =
    (get_map (numbered (number numbers) total) ds k d there, (λ refused. first (from_refused name total count numbers is ds k d refused)), lt-ltb d.end total low)

from_region : (name : ℕ → Option (List ℕ)) (total count : ℕ) (numbers : List ℕ) → IsNumbering name total numbers count → (ds : List Named) (k : ℕ) (a : Declaration)
    → HasRegion (by_number numbers total ds) k a → (d : Named) × (numbered (number numbers) total d ≡ a) × IsLocal name total ds k d
from_region name total count numbers is ds k a (there, first, local) =
    let (d, there_d, d_is) = get_unmap (numbered (number numbers) total) ds k a there in (
      d,
      d_is,
      (
        there_d,
        (λ known. first (subst (λ (x : Declaration). IsRefused (by_number numbers total ds) k x) d_is (to_refused name total count numbers is ds k d known))),
        ltb-true d.end total (ap (λ (x : Declaration). x.local) d_is ∙ local),
      ),
    )

use_at : List ℕ → ℕ → Use
use_at numbers n = record { name = number numbers n; at = n }

pub from_denotes : (name : ℕ → Option (List ℕ)) (total count : ℕ) (numbers : List ℕ) → IsNumbering name total numbers count → (ds : List Named) (n k : ℕ) (u : Use)
    → u.name ≡ number numbers n → u.at ≡ n → Denotes (by_number numbers total ds) u k → DenotesLocal name total ds n k
from_denotes name total count numbers is ds n k u u_name u_at a = of_region (from_region name total count numbers is ds k a.d a.region) where
  of_region : (d : Named) × (numbered (number numbers) total d ≡ a.d) × IsLocal name total ds k d → DenotesLocal name total ds n k
  of_region (d, d_is, local) =
      let start_is : d.start ≡ a.d.start = ap (λ (x : Declaration). x.start) d_is in
      let end_is : d.end ≡ a.d.end = ap (λ (x : Declaration). x.end) d_is in
      record {
        d = d;
        region = local;
        named = (is.same d.node n).0 (ap (λ (x : Declaration). x.name) d_is ∙ (a.named ∙ u_name));
        holds = (let h = a.holds.0 in omega arith, let h = a.holds.1 in omega arith);
        smallest = λ j e other same holds.
            let w = a.smallest j (numbered (number numbers) total e) (to_region name total count numbers is ds j e other) ((is.same e.node n).1 same ∙ sym u_name)
            (let h = holds.0 in omega arith, let h = holds.1 in omega arith) in
            (let x = w.0 in omega arith, let x = w.1 in omega arith);
      }

pub to_denotes : (name : ℕ → Option (List ℕ)) (total count : ℕ) (numbers : List ℕ) → IsNumbering name total numbers count → (ds : List Named) (n k : ℕ) (u : Use)
    → u.name ≡ number numbers n → u.at ≡ n → DenotesLocal name total ds n k → Denotes (by_number numbers total ds) u k
to_denotes name total count numbers is ds n k u u_name u_at a = record {
  d = numbered (number numbers) total a.d;
  region = to_region name total count numbers is ds k a.d a.region;
  named = (is.same a.d.node n).1 a.named ∙ sym u_name;
  holds = (let h = a.holds.0 in omega arith, let h = a.holds.1 in omega arith);
  smallest = λ j b other same holds. of_other j b (from_region name total count numbers is ds j b other) same holds;
} where
  of_other : (j : ℕ) (b : Declaration) → (e : Named) × (numbered (number numbers) total e ≡ b) × IsLocal name total ds j e → b.name ≡ u.name → (b.start ≤ u.at) × (u.at < b.end)
      → (b.start ≤ a.d.start) × (a.d.end ≤ b.end)
  of_other j b (e, e_is, local) same holds =
      let start_is : e.start ≡ b.start = ap (λ (x : Declaration). x.start) e_is in
      let end_is : e.end ≡ b.end = ap (λ (x : Declaration). x.end) e_is in
      let w = a.smallest j e local ((is.same e.node n).0 (ap (λ (x : Declaration). x.name) e_is ∙ (same ∙ u_name))) (let h = holds.0 in omega arith, let h = holds.1 in omega arith) in
      (let x = w.0 in omega arith, let x = w.1 in omega arith)

pub answered : (name : ℕ → Option (List ℕ)) (total count : ℕ) (numbers : List ℕ) → IsNumbering name total numbers count → (ds : List Named) (n : ℕ) (u : Use) (answer : Option ℕ)
    → u.name ≡ number numbers n → u.at ≡ n → Answers (by_number numbers total ds) u answer → LocalAnswer name total ds n answer
answered name total count numbers is ds n u (Some k) u_name u_at a = from_denotes name total count numbers is ds n k u u_name u_at a
answered name total count numbers is ds n u None u_name u_at a = λ k local. a k (to_denotes name total count numbers is ds n k u u_name u_at local)

there_at : (uses : List Use) (n : ℕ) → n < length uses → (u : Use) × (slice_get uses n ≡ Some u)
there_at [] n h = absurd (omega arith)
there_at (u ∷ uses) n h = (get_or (u ∷ uses) n u, slice_get-get_or (u ∷ uses) n u h)

pub all_answers : (name : ℕ → Option (List ℕ)) (total count : ℕ) (numbers : List ℕ) → IsNumbering name total numbers count → (ds : List Named) (uses : List Use) (answers : List (Option ℕ))
    → AreAll numbers uses → AreAnswered (by_number numbers total ds) uses answers → (n : ℕ) → n < length numbers → LocalAnswer name total ds n (get_or answers n None)
all_answers name total count numbers is ds uses answers all are n low =
    let (u, there) = there_at uses n (let e = all.0 in omega arith) in
    let it = all.1 n u there in
    answered name total count numbers is ds n u (get_or answers n None) it.0 it.1 (are.1 n u there)

-- ---- a use for each node

-- uses for the first few nodes
abbrev pub AreFirst : List ℕ → ℕ → List Use → Type 0
AreFirst numbers i uses = (length uses ≡ i) × ((k : ℕ) (u : Use) → slice_get uses k ≡ Some u → (u.name ≡ get_or numbers k 0) × (u.at ≡ k))

pub no_uses : (numbers : List ℕ) → AreFirst numbers 0 []
no_uses numbers = (refl, λ k u is. absurd (cc))

last_or_before : (uses : List Use) (x u : Use) (k : ℕ) → slice_get (uses ++ x ∷ []) k ≡ Some u → (slice_get uses k ≡ Some u) ⊎ ((k ≡ length uses) × (x ≡ u))
last_or_before [] x u zero e = inr (refl, it x u e) where
  it : (x u : Use) → Some x ≡ Some u → x ≡ u
  it x u e = cc
last_or_before [] x u (suc k) e = absurd (cc)
last_or_before (y ∷ uses) x u zero e = inl e
last_or_before (y ∷ uses) x u (suc k) e = elim (last_or_before uses x u k e) [ inl before ↦ inl before | inr last ↦ inr (ap (λ n. suc n) last.0, last.1) ]

pub one_use_more : (numbers : List ℕ) (i : ℕ) (uses : List Use) (x : Use) → AreFirst numbers i uses → x.name ≡ get_or numbers i 0 → x.at ≡ i → AreFirst numbers (i + 1) (uses ++ x ∷ [])
one_use_more numbers i uses x was name at = (
  let l = length-append uses (x ∷ []) in let s = was.0 in omega arith,
  λ k u is. elim (last_or_before uses x u k is) [
    | inl before ↦ was.1 k u before
    | inr last ↦
        let here : k ≡ i = last.0 ∙ was.0 in
        (ap (λ (y : Use). y.name) (sym last.1) ∙ (name ∙ ap (λ n. get_or numbers n 0) (sym here)), ap (λ (y : Use). y.at) (sym last.1) ∙ (at ∙ sym here))
  ],
)

pub all_first : (numbers : List ℕ) (i : ℕ) (uses : List Use) → length numbers ≤ i → i ≤ length numbers → AreFirst numbers i uses → AreAll numbers uses
all_first numbers i uses end within was = (let s = was.0 in omega arith, was.1)
