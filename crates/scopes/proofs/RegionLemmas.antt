-- The regions of trees' names lie apart or within one another.
use Rattle.std.proofs.Common.{◌≡◌, ℕ, zero, suc, ◌<◌, ◌+◌, ◌≤◌, ◌⊎◌, Bool, true, false, cond, List, [], ◌∷◌, ◌++◌, slice_get, Some, refl, sym, ◌∙◌, subst, inl, inr, arith}
use Rattle.scopes.specs.declared.scope.Named.{Named}
use Rattle.go_tree.specs.Arena.{size}
use Rattle.go_tree.specs.Forest.{Forest, Empty, Grow}
use Rattle.scopes.specs.Roles.{role}
use Rattle.scopes.specs.Regions.{Scope, declared, declare, inside, before, after, is_soft}
use Rattle.scopes.specs.Laid.{Lies, AreLaid}

abbrev Every : (Named → Type 0) → List Named → Type 0
Every P [] = Unit {0}
Every P (d ∷ ds) = P d × Every P ds

abbrev Pairs : List Named → Type 0
Pairs [] = Unit {0}
Pairs (d ∷ ds) = Every (Lies d) ds × Pairs ds

-- the region begins between lo and hi, and is one of the block, or of a block within
record Placed (block lo hi : ℕ) (d : Named) : Type 0 where
  low : lo ≤ d.start
  high : d.start ≤ hi
  where_it_is : (d.end ≡ block) ⊎ (d.end < hi)

record Sits (block lo hi : ℕ) (ds : List Named) : Type 0 where
  ordered : lo ≤ hi
  placed : Every (Placed block lo hi) ds
  pairs : Pairs ds

every_append : (P : Named → Type 0) (xs ys : List Named) → Every P xs → Every P ys → Every P (xs ++ ys)
every_append P [] ys p q = q
every_append P (x ∷ xs) ys p q = (p.0, every_append P xs ys p.1 q)

every_map : (P Q : Named → Type 0) (xs : List Named) → ((d : Named) → P d → Q d) → Every P xs → Every Q xs
every_map P Q [] f p = tt
every_map P Q (x ∷ xs) f p = (f x p.0, every_map P Q xs f p.1)

pairs_append : (P Q : Named → Type 0) (xs ys : List Named) → ((d e : Named) → P d → Q e → Lies d e) → Every P xs → Every Q ys → Pairs xs → Pairs ys → Pairs (xs ++ ys)
pairs_append P Q [] ys cross p q a b = b
pairs_append P Q (x ∷ xs) ys cross p q a b =
    (every_append (Lies x) xs ys a.0 (every_map Q (Lies x) ys (λ e is. cross x e p.0 is) q), pairs_append P Q xs ys cross p.1 q a.1 b)

across : (block lo mid hi : ℕ) → hi ≤ block → (d e : Named) → Placed block lo mid d → Placed block mid hi e → Lies d e
across block lo mid hi within d e p q = (
  let a = p.high in let b = q.low in omega arith,
  elim p.where_it_is [
    | inr ended ↦ inr (inl (let b = q.low in omega arith))
    | inl same ↦ elim q.where_it_is [
      | inl other ↦ inl (same ∙ sym other)
      | inr ended ↦ inr (inr (omega arith))
    ]
  ],
)

wider : (block lo hi lower higher : ℕ) → lower ≤ lo → hi ≤ higher → (d : Named) → Placed block lo hi d → Placed block lower higher d
wider block lo hi lower higher below above d p = record {
  low = (let a = p.low in omega arith);
  high = (let a = p.high in omega arith);
  where_it_is = elim p.where_it_is [ inl direct ↦ inl direct | inr ended ↦ inr (omega arith) ];
}

sits_join : (block lo mid hi : ℕ) (xs ys : List Named) → hi ≤ block → Sits block lo mid xs → Sits block mid hi ys → Sits block lo hi (xs ++ ys)
sits_join block lo mid hi xs ys within a b = record {
  ordered = (let o = a.ordered in let p = b.ordered in omega arith);
  placed = every_append (Placed block lo hi) xs ys
      (every_map (Placed block lo mid) (Placed block lo hi) xs (wider block lo mid lo hi (omega arith) b.ordered) a.placed)
      (every_map (Placed block mid hi) (Placed block lo hi) ys (wider block mid hi lo hi a.ordered (omega arith)) b.placed);
  pairs = pairs_append (Placed block lo mid) (Placed block mid hi) xs ys (across block lo mid hi within) a.placed b.placed a.pairs b.pairs;
}

-- names declared at one place
sits_declared : (block start : ℕ) (soft : Bool) (names : List ℕ) → Sits block start start (declare start block soft names)
sits_declared block start soft names = record { ordered = omega arith; placed = places names; pairs = pairs_of names } where
  places : (names : List ℕ) → Every (Placed block start start) (declare start block soft names)
  places [] = tt
  places (n ∷ ns) = (record { low = omega arith; high = omega arith; where_it_is = inl refl }, places ns)

  lie : (n : ℕ) (ns : List ℕ) → Every (Lies (record { node = n; start = start; «end» = block; soft = soft })) (declare start block soft ns)
  lie n [] = tt
  lie n (m ∷ ns) = ((omega arith, inl refl), lie n ns)

  pairs_of : (names : List ℕ) → Pairs (declare start block soft names)
  pairs_of [] = tt
  pairs_of (n ∷ ns) = (lie n ns, pairs_of ns)

-- what stands among the parts of a node stands in the node
sits_node : (opens : Bool) (block lo hi : ℕ) (xs : List Named) → Sits (cond opens hi block) lo hi xs → Sits block lo (suc hi) xs
sits_node true block lo hi xs a = record {
  ordered = (let o = a.ordered in omega arith);
  placed = every_map (Placed hi lo hi) (Placed block lo (suc hi)) xs (λ d p. record {
    low = p.low;
    high = (let h = p.high in omega arith);
    where_it_is = inr (elim p.where_it_is [ inl direct ↦ omega arith | inr ended ↦ omega arith ]);
  }) a.placed;
  pairs = a.pairs;
}
sits_node false block lo hi xs a = record {
  ordered = (let o = a.ordered in omega arith);
  placed = every_map (Placed block lo hi) (Placed block lo (suc hi)) xs (wider block lo hi lo (suc hi) (omega arith) (omega arith)) a.placed;
  pairs = a.pairs;
}

fits_inside : (opens : Bool) (block hi : ℕ) → suc hi ≤ block → hi ≤ cond opens hi block
fits_inside true block hi h = omega arith
fits_inside false block hi h = omega arith

sits_high : (block lo hi other : ℕ) (xs : List Named) → hi ≡ other → Sits block lo hi xs → Sits block lo other xs
sits_high block lo hi other xs e a = subst (λ (x : ℕ). Sits block lo x xs) e a

after_node : (m a : ℕ) → m + suc a ≡ suc (m + a)
after_node m a = omega arith

sits : (s : Scope) (m : ℕ) (f : Forest) → m + size f ≤ s.block → Sits s.block m (m + size f) (declared s m f)
sits s m Empty h = record { ordered = omega arith; placed = tt; pairs = tt }
sits s m (Grow k a z ps rest) h =
    let next = m + suc (size ps) in
    let ends : suc (m + size ps) ≤ s.block = omega arith in
    let inner = inside s k m ps in
    let taken_around = cond (role k).takes s.around [] in
    let taken_within = cond (role k).takes s.within [] in
    let begun = before (role k).declares m ps in
    let ended = after (role k).declares m ps in
    let fits = fits_inside (role k).opens s.block (m + size ps) ends in
    let low : m + size ps ≤ inner.block = fits in
    let parts = sits_join inner.block m m (m + size ps) _ _ low (sits_declared inner.block m false taken_within) (sits inner m ps low) in
    let own = sits_node (role k).opens s.block m (m + size ps) _ parts in
    let named = sits_join s.block m m (suc (m + size ps)) _ _ ends (sits_declared s.block m false begun) own in
    let given = sits_join s.block m m (suc (m + size ps)) _ _ ends (sits_declared s.block m false taken_around) named in
    let given_next = sits_high s.block m (suc (m + size ps)) next _ (sym (after_node m (size ps))) given in
    let up : next ≤ s.block = omega arith in
    let node = sits_join s.block m next next _ _ up given_next (sits_declared s.block next (is_soft (role k).declares) ended) in
    let others : Sits s.block next (next + size rest) (declared s next rest) = sits s next rest (omega arith) in
    let whole = sits_join s.block m next (next + size rest) _ _ (omega arith) node others in
    sits_high s.block m (next + size rest) (m + (size ps + suc (size rest))) _ (the_size m (size ps) (size rest)) whole where
      the_size : (m a b : ℕ) → (m + suc a) + b ≡ m + (a + suc b)
      the_size m a b = omega arith

some_is : (x d : Named) → Some x ≡ Some d → x ≡ d
some_is x d e = cc

every_at : (P : Named → Type 0) (xs : List Named) (k : ℕ) (d : Named) → Every P xs → slice_get xs k ≡ Some d → P d
every_at P [] k d p is = absurd (cc)
every_at P (x ∷ xs) zero d p is = subst P (some_is x d is) p.0
every_at P (x ∷ xs) (suc k) d p is = every_at P xs k d p.1 is

laid_pairs : (xs : List Named) → Pairs xs → AreLaid xs
laid_pairs [] p j k d e low is_d is_e = absurd (cc)
laid_pairs (x ∷ xs) p zero zero d e low is_d is_e = absurd (omega arith)
laid_pairs (x ∷ xs) p zero (suc k) d e low is_d is_e = every_at (Lies d) xs k e (subst (λ (y : Named). Every (Lies y) xs) (some_is x d is_d) p.0) is_e
laid_pairs (x ∷ xs) p (suc j) zero d e low is_d is_e = absurd (omega arith)
laid_pairs (x ∷ xs) p (suc j) (suc k) d e low is_d is_e = laid_pairs xs p.1 j k d e (omega arith) is_d is_e

pub laid : (s : Scope) (m : ℕ) (f : Forest) → m + size f ≤ s.block → AreLaid (declared s m f)
laid s m f h = laid_pairs (declared s m f) (sits s m f h).pairs
