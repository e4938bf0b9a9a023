-- Names by number, as they are met.
use Rattle.std.proofs.Common.{◌≡◌, ℕ, zero, suc, ◌+◌, ◌<◌, ◌≤◌, ◌⊎◌, List, [], ◌∷◌, ◌++◌, Bool, true, false, if◌then◌else◌, get_or, slice_get, cond, option_map, option_and_then, Option, Some, None, unwrap_or, length, refl, sym, ap, ◌∙◌, arith, inl, inr, length-append}
use Rattle.std.specs.Bool.{Decides}
use Rattle.std.specs.Str.{bytes_eq}
use Rattle.std.proofs.lemmas.Slice.Eq.{bytes_eq-Decides}
use Rattle.std.proofs.Math.ListN.{get_or-append}
use Rattle.std.proofs.Math.Seq.{get_or-append_seam}
use Rattle.go_tree.specs.declared.tree.FileTree.{FileTree}
use Rattle.go_tree.specs.declared.tree.Node.{Node}
use Rattle.scopes.specs.Regions.{form_of, is_name}
use Rattle.go_tree.specs.Spelling.{text_of}
use Rattle.file_uses.specs.Numbers.{name_in, IsNumbered, IsNumbering}

-- the first few nodes are numbered
pub record Numbered (name : ℕ → Option (List ℕ)) (found : List ℕ → Option ℕ) (i next : ℕ) (numbers : List ℕ) : Type 0 where
  pub size : length numbers ≡ i
  pub some : 0 < next
  pub low : next ≤ i + 1
  pub no_name : (k : ℕ) → k < i → name k ≡ None → get_or numbers k 0 ≡ 0
  pub has : (k : ℕ) (t : List ℕ) → k < i → name k ≡ Some t → found t ≡ Some (get_or numbers k 0)
  pub range : (t : List ℕ) (n : ℕ) → found t ≡ Some n → (0 < n) × (n < next)
  pub one : (s t : List ℕ) (n : ℕ) → found s ≡ Some n → found t ≡ Some n → s ≡ t

same_number : (a b : ℕ) → Some a ≡ Some b → a ≡ b
same_number a b e = cc

pub begin : (name : ℕ → Option (List ℕ)) (found : List ℕ → Option ℕ) → ((q : List ℕ) → found q ≡ None) → Numbered name found 0 1 []
begin name found empty = record {
  size = refl;
  some = omega arith;
  low = omega arith;
  no_name = λ k low e. absurd (omega arith);
  has = λ k t low e. absurd (omega arith);
  range = λ t n e. absurd (let f : None ≡ Some n = sym (empty t) ∙ e in cc);
  one = λ s t n e g. absurd (let f : None ≡ Some n = sym (empty s) ∙ e in cc);
}

-- a name that has a number keeps it
kept : (old new : List ℕ → Option ℕ) (t : List ℕ) (m n next : ℕ) → old t ≡ Some m → n ≡ unwrap_or (old t) next → ((q : List ℕ) → new q ≡ (if bytes_eq t q then Some n else old q))
    → (n ≡ m) × ((q : List ℕ) → new q ≡ old q)
kept old new t m n next there is now = (number, λ q. at q (bytes_eq t q) refl (bytes_eq-Decides t q)) where
  number : n ≡ m
  number = is ∙ ap (λ o. unwrap_or o next) there

  at : (q : List ℕ) (same : Bool) → bytes_eq t q ≡ same → Decides same (t ≡ q) → new q ≡ old q
  at q true e d = now q ∙ (ap (λ b. if b then Some n else old q) e ∙ (ap (λ x. Some x) number ∙ (sym there ∙ ap old (d.0 refl))))
  at q false e d = now q ∙ ap (λ b. if b then Some n else old q) e

-- a new name has the next number, and the others keep theirs
fresh : (old new : List ℕ → Option ℕ) (t : List ℕ) (n next : ℕ) → old t ≡ None → n ≡ unwrap_or (old t) next → ((q : List ℕ) → new q ≡ (if bytes_eq t q then Some n else old q))
    → (n ≡ next) × (new t ≡ Some next) × ((q : List ℕ) (m : ℕ) → old q ≡ Some m → new q ≡ Some m) × ((q : List ℕ) (m : ℕ) → new q ≡ Some m → (old q ≡ Some m) ⊎ ((t ≡ q) × (m ≡ next)))
fresh old new t n next absent is now = (number, itself (bytes_eq t t) refl (bytes_eq-Decides t t), λ q m e. others q m e (bytes_eq t q) refl (bytes_eq-Decides t q), λ q m e. cases q m e (bytes_eq t q) refl (bytes_eq-Decides t q)) where
  number : n ≡ next
  number = is ∙ ap (λ o. unwrap_or o next) absent

  itself : (same : Bool) → bytes_eq t t ≡ same → Decides same (t ≡ t) → new t ≡ Some next
  itself true e d = now t ∙ (ap (λ b. if b then Some n else old t) e ∙ ap (λ x. Some x) number)
  itself false e d = absurd (let no_way : false ≡ true = d.1 refl in cc)

  others : (q : List ℕ) (m : ℕ) → old q ≡ Some m → (same : Bool) → bytes_eq t q ≡ same → Decides same (t ≡ q) → new q ≡ Some m
  others q m e true f d = absurd (let no_way : None ≡ Some m = sym absent ∙ (ap old (d.0 refl) ∙ e) in cc)
  others q m e false f d = now q ∙ (ap (λ b. if b then Some n else old q) f ∙ e)

  cases : (q : List ℕ) (m : ℕ) → new q ≡ Some m → (same : Bool) → bytes_eq t q ≡ same → Decides same (t ≡ q) → (old q ≡ Some m) ⊎ ((t ≡ q) × (m ≡ next))
  cases q m e true f d = inr (d.0 refl, same_number m next (sym e ∙ (now q ∙ (ap (λ b. if b then Some n else old q) f ∙ ap (λ x. Some x) number))))
  cases q m e false f d = inl (sym (now q ∙ ap (λ b. if b then Some n else old q) f) ∙ e)

old_or_this : (i k : ℕ) → k < i + 1 → (k < i) ⊎ (k ≡ i)
old_or_this i k h = grind arith

get_old : (numbers : List ℕ) (n i k : ℕ) → length numbers ≡ i → k < i → get_or (numbers ++ n ∷ []) k 0 ≡ get_or numbers k 0
get_old numbers n i k size low = get_or-append numbers (n ∷ []) 0 k (omega arith)

get_new : (numbers : List ℕ) (n i k : ℕ) → length numbers ≡ i → k ≡ i → get_or (numbers ++ n ∷ []) k 0 ≡ n
get_new numbers n i k size here = ap (λ x. get_or (numbers ++ n ∷ []) x 0) (here ∙ sym size) ∙ get_or-append_seam numbers n [] 0

one_more : (numbers : List ℕ) (n i : ℕ) → length numbers ≡ i → length (numbers ++ n ∷ []) ≡ i + 1
one_more numbers n i e = let l = length-append numbers (n ∷ []) in omega arith

-- where the table stays
stays : (name : ℕ → Option (List ℕ)) (old new : List ℕ → Option ℕ) (i next later n : ℕ) (numbers : List ℕ) → Numbered name old i next numbers
    → ((q : List ℕ) → new q ≡ old q) → next ≤ later → later ≤ next + 1 → (name i ≡ None → n ≡ 0) → ((t : List ℕ) → name i ≡ Some t → old t ≡ Some n)
    → Numbered name new (i + 1) later (numbers ++ n ∷ [])
stays name old new i next later n numbers was same grows least zero_it this = record {
  size = one_more numbers n i was.size;
  some = (let s = was.some in omega arith);
  low = (let s = was.low in omega arith);
  no_name = λ k low e. elim (old_or_this i k low) [
    | inl before ↦ get_old numbers n i k was.size before ∙ was.no_name k before e
    | inr here ↦ get_new numbers n i k was.size here ∙ zero_it (ap name (sym here) ∙ e)
  ];
  has = λ k t low e. elim (old_or_this i k low) [
    | inl before ↦ same t ∙ (was.has k t before e ∙ ap (λ x. Some x) (sym (get_old numbers n i k was.size before)))
    | inr here ↦ same t ∙ (this t (ap name (sym here) ∙ e) ∙ ap (λ x. Some x) (sym (get_new numbers n i k was.size here)))
  ];
  range = λ t m e. let r = was.range t m (sym (same t) ∙ e) in (r.0, let s = r.1 in omega arith);
  one = λ s t m e f. was.one s t m (sym (same s) ∙ e) (sym (same t) ∙ f);
}

-- where a name is new
grows : (name : ℕ → Option (List ℕ)) (old new : List ℕ → Option ℕ) (i next later n : ℕ) (t : List ℕ) (numbers : List ℕ) → Numbered name old i next numbers → name i ≡ Some t
    → (n ≡ next) × (new t ≡ Some next) × ((q : List ℕ) (m : ℕ) → old q ≡ Some m → new q ≡ Some m) × ((q : List ℕ) (m : ℕ) → new q ≡ Some m → (old q ≡ Some m) ⊎ ((t ≡ q) × (m ≡ next)))
    → next < later → later ≤ next + 1 → Numbered name new (i + 1) later (numbers ++ n ∷ [])
grows name old new i next later n t numbers was is f more least = record {
  size = one_more numbers n i was.size;
  some = omega arith;
  low = (let s = was.low in omega arith);
  no_name = λ k low e. elim (old_or_this i k low) [
    | inl before ↦ get_old numbers n i k was.size before ∙ was.no_name k before e
    | inr here ↦ absurd (let no_way : Some t ≡ None = sym is ∙ (ap name (sym here) ∙ e) in cc)
  ];
  has = λ k s low e. elim (old_or_this i k low) [
    | inl before ↦ f.2 s (get_or numbers k 0) (was.has k s before e) ∙ ap (λ x. Some x) (sym (get_old numbers n i k was.size before))
    | inr here ↦ ap new (same_text s t (sym (ap name (sym here) ∙ e) ∙ is)) ∙ (f.1 ∙ ap (λ x. Some x) (sym f.0 ∙ sym (get_new numbers n i k was.size here)))
  ];
  range = λ s m e. elim (f.3 s m e) [
    | inl before ↦ (let r = was.range s m before in (r.0, let x = r.1 in omega arith))
    | inr itself ↦ (let z = was.some in let x = itself.1 in omega arith, let x = itself.1 in omega arith)
  ];
  one = λ s u m e g. elim (f.3 s m e) [
    | inl before ↦ elim (f.3 u m g) [
      | inl other ↦ was.one s u m before other
      | inr itself ↦ absurd (let r = (was.range s m before).1 in let x = itself.1 in omega arith)
    ]
    | inr this ↦ elim (f.3 u m g) [
      | inl other ↦ absurd (let r = (was.range u m other).1 in let x = this.1 in omega arith)
      | inr itself ↦ sym this.0 ∙ itself.0
    ]
  ];
} where
  same_text : (a b : List ℕ) → Some a ≡ Some b → a ≡ b
  same_text a b e = cc

pub step : (name : ℕ → Option (List ℕ)) (old new : List ℕ → Option ℕ) (i next later n : ℕ) (numbers : List ℕ) → Numbered name old i next numbers
    → IsNumbered (name i) old new next n → next ≤ later → (n ≤ next → n < later) → later ≤ next + 1 → Numbered name new (i + 1) later (numbers ++ n ∷ [])
step name old new i next later n numbers was is grow above least = of_name (name i) refl is where
  of_some : (t : List ℕ) (o : Option ℕ) → name i ≡ Some t → old t ≡ o → n ≡ unwrap_or (old t) next → ((q : List ℕ) → new q ≡ (if bytes_eq t q then Some n else old q)) → Numbered name new (i + 1) later (numbers ++ n ∷ [])
  of_some t (Some m) e there number now =
      let k = kept old new t m n next there number now in
      stays name old new i next later n numbers was k.1 grow least (λ no_it. absurd (let no_way : Some t ≡ None = sym e ∙ no_it in cc))
      (λ s f. ap old (same_text s t (sym f ∙ e)) ∙ (there ∙ ap (λ x. Some x) (sym k.0))) where
        same_text : (a b : List ℕ) → Some a ≡ Some b → a ≡ b
        same_text a b e = cc
  of_some t None e there number now =
      let f = fresh old new t n next there number now in
      let n_is : n ≡ next = f.0 in
      let more : next < later = (let a = above (omega arith) in omega arith) in
      grows name old new i next later n t numbers was e f more least

  of_name : (o : Option (List ℕ)) → name i ≡ o → IsNumbered o old new next n → Numbered name new (i + 1) later (numbers ++ n ∷ [])
  of_name None e it = stays name old new i next later n numbers was it.1 grow least (λ no_it. it.0) (λ t f. absurd (let no_way : None ≡ Some t = sym e ∙ f in cc))
  of_name (Some t) e it = of_some t (old t) e refl it.0 it.1

get_past : (xs : List ℕ) (k : ℕ) → length xs ≤ k → get_or xs k 0 ≡ 0
get_past [] k h = refl
get_past (x ∷ xs) zero h = absurd (omega arith)
get_past (x ∷ xs) (suc k) h = get_past xs k (omega arith)

in_or_out : (k i : ℕ) → (k < i) ⊎ (i ≤ k)
in_or_out k i = grind arith

-- all nodes are numbered
pub numbered : (name : ℕ → Option (List ℕ)) (found : List ℕ → Option ℕ) (i total next : ℕ) (numbers : List ℕ) → total ≤ i → i ≤ total → ((k : ℕ) → total ≤ k → name k ≡ None)
    → Numbered name found i next numbers → IsNumbering name total numbers next
numbered name found i total next numbers end within outside was = record {
  size = (let s = was.size in omega arith);
  below = λ k. below_at k (name k) refl;
  same = λ j k. (λ e. names j k e (name j) (name k) refl refl, λ e. nums j k (name j) refl (sym e));
} where
  zero_of : (k : ℕ) → name k ≡ None → get_or numbers k 0 ≡ 0
  zero_of k e = elim (in_or_out k i) [ inl low ↦ was.no_name k low e | inr high ↦ get_past numbers k (let s = was.size in omega arith) ]

  in_range : (k : ℕ) (t : List ℕ) → name k ≡ Some t → k < i
  in_range k t e = elim (in_or_out k i) [ inl low ↦ low | inr high ↦ absurd (let none_there : None ≡ Some t = sym (outside k (omega arith)) ∙ e in cc) ]

  below_at : (k : ℕ) (o : Option (List ℕ)) → name k ≡ o → get_or numbers k 0 < next
  below_at k None e = let z = zero_of k e in let s = was.some in omega arith
  below_at k (Some t) e = (was.range t (get_or numbers k 0) (was.has k t (in_range k t e) e)).1

  names : (j k : ℕ) → get_or numbers j 0 ≡ get_or numbers k 0 → (o p : Option (List ℕ)) → name j ≡ o → name k ≡ p → name j ≡ name k
  names j k e None None f g = f ∙ sym g
  names j k e None (Some t) f g = absurd (let z = zero_of j f in let r = (was.range t (get_or numbers k 0) (was.has k t (in_range k t g) g)).0 in omega arith)
  names j k e (Some s) None f g = absurd (let z = zero_of k g in let r = (was.range s (get_or numbers j 0) (was.has j s (in_range j s f) f)).0 in omega arith)
  names j k e (Some s) (Some t) f g =
      let one = was.one s t (get_or numbers k 0) (was.has j s (in_range j s f) f ∙ ap (λ x. Some x) e) (was.has k t (in_range k t g) g) in
      f ∙ (ap (λ x. Some x) one ∙ sym g)

  nums : (j k : ℕ) (o : Option (List ℕ)) → name j ≡ o → name k ≡ name j → get_or numbers j 0 ≡ get_or numbers k 0
  nums j k None f e = zero_of j f ∙ sym (zero_of k (e ∙ f))
  nums j k (Some t) f e = same_number (get_or numbers j 0) (get_or numbers k 0) (sym (was.has j t (in_range j t f) f) ∙ was.has k t (in_range k t (e ∙ f)) (e ∙ f))

get_none : (xs : List Node) (k : ℕ) → length xs ≤ k → slice_get xs k ≡ None
get_none [] k h = refl
get_none (x ∷ xs) zero h = absurd (omega arith)
get_none (x ∷ xs) (suc k) h = get_none xs k (omega arith)

-- there is no name past the nodes
pub outside : (bytes : List ℕ) (tree : FileTree) (k : ℕ) → length tree.nodes ≤ k → name_in bytes tree k ≡ None
outside bytes tree k h = ap (λ (o : Option Node). option_and_then (λ node. cond (is_name (form_of node.kind)) (option_map (text_of bytes) (slice_get tree.tokens node.first)) None) o) (get_none tree.nodes k h)
