-- Edges in rows.
use Rattle.std.proofs.Common.{◌≡◌, ◌<◌, ◌+◌, ℕ, zero, suc, List, [], ◌∷◌, ◌++◌, length, get_or, set, take, refl, sym, ap, ◌∙◌, subst, arith}
use Rattle.std.specs.List.{Contains}
use Rattle.std.proofs.lemmas.List.{get_or-set_other, get_or-set_same}
use Rattle.std.proofs.lemmas.List.Elements.{Contains-push, Contains-push_cases, Contains-append_left}
use Rattle.std.proofs.lemmas.Bool.{cases_eq}
use Rattle.std.proofs.Math.Seq.{take-suc}
use Rattle.flow.specs.declared.point.Edge.{Edge}
use Rattle.flow.specs.Edges.{edge}
use Rattle.flow.specs.Search.{row_at, StepsBy}
use Rattle.flow.proofs.AroundLemmas.{either}

-- the rows of these edges
pub record AreRowsOf (rows : List (List ℕ)) (edges : List Edge) : Type 0 where
  pub each : (p q : ℕ) → StepsBy rows p q → Contains edges (edge p q)
  pub every : (p q : ℕ) → Contains edges (edge p q) → StepsBy rows p q

row_same : (rows : List (List ℕ)) (p : ℕ) (row : List ℕ) → p < length rows → row_at (set rows p row) p ≡ row
row_same rows p row lt = get_or-set_same rows p row [] lt

row_other : (rows : List (List ℕ)) (p r : ℕ) (row : List ℕ) → (r ≡ p → ⊥) → row_at (set rows p row) r ≡ row_at rows r
row_other rows p r row ne = get_or-set_other rows p r row [] ne

edge_added : (rows : List (List ℕ)) (edges : List Edge) (e : Edge) → e.from < length rows
    → AreRowsOf rows edges → AreRowsOf (set rows e.from (row_at rows e.from ++ e.to ∷ [])) (edges ++ e ∷ [])
edge_added rows edges e lt a = record {
  each = λ p q s. either (cases_eq p e.from)
      (λ at. let row : row_at (set rows e.from (row_at rows e.from ++ e.to ∷ [])) p ≡ row_at rows e.from ++ e.to ∷ [] =
      ap (λ k. row_at (set rows e.from (row_at rows e.from ++ e.to ∷ [])) k) at ∙ row_same rows e.from (row_at rows e.from ++ e.to ∷ []) lt in
      either (Contains-push_cases (row_at rows e.from) e.to q (subst (λ l. Contains l q) row s))
      (λ old. Contains-append_left edges (e ∷ []) (edge p q) (a.each p q (subst (λ k. StepsBy rows k q) (sym at) old)))
      (λ is. subst (Contains (edges ++ e ∷ [])) (ap (λ k. edge k e.to) (sym at) ∙ ap (λ k. edge p k) is) (Contains-push edges e)))
      (λ ne. Contains-append_left edges (e ∷ []) (edge p q) (a.each p q (subst (λ l. Contains l q) (row_other rows e.from p _ ne) s)));
  every = λ p q c. either (Contains-push_cases edges e (edge p q) c)
      (λ old. either (cases_eq p e.from)
      (λ at. subst (λ l. Contains l q) (sym (ap (λ k. row_at (set rows e.from (row_at rows e.from ++ e.to ∷ [])) k) at ∙ row_same rows e.from _ lt))
      (Contains-append_left (row_at rows e.from) (e.to ∷ []) q (subst (λ k. StepsBy rows k q) at (a.every p q old))))
      (λ ne. subst (λ l. Contains l q) (sym (row_other rows e.from p _ ne)) (a.every p q old)))
      (λ is. let from : e.from ≡ p = ap (λ (x : Edge). x.from) is in
      let to : e.to ≡ q = ap (λ (x : Edge). x.to) is in
      subst (λ k. StepsBy (set rows e.from (row_at rows e.from ++ e.to ∷ [])) k q) from
      (subst (λ l. Contains l q) (sym (row_same rows e.from _ lt)) (subst (Contains (row_at rows e.from ++ e.to ∷ [])) to (Contains-push (row_at rows e.from) e.to))));
}

-- an empty row more is no row more
pub none_more : (rows : List (List ℕ)) (p : ℕ) → row_at (rows ++ [] ∷ []) p ≡ row_at rows p
none_more [] zero = refl
none_more [] (suc p) = refl
none_more (x ∷ rows) zero = refl
none_more (x ∷ rows) (suc p) = none_more rows p

same_rows : (rows grown : List (List ℕ)) (edges : List Edge) → ((p : ℕ) → row_at grown p ≡ row_at rows p) → AreRowsOf rows edges → AreRowsOf grown edges
same_rows rows grown edges same a = record {
  each = λ p q s. a.each p q (subst (λ l. Contains l q) (same p) s);
  every = λ p q c. subst (λ l. Contains l q) (sym (same p)) (a.every p q c);
}

-- the first edges, and one more
pub edge_more : (rows grown now : List (List ℕ)) (edges : List Edge) (i : ℕ) (d : Edge) → i < length edges
    → ((p : ℕ) → row_at grown p ≡ row_at rows p) → (get_or edges i d).from < length grown
    → now ≡ set grown (get_or edges i d).from (row_at grown (get_or edges i d).from ++ (get_or edges i d).to ∷ [])
    → AreRowsOf rows (take i edges) → AreRowsOf now (take (i + 1) edges)
edge_more rows grown now edges i d lt same low is a =
    let next : suc i ≡ i + 1 = omega arith in
    let more : take (i + 1) edges ≡ take i edges ++ get_or edges i d ∷ [] = ap (λ k. take k edges) (sym next) ∙ take-suc edges i d lt in
    rw is (rw more (edge_added grown (take i edges) (get_or edges i d) low (same_rows rows grown (take i edges) same a)))

-- no edge, no target
pub no_rows : (rows : List (List ℕ)) → rows ≡ [] → AreRowsOf rows []
no_rows rows none = record {
  each = λ p q s. absurd (omega (arith, (subst (λ l. Contains (row_at l p) q) none s).1));
  every = λ p q c. absurd (omega (arith, c.1));
}
