-- The loops that go through a text, as its reader has it.
use Rattle.std.proofs.Common.{◌≡◌, ℕ, zero, suc, ◌-◌, ◌+◌, ◌≤◌, ◌<◌, List, [], ◌∷◌, ◌++◌, Option, Some, None, refl, sym, ◌∙◌, arith}
use Rattle.std.specs.List.{flat_map}
use Rattle.gv_bytes.specs.Reading.{Fails}
use Rattle.gv_bytes.specs.declared.unread.Unread.{Unread}
use Rattle.gv_bytes.specs.declared.unread.Unread.TheVariants as unread
use Rattle.type_texts.specs.declared.pieces.Sort.{Sort}
use Rattle.type_texts.specs.Readers.{via_at}
use Rattle.type_texts.specs.Pieces.{piece_at}
use Rattle.export_text.specs.Skimming.{mention_of, seen, row_skimmed, each_skimmed}

-- ---- a row of pieces

module _ (path : List ℕ) where
  -- a piece more was gone through
  pub row_goes_on : (count i : ℕ) (old now more w : List Sort) (s : Sort) (out next o : List (List ℕ)) (bytes after : List ℕ) (total : Option (List (List ℕ) × List ℕ)) → i < count
      → old ≡ s ∷ more → now ≡ w ++ more → next ≡ out ++ flat_map (mention_of path) o → via_at seen (piece_at s) bytes ≡ Some ((w, o), after)
      → row_skimmed path (count - i) old out bytes ≡ total → row_skimmed path (count - (i + 1)) now next after ≡ total
  unfolding row_skimmed
  row_goes_on count i old now more w s out next o bytes after total lt is want told read so_far =
      let k : count - i ≡ suc (count - (i + 1)) = omega (arith, lt) in
      let one : row_skimmed path (count - i) old out bytes ≡ row_skimmed path (count - (i + 1)) now next after = rw (k, is, want, told, read) refl in
      sym one ∙ so_far

  -- a piece isn't spelled
  row_ends : (count i : ℕ) (old more : List Sort) (s : Sort) (out : List (List ℕ)) (bytes : List ℕ) (total : Option (List (List ℕ) × List ℕ)) → i < count
      → old ≡ s ∷ more → via_at seen (piece_at s) bytes ≡ None → row_skimmed path (count - i) old out bytes ≡ total → total ≡ None
  unfolding row_skimmed
  row_ends count i old more s out bytes total lt is read so_far =
      let k : count - i ≡ suc (count - (i + 1)) = omega (arith, lt) in
      let one : row_skimmed path (count - i) old out bytes ≡ None = rw (k, is, read) refl in
      sym so_far ∙ one

  pub row_fails : (e : Unread) (count i : ℕ) (old more : List Sort) (s : Sort) (out : List (List ℕ)) (bytes : List ℕ) (total : Option (List (List ℕ) × List ℕ)) → i < count
      → old ≡ s ∷ more → Fails e (via_at seen (piece_at s) bytes) → row_skimmed path (count - i) old out bytes ≡ total → Fails e total
  row_fails unread.Memory count i old more s out bytes total lt is read so_far = tt
  row_fails unread.Unspelled count i old more s out bytes total lt is read so_far = row_ends count i old more s out bytes total lt is read so_far

  -- nothing more is wanted
  pub row_is_done : (n : ℕ) (old : List Sort) (out : List (List ℕ)) (bytes : List ℕ) (total : Option (List (List ℕ) × List ℕ)) → old ≡ []
      → row_skimmed path n old out bytes ≡ total → total ≡ Some (out, bytes)
  unfolding row_skimmed
  row_is_done zero old out bytes total is so_far =
      let one : row_skimmed path zero old out bytes ≡ Some (out, bytes) = rw is refl in
      sym so_far ∙ one
  row_is_done (suc n) old out bytes total is so_far =
      let one : row_skimmed path (suc n) old out bytes ≡ Some (out, bytes) = rw is refl in
      sym so_far ∙ one

  -- more is wanted than there are bytes
  pub row_too_short : (count i : ℕ) (old more : List Sort) (s : Sort) (out : List (List ℕ)) (bytes : List ℕ) (total : Option (List (List ℕ) × List ℕ)) → count ≤ i → old ≡ s ∷ more
      → row_skimmed path (count - i) old out bytes ≡ total → total ≡ None
  unfolding row_skimmed
  row_too_short count i old more s out bytes total le is so_far =
      let k : count - i ≡ 0 = omega (arith, le) in
      let one : row_skimmed path (count - i) old out bytes ≡ None = rw (k, is) refl in
      sym so_far ∙ one

-- ---- so many of them

module _ (one : List (List ℕ) → List ℕ → Option (List (List ℕ) × List ℕ)) where
  pub each_goes_on : (count i : ℕ) (out next : List (List ℕ)) (bytes after : List ℕ) (total : Option (List (List ℕ) × List ℕ)) → i < count → one out bytes ≡ Some (next, after)
      → each_skimmed one (count - i) out bytes ≡ total → each_skimmed one (count - (i + 1)) next after ≡ total
  unfolding each_skimmed
  each_goes_on count i out next bytes after total lt read so_far =
      let k : count - i ≡ suc (count - (i + 1)) = omega (arith, lt) in
      let step : each_skimmed one (count - i) out bytes ≡ each_skimmed one (count - (i + 1)) next after = rw (k, read) refl in
      sym step ∙ so_far

  each_ends : (count i : ℕ) (out : List (List ℕ)) (bytes : List ℕ) (total : Option (List (List ℕ) × List ℕ)) → i < count → one out bytes ≡ None
      → each_skimmed one (count - i) out bytes ≡ total → total ≡ None
  unfolding each_skimmed
  each_ends count i out bytes total lt read so_far =
      let k : count - i ≡ suc (count - (i + 1)) = omega (arith, lt) in
      let step : each_skimmed one (count - i) out bytes ≡ None = rw (k, read) refl in
      sym so_far ∙ step

  pub each_fails : (e : Unread) (count i : ℕ) (out : List (List ℕ)) (bytes : List ℕ) (total : Option (List (List ℕ) × List ℕ)) → i < count → Fails e (one out bytes)
      → each_skimmed one (count - i) out bytes ≡ total → Fails e total
  each_fails unread.Memory count i out bytes total lt read so_far = tt
  each_fails unread.Unspelled count i out bytes total lt read so_far = each_ends count i out bytes total lt read so_far

  pub each_is_done : (count i : ℕ) (out : List (List ℕ)) (bytes : List ℕ) (total : Option (List (List ℕ) × List ℕ)) → count ≤ i
      → each_skimmed one (count - i) out bytes ≡ total → total ≡ Some (out, bytes)
  unfolding each_skimmed
  each_is_done count i out bytes total le so_far =
      let k : count - i ≡ 0 = omega (arith, le) in
      let step : each_skimmed one (count - i) out bytes ≡ Some (out, bytes) = rw k refl in
      sym so_far ∙ step
