-- What a run says of a tree of which long files were cut is what it says of the whole.
use Rattle.std.proofs.Common.{◌≡◌, ◌∙◌, inl, inr, ℕ, ◌<◌, ◌≤◌, Bool, true, false, cond, ◌||◌, List, [], ◌∷◌, filter, length, map, refl, sym, ap, arith}
use Rattle.std.specs.Prelude.{nat_lt}
use Rattle.std.proofs.lemmas.Bool.{lt-ltb, ltb-true, ltb-false}
use Rattle.std.proofs.lemmas.List.{length-take-le, take_all}
use Rattle.gv_base.specs.Files.{Entry}
use Rattle.analysis_core.specs.declared.reply.TreeLimit.TheVariants as limit
use Rattle.folder.specs.Folders.{front, is_read}
use Rattle.tree_report.specs.Limits.{are_many, limited_sizes, some_long}
use Rattle.tree_runs.specs.Cutting.{CutsNothingSeen, read_cut, read_whole}

differ : (b : Bool) → b ≡ true → b ≡ false → ⊥
differ true h k = cc
differ false h k = cc

any-true : (b : Bool) → (b || true) ≡ true
any-true true = refl
any-true false = refl

abbrev reads : Entry → Bool
reads file = is_read file.0

abbrev size : Entry → ℕ
size file = length file.1

abbrev cut : Entry → Entry
cut file = front 4194305 file

-- the sizes of files that are read, whole and cut
abbrev whole_sizes : List Entry → List ℕ
whole_sizes files = map size (filter reads files)

abbrev cut_sizes : List Entry → List ℕ
cut_sizes files = map size (filter reads (map cut files))

is-long : (file : Entry) → nat_lt 4194304 (size file) ≡ true → nat_lt 4194304 (size (cut file)) ≡ true
is-long file long =
    let more : 4194304 < size file = ltb-true 4194304 (size file) long in
    let s : size (cut file) ≡ 4194305 = length-take-le 4194305 file.1 (omega arith) in
    lt-ltb 4194304 (size (cut file)) (omega arith)

not-cut : (file : Entry) → nat_lt 4194304 (size file) ≡ false → cut file ≡ file
not-cut file short =
    let low : size file ≤ 4194304 = ltb-false 4194304 (size file) short in
    ap (λ (l : List ℕ). (file.0, l)) (take_all 4194305 file.1 (omega arith))

pub many-same : (files : List Entry) → length (cut_sizes (filter reads files)) ≡ length (whole_sizes (filter reads files))
many-same [] = refl
many-same (f ∷ fs) = by (reads f) refl (many-same fs)
  where
    by : (b : Bool) → reads f ≡ b → length (cut_sizes (filter reads fs)) ≡ length (whole_sizes (filter reads fs)) → length (cut_sizes (cond b (f ∷ filter reads fs) (filter reads fs))) ≡ length (whole_sizes (cond b (f ∷ filter reads fs) (filter reads fs)))
    by false e others = others
    by true e others =
        let a = filter reads (map cut (filter reads fs)) in
        let b = filter reads (filter reads fs) in
        let ih : length (map size a) ≡ length (map size b) = others in
        let both : length (map size (cut f ∷ a)) ≡ length (map size (f ∷ b)) = omega (arith, ih) in
        ap (λ c. length (map size (cond c (cut f ∷ a) a))) e ∙ (both ∙ sym (ap (λ c. length (map size (cond c (f ∷ b) b))) e))

pub long-same : (files : List Entry) → some_long (whole_sizes (filter reads files)) ≡ true → some_long (cut_sizes (filter reads files)) ≡ true
long-same [] h = h
long-same (f ∷ fs) h = by (reads f) refl (long-same fs) h
  where
    by : (b : Bool) → reads f ≡ b → (some_long (whole_sizes (filter reads fs)) ≡ true → some_long (cut_sizes (filter reads fs)) ≡ true) → some_long (whole_sizes (cond b (f ∷ filter reads fs) (filter reads fs))) ≡ true → some_long (cut_sizes (cond b (f ∷ filter reads fs) (filter reads fs))) ≡ true
    by false e others k = others k
    by true e others k =
        let a = filter reads (map cut (filter reads fs)) in
        let b = filter reads (filter reads fs) in
        ap (λ c. some_long (map size (cond c (cut f ∷ a) a))) e ∙ first (nat_lt 4194304 (size f)) refl (sym (ap (λ c. some_long (map size (cond c (f ∷ b) b))) e) ∙ k)
      where
        first : (x : Bool) → nat_lt 4194304 (size f) ≡ x → (nat_lt 4194304 (size f) || some_long (whole_sizes (filter reads fs))) ≡ true → (nat_lt 4194304 (size (cut f)) || some_long (cut_sizes (filter reads fs))) ≡ true
        first true l z = ap (λ y. y || some_long (cut_sizes (filter reads fs))) (is-long f l)
        first false l z = ap (λ y. nat_lt 4194304 (size (cut f)) || y) (others (sym (ap (λ y. y || some_long (whole_sizes (filter reads fs))) l) ∙ z)) ∙ any-true (nat_lt 4194304 (size (cut f)))

or-first : (a b : Bool) → (a || b) ≡ false → a ≡ false
or-first true b e = cc
or-first false b e = refl

or-second : (a b : Bool) → (a || b) ≡ false → b ≡ false
or-second true b e = cc
or-second false b e = e

pub none-cut : (files : List Entry) → some_long (whole_sizes (filter reads files)) ≡ false → map cut (filter reads files) ≡ filter reads files
none-cut [] h = refl
none-cut (f ∷ fs) h = by (reads f) refl (none-cut fs) h
  where
    by : (b : Bool) → reads f ≡ b → (some_long (whole_sizes (filter reads fs)) ≡ false → map cut (filter reads fs) ≡ filter reads fs) → some_long (whole_sizes (cond b (f ∷ filter reads fs) (filter reads fs))) ≡ false → map cut (cond b (f ∷ filter reads fs) (filter reads fs)) ≡ cond b (f ∷ filter reads fs) (filter reads fs)
    by false e others k = others k
    by true e others k =
        let b = filter reads (filter reads fs) in
        let z : (nat_lt 4194304 (size f) || some_long (map size b)) ≡ false = sym (ap (λ c. some_long (map size (cond c (f ∷ b) b))) e) ∙ k in
        ap (λ x. x ∷ map cut (filter reads fs)) (not-cut f (or-first _ _ z)) ∙ ap (λ xs. f ∷ xs) (others (or-second (nat_lt 4194304 (size f)) _ z))

pub cuts-nothing-seen : (files : List Entry) → CutsNothingSeen files
cuts-nothing-seen files = by (some_long (limited_sizes (read_whole files))) (are_many (limited_sizes (read_whole files))) refl refl
  where
    many : are_many (limited_sizes (read_cut files)) ≡ are_many (limited_sizes (read_whole files))
    many = ap (λ n. nat_lt 10000 n) (many-same files)

    by : (b c : Bool) → some_long (limited_sizes (read_whole files)) ≡ b → are_many (limited_sizes (read_whole files)) ≡ c → CutsNothingSeen files
    by false c h k = inl (none-cut files h)
    by true true h k = inr (limit.Files, inl (refl, many ∙ k), inl (refl, k))
    by true false h k =
        inr (limit.FileBytes, inr ((λ over. differ _ over (many ∙ k)), inl (refl, long-same files h)), inr ((λ over. differ _ over k), inl (refl, h)))
