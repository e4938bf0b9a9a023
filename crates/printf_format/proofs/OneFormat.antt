-- A text has one format.
use Rattle.std.proofs.Common.{◌≡◌, ◌<◌, ◌+◌, ℕ, Option, Some, None, List, [], ◌∷◌, length, drop, refl, sym, ap, ◌∙◌, subst, inl, inr, encode_utf8, arith}
use Rattle.std.proofs.lemmas.List.{length-append, length-drop}
use Rattle.std.proofs.lemmas.Str.{encode_same, length-encode, len_utf8_bounds}
use Rattle.printf_format.specs.declared.format.Directive.{Directive}
use Rattle.printf_format.specs.declared.format.Format.{Format}
use Rattle.printf_format.specs.declared.format.Format.TheVariants as format
use Rattle.printf_format.specs.declared.parts.Index.{Index}
use Rattle.printf_format.specs.declared.parts.Size.{Size}
use Rattle.printf_format.specs.declared.parts.Parts.{Parts}
use Rattle.printf_format.specs.declared.parts.Turn.{Turn}
use Rattle.printf_format.specs.declared.parts.Turn.TheVariants.{End, Whole, NoVerb, BadIndex}
use Rattle.printf_format.specs.Characters.{IsCharacter}
use Rattle.printf_format.specs.Grammar.{precision_at, index_at, IsFront, IsWhole, LacksVerb, HasBadIndex, percent_from, Begun, IsTurn}
use Rattle.printf_format.specs.Arguments.{directive_of, next_of}
use Rattle.printf_format.specs.Formats.{IsLast, Reads, IsFormat}

-- a character begins at least one byte
character_some : (rest : List ℕ) (c size : ℕ) → IsCharacter rest c size → 0 < length rest
character_some rest c size (inl begins) = let bounds = len_utf8_bounds c in omega (arith, ap length begins.0.spelled, length-append (encode_utf8 c) begins.0.more, length-encode c, bounds.0)
character_some rest c size (inr other) = other.0

one_character : (rest : List ℕ) (c size d more : ℕ) → IsCharacter rest c size → IsCharacter rest d more → (c ≡ d) × (size ≡ more)
one_character rest c size d more (inl a) (inl b) =
    let same = (encode_same c d a.0.more b.0.more (sym a.0.spelled ∙ b.0.spelled)).0 in
    (same, a.1 ∙ ap (λ x. length (encode_utf8 x)) same ∙ sym b.1)
one_character rest c size d more (inl a) (inr b) = absurd (b.1 c a.0)
one_character rest c size d more (inr a) (inl b) = absurd (a.1 d b.0)
one_character rest c size d more (inr a) (inr b) = (a.2 ∙ sym b.2, a.3 ∙ sym b.3)

one_size : (size other : Size) (found : Option Size) → found ≡ Some size → found ≡ Some other → size ≡ other
one_size size other found a b = cc

one_index : (index other : Index) (found : Option Index) → found ≡ Some index → found ≡ Some other → index ≡ other
one_index index other found a b = cc

no_size : (size : Size) (found : Option Size) → found ≡ Some size → found ≡ None → ⊥
no_size size found a b = cc

no_index : (index : Index) (found : Option Index) → found ≡ Some index → found ≡ None → ⊥
no_index index found a b = cc

-- the parts before a verb are determined
one_width : (text : List ℕ) (start : ℕ) (w v p q : Size) (l m : Index) → IsFront text start w p l → IsFront text start v q m → w ≡ v
one_width text start w v p q l m a b = one_size w v _ a.first b.first

one_precision : (text : List ℕ) (start : ℕ) (w v p q : Size) (l m : Index) → IsFront text start w p l → IsFront text start v q m → p ≡ q
one_precision text start w v p q l m a b = one_size p q _ a.second (ap (λ s. precision_at text s.end) (one_width text start w v p q l m a b) ∙ b.second)

one_last : (text : List ℕ) (start : ℕ) (w v p q : Size) (l m : Index) → IsFront text start w p l → IsFront text start v q m → l ≡ m
one_last text start w v p q l m a b = one_index l m _ a.third (ap (λ s. index_at text s.end) (one_precision text start w v p q l m a b) ∙ b.third)

-- where they are good no index is bad
front_bad : (text : List ℕ) (start at : ℕ) (w p : Size) (l : Index) → IsFront text start w p l → HasBadIndex text start at → ⊥
front_bad text start at w p l front (inl bad) = no_size w _ front.first bad.bad
front_bad text start at w p l front (inr (inl bad)) =
    let same = one_size w bad.width _ front.first bad.before in
    no_size p _ front.second (ap (λ s. precision_at text s.end) same ∙ bad.bad)
front_bad text start at w p l front (inr (inr bad)) =
    let first = one_size w bad.width _ front.first bad.before in
    let second = one_size p bad.precision _ front.second (ap (λ s. precision_at text s.end) first ∙ bad.between) in
    no_index l _ front.third (ap (λ s. index_at text s.end) second ∙ bad.bad)

one_bad : (text : List ℕ) (start at place : ℕ) → HasBadIndex text start at → HasBadIndex text start place → at ≡ place
one_bad text start at place (inl a) (inl b) = a.place ∙ sym b.place
one_bad text start at place (inl a) (inr (inl b)) = absurd (no_size b.width _ b.before a.bad)
one_bad text start at place (inl a) (inr (inr b)) = absurd (no_size b.width _ b.before a.bad)
one_bad text start at place (inr (inl a)) (inl b) = absurd (no_size a.width _ a.before b.bad)
one_bad text start at place (inr (inr a)) (inl b) = absurd (no_size a.width _ a.before b.bad)
one_bad text start at place (inr (inl a)) (inr (inl b)) =
    a.place ∙ ap (λ s. s.end + 1) (one_size a.width b.width _ a.before b.before) ∙ sym b.place
one_bad text start at place (inr (inl a)) (inr (inr b)) =
    absurd (no_size b.precision _ b.between (ap (λ s. precision_at text s.end) (one_size b.width a.width _ b.before a.before) ∙ a.bad))
one_bad text start at place (inr (inr a)) (inr (inl b)) =
    absurd (no_size a.precision _ a.between (ap (λ s. precision_at text s.end) (one_size a.width b.width _ a.before b.before) ∙ b.bad))
one_bad text start at place (inr (inr a)) (inr (inr b)) =
    let first = one_size a.width b.width _ a.before b.before in
    let second = one_size a.precision b.precision _ a.between (ap (λ s. precision_at text s.end) first ∙ b.between) in
    a.place ∙ ap (λ s. s.end) second ∙ sym b.place

-- a whole directive has one set of parts, and doesn't lack its verb
one_whole : (text : List ℕ) (start : ℕ) (a b : Parts) → IsWhole text start a → IsWhole text start b → a ≡ b
one_whole text start a b x y =
    let w = one_width text start a.width b.width a.precision b.precision a.last b.last x.front y.front in
    let p = one_precision text start a.width b.width a.precision b.precision a.last b.last x.front y.front in
    let l = one_last text start a.width b.width a.precision b.precision a.last b.last x.front y.front in
    let v = one_character (drop b.last.end text) a.verb x.size b.verb y.size (subst (λ (i : Index). IsCharacter (drop i.end text) a.verb x.size) l x.verb) y.verb in
    let f : a.flags ≡ b.flags = x.flags ∙ sym y.flags in
    let e : a.end ≡ b.end = x.end ∙ (λ i. (l i).end + v.1 i) ∙ sym y.end in
    λ i. record { flags = f i; width = w i; precision = p i; last = l i; verb = v.0 i; end = e i }

whole_lacks : (text : List ℕ) (start : ℕ) (a : Parts) → IsWhole text start a → LacksVerb text start → ⊥
whole_lacks text start a x y =
    let l = one_last text start a.width y.width a.precision y.precision a.last y.last x.front y.front in
    omega (arith, character_some (drop a.last.end text) a.verb x.size x.verb, length-drop a.last.end text, ap (λ (i : Index). i.end) l, y.ends)

one_begun : (text : List ℕ) (start : ℕ) (a b : Turn) → Begun text start a → Begun text start b → a ≡ b
one_begun text start End b x y = absurd x
one_begun text start (Whole f p) End x y = absurd y
one_begun text start (Whole f p) (Whole g q) x y = (λ i. Whole ((x.0 ∙ sym y.0) i) (one_whole text start p q x.1 y.1 i))
one_begun text start (Whole f p) (NoVerb at) x y = absurd (whole_lacks text start p x.1 y.1)
one_begun text start (Whole f p) (BadIndex at) x y = absurd (front_bad text start at p.width p.precision p.last x.1.front y)
one_begun text start (NoVerb at) End x y = absurd y
one_begun text start (NoVerb at) (Whole g q) x y = absurd (whole_lacks text start q y.1 x.1)
one_begun text start (NoVerb at) (NoVerb place) x y = ap NoVerb (x.0 ∙ sym y.0)
one_begun text start (NoVerb at) (BadIndex place) x y = absurd (front_bad text start place x.1.width x.1.precision x.1.last x.1.front y)
one_begun text start (BadIndex at) End x y = absurd y
one_begun text start (BadIndex at) (Whole g q) x y = absurd (front_bad text start at q.width q.precision q.last y.1.front x)
one_begun text start (BadIndex at) (NoVerb place) x y = absurd (front_bad text start at y.1.width y.1.precision y.1.last y.1.front x)
one_begun text start (BadIndex at) (BadIndex place) x y = ap BadIndex (one_bad text start at place x y)

one_turn : (text : List ℕ) (at : ℕ) (a b : Turn) → IsTurn text at a → IsTurn text at b → a ≡ b
one_turn text at a b (inl x) (inl y) = x.1 ∙ sym y.1
one_turn text at a b (inl x) (inr y) = absurd (omega (arith, x.0, y.0))
one_turn text at a b (inr x) (inl y) = absurd (omega (arith, x.0, y.0))
one_turn text at a b (inr x) (inr y) = one_begun text (percent_from text at) a b x.1 y.1

whole_start : (f g : ℕ) (p q : Parts) → Whole f p ≡ Whole g q → f ≡ g
whole_start f g p q same = cc

whole_parts : (f g : ℕ) (p q : Parts) → Whole f p ≡ Whole g q → p ≡ q
whole_parts f g p q same = cc

pub one_reading : (text : List ℕ) (at next : ℕ) (ds es : List Directive) (a b : Turn) → Reads text at next ds a → Reads text at next es b → (ds ≡ es) × (a ≡ b)
one_reading text at next [] [] a b x y = (refl, one_turn text at a b x.0 y.0)
one_reading text at next [] (e ∷ es) a b x y = absurd (subst IsLast (one_turn text at a (Whole y.0 y.1) x.0 y.2) x.1)
one_reading text at next (d ∷ ds) [] a b x y = absurd (subst IsLast (one_turn text at b (Whole x.0 x.1) y.0 x.2) y.1)
one_reading text at next (d ∷ ds) (e ∷ es) a b x y =
    let same = one_turn text at (Whole x.0 x.1) (Whole y.0 y.1) x.2 y.2 in
    let start = whole_start x.0 y.0 x.1 y.1 same in
    let parts = whole_parts x.0 y.0 x.1 y.1 same in
    let rest = one_reading text y.1.end (next_of next y.1) ds es a b (subst (λ (p : Parts). Reads text p.end (next_of next p) ds a) parts x.4) y.4 in
    let first : d ≡ e = x.3 ∙ (λ i. directive_of next (start i) (parts i)) ∙ sym y.3 in
    ((λ i. first i ∷ rest.0 i), rest.1)

no_verb_place : (at place : ℕ) → NoVerb at ≡ NoVerb place → at ≡ place
no_verb_place at place same = cc

bad_index_place : (at place : ℕ) → BadIndex at ≡ BadIndex place → at ≡ place
bad_index_place at place same = cc

pub one_format : (text : List ℕ) (f g : Format) → IsFormat text f → IsFormat text g → g ≡ f
one_format text (format.List ds) (format.List es) x y = ap format.List (one_reading text 0 1 es ds End End y x).0
one_format text (format.List ds) (format.NoVerb at) x y = let e = (one_reading text 0 1 ds y.0 End (NoVerb at) x y.1).1 in cc
one_format text (format.List ds) (format.BadIndex at) x y = let e = (one_reading text 0 1 ds y.0 End (BadIndex at) x y.1).1 in cc
one_format text (format.NoVerb at) (format.List es) x y = let e = (one_reading text 0 1 x.0 es (NoVerb at) End x.1 y).1 in cc
one_format text (format.NoVerb at) (format.NoVerb place) x y = ap format.NoVerb (no_verb_place place at (one_reading text 0 1 y.0 x.0 (NoVerb place) (NoVerb at) y.1 x.1).1)
one_format text (format.NoVerb at) (format.BadIndex place) x y = let e = (one_reading text 0 1 x.0 y.0 (NoVerb at) (BadIndex place) x.1 y.1).1 in cc
one_format text (format.BadIndex at) (format.List es) x y = let e = (one_reading text 0 1 x.0 es (BadIndex at) End x.1 y).1 in cc
one_format text (format.BadIndex at) (format.NoVerb place) x y = let e = (one_reading text 0 1 x.0 y.0 (BadIndex at) (NoVerb place) x.1 y.1).1 in cc
one_format text (format.BadIndex at) (format.BadIndex place) x y = ap format.BadIndex (bad_index_place place at (one_reading text 0 1 y.0 x.0 (BadIndex place) (BadIndex at) y.1 x.1).1)
