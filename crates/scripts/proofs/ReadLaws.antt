-- A script is read in one way.
use Rattle.std.proofs.Common.{◌≡◌, ◌≢◌, ◌⊎◌, inl, inr, ℕ, zero, suc, ◌+◌, ◌-◌, ◌<◌, ◌≤◌, List, [], ◌∷◌, ◌++◌, length, take, refl, sym, ap, ◌∙◌, arith, append_assoc, subst, Option, None, Some}
use Rattle.std.proofs.lemmas.List.{append-nil, length-append, take_all}
use Rattle.std.proofs.lemmas.Grind.{flat_map-append}
use Rattle.std.specs.List.{AllByRecursion, flat_map}
use Rattle.scripts.specs.declared.word.Word.TheVariants.{End}
use Rattle.scripts.specs.declared.halt.Halt.{Halt}
use Rattle.scripts.specs.declared.halt.Halt.TheVariants.{Ended, Refused, TooLong}
use Rattle.scripts.specs.Script.{Command, ending, spelling, IsLawful, IsBeginning, NoCommand}
use Rattle.scripts.specs.Reading.{limit, IsPrefix, IsStep, spell, Read, Begun, IsRefused, no_command, cut_short, IsEnding, at_end, by_command, IsPastLimit, IsHalt}
use Rattle.scripts.proofs.Grammar.{append-split}
use Rattle.scripts.proofs.WordLaws.{nonempty, cancel}
use Rattle.scripts.proofs.Spellings.{prefix_free}

-- no command that is answered begins the rest within the limit
abbrev pub Stops : ℕ → List ℕ → Type 0
Stops n rest = Begun n rest → ⊥

-- some commands begin others
pub record Goes (cs ds : List Command) : Type 0 where
  pub more : List Command
  pub whole : cs ++ more ≡ ds

-- of two readings of some bytes, the first begins one that has stopped
reads-begin : (cs ds : List Command) (x y : List ℕ) (n : ℕ) → AllByRecursion IsStep cs → AllByRecursion IsStep ds → spell cs ++ x ≡ spell ds ++ y → n + length (spell cs) ≤ limit → Stops (n + length (spell ds)) y → Goes cs ds
reads-begin [] ds x y n a b e w h = record { more = ds; whole = refl }
reads-begin (c ∷ cs) [] x y n a b e w h =
    let l : length (spelling c ++ spell cs) ≡ length (spelling c) + length (spell cs) = length-append (spelling c) (spell cs) in
    absurd (h (record { command = c; more = spell cs ++ x; step = a.0; spelled = sym e ∙ append_assoc (spelling c) (spell cs) x; within = omega arith }))
reads-begin (c ∷ cs) (d ∷ ds) x y n a b e w h =
    let f = prefix_free c d (spell cs ++ x) (spell ds ++ y) a.0.lawful b.0.lawful (sym (append_assoc (spelling c) (spell cs) x) ∙ e ∙ append_assoc (spelling d) (spell ds) y) in
    let l : length (spelling c ++ spell cs) ≡ length (spelling c) + length (spell cs) = length-append (spelling c) (spell cs) in
    let m : length (spelling d ++ spell ds) ≡ length (spelling d) + length (spell ds) = length-append (spelling d) (spell ds) in
    let k : length (spelling c) ≡ length (spelling d) = ap (λ z. length (spelling z)) f.command in
    let h' : Stops ((n + length (spelling c)) + length (spell ds)) y = λ b. h (record { command = b.command; more = b.more; step = b.step; spelled = b.spelled; within = let v = b.within in omega arith }) in
    let r = reads-begin cs ds x y (n + length (spelling c)) a.1 b.1 f.rest (omega arith) h' in
    record { more = r.more; whole = ap (λ z. z ∷ (cs ++ r.more)) f.command ∙ ap (λ z. d ∷ z) r.whole }

pub Read-begins : {bytes : List ℕ} {cs ds : List Command} {x y : List ℕ} → Read bytes cs x → Read bytes ds y → Stops (length (spell ds)) y → Goes cs ds
Read-begins {bytes} {cs} {ds} {x} {y} r s h = reads-begin cs ds x y 0 r.steps s.steps (sym r.parts ∙ s.parts) (let w = r.within in omega arith) (λ b. h (record { command = b.command; more = b.more; step = b.step; spelled = b.spelled; within = let v = b.within in omega arith }))

pub record SameRead (cs ds : List Command) (x y : List ℕ) : Type 0 where
  pub commands : cs ≡ ds
  pub rest : x ≡ y

shorter : (cs ds : List Command) → (g : Goes cs ds) → (h : Goes ds cs) → cs ≡ ds
shorter cs ds g h = go g.more g.whole
  where
    go : (es : List Command) → cs ++ es ≡ ds → cs ≡ ds
    go [] e = sym (append-nil cs) ∙ e
    go (x ∷ es) e =
        let l : length cs + length (x ∷ es) ≡ length ds = sym (length-append cs (x ∷ es)) ∙ ap length e in
        let m : length ds + length h.more ≡ length cs = sym (length-append ds h.more) ∙ ap length h.whole in
        absurd (omega arith)

-- two readings that have both stopped are one
pub same-read : {bytes : List ℕ} {cs ds : List Command} {x y : List ℕ} → Read bytes cs x → Read bytes ds y → Stops (length (spell cs)) x → Stops (length (spell ds)) y → SameRead cs ds x y
same-read {bytes} {cs} {ds} {x} {y} r s g h =
    let e : cs ≡ ds = shorter cs ds (Read-begins r s h) (Read-begins s r g) in
    record { commands = e; rest = cancel (spell ds) x y (ap (λ z. spell z ++ x) (sym e) ∙ sym r.parts ∙ s.parts) }

spell-more : (cs : List Command) (c : Command) → spell (cs ++ c ∷ []) ≡ spell cs ++ spelling c
spell-more cs c = flat_map-append spelling cs (c ∷ []) ∙ ap (λ z. spell cs ++ z) (append-nil (spelling c))

pub spell-length : (cs : List Command) (c : Command) → length (spell (cs ++ c ∷ [])) ≡ length (spell cs) + length (spelling c)
spell-length cs c = ap length (spell-more cs c) ∙ length-append (spell cs) (spelling c)

steps-more : (cs : List Command) (c : Command) → AllByRecursion IsStep cs → IsStep c → AllByRecursion IsStep (cs ++ c ∷ [])
steps-more [] c a s = (s, tt)
steps-more (d ∷ cs) c a s = (a.0, steps-more cs c a.1 s)

-- one more command is read
pub Read-next : {bytes : List ℕ} {cs : List Command} {rest : List ℕ} → Read bytes cs rest → (b : Begun (length (spell cs)) rest) → Read bytes (cs ++ b.command ∷ []) b.more
Read-next {bytes} {cs} {rest} r b = record {
  parts = r.parts ∙ ap (λ z. spell cs ++ z) b.spelled ∙ sym (append_assoc (spell cs) (spelling b.command) b.more) ∙ ap (λ z. z ++ b.more) (sym (spell-more cs b.command));
  steps = steps-more cs b.command r.steps b.step;
  within = let w = b.within in let l = spell-length cs b.command in omega arith;
}

-- more bytes come
pub Read-more : {bytes : List ℕ} {cs : List Command} {rest : List ℕ} (more : List ℕ) → Read bytes cs rest → Read (bytes ++ more) cs (rest ++ more)
Read-more {bytes} {cs} {rest} more r = record { parts = ap (λ z. z ++ more) r.parts ∙ append_assoc (spell cs) rest more; steps = r.steps; within = r.within }

abbrev pub Begun-more : {n : ℕ} {rest : List ℕ} (more : List ℕ) → Begun n rest → Begun n (rest ++ more)
Begun-more {n} {rest} more b = record { command = b.command; more = b.more ++ more; step = b.step; spelled = ap (λ z. z ++ more) b.spelled ∙ append_assoc (spelling b.command) b.more more; within = b.within }

-- a beginning doesn't begin with a command
beginning-stops : (b : List ℕ) → IsBeginning b → (c : Command) (z : List ℕ) → IsLawful c → b ≡ spelling c ++ z → ⊥
beginning-stops b h c z lawful e =
    let s : spelling c ++ (z ++ h.more) ≡ spelling h.command ++ [] = sym (append_assoc (spelling c) z h.more) ∙ ap (λ y. y ++ h.more) (sym e) ∙ h.spelled ∙ sym (append-nil (spelling h.command)) in
    let f = prefix_free c h.command (z ++ h.more) [] lawful h.lawful s in
    let l : length z + length h.more ≡ 0 = sym (length-append z h.more) ∙ ap length f.rest in
    let some = h.missing in
    omega arith

-- the first k bytes of two lists joined
take-joined : (k : ℕ) (xs ys : List ℕ) → take k (xs ++ ys) ≡ take k xs ++ take (k - length xs) ys
take-joined zero [] ys = refl
take-joined (suc k) [] ys = ap (λ z. take z ys) (let s : suc k ≡ suc k - length {A = ℕ} [] = omega arith in s)
take-joined zero (x ∷ xs) ys = ap (λ z. take z ys) (let s : 0 ≡ 0 - length (x ∷ xs) = omega arith in s)
take-joined (suc k) (x ∷ xs) ys = ap (λ z. x ∷ z) (take-joined k xs ys ∙ ap (λ z. take k xs ++ take z ys) (let s : k - length xs ≡ suc k - length (x ∷ xs) = omega arith in s))

take-command : (k : ℕ) (c : Command) (more : List ℕ) → length (spelling c) ≤ k → take k (spelling c ++ more) ≡ spelling c ++ take (k - length (spelling c)) more
take-command k c more h = take-joined k (spelling c) more ∙ ap (λ z. z ++ take (k - length (spelling c)) more) (take_all k (spelling c) h)

no_command-stops : (k : ℕ) (rest : List ℕ) → NoCommand (take k rest) → (c : Command) (more : List ℕ) → IsLawful c → rest ≡ spelling c ++ more → length (spelling c) ≤ k → ⊥
no_command-stops k rest h c more lawful e w =
    h c lawful [] (take (k - length (spelling c)) more) (append-nil (take k rest) ∙ ap (take k) e ∙ take-command k c more w)

empty-stops : (rest : List ℕ) → rest ≡ [] → (c : Command) (more : List ℕ) → rest ≡ spelling c ++ more → ⊥
empty-stops rest e c more s =
    let z : length rest ≡ 0 = ap length e in
    let l : length rest ≡ length (spelling c) + length more = ap length s ∙ length-append (spelling c) more in
    let n = nonempty c in omega arith

empty : (xs : List ℕ) → length xs ≡ 0 → xs ≡ []
empty [] e = refl
empty (y ∷ ys) e = absurd (omega arith)

past-stops : (n : ℕ) (rest : List ℕ) → IsPastLimit n rest → (c : Command) (m : List ℕ) → IsLawful c → rest ≡ spelling c ++ m → n + length (spelling c) ≤ limit → ⊥
past-stops n rest p c m lawful s w = elim (append-split p.first (spelling c) p.more m (sym p.parts ∙ s)) [
  | inl x ↦ let l : length (spelling c) ≡ length p.first + length x.more = ap length x.whole ∙ length-append p.first x.more in
      let f = p.full in
      let z : length x.more ≡ 0 = omega arith in
      beginning-stops p.first p.beginning c [] lawful (sym (append-nil p.first) ∙ ap (λ y. p.first ++ y) (sym (empty x.more z)) ∙ sym x.whole ∙ sym (append-nil (spelling c)))
  | inr x ↦ beginning-stops p.first p.beginning c x.more lawful x.whole
]

-- where reading stops no command that is answered begins
pub halt-stops : (h : Halt) (n : ℕ) (rest : List ℕ) → IsHalt h n rest (Some []) → Stops n rest
halt-stops Ended n rest (at_end e l) b = empty-stops rest e b.command b.more b.spelled
halt-stops Ended n rest (by_command m e x) b =
    let f = prefix_free b.command ending b.more m b.step.lawful tt (sym b.spelled ∙ e) in
    b.step.goes (ap (λ (z : Command). z.word) f.command)
halt-stops Refused n rest (no_command h) b = let w = b.within in no_command-stops (limit - n) rest h b.command b.more b.step.lawful b.spelled (omega arith)
halt-stops Refused n rest (cut_short g some x l) b = beginning-stops rest g b.command b.more b.step.lawful b.spelled
halt-stops TooLong n rest p b = past-stops n rest p b.command b.more b.step.lawful b.spelled b.within

none-of-nothing : (b : List ℕ) → NoCommand b → IsBeginning b → ⊥
none-of-nothing b h i = h i.command i.lawful i.more [] (i.spelled ∙ sym (append-nil (spelling i.command)))

take-nothing : (k : ℕ) → take {A = ℕ} k [] ≡ []
take-nothing zero = refl
take-nothing (suc k) = refl

refused-not-ending : (n : ℕ) (rest : List ℕ) → IsRefused n rest (Some []) → IsEnding n rest (Some []) → ⊥
refused-not-ending n rest (no_command h) (at_end e l) =
    let z : take (limit - n) rest ≡ [] = ap (take (limit - n)) e ∙ take-nothing (limit - n) in
    h ending tt (spelling ending) [] (ap (λ y. y ++ spelling ending) z ∙ sym (append-nil (spelling ending)))
refused-not-ending n rest (no_command h) (by_command m e x) = no_command-stops (limit - n) rest h ending m tt e (omega arith)
refused-not-ending n rest (cut_short b some x l) (at_end e y) = let z : length rest ≡ 0 = ap length e in omega arith
refused-not-ending n rest (cut_short b some x l) (by_command m e y) = beginning-stops rest b ending m tt e

refused-not-past : (n : ℕ) (rest : List ℕ) → IsRefused n rest (Some []) → IsPastLimit n rest → ⊥
refused-not-past n rest (no_command h) p =
    let full = p.full in
    let k : limit - n ≡ length p.first = omega arith in
    let t : take (limit - n) (p.first ++ p.more) ≡ p.first = take-joined (limit - n) p.first p.more ∙ ap (λ z. take z p.first ++ take (z - length p.first) p.more) k ∙ ap (λ z. z ++ take (length p.first - length p.first) p.more) (take_all (length p.first) p.first (omega arith)) ∙ ap (λ z. p.first ++ take z p.more) (let q : length p.first - length p.first ≡ 0 = omega arith in q) ∙ append-nil p.first in
    none-of-nothing p.first (subst NoCommand (ap (take (limit - n)) p.parts ∙ t) h) p.beginning
refused-not-past n rest (cut_short c s x l) p =
    let z : length rest ≡ length p.first + length p.more = ap length p.parts ∙ length-append p.first p.more in
    let full = p.full in let some = p.surplus in omega arith

ending-not-past : (n : ℕ) (rest : List ℕ) → IsEnding n rest (Some []) → IsPastLimit n rest → ⊥
ending-not-past n rest (at_end e l) p = let z : length p.first + length p.more ≡ 0 = sym (length-append p.first p.more) ∙ ap length (sym p.parts ∙ e) in let s = p.surplus in omega arith
ending-not-past n rest (by_command m e x) p = past-stops n rest p ending m tt e x

-- reading stops for one reason
pub one_halt : (h k : Halt) (n : ℕ) (rest : List ℕ) → IsHalt h n rest (Some []) → IsHalt k n rest (Some []) → h ≡ k
one_halt Ended Ended n rest a b = refl
one_halt Ended Refused n rest a b = absurd (refused-not-ending n rest b a)
one_halt Ended TooLong n rest a b = absurd (ending-not-past n rest a b)
one_halt Refused Ended n rest a b = absurd (refused-not-ending n rest a b)
one_halt Refused Refused n rest a b = refl
one_halt Refused TooLong n rest a b = absurd (refused-not-past n rest a b)
one_halt TooLong Ended n rest a b = absurd (ending-not-past n rest b a)
one_halt TooLong Refused n rest a b = absurd (refused-not-past n rest b a)
one_halt TooLong TooLong n rest a b = refl

NoCommand-more : (bytes more : List ℕ) → NoCommand bytes → NoCommand (bytes ++ more)
NoCommand-more bytes more h c lawful m after e = h c lawful (more ++ m) after (sym (append_assoc bytes more m) ∙ e)

-- what was decided on the bytes given stands for all that the source held
pub halt-whole : (h : Halt) (n : ℕ) (tail rest : List ℕ) → IsHalt h n tail (Some rest) → IsHalt h n (tail ++ rest) (Some [])
halt-whole Ended n tail rest (at_end e l) = at_end (ap (λ z. z ++ rest) e ∙ l) refl
halt-whole Ended n tail rest (by_command more e w) = by_command (more ++ rest) (ap (λ z. z ++ rest) e ∙ append_assoc (spelling ending) more rest) w
halt-whole Refused n tail rest (no_command h) = no_command (rw take-joined (NoCommand-more (take (limit - n) tail) (take ((limit - n) - length tail) rest) h))
halt-whole Refused n tail rest (cut_short b some w l) =
    let e : tail ++ rest ≡ tail = ap (λ z. tail ++ z) l ∙ append-nil tail in rw e (cut_short b some w refl)
halt-whole TooLong n tail rest p = record { first = p.first; more = p.more ++ rest; parts = ap (λ z. z ++ rest) p.parts ∙ append_assoc p.first p.more rest; beginning = p.beginning; full = p.full; surplus = let s = p.surplus in simp length-append (omega arith) }
