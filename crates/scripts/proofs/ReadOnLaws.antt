-- A reading goes on by one command, or halts.
use Rattle.std.proofs.Common.{◌≡◌, ◌≢◌, ℕ, ◌+◌, ◌-◌, ◌<◌, ◌≤◌, List, [], ◌∷◌, ◌++◌, length, take, drop, refl, sym, ap, ◌∙◌, arith, Bool, true, false, append_assoc, subst, Some}
use Rattle.std.specs.Prelude.{IsTrue}
use Rattle.std.proofs.lemmas.List.{append-nil, length-append, take-append-drop, length-drop, length-take}
use Rattle.std.proofs.Math.Seq.{drop-append_seam}
use Rattle.scripts.specs.declared.script.Command.{Command as Decoded}
use Rattle.scripts.specs.declared.script.Next.TheVariants.{Whole}
use Rattle.scripts.specs.declared.halt.Halt.{Halt}
use Rattle.scripts.specs.declared.halt.Halt.TheVariants.{Ended, Refused, TooLong}
use Rattle.scripts.specs.declared.word.Word.{Word}
use Rattle.scripts.specs.declared.word.Word.TheVariants.{End}
use Rattle.scripts.specs.declared.word.Shape.TheVariants.{Bare}
use Rattle.scripts.specs.Words.{shape_of}
use Rattle.scripts.specs.Script.{Fields, bare, at_path, with_file, Fit, Command, spelling, ending, IsLawful, IsBeginning}
use Rattle.scripts.specs.Next.{IsNext, command_of}
use Rattle.scripts.specs.Reading.{HasReading, IsHalt, IsPastLimit, IsReadTo, Begun, Read, SameReading, at_end, by_command, cut_short, limit, spell}
use Rattle.scripts.proofs.ReadLaws.{Read-next, halt-stops, one_halt, same-read, spell-length}
use Rattle.scripts.proofs.WordLaws.{nonempty}

pub not-true : (b : Bool) → b ≡ false → IsTrue b → ⊥
not-true b f t = let e : ◌≡◌ {A = Bool} false true = sym f ∙ t in cc

bare-only : (fields : Fields) → Fit Bare fields → fields ≡ bare
bare-only bare h = refl
bare-only (at_path path) h = absurd h
bare-only (with_file path bytes) h = absurd h

end-bare : (w : Word) (fields : Fields) → w ≡ End → Fit (shape_of w) fields → fields ≡ bare
end-bare w fields e h = let f : Fit Bare fields = subst (λ v. Fit (shape_of v) fields) e h in bare-only fields f

-- the command that ends a script has no fields
pub ending-only : (c : Command) → IsLawful c → c.word ≡ End → c ≡ ending
ending-only c lawful e =
    let d : c ≡ record { word = End; fields = c.fields } = ap (λ w. record { word = w; fields = c.fields }) e in
    d ∙ ap (λ f. record { word = End; fields = f }) (end-bare c.word c.fields e lawful)

-- the rest from a place on begins with what its first bytes begin with
whole-at : (rest : List ℕ) (k len : ℕ) (decoded : Decoded) → IsNext (take k rest) (Whole decoded len) → rest ≡ spelling (command_of decoded) ++ (drop len (take k rest) ++ drop k rest)
whole-at rest k len decoded next = sym (take-append-drop k rest) ∙ ap (λ z. z ++ drop k rest) next.0.spelled ∙ append_assoc (spelling (command_of decoded)) (drop len (take k rest)) (drop k rest)

fits-at : (at k len : ℕ) (rest : List ℕ) (decoded : Decoded) → k ≡ limit - at → IsNext (take k rest) (Whole decoded len) → at + length (spelling (command_of decoded)) ≤ limit
fits-at at k len rest decoded e next =
    let l : length (take k rest) ≡ length (spelling (command_of decoded)) + length (drop len (take k rest)) = ap length next.0.spelled ∙ length-append (spelling (command_of decoded)) (drop len (take k rest)) in
    let m = length-take k rest in
    let n = nonempty (command_of decoded) in
    omega arith

pub reads-end : (script : List ℕ) (at k len : ℕ) (decoded : Decoded) → IsReadTo script at → k ≡ limit - at → IsNext (take k (drop at script)) (Whole decoded len) → decoded.word ≡ End → HasReading script
reads-end script at k len decoded r e next w =
    let rest = drop at script in
    let c : command_of decoded ≡ ending = ending-only (command_of decoded) next.0.lawful w in
    let f = fits-at at k len rest decoded e next in
    let a = r.at_is in
    let l : length (spelling (command_of decoded)) ≡ length (spelling ending) = ap (λ z. length (spelling z)) c in
    record { commands = r.commands; rest = rest; read = r.read; halt = Ended; halts = by_command (drop len (take k rest) ++ drop k rest) (whole-at rest k len decoded next ∙ ap (λ z. spelling z ++ (drop len (take k rest) ++ drop k rest)) c) (omega arith) }

pub reads-on : (script : List ℕ) (at k len : ℕ) (decoded : Decoded) → IsReadTo script at → k ≡ limit - at → IsNext (take k (drop at script)) (Whole decoded len) → decoded.word ≢ End → IsReadTo script (at + len) × (at < at + len)
reads-on script at k len decoded r e next w = (record { commands = r.commands ++ command_of decoded ∷ []; read = subst (λ z. Read script (r.commands ++ command_of decoded ∷ []) z) more-is read; at_is = at-is; inside = inside }, (let n = nonempty (command_of decoded) in let l = next.1 in omega arith))
  where
    rest : List ℕ
    rest = drop at script

    more : List ℕ
    more = drop len (take k rest) ++ drop k rest

    begun : Begun (length (spell r.commands)) rest
    begun = record { command = command_of decoded; more = more; step = record { lawful = next.0.lawful; goes = w }; spelled = whole-at rest k len decoded next; within = (let f = fits-at at k len rest decoded e next in let a = r.at_is in omega arith) }

    read : Read script (r.commands ++ command_of decoded ∷ []) more
    read = Read-next r.read begun

    at-is : at + len ≡ length (spell (r.commands ++ command_of decoded ∷ []))
    at-is = let a = r.at_is in let l = next.1 in let s = spell-length r.commands (command_of decoded) in omega arith

    inside : at + len ≤ length script
    inside = let a = at-is in let l : length script ≡ length (spell (r.commands ++ command_of decoded ∷ [])) + length more = ap length read.parts ∙ length-append (spell (r.commands ++ command_of decoded ∷ [])) more in omega arith

    more-is : more ≡ drop (at + len) script
    more-is = sym (ap (λ z. drop z script) at-is ∙ ap (drop (length (spell (r.commands ++ command_of decoded ∷ [])))) read.parts ∙ drop-append_seam (spell (r.commands ++ command_of decoded ∷ [])) more)

pub reads-part : (script : List ℕ) (at k : ℕ) → IsReadTo script at → k ≡ limit - at → IsBeginning (take k (drop at script)) → HasReading script
reads-part script at k r e b = go (drop k rest) refl
  where
    rest : List ℕ
    rest = drop at script

    whole : take k rest ++ drop k rest ≡ rest
    whole = take-append-drop k rest

    short : length (take k rest) ≤ k
    short = let m = length-take k rest in omega arith

    inside : at ≤ limit
    inside = let a = r.at_is in let w = r.read.within in omega arith

    ends : (xs : List ℕ) → rest ≡ xs → IsBeginning xs → length xs ≤ k → HasReading script
    ends [] z i w = record { commands = r.commands; rest = rest; read = r.read; halt = Ended; halts = at_end z refl }
    ends (x ∷ xs) z i w = record { commands = r.commands; rest = rest; read = r.read; halt = Refused; halts = cut_short (subst IsBeginning (sym z) i) (let l : length rest ≡ length (x ∷ xs) = ap length z in omega arith) (let l : length rest ≡ length (x ∷ xs) = ap length z in let a = r.at_is in let j = inside in omega arith) refl }

    go : (ys : List ℕ) → drop k rest ≡ ys → HasReading script
    go [] z = ends (take k rest) (sym whole ∙ ap (λ w. take k rest ++ w) z ∙ append-nil (take k rest)) b short
    go (y ∷ ys) z = record { commands = r.commands; rest = rest; read = r.read; halt = TooLong; halts = (let p : IsPastLimit (length (spell r.commands)) rest = record { first = take k rest; more = drop k rest; parts = sym whole; beginning = b; full = (let m = length-take k rest in let d = length-drop k rest in let l : length (drop k rest) ≡ length (y ∷ ys) = ap length z in let a = r.at_is in let j = inside in omega arith); surplus = (let l : length (drop k rest) ≡ length (y ∷ ys) = ap length z in omega arith) } in p) }

-- two readings are one
pub one-reading : (script : List ℕ) (cs ds : List Command) (x y : List ℕ) (h k : Halt) → Read script cs x → IsHalt h (length (spell cs)) x (Some []) → Read script ds y → IsHalt k (length (spell ds)) y (Some []) → SameReading cs ds x y h k
one-reading script cs ds x y h k r a s b =
    let e = same-read r s (halt-stops h (length (spell cs)) x a) (halt-stops k (length (spell ds)) y b) in
    let b' : IsHalt k (length (spell cs)) x (Some []) = subst (λ z. IsHalt k (length (spell z)) x (Some [])) (sym e.commands) (subst (λ z. IsHalt k (length (spell ds)) z (Some [])) (sym e.rest) b) in
    record { commands = e.commands; rest = e.rest; halt = one_halt h k (length (spell cs)) x a b' }
