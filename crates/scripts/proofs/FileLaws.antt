-- Laws of the fields of a file and of a path.
use Rattle.std.proofs.Common.{◌≡◌, ℕ, ◌+◌, ◌-◌, ◌^◌, ◌<◌, ◌≤◌, List, [], ◌∷◌, ◌++◌, length, take, drop, refl, sym, ap, ◌∙◌, arith, append_assoc, replicate}
use Rattle.std.proofs.lemmas.List.{length-append, length-take-le, length-replicate, length-drop, drop-drop}
use Rattle.std.specs.Fmt.{decimal}
use Rattle.std.proofs.lemmas.Fmt.{decimal_injective}
use Rattle.gv_base.specs.Paths.{IsPath}
use Rattle.scripts.specs.declared.word.Shape.{Shape}
use Rattle.scripts.specs.declared.word.Shape.TheVariants.{Path, File}
use Rattle.scripts.specs.Script.{Fields, bare, at_path, with_file, Fit, field_text}
use Rattle.scripts.specs.Next.{file_text}
use Rattle.scripts.specs.Segments.{is_path_byte}
use Rattle.scripts.specs.Runs.{is_digit}
use Rattle.scripts.proofs.RunLaws.{run-unique}
use Rattle.scripts.proofs.PathLaws.{path-bytes}
use Rattle.scripts.proofs.FieldLaws.{decimal-digits}

-- the bytes are less than the fields of this shape
abbrev pub FieldsPart : Shape → List ℕ → Type 0
FieldsPart shape bytes = (fields : Fields) × (more : List ℕ) × Fit shape fields × (0 < length more) × (bytes ++ more ≡ field_text fields)

abbrev pub FieldsOther : Shape → List ℕ → Type 0
FieldsOther shape bytes = (fields : Fields) (more after : List ℕ) → Fit shape fields → bytes ++ more ≡ field_text fields ++ after → ⊥

abbrev pub FieldsWhole : Shape → List ℕ → Fields → ℕ → Type 0
FieldsWhole shape bytes fields n = Fit shape fields × (bytes ≡ field_text fields ++ drop n bytes) × (n ≡ length (field_text fields))

file_text-append : (path : List ℕ) (count : ℕ) (rest more : List ℕ) → file_text path count rest ++ more ≡ file_text path count (rest ++ more)
file_text-append path count rest more = append_assoc path (32 ∷ (decimal count ++ 10 ∷ rest)) more ∙ ap (λ z. path ++ 32 ∷ z) (append_assoc (decimal count) (10 ∷ rest) more)

length-file_text : (path : List ℕ) (count : ℕ) (rest : List ℕ) → length (file_text path count rest) ≡ length (file_text path count []) + length rest
length-file_text path count rest = simp length-append (omega arith)

file_text-count : (path : List ℕ) (m n : ℕ) (rest : List ℕ) → m ≡ n → file_text path m rest ≡ file_text path n rest
file_text-count path m n rest e = ap (λ z. file_text path z rest) e

-- the body and its newline are there
pub file-whole : (bytes path : List ℕ) (at count : ℕ) → IsPath path → count < 10 ^ 9 → at ≤ length bytes → bytes ≡ file_text path count (drop at bytes) → count < length (drop at bytes) → drop at bytes ≡ take count (drop at bytes) ++ 10 ∷ drop (count + 1) (drop at bytes) → FieldsWhole File bytes (with_file path (take count (drop at bytes))) (at + count + 1)
file-whole bytes path at count p small within e short b =
    let body = take count (drop at bytes) in
    let l : length body ≡ count = length-take-le count (drop at bytes) (omega arith) in
    let total : length bytes ≡ length (file_text path count []) + length (drop at bytes) = ap length e ∙ length-file_text path count (drop at bytes) in
    let rest : length (drop at bytes) ≡ length bytes - at = length-drop at bytes in
    let start : at ≡ length (file_text path count []) = omega arith in
    let d : drop (count + 1) (drop at bytes) ≡ drop (at + count + 1) bytes = drop-drop (count + 1) at bytes ∙ ap (λ z. drop z bytes) (let s : at + (count + 1) ≡ at + count + 1 = omega arith in s) in
    let text : field_text (with_file path body) ≡ file_text path count (body ++ 10 ∷ []) = file_text-count path (length body) count (body ++ 10 ∷ []) l in
    let k : length (file_text path count (body ++ 10 ∷ [])) ≡ length (file_text path count []) + length (body ++ 10 ∷ []) = length-file_text path count (body ++ 10 ∷ []) in
    let m : length (body ++ 10 ∷ []) ≡ length body + 1 = length-append body (10 ∷ []) in
    let s : at + count + 1 ≡ length (file_text path count (body ++ 10 ∷ [])) = omega arith in
    let small' : length body < 10 ^ 9 = omega arith in (
      (p, small'),
      e ∙ ap (λ z. file_text path count z) (b ∙ ap (λ z. body ++ 10 ∷ z) d ∙ sym (append_assoc body (10 ∷ []) (drop (at + count + 1) bytes))) ∙ sym (file_text-append path count (body ++ 10 ∷ []) (drop (at + count + 1) bytes)) ∙ ap (λ z. z ++ drop (at + count + 1) bytes) (sym text),
      s ∙ ap length (sym text),
    )

-- the body has not ended
pub file-part-body : (bytes path rest : List ℕ) (count : ℕ) → IsPath path → count < 10 ^ 9 → bytes ≡ file_text path count rest → (body : List ℕ) × (more : List ℕ) × (length body ≡ count) × (0 < length more) × (rest ++ more ≡ body ++ 10 ∷ []) → FieldsPart File bytes
file-part-body bytes path rest count p small e h =
    let l : length h.0 ≡ count = h.2 in
    let s : length h.0 < 10 ^ 9 = omega arith in
    (with_file path h.0, h.1, (p, s), h.3, ap (λ z. z ++ h.1) e ∙ file_text-append path count rest h.1 ∙ ap (file_text path count) h.4 ∙ file_text-count path count (length h.0) (h.0 ++ 10 ∷ []) (sym l))

-- the length has not ended
pub file-part-length : (bytes path rest : List ℕ) → IsPath path → bytes ≡ path ++ 32 ∷ rest → (value : ℕ) × (more : List ℕ) × (value < 10 ^ 9) × (0 < length more) × (rest ++ more ≡ decimal value ++ 10 ∷ []) → FieldsPart File bytes
file-part-length bytes path rest p e h =
    let body : List ℕ = replicate h.0 0 in
    let l : length body ≡ h.0 = length-replicate h.0 0 in
    let small = h.2 in
    let some = h.3 in
    let tail : List ℕ = body ++ 10 ∷ [] in
    let s : length body < 10 ^ 9 = omega arith in
    let r : rest ++ (h.1 ++ tail) ≡ decimal h.0 ++ 10 ∷ tail = sym (append_assoc rest h.1 tail) ∙ ap (λ z. z ++ tail) h.4 ∙ append_assoc (decimal h.0) (10 ∷ []) tail in
    (with_file path body, h.1 ++ tail, (p, s), simp length-append (omega arith), ap (λ z. z ++ (h.1 ++ tail)) e ∙ append_assoc path (32 ∷ rest) (h.1 ++ tail) ∙ ap (λ z. path ++ 32 ∷ z) r ∙ file_text-count path h.0 (length body) tail (sym l))

-- the path has not ended
pub file-part-path : (bytes : List ℕ) → (path : List ℕ) × (more : List ℕ) × IsPath path × (0 < length more) × (bytes ++ more ≡ path ++ 32 ∷ []) → FieldsPart File bytes
file-part-path bytes h =
    let some = h.3 in
    let tail : List ℕ = decimal 0 ++ 10 ∷ 10 ∷ [] in
    let s : length {A = ℕ} [] < 10 ^ 9 = omega arith in
    (with_file h.0 [], h.1 ++ tail, (h.2, s), simp length-append (omega arith), sym (append_assoc bytes h.1 tail) ∙ ap (λ z. z ++ tail) h.4 ∙ append_assoc h.0 (32 ∷ []) tail)

-- no path
pub file-other-path : (bytes : List ℕ) → ((path more after : List ℕ) → IsPath path → bytes ++ more ≡ path ++ 32 ∷ after → ⊥) → FieldsOther File bytes
file-other-path bytes h bare more after f e = absurd f
file-other-path bytes h (at_path path) more after f e = absurd f
file-other-path bytes h (with_file path body) more after f e = h path more (decimal (length body) ++ 10 ∷ ((body ++ 10 ∷ []) ++ after)) f.0 (e ∙ file_text-append path (length body) (body ++ 10 ∷ []) after)

-- after a path
same-path : (bytes path rest : List ℕ) → IsPath path → bytes ≡ path ++ 32 ∷ rest → (path' body more after : List ℕ) → IsPath path' → bytes ++ more ≡ field_text (with_file path' body) ++ after → rest ++ more ≡ decimal (length body) ++ 10 ∷ ((body ++ 10 ∷ []) ++ after)
same-path bytes path rest p e path' body more after p' w =
    let s = run-unique is_path_byte path path' 32 32 (rest ++ more) (decimal (length body) ++ 10 ∷ ((body ++ 10 ∷ []) ++ after)) (path-bytes path p) (path-bytes path' p') refl refl
    (sym (append_assoc path (32 ∷ rest) more) ∙ ap (λ z. z ++ more) (sym e) ∙ w ∙ file_text-append path' (length body) (body ++ 10 ∷ []) after) in s.rest

-- no length
pub file-other-length : (bytes path rest : List ℕ) → IsPath path → bytes ≡ path ++ 32 ∷ rest → ((value : ℕ) (more after : List ℕ) → value < 10 ^ 9 → rest ++ more ≡ decimal value ++ 10 ∷ after → ⊥) → FieldsOther File bytes
file-other-length bytes path rest p e h bare more after f w = absurd f
file-other-length bytes path rest p e h (at_path path') more after f w = absurd f
file-other-length bytes path rest p e h (with_file path' body) more after f w = h (length body) more ((body ++ 10 ∷ []) ++ after) f.1 (same-path bytes path rest p e path' body more after f.0 w)

-- no body
pub file-other-body : (bytes path rest : List ℕ) (count : ℕ) → IsPath path → count < 10 ^ 9 → bytes ≡ file_text path count rest → ((body more after : List ℕ) → length body ≡ count → rest ++ more ≡ body ++ 10 ∷ after → ⊥) → FieldsOther File bytes
file-other-body bytes path rest count p small e h bare more after f w = absurd f
file-other-body bytes path rest count p small e h (at_path path') more after f w = absurd f
file-other-body bytes path rest count p small e h (with_file path' body) more after f w =
    let s = same-path bytes path (decimal count ++ 10 ∷ rest) p e path' body more after f.0 w in
    let small' = f.1 in
    let t = run-unique is_digit (decimal count) (decimal (length body)) 10 10 (rest ++ more) ((body ++ 10 ∷ []) ++ after) (decimal-digits count small) (decimal-digits (length body) small') refl refl (sym (append_assoc (decimal count) (10 ∷ rest) more) ∙ s) in
    h body more after (decimal_injective (length body) count (omega arith) (omega arith) (sym t.run)) (t.rest ∙ append_assoc body (10 ∷ []) after)

-- one path and its newline
pub path-whole : (bytes : List ℕ) (n : ℕ) → IsPath (take n bytes) → n < length bytes → bytes ≡ take n bytes ++ 10 ∷ drop (n + 1) bytes → FieldsWhole Path bytes (at_path (take n bytes)) (n + 1)
path-whole bytes n p short e =
    let l : length (take n bytes) ≡ n = length-take-le n bytes (omega arith) in
    let m : length (take n bytes ++ 10 ∷ []) ≡ length (take n bytes) + 1 = length-append (take n bytes) (10 ∷ []) in
    (p, e ∙ sym (append_assoc (take n bytes) (10 ∷ []) (drop (n + 1) bytes)), omega arith)

pub path-part : (bytes : List ℕ) → (path : List ℕ) × (more : List ℕ) × IsPath path × (0 < length more) × (bytes ++ more ≡ path ++ 10 ∷ []) → FieldsPart Path bytes
path-part bytes h = (at_path h.0, h.1, h.2, h.3, h.4)

pub path-other : (bytes : List ℕ) → ((path more after : List ℕ) → IsPath path → bytes ++ more ≡ path ++ 10 ∷ after → ⊥) → FieldsOther Path bytes
path-other bytes h bare more after f e = absurd f
path-other bytes h (at_path path) more after f e = h path more after f (e ∙ append_assoc path (10 ∷ []) after)
path-other bytes h (with_file path body) more after f e = absurd f
