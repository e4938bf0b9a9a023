-- The line of JSON, part after part.
use Rattle.std.proofs.Common.{◌≡◌, ℕ, Bool, true, false, cond, List, [], ◌∷◌, ◌++◌, length, All, refl, sym, ap, ◌∙◌, subst, append_assoc, codes}
use Rattle.std.specs.Str.{IsUtf8, is_utf8}
use Rattle.std.specs.Option.{option_map_or}
use Rattle.std.proofs.lemmas.Str.{IsUtf8-from_is_utf8, is_utf8-from_IsUtf8}
use Rattle.std.proofs.lemmas.List.Elements.{All-tail}
use Rattle.gv_base.specs.Files.{Entry}
use Rattle.analysis_core.specs.declared.said.Said.{Said}
use Rattle.analysis_core.specs.Replies.{place_text}
use Rattle.analysis_core.specs.JsonReplies.{quoted, as_text, said_json, package_opening, between, json_behind, json_line}

pub as_good : (bytes : List ℕ) → IsUtf8 bytes → bytes ≡ as_text bytes
as_good bytes good = sym (ap (λ (b : Bool). cond b bytes []) (is_utf8-from_IsUtf8 bytes good))

refused : (bytes : List ℕ) (b : Bool) → is_utf8 bytes ≡ b → (IsUtf8 bytes → ⊥) → [] ≡ cond b bytes []
refused bytes true e bad = absurd (bad (IsUtf8-from_is_utf8 bytes e))
refused bytes false e bad = refl

pub as_bad : (bytes : List ℕ) → (IsUtf8 bytes → ⊥) → [] ≡ as_text bytes
as_bad bytes bad = refused bytes (is_utf8 bytes) refl bad

five_parts : (out a b c d e o1 o2 o3 o4 o5 : List ℕ) → o1 ≡ out ++ a → o2 ≡ o1 ++ b → o3 ≡ o2 ++ c → o4 ≡ o3 ++ d → o5 ≡ o4 ++ e → o5 ≡ out ++ (a ++ (b ++ (c ++ (d ++ e))))
five_parts out a b c d e o1 o2 o3 o4 o5 p1 p2 p3 p4 p5 =
    p5 ∙ (ap (λ (l : List ℕ). l ++ e) p4 ∙ (append_assoc o3 d e ∙ (ap (λ (l : List ℕ). l ++ (d ++ e)) p3 ∙ (append_assoc o2 c (d ++ e)
    ∙ (ap (λ (l : List ℕ). l ++ (c ++ (d ++ e))) p2 ∙ (append_assoc o1 b (c ++ (d ++ e)) ∙ (ap (λ (l : List ℕ). l ++ (b ++ (c ++ (d ++ e)))) p1 ∙ append_assoc out a (b ++ (c ++ (d ++ e))))))))))

pub said_written : (files : List Entry) (s : Said) (text out o1 o2 o3 o4 o5 : List ℕ) → text ≡ as_text s.text → o1 ≡ out ++ codes "{\"message\":" → o2 ≡ o1 ++ quoted text
    → o3 ≡ o2 ++ codes ",\"posn\":" → o4 ≡ o3 ++ quoted (option_map_or (place_text files) s.place []) → o5 ≡ o4 ++ codes "}" → o5 ≡ out ++ said_json files s
said_written files s text out o1 o2 o3 o4 o5 is p1 p2 p3 p4 p5 =
    five_parts out (codes "{\"message\":") (quoted (as_text s.text)) (codes ",\"posn\":") (quoted (option_map_or (place_text files) s.place [])) (codes "}") o1 o2 o3 o4 o5
    p1 (p2 ∙ ap (λ (t : List ℕ). o1 ++ quoted t) is) p3 p4 p5

-- one more is written
pub behind_more : (files : List Entry) (last next : Said) (rest more : List Said) (items mid new total : List ℕ) → rest ≡ next ∷ more
    → items ++ json_behind files last rest ≡ total → mid ≡ items ++ between last next → new ≡ mid ++ said_json files next → new ++ json_behind files next more ≡ total
behind_more files last next rest more items mid new total is so_far p q =
    ap (λ (l : List ℕ). l ++ json_behind files next more) q
    ∙ (append_assoc mid (said_json files next) (json_behind files next more)
    ∙ (ap (λ (l : List ℕ). l ++ (said_json files next ++ json_behind files next more)) p
    ∙ (append_assoc items (between last next) (said_json files next ++ json_behind files next more)
    ∙ (ap (λ (r : List Said). items ++ json_behind files last r) (sym is) ∙ so_far))))

pub rest_all : {A : Type 0} (P : A → Type 0) (x : A) (xs rest : List A) → rest ≡ x ∷ xs → All P rest → All P xs
rest_all P x xs rest is all = All-tail P x xs (subst (All P) is all)

pub line_written : (files : List Entry) (first : Said) (rest said : List Said) (out o1 o2 o3 o4 : List ℕ) → said ≡ first ∷ rest → o1 ≡ out ++ codes "{" → o2 ≡ o1 ++ package_opening first
    → o3 ≡ o2 ++ said_json files first → o4 ≡ o3 ++ json_behind files first rest → o4 ≡ out ++ json_line files said
line_written files first rest said out o1 o2 o3 o4 is p1 p2 p3 p4 =
    p4 ∙ (ap (λ (l : List ℕ). l ++ json_behind files first rest) p3
    ∙ (append_assoc o2 (said_json files first) (json_behind files first rest)
    ∙ (ap (λ (l : List ℕ). l ++ (said_json files first ++ json_behind files first rest)) p2
    ∙ (append_assoc o1 (package_opening first) (said_json files first ++ json_behind files first rest)
    ∙ (ap (λ (l : List ℕ). l ++ (package_opening first ++ (said_json files first ++ json_behind files first rest))) p1
    ∙ (append_assoc out (codes "{") (package_opening first ++ (said_json files first ++ json_behind files first rest))
    ∙ ap (λ (s : List Said). out ++ json_line files s) (sym is)))))))
