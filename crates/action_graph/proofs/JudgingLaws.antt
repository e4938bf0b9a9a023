-- What a run may know of the rules: there is one finding, and what is seen of a package has its path.
use Rattle.std.proofs.Common.{◌≡◌, ℕ, ◌<◌, ◌⊎◌, inl, inr, List, [], ◌∷◌, get_or, refl, sym, ap, ◌∙◌, subst, arith}
use Rattle.std.proofs.lemmas.Option.{same_Some}
use Rattle.check_pkg.specs.Packages.{Package}
use Rattle.export_text.specs.Faces.{IsFaceText}
use Rattle.export_text.proofs.FaceReading.{face_again}
use Rattle.package_faces.specs.Faces.{Face}
use Rattle.gv_bytes.proofs.Options.{some_is}
use Rattle.action_graph.specs.declared.kit.LoadInput.{LoadInput}
use Rattle.action_graph.specs.declared.marks.MarkLine.{MarkLine}
use Rattle.action_graph.specs.Nodes.{Named}
use Rattle.action_graph.specs.Marks.{AreSpelled}
use Rattle.action_graph.specs.Judging.{Judged, Env, Judges, Finds, AreInterfaces, IsOutcome, IsOutcomeOf, Tells, accepted_text, refused_text}
use Rattle.action_graph.specs.Judging.Judged.{Accepts, Refuses}
use Rattle.action_graph.proofs.OneFinding.{finds-once, one-package, package-spelled}
use Rattle.action_graph.proofs.NodeLemmas.{one_load}
use Rattle.action_graph.proofs.Lines.{spelled_is_read as marks_are_read}

-- there is one finding
pub judges_once : (path : List ℕ) (files : List Named) (env : Env) (a b : Judged) → Judges path files env a → Judges path files env b → a ≡ b
unfolding Judges
judges_once path files env a b (p, (of, finds)) (q, (of2, finds2)) =
    finds-once q env a b (package-spelled path files q of2) (subst (λ (x : Package). Finds x env a) (one-package path files p q of of2) finds) finds2

face_or : Face → Judged → Face
face_or d (Accepts i) = i
face_or d (Refuses list) = d

pub same_accepts : (i k : Face) → Accepts i ≡ Accepts k → i ≡ k
unfolding face_or
same_accepts i k h = ap (face_or i) h

-- what is seen of a package has its path
pub accepts_path : (path : List ℕ) (files : List Named) (env : Env) (i : Face) → Judges path files env (Accepts i) → i.path ≡ path
unfolding Judges
accepts_path path files env i (p, (of, found)) = found.fit.path_is ∙ of.path_is

-- a text spells one face
pub one_face : (i k : Face) (text : List ℕ) → IsFaceText i text → IsFaceText k text → i ≡ k
one_face i k text a b = same_Some i k (sym (face_again text i a) ∙ face_again text k b)

pub faces_once : (xs : List Named) (a b : Env) → AreInterfaces xs a → AreInterfaces xs b → a ≡ b
faces_once [] [] [] h g = refl
faces_once [] [] (k ∷ b) h g = absurd g
faces_once [] (i ∷ a) b h g = absurd h
faces_once (x ∷ xs) [] b h g = absurd h
faces_once (x ∷ xs) (i ∷ a) [] h g = absurd g
faces_once (x ∷ xs) (i ∷ a) (k ∷ b) h g =
    ap (λ (y : Face). y ∷ a) (one_face i k x.1 h.0 g.0) ∙ ap (λ (l : Env). k ∷ l) (faces_once xs a b h.2 g.2)

-- a finding has one text
pub tells_once : (judged : Judged) (a b : List ℕ) → Tells judged a → Tells judged b → a ≡ b
tells_once (Accepts i) a b (e, s, h) (f, t, g) = h ∙ (ap accepted_text (s.whole ∙ sym t.whole) ∙ sym g)
tells_once (Refuses list) a b (e, s, h) (f, t, g) = h ∙ (ap refused_text (s.whole ∙ sym t.whole) ∙ sym g)

other_digit : (a b : ℕ) → a ≡ b → (a < b) ⊎ (b < a) → ⊥
other_digit a b e (inl l) = omega (arith, e, l)
other_digit a b e (inr l) = omega (arith, e, l)

-- what an outcome text tells
pub tells_accepted : (judged : Judged) (export : List ℕ) → Tells judged (accepted_text export) → (i : Face) × (judged ≡ Accepts i) × IsFaceText i export
tells_accepted (Accepts i) export (e, s, h) =
    let same : e ≡ export = cc in
    (i, refl, subst (λ (l : List ℕ). IsFaceText i l) same s)
tells_accepted (Refuses list) export (e, s, h) = absurd (other_digit 49 48 (ap (λ (l : List ℕ). get_or l 0 0) h) (inr (omega arith)))

pub tells_refused : (judged : Judged) (marks : List ℕ) → Tells judged (refused_text marks) → (list : List MarkLine) × (judged ≡ Refuses list) × AreSpelled list marks
tells_refused (Accepts i) marks (e, s, h) = absurd (other_digit 48 49 (ap (λ (l : List ℕ). get_or l 0 0) h) (inl (omega arith)))
tells_refused (Refuses list) marks (e, s, h) =
    let same : e ≡ marks = cc in
    (list, refl, subst (λ (l : List ℕ). AreSpelled list l) same s)

-- a text spells one list of marks
pub one_list : (a b : List MarkLine) (text : List ℕ) → AreSpelled a text → AreSpelled b text → a ≡ b
one_list a b text h g = some_is a b (sym (marks_are_read text a h) ∙ marks_are_read text b g)

-- an outcome text tells one finding
pub told_once : (a b : Judged) (text : List ℕ) → Tells a text → Tells b text → a ≡ b
told_once a (Accepts f) text h (e, s, is) = let x = tells_accepted a e (subst (λ (l : List ℕ). Tells a l) is h) in x.1 ∙ ap Accepts (one_face x.0 f e x.2 s)
told_once a (Refuses list) text h (e, s, is) = let x = tells_refused a e (subst (λ (l : List ℕ). Tells a l) is h) in x.1 ∙ ap Refuses (one_list x.0 list e x.2 s)

pub outcome_once : (load : LoadInput) (a b : List ℕ) → IsOutcome load a → IsOutcome load b → a ≡ b
outcome_once load a b h g =
    let env : h.env ≡ g.env = faces_once load.env h.env g.env h.faces g.faces in
    let judged : h.judged ≡ g.judged = judges_once load.path load.files g.env h.judged g.judged
    (subst (λ (e : Env). Judges load.path load.files e h.judged) env h.judges) g.judges in
    tells_once g.judged a b (subst (λ (j : Judged). Tells j a) judged h.tells) g.tells

pub outcome_of_once : (texts : List (List ℕ)) (a b : List ℕ) → IsOutcomeOf texts a → IsOutcomeOf texts b → a ≡ b
outcome_of_once texts a b h g =
    let load : h.load ≡ g.load = one_load h.load g.load h.lawful.source.named g.lawful.source.named (sym h.is ∙ g.is) in
    outcome_once g.load a b (subst (λ (l : LoadInput). IsOutcome l a) load h.outcome) g.outcome
