-- The marks of a package stand in its files.
use Rattle.std.proofs.Common.{◌≡◌, ℕ, zero, suc, ◌<◌, ◌≤◌, List, [], ◌∷◌, length, Some, option_map, slice_get, get_or, map, Contains, refl, sym, ap, ◌∙◌, subst, arith}
use Rattle.std.proofs.lemmas.Option.{same_Some, slice_get_within, slice_get-get_or, slice_get-map, get_or_from_slice_get}
use Rattle.gv_base.specs.declared.place.Place.{Place}
use Rattle.go_tree.specs.Lexeme.{item_of}
use Rattle.go_tree.specs.declared.token.Token.{Token}
use Rattle.go_tree.specs.declared.tree.FileTree.{FileTree}
use Rattle.go_scan.proofs.TokenLaws.{tokens_lie}
use Rattle.parse_file.specs.Verdict.{IsParsed}
use Rattle.check_pkg.specs.declared.refusal.Fault.{Fault}
use Rattle.check_pkg.specs.declared.refusal.Fault.TheVariants.{Rule as RuleFault, Limit as LimitFault}
use Rattle.go_rules.specs.Stages.{rule}
use Rattle.check_pkg.specs.declared.refusal.Refusal.{Refusal}
use Rattle.check_pkg.specs.Packages.{Package}
use Rattle.check_pkg.proofs.StandLemmas.{AreInText, Lies, refusal_stands}
use Rattle.action_graph.specs.declared.marks.MarkLine.{MarkLine}
use Rattle.action_graph.specs.Nodes.{Named}
use Rattle.action_graph.specs.Judging.{Env, Judges, AreParsed, IsPackageOf, fault_line, line_of, text_of}
use Rattle.action_graph.specs.Judging.Judged.{Refuses}
use Rattle.action_graph.proofs.OneList.{contained-had}
use Rattle.action_graph.proofs.OneFinding.{package-spelled}

-- each token of a tree begins in its text
parsed-low : (text : List ℕ) (tree : FileTree) (i : ℕ) (t : Token) → IsParsed text tree → slice_get tree.tokens i ≡ Some t → t.start ≤ length text
parsed-low text tree i t p at =
    let its = ap (λ (x : FileTree). x.tokens) p.spelled.arena in
    let lie = tokens_lie item_of text p.tokens p.lexed i t (ap (λ (ts : List Token). slice_get ts i) its ∙ at) in
    let up = lie.0 in
    let within = lie.1 in
    omega (arith, up, within)

all-low : (files : List Named) (trees : List FileTree) (f i : ℕ) (tree : FileTree) (t : Token) (file : Named) → AreParsed (map text_of files) trees → slice_get trees f ≡ Some tree → slice_get files f ≡ Some file
    → slice_get tree.tokens i ≡ Some t → t.start ≤ length file.1
all-low [] trees f i tree t file h found here at = absurd (let lt : f < 0 = slice_get_within [] f file here in omega (arith, lt))
all-low (x ∷ xs) [] f i tree t file h found here at = absurd h
all-low (x ∷ xs) (s ∷ ss) zero i tree t file h found here at =
    subst (λ (y : Named). t.start ≤ length y.1) (same_Some x file here) (parsed-low x.1 tree i t (subst (λ (y : FileTree). IsParsed x.1 y) (same_Some s tree found) h.0) at)
all-low (x ∷ xs) (s ∷ ss) (suc f) i tree t file h found here at = all-low xs ss f i tree t file h.1 found here at

in-text : (path : List ℕ) (files : List Named) (p : Package) → IsPackageOf path files p → AreInText p
in-text path files p of = record { each = λ f i tree token file found here at. all-low p.files p.trees f i tree token file of.trees found here at }

-- a member of a list that was made of another is made of one of its members
made-of : {X Y : Type 0} (f : X → Y) (xs : List X) (k : ℕ) (y : Y) → slice_get (map f xs) k ≡ Some y → (x : X) × (slice_get xs k ≡ Some x) × (f x ≡ y)
made-of f [] k y h = absurd (let lt : k < 0 = slice_get_within [] k y h in omega (arith, lt))
made-of f (x ∷ xs) zero y h = (x, refl, same_Some (f x) y h)
made-of f (x ∷ xs) (suc k) y h = made-of f xs k y h

line-at : (at : Place) (fault : Fault) → (fault_line at fault).at ≡ at
line-at at (RuleFault rule) = refl
line-at at (LimitFault limit) = refl

-- a place that lies in a package of these files stands in them
stands : (files : List Named) (p : Package) (at : Place) → p.files ≡ files → Lies p at → (at.file < length files) × (at.offset ≤ length (get_or (map text_of files) at.file []))
stands files p at same lies =
    let there : slice_get files at.file ≡ Some lies.file = ap (λ (fs : List Named). slice_get fs at.file) (sym same) ∙ lies.there in
    let text : get_or (map text_of files) at.file [] ≡ lies.file.1 = get_or_from_slice_get (map text_of files) at.file lies.file.1 [] (slice_get-map text_of files at.file ∙ ap (option_map text_of) there) in
    (slice_get_within files at.file lies.file there, subst (λ (bytes : List ℕ). at.offset ≤ length bytes) (sym text) lies.within)

-- the marks that refuse a package stand in its files
pub lines-stand : (path : List ℕ) (files : List Named) (env : Env) (lines : List MarkLine) (m : MarkLine) → Judges path files env (Refuses lines) → Contains lines m
    → (m.at.file < length files) × (m.at.offset ≤ length (get_or (map text_of files) m.at.file []))
unfolding Judges
lines-stand path files env lines m (p, (of, found)) member =
    let refused : List Refusal = found.list in
    let here : slice_get lines member.0 ≡ Some m = slice_get-get_or lines member.0 m member.1 ∙ ap Some member.2 in
    let made = made-of line_of refused member.0 m (ap (λ (l : List MarkLine). slice_get l member.0) (sym found.lines_are) ∙ here) in
    let at : made.0.place ≡ m.at = sym (line-at made.0.place made.0.fault) ∙ ap (λ (x : MarkLine). x.at) made.2 in
    let lies : Lies p made.0.place =
    refusal_stands rule p env found.unit refused found.is (package-spelled path files p of) (in-text path files p of) found.marks made.0 (contained-had refused made.0 member.0 made.1) in
    stands files p m.at of.files (subst (Lies p) at lies)
