-- Views of files.
use Rattle.std.proofs.Common.{◌≡◌, ℕ, ◌<◌, ◌+◌, List, [], ◌∷◌, ◌++◌, take, length, get_or, sym, ap, ◌∙◌, subst, inl, inr, arith}
use Rattle.std.specs.List.{Contains}
use Rattle.std.proofs.lemmas.List.{take_more}
use Rattle.std.proofs.lemmas.List.Elements.{Contains-append_left, Contains-push, Contains-push_cases}
use Rattle.late_list.specs.declared.late.LateFault.{LateFault}
use Rattle.late_list.specs.Late.{IsLate, AreFound}
use Rattle.body_rules.specs.declared.file.File.{File}
use Rattle.body_rules.specs.declared.view.View.{View}
use Rattle.body_rules.specs.Files.{IsFaultIn, node_count}
use Rattle.body_rules.specs.Given.{given}
use Rattle.body_rules.specs.Views.{IsRead, AreViews, IsFaultOf, count_of}

nothing_in : {X : Type 0} (x : X) → Contains [] x → ⊥
nothing_in x (k, low, e) = absurd (omega arith)

pub no_views : (views : List View) → views ≡ [] → AreViews [] views
no_views views is = subst (λ (l : List View). AreViews [] l) (sym is) record {
  read = λ v h. absurd (nothing_in v h);
  «of» = λ v h. absurd (nothing_in v h);
  all = λ f h. absurd (nothing_in f h);
}

pub views_more : (files : List File) (i : ℕ) (f : File) (v : View) (old new : List View) → i < length files → f ≡ get_or files i f → IsRead v → v.file.now ≡ f → new ≡ old ++ v ∷ []
    → AreViews (take i files) old → AreViews (take (i + 1) files) new
views_more files i f v old new low at read own is was =
    subst (λ (l : List File). AreViews l new) (sym (take_more files i f low ∙ ap (λ x. take i files ++ x ∷ []) (sym at)))
    (subst (λ (l : List View). AreViews (take i files ++ f ∷ []) l) (sym is) record {
      read = λ w h. elim (Contains-push_cases old v w h) [ inl before ↦ was.read w before | inr same ↦ subst IsRead same read ];
      «of» = λ w h. elim (Contains-push_cases old v w h) [
        | inl before ↦ Contains-append_left (take i files) (f ∷ []) w.file.now (was.«of» w before)
        | inr same ↦ subst (λ (x : File). Contains (take i files ++ f ∷ []) x) (sym own ∙ ap (λ (x : View). x.file.now) same) (Contains-push (take i files) f)
      ];
      all = λ g h. elim (Contains-push_cases (take i files) f g h) [
        | inl before ↦ (let (w, has, of_g) = was.all g before in (w, Contains-append_left old (v ∷ []) w has, of_g))
        | inr same ↦ (v, Contains-push old v, own ∙ same)
      ];
    })

pub late_of : (files : List File) (views : List View) (list : List LateFault) → AreViews files views
    → AreFound (IsLate (λ (v : View). IsFaultIn (given v.file.now)) (λ (v : View). node_count (given v.file.now)) views) list → AreFound (IsLate IsFaultOf count_of files) list
late_of files views list are listed = λ x. (
  λ h. (let (v, has, late) = (listed x).0 h in (v.file.now, are.«of» v has, late)),
  λ (f, has, (n, low, (rule, (fault, is)))). (let (v, in_views, same) = are.all f has in
      (listed x).1 (v, in_views, (n, subst (λ (g : File). n < count_of g) (sym same) low, (rule, (subst (λ (g : File). IsFaultOf g rule n x.place) (sym same) fault, is))))),
)
