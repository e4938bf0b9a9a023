-- The marks of a list, one more at a time.
use Rattle.std.proofs.Common.{◌≡◌, ℕ, ◌<◌, ◌+◌, ◌⊎◌, List, [], ◌∷◌, ◌++◌, length, get_or, slice_get, Option, Some, None, IfSome, option_map, refl, sym, ap, ◌∙◌, subst, inl, inr, arith}
use Rattle.std.proofs.lemmas.List.{length_push}
use Rattle.std.proofs.lemmas.Option.{get_or_from_slice_get}
use Rattle.gv_base.proofs.Lists.{push_cases, nothing_there}
use Rattle.typed_marks.specs.declared.item.Stage.TheVariants as st
use Rattle.typed_marks.specs.declared.mark.Mark.{Mark}
use Rattle.typed_marks.specs.declared.state.State.{State}
use Rattle.typed_marks.specs.States.{so_far}
use Rattle.rule_words.specs.Asking.{item}
use Rattle.rule_words.specs.Scenes.{said, IsMarkOf}
use Rattle.duplicate_cases.specs.InCode.{AreSeen}

pub none_seen : (s : State) (file : ℕ) (list : List ℕ) (marks : List (Option Mark)) → marks ≡ [] → AreSeen s file list 0 marks
none_seen s file list marks is = subst (λ (l : List (Option Mark)). AreSeen s file list 0 l) (sym is) record {
  size = refl;
  each = λ i n o there at. absurd (nothing_there o at);
  over = λ i o at. absurd (nothing_there o at);
}

pub seen_more : (s : State) (file : ℕ) (list : List ℕ) (i d : ℕ) (mark : Option Mark) (old new : List (Option Mark)) → new ≡ old ++ mark ∷ []
    → option_map (said s) mark ≡ so_far s (item st.Placed file (get_or list i d)) → IfSome mark (IsMarkOf s) → AreSeen s file list i old → AreSeen s file list (i + 1) new
seen_more s file list i d mark old new is told over was = subst (λ (l : List (Option Mark)). AreSeen s file list (i + 1) l) (sym is) record {
  size = length_push old mark ∙ (let e = was.size in omega arith);
  each = λ j m o there at. elim (push_cases old mark o j at) [
    | inl before ↦ was.each j m o there before
    | inr (last, same) ↦ (let at_i : j ≡ i = last ∙ was.size in
        let one : get_or list i d ≡ m = get_or_from_slice_get list i m d (ap (λ x. slice_get list x) (sym at_i) ∙ there) in
        ap (option_map (said s)) (sym same) ∙ (told ∙ ap (λ x. so_far s (item st.Placed file x)) one))
  ];
  over = λ j o at. elim (push_cases old mark o j at) [
    | inl before ↦ was.over j o before
    | inr (last, same) ↦ subst (λ (x : Option Mark). IfSome x (IsMarkOf s)) same over
  ];
}

pub seen_all : (s : State) (file : ℕ) (list : List ℕ) (i count : ℕ) (marks : List (Option Mark)) → i ≡ count → AreSeen s file list i marks → AreSeen s file list count marks
seen_all s file list i count marks same are = subst (λ n. AreSeen s file list n marks) same are
