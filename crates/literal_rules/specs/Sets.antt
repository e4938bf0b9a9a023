-- What is noted of keys, in code.
use Rattle.std.specs.Prelude.{ℕ, nat_eq, Bool, List, [], ◌∷◌, if◌then◌else◌, Option, None, option_map, option_and_then}
use Rattle.std.specs.HashSet.{HashSet, contains_by}
use Rattle.gv_base.specs.declared.constant.Const.{Const}
use Rattle.gv_base.specs.declared.constant.Const.TheVariants as const
use Rattle.typed_marks.specs.declared.mark.Facts.{Facts}
use Rattle.typed_marks.specs.declared.mark.Mark.{Mark}
use Rattle.typed_marks.specs.declared.mark.Mark.TheVariants as m
use Rattle.typed_marks.specs.declared.state.State.{State}
use Rattle.typed_marks.specs.Meanings.{constant_at}
use Rattle.rule_words.specs.Again.{nth_of}
use Rattle.rule_words.specs.Met.{spelled_int}

-- whether the number is noted
abbrev pub has : {S : Type 0} → HashSet ℕ S → ℕ → Bool
has met n = contains_by (λ key. nat_eq n key) met

-- ---- constants, spelled: of which form, and the value

abbrev pub spelled_const : Const → List ℕ
spelled_const (const.Int z) = spelled_int z
spelled_const (const.Truth b) = 2 ∷ (if b then 1 else 0) ∷ []
spelled_const (const.Text t) = 3 ∷ t

-- with the number of the type
abbrev pub spelled : ℕ → Const → List ℕ
spelled of c = of ∷ spelled_const c

abbrev pub spelled_facts : State → Facts → Option (List ℕ)
spelled_facts s x = option_map (spelled x.last.0) (constant_at s.constants.items x.value)

abbrev pub spelled_mark : State → Mark → Option (List ℕ)
spelled_mark s (m.Good facts) = spelled_facts s facts
spelled_mark s (m.Bad rule) = None
spelled_mark s (m.Outside limit) = None
spelled_mark s m.Silent = None
spelled_mark s (m.Wants demand want) = None
spelled_mark s (m.Declared of) = None

abbrev pub spelled_key : State → List (Option Mark) → ℕ → Option (List ℕ)
spelled_key s keys i = option_and_then (spelled_mark s) (nth_of keys i)
