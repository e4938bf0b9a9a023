-- Build constraints: line comments before a file's first token.
use Rattle.std.specs.Prelude.{ℕ, suc, Bool, true, false, cond, ◌==◌, ◌&&◌, ◌||◌, nat_eq, Option, Some, None, List, [], ◌∷◌, drop, codes}
use Rattle.std.specs.List.{starts_with}
use Rattle.go_tree.specs.declared.constraint.Comment.{Comment}
use Rattle.go_tree.specs.declared.constraint.Comment.TheVariants.{Between, Line, Opened, Block, Closed}

-- what stands behind spaces and tabs
abbrev pub behind_blanks : List ℕ → List ℕ
behind_blanks [] = []
behind_blanks (b ∷ bs) = cond (b == 32 || b == 9) (behind_blanks bs) (b ∷ bs)

-- a line comment that begins `//go:build`, or whose text behind spaces and tabs begins `+build`
abbrev pub is_constraint : List ℕ → Bool
is_constraint rest = starts_with nat_eq rest (codes "//go:build") || (starts_with nat_eq rest (codes "//") && starts_with nat_eq (behind_blanks (drop 2 rest)) (codes "+build"))

-- where a byte leads that begins the rest, between comments and inside of them
abbrev pub comment_step : Comment → List ℕ → Comment
comment_step Between rest = cond (starts_with nat_eq rest (codes "//")) Line (cond (starts_with nat_eq rest (codes "/*")) Opened Between)
comment_step Line rest = cond (starts_with nat_eq rest (10 ∷ [])) Between Line
comment_step Opened rest = Block
comment_step Block rest = cond (starts_with nat_eq rest (codes "*/")) Closed Block
comment_step Closed rest = Between

abbrev pub is_between : Comment → Bool
is_between Between = true
is_between _ = false

-- the offset of the first constraint comment
abbrev pub constraint_from : Comment → ℕ → List ℕ → Option ℕ
constraint_from state at [] = None
constraint_from state at (b ∷ bs) = cond (is_between state && is_constraint (b ∷ bs)) (Some at) (constraint_from (comment_step state (b ∷ bs)) (suc at) bs)
