use Rattle.std.proofs.Common.{arith, rules, ap, ◌∙◌}
use Rattle.type_model.specs.Spelling.{word}
use Rattle.type_model.proofs.WordLaws.{is_long, is_word}
use Rattle.type_model.proofs.spelling.long_word.Goals as goal

pub returns : goal.returns
returns c =
    ap word (is_long c.args.bytes.now c.requires)
    ∙ is_word _ _ _ _ _ _ _ _ _ (first_of (search rules, omega arith)) (first_of (search rules, omega arith)) (first_of (search rules, omega arith)) (first_of (search rules, omega arith)) (first_of (search rules, omega arith)) (first_of (search rules, omega arith)) (first_of (search rules, omega arith)) (first_of (search rules, omega arith)) c.from_le_bytes.ensures
