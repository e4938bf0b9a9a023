use Rattle.std.proofs.Common.{arith, rules, refl, length, ap, ◌∙◌}
use Rattle.type_model.specs.Spelling.{word}
use Rattle.type_model.proofs.WordLaws.{is_middle, is_word}
use Rattle.type_model.proofs.spelling.middle_word.Goals as goal

pub returns : goal.returns
returns c =
    ap word (is_middle c.args.bytes.now (length c.args.bytes.now) refl c.requires.some c.requires.few)
    ∙ is_word _ _ _ _ _ _ _ _ _ (first_of (search rules, omega arith)) (first_of (search rules, omega arith)) (first_of (search rules, omega arith)) (first_of (search rules, omega arith)) (first_of (search rules, omega arith)) (first_of (search rules, omega arith)) (first_of (search rules, omega arith)) (first_of (search rules, omega arith)) c.from_le_bytes.ensures
