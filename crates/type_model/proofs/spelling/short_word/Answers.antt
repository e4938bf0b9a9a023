use Rattle.std.proofs.Common.{◌-◌, ◌/◌, arith, rules, refl, length, get_or, ap, ◌∙◌}
use Rattle.type_model.specs.Spelling.{word}
use Rattle.type_model.proofs.WordLaws.{is_short, is_word}
use Rattle.type_model.proofs.spelling.short_word.Goals as goal

pub returns : goal.returns
returns c =
    let bs = c.args.bytes.now in
    ap word (is_short bs (length bs) refl c.requires.few)
    ∙ is_word (get_or bs 0 0) (get_or bs (length bs / 2) 0) (get_or bs (length bs - 1) 0) 0 0 0 0 0 c.from_le_bytes.result (first_of (search rules, omega arith)) (first_of (search rules, omega arith))
    (first_of (search rules, omega arith)) (omega arith) (omega arith) (omega arith) (omega arith) (omega arith) c.from_le_bytes.ensures
