use Rattle.std.proofs.Common.{refl}
use Rattle.printf_format.proofs.turn.with_verb.Goals as goal

pub returns-clause-begun : goal.returns-clause-begun
returns-clause-begun c =
    let character = c.first_character-verb.ensures.character in (
      refl,
      record {
        flags = c.requires.flags;
        front = c.requires.front;
        size = c.first_character-verb.result.size;
        verb = rw c.rest.ensures at character;
        end = refl;
      },
    )
