use Rattle.std.proofs.Common.{refl}
use Rattle.go_parse.specs.Machine.{state_of}
use Rattle.go_parse.proofs.PieceLaws.{end_whole, end_left}
use Rattle.go_parse.proofs.pieces.Reader.end.Goals as goal

pub returns-then-is_whole : goal.returns-then-is_whole
returns-then-is_whole c = end_whole c.args.classes.now c.args.self.stage c.args.self.at c.args.self.deep (state_of c.args.self.parser) c.requires.stands c.requires.inside c.requires.open (c.if-is_whole.ensures.0 refl)

pub returns : goal.returns
returns c = end_left c.args.classes.now c.args.self.stage c.args.self.at c.args.self.deep (state_of c.args.self.parser) (state_of c.args.self.parser) c.requires.stands c.requires.inside c.requires.open (λ z. (let e = c.if-is_whole.ensures.1 z in cc))
