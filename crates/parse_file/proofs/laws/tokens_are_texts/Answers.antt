use Rattle.parse_file.proofs.TokenTexts.{parsed_utf8}
use Rattle.parse_file.proofs.laws.tokens_are_texts.Goals as goal

pub returns : goal.returns
returns c = parsed_utf8
