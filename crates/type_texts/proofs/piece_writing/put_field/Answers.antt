use Rattle.std.proofs.Common.{◌++◌}
use Rattle.gv_bytes.specs.Spelling.{natural, text}
use Rattle.type_texts.specs.Fields.{truth_of}
use Rattle.type_texts.specs.Pieces.{piece_text}
use Rattle.type_texts.proofs.WriteLaws.{joined}
use Rattle.type_texts.proofs.piece_writing.put_field.Goals as goal

pub returns-clause-written : goal.returns-clause-written
unfolding piece_text
returns-clause-written c =
    joined c.args.out.now.items c.put_names.new.out.items c.put_truth.new.out.items (text c.args.name.now) (text c.args.«package».now) (natural (truth_of c.args.embedded)) c.in_ok-put_names.ensures.written
    c.in_ok-put_truth.ensures
