use Rattle.std.proofs.Common.{◌≡◌, ℕ, List, Option, None, Some, ap, sym, ◌∙◌, subst}
use Rattle.gv_base.specs.Files.{file_at, put_file}
use Rattle.gv_base.specs.Keepers.{bytes_of}
use Rattle.disk.proofs.MemoryLaws.{moved-none, moved-some}
use Rattle.disk.proofs.memory.move_file.Goals as goal

pub returns-in-None-clause-moved : goal.returns-in-None-clause-moved
returns-in-None-clause-moved c =
    moved-none c.args.beside.now c.args.path.now c.args.files.now c.del-there.new.self
    (sym c.get.ensures ∙ sym c.in_ok-bytes.ensures ∙ ap bytes_of c.in-None.is) c.del-there.ensures.del

pub returns-in_ok-put-in-Some-clause-moved : goal.returns-in_ok-put-in-Some-clause-moved
returns-in_ok-put-in-Some-clause-moved c =
    moved-some c.args.beside.now c.args.path.now c.in-Some.bytes.items c.args.files.now c.put.new.self c.del-there-in-Some.new.self c.requires.apart
    (sym c.get.ensures ∙ sym c.in_ok-bytes.ensures ∙ ap bytes_of c.in-Some.is)
    (c.in_ok-put-in-Some.ensures.put ∙ ap (put_file c.args.files.now c.args.path.now) c.as_slice.ensures.value) c.del-there-in-Some.ensures.del
