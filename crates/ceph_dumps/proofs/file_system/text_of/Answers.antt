use Rattle.std.proofs.lemmas.Str.{IsUtf8-from_ascii}
use Rattle.ceph_dumps.proofs.Words.{ascii_word}
use Rattle.ceph_dumps.proofs.file_system.text_of.Goals as goal

pub returns-in-Err-clause-memory : goal.returns-in-Err-clause-memory
returns-in-Err-clause-memory c = absurd (c.in-Err.ensures.cases.0 (IsUtf8-from_ascii c.args.word.now (ascii_word c.args.word.now c.requires)))
