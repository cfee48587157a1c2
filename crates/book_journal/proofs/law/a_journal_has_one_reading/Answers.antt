use Rattle.book_journal.proofs.Readings.{one_reading}
use Rattle.book_journal.proofs.Texts.{one_text}
use Rattle.book_journal.proofs.law.a_journal_has_one_reading.Goals as goal

pub returns : goal.returns
returns c = λ cell. one_reading (one_text c.a_text_has_one_reading.ensures) cell
