-- Refusals of a book as those of its journal. This project's own.
use Rattle.cell_findings.specs.declared.refusal.LoadRefusal.{LoadRefusal}
use Rattle.cell_findings.specs.declared.refusal.LoadRefusal.TheVariants as load
use Rattle.commit_book.specs.declared.refusal.BookRefusal.{BookRefusal}
use Rattle.commit_book.specs.declared.refusal.BookRefusal.TheVariants as book
use Rattle.book_journal.specs.declared.refusal.OpenRefusal.{OpenRefusal}
use Rattle.book_journal.specs.declared.refusal.OpenRefusal.TheVariants as open_refusal
use Rattle.book_journal.specs.declared.refusal.KeepRefusal.{KeepRefusal}
use Rattle.book_journal.specs.declared.refusal.KeepRefusal.TheVariants as keep

abbrev pub open_refusal_of : LoadRefusal → OpenRefusal
open_refusal_of load.FindingsFull = open_refusal.FindingsFull
open_refusal_of load.NoMemory = open_refusal.NoMemory

abbrev pub keep_refusal_of : BookRefusal → KeepRefusal
keep_refusal_of book.LogFull = keep.LogFull
keep_refusal_of book.NoMemory = keep.NoMemory
