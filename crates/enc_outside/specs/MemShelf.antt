-- What a file store in memory shows.
use Rattle.std.specs.Prelude.{ℕ}
use Rattle.enc_outside.specs.Files.{Files}
use Rattle.enc_outside.specs.MemFiles.{files_of}
use Rattle.enc_outside.specs.declared.mem_shelf.MemShelf.{MemShelf}

-- its files
abbrev pub mem_files : MemShelf → Files
mem_files shelf = files_of shelf.files

-- how often a read and a write failed
abbrev pub failed_reads : MemShelf → ℕ
failed_reads shelf = shelf.read_faults

abbrev pub failed_writes : MemShelf → ℕ
failed_writes shelf = shelf.write_faults
