-- What a file store in memory that never fails shows.
use Rattle.std.specs.Prelude.{Option, None, Some, if◌then◌else◌}
use Rattle.enc_outside.specs.Files.{Files}
use Rattle.enc_outside.specs.MemFiles.{files_of}
use Rattle.enc_outside.specs.declared.sure_shelf.SureShelf.{SureShelf}

-- its files
abbrev pub held_files : SureShelf → Files
held_files shelf = files_of shelf.files

-- they are told until memory was refused
abbrev pub told_files : SureShelf → Option Files
told_files shelf = if shelf.told then Some (held_files shelf) else None
