-- What the outside shows before and after a call, and what work that is done leaves there. This project's own.
use Rattle.std.specs.Prelude.{◌≡◌, ◌⊎◌, ℕ, List, Option, None, Some}
use Rattle.enc_outside.specs.Count.{Rose}
use Rattle.enc_outside.specs.Files.{Files, Told, Writes}
use Rattle.call_files.specs.Output.{IsBegun}
use Rattle.whole_files.specs.Output.{Adds, AddsFront}
use Rattle.call_files.specs.Task.{Task}
use Rattle.report_text.specs.declared.status.Status.{Status}
use Rattle.report_text.specs.declared.status.Status.TheVariants.{Done, WriteFault}

-- what the outside shows, at one moment: the files, how often reads and writes of files failed, what was put, and how often puts failed
pub record Outside : Type 0 where
  pub files : Option Files
  pub read_faults : ℕ
  pub write_faults : ℕ
  pub written : Option (List ℕ)
  pub put_faults : ℕ

abbrev pub outside : Option Files → ℕ → ℕ → Option (List ℕ) → ℕ → Outside
outside files read_faults write_faults written put_faults =
    record { files = files; read_faults = read_faults; write_faults = write_faults; written = written; put_faults = put_faults }

-- nothing was put or tried to be put, and no file changed or was tried to be changed
pub record IsSilent (before after : Outside) : Type 0 where
  pub written : after.written ≡ before.written
  pub put_faults : after.put_faults ≡ before.put_faults
  pub files : after.files ≡ before.files
  pub write_faults : after.write_faults ≡ before.write_faults

-- a file has its bytes now and the others stay, or all stay where there is none to write
abbrev pub AreWritten : Option (List ℕ × List ℕ) → Option Files → Option Files → Type 0
AreWritten None old new = new ≡ old
AreWritten (Some file) old new = Told (Writes file.0 file.1) old new

-- writing a file failed, and the others stay
abbrev pub AreBegun : Option (List ℕ × List ℕ) → Option Files → Option Files → Type 0
AreBegun None old new = ⊥
AreBegun (Some file) old new = Told (IsBegun file.0 file.1) old new

-- the text was put, and then the file was written, and no put and no write failed
pub record IsFinished (task : Task) (before after : Outside) : Type 0 where
  pub written : Told (Adds task.text) before.written after.written
  pub put_faults : after.put_faults ≡ before.put_faults
  pub files : AreWritten task.file before.files after.files
  pub write_faults : after.write_faults ≡ before.write_faults

-- a put failed: a beginning of the text was put, and no file changed or was tried to be changed
pub record IsCutText (task : Task) (before after : Outside) : Type 0 where
  pub rose : Rose before.put_faults after.put_faults
  pub written : Told (AddsFront task.text) before.written after.written
  pub files : after.files ≡ before.files
  pub write_faults : after.write_faults ≡ before.write_faults

-- a write of the file failed, after the text was put whole
pub record IsCutFile (task : Task) (before after : Outside) : Type 0 where
  pub rose : Rose before.write_faults after.write_faults
  pub written : Told (Adds task.text) before.written after.written
  pub put_faults : after.put_faults ≡ before.put_faults
  pub files : AreBegun task.file before.files after.files

abbrev pub IsCut : Task → Outside → Outside → Type 0
IsCut task before after = IsCutText task before after ⊎ IsCutFile task before after

-- where the files are told, no device failed and no rendezvous may give up, the status is the one that words and files ask for, unless memory ran out
pub record IsSmooth (before after : Outside) (files : Files) : Type 0 where
  pub told : before.files ≡ Some files
  pub reads : ¬ (Rose before.read_faults after.read_faults)
  pub writes : ¬ (Rose before.write_faults after.write_faults)
  pub puts : ¬ (Rose before.put_faults after.put_faults)

-- the work was done whole, or a device failed in its course
abbrev pub IsDoneWork : Task → Outside → Outside → Status → Type 0
IsDoneWork task before after Done = IsFinished task before after
IsDoneWork task before after WriteFault = IsCut task before after
IsDoneWork task before after other = ⊥
