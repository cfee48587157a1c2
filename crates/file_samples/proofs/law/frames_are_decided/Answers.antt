use Rattle.std.proofs.Common.{refl}
use Rattle.frame_spec.specs.FrameDecision.{frame_at, is_leader, is_entry, is_directory}
use Rattle.file_samples.proofs.law.frames_are_decided.Goals as goal

pub returns : goal.returns
unfolding frame_at is_leader is_entry is_directory
returns c = record { entry_maps = refl; overlap = refl; leaders = refl; directories = refl; order = refl; places = refl }
