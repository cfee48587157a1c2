use Rattle.export_laws.proofs.TypedScripts.{script_has_its_types}
use Rattle.export_laws.proofs.law.scripts_have_their_types.Goals as goal

pub returns : goal.returns
returns c = script_has_its_types
