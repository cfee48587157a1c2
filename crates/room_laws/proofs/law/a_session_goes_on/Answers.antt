use Rattle.room_laws.proofs.Served.{shared_served, local_served, served_later}
use Rattle.room_laws.proofs.law.a_session_goes_on.Goals as goal

pub returns-clause-shared : goal.returns-clause-shared
returns-clause-shared c = shared_served

pub returns-clause-local : goal.returns-clause-local
returns-clause-local c = local_served

pub returns-clause-later : goal.returns-clause-later
returns-clause-later c = served_later
