use Rattle.bls_entry.proofs.Written.{read_back}
use Rattle.bls_entry.proofs.OneReading.{one_reading}
use Rattle.bls_entry.proofs.laws.entry_readings.Goals as goal

pub returns-clause-one : goal.returns-clause-one
returns-clause-one c = one_reading

pub returns-clause-back : goal.returns-clause-back
returns-clause-back c = read_back
