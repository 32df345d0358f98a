use Rattle.std.proofs.Common.{sym, subst}
use Rattle.keyfile.specs.Entries.{AreEntries}
use Rattle.keyfile.proofs.Written.{read_back}
use Rattle.keyfile.proofs.Entered.{sound_entries}
use Rattle.keyfile.proofs.OneReading.{one_reading}
use Rattle.keyfile.proofs.laws.readings.Goals as goal

pub returns-clause-one : goal.returns-clause-one
returns-clause-one c = one_reading

pub returns-clause-back : goal.returns-clause-back
returns-clause-back c = read_back

pub returns-clause-entries : goal.returns-clause-entries
returns-clause-entries c = λ text entries reads. subst AreEntries (sym reads.3) (sound_entries reads.0 reads.2)
