use Rattle.deploy_list.proofs.EntryReads.{entries_read, read_once}
use Rattle.deploy_list.proofs.laws.entries_are_read.Goals as goal

pub returns-clause-read : goal.returns-clause-read
returns-clause-read c = entries_read

pub returns-clause-once : goal.returns-clause-once
returns-clause-once c = read_once
