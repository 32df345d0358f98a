use Rattle.boot_rows.proofs.Reading.{filed_read, none_wrong, only_written_read, written_read}
use Rattle.boot_rows.proofs.laws.written_lists_are_read.Goals as goal

pub returns-clause-read : goal.returns-clause-read
returns-clause-read c = written_read

pub returns-clause-only : goal.returns-clause-only
returns-clause-only c = only_written_read

pub returns-clause-fault : goal.returns-clause-fault
returns-clause-fault c = none_wrong

pub returns-clause-filed : goal.returns-clause-filed
returns-clause-filed c = filed_read
