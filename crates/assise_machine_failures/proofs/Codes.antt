-- Lists of records and of calls have codes, so that two of them are the same in one way at most.
use Rattle.assise_machine_failures.proofs.Common.{List, Coded, codes, LogRecord}
use Rattle.assise_inode_table.specs.Traces.{NumberedCall}

pub coded_records : Coded (List LogRecord)
coded_records = hlevel codes

pub coded_calls : Coded (List NumberedCall)
coded_calls = hlevel codes
