-- The calls that may be syncs.
-- POSIX.1-2017, fsync(); Assise (OSDI 2020), section 3 (optimistic mode: dsync).
use Rattle.assise_names.specs.declared.call.Op.{Op}
use Rattle.assise_names.specs.declared.call.Op.TheVariants.{Fsync as fsync, Dsync as dsync}
use Rattle.assise_machine_calls.specs.declared.sync.SyncCall.{SyncCall}
use Rattle.assise_machine_calls.specs.declared.sync.SyncCall.TheVariants.{Fsync, Dsync}

abbrev pub op_of : SyncCall → Op
op_of Fsync = fsync
op_of Dsync = dsync
