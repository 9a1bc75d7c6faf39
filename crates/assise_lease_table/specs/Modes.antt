-- Which modes go together, as those of read and write locks do (POSIX.1-2017, pthread_rwlock_rdlock()): a lease is shared
-- for reading and exclusive for writing. Assise (OSDI 2020), section 3, on CC-NVM's leases.
use Rattle.std.specs.Prelude.{Bool, true, false}
use Rattle.assise_names.specs.declared.mode.Mode.{Mode}
use Rattle.assise_names.specs.declared.mode.Mode.TheVariants.{Read, Write}

-- two holders can't hold an inode in these modes: they can where both read
abbrev pub against : Mode → Mode → Bool
against Read Read = false
against Read Write = true
against Write _ = true

-- a lease of the one mode serves where the other is wanted
abbrev pub strong : Mode → Mode → Bool
strong Write _ = true
strong Read Read = true
strong Read Write = false

-- the mode that serves where either is wanted
abbrev pub stronger : Mode → Mode → Mode
stronger Write _ = Write
stronger Read mode = mode
