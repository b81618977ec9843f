-- Why an image isn't had.
use Rattle.std.specs.declared.fs.locks.TryLockError.{TryLockError}
use Rattle.std.specs.declared.fs.locks.TryLockError.TheVariants as lock
use Rattle.host_io.specs.declared.image.OpenFault.{OpenFault}
use Rattle.host_io.specs.declared.image.OpenFault.TheVariants as opening

-- another program uses it, or it could not be locked
abbrev pub of_locking : TryLockError → OpenFault
of_locking lock.WouldBlock = opening.InUse
of_locking (lock.Error error) = opening.Failed error
