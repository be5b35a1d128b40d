-- The errors of a shared stream by their names. Assumes nothing.
--   DirectError, HandleError     of a direct call, of a handle call
--   lock_held, no_such_handle    what the questions before them answer
use Rattle.handles.specs.declared.error.CallError.{CallError}
use Rattle.handles.specs.declared.error.CallError.TheVariants.{Refused}
use Rattle.handles.specs.declared.error.LockHeld.{LockHeld}
use Rattle.handles.specs.declared.error.NoSuchHandle.{NoSuchHandle}

abbrev pub DirectError : Type 0
DirectError = CallError LockHeld

abbrev pub HandleError : Type 0
HandleError = CallError NoSuchHandle

abbrev pub lock_held : DirectError
lock_held = Refused (record {})

abbrev pub no_such_handle : HandleError
no_such_handle = Refused (record {})
