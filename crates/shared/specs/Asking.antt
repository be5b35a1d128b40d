-- How a handle's state and its call decide together what a poll meets. Assumes nothing.
--   met       no such handle, answered at once, or the lock is wanted
--   wanting   the handle that wants the lock: it stands in line until it learns that it holds it
use Rattle.std.specs.Prelude.{Ok, Err, Result}
use Rattle.handles.specs.declared.error.NoSuchHandle.{NoSuchHandle}
use Rattle.handles.specs.declared.handle.HandleState.{HandleState}
use Rattle.handles.specs.declared.handle.HandleState.TheVariants.{Ready, Locking, Locked, Closed, Dropped}
use Rattle.promises.specs.SharedView.{HandleView}
use Rattle.shared.specs.declared.locked_async.table.changes.Request.{Request}
use Rattle.shared.specs.declared.locked_async.table.changes.Request.TheVariants.{Nothing, Write, Flush}
use Rattle.shared.specs.declared.locked_async.table.changes.Met.{Met}
use Rattle.shared.specs.declared.locked_async.table.changes.Met.TheVariants.{Answered, Joins, InLine}

abbrev pub met_open : Request → Met → Result Met NoSuchHandle
met_open Nothing m = Ok Answered
met_open Write m = Ok m
met_open Flush m = Ok m

abbrev pub met : HandleState → Request → Result Met NoSuchHandle
met Dropped r = Err (record {})
met Closed r = Ok Answered
met Ready r = met_open r Joins
met Locking r = met_open r InLine
met Locked r = met_open r InLine

abbrev pub wanting : Result Met NoSuchHandle → HandleView → HandleView
wanting (Err refusal) x = x
wanting (Ok Answered) x = x
wanting (Ok Joins) x = record { state = Locking; mark = x.mark }
wanting (Ok InLine) x = record { state = Locking; mark = x.mark }
