-- What a reading has read. Assumes nothing.
--   writer_view   what a planned writer over memory is
--   read_of       the view of a reading
use Rattle.std.specs.Prelude.{map, vec_items}
use Rattle.memory_writers.specs.declared.memory.MemoryWriter.{MemoryWriter}
use Rattle.planned_writer.specs.declared.planned.PlannedWriter.{PlannedWriter}
use Rattle.planned_writer.specs.Planned.{planned_view}
use Rattle.handles.specs.Calls.{call_view}
use Rattle.script_reading.specs.declared.reading.Reading.{Reading}
use Rattle.script_reading.specs.Reading.{WriterView, Read}

abbrev pub writer_view : PlannedWriter MemoryWriter → WriterView
writer_view w = planned_view w

abbrev pub read_of : Reading → Read
read_of r = record { writer = writer_view r.writer; slots = vec_items r.slots; calls = map call_view (vec_items r.calls) }
