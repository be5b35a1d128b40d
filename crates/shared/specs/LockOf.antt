-- The queue of a lock. Assumes nothing.
--   queue_of   the handles in it, the holder first
use Rattle.std.specs.Prelude.{ℕ, List}
use Rattle.shared.specs.declared.locked_async.lock.Lock.{Lock}

abbrev pub queue_of : Lock → List ℕ
queue_of l = l.queue.items
