use Rattle.std.proofs.Common.{◌≡◌, ◌++◌, drop, vec_items}
use Rattle.std.specs.Slice.Iter.{iter_rest}
use Rattle.session.specs.Merging.{merged}
use Rattle.session.proofs.play.merge.Given as goal

abbrev pub invariant-loop-slot : goal.invariant-loop-slot
invariant-loop-slot l = merged l.slots l.replies ≡ vec_items l.answers ++ merged (drop l.slot-index l.slots) (iter_rest l.unprinted)
