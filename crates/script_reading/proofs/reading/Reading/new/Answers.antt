use Rattle.std.proofs.Common.{◌≡◌, replicate, vec_items}
use Rattle.script_reading.proofs.Readings.{nothing_read}
use Rattle.script_reading.proofs.reading.Reading.new.Goals as goal

pub returns : goal.returns
returns c =
    let zeros : vec_items c.in_ok-memory.memory ≡ replicate 32768 0 = c.in_ok-memory.ensures.items_if_clones_equal (λ y h. h) in
    nothing_read c.new-2.result c.new.result (vec_items c.in_ok-memory.memory) (vec_items c.new-3.result) (vec_items c.new-4.result) c.new-2.ensures.made c.new.ensures.made zeros c.new-3.ensures.items c.new-4.ensures.items
