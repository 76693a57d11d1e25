use Rattle.std.proofs.Common.{arith}
use Rattle.image_store.proofs.Rooms.{room_stays}
use Rattle.image_chop.proofs.chopping.chop_entry.Goals as goal

-- whatever the answer is, the rooms keep their sizes
pub returns-in-Ok-clause-room : goal.returns-in-Ok-clause-room
returns-in-Ok-clause-room g c = room_stays c.args.index.now c.args.rooms.now c.put_entry.new.chunk c.put_entry.new.room c.requires.room
    (omega (arith, c.put_entry.auto.chunk, c.deref_mut.ensures.len)) (omega (arith, c.put_entry.auto.room, c.deref_mut-2.ensures.len))
    (omega (arith, c.put_entry.auto.chunk, c.deref_mut.ensures.len)) (omega (arith, c.put_entry.auto.room, c.deref_mut-2.ensures.len))

pub returns-in-Changed-clause-room : goal.returns-in-Changed-clause-room
returns-in-Changed-clause-room g c = room_stays c.args.index.now c.args.rooms.now c.put_entry.new.chunk c.put_entry.new.room c.requires.room
    (omega (arith, c.put_entry.auto.chunk, c.deref_mut.ensures.len)) (omega (arith, c.put_entry.auto.room, c.deref_mut-2.ensures.len))
    (omega (arith, c.put_entry.auto.chunk, c.deref_mut.ensures.len)) (omega (arith, c.put_entry.auto.room, c.deref_mut-2.ensures.len))

pub returns-in-ImageFault-clause-room : goal.returns-in-ImageFault-clause-room
returns-in-ImageFault-clause-room g c = room_stays c.args.index.now c.args.rooms.now c.put_entry.new.chunk c.put_entry.new.room c.requires.room
    (omega (arith, c.put_entry.auto.chunk, c.deref_mut.ensures.len)) (omega (arith, c.put_entry.auto.room, c.deref_mut-2.ensures.len))
    (omega (arith, c.put_entry.auto.chunk, c.deref_mut.ensures.len)) (omega (arith, c.put_entry.auto.room, c.deref_mut-2.ensures.len))

pub returns-in-StoreFault-clause-room : goal.returns-in-StoreFault-clause-room
returns-in-StoreFault-clause-room g c = room_stays c.args.index.now c.args.rooms.now c.put_entry.new.chunk c.put_entry.new.room c.requires.room
    (omega (arith, c.put_entry.auto.chunk, c.deref_mut.ensures.len)) (omega (arith, c.put_entry.auto.room, c.deref_mut-2.ensures.len))
    (omega (arith, c.put_entry.auto.chunk, c.deref_mut.ensures.len)) (omega (arith, c.put_entry.auto.room, c.deref_mut-2.ensures.len))

pub returns-in-Memory-clause-room : goal.returns-in-Memory-clause-room
returns-in-Memory-clause-room g c = room_stays c.args.index.now c.args.rooms.now c.put_entry.new.chunk c.put_entry.new.room c.requires.room
    (omega (arith, c.put_entry.auto.chunk, c.deref_mut.ensures.len)) (omega (arith, c.put_entry.auto.room, c.deref_mut-2.ensures.len))
    (omega (arith, c.put_entry.auto.chunk, c.deref_mut.ensures.len)) (omega (arith, c.put_entry.auto.room, c.deref_mut-2.ensures.len))
