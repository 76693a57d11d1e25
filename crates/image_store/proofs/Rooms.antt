-- Rooms that were written.
use Rattle.std.proofs.Common.{◌≡◌, ℕ, List, length, vec_len, ap, arith}
use Rattle.std.proofs.lemmas.List.{with_items_is}
use Rattle.std.specs.Vec.{with_items}
use Rattle.caibx_codec.specs.Listing.{Listing}
use Rattle.image_store.specs.Storing.{HasRoomFor}
use Rattle.image_store.specs.declared.storing.Rooms.{Rooms}

-- each has its length, and so what had room has it
pub room_stays : (l : Listing) (rooms : Rooms) (chunk room : List ℕ) → HasRoomFor l rooms → length chunk ≡ vec_len rooms.chunk → length room ≡ vec_len rooms.room
    → length chunk ≡ length rooms.chunk.items → length room ≡ length rooms.room.items
    → HasRoomFor l (record { chunk = with_items rooms.chunk chunk; room = with_items rooms.room room })
room_stays l rooms chunk room has one two old_chunk old_room =
    let chunk_is = ap length (with_items_is rooms.chunk chunk one) in
    let room_is = ap length (with_items_is rooms.room room two) in
    record {
      chunk = λ i listed. omega (arith, has.chunk i listed, chunk_is, old_chunk);
      room = λ i listed. omega (arith, has.room i listed, room_is, old_room);
    }
