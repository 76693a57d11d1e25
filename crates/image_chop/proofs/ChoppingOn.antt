-- Chopping that goes on: one entry more, and the whole way.
use Rattle.std.proofs.Common.{◌≡◌, ℕ, ◌+◌, ◌<◌, ◌≤◌, List, length, Option, IfSome, OnErr, OnOk, Result, Ok, Err, refl, sym, subst, ◌∙◌, arith}
use Rattle.std.specs.Option.{option_map}
use Rattle.caibx_codec.specs.Listing.{Listing, count_of, id_of, image_length, kind_of}
use Rattle.caibx_codec.specs.Right.{IsRightAt}
use Rattle.chunk_store.proofs.Sends.{sends_still}
use Rattle.chunk_store.specs.Asks.{Sends}
use Rattle.chunk_store.specs.Causes.{CountsCause}
use Rattle.chunk_store.specs.declared.id.ChunkId.{ChunkId}
use Rattle.chunk_store.specs.declared.store.Store.{Ghosts as StoreWords}
use Rattle.dsy_base.specs.Bytes.{Held}
use Rattle.dsy_base.specs.Counts.{CountsFaults}
use Rattle.dsy_base.specs.Maps.{Map}
use Rattle.dsy_base.specs.declared.view.View.{Ghosts as ViewWords}
use Rattle.image_chop.proofs.Chopped.{asks_entry, asks_none, asks_whole, length_early, mismatch_early, most_early, right_more, right_none, right_whole, seen_early}
use Rattle.image_store.proofs.Putting.{counts_since, sends_entry}
use Rattle.image_store.proofs.Stored.{files_later, files_more, files_same, holds_more, holds_none, holds_still, lacked_again, said_before, said_more, said_none, stands_later, stands_more, stands_same, tells_on}
use Rattle.image_chop.specs.Chopping.{AsksListed, StopsAt}
use Rattle.image_chop.specs.ChopProgress.{ChoppingEnds, ChopsOn, HasChopped, IsChopping}
use Rattle.image_store.specs.PutChunks.{HasChunk, HoldsAll, KeepsListed, PutsFiles, SaysAll, Stands, TouchesChunk, told_slice}
use Rattle.image_store.specs.Storing.{HasRoomFor}
use Rattle.image_chop.specs.declared.chop.ChopFault.{ChopFault}
use Rattle.image_chop.specs.declared.chop.ChopFault.TheVariants as faults
use Rattle.image_chop.specs.declared.chopping.Chopping.{Chopping}

abbrev ended : ChopFault → Result Unit ChopFault
ended fault = Err fault

-- nothing is chopped yet
pub chopped_none : {S : Type 0} (store : StoreWords S) (l : Listing) (told : Option (List ℕ)) (first : S) → HasChopped store l told 0 first first
chopped_none store l told first = record {
  right = right_none l told;
  holds = holds_none l (store.holds first);
  says = said_none l (store.said first);
  stands = stands_same l told 0 (store.holds first);
  files = files_same l told (store.holds first) 0 (store.folder first);
  asks = asks_none l 0 (store.asked first);
  tells = refl;
  sends = sends_still (KeepsListed l) (store.sent first);
  queries = refl;
  place = refl;
  faults = omega arith;
}

-- entry i was seen to, after those before it
module _ {S : Type 0} (store : StoreWords S) (l : Listing) (told : Option (List ℕ)) (i : ℕ) (first now then : S) (inside : i < count_of l) (was : HasChopped store l told i first now)
    (touched : TouchesChunk store (kind_of l) (id_of l i) (told_slice l i told) now then) where
  abbrev Stood : ℕ → S → Type 0
  Stood k s = IfSome told (λ t. IfSome (store.holds first) (λ old. IfSome (store.holds s) (λ new. Stands l t k old new)))

  abbrev Filed : ℕ → S → Type 0
  Filed k s = PutsFiles l told (store.holds first) k (store.folder first) (store.folder s)

  stood : Stood (i + 1) then
  stood = stands_more l told i (store.holds first) (store.holds now) (store.holds then) touched.puts was.stands

  filed : Filed (i + 1) then
  filed = files_more l told i (store.holds first) (store.holds now) (store.folder first) (store.folder now) (store.folder then) touched.files (lacked_again l told i (store.holds first) (store.holds now) was.tells was.stands) was.files

  asked : AsksListed l (i + 1) (store.asked first) (store.asked then)
  asked = asks_entry l i (store.asked first) (store.asked now) (store.asked then) inside touched.asks was.asks

  sent : Sends (KeepsListed l) (store.sent first) (store.sent then)
  sent = sends_entry l i inside (store.sent first) (store.sent now) (store.sent then) was.sends touched.sends

  pub chopped_more : HasChunk store (kind_of l) (id_of l i) then → IfSome told (λ t. IsRightAt t l i) → store.faults now ≤ store.faults then → HasChopped store l told (i + 1) first then
  chopped_more has right faults = record {
    right = right_more l told i right was.right;
    holds = holds_more l (told_slice l i told) i (store.holds now) (store.holds then) touched.puts has.holds was.holds;
    says = said_more l i (store.said now) (store.said then) touched.said has.says was.says;
    stands = stood;
    files = filed;
    asks = asked;
    tells = tells_on (kind_of l) (id_of l i) (told_slice l i told) (store.holds now) (store.holds then) touched.puts ∙ was.tells;
    sends = sent;
    queries = touched.queries ∙ was.queries;
    place = touched.place ∙ was.place;
    faults = omega (arith, faults, was.faults);
  }

  -- and ended early
  pub chopping_stops : (size : ℕ) → size ≡ image_length l → (fault : ChopFault) → StopsAt l i told fault → ((k : ℕ) (got : ChunkId) → fault ≡ faults.Mismatch k got → then ≡ now)
      → CountsCause faults.StoreFault (store.faults now) (store.faults then) (ended fault) → ChoppingEnds store l told size first then (Err fault)
  chopping_stops size is fault stops untouched counts = record {
    right = tt;
    size_is = length_early l i told size fault stops is;
    first_is = mismatch_early l i told fault inside stops was.right;
    holds = seen_early l i told (λ k. IfSome (store.holds then) (λ m. HoldsAll l k m)) fault stops (holds_none l (store.holds then))
        (λ k got e. subst (λ (s : S). IfSome (store.holds s) (λ m. HoldsAll l i m)) (sym (untouched k got e)) was.holds);
    says = seen_early l i told (λ k. SaysAll l k (store.said then)) fault stops (said_none l (store.said then))
        (λ k got e. subst (λ (s : S). SaysAll l i (store.said s)) (sym (untouched k got e)) was.says);
    changed = most_early l i told (λ k. Stood k then) fault stops (λ k got e. subst (λ (s : S). Stood i s) (sym (untouched k got e)) was.stands)
        (stands_later l told (i + 1) (count_of l) (store.holds first) (store.holds then) (omega (arith, inside)) stood);
    files = most_early l i told (λ k. Filed k then) fault stops (λ k got e. subst (λ (s : S). Filed i s) (sym (untouched k got e)) was.files)
        (files_later l told (store.holds first) (i + 1) (count_of l) (store.folder first) (store.folder then) (omega (arith, inside)) filed);
    order = record {
      stops = record {
        entry = i;
        right = was.right;
        holds = holds_still l (told_slice l i told) i (store.holds now) (store.holds then) touched.puts was.holds;
        changed = stood;
        files = filed;
      };
      says = said_before l i (store.said now) (store.said then) touched.said was.says;
      asks = asked;
    };
    tells = tells_on (kind_of l) (id_of l i) (told_slice l i told) (store.holds now) (store.holds then) touched.puts ∙ was.tells;
    place = touched.place ∙ was.place;
    sends = sent;
    asks = most_early l i told (λ k. AsksListed l k (store.asked first) (store.asked then)) fault stops
        (λ k got e. subst (λ (s : S). AsksListed l i (store.asked first) (store.asked s)) (sym (untouched k got e)) was.asks)
        (asks_whole l (i + 1) (store.asked first) (store.asked then) (omega (arith, inside)) asked);
    queries = touched.queries ∙ was.queries;
    faults = counts_since faults.StoreFault (store.faults first) (store.faults now) (store.faults then) (ended fault) was.faults counts;
  }

-- all were seen to
pub chopping_done : {S : Type 0} (store : StoreWords S) (l : Listing) (told : Option (List ℕ)) (size : ℕ) (first now : S) → size ≡ image_length l → IfSome told (λ t. length t ≡ size)
    → HasChopped store l told (count_of l) first now → ChoppingEnds store l told size first now (Ok tt)
chopping_done store l told size first now is sized was = record {
  right = right_whole l told (count_of l) size (omega arith) is sized was.right;
  size_is = is;
  first_is = tt;
  holds = was.holds;
  says = was.says;
  changed = was.stands;
  files = was.files;
  order = tt;
  tells = was.tells;
  place = was.place;
  sends = was.sends;
  asks = was.asks;
  queries = was.queries;
  faults = record { never_falls = was.faults; cause = λ e. absurd (cc) };
}

module _ {V S : Type 0} (view : ViewWords V) (store : StoreWords S) (l : Listing) where
  pub chops_none : (w : Chopping V S) → IsChopping view store l w → ChopsOn view store l w w (Ok tt)
  chops_none w is = record { next = is; first = refl; ends = tt; kept = refl; image_faults = record { never_falls = omega arith; cause = λ e. absurd (cc); done = refl; unfailed = λ e. refl } }

  pub chops_on : (a b c : Chopping V S) (r : Result Unit ChopFault) → ChopsOn view store l a b (Ok tt) → ChopsOn view store l b c r → ChopsOn view store l a c r
  chops_on a b c r one two = record {
    next = two.next;
    first = two.first ∙ one.first;
    ends = subst (λ (h : Held). OnErr r (ChoppingEnds store l h.bytes h.size c.first.value c.store r)) one.kept two.ends;
    kept = two.kept ∙ one.kept;
    image_faults = subst (λ (n : ℕ). CountsFaults faults.ImageFault faults.Memory n (view.faults c.image) r) one.image_faults.done two.image_faults;
  }

  -- one entry more is chopped
  pub chopping_next : (a b : Chopping V S) → IsChopping view store l a → a.at < count_of l → b.at ≡ a.at + 1 → view.held b.image ≡ view.held a.image → HasRoomFor l b.rooms
      → HasChopped store l (view.held a.image).bytes (a.at + 1) b.first.value b.store → IsChopping view store l b
  chopping_next a b was less at held room chopped = record {
    size = subst (λ (h : Held). image_length l ≡ h.size) (sym held) was.size;
    at = omega (arith, at, less);
    room = room;
    chopped = subst (λ (h : Held). HasChopped store l h.bytes b.at b.first.value b.store) (sym held)
        (subst (λ (k : ℕ). HasChopped store l (view.held a.image).bytes k b.first.value b.store) (sym at) chopped);
  }

  -- it went the whole way
  pub chopping_all : (a b : Chopping V S) (r : Result Unit ChopFault) (first : S) → (view.held a.image).size ≡ image_length l → IfSome (view.held a.image).bytes (λ t. length t ≡ (view.held a.image).size)
      → ChopsOn view store l a b r → OnOk r (count_of l ≤ b.at) → b.first.value ≡ first → ChoppingEnds store l (view.held a.image).bytes (view.held a.image).size first b.store r
  chopping_all a b (Ok u) first is sized on past from =
      let at : b.at ≡ count_of l = omega (arith, past, on.next.at) in
      chopping_done store l (view.held a.image).bytes (view.held a.image).size first b.store is sized
      (subst (λ (f : S). HasChopped store l (view.held a.image).bytes (count_of l) f b.store) from
      (subst (λ (k : ℕ). HasChopped store l (view.held a.image).bytes k b.first.value b.store) at
      (subst (λ (h : Held). HasChopped store l h.bytes b.at b.first.value b.store) on.kept on.next.chopped)))
  chopping_all a b (Err e) first is sized on past from = subst (λ (f : S). ChoppingEnds store l (view.held a.image).bytes (view.held a.image).size f b.store (Err e)) from on.ends
