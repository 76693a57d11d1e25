-- Storing that goes on.
use Rattle.std.proofs.Common.{◌≡◌, ℕ, ◌+◌, ◌<◌, Result, Ok, refl, sym, ap, subst, ◌∙◌, arith}
use Rattle.caibx_codec.specs.Listing.{Listing, count_of}
use Rattle.chunk_store.specs.declared.store.Store.{Ghosts as StoreWords}
use Rattle.dsy_base.specs.Bytes.{Held}
use Rattle.dsy_base.specs.declared.view.View.{Ghosts as ViewWords}
use Rattle.image_store.proofs.Putting.{ends_on, ends_still}
use Rattle.image_store.specs.Putting.{PuttingEnds, HasPut}
use Rattle.image_store.specs.Storing.{GoesOn, HasRoomFor, IsStoring}
use Rattle.image_store.specs.declared.put_chunks.MakeFault.{MakeFault}
use Rattle.image_store.specs.declared.storing.Storing.{Storing}

module _ {V S : Type 0} (view : ViewWords V) (store : StoreWords S) (l : Listing) where
  pub goes_none : (w : Storing V S) → IsStoring view store l w → GoesOn view store l w w (Ok tt)
  goes_none w is = record { next = is; first = refl; ends = ends_still view store l w.progress.at w.progress.first.value w.image w.store is.at is.put.touched }

  pub goes_on : (a b c : Storing V S) (r : Result Unit MakeFault) → GoesOn view store l a b (Ok tt) → GoesOn view store l b c r → GoesOn view store l a c r
  goes_on a b c r one two = record {
    next = two.next;
    first = two.first ∙ one.first;
    ends = ends_on view store l c.progress.first.value a.image b.image c.image b.store c.store r
        (subst (λ (f : S). PuttingEnds view store l f a.image b.image b.store (Ok tt)) (sym two.first) one.ends) two.ends;
  }

  -- one entry more was seen to
  pub storing_next : (a b : Storing V S) → IsStoring view store l a → a.progress.at < count_of l → b.progress.at ≡ a.progress.at + 1 → view.held b.image ≡ view.held a.image
      → HasRoomFor l b.rooms → HasPut store l (view.held a.image).bytes (a.progress.at + 1) b.progress.first.value b.store b.progress.seen → IsStoring view store l b
  storing_next a b was less at held room put = record {
    size = was.size ∙ sym (ap (λ (h : Held). h.size) held);
    at = omega (arith, at);
    room = room;
    put = subst (λ (h : Held). HasPut store l h.bytes b.progress.at b.progress.first.value b.store b.progress.seen) (sym held)
        (subst (λ (k : ℕ). HasPut store l (view.held a.image).bytes k b.progress.first.value b.store b.progress.seen) (sym at) put);
  }
