-- The store on the way through the entries of an index: one entry more, and the whole way.
use Rattle.std.proofs.Common.{◌≡◌, ◌≢◌, ◌⊎◌, ℕ, ◌+◌, ◌<◌, ◌≤◌, inl, inr, List, false, Option, Some, None, IfSome, Result, Ok, Err, IfErr, OnOk, refl, sym, ap, subst, ◌∙◌, arith, ◌||◌}
use Rattle.std.specs.BTreeSet.{BTreeSet}
use Rattle.std.specs.Option.{option_map}
use Rattle.std.specs.Str.{bytes_eq}
use Rattle.caibx_codec.proofs.Asks.{get_listed, put_listed}
use Rattle.caibx_codec.specs.Listing.{Listing, count_of, id_of, kind_of, slice_of}
use Rattle.chunk_store.proofs.Sends.{sends_on, sends_weaker}
use Rattle.chunk_store.specs.Asks.{Ask, Get, Put, Sends, Sent}
use Rattle.chunk_store.specs.Causes.{CountsCause}
use Rattle.chunk_store.specs.Digests.{digest_of}
use Rattle.chunk_store.specs.Said.{AskedOnce, KeepsOf}
use Rattle.chunk_store.specs.declared.id.DigestKind.{DigestKind}
use Rattle.chunk_store.specs.declared.store.Store.{Ghosts as StoreWords}
use Rattle.dsy_base.specs.Bytes.{Held}
use Rattle.dsy_base.specs.Counts.{CountsFaults, Rose}
use Rattle.dsy_base.specs.declared.view.View.{Ghosts as ViewWords}
use Rattle.image_store.proofs.Seen.{seen_on, unseen_before}
use Rattle.image_store.proofs.Stored.{asks_later, asks_more, files_later, files_more, holds_again, holds_more, lacked_fresh, others_hold, said_again, said_more, stands_later, stands_more, tells_on}
use Rattle.image_store.specs.PutChunks.{KeepsListed, KeepsNamed, EndsAt, HoldsNamed, IsListedId, PutsEnd, PutsLacked, PutsRight, SaysNamed}
use Rattle.image_store.specs.Putting.{PuttingEnds, HasPut, HasTouched, HoldsStill, SeesTo, is_seen}
use Rattle.image_store.specs.declared.put_chunks.MakeFault.{MakeFault}
use Rattle.image_store.specs.declared.put_chunks.MakeFault.TheVariants as faults

-- what a call for entry i may send
keeps_listed : (l : Listing) (i : ℕ) → i < count_of l → (a : Ask) → KeepsNamed (kind_of l) (id_of l i) a → KeepsListed l a
keeps_listed l i inside a (inl get) = inl (get_listed l i inside (id_of l i) refl a get)
keeps_listed l i inside a (inr put) = inr (put_listed l i inside (id_of l i) refl put.0 put.2 a put.1)

pub sends_entry : (l : Listing) (i : ℕ) → i < count_of l → (r s t : Sent) → Sends (KeepsListed l) r s → Sends (KeepsNamed (kind_of l) (id_of l i)) s t → Sends (KeepsListed l) r t
sends_entry l i inside r s t before here =
    sends_on (KeepsListed l) r s t before (sends_weaker (KeepsNamed (kind_of l) (id_of l i)) (KeepsListed l) (keeps_listed l i inside) s t here)

-- a chunk was asked for and then put
pub sends_both : (id b : List ℕ) (r s t : Sent) → Sends (λ a. a ≡ Get id) r s → Sends (λ a. a ≡ Put id b) s t → Sends (λ a. (a ≡ Get id) ⊎ (a ≡ Put id b)) r t
sends_both id b r s t get put =
    sends_on (λ a. (a ≡ Get id) ⊎ (a ≡ Put id b)) r s t
    (sends_weaker (λ a. a ≡ Get id) (λ a. (a ≡ Get id) ⊎ (a ≡ Put id b)) (λ a e. inl e) r s get)
    (sends_weaker (λ a. a ≡ Put id b) (λ a. (a ≡ Get id) ⊎ (a ≡ Put id b)) (λ a e. inr e) s t put)

pub sends_get : (id b : List ℕ) (r s : Sent) → Sends (λ a. a ≡ Get id) r s → Sends (λ a. (a ≡ Get id) ⊎ (a ≡ Put id b)) r s
sends_get id b r s get = sends_weaker (λ a. a ≡ Get id) (λ a. (a ≡ Get id) ⊎ (a ≡ Put id b)) (λ a e. inl e) r s get

named_ask : (kind : DigestKind) (id b : List ℕ) → digest_of kind b ≡ id → (a : Ask) → (a ≡ Get id) ⊎ (a ≡ Put id b) → KeepsNamed kind id a
named_ask kind id b named a (inl get) = inl get
named_ask kind id b named a (inr put) = inr (b, put, named)

-- and the chunk has the name
pub sends_named : (kind : DigestKind) (id b : List ℕ) (r s : Sent) → digest_of kind b ≡ id → Sends (λ a. (a ≡ Get id) ⊎ (a ≡ Put id b)) r s → Sends (KeepsNamed kind id) r s
sends_named kind id b r s named sends = sends_weaker (λ a. (a ≡ Get id) ⊎ (a ≡ Put id b)) (KeepsNamed kind id) (named_ask kind id b named) r s sends

pub on_ok : {A E : Type 0} (r : Result A E) (P Q R : Type 0) → (P → Q → R) → OnOk r P → OnOk r Q → OnOk r R
on_ok (Ok x) P Q R f p q = f p q
on_ok (Err e) P Q R f p q = tt

pub end_at : (l : Listing) (told : Option (List ℕ)) (i : ℕ) → i < count_of l → (r : Result Unit MakeFault)
    → IfErr r (EndsAt (kind_of l) i (id_of l i) (option_map (λ t. slice_of l t i) told)) → IfErr r (PutsEnd l told)
end_at l told i less (Ok u) end = tt
end_at l told i less (Err (faults.Changed entry was got)) end = changed told end where
  changed : (o : Option (List ℕ)) → EndsAt (kind_of l) i (id_of l i) (option_map (λ t. slice_of l t i) o) (faults.Changed entry was got) → PutsEnd l o (faults.Changed entry was got)
  changed None end = (λ e. end.2 (sym e ∙ end.1), omega (arith, end.0, less), end.1 ∙ sym (ap (id_of l) end.0), tt)
  changed (Some t) end = (λ e. end.2 (sym e ∙ end.1), omega (arith, end.0, less), end.1 ∙ sym (ap (id_of l) end.0), end.3 ∙ ap (λ (k : ℕ). digest_of (kind_of l) (slice_of l t k)) (sym end.0))
end_at l told i less (Err faults.TooManyItems) end = end
end_at l told i less (Err faults.ImageFault) end = tt
end_at l told i less (Err faults.StoreFault) end = tt
end_at l told i less (Err faults.Memory) end = tt

module _ {S : Type 0} (store : StoreWords S) (l : Listing) (told : Option (List ℕ)) (i : ℕ) (first now : S) where
  pub touched_later : (j : ℕ) → i ≤ j → HasTouched store l told i first now → HasTouched store l told j first now
  touched_later j le was = record {
    stands = stands_later l told i j (store.holds first) (store.holds now) le was.stands;
    files = files_later l told (store.holds first) i j (store.folder first) (store.folder now) le was.files;
    tells = was.tells;
    place = was.place;
    asks = asks_later l i j (store.asked first) (store.asked now) le was.asks;
    queries = was.queries;
    sends = was.sends;
    faults = was.faults;
  }

  -- the set of ids after one more was put into it, which is that of entry i
  module _ (id : List ℕ) (is : id ≡ id_of l i) (old new : BTreeSet (List ℕ)) (changed : (q : List ℕ) → is_seen new q ≡ (bytes_eq id q || is_seen old q)) (was : HasPut store l told i first now old) where
    pub put_again : IsListedId l i (id_of l i) → HasPut store l told (i + 1) first now new
    put_again before = record {
      touched = touched_later (i + 1) (omega arith) was.touched;
      holds = holds_again l i (store.holds now) before was.holds;
      says = said_again l i (store.said now) before was.says;
      seen_are = seen_on l i id old new is changed was.seen_are;
      unseen = λ q out. was.unseen q (unseen_before id q old new changed out).1;
    }

    -- and the entry was seen to, which it wasn't before
    module _ (none : is_seen old id ≡ false) (then : S) where
      still : HoldsStill (id_of l i) (store.holds first) (store.holds now)
      still = subst (λ (q : List ℕ). HoldsStill q (store.holds first) (store.holds now)) is (was.unseen id none).1

      fresh : store.asked now (id_of l i) ≡ store.asked first (id_of l i)
      fresh = subst (λ (q : List ℕ). store.asked now q ≡ store.asked first q) is (was.unseen id none).0

      slice : Option (List ℕ)
      slice = option_map (λ t. slice_of l t i) told

      abbrev Changed : Type 0
      Changed = PutsRight (kind_of l) (id_of l i) (option_map (λ t. slice_of l t i) told) (store.holds now) (store.holds then)

      pub touched_more : i < count_of l → Sends (KeepsNamed (kind_of l) (id_of l i)) (store.sent now) (store.sent then) → Changed → PutsLacked (id_of l i) (option_map (λ t. slice_of l t i) told) (store.holds now) (store.folder now) (store.folder then)
          → store.place then ≡ store.place now → AskedOnce (store.asked now) (store.asked then) (id_of l i) → store.queried then ≡ store.queried now → store.faults now ≤ store.faults then
          → HasTouched store l told (i + 1) first then
      touched_more inside sends put files place asks queries faults = record {
        stands = stands_more l told i (store.holds first) (store.holds now) (store.holds then) put was.touched.stands;
        files = files_more l told i (store.holds first) (store.holds now) (store.folder first) (store.folder now) (store.folder then) files (lacked_fresh l told i (store.holds first) (store.holds now) was.touched.tells still) was.touched.files;
        tells = tells_on (kind_of l) (id_of l i) (option_map (λ t. slice_of l t i) told) (store.holds now) (store.holds then) put ∙ was.touched.tells;
        place = place ∙ was.touched.place;
        asks = asks_more l i (store.asked first) (store.asked now) (store.asked then) asks fresh was.touched.asks;
        queries = queries ∙ was.touched.queries;
        sends = sends_entry l i inside (store.sent first) (store.sent now) (store.sent then) was.touched.sends sends;
        faults = omega (arith, faults, was.touched.faults);
      }

      pub put_more : Changed → AskedOnce (store.asked now) (store.asked then) (id_of l i) → ((q : List ℕ) → q ≢ id_of l i → KeepsOf (store.said now) (store.said then) q)
          → HasTouched store l told (i + 1) first then → IfSome (store.holds then) (λ m. HoldsNamed (kind_of l) (id_of l i) (m (id_of l i))) → SaysNamed (kind_of l) (id_of l i) (store.said then)
          → HasPut store l told (i + 1) first then new
      put_more put asks said touched here says = record {
        touched = touched;
        holds = holds_more l (option_map (λ t. slice_of l t i) told) i (store.holds now) (store.holds then) put here was.holds;
        says = said_more l i (store.said now) (store.said then) said says was.says;
        seen_are = seen_on l i id old new is changed was.seen_are;
        unseen = λ q out.
            let before = unseen_before id q old new changed out in
            let other = λ (e : q ≡ id_of l i). before.0 (e ∙ sym is) in (
              asks.others q other ∙ (was.unseen q before.1).0,
              others_hold (kind_of l) (id_of l i) q (option_map (λ t. slice_of l t i) told) (store.holds first) (store.holds now) (store.holds then) put other (was.unseen q before.1).1,
            );
      }

-- how the counts go where no call failed, and where the store was counted before
pub still_counts : {A : Type 0} (n : ℕ) (r : Result A MakeFault) → r ≢ Err faults.ImageFault → CountsFaults faults.ImageFault faults.Memory n n r
still_counts n r other = record { never_falls = omega arith; cause = λ e. absurd (other e); done = done r; unfailed = λ e. refl } where
  done : {A : Type 0} (r : Result A MakeFault) → OnOk r (n ≡ n)
  done (Ok x) = refl
  done (Err e) = tt

rose_since : (first now then : ℕ) → first ≤ now → Rose now then → Rose first then
rose_since first now then le (inl up) = inl (omega arith)
rose_since first now then le (inr top) = inr top

pub counts_since : {A E : Type 0} (failed : E) (first now then : ℕ) (r : Result A E) → first ≤ now → CountsCause failed now then r → CountsCause failed first then r
counts_since failed first now then r le counts = record { never_falls = omega (arith, counts.never_falls); cause = λ e. rose_since first now then le (counts.cause e) }

-- there was no memory to see to entry i
pub put_failed : {V S : Type 0} (view : ViewWords V) (store : StoreWords S) (l : Listing) (i : ℕ) (first : S) (image : V) (now : S) (old new : BTreeSet (List ℕ)) (r : Result Unit MakeFault)
    → i < count_of l → HasPut store l (view.held image).bytes i first now old → r ≡ Err faults.Memory → SeesTo view store l (i + 1) first image image now new r
put_failed view store l i first image now old new r less was is = subst (λ (x : Result Unit MakeFault). SeesTo view store l (i + 1) first image image now new x) (sym is) (record {
  put = tt;
  ends = record {
    touched = touched_later store l (view.held image).bytes i first now (count_of l) (omega (arith, less)) was.touched;
    err = tt;
    kept = refl;
    image_faults = still_counts (view.faults image) (Err faults.Memory) (λ e. absurd (cc));
    store_faults = record { never_falls = was.touched.faults; cause = λ e. absurd (cc) };
  };
})

no_fault : (r : Result Unit MakeFault) (e : MakeFault) → r ≡ Ok tt → r ≢ Err e
no_fault r e is = λ other. absurd (cc)

-- nothing more was done
pub ends_still : {V S : Type 0} (view : ViewWords V) (store : StoreWords S) (l : Listing) (k : ℕ) (first : S) (image : V) (now : S) → k ≤ count_of l
    → HasTouched store l (view.held image).bytes k first now → PuttingEnds view store l first image image now (Ok tt)
ends_still view store l k first image now le was = record {
  touched = touched_later store l (view.held image).bytes k first now (count_of l) le was;
  err = tt;
  kept = refl;
  image_faults = still_counts (view.faults image) (Ok tt) (no_fault (Ok tt) faults.ImageFault refl);
  store_faults = record { never_falls = was.faults; cause = λ e. absurd (no_fault (Ok tt) faults.StoreFault refl e) };
}

-- entries were seen to, and then more of them
pub ends_on : {V S : Type 0} (view : ViewWords V) (store : StoreWords S) (l : Listing) (first : S) (a b c : V) (now then : S) (result : Result Unit MakeFault)
    → PuttingEnds view store l first a b now (Ok tt) → PuttingEnds view store l first b c then result → PuttingEnds view store l first a c then result
ends_on view store l first a b c now then result one two = record {
  touched = subst (λ (h : Held). HasTouched store l h.bytes (count_of l) first then) one.kept two.touched;
  err = subst (λ (h : Held). IfErr result (PutsEnd l h.bytes)) one.kept two.err;
  kept = two.kept ∙ one.kept;
  image_faults = subst (λ (n : ℕ). CountsFaults faults.ImageFault faults.Memory n (view.faults c) result) one.image_faults.done two.image_faults;
  store_faults = two.store_faults;
}
