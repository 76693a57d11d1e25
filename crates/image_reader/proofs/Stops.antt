-- Why reading ended early. `old` is the reader as it was first, `now` as it is.
use Rattle.std.proofs.Common.{◌≡◌, ℕ, ◌≤◌, ◌⊎◌, List, length, map, slice_index, slice_index_or, Some, None, Result, Ok, Err, OnOk, IfErr, refl, sym, ap, subst, ◌∙◌, arith, inl, inr}
use Rattle.std.specs.List.{All, Any}
use Rattle.caibx_codec.specs.Listing.{Rules, id_of, kind_of, size_of}
use Rattle.chunk_store.specs.Giving.{GivesChunk, IsChunk}
use Rattle.chunk_store.specs.declared.id.DigestKind.{DigestKind}
use Rattle.chunk_store.specs.declared.shows.Shows.{Shows}
use Rattle.chunk_store.specs.declared.shows.Shows.TheVariants as shows
use Rattle.chunk_store.specs.declared.store.Giver.{Giver}
use Rattle.chunk_store.specs.declared.store.Store.{Ghosts as StoreWords}
use Rattle.dsy_base.specs.Counts.{Quiet, Rose}
use Rattle.dsy_base.specs.Maps.{Map}
use Rattle.store_chain.proofs.Pairs.{all_of_first}
use Rattle.store_chain.specs.Faults.{EachQuiet}
use Rattle.store_chain.specs.Giving.{Gives, HoldsElse, HoldsNone, LacksAll}
use Rattle.store_chain.specs.Queries.{ShowsElse, query_of}
use Rattle.store_chain.specs.declared.query.Query.{Query}
use Rattle.store_chain.specs.declared.refused.Refused.{Refused}
use Rattle.store_chain.specs.declared.refused.Refused.TheVariants as reason
use Rattle.image_reader.proofs.StoreImages.{stores_right}
use Rattle.image_reader.specs.Covered.{IsCovered, want_of}
use Rattle.image_reader.specs.Images.{IsRange, IsRightInRange, ReadsImage, SomeGivesEntry, image_of_stores}
use Rattle.image_reader.specs.Reading.{ReaderState, RangeStops}
use Rattle.image_reader.specs.Refusals.{MissFails, read_refused_of}
use Rattle.image_reader.specs.declared.refused.ReadRefused.{ReadRefused}
use Rattle.image_reader.specs.declared.refused.ReadRefused.TheVariants as reads
use Rattle.image_reader.specs.declared.want.Want.{Want}

-- one map gives the chunk, so the maps don't lack it
module _ (kind : DigestKind) (w : Want) where
  abbrev pub asked : Query
  asked = query_of kind w.id (Some w.size) w.size

  abbrev pub GivesIt : Map (List ℕ) → Type 0
  GivesIt m = GivesChunk kind w.id.0 w.size (m w.id.0)

  some_is : (x y : List ℕ) → Some x ≡ Some y → x ≡ y
  some_is x y e = cc

  none_gives : (m : Map (List ℕ)) → HoldsNone asked m → GivesIt m → ⊥
  none_gives m none g = let both : None ≡ Some g.0 = sym none ∙ g.1 in absurd (cc)

  shows_not : (x : Shows) (b : List ℕ) → ShowsElse asked b x → IsChunk kind w.id.0 w.size b → ⊥
  shows_not shows.Longer b h chunk = absurd (omega (arith, h, chunk.sized))
  shows_not (shows.Digest y) b h chunk = h.2 (h.1 ∙ chunk.named)
  shows_not (shows.Length k) b h chunk = h.3 (h.2 ∙ chunk.sized)

  else_gives : (x : Shows) (m : Map (List ℕ)) → HoldsElse asked x m → GivesIt m → ⊥
  else_gives x m h g =
      let same : g.0 ≡ h.0 = some_is g.0 h.0 (sym g.1 ∙ h.1) in
      let P : List ℕ → Type 0 = λ b. IsChunk kind w.id.0 w.size b in
      shows_not x h.0 h.2 (subst P same g.2)

  not_given : (m : Map (List ℕ)) → (Gives asked m → ⊥) → GivesIt m → ⊥
  not_given m none g = none (g.0, g.1, record { named = g.2.named; sized = g.2.sized; fits = omega (arith, g.2.sized) })

  all_or_one : (maps : List (Map (List ℕ))) → All (λ m. GivesIt m → ⊥) maps → Any GivesIt maps → ⊥
  all_or_one maps all any =
      let P : Map (List ℕ) → Type 0 = λ m. GivesIt m → ⊥ in
      subst P any.3 (all any.0 any.1 any.2) any.4

  all_none : (maps : List (Map (List ℕ))) → All (HoldsNone asked) maps → All (λ m. GivesIt m → ⊥) maps
  all_none maps all i d lt = none_gives (slice_index_or maps i d) (all i d lt)

  pub lacks_not : (maps : List (Map (List ℕ))) (r : Refused) → LacksAll asked maps r → Any GivesIt maps → ((r ≡ reason.Missing) ⊎ ((s : Giver) × (x : Shows) × (r ≡ reason.Damaged s x))) → ⊥
  lacks_not maps r h any (inl is) =
      let P : Refused → Type 0 = λ x. LacksAll asked maps x in
      all_or_one maps (all_none maps (subst P is h)) any
  lacks_not maps r h any (inr is) =
      let P : Refused → Type 0 = λ x. LacksAll asked maps x in
      all_or_one maps (all_of_first (HoldsNone asked) (HoldsElse asked is.1) (λ m. Gives asked m → ⊥) (λ m. GivesIt m → ⊥) none_gives (else_gives is.1) not_given is.0.number maps (subst P is.2 h).1) any

rose_not : (a b : ℕ) → Rose a b → Quiet a b → ⊥
rose_not a b (inl more) quiet = omega (arith, quiet.same)
rose_not a b (inr most) quiet = omega (arith, quiet.below)

rose_from : (a b c : ℕ) → a ≤ b → Rose b c → Rose a c
rose_from a b c le (inl more) = inl (omega arith)
rose_from a b c le (inr most) = inr most

module _ {S : Type 0} (store : StoreWords S) (at n : ℕ) (old now : ReaderState S) where
  module _ (why : ReadRefused) (stop : RangeStops store at n old now why) where
    abbrev RoseAt : ℕ → Type 0
    RoseAt s = Rose (slice_index (map store.faults old.chain.stores) s) (slice_index (map store.faults now.chain.stores) s)

    by_fault : (r : Refused) (s : ℕ) → MissFails store (want_of old.index stop.entry) r stop.before.chain now.chain → r ≡ reason.StoreFault s → RoseAt s
    by_fault r s (inl refuses) is = rose_from _ _ _ (stop.reads.stores.never_fall s) (refuses.cause s is)
    by_fault r s (inr memory) is = let both : reason.Memory ≡ reason.StoreFault s = sym memory.0 ∙ is in absurd (cc)

    fault_is : (id : Want) (e : ℕ) (r : Refused) (s : ℕ) → read_refused_of e id.id r ≡ reads.StoreFault s → r ≡ reason.StoreFault s
    fault_is id e reason.Missing s h = cc
    fault_is id e (reason.Damaged m x) s h = cc
    fault_is id e (reason.StoreFault m) s h = let same : m ≡ s = cc in ap reason.StoreFault same
    fault_is id e reason.Memory s h = cc

    -- a fault is one of its store
    pub stop_cause : (s : ℕ) → why ≡ reads.StoreFault s → RoseAt s
    stop_cause s is = by_fault stop.refused s stop.fails (fault_is (want_of old.index stop.entry) stop.entry stop.refused s (sym stop.told ∙ is))

  pub read_cause : (result : Result Unit ReadRefused) → IfErr result (RangeStops store at n old now) → (s : ℕ) → result ≡ Err (reads.StoreFault s)
      → Rose (slice_index (map store.faults old.chain.stores) s) (slice_index (map store.faults now.chain.stores) s)
  read_cause (Ok u) stop s is = cc
  read_cause (Err why) stop s is = let same : why ≡ reads.StoreFault s = cc in stop_cause why stop s same

  -- where the chunks are given and nothing fails, there was no memory
  module _ (maps : List (Map (List ℕ))) (told : map store.holds old.chain.stores ≡ map Some maps)
      (quiet : EachQuiet (map store.faults old.chain.stores) (map store.faults now.chain.stores))
      (kind : old.chain.kind ≡ kind_of old.index)
      (given : (i : ℕ) → IsCovered old.index at n i → SomeGivesEntry old.index i maps) where
    module _ (why : ReadRefused) (stop : RangeStops store at n old now why) (out : List ℕ) where
      one_gives : Any (λ m. GivesChunk stop.before.chain.kind (id_of old.index stop.entry) (size_of old.index stop.entry) (m (id_of old.index stop.entry))) maps
      one_gives =
          let P : DigestKind → Type 0 = λ k. Any (λ m. GivesChunk k (id_of old.index stop.entry) (size_of old.index stop.entry) (m (id_of old.index stop.entry))) maps in
          subst P (sym (stop.reads.kind ∙ kind)) (given stop.entry stop.covered)

      cant_lack : (r : Refused) → MissFails store (want_of old.index stop.entry) r stop.before.chain now.chain → ((r ≡ reason.Missing) ⊎ ((s : Giver) × (x : Shows) × (r ≡ reason.Damaged s x))) → ⊥
      cant_lack r (inl refuses) is = lacks_not stop.before.chain.kind (want_of old.index stop.entry) maps r (refuses.lacks maps (stop.reads.stores.held ∙ told)) one_gives is
      cant_lack r (inr memory) (inl is) = let both : reason.Memory ≡ reason.Missing = sym memory.0 ∙ is in absurd (cc)
      cant_lack r (inr memory) (inr is) = let both : reason.Memory ≡ reason.Damaged is.0 is.1 = sym memory.0 ∙ is.2 in absurd (cc)

      by_reason : (r : Refused) → MissFails store (want_of old.index stop.entry) r stop.before.chain now.chain → ReadsImage old.index at maps (Err (read_refused_of stop.entry (want_of old.index stop.entry).id r)) out
      by_reason reason.Missing fails = absurd (cant_lack reason.Missing fails (inl refl))
      by_reason (reason.Damaged s x) fails = absurd (cant_lack (reason.Damaged s x) fails (inr (s, x, refl)))
      by_reason (reason.StoreFault s) fails = absurd (rose_not _ _ (by_fault why stop (reason.StoreFault s) s fails refl) (quiet s))
      by_reason reason.Memory fails = tt

      pub stop_exact : ReadsImage old.index at maps (Err why) out
      stop_exact =
          let P : ReadRefused → Type 0 = λ e. ReadsImage old.index at maps (Err e) out in
          subst P (sym stop.told) (by_reason stop.refused stop.fails)

    -- so the range is read, or there was no memory
    pub read_exact : (rules : Rules old.index) (result : Result Unit ReadRefused) (out : List ℕ) → length out ≡ n → ((t : List ℕ) → IsRightInRange t old.index at n → OnOk result (IsRange old.index at n t out)) → IfErr result (RangeStops store at n old now) → ReadsImage old.index at maps result out
    read_exact rules (Ok u) out size right stop =
        let P : ℕ → Type 0 = λ k. IsRange old.index at k (image_of_stores old.index maps) out in
        subst P (sym size) (right (image_of_stores old.index maps) (stores_right old.index maps rules at n given))
    read_exact rules (Err why) out size right stop = stop_exact why stop out
