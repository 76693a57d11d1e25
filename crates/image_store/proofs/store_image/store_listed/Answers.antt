use Rattle.std.proofs.Common.{inr}
use Rattle.caibx_codec.specs.Listing.{kind_of}
use Rattle.image_store.proofs.Answered.{stored_early, stored_whole, few_end, storing_end, counts_same, counts_else}
use Rattle.image_store.proofs.store_image.store_listed.Goals as goal

-- an entry wasn't seen to
pub returns-in-Err-clause-exactly : goal.returns-in-Err-clause-exactly
returns-in-Err-clause-exactly g c = λ k d lt.
    let done = c.store_entries-views.ensures.stored k d lt in
    stored_early (kind_of c.args.index.now) c.args.sizes.now c.args.index.now _ _ _ c.in-Err.fault (λ t. c.image_is_right.ensures.value (kind_of c.args.index.now) c.args.sizes.now t _) (c.requires.index k d lt) (rw c.in-Err.is at done.err) done.touched.stands

pub returns-in-Err-clause-files : goal.returns-in-Err-clause-files
returns-in-Err-clause-files g c = λ k d lt. inr (c.args.index.now, c.requires.index k d lt, (c.store_entries-views.ensures.stored k d lt).touched.files)

pub returns-in-Err-clause-few : goal.returns-in-Err-clause-few
returns-in-Err-clause-few g c = λ e. few_end c.args.index.now _ c.in-Err.fault (rw c.in-Err.is at c.store_entries-views.ensures.once.1.err) (cc)

pub returns-in-Err-clause-only : goal.returns-in-Err-clause-only
returns-in-Err-clause-only g c = storing_end c.args.index.now _ c.in-Err.fault (rw c.in-Err.is at c.store_entries-views.ensures.once.1.err)

pub returns-in-Err-clause-tells : goal.returns-in-Err-clause-tells
returns-in-Err-clause-tells g c = c.store_entries-views.ensures.once.1.touched.tells

pub returns-in-Err-clause-place : goal.returns-in-Err-clause-place
returns-in-Err-clause-place g c = c.store_entries-views.ensures.once.1.touched.place

pub returns-in-Err-clause-asks : goal.returns-in-Err-clause-asks
returns-in-Err-clause-asks g c = λ k d lt. inr (c.args.index.now, c.requires.index k d lt, (c.store_entries-views.ensures.stored k d lt).touched.asks)

pub returns-in-Err-clause-sends : goal.returns-in-Err-clause-sends
returns-in-Err-clause-sends g c = λ k d lt. inr (c.args.index.now, c.requires.index k d lt, (c.store_entries-views.ensures.stored k d lt).touched.asks, (c.store_entries-views.ensures.stored k d lt).touched.sends)

pub returns-in-Err-clause-queries : goal.returns-in-Err-clause-queries
returns-in-Err-clause-queries g c = c.store_entries-views.ensures.once.1.touched.queries

pub returns-in-Err-clause-store_faults : goal.returns-in-Err-clause-store_faults
returns-in-Err-clause-store_faults g c = counts_same c.in-Err.fault _ _ (rw c.in-Err.is at c.store_entries-views.ensures.once.1.faults)

-- each was, and the index is spelled
pub returns-in-Ok-clause-exactly : goal.returns-in-Ok-clause-exactly
returns-in-Ok-clause-exactly g c = λ k d lt.
    let done = c.store_entries-views.ensures.stored k d lt in
    stored_whole (kind_of c.args.index.now) c.args.sizes.now c.args.index.now _ _ _ c.in-Ok.bytes.items (c.requires.index k d lt) (rw c.in_default.is at done.holds) done.touched.stands c.in-Ok.ensures.ok c.in-Ok.ensures.bytes

pub returns-in-Ok-clause-files : goal.returns-in-Ok-clause-files
returns-in-Ok-clause-files g c = λ k d lt. inr (c.args.index.now, c.requires.index k d lt, (c.store_entries-views.ensures.stored k d lt).touched.files)

pub returns-in-Ok-clause-said : goal.returns-in-Ok-clause-said
returns-in-Ok-clause-said g c = λ k d lt. (c.args.index.now, c.requires.index k d lt, c.in-Ok.ensures.ok, c.in-Ok.ensures.bytes, rw c.in_default.is at (c.store_entries-views.ensures.stored k d lt).says)

pub returns-in-Ok-clause-tells : goal.returns-in-Ok-clause-tells
returns-in-Ok-clause-tells g c = c.store_entries-views.ensures.once.1.touched.tells

pub returns-in-Ok-clause-place : goal.returns-in-Ok-clause-place
returns-in-Ok-clause-place g c = c.store_entries-views.ensures.once.1.touched.place

pub returns-in-Ok-clause-asks : goal.returns-in-Ok-clause-asks
returns-in-Ok-clause-asks g c = λ k d lt. inr (c.args.index.now, c.requires.index k d lt, (c.store_entries-views.ensures.stored k d lt).touched.asks)

pub returns-in-Ok-clause-sends : goal.returns-in-Ok-clause-sends
returns-in-Ok-clause-sends g c = λ k d lt. inr (c.args.index.now, c.requires.index k d lt, (c.store_entries-views.ensures.stored k d lt).touched.asks, (c.store_entries-views.ensures.stored k d lt).touched.sends)

pub returns-in-Ok-clause-queries : goal.returns-in-Ok-clause-queries
returns-in-Ok-clause-queries g c = c.store_entries-views.ensures.once.1.touched.queries

pub returns-in-Ok-clause-store_faults : goal.returns-in-Ok-clause-store_faults
returns-in-Ok-clause-store_faults g c = counts_else _ _ _ (λ e. absurd (cc)) c.store_entries-views.ensures.once.1.faults.never_falls

-- there was no memory to spell it
pub returns-in-Err-spell-clause-files : goal.returns-in-Err-spell-clause-files
returns-in-Err-spell-clause-files g c = λ k d lt. inr (c.args.index.now, c.requires.index k d lt, (c.store_entries-views.ensures.stored k d lt).touched.files)

pub returns-in-Err-spell-clause-tells : goal.returns-in-Err-spell-clause-tells
returns-in-Err-spell-clause-tells g c = c.store_entries-views.ensures.once.1.touched.tells

pub returns-in-Err-spell-clause-place : goal.returns-in-Err-spell-clause-place
returns-in-Err-spell-clause-place g c = c.store_entries-views.ensures.once.1.touched.place

pub returns-in-Err-spell-clause-asks : goal.returns-in-Err-spell-clause-asks
returns-in-Err-spell-clause-asks g c = λ k d lt. inr (c.args.index.now, c.requires.index k d lt, (c.store_entries-views.ensures.stored k d lt).touched.asks)

pub returns-in-Err-spell-clause-sends : goal.returns-in-Err-spell-clause-sends
returns-in-Err-spell-clause-sends g c = λ k d lt. inr (c.args.index.now, c.requires.index k d lt, (c.store_entries-views.ensures.stored k d lt).touched.asks, (c.store_entries-views.ensures.stored k d lt).touched.sends)

pub returns-in-Err-spell-clause-queries : goal.returns-in-Err-spell-clause-queries
returns-in-Err-spell-clause-queries g c = c.store_entries-views.ensures.once.1.touched.queries

pub returns-in-Err-spell-clause-store_faults : goal.returns-in-Err-spell-clause-store_faults
returns-in-Err-spell-clause-store_faults g c = counts_else _ _ _ (λ e. absurd (cc)) c.store_entries-views.ensures.once.1.faults.never_falls
