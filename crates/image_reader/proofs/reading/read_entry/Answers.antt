use Rattle.std.proofs.Common.{◌≡◌, ◌∷◌, take, ap, sym, subst, refl, inr}
use Rattle.caibx_codec.specs.Listing.{id_of}
use Rattle.chunk_store.specs.Asks.{Get}
use Rattle.store_chain.proofs.Kept.{kept_still}
use Rattle.store_chain.specs.Chains.{KeepsStores}
use Rattle.image_reader.specs.Keeping.{Kept}
use Rattle.image_reader.specs.Reading.{MissesWant, reader_state}
use Rattle.image_reader.specs.declared.want.Want.{Want}
use Rattle.image_reader.proofs.reading.read_entry.Goals as goal

pub returns-then-copy-clause-kept : goal.returns-then-copy-clause-kept
returns-then-copy-clause-kept g c = kept_still g.S.Store (λ a. a ≡ Get (id_of c.args.index.now c.args.i)) c.args.chain.now.stores

pub returns-in-Ok-clause-ok : goal.returns-in-Ok-clause-ok
returns-in-Ok-clause-ok g c =
    let k = c.args.kept.now in
    let now = c.read_missed.new.kept in
    let same : c.copy.new.self ≡ k = c.if-copy.ensures.no refl in
    let P : Kept → Type 0 = λ x. now ≡ record x { wants = take x.keep (c.of-want.result ∷ x.wants) } in
    let changed = subst P same c.in-Ok.ensures.changed in
    let M : Want → Type 0 = λ w. MissesWant g.S.Store w (reader_state c.args.index.now c.args.chain.now k) (reader_state c.args.index.now c.read_missed.new.chain now) in
    inr (subst M c.of-want.ensures (record {
      lacked = sym c.if-copy.ensures.value;
      asked = c.in-Ok.ensures.asks;
      got = c.in-Ok.ensures.had;
      stores = c.read_missed.ensures.kept;
      kept = ap (λ (x : Kept). x.wants) changed;
      index = refl;
      keep = ap (λ (x : Kept). x.keep) changed;
    }))

pub returns-in-Ok-clause-kept : goal.returns-in-Ok-clause-kept
returns-in-Ok-clause-kept g c =
    let K : Want → Type 0 = λ w. KeepsStores g.S.Store (λ a. a ≡ Get w.id.0) c.args.chain.now.stores c.read_missed.new.chain.stores in
    subst K c.of-want.ensures c.read_missed.ensures.kept

pub returns-in-Err-clause-kept : goal.returns-in-Err-clause-kept
returns-in-Err-clause-kept g c =
    let K : Want → Type 0 = λ w. KeepsStores g.S.Store (λ a. a ≡ Get w.id.0) c.args.chain.now.stores c.read_missed.new.chain.stores in
    subst K c.of-want.ensures c.read_missed.ensures.kept
