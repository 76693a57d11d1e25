use Rattle.std.proofs.Common.{◌≡◌, ℕ, List, length, take, Ok, inr, refl, subst, ap}
use Rattle.cache_store.proofs.Fetched.{added_from, added_wanted, ok_err, unfound_on}
use Rattle.cache_store.proofs.Stocked.{stocks_looked, stocks_on, stocks_weaker}
use Rattle.cache_store.specs.Shelves.{Shelf}
use Rattle.cache_store.specs.Through.{AddedTo, Unfound}
use Rattle.chunk_store.specs.Asks.{Get}
use Rattle.chunk_store.specs.declared.id.DigestKind.{DigestKind}
use Rattle.dsy_base.specs.Maps.{Map}
use Rattle.store_chain.proofs.Kept.{kept_still}
use Rattle.store_chain.specs.Giving.{GivesFirst}
use Rattle.store_chain.specs.Refusals.{GivenBy}
use Rattle.store_chain.specs.Queries.{IsWanted, query_of}
use Rattle.cache_store.proofs.cached.obtain_through.Goals as goal

pub returns-in_err-n-clause-stores : goal.returns-in_err-n-clause-stores
returns-in_err-n-clause-stores g c = kept_still g.S.Store (λ a. a ≡ Get c.args.id.now.0) c.args.chain.now.stores

pub returns-in-Some-clause-stores : goal.returns-in-Some-clause-stores
returns-in-Some-clause-stores g c = kept_still g.S.Store (λ a. a ≡ Get c.args.id.now.0) c.args.chain.now.stores

pub returns-clause-ends : goal.returns-clause-ends
returns-clause-ends g c =
    let old : Shelf = g.C.Cache.shelf c.args.cache.now in
    let mid : Shelf = g.C.Cache.shelf c.find_first.new.cache in
    let new : Shelf = g.C.Cache.shelf c.keep-kept.new.cache in
    let P : DigestKind → Type 0 = λ k. Unfound (query_of k c.args.id.now c.args.size (length c.args.out.now)) old mid in
    let Q : List ℕ → Type 0 = λ b. AddedTo c.args.id.now.0 b c.keep-kept.result old new in
    let b : List ℕ = take c.in_ok-n-2.n c.obtain.new.out in
    let G : ℕ → Type 0 = λ n. GivenBy g.S.Store.said g.S.Store.faults g.S.Store.may_lack_memory (query_of c.args.chain.now.kind c.args.id.now c.args.size n) b c.args.chain.now.stores c.obtain.new.self.stores in
    let O : ℕ → List (Map (List ℕ)) → Type 0 = λ n maps. GivesFirst g.S.Store.may_lack_memory (query_of c.args.chain.now.kind c.args.id.now c.args.size n) maps b in
    inr (record {
      unfound = unfound_on _ old mid new c.keep-kept.ensures.stocks.never_falls (subst P c.requires.kind (c.in_ok-n.ensures.absent (ap Ok c.in_default.is)));
      added = (refl, subst Q c.split_at.ensures.front (added_from c.args.id.now.0 c.split_at.result.0.now c.keep-kept.result old mid new c.find_first.ensures.kept c.keep-kept.ensures.added));
      asks = c.obtain.ensures.asks;
      found = subst G c.find_first.auto.out c.in_ok-n-2.ensures.found;
      had = c.in_ok-n-2.ensures.had;
      lacks = tt;
      absent = tt;
      first = λ maps told. tt;
      exactly = λ maps told quiet. subst (λ n. O n maps) c.find_first.auto.out (c.in_ok-n-2.ensures.exactly maps told quiet);
      only = λ is. absurd (ok_err _ _ is);
      cause = λ s is. absurd (ok_err _ _ is);
    })

pub returns-clause-added : goal.returns-clause-added
returns-clause-added g c = λ upstream.
    let A : List ℕ → Type 0 = λ b. g.C.Cache.adds c.args.id.now.0 b c.keep-kept.result c.find_first.new.cache c.keep-kept.new.cache in
    record { between = c.find_first.new.cache; looked = c.find_first.ensures.changed; adds = subst A c.split_at.ensures.front c.keep-kept.ensures.changed }

pub returns-clause-stocks : goal.returns-clause-stocks
returns-clause-stocks g c =
    let old : Shelf = g.C.Cache.shelf c.args.cache.now in
    let mid : Shelf = g.C.Cache.shelf c.find_first.new.cache in
    let new : Shelf = g.C.Cache.shelf c.keep-kept.new.cache in
    let b : List ℕ = take c.in_ok-n-2.n c.obtain.new.out in
    let W : ℕ → Type 0 = λ n. IsWanted (query_of c.args.chain.now.kind c.args.id.now c.args.size n) b in
    let given = c.in_ok-n-2.ensures.ok in
    stocks_on _ old mid new (stocks_looked _ old mid c.find_first.ensures.kept) (stocks_weaker (λ q x. (q ≡ c.args.id.now.0) × (x ≡ c.split_at.result.0.now)) _
    (added_wanted g.S.Store.members _ c.args.id.now.0 c.split_at.result.0.now b c.args.chain.now.stores c.split_at.ensures.front (subst W c.find_first.auto.out given.wanted) c.in_ok-n-2.ensures.had) mid new c.keep-kept.ensures.stocks)
