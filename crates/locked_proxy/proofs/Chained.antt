-- What chains behind locks keep, and what is obtained from them.
use Rattle.std.proofs.Common.{◌≡◌, ℕ, zero, suc, List, [], ◌∷◌, length, map, take, slice_index, Bool, Option, Some, None, IfSome, IfErr, IsTrue, Result, Ok, Err, refl, ap, subst, ◌∙◌, arith}
use Rattle.caibx_fields.specs.Limits.{size_limit}
use Rattle.chunk_proxy.proofs.Held.{all_damaged, all_lack}
use Rattle.chunk_proxy.proofs.Sure.{no_rise}
use Rattle.chunk_proxy.specs.Answers.{given_by_stores}
use Rattle.chunk_proxy.specs.Obtaining.{IsRightChunk, any_size}
use Rattle.chunk_store.specs.Digests.{digest_of}
use Rattle.chunk_store.specs.declared.id.ChunkId.{ChunkId}
use Rattle.chunk_store.specs.declared.id.DigestKind.{DigestKind}
use Rattle.chunk_store.specs.declared.store.Store.{Ghosts as StoreWords}
use Rattle.dsy_base.specs.Counts.{Rose}
use Rattle.dsy_base.specs.Maps.{Map}
use Rattle.locked_proxy.specs.Chains.{IsChainOf, Withholds}
use Rattle.store_chain.specs.Chains.{Chained}
use Rattle.store_chain.specs.Giving.{LacksAll}
use Rattle.store_chain.specs.Queries.{FillsQuery, query_of}
use Rattle.store_chain.specs.declared.refused.Refused.{Refused}
use Rattle.store_chain.specs.declared.refused.Refused.TheVariants as refused

pub some_so : {X : Type 0} (o : Option X) (P Q : X → Type 0) → ((x : X) → P x → Q x) → IfSome o P → IfSome o Q
some_so None P Q f p = tt
some_so (Some x) P Q f p = f x p

-- a chain whose stores were only asked is what it was
pub chain_stays : {S : Type 0} (store : StoreWords S) (kind : DigestKind) (maps : Option (List (Map (List ℕ)))) (places : Option (List (List ℕ))) (old new : Chained S)
    → map store.holds new.stores ≡ map store.holds old.stores → map store.place new.stores ≡ map store.place old.stores → new.kind ≡ old.kind
    → IsChainOf store kind maps places old → IsChainOf store kind maps places new
chain_stays store kind maps places old new held placed same is = record {
  kind = same ∙ is.kind;
  held = some_so maps (λ ms. map store.holds old.stores ≡ map Some ms) (λ ms. map store.holds new.stores ≡ map Some ms) (λ ms h. held ∙ h) is.held;
  places = some_so places (λ ps. map store.place old.stores ≡ ps) (λ ps. map store.place new.stores ≡ ps) (λ ps h. placed ∙ h) is.places;
}

-- what fills the whole room is right
pub right_chunk : (kind : DigestKind) (id : ChunkId) (room n : ℕ) (out b : List ℕ) → room ≡ size_limit → FillsQuery (query_of kind id None room) n out → b ≡ take n out
    → IsRightChunk kind id.0 b
right_chunk kind id room n out b full fills is = record {
  named = ap (digest_of kind) is ∙ fills.wanted.named;
  few = omega (arith, ap length is, full, fills.wanted.fits);
}

module _ {S : Type 0} (faults : S → ℕ) (never_fails : Bool) (sure : (s : S) → IsTrue never_fails → faults s ≡ 0) where
  none_at : IsTrue never_fails → (xs : List S) (k : ℕ) → slice_index (map faults xs) k ≡ 0
  none_at never xs k = quiet_at faults (λ s. sure s never) xs k where
    quiet_at : (f : S → ℕ) → ((s : S) → f s ≡ 0) → (ys : List S) (j : ℕ) → slice_index (map f ys) j ≡ 0
    quiet_at f each [] j = refl
    quiet_at f each (y ∷ ys) zero = each y
    quiet_at f each (y ∷ ys) (suc j) = quiet_at f each ys j

  withholds_by : (kind : DigestKind) (id : ChunkId) (maps : Option (List (Map (List ℕ)))) (r : Refused) (old new : List S) → IfSome maps (λ ms. LacksAll (any_size kind id) ms r)
      → ((s : ℕ) → r ≡ refused.StoreFault s → Rose (slice_index (map faults old) s) (slice_index (map faults new) s)) → Withholds kind maps never_fails id.0 r
  withholds_by kind id maps refused.Missing old new h c = some_so maps (λ ms. LacksAll (any_size kind id) ms refused.Missing) (λ ms. given_by_stores kind ms id.0 ≡ None) (λ ms g. all_lack kind id ms g) h
  withholds_by kind id maps (refused.Damaged s x) old new h c = some_so maps (λ ms. LacksAll (any_size kind id) ms (refused.Damaged s x)) (λ ms. given_by_stores kind ms id.0 ≡ None) (λ ms g. all_damaged kind id x s.number ms g.1) h
  withholds_by kind id maps (refused.StoreFault s) old new h c = λ never. no_rise (slice_index (map faults old) s) (slice_index (map faults new) s) (none_at never old s) (none_at never new s) (c s refl)
  withholds_by kind id maps refused.Memory old new h c = tt

  -- why the stores gave nothing
  pub withholds : (holds : S → Option (Map (List ℕ))) (kind : DigestKind) (id : ChunkId) (room : ℕ) (r : Refused) (old new : List S) → room ≡ size_limit
      → ((ms : List (Map (List ℕ))) → map holds old ≡ map Some ms → LacksAll (query_of kind id None room) ms r)
      → ((s : ℕ) → r ≡ refused.StoreFault s → Rose (slice_index (map faults old) s) (slice_index (map faults new) s))
      → (maps : Option (List (Map (List ℕ)))) → IfSome maps (λ ms. map holds old ≡ map Some ms) → Withholds kind maps never_fails id.0 r
  withholds holds kind id room r old new full lacks cause maps held =
      withholds_by kind id maps r old new (some_so maps (λ ms. map holds old ≡ map Some ms) (λ ms. LacksAll (any_size kind id) ms r) (λ ms e. subst (λ (n : ℕ). LacksAll (query_of kind id None n) ms r) full (lacks ms e)) held) cause

-- the same, where the kind and the maps are named
pub named_err : {S X : Type 0} (holds : S → Option (Map (List ℕ))) (stores : List S) (k kind : DigestKind) (never_fails : Bool) (id : List ℕ) (maps : Option (List (Map (List ℕ)))) (res : Result X Refused)
    → k ≡ kind → IfSome maps (λ ms. map holds stores ≡ map Some ms)
    → IfErr res (λ r. (o : Option (List (Map (List ℕ)))) → IfSome o (λ ms. map holds stores ≡ map Some ms) → Withholds k o never_fails id r) → IfErr res (Withholds kind maps never_fails id)
named_err holds stores k kind never_fails id maps (Ok x) same held h = tt
named_err holds stores k kind never_fails id maps (Err r) same held h = subst (λ (j : DigestKind). Withholds j maps never_fails id r) same (h maps held)
