-- Caches that others may fill too: that they may stays, and what such a cache gives. One that nobody else fills gives
-- what it holds.
use Rattle.std.proofs.Common.{◌≡◌, ◌⊎◌, ℕ, ◌<◌, List, [], ◌∷◌, length, map, Option, Some, None, IfSome, is_some, refl, sym, ap, ◌∙◌, subst, inl, inr}
use Rattle.std.proofs.lemmas.Option.{none-some, same_Some}
use Rattle.std.specs.Option.{option_map}
use Rattle.cache_store.specs.Giving.{SomeGives}
use Rattle.cache_store.specs.Shelves.{MayAdd, Others, Shelf, Shelved}
use Rattle.cache_store.specs.declared.cache.Cache.{Ghosts as CacheWords}
use Rattle.caibx_codec.specs.Listing.{Listing, count_of, id_of, kind_of, size_of}
use Rattle.chunk_sources.proofs.Cached.{gives_left, gives_part, gives_right, is_told, stocked_gave}
use Rattle.chunk_sources.specs.AnyCaches.{Suits}
use Rattle.chunk_sources.specs.Caches.{AddsSize, IfShared, IsAlone, Stocked, TakesChunk, TakesListed, cached_in, given_maps, maps_with, seen, shared_maps}
use Rattle.chunk_store.specs.Folders.{chunks}
use Rattle.chunk_store.specs.Giving.{IsChunk}
use Rattle.chunk_store.specs.declared.id.DigestKind.{DigestKind}
use Rattle.chunk_store.specs.declared.store.Store.{Ghosts as StoreWords}
use Rattle.chunk_store.specs.Members.{told_together}
use Rattle.dsy_base.specs.Maps.{Map}
use Rattle.dsy_base.specs.declared.look.Look.{Ghosts as LookWords}

-- ---- a cache that nobody else fills

pub seen_alone : {F : Type 0} (look : LookWords F) (cache : Option (Shelved F)) → IsAlone (seen look cache)
seen_alone look None = tt
seen_alone look (Some s) = refl

pub alone_given : (e : Option Shelf) → IsAlone e → given_maps e ≡ cached_in e
alone_given None alone = refl
alone_given (Some s) alone = ap (maps_with s.files) alone

adds_by : (x : Option Others) (P : Others → Type 0) → x ≡ None → IfSome x P
adds_by x P none = subst (λ (y : Option Others). IfSome y P) (sym none) tt

pub alone_adds : (id : List ℕ) (size : ℕ) (e : Option Shelf) → IsAlone e → AddsSize id size e
alone_adds id size None alone = tt
alone_adds id size (Some s) alone = adds_by s.others (λ o. (b : List ℕ) → MayAdd o.kind o.pairs o.stores id b → length b ≡ size) alone

pub alone_shared : (P : Type 0) (e : Option Shelf) → IsAlone e → IfShared e P
alone_shared P None alone = tt
alone_shared P (Some s) alone = adds_by s.others (λ o. P) alone

-- ---- what may be added

shared_by : (P Q : Type 0) → (P → Q) → (x : Option Others) → IfSome x (λ o. P) → IfSome x (λ o. Q)
shared_by P Q f None p = tt
shared_by P Q f (Some o) p = f p

shared_map : (P Q : Type 0) → (P → Q) → (e : Option Shelf) → IfShared e P → IfShared e Q
shared_map P Q f None p = tt
shared_map P Q f (Some s) p = shared_by P Q f s.others p

-- ---- what stays as chunks are added

module _ (Takes : List ℕ → List ℕ → Type 0) where
  pub alone_on : (e f : Option Shelf) → Stocked Takes e f → IsAlone e → IsAlone f
  alone_on None None stocked alone = tt
  alone_on None (Some t) stocked alone = absurd stocked
  alone_on (Some s) None stocked alone = absurd stocked
  alone_on (Some s) (Some t) stocked alone = stocked.others ∙ alone

  pub adds_on : (id : List ℕ) (size : ℕ) (e f : Option Shelf) → Stocked Takes e f → AddsSize id size e → AddsSize id size f
  adds_on id size None None stocked adds = tt
  adds_on id size None (Some t) stocked adds = absurd stocked
  adds_on id size (Some s) None stocked adds = absurd stocked
  adds_on id size (Some s) (Some t) stocked adds =
      subst (λ (x : Option Others). IfSome x (λ o. (b : List ℕ) → MayAdd o.kind o.pairs o.stores id b → length b ≡ size)) (sym stocked.others) adds

  shared_on : (P : Type 0) (e f : Option Shelf) → Stocked Takes e f → IfShared e P → IfShared f P
  shared_on P None None stocked p = tt
  shared_on P None (Some t) stocked p = absurd stocked
  shared_on P (Some s) None stocked p = absurd stocked
  shared_on P (Some s) (Some t) stocked p = subst (λ (x : Option Others). IfSome x (λ o. P)) (sym stocked.others) p

  own_on : (P : Type 0) (e f : Option Shelf) → Stocked Takes e f → IfSome e (λ s. s.others ≡ None → P) → IfSome f (λ s. s.others ≡ None → P)
  own_on P None None stocked own = tt
  own_on P None (Some t) stocked own = absurd stocked
  own_on P (Some s) None stocked own = absurd stocked
  own_on P (Some s) (Some t) stocked own = λ none. own (sym stocked.others ∙ none)

-- ---- what suits a cache

-- a shelf of one's own whose type names nothing
pub suits_alone : {C S : Type 0} (words : CacheWords C) (store : StoreWords S) (l : Listing) (stores : List S) (e : Option Shelf)
    → (words.pairs ≡ None) × (words.stores ≡ None) → IsAlone e → Suits words store l stores e
suits_alone words store l stores e unnamed alone = record {
  takes = alone_shared ((q b : List ℕ) → TakesListed store l stores q b → MayAdd (kind_of l) words.pairs words.stores q b) e alone;
  own = named e;
} where
  named : (x : Option Shelf) → IfSome x (λ s. s.others ≡ None → (words.pairs ≡ None) × (words.stores ≡ None))
  named None = tt
  named (Some s) = λ none. unnamed

module _ {C S : Type 0} (words : CacheWords C) (store : StoreWords S) (l : Listing) where
  pub suits_on : (Takes : List ℕ → List ℕ → Type 0) (s0 s1 : List S) (e f : Option Shelf) → map store.members s1 ≡ map store.members s0 → Stocked Takes e f
      → Suits words store l s0 e → Suits words store l s1 f
  suits_on Takes s0 s1 e f same stocked suits =
      let All : List S → Type 0 = λ s. (q b : List ℕ) → TakesListed store l s q b → MayAdd (kind_of l) words.pairs words.stores q b in
      record {
        takes = shared_map (All s0) (All s1)
            (λ may q b takes. may q b (takes.0, takes.1, (takes.2.0, takes.2.1, λ maps told. takes.2.2 maps (ap told_together same ∙ told))))
            f (shared_on Takes (All s0) e f stocked suits.takes);
        own = own_on Takes ((words.pairs ≡ None) × (words.stores ≡ None)) e f stocked suits.own;
      }

  -- what is added for one entry
  pub takes_entry : (stores : List S) (e : Option Shelf) → Suits words store l stores e → (i : ℕ) → i < count_of l → (kind : DigestKind) → kind ≡ kind_of l
      → (id : List ℕ) → id ≡ id_of l i → (size : ℕ) → size ≡ size_of l i
      → IfShared e ((b : List ℕ) → TakesChunk store kind id size stores id b → MayAdd kind words.pairs words.stores id b)
  takes_entry stores e suits i inside kind named id is size sized =
      shared_map ((q b : List ℕ) → TakesListed store l stores q b → MayAdd (kind_of l) words.pairs words.stores q b)
      ((b : List ℕ) → TakesChunk store kind id size stores id b → MayAdd kind words.pairs words.stores id b)
      (λ may b takes. subst (λ (k : DigestKind). MayAdd k words.pairs words.stores id b) (sym named) (may id b (
        i,
        inside,
        subst (λ (k : DigestKind). TakesChunk store k (id_of l i) (size_of l i) stores id b) named
            (subst (λ (n : ℕ). TakesChunk store kind (id_of l i) n stores id b) sized (subst (λ (x : List ℕ). TakesChunk store kind x size stores id b) is takes)),
      )))
      e suits.takes

-- ---- what it gives

-- what the stores hold from which others fill it
abbrev rest : Option Others → Option (List (Map (List ℕ)))
rest None = Some []
rest (Some o) = o.stores

shared_parts : (m : Map (List ℕ)) (x : Option (List (Map (List ℕ)))) (was : List (Map (List ℕ))) → option_map (λ maps. chunks m ∷ maps) x ≡ Some was
    → (r : List (Map (List ℕ))) × (x ≡ Some r) × (was ≡ chunks m ∷ r)
shared_parts m None was told = absurd (none-some was told)
shared_parts m (Some r) was told = (r, refl, sym (same_Some (chunks m ∷ r) was told))

-- what is given is what is held, and the rest
record Parts (files : Option (Map (List ℕ))) (x : Option Others) (was : List (Map (List ℕ))) : Type 0 where
  first : Map (List ℕ)
  others : List (Map (List ℕ))
  holds : files ≡ Some first
  told : rest x ≡ Some others
  given : was ≡ chunks first ∷ others

with_parts : (files : Option (Map (List ℕ))) (x : Option Others) (was : List (Map (List ℕ))) → maps_with files x ≡ Some was → Parts files x was
with_parts None None was told = absurd (none-some was told)
with_parts None (Some o) was told = absurd (none-some was told)
with_parts (Some m) None was told = record { first = m; others = []; holds = refl; told = refl; given = sym (same_Some (chunks m ∷ []) was told) }
with_parts (Some m) (Some o) was told =
    let p = shared_parts m o.stores was told in
    record { first = m; others = p.0; holds = refl; told = p.1; given = p.2 }

with_told : (files : Option (Map (List ℕ))) (x : Option Others) (m : Map (List ℕ)) (r : List (Map (List ℕ))) → files ≡ Some m → rest x ≡ Some r
    → maps_with files x ≡ Some (chunks m ∷ r)
with_told files None m r is told = ap (λ (f : Option (Map (List ℕ))). maps_with f None) is ∙ ap (λ (q : List (Map (List ℕ))). Some (chunks m ∷ q)) (same_Some [] r told)
with_told files (Some o) m r is told =
    ap (λ (f : Option (Map (List ℕ))). shared_maps f o.stores) is ∙ ap (λ (x : Option (List (Map (List ℕ)))). shared_maps (Some m) x) told

module _ (Takes : List ℕ → List ℕ → Type 0) where
  -- it still tells
  pub given_told : (e f : Option Shelf) (was : List (Map (List ℕ))) → Stocked Takes e f → given_maps e ≡ Some was → (now : List (Map (List ℕ))) × (given_maps f ≡ Some now)
  given_told None None was stocked told = ([], refl)
  given_told None (Some t) was stocked told = absurd stocked
  given_told (Some s) None was stocked told = absurd stocked
  given_told (Some s) (Some t) was stocked told =
      let p = with_parts s.files s.others was told in
      let n = is_told t.files (stocked.told ∙ ap (λ o. is_some o) p.holds) in
      (chunks n.0 ∷ p.others, with_told t.files t.others n.0 p.others n.1 (ap rest stocked.others ∙ p.told))

  -- what it gives now it gave before, or it was added
  pub given_gave : (kind : DigestKind) (id : List ℕ) (size : ℕ) (e f : Option Shelf) (was now : List (Map (List ℕ))) → Stocked Takes e f → given_maps e ≡ Some was → given_maps f ≡ Some now
      → SomeGives kind id size now → SomeGives kind id size was ⊎ ((b : List ℕ) × Takes id b × IsChunk kind id size b)
  given_gave kind id size None None was now stocked told tells gives = stocked_gave Takes kind id size None None was now stocked told tells gives
  given_gave kind id size None (Some t) was now stocked told tells gives = absurd stocked
  given_gave kind id size (Some s) None was now stocked told tells gives = absurd stocked
  given_gave kind id size (Some s) (Some t) was now stocked told tells gives =
      let p = with_parts s.files s.others was told in
      let q = with_parts t.files t.others now tells in
      let Gives : List (Map (List ℕ)) → Type 0 = SomeGives kind id size in
      let same : q.others ≡ p.others = same_Some q.others p.others (sym q.told ∙ ap rest stocked.others ∙ p.told) in
      elim (gives_part kind id size (chunks q.first ∷ []) q.others (subst Gives q.given gives)) [
        | inl here ↦ elim (stocked_gave Takes kind id size (Some s) (Some t) (chunks p.first ∷ []) (chunks q.first ∷ []) stocked
            (ap (λ (f : Option (Map (List ℕ))). option_map (λ m. chunks m ∷ []) f) p.holds) (ap (λ (f : Option (Map (List ℕ))). option_map (λ m. chunks m ∷ []) f) q.holds) here) [
              | inl before ↦ inl (subst Gives (sym p.given) (gives_left kind id size (chunks p.first ∷ []) p.others before))
              | inr taken ↦ inr taken
            ]
        | inr there ↦ inl (subst Gives (sym p.given) (gives_right kind id size (chunks p.first ∷ []) p.others (subst Gives same there)))
      ]
