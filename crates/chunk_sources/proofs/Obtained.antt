-- What a chain gives, as what the assembly asks of it.
use Rattle.std.proofs.Common.{◌≡◌, ℕ, List, Some, IfErr, OnOk, Result, Ok, Err, sym, ap, ◌∙◌, subst}
use Rattle.std.specs.List.{Any}
use Rattle.caibx_codec.specs.Listing.{Listing, id_of, kind_of}
use Rattle.chunk_sources.specs.Losses.{chunk_of}
use Rattle.chunk_sources.specs.Wants.{AllOf, IsAmong}
use Rattle.chunk_store.specs.Digests.{digest_of}
use Rattle.chunk_store.specs.declared.id.ChunkId.{ChunkId}
use Rattle.chunk_store.specs.declared.id.DigestKind.{DigestKind}
use Rattle.dsy_base.specs.Maps.{Map}
use Rattle.store_chain.specs.Queries.{IsWanted}
use Rattle.cache_store.specs.Giving.{SomeGives}

-- a store that holds what was wanted gives it
pub holds_gives : (kind : DigestKind) (id : ChunkId) (size : ℕ) (maps : List (Map (List ℕ))) (b : List ℕ) → IsWanted (chunk_of kind id size) b → Any (λ m. m id.0 ≡ Some b) maps
    → SomeGives kind id.0 size maps
holds_gives kind id size maps b right (k, m, inside, at, held) = (k, m, inside, at, (b, held, record { named = right.named; sized = right.sized }))

-- bytes that have the digest of one of these entries have that of the chunk
pub among_named : (l : Listing) (id : List ℕ) (size : ℕ) (entries : List ℕ) → AllOf l id size entries → (b : List ℕ) (i : ℕ) → IsAmong entries i → digest_of (kind_of l) b ≡ id_of l i
    → digest_of (kind_of l) b ≡ id
among_named l id size entries are b i among named = named ∙ (ap (id_of l) (sym among.2) ∙ (are among.0 among.1).id_is)

-- what is known of the kind and size that were asked for is known of those that are sought
pub sized_as : (P : DigestKind → ℕ → Type 0) (kind named : DigestKind) (n size : ℕ) → kind ≡ named → n ≡ size → P kind n → P named size
sized_as P kind named n size same sized has = subst (λ (k : DigestKind). P k size) same (subst (λ (m : ℕ). P kind m) sized has)

pub ok_more : {A E P Q : Type 0} (r : Result A E) → (P → Q) → OnOk r P → OnOk r Q
ok_more (Ok x) f p = f p
ok_more (Err e) f p = tt

pub err_more : {A E : Type 0} {P Q : E → Type 0} (r : Result A E) → ((e : E) → P e → Q e) → IfErr r P → IfErr r Q
err_more (Ok x) f p = tt
err_more (Err e) f p = f e p
