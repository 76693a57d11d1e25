-- Asks for the chunk of one entry.
use Rattle.std.proofs.Common.{◌≡◌, ℕ, ◌<◌, List, ◌∙◌, ap}
use Rattle.chunk_store.specs.Asks.{Ask, Get, Has, Put}
use Rattle.chunk_store.specs.Digests.{digest_of}
use Rattle.caibx_codec.specs.Asks.{IsListedGet, IsListedHas, IsListedPut}
use Rattle.caibx_codec.specs.Listing.{Listing, count_of, id_of, kind_of}

module _ (l : Listing) (i : ℕ) (inside : i < count_of l) (id : List ℕ) (is : id ≡ id_of l i) where
  pub get_listed : (a : Ask) → a ≡ Get id → IsListedGet l a
  get_listed a asked = record { entry = i; listed = inside; asked = asked ∙ ap Get is }

  pub has_listed : (a : Ask) → a ≡ Has id → IsListedHas l a
  has_listed a asked = record { entry = i; listed = inside; asked = asked ∙ ap Has is }

  pub put_listed : (b : List ℕ) → digest_of (kind_of l) b ≡ id → (a : Ask) → a ≡ Put id b → IsListedPut l a
  put_listed b named a asked = record { entry = i; listed = inside; bytes = b; asked = asked ∙ ap (λ q. Put q b) is; named = named ∙ is }
