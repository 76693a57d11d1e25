-- What can't be where nothing fails: that a source which gives a chunk was passed.
use Rattle.std.proofs.Common.{◌≡◌, ◌≢◌, ℕ, List, Some, sym, subst, inl, inr, arith, slice_index, refl, Option, None, IfSome}
use Rattle.std.proofs.lemmas.List.Elements.{All-weaker}
use Rattle.std.specs.List.{All, Any}
use Rattle.cache_store.specs.Giving.{SomeGives}
use Rattle.chunk_sources.specs.Losses.{chunk_of}
use Rattle.chunk_sources.specs.Sources.{HeldAt, SeedsFailed, SeedsGive}
use Rattle.chunk_store.proofs.Members.{any_so}
use Rattle.chunk_store.specs.Giving.{GivesChunk}
use Rattle.chunk_store.specs.Members.{AllOrNone, GroupsAgree, told_together}
use Rattle.chunk_store.specs.declared.id.ChunkId.{ChunkId}
use Rattle.chunk_store.specs.declared.id.DigestKind.{DigestKind}
use Rattle.dsy_base.specs.Bytes.{Held}
use Rattle.dsy_base.specs.Counts.{Quiet, Rose}
use Rattle.dsy_base.specs.Maps.{Map}
use Rattle.extract_plan.specs.declared.seed.SeedPlace.{SeedPlace}
use Rattle.store_chain.specs.Faults.{EachQuiet}
use Rattle.store_chain.specs.Giving.{Gives, LacksTogether, NoneGives}
use Rattle.store_chain.specs.declared.refused.Refused.{Refused}
use Rattle.store_chain.specs.declared.refused.Refused.TheVariants as refused

pub quiet_never : (a b : ℕ) → Quiet a b → Rose a b → ⊥
quiet_never a b quiet (inl more) = omega (arith, quiet.same)
quiet_never a b quiet (inr full) = omega (arith, quiet.below)

module _ {X : Type 0} (Q : X → Type 0) where
  -- some element does, and none does
  pub none_all : (xs : List X) → All (λ x. Q x → ⊥) xs → Any Q xs → ⊥
  none_all xs none (k, x, inside, at, q) = none k x inside (subst Q (sym at) q)

-- ---- seeds

pub seeds_never : (views : List (Option Held)) (places : List SeedPlace) (id : List ℕ) (old new : List ℕ) → EachQuiet old new
    → SeedsFailed views places id old new → SeedsGive views places id → ⊥
seeds_never views places id old new quiet failed gives =
    none_all (λ (p : SeedPlace). HeldAt views p id) places
    (All-weaker (λ (p : SeedPlace). HeldAt views p id → Rose (slice_index old p.seed) (slice_index new p.seed)) (λ (p : SeedPlace). HeldAt views p id → ⊥)
    (λ p rose has. quiet_never (slice_index old p.seed) (slice_index new p.seed) (quiet p.seed) (rose has)) places failed)
    gives

-- ---- stores

-- those who agree on P agree on what holds just where P does
agree_same : (P Q : Map (List ℕ) → Type 0) → ((m : Map (List ℕ)) → P m → Q m) → ((m : Map (List ℕ)) → Q m → P m) → (groups : List (Option (List (Map (List ℕ))))) → GroupsAgree P groups → GroupsAgree Q groups
agree_same P Q to back groups agree = All-weaker (λ g. IfSome g (AllOrNone P)) (λ g. IfSome g (AllOrNone Q)) alike groups agree where
  alike : (g : Option (List (Map (List ℕ)))) → IfSome g (AllOrNone P) → IfSome g (AllOrNone Q)
  alike None h = tt
  alike (Some ms) h = λ any. All-weaker P Q to ms (h (any_so Q P back ms any))

-- an answer that tells of the stores
abbrev pub Tells : Refused → Type 0
Tells refused.Missing = Unit {0}
Tells (refused.Damaged s x) = Unit {0}
Tells (refused.StoreFault s) = Unit {0}
Tells refused.Memory = ⊥

pub tells_of : (r : Refused) → r ≢ refused.Memory → Tells r
tells_of refused.Missing isnt = tt
tells_of (refused.Damaged s x) isnt = tt
tells_of (refused.StoreFault s) isnt = tt
tells_of refused.Memory isnt = isnt refl

module _ (kind : DigestKind) (id : ChunkId) (size : ℕ) where
  abbrev Chunk : Map (List ℕ) → Type 0
  Chunk m = GivesChunk kind id.0 size (m id.0)

  given : (m : Map (List ℕ)) → Chunk m → Gives (chunk_of kind id size) m
  given m (b, held, is) = (b, held, record { named = is.named; sized = is.sized; fits = omega (arith, is.sized) })

  wanted : (m : Map (List ℕ)) → (Gives (chunk_of kind id size) m → ⊥) → Chunk m → ⊥
  wanted m never chunk = never (given m chunk)

  gives : (m : Map (List ℕ)) → Gives (chunk_of kind id size) m → Chunk m
  gives m (b, held, is) = (b, held, record { named = is.named; sized = is.sized })

  never_any : (groups : List (Option (List (Map (List ℕ))))) (maps : List (Map (List ℕ))) → told_together groups ≡ Some maps → GroupsAgree Chunk groups
      → NoneGives (chunk_of kind id size) groups → SomeGives kind id.0 size maps → ⊥
  never_any groups maps told agree none some =
      none_all Chunk maps (All-weaker (λ m. Gives (chunk_of kind id size) m → ⊥) (λ m. Chunk m → ⊥) wanted maps
      (none maps told (agree_same Chunk (Gives (chunk_of kind id size)) given gives groups agree))) some

  -- where those who answer agree
  pub stores_never : (groups : List (Option (List (Map (List ℕ))))) (maps : List (Map (List ℕ))) → told_together groups ≡ Some maps → GroupsAgree Chunk groups
      → (r : Refused) → Tells r → ((s : ℕ) → r ≡ refused.StoreFault s → ⊥) → LacksTogether (chunk_of kind id size) groups r → SomeGives kind id.0 size maps → ⊥
  stores_never groups maps told agree refused.Missing tells sound lacks some = never_any groups maps told agree lacks some
  stores_never groups maps told agree (refused.Damaged s x) tells sound lacks some = never_any groups maps told agree lacks some
  stores_never groups maps told agree (refused.StoreFault s) tells sound lacks some = sound s refl
  stores_never groups maps told agree refused.Memory tells sound lacks some = tells

  -- quiet stores of which one gives it had no memory
  pub lacked_memory : (groups : List (Option (List (Map (List ℕ))))) (maps : List (Map (List ℕ))) → told_together groups ≡ Some maps → GroupsAgree Chunk groups
      → (r : Refused) → ((s : ℕ) → r ≡ refused.StoreFault s → ⊥) → LacksTogether (chunk_of kind id size) groups r → SomeGives kind id.0 size maps → r ≡ refused.Memory
  lacked_memory groups maps told agree refused.Missing sound lacks some = absurd (stores_never groups maps told agree refused.Missing tt sound lacks some)
  lacked_memory groups maps told agree (refused.Damaged s x) sound lacks some = absurd (stores_never groups maps told agree (refused.Damaged s x) tt sound lacks some)
  lacked_memory groups maps told agree (refused.StoreFault s) sound lacks some = absurd (sound s refl)
  lacked_memory groups maps told agree refused.Memory sound lacks some = refl
