-- Chains of stores behind locks, and what is obtained from them.
use Rattle.std.specs.Prelude.{◌≡◌, ℕ, List, [], ◌∷◌, map, Bool, Option, Some, None, IfSome, IsTrue}
use Rattle.std.specs.Option.{option_map}
use Rattle.chunk_proxy.specs.Answers.{given_by_stores}
use Rattle.chunk_store.specs.declared.id.DigestKind.{DigestKind}
use Rattle.chunk_store.specs.declared.store.Store.{Ghosts as StoreWords}
use Rattle.dsy_base.specs.Maps.{Map}
use Rattle.store_chain.specs.Chains.{Chained}
use Rattle.store_chain.specs.declared.refused.Refused.{Refused}
use Rattle.store_chain.specs.declared.refused.Refused.TheVariants as refused

-- the chain names its chunks by this digest; where maps are named, its stores hold them; and where places are named,
-- their folders were taken under these names
pub record IsChainOf {S : Type 0} (store : StoreWords S) (digest : DigestKind) (maps : Option (List (Map (List ℕ))))
    (names : Option (List (List ℕ))) (c : Chained S) : Type 0 where
  pub kind : c.kind ≡ digest
  pub held : IfSome maps (λ ms. map store.holds c.stores ≡ map Some ms)
  pub places : IfSome names (λ ps. map store.place c.stores ≡ ps)

-- why a chain gives no chunk of this id: none of the stores gives it, or a call on one has failed, or there was no
-- memory
abbrev pub Withholds : DigestKind → Option (List (Map (List ℕ))) → Bool → List ℕ → Refused → Type 0
Withholds kind maps never_fails id refused.Missing = IfSome maps (λ ms. given_by_stores kind ms id ≡ None)
Withholds kind maps never_fails id (refused.Damaged s x) = IfSome maps (λ ms. given_by_stores kind ms id ≡ None)
Withholds kind maps never_fails id (refused.StoreFault s) = IsTrue never_fails → ⊥
Withholds kind maps never_fails id refused.Memory = Unit {0}

-- what is known of a proxy without its locks: how many chains it has
pub record ProxyRules : Type 0 where
  pub chains : ℕ

-- what each of these holds, where all tell it
abbrev pub maps_all_told : List (Option (Map (List ℕ))) → Option (List (Map (List ℕ)))
maps_all_told [] = Some []
maps_all_told (None ∷ more) = None
maps_all_told (Some m ∷ more) = option_map (λ ms. m ∷ ms) (maps_all_told more)

-- what the stores of the first chain hold, where all tell it
abbrev pub maps_told : {S : Type 0} → (S → Option (Map (List ℕ))) → List (Chained S) → Option (List (Map (List ℕ)))
maps_told holds [] = None
maps_told holds (c ∷ more) = maps_all_told (map holds c.stores)

-- the names that the folders of the first chain's stores were taken under
abbrev pub chain_places : {S : Type 0} → (S → List ℕ) → List (Chained S) → List (List ℕ)
chain_places place [] = []
chain_places place (c ∷ more) = map place c.stores
