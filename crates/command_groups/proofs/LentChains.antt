-- Chains that are opened, and given back.
use Rattle.std.proofs.Common.{◌≡◌, ◌∙◌, ℕ, suc, List, [], ◌∷◌, slice_index_or, All, sym, ap, subst, arith}
use Rattle.command_groups.specs.Chains.{CanGiveChain, IsChainGiven, IsChainOpened, chain_groups}
use Rattle.command_groups.specs.Groups.{stores_of}
use Rattle.command_groups.specs.Opened.{files_in}
use Rattle.command_steps.proofs.Given.{all_later}
use Rattle.command_steps.proofs.InTurn.{turn_consults}
use Rattle.command_steps.specs.Turns.{GivenInTurn}
use Rattle.command_steps.specs.Sources.{ConsultsStores, Storage, location_files}
use Rattle.command_steps.specs.Stores.{are_folders}
use Rattle.command_steps.specs.declared.any_store.AnyStore.{AnyStore}
use Rattle.command_words.specs.declared.command.Location.{Location}
use Rattle.command_worlds.specs.Worlds.{Reads}
use Rattle.dsy_base.specs.Disk.{Disk}
use Rattle.dsy_base.specs.Links.{DialState}
use Rattle.dsy_base.specs.declared.look.Look.{Ghosts as LookWords}
use Rattle.std.specs.Prelude.{IfSome, IsTrue, map}
use Rattle.store_chain.specs.Chains.{Chained}
use Rattle.store_group.specs.Groups.{Grouped}

module _ {L D K : Type 0} (look : LookWords L) where
  -- what can be given back can be so where no number was forgotten since
  pub chain_later : (d e : Disk) → Reads d e → (c : Chained (Grouped (AnyStore L D K))) → CanGiveChain look d c → CanGiveChain look e c
  chain_later d e r c can = all_later d.folder_counts e.folder_counts r.folder_known (stores_of (chain_groups look c)) can

  pub chains_later : (d e : Disk) → Reads d e → (cs : List (Chained (Grouped (AnyStore L D K)))) → All (CanGiveChain look d) cs → All (CanGiveChain look e) cs
  chains_later d e r cs can = λ n c lt. chain_later d e r (slice_index_or cs n c) (can n c lt)

  module _ (state : D → DialState) where
    -- what was opened over a later disk, and before more was read
    pub chain_over : (d b c e : Disk) → Reads d b → Reads c e → (groups : List (List Location)) (again : ℕ) (x : Chained (Grouped (AnyStore L D K))) → IsChainOpened look state b c groups again x → IsChainOpened look state d e groups again x
    chain_over d b c e r s groups again x is = record {
      found = subst (λ f. IfSome f (λ m. map (files_in look.files) x.stores ≡ map (map (location_files m)) groups)) r.folders is.found;
      located = is.located;
      fresh = is.fresh;
      unused = is.unused;
      given = chain_later c e s x is.given;
    }

    pub chains_over : (d b c e : Disk) → Reads d b → Reads c e → (groups : List (List Location)) (again : ℕ) (xs : List (Chained (Grouped (AnyStore L D K)))) → All (IsChainOpened look state b c groups again) xs → All (IsChainOpened look state d e groups again) xs
    chains_over d b c e r s groups again xs are = λ n x lt. chain_over d b c e r s groups again (slice_index_or xs n x) (are n x lt)

    -- no server was asked where their stores are folders
    pub chains_folders : (groups : List (List Location)) (cs : List (Chained (Grouped (AnyStore L D K)))) (w v : Storage) → All (λ c. chain_groups look c ≡ groups) cs → GivenInTurn (IsChainGiven look state) cs w v → IsTrue (are_folders (stores_of groups)) → v.dial ≡ w.dial
    chains_folders groups [] w v at same all = ap (λ (s : Storage). s.dial) same
    chains_folders groups (c ∷ cs) w v at turn all =
        let here : chain_groups look c ≡ groups = at 0 c (omega arith) in
        turn.2.consults.1 (subst (λ (l : List (List Location)). IsTrue (are_folders (stores_of l))) (sym here) all)
        ∙ chains_folders groups cs w turn.0 (λ n x lt. at (suc n) x (omega (arith, lt))) turn.1 all

    -- they were consulted as stores of these words
    pub chains_consult : (groups : List (List Location)) (cs : List (Chained (Grouped (AnyStore L D K)))) (w v : Storage) → All (λ c. chain_groups look c ≡ groups) cs → GivenInTurn (IsChainGiven look state) cs w v → ConsultsStores (stores_of groups) w v
    chains_consult groups cs w v at turn = (turn_consults (IsChainGiven look state) (λ c a b is. is.consults.0) cs w v turn, chains_folders groups cs w v at turn)
