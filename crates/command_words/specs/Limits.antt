-- The limits of each command: how many stores, seeds and indexes it has, how often calls are made again, how large an
-- image in bytes, and that each index has a place.
use Rattle.std.specs.Prelude.{◌≡◌, ◌≤◌, ℕ, List, false, length, sum_by, All}
use Rattle.command_words.specs.declared.command.Command.{Command}
use Rattle.command_words.specs.declared.command.Command.TheVariants as said
use Rattle.command_words.specs.declared.command.Location.{Location}
use Rattle.command_words.specs.Locations.{is_index_url, NamesIndex}

-- each group has a store, all of them have at most 16, and a call that fails is made at most 16 times more
abbrev pub AreFewStores : List (List Location) → ℕ → Type 0
AreFewStores stores retries =
    All (λ (g : List Location). 1 ≤ length g) stores × (sum_by length stores ≤ 16) × (retries ≤ 16)

-- what the table of options allows. An index that is written and those of seeds are files.
abbrev pub Fits : Command → Type 0
Fits (said.Make store sizes workers digest index image) = is_index_url index ≡ false
Fits (said.Extract stores retries seeds cache in_place workers index target) =
    (1 ≤ length stores) × AreFewStores stores retries × (length seeds ≤ 64)
    × All (λ w. is_index_url w ≡ false) seeds × NamesIndex index
Fits (said.Cat stores retries offset size index) =
    (1 ≤ length stores) × AreFewStores stores retries × NamesIndex index
Fits (said.VerifyIndex workers index image) = NamesIndex index
Fits (said.Chop store workers index image) = NamesIndex index
Fits (said.Cache stores retries cache workers indexes) =
    (1 ≤ length stores) × AreFewStores stores retries × (1 ≤ length indexes) × (length indexes ≤ 64)
    × All NamesIndex indexes
Fits (said.ListChunks index) = NamesIndex index
Fits (said.Info stores retries index) = AreFewStores stores retries × NamesIndex index
Fits (said.Prune store indexes) = (1 ≤ length indexes) × (length indexes ≤ 64) × All NamesIndex indexes
Fits (said.Proxy stores retries cache host port workers digest) = (1 ≤ length stores) × AreFewStores stores retries
Fits (said.Demo number size workers digest) = size ≤ 536870912
Fits other = Unit {0}
