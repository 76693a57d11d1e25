-- What groups of stores have said of a chunk that they don't give, and which of them failed.
use Rattle.std.specs.Prelude.{◌≡◌, ◌⊎◌, ℕ, ◌+◌, ◌≤◌, List, IfSome}
use Rattle.std.specs.List.{All}
use Rattle.std.specs.Map.{count_at}
use Rattle.chunk_store.specs.Said.{Said}
use Rattle.command_groups.specs.Groups.{first_store}
use Rattle.command_groups.specs.Numbers.{numbered_by}
use Rattle.command_steps.specs.Dials.{since}
use Rattle.command_steps.specs.Sources.{Storage, said_at, server_at}
use Rattle.command_words.specs.declared.command.Location.{Location}
use Rattle.command_words.specs.declared.command.Location.TheVariants as locations
use Rattle.dsy_base.specs.Counts.{raised}
use Rattle.http_read.specs.Refusals.{IsUnacceptable}
use Rattle.http_read.specs.Remotes.{AtLeast}
use Rattle.dsy_base.specs.Maps.{Map}
use Rattle.store_chain.specs.Giving.{LacksAll}
use Rattle.store_chain.specs.Lists.{FirstAt}
use Rattle.store_chain.specs.Refusals.{HasShown, HasShownBy, Lacks}
use Rattle.store_chain.specs.declared.query.Query.{Query}
use Rattle.store_chain.specs.declared.refused.Refused.{Refused}
use Rattle.store_chain.specs.declared.refused.Refused.TheVariants as refused
use Rattle.store_group.specs.Groups.{said_of}

-- groups that hold these chunks lack the one that is wanted, for this reason, which names stores by these numbers
abbrev pub LacksIn : (ℕ → ℕ) → Query → List (Map (List ℕ)) → Refused → Type 0
LacksIn first c maps r = (by_group : Refused) × (r ≡ numbered_by first by_group) × LacksAll c maps by_group

-- what some store of the group has said
abbrev pub group_said : Storage → Storage → List Location → Said
group_said w v g = said_of (said_at w v) g

-- n calls on the folder have failed, or its count stands at its greatest value; or some calls on connections have and
-- some replies of the server weren't taken, n in all
abbrev pub RoseBy : ℕ → Storage → Storage → Location → Type 0
RoseBy n w v (locations.Folder q) = raised (count_at w.disk.folder_counts q) n ≤ count_at v.disk.folder_counts q
RoseBy n w v (locations.Http host port prefix) = (calls : ℕ) × (replies : ℕ) × (raised 0 n ≤ calls + replies)
    × (raised w.dial.faults calls ≤ v.dial.faults)
    × IfSome (since w.dial.ended v.dial.ended) (AtLeast replies (IsUnacceptable (server_at host port prefix)))

-- each store of the group has failed in e + 1 calls
abbrev pub GroupRose : ℕ → Storage → Storage → List Location → Type 0
GroupRose e w v g = All (RoseBy (e + 1) w v) g

-- when the groups were asked for something, that of this number failed, each before it lacks it, and each after it
-- lacks it or failed too
abbrev pub GroupFailsFirst : (Said → Type 0) → ℕ → Storage → Storage → ℕ → List (List Location) → Type 0
GroupFailsFirst lacks e w v = FirstAt (λ g. lacks (group_said w v g)) (GroupRose e w v)
    (λ g. lacks (group_said w v g) ⊎ GroupRose e w v g)

-- this is the number of the first store of the group that failed
abbrev pub FailsFirstIn : (Said → Type 0) → ℕ → Storage → Storage → ℕ → List (List Location) → Type 0
FailsFirstIn lacks e w v s groups = (k : ℕ) × (s ≡ first_store groups k) × GroupFailsFirst lacks e w v k groups

-- what groups have said that lack a chunk: all have denied it; or this is the first that has shown something else
-- under its id, as its store of this number has, and all lack it; or this is the first that failed, and all others lack
-- it or failed too. The numbers are those of groups
abbrev pub GroupsLack : ℕ → Query → Storage → Storage → List (List Location) → Refused → Type 0
GroupsLack e c w v groups refused.Missing = All (λ g. (group_said w v g).denied c.id.0) groups
GroupsLack e c w v groups (refused.Damaged k x) = FirstAt (λ g. (group_said w v g).denied c.id.0)
    (λ g. HasShown c x (group_said w v g) × HasShownBy k.member c x (group_said w v g))
    (λ g. Lacks c (group_said w v g)) k.number groups
GroupsLack e c w v groups (refused.StoreFault k) = GroupFailsFirst (Lacks c) e w v k groups
GroupsLack e c w v groups refused.Memory = Unit {0}

-- so it was, where the number of a store over all groups is named: of the one that has shown something, and of the
-- first one of the group that failed
abbrev pub HaveLackedIn : ℕ → Query → Storage → Storage → List (List Location) → Refused → Type 0
HaveLackedIn e c w v groups r =
    (by_group : Refused) × (r ≡ numbered_by (first_store groups) by_group) × GroupsLack e c w v groups by_group
