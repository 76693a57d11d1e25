-- Groups all of whose folders give a chunk have refused it only where one of them failed.
use Rattle.std.proofs.Common.{arith, ◌⊎◌, ◌≡◌, ◌≢◌, ◌∙◌, ℕ, zero, suc, ◌+◌, ◌<◌, length, List, [], ◌∷◌, Option, Some, None, IsSomeAnd, refl, subst, sym, inl, inr}
use Rattle.std.proofs.lemmas.List.Elements.{All-head, All-tail, All-weaker}
use Rattle.std.proofs.lemmas.Option.{none-some, same_Some}
use Rattle.std.specs.List.{All, Any}
use Rattle.std.specs.Option.{option_map}
use Rattle.caibx_codec.specs.Listing.{Listing, id_of, kind_of, size_of}
use Rattle.chunk_sources.proofs.Lacking.{none_all}
use Rattle.chunk_sources.specs.Losses.{chunk_of}
use Rattle.chunk_store.proofs.Members.{any_cons}
use Rattle.chunk_store.specs.Folders.{chunks}
use Rattle.chunk_store.specs.Giving.{GivesChunk, IsChunk}
use Rattle.chunk_store.specs.Said.{Said, said_by}
use Rattle.chunk_store.specs.declared.id.ChunkId.{ChunkId}
use Rattle.chunk_store.specs.declared.id.DigestKind.{DigestKind}
use Rattle.chunk_store.specs.declared.shows.Shows.{Shows}
use Rattle.chunk_store.specs.declared.shows.Shows.TheVariants as shows
use Rattle.command_groups.specs.Groups.{first_store}
use Rattle.command_groups.specs.Lacking.{GroupRose, GroupsLack, HaveLackedIn, RoseBy, group_said}
use Rattle.command_groups.specs.Numbers.{numbered_by}
use Rattle.command_steps.specs.Sources.{Storage, StoreRose, files_at, said_at}
use Rattle.command_words.specs.declared.command.Location.{Location}
use Rattle.command_words.specs.declared.command.Location.TheVariants as locations
use Rattle.desync_cli.proofs.Climbs.{NoneRose}
use Rattle.desync_cli.proofs.Grouped.{store_rose}
use Rattle.desync_cli.specs.AtHand.{GroupGivesEntry, StoreGivesEntry}
use Rattle.dsy_base.specs.Maps.{Map}
use Rattle.store_chain.specs.Lists.{FirstAt}
use Rattle.store_chain.specs.Queries.{ShowsElse}
use Rattle.store_chain.specs.Refusals.{HasShown, HasShownBy, Lacks}
use Rattle.store_chain.specs.declared.query.Query.{Query}
use Rattle.store_chain.specs.declared.refused.Refused.{Refused}
use Rattle.store_chain.specs.declared.refused.Refused.TheVariants as refused
use Rattle.store_group.specs.Groups.{SomeStore}

-- one element is told from those before it and those after it, and Q holds of none of them
module _ {X : Type 0} (Q : X → Type 0) where
  none_first : (B A C : X → Type 0) → ((x : X) → B x → Q x → ⊥) → ((x : X) → A x → Q x → ⊥) → ((x : X) → C x → Q x → ⊥)
      → (n : ℕ) (xs : List X) → FirstAt B A C n xs → Any Q xs → ⊥
  none_first B A C b a c n [] first any = absurd first
  none_first B A C b a c zero (x ∷ xs) first any = elim (any_cons Q x xs any) [
    | inl q ↦ a x first.0 q
    | inr later ↦ none_all Q xs (All-weaker C (λ y. Q y → ⊥) c xs first.1) later
  ]
  none_first B A C b a c (suc n) (x ∷ xs) first any = elim (any_cons Q x xs any) [
    | inl q ↦ b x first.0 q
    | inr later ↦ none_first B A C b a c n xs first.1 later
  ]

-- ---- what stores lack

-- a store that has said this lacks the chunk of entry k: it has denied its id, or shown bytes under it that aren't it
abbrev LacksEntry : Listing → ℕ → Said → Type 0
LacksEntry l k s = s.denied (id_of l k) ⊎ (s.longer (id_of l k) (size_of l k)
    ⊎ ((b : List ℕ) × s.shown (id_of l k) b × (IsChunk (kind_of l) (id_of l k) (size_of l k) b → ⊥)))

-- bytes that show something else aren't the chunk
shown_else : (kind : DigestKind) (id : ChunkId) (size : ℕ) (b : List ℕ) (x : Shows) → ShowsElse (chunk_of kind id size) b x → IsChunk kind id.0 size b → ⊥
shown_else kind id size b shows.Longer h c = absurd (omega (arith, h, c.sized))
shown_else kind id size b (shows.Digest x) h c = h.2 (h.1 ∙ c.named)
shown_else kind id size b (shows.Length n) h c = h.3 (h.2 ∙ c.sized)

-- what a store has said that lacks it is of the entry
entry_lacks : (l : Listing) (n : ℕ) (id : ChunkId) (s : Said) → id.0 ≡ id_of l n → Lacks (chunk_of (kind_of l) id (size_of l n)) s → LacksEntry l n s
entry_lacks l n id s named h = subst Lacked named (go h) where
  Lacked : List ℕ → Type 0
  Lacked q = s.denied q ⊎ (s.longer q (size_of l n) ⊎ ((b : List ℕ) × s.shown q b × (IsChunk (kind_of l) q (size_of l n) b → ⊥)))

  go : Lacks (chunk_of (kind_of l) id (size_of l n)) s → Lacked id.0
  go (inl none) = inl none
  go (inr (shows.Longer, h)) = inr (inl h)
  go (inr (shows.Digest x, h)) = inr (inr (h.0, h.1, shown_else (kind_of l) id (size_of l n) h.0 (shows.Digest x) h.2))
  go (inr (shows.Length m, h)) = inr (inr (h.0, h.1, shown_else (kind_of l) id (size_of l n) h.0 (shows.Length m) h.2))

module _ (w v : Storage) (none : NoneRose w.disk v.disk) (n : Map (Map (List ℕ))) (folders : w.disk.folders ≡ Some n) (l : Listing) (k : ℕ) (id : ChunkId) (id_is : id.0 ≡ id_of l k) where
  abbrev Gives : Location → Type 0
  Gives = StoreGivesEntry n l k

  -- what gives it isn't lacking
  lacking_not : (s : Location) → LacksEntry l k (said_at w v s) → Gives s → ⊥
  lacking_not (locations.Http host port prefix) lacks gives = absurd gives
  lacking_not (locations.Folder q) lacks gives = over (n q) (subst (λ f. LacksEntry l k (said_by (option_map chunks (files_at f q)))) folders lacks) gives where
    over : (f : Option (Map (List ℕ))) → LacksEntry l k (said_by (option_map chunks f)) → IsSomeAnd f (λ f. GivesChunk (kind_of l) (id_of l k) (size_of l k) (chunks f (id_of l k))) → ⊥
    over None lacks gives = absurd gives
    over (Some f) (inl denied) gives = none-some _ (sym denied ∙ gives.1)
    over (Some f) (inr (inl longer)) gives =
        let same : longer.0 ≡ gives.0 = same_Some _ _ (sym longer.1 ∙ gives.1) in
        let more : size_of l k < length gives.0 = subst (λ (c : List ℕ). size_of l k < length c) same longer.2 in
        let sized = gives.2.sized in
        absurd (omega (arith, more, sized))
    over (Some f) (inr (inr other)) gives =
        let same : gives.0 ≡ other.0 = same_Some _ _ (sym gives.1 ∙ other.1) in
        other.2 (subst (λ (c : List ℕ). IsChunk (kind_of l) (id_of l k) (size_of l k) c) same gives.2)

  rose_not : (s : Location) → StoreRose w v s → Gives s → ⊥
  rose_not (locations.Http host port prefix) rose gives = absurd gives
  rose_not (locations.Folder q) rose gives = none.folders q rose

  -- ---- groups each of whose stores gives it

  abbrev GroupGives : List Location → Type 0
  GroupGives = GroupGivesEntry n l k

  abbrev Lost : Query
  Lost = chunk_of (kind_of l) id (size_of l k)

  -- none of its stores is so
  none_of : (P : Location → Type 0) → ((s : Location) → P s → Gives s → ⊥) → (g : List Location) → SomeStore P g → All Gives g → ⊥
  none_of P not [] some all = absurd some
  none_of P not (s ∷ g) (inl here) all = not s here (All-head Gives s g all)
  none_of P not (s ∷ g) (inr later) all = none_of P not g later (All-tail Gives s g all)

  group_not : (g : List Location) → LacksEntry l k (group_said w v g) → GroupGives g → ⊥
  group_not g (inl denied) gives = none_of (λ s. (said_at w v s).denied (id_of l k)) (λ s h. lacking_not s (inl h)) g denied gives.1
  group_not g (inr (inl longer)) gives = none_of (λ s. (said_at w v s).longer (id_of l k) (size_of l k)) (λ s h. lacking_not s (inr (inl h))) g longer gives.1
  group_not g (inr (inr other)) gives =
      none_of (λ s. (said_at w v s).shown (id_of l k) other.0) (λ s h. lacking_not s (inr (inr (other.0, h, other.2)))) g other.1 gives.1

  denied_not : (g : List Location) → (group_said w v g).denied id.0 → GroupGives g → ⊥
  denied_not g denied gives = group_not g (inl (subst (λ (q : List ℕ). (group_said w v g).denied q) id_is denied)) gives

  lacks_not : (g : List Location) → Lacks Lost (group_said w v g) → GroupGives g → ⊥
  lacks_not g lacks gives = group_not g (entry_lacks l k id (group_said w v g) id_is lacks) gives

  failed_not : (e : ℕ) (g : List Location) → GroupRose e w v g → GroupGives g → ⊥
  failed_not e [] rose gives = let some = gives.0 in absurd (omega (arith, some))
  failed_not e (s ∷ g) rose gives = rose_not s (store_rose e w v s (All-head (RoseBy (e + 1) w v) s g rose)) (All-head Gives s g gives.1)

  -- no group that gives it was passed
  passed_not : (e : ℕ) (groups : List (List Location)) (r : Refused) → r ≢ refused.Memory → GroupsLack e Lost w v groups r → Any GroupGives groups → ⊥
  passed_not e groups refused.Missing told said any =
      none_all GroupGives groups (All-weaker (λ g. (group_said w v g).denied id.0) (λ g. GroupGives g → ⊥) denied_not groups said) any
  passed_not e groups (refused.Damaged j y) told said any =
      none_first GroupGives (λ g. (group_said w v g).denied id.0) (λ g. HasShown Lost y (group_said w v g) × HasShownBy j.member Lost y (group_said w v g)) (λ g. Lacks Lost (group_said w v g))
      denied_not (λ g h. lacks_not g (inr (y, h.0))) lacks_not j.number groups said any
  passed_not e groups (refused.StoreFault j) told said any =
      none_first GroupGives (λ g. Lacks Lost (group_said w v g)) (GroupRose e w v) (λ g. Lacks Lost (group_said w v g) ⊎ GroupRose e w v g)
      lacks_not (failed_not e) (λ g h gives. elim h [ inl lacks ↦ lacks_not g lacks gives | inr rose ↦ failed_not e g rose gives ]) j groups said any
  passed_not e groups refused.Memory told said any = absurd (told refl)

  by_group : (groups : List (List Location)) (q r : Refused) → r ≡ numbered_by (first_store groups) q → r ≢ refused.Memory → q ≢ refused.Memory
  by_group groups refused.Memory r is told same = told is
  by_group groups refused.Missing r is told same = absurd (cc)
  by_group groups (refused.Damaged j y) r is told same = absurd (cc)
  by_group groups (refused.StoreFault j) r is told same = absurd (cc)

  pub groups_not : (e : ℕ) (groups : List (List Location)) (r : Refused) → r ≢ refused.Memory → HaveLackedIn e Lost w v groups r → Any GroupGives groups → ⊥
  groups_not e groups r told (q, is, said) any = passed_not e groups q (by_group groups q r is told) said any
