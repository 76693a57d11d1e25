-- What groups that were given back have said of a chunk that they refused, and under which numbers.
use Rattle.std.proofs.Common.{ap, ◌≡◌, ◌⊎◌, ◌+◌, ◌<◌, ℕ, zero, suc, List, [], ◌∷◌, length, map, min, slice_index_or, Bool, refl, arith}
use Rattle.std.specs.List.{All, zip}
use Rattle.chunk_store.specs.Said.{KeepsOf, Said}
use Rattle.chunk_store.specs.declared.shows.Shows.{Shows}
use Rattle.chunk_store.specs.declared.shows.Shows.TheVariants as shows
use Rattle.chunk_store.specs.declared.store.Giver.{Giver}
use Rattle.command_groups.proofs.Standing.{GroupStands, each_as, either, failed, first_as, lacked}
use Rattle.command_groups.specs.Groups.{first_store}
use Rattle.command_groups.specs.Lacking.{GroupFailsFirst, GroupRose, GroupsLack, HaveLackedIn, LacksIn, group_said}
use Rattle.command_groups.specs.Numbers.{by_number, numbered_by, refused_of_stores}
use Rattle.command_steps.proofs.Lacked.{lacks_still}
use Rattle.command_steps.specs.Sources.{Storage, said_at}
use Rattle.command_words.specs.declared.command.Location.{Location}
use Rattle.dsy_base.specs.Counts.{Rose}
use Rattle.dsy_base.specs.Maps.{Map}
use Rattle.store_chain.specs.Giving.{LacksAll}
use Rattle.store_chain.specs.Lists.{FirstAt}
use Rattle.store_chain.specs.Refusals.{HasShown, HasShownBy, Lacks, Refuses}
use Rattle.store_chain.specs.declared.query.Query.{Query}
use Rattle.store_chain.specs.declared.refused.Refused.{Refused}
use Rattle.store_chain.specs.declared.refused.Refused.TheVariants as refused
use Rattle.store_group.specs.Groups.{AtStore}

-- what was shown is shown still
shown_on : (c : Query) (x : Shows) (a b : Said) → KeepsOf a b c.id.0 → HasShown c x a → HasShown c x b
shown_on c shows.Longer a b keeps h = keeps.longer c.lent h
shown_on c (shows.Digest x) a b keeps h = (h.0, keeps.shown h.0 h.1, h.2)
shown_on c (shows.Length n) a b keeps h = (h.0, keeps.shown h.0 h.1, h.2)

shown_by_on : (k : ℕ) (c : Query) (x : Shows) (a b : Said) → KeepsOf a b c.id.0 → HasShownBy k c x a → HasShownBy k c x b
shown_by_on k c shows.Longer a b keeps h = keeps.longer_by k c.lent h
shown_by_on k c (shows.Digest x) a b keeps h = (h.0, keeps.shown_by k h.0 h.1, h.2)
shown_by_on k c (shows.Length n) a b keeps h = (h.0, keeps.shown_by k h.0 h.1, h.2)

module _ {S : Type 0} (locations : S → List Location) (said : S → Said) (counted : S → ℕ) (e : ℕ) (w v : Storage) (groups : List (List Location)) where
  abbrev Standing : S → Type 0
  Standing = GroupStands locations said counted e w v

  -- the first group that failed, where those before it lack something
  pub group_fails_first : (lacks : Said → Type 0) (id : List ℕ) → ((a b : Said) → KeepsOf a b id → lacks a → lacks b) → (k : ℕ) (before after : List S) → length before ≡ length after → map locations after ≡ groups → All Standing after
      → FirstAt (λ p. lacks (said p.1)) (λ p. Rose (counted p.0) (counted p.1)) (λ p. lacks (said p.1) ⊎ Rose (counted p.0) (counted p.1)) k (zip before after) → GroupFailsFirst lacks e w v k groups
  group_fails_first lacks id grows k before after many at all h =
      first_as locations Standing (λ p. lacks (said p.1)) (λ p. Rose (counted p.0) (counted p.1)) (λ p. lacks (said p.1) ⊎ Rose (counted p.0) (counted p.1))
      (λ g. lacks (group_said w v g)) (GroupRose e w v) (λ g. lacks (group_said w v g) ⊎ GroupRose e w v g)
      (lacked locations said counted e w v lacks id grows) (failed locations said counted e w v lacks id grows) (either locations said counted e w v lacks id grows) k before after groups many at all h

  pub groups_lack : (lacks_memory : Bool) (c : Query) (r : Refused) (before after : List S) → length before ≡ length after → map locations after ≡ groups → All Standing after → Refuses said counted lacks_memory c before after r → GroupsLack e c w v groups r
  groups_lack lacks_memory c refused.Missing before after many at all h =
      each_as locations Standing (λ p. (said p.1).denied c.id.0) (λ g. (group_said w v g).denied c.id.0) (λ p s y. (s.says c.id.0).denied y) before after groups many at all h
  groups_lack lacks_memory c (refused.Damaged k x) before after many at all h =
      first_as locations Standing (λ p. (said p.1).denied c.id.0) (λ p. HasShown c x (said p.1) × HasShownBy k.member c x (said p.1)) (λ p. Lacks c (said p.1))
      (λ g. (group_said w v g).denied c.id.0) (λ g. HasShown c x (group_said w v g) × HasShownBy k.member c x (group_said w v g)) (λ g. Lacks c (group_said w v g))
      (λ p s y. (s.says c.id.0).denied y) (λ p s y. (shown_on c x (said p.1) (group_said w v (locations p.1)) (s.says c.id.0) y.0, shown_by_on k.member c x (said p.1) (group_said w v (locations p.1)) (s.says c.id.0) y.1))
      (λ p s y. lacks_still c (said p.1) (group_said w v (locations p.1)) (s.says c.id.0) y) k.number before after groups many at all h
  groups_lack lacks_memory c (refused.StoreFault k) before after many at all h = group_fails_first (Lacks c) c.id.0 (λ a b keeps y. lacks_still c a b keeps y) k before after many at all h
  groups_lack lacks_memory c refused.Memory before after many at all h = tt

-- ---- numbers

-- the store that has shown something is one of its group
at_inside : {S : Type 0} (P : S → Type 0) (k : ℕ) (xs : List S) → AtStore P k xs → k < length xs
at_inside P k [] h = absurd h
at_inside P zero (x ∷ xs) h = omega arith
at_inside P (suc k) (x ∷ xs) h = let rest = at_inside P k xs h in omega (arith, rest)

shown_inside : (k : ℕ) (c : Query) (x : Shows) (w v : Storage) (g : List Location) → HasShownBy k c x (group_said w v g) → k < length g
shown_inside k c shows.Longer w v g h = at_inside (λ s. (said_at w v s).longer c.id.0 c.lent) k g h
shown_inside k c (shows.Digest x) w v g h = at_inside (λ s. (said_at w v s).shown c.id.0 h.0) k g h.1
shown_inside k c (shows.Length n) w v g h = at_inside (λ s. (said_at w v s).shown c.id.0 h.0) k g h.1

-- what follows from the element of the number
inside_at : (B A C : List Location → Type 0) (m : ℕ) → ((g : List Location) → A g → m < length g) → (k : ℕ) (groups : List (List Location)) → FirstAt B A C k groups → m < length (slice_index_or groups k [])
inside_at B A C m f k [] h = absurd h
inside_at B A C m f zero (g ∷ groups) h = f g h.0
inside_at B A C m f (suc k) (g ∷ groups) h = inside_at B A C m f k groups h.1

member_numbered : (groups : List (List Location)) (s : Giver) (x : Shows) → min s.member (length (slice_index_or groups s.number [])) ≡ s.member → refused_of_stores groups (refused.Damaged s x) ≡ numbered_by (first_store groups) (refused.Damaged s x)
member_numbered groups s x same = ap (λ (n : ℕ). refused.Damaged (by_number (first_store groups s.number + n)) x) same

module _ (e : ℕ) (c : Query) (w v : Storage) (groups : List (List Location)) where
  -- what groups lack is told by the number of the store that has shown something
  pub lack_numbered : (r : Refused) → GroupsLack e c w v groups r → refused_of_stores groups r ≡ numbered_by (first_store groups) r
  lack_numbered refused.Missing h = refl
  lack_numbered (refused.Damaged s x) h =
      let inside = inside_at (λ g. (group_said w v g).denied c.id.0) (λ g. HasShown c x (group_said w v g) × HasShownBy s.member c x (group_said w v g)) (λ g. Lacks c (group_said w v g)) s.member (λ g at. shown_inside s.member c x w v g at.1) s.number groups h in
      member_numbered groups s x (omega (arith, inside))
  lack_numbered (refused.StoreFault k) h = refl
  lack_numbered refused.Memory h = refl

  pub have_lacked_in : (r : Refused) → GroupsLack e c w v groups r → HaveLackedIn e c w v groups (refused_of_stores groups r)
  have_lacked_in r h = (r, lack_numbered r h, h)

-- what groups that tell lack is told by the number of the first store of one
pub lacks_number : (groups : List (List Location)) (c : Query) (maps : List (Map (List ℕ))) (r : Refused) → LacksAll c maps r → refused_of_stores groups r ≡ numbered_by (first_store groups) r
lacks_number groups c maps refused.Missing h = refl
lacks_number groups c maps (refused.Damaged s x) h = let first = h.0 in member_numbered groups s x (omega (arith, first))
lacks_number groups c maps (refused.StoreFault k) h = refl
lacks_number groups c maps refused.Memory h = refl

pub lacks_numbered : (groups : List (List Location)) (c : Query) (maps : List (Map (List ℕ))) (r : Refused) → LacksAll c maps r → LacksIn (first_store groups) c maps (refused_of_stores groups r)
lacks_numbered groups c maps r h = (r, lacks_number groups c maps r h, h)
