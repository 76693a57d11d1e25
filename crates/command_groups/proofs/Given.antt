-- Groups of stores that are given back one after the other.
use Rattle.std.proofs.Common.{◌≡◌, ◌∙◌, ◌++◌, ◌≤◌, ℕ, List, [], ◌∷◌, IsTrue, slice_index_or, sym, subst}
use Rattle.std.proofs.lemmas.List.Elements.{All-push}
use Rattle.std.specs.List.{All}
use Rattle.std.specs.Map.{count_at}
use Rattle.command_groups.proofs.Flat.{folders_parts}
use Rattle.command_groups.specs.Opened.{IsGroupGiven}
use Rattle.command_steps.proofs.Consulted.{consults_twice}
use Rattle.command_steps.proofs.Given.{given_earlier, given_longer}
use Rattle.command_steps.specs.Dials.{Dials}
use Rattle.command_steps.specs.Sources.{Consults, ConsultsStores, Storage}
use Rattle.command_steps.specs.Stores.{are_folders}
use Rattle.command_steps.specs.declared.any_store.AnyStore.{AnyStore}
use Rattle.command_words.specs.declared.command.Location.{Location}
use Rattle.dsy_base.specs.Links.{DialState}
use Rattle.store_group.specs.Groups.{Grouped}

-- more stores were consulted
pub consults_both : (w u v : Storage) (front more all : List Location) → all ≡ front ++ more → ConsultsStores front w u → ConsultsStores more u v → ConsultsStores all w v
consults_both w u v front more all same h k =
    let both : IsTrue (are_folders all) → IsTrue (are_folders front) × IsTrue (are_folders more) = λ t. folders_parts front more (subst (λ (l : List Location). IsTrue (are_folders l)) same t) in
    (consults_twice w u v h.0 k.0, λ t. k.1 (both t).1 ∙ h.1 (both t).0)

module _ {L D K : Type 0} (place : L → List ℕ) (faults : L → ℕ) (state : D → DialState) where
  -- what was added after more had been consulted, and before
  pub group_given_earlier : (w u v : Storage) → ((q : List ℕ) → count_at w.disk.folder_counts q ≤ count_at u.disk.folder_counts q) → Dials w.dial u.dial → Dials u.dial v.dial → (g : Grouped (AnyStore L D K)) → IsGroupGiven place faults state u v g → IsGroupGiven place faults state w v g
  group_given_earlier w u v le a b g given =
      record { stores = λ k d lt. given_earlier place faults state w u v le a b (slice_index_or g.stores k d) (given.stores k d lt); counts = given.counts; active = given.active }

  pub group_given_longer : (w v u : Storage) → ((q : List ℕ) → count_at v.disk.folder_counts q ≤ count_at u.disk.folder_counts q) → Dials w.dial v.dial → Dials v.dial u.dial → (g : Grouped (AnyStore L D K)) → IsGroupGiven place faults state w v g → IsGroupGiven place faults state w u g
  group_given_longer w v u le a b g given =
      record { stores = λ k d lt. given_longer place faults state w v u le a b (slice_index_or g.stores k d) (given.stores k d lt); counts = given.counts; active = given.active }

  -- the rest was given back, and then the last
  pub groups_given_more : (w u v : Storage) (all rest : List (Grouped (AnyStore L D K))) (x : Grouped (AnyStore L D K)) → all ≡ rest ++ x ∷ [] → Consults w u → Consults u v → All (IsGroupGiven place faults state w u) rest → IsGroupGiven place faults state u v x → All (IsGroupGiven place faults state w v) all
  groups_given_more w u v all rest x is a b before last = subst (λ l. All (IsGroupGiven place faults state w v) l) (sym is) (All-push (IsGroupGiven place faults state w v) rest x
      (λ k d lt. group_given_longer w u v b.disk.folder_counts a.dial b.dial (slice_index_or rest k d) (before k d lt))
      (group_given_earlier w u v a.disk.folder_counts a.dial b.dial x last))
