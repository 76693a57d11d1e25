-- What `verify` and `prune` have achieved where they are done.
use Rattle.std.proofs.Common.{◌≡◌, ℕ, List, Bool, Option, Some, None, IfSome, Ok, ap, subst, unwrap_or, ◌∙◌}
use Rattle.std.specs.List.{AllZip}
use Rattle.std.specs.Option.{option_map}
use Rattle.caibx_codec.specs.Listing.{Listing}
use Rattle.chunk_store.specs.declared.id.DigestKind.{DigestKind}
use Rattle.command_indexes.proofs.AllGot.{all_left, all_spelled}
use Rattle.command_indexes.specs.Spelled.{IndexSpells}
use Rattle.command_steps.proofs.Dialed.{dials_same}
use Rattle.command_steps.specs.Sources.{storage_of}
use Rattle.command_worlds.specs.Worlds.{World, world}
use Rattle.command_steps.proofs.Taken.{at_name_twice}
use Rattle.store_commands.specs.Prune.{IsPruned, IsPrunedTo, PruneEnds}
use Rattle.store_commands.specs.Verify.{IsVerifiedStore, VerifyEnds}
use Rattle.dsy_base.specs.Maps.{Map, at_name}
use Rattle.verify_tool.specs.Pruning.{is_listed_in, pruned}
use Rattle.store_check.specs.Verifying.{AreDamaged, IsStoreChecked, left_of}

abbrev Taken : List ℕ → Option (Map (Map (List ℕ))) → Option (Map (List ℕ)) → Type 0
Taken store y held = IfSome y (λ m. (f : Map (List ℕ)) × (m store ≡ Some f) × (held ≡ Some f))

abbrev given_back : List ℕ → Option (Map (Map (List ℕ))) → Option (Map (List ℕ)) → Option (Map (Map (List ℕ)))
given_back store y files = option_map (λ m. at_name m store files) (option_map (λ m. at_name m store None) y)

-- the folder among the others once it is given back
back_is : (store : List ℕ) (n m : Map (Map (List ℕ))) (files : Option (Map (List ℕ))) → Some m ≡ given_back store (Some n) files → m ≡ at_name n store files
back_is store n m files back = ap (λ o. unwrap_or o m) back ∙ at_name_twice n store None files

module _ (Spelled : List ℕ → Listing → Type 0) (store : List ℕ) (indexes : List (List ℕ)) (ls : List Listing) where
  pruned_over : (y z : Option (Map (Map (List ℕ)))) (held files : Option (Map (List ℕ))) → AllZip Spelled indexes ls
      → Taken store y held → z ≡ given_back store y files → IsPrunedTo (is_listed_in ls) held files → IfSome y (λ n. IfSome z (λ m. IsPruned Spelled n m store indexes))
  pruned_over None z held files listed taken back are = tt
  pruned_over (Some n) None held files listed taken back are = tt
  pruned_over (Some n) (Some m) held files listed taken back are = record {
    listings = ls;
    listed = listed;
    held = taken.0;
    folder_was = taken.1;
    folder_is = back_is store n m files back ∙ ap (λ o. at_name n store o) (are ∙ ap (option_map (pruned (is_listed_in ls))) taken.2);
  }

pub pruned_to : (store : List ℕ) (indexes : List (List ℕ)) (w v : World) → PruneEnds store indexes w (Ok tt) v
    → IfSome w.disk.folders (λ f. IfSome v.disk.folders (λ g. IsPruned (IndexSpells (storage_of w) (storage_of v)) f g store indexes))
pruned_to store indexes w v h =
    let taken = h.then in
    let between = taken.then.0.0 in
    let folders = (all_left 0 indexes w h.gave (world h.disk h.dial h.out) h.did).reads.folders in
    let spelled = all_spelled 0 indexes w h.gave (world h.disk h.dial h.out) (storage_of v) h.did (dials_same h.dial v.dial (taken.then.1 ∙ taken.did.1)) in
    pruned_over (IndexSpells (storage_of w) (storage_of v)) store indexes h.gave w.disk.folders v.disk.folders taken.gave between.files spelled
    (subst (λ (y : Option (Map (Map (List ℕ)))). Taken store y taken.gave) folders taken.did.0.0)
    (between.back ∙ ap (option_map (λ (m : Map (Map (List ℕ))). at_name m store between.files)) (taken.did.0.1.0 ∙ ap (option_map (λ (m : Map (Map (List ℕ))). at_name m store None)) folders))
    between.change

module _ (kind : DigestKind) (store : List ℕ) (repair : Bool) (before taken : Option (List ℕ)) where
  verified_over : (y z : Option (Map (Map (List ℕ)))) (held files : Option (Map (List ℕ))) → Taken store y held → z ≡ given_back store y files
      → IsStoreChecked kind repair 0 (record { old = held; new = files; before = before; taken = taken }) → IfSome y (λ n. IfSome z (λ m. IsVerifiedStore kind n m before taken store repair))
  verified_over None z held files was back change = tt
  verified_over (Some n) None held files was back change = tt
  verified_over (Some n) (Some m) held files was back change = record {
    held = was.0;
    folder_was = was.1;
    damaged = change.damaged;
    all = subst (λ (o : Option (Map (List ℕ))). IfSome o (λ f. AreDamaged kind f change.damaged)) was.2 change.all;
    folder_is = back_is store n m files back ∙ ap (λ o. at_name n store o) (change.told.files ∙ ap (left_of repair change.damaged) was.2);
    text = change.told.text;
    none = change.left;
  }

pub verified_store : (kind : DigestKind) (store : List ℕ) (repair : Bool) (w v : World) → VerifyEnds kind store repair w (Ok tt) v
    → IfSome w.disk.folders (λ f. IfSome v.disk.folders (λ g. IsVerifiedStore kind f g w.out.taken v.out.taken store repair))
verified_store kind store repair w v h =
    let between = h.then.0 in
    verified_over kind store repair w.out.taken v.out.taken w.disk.folders v.disk.folders h.gave between.files h.did.0.0
    (between.back ∙ ap (option_map (λ (m : Map (Map (List ℕ))). at_name m store between.files)) h.did.0.1.0)
    (subst (λ (t : Option (List ℕ)). IsStoreChecked kind repair 0 (record { old = h.gave; new = between.files; before = t; taken = v.out.taken })) (ap (λ p. p.taken) h.did.2) between.change)
