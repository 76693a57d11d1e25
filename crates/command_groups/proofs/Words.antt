-- What contracts see of the stores of a command, one by one and in groups.
use Rattle.std.proofs.Common.{◌≡◌, [], ◌∷◌, Some, IfSome, false, true}
use Rattle.chunk_store.specs.Said.{just_one}
use Rattle.chunk_store.specs.declared.store.Store.{Ghosts as StoreWords}
use Rattle.command_steps.specs.AnyStores.{asked_in, chunks_in, place_in, said_in, source_faults, source_files, source_sent}
use Rattle.command_steps.specs.declared.any_store.AnyStore.{AnyStore}
use Rattle.dsy_base.specs.Links.{DialState}
use Rattle.dsy_base.specs.declared.look.Look.{Ghosts as LookWords}
use Rattle.http_wire.specs.declared.reply.Method.TheVariants as method
use Rattle.store_group.specs.Groups.{Grouped, as_store}
use Rattle.store_group.specs.Vouched.{alone_by}

abbrev pub any_words : {L D K : Type 0} → LookWords L → (D → DialState) → StoreWords (AnyStore L D K)
any_words look state = record {
  holds = chunks_in look.files;
  members = λ s. just_one (chunks_in look.files s);
  folder = source_files look.files;
  folders = λ s. [];
  giver = λ s. 0;
  said = said_in look.files state;
  sent = source_sent state;
  asked = asked_in method.Get state;
  queried = asked_in method.Head state;
  faults = source_faults look.faults state;
  place = place_in look.place;
  tells = false;
  never_fails = false;
  told_never_fail = look.never_fails;
  may_lack_memory = true;
}

abbrev pub group_words : {L D K : Type 0} → LookWords L → (D → DialState) → StoreWords (Grouped (AnyStore L D K))
group_words look state = as_store (any_words look state)

-- a group that tells what it holds answers alone
pub groups_alone : {L D K : Type 0} (look : LookWords L) (state : D → DialState) (g : Grouped (AnyStore L D K)) → IfSome ((group_words look state).holds g) (λ m. (group_words look state).members g ≡ Some (m ∷ []))
groups_alone look state g = alone_by (chunks_in look.files) false look.never_fails (λ s. just_one (chunks_in look.files s)) g
