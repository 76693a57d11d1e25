-- A folder that was served by threads, and is given back as they have left it.
use Rattle.std.proofs.Common.{◌≡◌, ◌≢◌, ℕ, List, [], Bool, true, false, is_some, Option, Some, IfSome, refl}
use Rattle.std.specs.Option.{option_map}
use Rattle.chunk_server.specs.Shelves.{shelved}
use Rattle.chunk_store.specs.declared.id.DigestKind.{DigestKind}
use Rattle.command_steps.proofs.Taken.{gives_adds}
use Rattle.dsy_base.specs.Counts.{Rose}
use Rattle.dsy_base.specs.Disk.{Disk, GivesFolder}
use Rattle.dsy_base.specs.Links.{LinkState, ListenState}
use Rattle.dsy_base.specs.Maps.{Map, at_name}
use Rattle.locked_shelf.specs.Endings.{EndsOver}
use Rattle.locked_shelf.specs.Keepings.{KeepsOpening}
use Rattle.locked_shelf.specs.Listening.{ServesAll, ServesSome}
use Rattle.locked_shelf.specs.declared.serve_all.AllServed.{AllServed}
use Rattle.locked_shelf.specs.declared.serve_all.AllServed.TheVariants as shared
use Rattle.server_commands.specs.ChunkServing.{ChunksServed, ServesAtOnce, answer_of_sharing}
use Rattle.server_commands.specs.Serving.{Heard, ServedBack}

module _ {F : Type 0} (files : F → Option (Map (List ℕ))) (faults : F → ℕ) (kind : DigestKind) (h : Heard) (writable : Bool) (q : List ℕ) (held : Option (Map (List ℕ))) (folder : F) (d e : Disk) (given : GivesFolder d e q (faults folder))
    (back : e.folders ≡ option_map (λ m. at_name m q (files folder)) d.folders) (tells : Bool) (told : is_some h.old.coming ≡ true → tells ≡ true) (kept : IfSome held (λ first. KeepsOpening kind first (files folder))) where
  shared_back : (serves : (Bool → LinkState → Type 0) → ListenState → ListenState → Type 0) → serves (EndsOver kind held h.never_fails writable tells) h.old h.new → ServedBack q held (ServesAtOnce kind h writable serves) d e
  shared_back serves served = record {
    left = shelved files faults folder;
    back = back;
    counted = given.folder_counts.added;
    serving = record { tells = tells; told = told; kept = kept; served = served };
  }

  pub sharing_ends : (r : AllServed) → (r ≡ shared.Ended → h.new.coming ≡ Some []) → (r ≢ shared.Short → r ≢ shared.Memory → ServesAll (EndsOver kind held h.never_fails writable tells) h.old h.new) → ServesSome (EndsOver kind held h.never_fails writable tells) h.old h.new
      → (r ≡ shared.ListenFault → Rose h.old.faults h.new.faults) → ChunksServed kind false h writable q held d (answer_of_sharing r) e
  sharing_ends shared.Ended over all some cause = ((over refl, shared_back ServesAll (all (λ x. absurd (cc)) (λ x. absurd (cc)))), gives_adds d e q (faults folder) given)
  sharing_ends shared.ListenFault over all some cause = ((cause refl, shared_back ServesAll (all (λ x. absurd (cc)) (λ x. absurd (cc)))), gives_adds d e q (faults folder) given)
  sharing_ends shared.Memory over all some cause = (shared_back ServesSome some, gives_adds d e q (faults folder) given)
  sharing_ends shared.Short over all some cause = (shared_back ServesSome some, gives_adds d e q (faults folder) given)
