-- What an assembly has done, by what its steps say.
use Rattle.std.proofs.Common.{◌≡◌, ◌⊎◌, ◌∙◌, ◌<◌, ◌≤◌, ℕ, List, Bool, Option, Err, length, refl, sym, ap, subst, inl, inr}
use Rattle.assembler.proofs.Assembled.{assembled_none, assembles_none}
use Rattle.assembler.specs.Assemblies.{IsAssembled}
use Rattle.assembler.specs.OneKit.{lent}
use Rattle.assembler.specs.declared.fault.ExtractFault.{ExtractFault}
use Rattle.assembler.specs.declared.fault.ExtractFault.TheVariants as faults
use Rattle.cache_store.specs.Shelves.{Shelf}
use Rattle.caibx_codec.specs.Listing.{Listing, image_length}
use Rattle.chunk_sources.specs.Sources.{sources}
use Rattle.chunk_sources.specs.declared.kit.Kit.{Kit}
use Rattle.chunk_store.specs.declared.store.Store.{Ghosts as StoreWords}
use Rattle.dsy_base.specs.Bytes.{Held, held_resized}
use Rattle.dsy_base.specs.Counts.{Rose}
use Rattle.dsy_base.specs.declared.view.View.{Ghosts as ViewWords}
use Rattle.extract_plan.specs.Deal.{Deal, IsPlan}
use Rattle.extract_plan.specs.Places.{Placed}
use Rattle.image_assembly.proofs.Lending.{by_none}
use Rattle.image_assembly.proofs.OnePlan.{head_same}
use Rattle.image_assembly.specs.Endings.{HasAssembled, handed}
use Rattle.image_workers.specs.Kits.{NoneUsed}

-- one that was refused before any write: nothing was used
pub refused : {S V : Type 0} (store : StoreWords S) (view : ViewWords V) (never cache_never : Bool) (l : Listing) (x : Placed) (d : Deal) (kits : List (Kit S V)) → 0 < length kits → IsPlan l (length kits) d
    → (old new : Held) (f n : ℕ) → f ≤ n → (e : Option Shelf) (fault : ExtractFault)
    → ((fault ≡ faults.TargetFault) × Rose f n) ⊎ (fault ≡ faults.Memory) → (new ≡ old) ⊎ (new ≡ held_resized old (image_length l))
    → HasAssembled store view never cache_never l x (handed old (lent f kits e)) (handed new (lent n kits e)) (Err fault)
refused {S} {V} store view never cache_never l x d kits some plan old new f n fn e fault why stands = record {
  bytes = assembles_none l (NoneUsed (lent f kits e) (lent n kits e)) (refl, refl) old new f n fn fault why stands;
  assembled = record {
    so = λ t k j listed placed planned one other.
        subst (λ (q : Kit S V). IsAssembled store view t old.bytes new.bytes (sources f k.seeds.items e k.chain) (sources n q.seeds.items e q.chain) (Err fault)) (head_same k j (sym one ∙ other))
        (assembled_none store view t old new f n fn k.seeds.items e k.chain fault why (elim stands [
          | inl stays ↦ inl stays
          | inr long ↦ inr (long ∙ ap (λ (m : Listing). held_resized old (image_length m)) (sym listed))
        ]));
  };
  kept = λ one. tt;
  kits = (d, plan, by_none store view (record { listing = l; plan = d; places = x }) never cache_never old new f n fn e fault why stands kits some);
  report = tt;
  size = refl;
  name = elim stands [
    | inl stays ↦ ap (λ (h : Held). h.name) stays
    | inr long ↦ ap (λ (h : Held). h.name) long
  ];
  faults = fn;
}
