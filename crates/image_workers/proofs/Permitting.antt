-- Which entries a pass may fill, by what the run's name permits with a kit.
use Rattle.std.proofs.Common.{◌≡◌, ◌⊎◌, ◌++◌, ℕ, ◌<◌, List, Option, IsTrue, true, sym, ◌∙◌, subst, inl, inr}
use Rattle.assembler.proofs.Entries.{among_of, first_among, ids_same, listed_of}
use Rattle.assembler.proofs.Finished.{here}
use Rattle.assembler.proofs.HadOn.{had_entry}
use Rattle.assembler.specs.Assemblies.{IsObtainable}
use Rattle.assembler.specs.Passes.{HadAll, HadAt, want_at}
use Rattle.assembler.specs.Permits.{MayFillHad}
use Rattle.assembler.specs.Stages.{Stage}
use Rattle.cache_store.specs.Giving.{SomeGives}
use Rattle.caibx_codec.specs.Listing.{count_of, id_of, kind_of, size_of}
use Rattle.caibx_codec.specs.Right.{IsRightAt}
use Rattle.chunk_sources.proofs.Cached.{gives_left, gives_part, gives_right}
use Rattle.chunk_sources.specs.Losses.{Had}
use Rattle.chunk_sources.specs.Sources.{SeedsGive, Telling, views_of}
use Rattle.chunk_sources.specs.Wants.{Task, want_chunk}
use Rattle.chunk_store.specs.Members.{maps_of}
use Rattle.chunk_store.specs.declared.store.Store.{Ghosts as StoreWords}
use Rattle.dsy_base.specs.Bytes.{Held}
use Rattle.dsy_base.specs.Maps.{Map}
use Rattle.dsy_base.specs.declared.view.View.{Ghosts as ViewWords}
use Rattle.extract_plan.specs.Deal.{AreWants, Deal, first_of}
use Rattle.extract_plan.specs.Places.{Placed, places_at}
use Rattle.image_workers.specs.Beside.{MayFillAlike, PermitsWith}
use Rattle.image_workers.specs.Shared.{GivesNoMore}
use Rattle.range_ledger.specs.Runs.{Run}
use Rattle.range_survey.specs.Fates.{settled}
use Rattle.range_survey.specs.declared.fate.Fate.{Fate}

module _ (r : Run) (d : Deal) (x : Placed) (wants : AreWants r.listing d.wants d.want_of) where
  abbrev t : Task
  t = record { listing = r.listing; plan = d; places = x }

  -- what is settled was right in the base, or may be filled
  abbrev pub FilledBy : List Fate → Type 0
  FilledBy m = IsTrue r.tells → (i : ℕ) → i < count_of r.listing → settled m i ≡ true → IsRightAt r.base r.listing i ⊎ (r.may i ≡ true)

  had_so : (m : List Fate) → ((i : ℕ) → i < count_of r.listing → settled m i ≡ true → IsRightAt r.base r.listing i ⊎ (r.may i ≡ true)) → (views : List (Option Held)) (maps : List (Map (List ℕ)))
      → (i : ℕ) → i < count_of r.listing → HadAt t m views maps i → IsObtainable t r.base views maps i ⊎ MayFillAlike r t i
  had_so m filled views maps i inside (inl (j, other, is)) =
      let w = want_at d i in
      let listed = listed_of r.listing d w j wants other in
      elim (filled j listed is) [
        | inl right ↦ inl (inl (j, listed, ids_same r.listing d w j i wants other (here t wants i inside), right))
        | inr may ↦ inr (j, listed, (among_of d w j other).1, may)
      ]
  had_so m filled views maps i inside (inr source) =
      let l = r.listing in
      let w = want_at d i in
      let like = ids_same l d w (first_of d w) i wants (first_among l d w wants (wants.within i inside)) (here t wants i inside) in
      inl (inr (subst (λ n. SeedsGive views (places_at x w) (id_of l i) ⊎ SomeGives (kind_of l) (id_of l i) n maps) like.1
      (subst (λ q. SeedsGive views (places_at x w) q ⊎ SomeGives (kind_of l) q (size_of l (first_of d w)) maps) like.0 source)))

  -- what the cache gives was given
  given_before : (views : List (Option Held)) (m : List Fate) (w : ℕ) (now cached maps : List (Map (List ℕ))) → ((id : List ℕ) (n : ℕ) → SomeGives (kind_of r.listing) id n now → SomeGives (kind_of r.listing) id n cached)
      → Had m (want_chunk t w) views (now ++ maps) → Had m (want_chunk t w) views (cached ++ maps)
  given_before views m w now cached maps gave (inl settled_then) = inl settled_then
  given_before views m w now cached maps gave (inr (inl seed)) = inr (inl seed)
  given_before views m w now cached maps gave (inr (inr gives)) =
      let q = want_chunk t w in
      inr (inr (elim (gives_part q.kind q.id q.size now maps gives) [
        | inl here ↦ gives_left q.kind q.id q.size cached maps (gave q.id q.size here)
        | inr store ↦ gives_right q.kind q.id q.size cached maps store
      ]))

  -- what the run permits with a kit may be filled over a stage, where its kit holds the same and the cache gives no more
  pub permits : {S V : Type 0} (store : StoreWords S) (view : ViewWords V) (views : List (Option Held)) (given : Option (List (Map (List ℕ)))) (told : Option (List (Map (List ℕ))))
      → PermitsWith view.tells r t views given told → (a : Stage S V)
      → GivesNoMore (kind_of r.listing) given a.cache → views_of view a.kit.seeds.items ≡ views → maps_of store.members a.kit.chain.stores ≡ told → FilledBy a.fates → (Among : ℕ → Type 0) → MayFillHad store view t r.may a Among
  permits store view views given told permit a gives seen holds filled Among w less any has i among =
      let inside = listed_of r.listing d w i wants among in
      permit i inside (λ tells telling cached maps before is.
      let now = gives cached before in
      let had : Had a.fates (want_chunk t w) (views_of view a.kit.seeds.items) (cached ++ maps) =
      given_before (views_of view a.kit.seeds.items) a.fates w now.0 cached maps now.2 (has (subst (Telling view.tells) (sym seen) telling) now.0 maps now.1 (holds ∙ is)) in
      had_so a.fates (filled tells) views (cached ++ maps) i inside (had_entry t wants a.fates views (cached ++ maps) w i among (subst (λ v. Had a.fates (want_chunk t w) v (cached ++ maps)) seen had)))

  -- what a pass has settled may be filled, if the run permits so with the kit that it began with
  pub settled_may : {S V : Type 0} (store : StoreWords S) (view : ViewWords V) (views : List (Option Held)) (given : Option (List (Map (List ℕ)))) (told : Option (List (Map (List ℕ))))
      → PermitsWith view.tells r t views given told
      → (a : Stage S V) (now : List Fate) → GivesNoMore (kind_of r.listing) given a.cache → views_of view a.kit.seeds.items ≡ views → maps_of store.members a.kit.chain.stores ≡ told → FilledBy a.fates → HadAll store view t a now
      → (i : ℕ) → i < count_of r.listing → settled now i ≡ true → r.may i ≡ true
  settled_may store view views given told permit a now gives seen holds filled had i inside is =
      permit i inside (λ tells telling cached maps before are.
      let then = gives cached before in
      had_so a.fates (filled tells) views (cached ++ maps) i inside
      (given_before views a.fates (want_at d i) then.0 cached maps then.2
      (subst (λ v. HadAt t a.fates v (then.0 ++ maps) i) seen (had (subst (Telling view.tells) (sym seen) telling) then.0 maps then.1 (holds ∙ are) i inside is))))
