-- What `cache` has achieved where it is done.
use Rattle.std.proofs.Common.{Bool, ◌≡◌, ◌⊎◌, ℕ, arith, suc, List, [], ◌∷◌, true, false, Option, Some, None, IfSome, IsSome, is_some, Ok, refl, sym, subst, ap, ◌∙◌, inl, inr, unwrap_or}
use Rattle.std.proofs.lemmas.Option.{same_Some}
use Rattle.std.specs.List.{AllZip, Any, Contains}
use Rattle.std.specs.Option.{option_map}
use Rattle.caibx_codec.specs.Listing.{Listing, id_of}
use Rattle.chunk_store.specs.Folders.{chunks}
use Rattle.command_indexes.proofs.Spelled.{IsPart, spells_wider}
use Rattle.command_indexes.specs.Spelled.{IndexSpells}
use Rattle.command_steps.proofs.Dialed.{dials_none, dials_same}
use Rattle.command_steps.specs.Sources.{Storage, storage, storage_of}
use Rattle.command_worlds.specs.Worlds.{World}
use Rattle.command_words.specs.declared.command.Location.{Location}
use Rattle.cache_command.specs.Caching.{AllFilled, CacheEnds, Evidence, HoldsInOrder, HoldsListed, IndexFilled, IsCached, of_command}
use Rattle.dsy_base.specs.Maps.{Map, at_name}

true_false : true ≡ false → ⊥
true_false e = cc

pub any_first : {X : Type 0} (P : X → Type 0) (x : X) (xs : List X) → P x → Any P (x ∷ xs)
any_first P x xs p = (0, x, omega arith, refl, p)

pub any_later : {X : Type 0} (P : X → Type 0) (x : X) (xs : List X) → Any P xs → Any P (x ∷ xs)
any_later P x xs (k, y, lt, is, p) = (suc k, y, omega (arith, lt), is, p)

told_of : (x y : Option (Map (List ℕ))) (f : Map (List ℕ)) → x ≡ Some f → is_some y ≡ is_some x → (g : Map (List ℕ)) × (y ≡ Some g)
told_of x None f is same = absurd (true_false (sym (same ∙ ap is_some is)))
told_of x (Some g) f is same = (g, refl)

module _ (over : Evidence) where
  module _ (w v : Storage) where
    all_tell : (indexes : List (List ℕ)) (x y : Option (Map (List ℕ))) → AllFilled over w v indexes x y → is_some y ≡ is_some x
    all_tell [] x y h = ap is_some h
    all_tell (q ∷ indexes) x y (k, listed, z, filled, rest) = all_tell indexes z y rest ∙ filled.added.tells

    -- what each of the operands spelled is so
    abbrev pub SpelledSo : (List ℕ → Listing → Type 0) → List (List ℕ) → Type 0
    SpelledSo P indexes = (q : List ℕ) → Contains indexes q → (l : Listing) → IndexSpells w v q l → P q l

    module _ (P : List ℕ → Listing → Type 0) (g : Map (List ℕ)) where
      -- under each id of these indexes stand bytes of that digest, by one of them; and under all others what stood there
      listings : (indexes : List (List ℕ)) → SpelledSo P indexes → (f : Map (List ℕ)) → AllFilled over w v indexes (Some f) (Some g)
          → (ls : List Listing) × AllZip P indexes ls × HoldsInOrder ls (chunks g) × ((q : List ℕ) → (chunks g q ≡ chunks f q) ⊎ Any (HoldsListed (chunks g) q) ls)
      listings [] so f h = ([], tt, tt, λ q. inl (ap (λ (m : Map (List ℕ)). chunks m q) (same_Some _ _ h)))
      listings (p ∷ indexes) so f (l, listed, z, filled, rest) =
          let there = told_of (Some f) z f refl filled.added.tells in
          let later = listings indexes (λ q has. so q (suc has.0, omega (arith, has.1), has.2)) there.0 (subst (λ o. AllFilled over w v indexes o (Some g)) there.1 rest) in
          let fill = subst (λ o. IndexFilled over l (Some f) o (Ok tt)) there.1 filled in (
            l ∷ later.0,
            (so p (0, omega arith, refl) l listed, later.1),
            (
              λ i less.
                  let entry = fill.holds i less in
                  elim (later.3 (id_of l i)) [
                    | inl same ↦ any_first (HoldsListed (chunks g) (id_of l i)) l later.0 (record { entry = i; below = less; id = refl }, (entry.0, same ∙ entry.1, entry.2))
                    | inr some ↦ any_later (HoldsListed (chunks g) (id_of l i)) l later.0 some
                  ],
              later.2,
            ),
            λ q. elim (later.3 q) [
              | inl same ↦ elim (fill.added.chunks_are q) [
                | inl was ↦ inl (same ∙ was)
                | inr (t, new, ((n, lists, named), some)) ↦ inr (any_first (HoldsListed (chunks g) q) l later.0 (record { entry = lists.0; below = lists.1; id = sym lists.2 }, (t, same ∙ new, named.named)))
              ]
              | inr some ↦ inr (any_later (HoldsListed (chunks g) q) l later.0 some)
            ],
          )

    pub over_all : (P : List ℕ → Listing → Type 0) (cache : List ℕ) (indexes : List (List ℕ)) (y z : Option (Map (Map (List ℕ)))) (held files : Option (Map (List ℕ))) → SpelledSo P indexes
        → IfSome y (λ m. (f : Map (List ℕ)) × (m cache ≡ Some f) × (held ≡ Some f)) → z ≡ option_map (λ m. at_name m cache files) y → AllFilled over w v indexes held files
        → IfSome y (λ n. IfSome z (λ m. IsCached P n m cache indexes))
    over_all P cache indexes None z held files so taken back h = tt
    over_all P cache indexes (Some n) None held files so taken back h = tt
    over_all P cache indexes (Some n) (Some m) held files so taken back h =
        let now = told_of held files taken.0 taken.2 (all_tell indexes held files h) in
        let from = subst (λ o. AllFilled over w v indexes o (Some now.0)) taken.2 (subst (λ o. AllFilled over w v indexes held o) now.1 h) in
        let all = listings P now.0 indexes so taken.0 from in
        record {
          listings = all.0;
          listed = all.1;
          held = taken.0;
          folder_was = taken.1;
          now = now.0;
          folder_is = ap (λ o. unwrap_or o m) back ∙ ap (λ (o : Option (Map (List ℕ))). at_name n cache o) now.1;
          holds = all.2;
        }

-- the folder that was reached holds these files
was_there : (y : Option (Map (Map (List ℕ)))) (cache : List ℕ) (held : Option (Map (List ℕ))) → IfSome y (λ m. IsSome (m cache)) → IfSome y (λ m. m cache ≡ held) → IfSome y (λ m. (f : Map (List ℕ)) × (m cache ≡ Some f) × (held ≡ Some f))
was_there None cache held there was = tt
was_there (Some m) cache held there was = go (m cache) refl there where
  go : (o : Option (Map (List ℕ))) → m cache ≡ o → IsSome o → (f : Map (List ℕ)) × (m cache ≡ Some f) × (held ≡ Some f)
  go None is some = absurd (true_false (sym some))
  go (Some f) is some = (f, is, sym was ∙ is)

pub cached : (looks : Bool) (groups : List (List Location)) (retries : ℕ) (cache : List ℕ) (most : ℕ) (indexes : List (List ℕ)) (w v : World) → CacheEnds looks groups retries cache most indexes w (Ok tt) v
    → IfSome w.disk.folders (λ f. IfSome v.disk.folders (λ g. IsCached (IndexSpells (storage_of w) (storage_of v)) f g cache indexes))
cached looks groups retries cache most indexes w v h =
    let reached = h.then in
    let filled = reached.then.0 in
    let opened = h.did.0.1 in
    let looked = reached.did.0.1 in
    let folders = looked.folders ∙ opened.folders in
    let u = storage reached.disk reached.dial in
    let over = of_command looks retries u (storage_of v) groups cache in
    let part : IsPart (storage_of w) u (storage_of v) (storage_of v) = record {
      files = looked.files ∙ opened.files;
      before = dials_same w.dial reached.dial (reached.did.1 ∙ h.did.1);
      during = filled.dials;
      after = dials_none v.dial;
      counts = λ q. let a = opened.counts q in let b = looked.counts q in omega (arith, a, b);
      later = λ q. omega arith;
    } in
    over_all over u (storage_of v) (IndexSpells (storage_of w) (storage_of v)) cache indexes w.disk.folders v.disk.folders filled.held filled.now
    (λ q has l. spells_wider (storage_of w) u (storage_of v) (storage_of v) part q l)
    (was_there w.disk.folders cache filled.held (subst (λ (y : Option (Map (Map (List ℕ)))). IfSome y (λ m. IsSome (m cache))) opened.folders reached.did.0.0)
    (subst (λ (y : Option (Map (Map (List ℕ)))). IfSome y (λ m. m cache ≡ filled.held)) folders filled.was))
    (filled.back ∙ ap (option_map (λ (m : Map (Map (List ℕ))). at_name m cache filled.now)) folders)
    filled.filled
