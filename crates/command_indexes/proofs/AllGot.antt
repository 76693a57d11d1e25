-- Indexes that were all had, in order: what is left, and what their operands spelled.
use Rattle.std.proofs.Common.{◌≡◌, ℕ, List, [], ◌∷◌, Ok, sym, subst, arith}
use Rattle.std.specs.List.{AllZip}
use Rattle.caibx_codec.specs.Listing.{Listing}
use Rattle.command_indexes.proofs.Got.{got_dials, got_reads}
use Rattle.command_indexes.proofs.Spelled.{IsPart, got_then, spells_wider}
use Rattle.command_indexes.specs.Gets.{IndexesGot}
use Rattle.command_indexes.specs.Spelled.{IndexSpells}
use Rattle.command_steps.proofs.Consulted.{reads_none, reads_twice}
use Rattle.command_steps.proofs.Dialed.{dials_none, dials_twice}
use Rattle.command_steps.specs.Dials.{Dials}
use Rattle.command_steps.specs.Sources.{Storage, storage, storage_of}
use Rattle.command_words.specs.Locations.{index_place_of}
use Rattle.command_worlds.specs.Worlds.{Reads, World, world}

-- files and folders were read, and servers asked
pub record IsLeft (w v : World) : Type 0 where
  pub reads : Reads w.disk v.disk
  pub dials : Dials w.dial v.dial

left_none : (w : World) → IsLeft w w
left_none w = record { reads = reads_none w.disk; dials = dials_none w.dial }

left_twice : (w u v : World) → IsLeft w u → IsLeft u v → IsLeft w v
left_twice w u v a b = record { reads = reads_twice w.disk u.disk v.disk a.reads b.reads; dials = dials_twice w.dial u.dial v.dial a.dials b.dials }

pub all_left : (n : ℕ) (names : List (List ℕ)) (w : World) (ls : List Listing) (v : World) → IndexesGot n names w (Ok ls) v → IsLeft w v
all_left n [] w ls v h = subst (IsLeft w) (sym h.1) (left_none w)
all_left n (q ∷ names) w ls v h =
    let u = world h.disk h.dial h.out in
    let x = world h.then.then.disk h.then.then.dial h.then.then.out in
    let p = index_place_of q in
    let s = storage h.disk h.dial in
    let first : IsLeft w u = record { reads = got_reads q p (storage_of w) (Ok h.gave) s h.did.0; dials = got_dials q p (storage_of w) (Ok h.gave) s h.did.0 } in
    let counted : IsLeft w (world h.then.disk h.then.dial h.then.out) = subst (IsLeft w) (sym h.then.did.1) first in
    let rest = all_left h.then.gave names (world h.then.disk h.then.dial h.then.out) h.then.then.gave x h.then.then.did in
    subst (IsLeft w) (sym h.then.then.then.1) (left_twice w (world h.then.disk h.then.dial h.then.out) x counted rest)

all_wider : (w u v : Storage) → IsPart w u v v → (names : List (List ℕ)) (ls : List Listing) → AllZip (IndexSpells u v) names ls → AllZip (IndexSpells w v) names ls
all_wider w u v part [] [] h = tt
all_wider w u v part [] (l ∷ ls) h = absurd h
all_wider w u v part (q ∷ names) [] h = absurd h
all_wider w u v part (q ∷ names) (l ∷ ls) h = (spells_wider w u v v part q l h.0, all_wider w u v part names ls h.1)

-- what each spelled, over these steps and later ones
pub all_spelled : (n : ℕ) (names : List (List ℕ)) (w : World) (ls : List Listing) (u : World) (v : Storage) → IndexesGot n names w (Ok ls) u → Dials u.dial v.dial → AllZip (IndexSpells (storage_of w) v) names ls
all_spelled n [] w ls u v h later =
    let none : ls ≡ [] = let same = h.0 in cc in
    subst (λ (k : List Listing). AllZip (IndexSpells (storage_of w) v) [] k) (sym none) tt
all_spelled n (q ∷ names) w ls u v h later =
    let s = storage h.disk h.dial in
    let m = world h.then.disk h.then.dial h.then.out in
    let x = world h.then.then.disk h.then.then.dial h.then.then.out in
    let p = index_place_of q in
    let first : IsLeft w (world h.disk h.dial h.out) = record { reads = got_reads q p (storage_of w) (Ok h.gave) s h.did.0; dials = got_dials q p (storage_of w) (Ok h.gave) s h.did.0 } in
    let counted : IsLeft w m = subst (IsLeft w) (sym h.then.did.1) first in
    let rest : IsLeft m x = all_left h.then.gave names m h.then.then.gave x h.then.then.did in
    let last : Dials x.dial v.dial = subst (λ (y : World). Dials y.dial v.dial) h.then.then.then.1 later in
    let after : Dials m.dial v.dial = dials_twice m.dial x.dial v.dial rest.dials last in
    let others = all_spelled h.then.gave names m h.then.then.gave x v h.then.then.did last in
    let part : IsPart (storage_of w) (storage_of m) v v = record {
      files = counted.reads.files;
      before = counted.dials;
      during = after;
      after = dials_none v.dial;
      counts = counted.reads.counts;
      later = λ a. omega arith;
    } in
    let here : Dials h.dial v.dial = subst (λ (y : World). Dials y.dial v.dial) h.then.did.1 after in
    let spelled : AllZip (IndexSpells (storage_of w) v) (q ∷ names) (h.gave ∷ h.then.then.gave) = (got_then q (storage_of w) s v h.gave h.did.0 here, all_wider (storage_of w) (storage_of m) v part names h.then.then.gave others) in
    let are : ls ≡ h.gave ∷ h.then.then.gave = let same = h.then.then.then.0 in cc in
    subst (λ (k : List Listing). AllZip (IndexSpells (storage_of w) v) (q ∷ names) k) (sym are) spelled
