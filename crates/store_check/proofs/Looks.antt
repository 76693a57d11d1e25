-- Looks at a folder that become readers, and come back.
use Rattle.std.proofs.Common.{◌≡◌, ℕ, List, [], ◌∷◌, ◌++◌, All, get_or, length, map, reverse, Option, Some, None, IfSome, refl, sym, ap, subst, ◌∙◌, arith}
use Rattle.std.proofs.lemmas.List.{get_or-map, length-map, reverse-reverse}
use Rattle.std.specs.List.{AllZip}
use Rattle.chunk_store.specs.declared.id.ChunkId.{ChunkId}
use Rattle.chunk_store.specs.declared.id.DigestKind.{DigestKind}
use Rattle.dsy_base.specs.Maps.{Map}
use Rattle.dsy_base.specs.declared.look.Look.{Ghosts as LookWords}
use Rattle.store_check.specs.Reading.{KeepsLook}
use Rattle.store_check.specs.Verdicts.{AreVerdicts}
use Rattle.store_check.specs.declared.verdicts.Verdicts.{Verdicts}

-- the looks in their order, from those that were taken from the end
pub hired : {W : Type 0} (ls ms left : List W) → left ≡ [] → left ++ reverse ms ≡ reverse ls → ls ≡ ms
hired {W} ls ms left none is =
    sym (reverse-reverse ls) ∙ ap reverse (sym is ∙ ap (λ (xs : List W). xs ++ reverse ms) none) ∙ reverse-reverse ms

module _ {L : Type 0} (look : LookWords L) where
  pub look_kept : (l : L) → KeepsLook look l l
  look_kept l = record { files = refl; place = refl; faults = omega arith }

  pub looks_kept : (ls : List L) → AllZip (KeepsLook look) ls ls
  looks_kept [] = tt
  looks_kept (l ∷ ls) = (look_kept l, looks_kept ls)

  -- of readers, which hold the looks
  pub readers_kept : {R : Type 0} (f : R → L) (rs : List R) → AllZip (λ r s. KeepsLook look (f r) (f s)) rs rs
  readers_kept f [] = tt
  readers_kept f (r ∷ rs) = (look_kept (f r), readers_kept f rs)

  pub looks_back : {R : Type 0} (f : R → L) (rs ss : List R) → AllZip (λ r s. KeepsLook look (f r) (f s)) rs ss → AllZip (KeepsLook look) (map f rs) (map f ss)
  looks_back f [] [] h = tt
  looks_back f [] (s ∷ ss) h = h
  looks_back f (r ∷ rs) [] h = h
  looks_back f (r ∷ rs) (s ∷ ss) h = (h.0, looks_back f rs ss h.1)

-- what a reader finds of its look's files is so of the folder's files, which the look tells
pub reads_trusted : (kind name : DigestKind) (told looked : Option (Map (List ℕ))) (ids own : List ChunkId) (room : Verdicts) → IfSome told (λ m. looked ≡ Some m) → name ≡ kind → own ≡ ids → AreVerdicts name looked own room → AreVerdicts kind told ids room
reads_trusted kind name None looked ids own room alike named same are = λ k d lt. tt
reads_trusted kind name (Some m) looked ids own room alike named same are =
    subst (λ (x : Option (Map (List ℕ))). AreVerdicts kind x ids room) alike
    (subst (λ (x : List ChunkId). AreVerdicts kind looked x room) same (subst (λ (x : DigestKind). AreVerdicts x looked own room) named are))

-- what holds of the looks holds of those that the readers have
pub hired_all : {R L : Type 0} (P : L → Type 0) (f : R → L) (ls : List L) (rs : List R) → ls ≡ map f rs → All P ls → All (λ r. P (f r)) rs
hired_all P f ls rs is all = λ k d lt.
    subst P (get_or-map f rs k d (f d) lt) (subst (λ (xs : List _). P (get_or xs k (f d))) is (all k (f d) (omega (arith, ap length is, length-map rs f, lt))))
