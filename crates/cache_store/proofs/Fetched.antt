-- What a chunk shows of the stores that came from them, and of the shelf that it was added to.
use Rattle.std.proofs.Common.{◌≡◌, ℕ, ◌≤◌, List, Option, Some, None, IfSome, Ok, Err, sym, subst, ◌∙◌, inl, inr, arith}
use Rattle.std.specs.Option.{option_map}
use Rattle.cache_store.specs.Shelves.{GivesStill, KeepsShelf, Others, Shelf}
use Rattle.cache_store.specs.Through.{AddedBeside, AddedTo, Unfound}
use Rattle.cache_store.specs.declared.cached.Kept.{Kept}
use Rattle.cache_store.specs.declared.cached.Kept.TheVariants as kept
use Rattle.chunk_store.specs.Folders.{chunks}
use Rattle.dir_store.specs.Puts.{LeavesTemporary, PutsAtPath}
use Rattle.dsy_base.specs.Counts.{Rose}
use Rattle.dsy_base.specs.Maps.{Map}
use Rattle.store_chain.specs.Giving.{SomeHolds}
use Rattle.store_chain.specs.Queries.{IsWanted}
use Rattle.store_chain.specs.declared.query.Query.{Query}

rose_on : (a b c : ℕ) → Rose a b → b ≤ c → Rose a c
rose_on a b c (inl up) more = inl (omega (arith, up, more))
rose_on a b c (inr top) more = inr (omega (arith, top, more))

rose_from : (a b c : ℕ) → a ≤ b → Rose b c → Rose a c
rose_from a b c less (inl up) = inl (omega (arith, up, less))
rose_from a b c less (inr top) = inr top

-- a chunk that wasn't found, though more was done since
pub unfound_on : (w : Query) (a b c : Shelf) → b.faults ≤ c.faults → Unfound w a b → Unfound w a c
unfound_on w a b c more h = go a.files h where
  go : (o : Option (Map (List ℕ))) → IfSome (option_map chunks o) (λ m. GivesStill a.others w m → Rose a.faults b.faults) → IfSome (option_map chunks o) (λ m. GivesStill a.others w m → Rose a.faults c.faults)
  go None h = tt
  go (Some m) h = λ gives. rose_on a.faults b.faults c.faults (h gives) more

-- bytes that were added to a shelf that was looked at before
pub added_from : (id b : List ℕ) (k : Kept) (old mid new : Shelf) → KeepsShelf old mid → AddedTo id b k mid new → AddedTo id b k old new
added_from id b k old mid new looked added = go old.others k (subst (λ (o : Option Others). AddedBeside o id b k mid new) looked.others added) where
  go : (o : Option Others) (k : Kept) → AddedBeside o id b k mid new → AddedBeside o id b k old new
  go None kept.Yes put = subst (λ (o : Option (Map (List ℕ))). PutsAtPath id b o new.files) looked.files put
  go None kept.Failed left = (subst (λ (o : Option (Map (List ℕ))). LeavesTemporary id o new.files) looked.files left.0, rose_from old.faults mid.faults new.faults looked.never_falls left.1)
  go None kept.Memory left = subst (λ (o : Option (Map (List ℕ))). LeavesTemporary id o new.files) looked.files left
  go (Some o) k same = same ∙ looked.files

pub ok_err : {X E : Type 0} (x : X) (e : E) → Ok x ≡ Err e → ⊥
ok_err x e is = cc

-- the bytes that were added are what was wanted, and a store holds them
pub added_wanted : {S : Type 0} (members : S → Option (List (Map (List ℕ)))) (w : Query) (id added b : List ℕ) (stores : List S) → added ≡ b → IsWanted w b → SomeHolds members stores id b
    → (q x : List ℕ) → (q ≡ id) × (x ≡ added) → (q ≡ id) × IsWanted w x × SomeHolds members stores q x
added_wanted members w id added b stores same wanted held q x t =
    let back : b ≡ x = sym (t.1 ∙ same) in
    let P : List ℕ → Type 0 = λ z. SomeHolds members stores id z in
    let Q : List ℕ → Type 0 = λ z. SomeHolds members stores z x in
    (t.0, subst (IsWanted w) back wanted, subst Q (sym t.0) (subst P back held))
