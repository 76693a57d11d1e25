-- What the calls on a shelf keep of the first files of its folder, and what a look says of them.
use Rattle.std.proofs.Common.{◌≡◌, ◌⊎◌, ◌↔◌, ℕ, ◌≤◌, List, Option, Some, None, IfSome, IsTrue, is_some, true, Result, Ok, Err, OnOk, OnErr, refl, sym, ap, subst, inl, arith}
use Rattle.std.proofs.lemmas.Bool.{true≢false}
use Rattle.std.specs.Option.{option_map}
use Rattle.cache_store.proofs.Added.{added_stocks}
use Rattle.cache_store.proofs.Stocked.{stocks_on, stocks_weaker}
use Rattle.cache_store.specs.Shelves.{Shelf, Stocks}
use Rattle.cache_store.specs.declared.cached.Kept.TheVariants as kept
use Rattle.chunk_store.specs.Folders.{chunks}
use Rattle.chunk_store.specs.Gets.{GetGives}
use Rattle.chunk_store.specs.Digests.{IsId}
use Rattle.chunk_store.specs.Paths.{path_of}
use Rattle.chunk_store.specs.declared.store.GetFault.{GetFault}
use Rattle.dir_store.specs.Names.{id_at_path, is_stranger, is_temporary}
use Rattle.dir_store.specs.Puts.{LeavesTemporary, PutsAtPath}
use Rattle.dsy_base.specs.Folders.{put_in, temporary_of}
use Rattle.dsy_base.specs.Maps.{Map, at_name}
use Rattle.locked_cache.specs.Additions.{ReadsSince, ReadsStocked, StandsSince, StocksOpening, StocksSince, begun_with}

some_so : {X : Type 0} (o : Option X) (P Q : X → Type 0) → ((x : X) → P x → Q x) → IfSome o P → IfSome o Q
some_so None P Q f p = tt
some_so (Some x) P Q f p = f x p

module _ (Takes : List ℕ → List ℕ → Type 0) where
  -- ---- the first files, and what was added to them

  begun_by : (first : Map (List ℕ)) (s : Shelf) → s.files ≡ Some first → StocksOpening Takes first s
  begun_by first s is = record {
    told = ap is_some is;
    chunks = subst (λ o. IfSome o (λ n. (q : List ℕ) → (chunks n q ≡ chunks first q) ⊎ ((b : List ℕ) × (chunks n q ≡ Some b) × Takes q b))) (sym is) (λ q. inl refl);
    strangers = subst (λ o. IfSome o (λ n. (q : List ℕ) → IsTrue (is_stranger q) → n q ≡ first q)) (sym is) (λ q s. refl);
    place = refl;
    kind = refl;
    never_falls = omega arith;
    others = refl;
  }

  pub stocks_begun : (opening : Option (Map (List ℕ))) (s : Shelf) → IfSome opening (λ first. s.files ≡ Some first) → StocksSince Takes opening s
  stocks_begun opening s is = some_so opening (λ first. s.files ≡ Some first) (λ first. StocksOpening Takes first s) (λ first same. begun_by first s same) is

  begun_on : (first : Map (List ℕ)) (old new : Shelf) → Stocks Takes old new → StocksOpening Takes first old → StocksOpening Takes first new
  begun_on first old new then k =
      let both = stocks_on Takes (begun_with first old) old new k then in
      record {
        told = both.told;
        chunks = both.chunks;
        strangers = both.strangers;
        place = refl;
        kind = refl;
        never_falls = omega arith;
        others = refl;
      }

  pub stocks_more : (opening : Option (Map (List ℕ))) (old new : Shelf) → Stocks Takes old new → StocksSince Takes opening old → StocksSince Takes opening new
  stocks_more opening old new then k = some_so opening (λ first. StocksOpening Takes first old) (λ first. StocksOpening Takes first new) (λ first. begun_on first old new then) k

  only_takes : (id b : List ℕ) → Takes id b → (q x : List ℕ) → (q ≡ id) × (x ≡ b) → Takes q x
  only_takes id b takes q x same =
      let P : List ℕ → Type 0 = λ i. Takes i x in
      let Q : List ℕ → Type 0 = λ y. Takes id y in
      subst P (sym same.0) (subst Q (sym same.1) takes)

  -- a chunk was added, or maybe left a temporary file
  pub stocks_added : {E : Type 0} (opening : Option (Map (List ℕ))) (id b : List ℕ) → IsId id
      → ((m : Map (List ℕ)) → chunks (put_in m (path_of id) b) ≡ at_name (chunks m) id (Some b))
      → ((x : Option (List ℕ)) (m : Map (List ℕ)) → chunks (at_name m (temporary_of (path_of id)) x) ≡ chunks m)
      → ((q : List ℕ) → IsTrue (is_temporary (temporary_of q)))
      → ((q i : List ℕ) → (id_at_path q ≡ Some i) ↔ (IsId i × (path_of i ≡ q)))
      → (old new : Shelf) → new.place ≡ old.place → new.kind ≡ old.kind → old.faults ≤ new.faults → new.others ≡ old.others → Takes id b → (r : Result Unit E)
      → OnOk r (PutsAtPath id b old.files new.files) → OnErr r (LeavesTemporary id old.files new.files) → StocksSince Takes opening old → StocksSince Takes opening new
  stocks_added opening id b is holds left named exactly old new place kind faults alone takes (Ok u) ok err k =
      stocks_more opening old new
      (stocks_weaker (λ q x. (q ≡ id) × (x ≡ b)) Takes (only_takes id b takes) old new (added_stocks id b is holds left named exactly old new place kind faults alone kept.Yes ok)) k
  stocks_added opening id b is holds left named exactly old new place kind faults alone takes (Err e) ok err k =
      stocks_more opening old new
      (stocks_weaker (λ q x. (q ≡ id) × (x ≡ b)) Takes (only_takes id b takes) old new (added_stocks id b is holds left named exactly old new place kind faults alone kept.Memory err)) k

  -- ---- what is read

  read_by : (id : List ℕ) (first : Map (List ℕ)) (r : Result ℕ GetFault) (out : List ℕ) (files : Option (Map (List ℕ))) → is_some files ≡ true
      → IfSome files (λ n. (q : List ℕ) → StandsSince Takes q (chunks first) (chunks n))
      → IfSome (option_map chunks files) (λ m. GetGives (m id) r out) → ReadsSince Takes id (chunks first) r out
  read_by id first r out None told each read = absurd (true≢false (sym told))
  read_by id first r out (Some n) told each read = (chunks n, each id, read)

  pub read_since : (opening : Option (Map (List ℕ))) (s : Shelf) (id : List ℕ) (r : Result ℕ GetFault) (out : List ℕ) → StocksSince Takes opening s
      → IfSome (option_map chunks s.files) (λ m. GetGives (m id) r out) → ReadsStocked Takes opening id r out
  read_since opening s id r out k read =
      some_so opening (λ first. StocksOpening Takes first s) (λ first. ReadsSince Takes id (chunks first) r out)
      (λ first h. read_by id first r out s.files h.told h.chunks read) k
