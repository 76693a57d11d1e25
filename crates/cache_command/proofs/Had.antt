-- Indexes that are obtained one after the other while a cache is filled.
use Rattle.std.proofs.Common.{◌≡◌, ◌∙◌, ◌&&◌, ℕ, Bool, true, false, IsTrue, List, [], ◌∷◌, Option, Result, Ok, Err, All, refl, sym, subst, inl, arith}
use Rattle.std.proofs.lemmas.List.Elements.{All-head}
use Rattle.caibx_codec.specs.Listing.{Listing}
use Rattle.cache_command.specs.Filling.{AreHad}
use Rattle.command_indexes.proofs.Got.{got_asks, got_dials, got_file, got_reads}
use Rattle.command_indexes.proofs.Spelled.{IsPart}
use Rattle.command_indexes.specs.Gets.{IndexGot}
use Rattle.command_indexes.specs.Places.{are_files, is_file}
use Rattle.command_indexes.specs.Spelled.{AsksInTurn, AsksOnceAt}
use Rattle.command_outcome.specs.declared.outcome.Outcome.{Outcome}
use Rattle.command_steps.proofs.Consulted.{reads_none, reads_twice}
use Rattle.command_steps.proofs.Dialed.{dials_none, dials_twice}
use Rattle.command_steps.specs.Sources.{Storage}
use Rattle.command_words.specs.Locations.{NamesIndex, index_place_of}
use Rattle.command_words.specs.declared.location.IndexPlace.{IndexPlace}
use Rattle.command_words.specs.declared.location.IndexPlace.TheVariants as places
use Rattle.command_words.specs.declared.location.NoLocation.{NoLocation}
use Rattle.dsy_base.specs.Links.{Traffic}

both_true : (a b : Bool) → IsTrue (a && b) → IsTrue a × IsTrue b
both_true true b t = (refl, t)
both_true false b t = absurd (cc)

asks_none : (p : Result IndexPlace NoLocation) (old : Option (List Traffic)) → AsksOnceAt p old old
asks_none (Ok (places.File name)) old = refl
asks_none (Ok (places.Http host port path)) old = inl refl
asks_none (Err why) old = refl

none_asked : (names : List (List ℕ)) (old : Option (List Traffic)) → AsksInTurn names old old
none_asked [] old = refl
none_asked (q ∷ names) old = (old, asks_none (index_place_of q) old, none_asked names old)

-- the first operand names an index where all do
pub first_named : (names : List (List ℕ)) (first name : List ℕ) (rest : List (List ℕ)) → names ≡ first ∷ rest → name ≡ first → All NamesIndex names → NamesIndex name
first_named names first name rest is same all = subst NamesIndex (sym same) (All-head NamesIndex first rest (subst (λ (l : List (List ℕ)). All NamesIndex l) is all))

-- none was
pub had_none : (names : List (List ℕ)) (w : Storage) → AreHad names w w
had_none names w = record { reads = reads_none w.disk; dials = dials_none w.dial; undialed = λ t. refl; asks = none_asked names w.dial.ended }

module _ (q : List ℕ) (names : List (List ℕ)) (w : Storage) (r : Result Listing Outcome) (u : Storage) (got : IndexGot q w r u) where
  -- the first was, or wasn't, and then none of the rest
  pub had_first : AreHad (q ∷ names) w u
  had_first = record {
    reads = got_reads q (index_place_of q) w r u got;
    dials = got_dials q (index_place_of q) w r u got;
    undialed = λ t. (got_file q w r u (both_true (is_file q) (are_files names) t).0 got).1;
    asks = (u.dial.ended, got_asks q (index_place_of q) w r u got, none_asked names u.dial.ended);
  }

  module _ (v : Storage) (rest : AreHad names u v) where
    -- and then some of the rest
    pub had_next : AreHad (q ∷ names) w v
    had_next = record {
      reads = reads_twice w.disk u.disk v.disk had_first.reads rest.reads;
      dials = dials_twice w.dial u.dial v.dial had_first.dials rest.dials;
      undialed = λ t. rest.undialed (both_true (is_file q) (are_files names) t).1 ∙ had_first.undialed t;
      asks = (u.dial.ended, got_asks q (index_place_of q) w r u got, rest.asks);
    }

    -- the rest as a part of it
    pub rest_part : IsPart w u v v
    rest_part = record {
      files = had_first.reads.files;
      before = had_first.dials;
      during = rest.dials;
      after = dials_none v.dial;
      counts = had_first.reads.counts;
      later = λ a. omega arith;
    }
