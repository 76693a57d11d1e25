-- What operands spelled over a part of a command they spelled over all of it.
use Rattle.std.proofs.Common.{◌≡◌, ◌≤◌, ℕ, IsTrue, List, Some, None, Result, Ok, Err, IfSome, subst}
use Rattle.std.specs.Map.{count_at}
use Rattle.caibx_codec.specs.Listing.{Listing}
use Rattle.command_indexes.proofs.Got.{got_dials, got_spells, is_false, place_of_file}
use Rattle.command_indexes.specs.Gets.{IndexGot}
use Rattle.command_indexes.specs.Places.{is_file}
use Rattle.command_indexes.specs.Spelled.{HasReplied, NoneServed, NotSpelled, NotSpelledAt, IndexSpells, SpellsAt}
use Rattle.command_outcome.specs.declared.outcome.Outcome.{Outcome}
use Rattle.command_outcome.specs.declared.outcome.Outcome.TheVariants as ends
use Rattle.command_indexes.proofs.Rises.{index_rose_later, index_rose_longer}
use Rattle.command_steps.proofs.Dialed.{any_earlier, any_longer, dials_twice}
use Rattle.command_steps.proofs.Numbers.{rose_later, rose_longer}
use Rattle.command_steps.specs.Dials.{Dials}
use Rattle.command_steps.specs.InputFiles.{IsBad, IsListed, Listed, NotRead}
use Rattle.command_steps.specs.Sources.{Storage}
use Rattle.command_words.specs.Locations.{index_place_of, is_index_url}
use Rattle.command_words.specs.declared.location.IndexPlace.{IndexPlace}
use Rattle.command_words.specs.declared.location.IndexPlace.TheVariants as places
use Rattle.command_words.specs.declared.location.NoLocation.{NoLocation}
use Rattle.index_server.specs.declared.fetch_index.FetchFault.{FetchFault}
use Rattle.index_server.specs.declared.fetch_index.FetchFault.TheVariants as fetch

-- what an operand spelled in a first step it spelled over all of them
got_then_at : (q : List ℕ) (p : Result IndexPlace NoLocation) (w u v : Storage) (l : Listing) → Dials w.dial u.dial → Dials u.dial v.dial → SpellsAt q p w u l → SpellsAt q p w v l
got_then_at q (Ok (places.File name)) w u v l a b h = h
got_then_at q (Ok (places.Http host port path)) w u v l a b h = any_longer _ w.dial.ended u.dial.ended v.dial.ended a.ended b.ended h
got_then_at q (Err why) w u v l a b h = h

pub got_then : (q : List ℕ) (w u v : Storage) (l : Listing) → IndexGot q w (Ok l) u → Dials u.dial v.dial → IndexSpells w v q l
got_then q w u v l got later =
    let p = index_place_of q in
    got_then_at q p w u v l (got_dials q p w (Ok l) u got) later (got_spells q p w l u got)

-- the part from u to x of what went from w to v: files held the same at its start, and no number has fallen beside it
pub record IsPart (w u x v : Storage) : Type 0 where
  pub files : u.disk.files ≡ w.disk.files
  pub before : Dials w.dial u.dial
  pub during : Dials u.dial x.dial
  pub after : Dials x.dial v.dial
  pub counts : (q : List ℕ) → count_at w.disk.file_counts q ≤ count_at u.disk.file_counts q
  pub later : (q : List ℕ) → count_at x.disk.file_counts q ≤ count_at v.disk.file_counts q

module _ (w u x v : Storage) (part : IsPart w u x v) where
  replied_wider : (host : List ℕ) (port : ℕ) (path : List ℕ) (r : Result Listing FetchFault) → HasReplied host port path u x r → HasReplied host port path w v r
  replied_wider host port path r h =
      let first = any_earlier _ w.dial.ended u.dial.ended x.dial.ended part.before.ended part.during.ended h in
      any_longer _ w.dial.ended x.dial.ended v.dial.ended (dials_twice w.dial u.dial x.dial part.before part.during).ended part.after.ended first

  spells_at : (q : List ℕ) (p : Result IndexPlace NoLocation) (l : Listing) → SpellsAt q p u x l → SpellsAt q p w v l
  spells_at q (Ok (places.File name)) l h = subst (λ f. IfSome f (λ m. IsListed m q l)) part.files h
  spells_at q (Ok (places.Http host port path)) l h = replied_wider host port path (Ok l) h
  spells_at q (Err why) l h = h

  pub spells_wider : (q : List ℕ) (l : Listing) → IndexSpells u x q l → IndexSpells w v q l
  spells_wider q l h = spells_at q (index_place_of q) l h

  unread : (q : List ℕ) (o : Outcome) → NotRead u.disk x.disk q o → NotRead w.disk v.disk q o
  unread q (ends.NoFile name) h = (h.0, subst (λ f. IfSome f (λ m. m q ≡ None)) part.files h.1)
  unread q (ends.BadIndex name fault) h = (h.0, subst (λ f. IfSome f (λ m. (t : List ℕ) × (m q ≡ Some t) × IsBad t fault)) part.files h.1)
  unread q (ends.FileFault name) h = (
    h.0,
    rose_longer (count_at w.disk.file_counts q) (count_at x.disk.file_counts q) (count_at v.disk.file_counts q) (part.later q)
        (rose_later (count_at w.disk.file_counts q) (count_at u.disk.file_counts q) (count_at x.disk.file_counts q) (part.counts q) h.1),
  )
  unread q ends.Memory h = tt
  unread q other h = absurd h

  unserved : (q host : List ℕ) (port : ℕ) (path : List ℕ) (o : Outcome) → NoneServed q host port path u x o → NoneServed q host port path w v o
  unserved q host port path (ends.NoFile name) h = (h.0, replied_wider host port path (Err fetch.Absent) h.1)
  unserved q host port path (ends.BadIndex name fault) h = (h.0, replied_wider host port path (Err (fetch.Bad fault)) h.1)
  unserved q host port path (ends.FileFault name) h =
      let place = Ok (places.Http host port path) in
      (h.0, index_rose_longer w.dial x.dial v.dial (dials_twice w.dial u.dial x.dial part.before part.during) part.after place (index_rose_later w.dial u.dial x.dial part.before part.during place h.1))
  unserved q host port path ends.Memory h = tt
  unserved q host port path other h = absurd h

  not_spelled_at : (q : List ℕ) (p : Result IndexPlace NoLocation) (o : Outcome) → NotSpelledAt q p u x o → NotSpelledAt q p w v o
  not_spelled_at q (Ok (places.File name)) o h = unread q o h
  not_spelled_at q (Ok (places.Http host port path)) o h = unserved q host port path o h
  not_spelled_at q (Err why) o h = h

  pub not_spelled_wider : (q : List ℕ) (o : Outcome) → NotSpelled u x q o → NotSpelled w v q o
  not_spelled_wider q o h = not_spelled_at q (index_place_of q) o h

-- ---- what was found of the name of a file

pub spells_file : (q : List ℕ) (w v : Storage) (l : Listing) → IsTrue (is_file q) → IndexSpells w v q l → Listed w.disk q l
spells_file q w v l file h = subst (λ p. SpellsAt q p w v l) (place_of_file q (is_false (is_index_url q) file)) h

pub not_spelled_file : (q : List ℕ) (w v : Storage) (o : Outcome) → IsTrue (is_file q) → NotSpelled w v q o → NotRead w.disk v.disk q o
not_spelled_file q w v o file h = subst (λ p. NotSpelledAt q p w v o) (place_of_file q (is_false (is_index_url q) file)) h

-- no refusal is Done
not_done_at : (q : List ℕ) (p : Result IndexPlace NoLocation) (w v : Storage) → NotSpelledAt q p w v ends.Done → ⊥
not_done_at q (Ok (places.File name)) w v h = h
not_done_at q (Ok (places.Http host port path)) w v h = h
not_done_at q (Err why) w v h = absurd (cc)

pub not_spelled_done : (q : List ℕ) (w v : Storage) → NotSpelled w v q ends.Done → ⊥
not_spelled_done q w v h = not_done_at q (index_place_of q) w v h
