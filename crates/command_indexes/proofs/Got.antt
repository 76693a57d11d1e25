-- What is left by the step that gets an index, and what it shows.
use Rattle.std.proofs.Common.{◌≡◌, ◌≢◌, ◌⊎◌, ℕ, Bool, true, false, not, IsTrue, List, [], ◌∷◌, Option, Some, None, IfSome, Result, Ok, Err, cond, refl, sym, ap, subst, inl, inr, arith}
use Rattle.std.specs.List.{Any}
use Rattle.caibx_codec.specs.Listing.{Listing}
use Rattle.command_indexes.specs.Gets.{GotAt, IndexGot, answer_of_fetch}
use Rattle.command_indexes.specs.Spelled.{AsksOnceAt, HasReplied, NoneServed, NotSpelledAt, SpellsAt}
use Rattle.command_outcome.specs.declared.outcome.Outcome.{Outcome}
use Rattle.command_outcome.specs.declared.outcome.Outcome.TheVariants as ends
use Rattle.command_steps.proofs.Consulted.{reads_none}
use Rattle.command_steps.proofs.Dialed.{dials_same, grows_none, since_is}
use Rattle.command_steps.proofs.Used.{uses_none}
use Rattle.command_indexes.specs.Blames.{IsUnfetched}
use Rattle.command_steps.specs.Dials.{Dials, EndedGrows, since}
use Rattle.command_steps.specs.InputFiles.{IndexRead}
use Rattle.command_steps.specs.Sources.{NotAsking, Storage}
use Rattle.command_words.specs.Locations.{index_place_of, is_index_url}
use Rattle.command_words.specs.declared.location.IndexPlace.{IndexPlace}
use Rattle.command_words.specs.declared.location.IndexPlace.TheVariants as places
use Rattle.command_words.specs.declared.location.NoLocation.{NoLocation}
use Rattle.command_words.specs.declared.location.NoLocation.TheVariants as no
use Rattle.command_worlds.specs.Worlds.{Reads}
use Rattle.dsy_base.specs.Disk.{Disk}
use Rattle.dsy_base.specs.Links.{DialState, Traffic}
use Rattle.http_read.specs.Remotes.{AddsOne}
use Rattle.index_server.specs.Fetching.{Fetched, RepliesOfIndex, asks_index}
use Rattle.index_server.specs.declared.fetch_index.FetchFault.{FetchFault}
use Rattle.index_server.specs.declared.fetch_index.FetchFault.TheVariants as fetch

-- ---- one connection

grows_once : (P : Traffic → Type 0) (a b : Option (List Traffic)) → AddsOne P a b → EndedGrows a b
grows_once P None b h = h
grows_once P (Some x) b h = (h.0 ∷ [], h.1)

grows_called : (P : Traffic → Type 0) (a b : Option (List Traffic)) → (b ≡ a) ⊎ AddsOne P a b → EndedGrows a b
grows_called P a b (inl same) = subst (EndedGrows a) (sym same) (grows_none a)
grows_called P a b (inr one) = grows_once P a b one

pub fetched_dials : (host : List ℕ) (port : ℕ) (path : List ℕ) (k j : DialState) (r : Result Listing FetchFault) → Fetched host port path k r j → Dials k j
fetched_dials host port path k j r h = record { ended = grows_called _ k.ended j.ended h.calls; faults = h.faults.never_falls }

-- it stands among what has ended since
since_one : (P Q : Traffic → Type 0) → ((t : Traffic) → P t → Q t) → (a b : Option (List Traffic)) → AddsOne P a b → IfSome (since a b) (Any Q)
since_one P Q on None b h = tt
since_one P Q on (Some x) b (t, is, p) =
    let one : Any Q (t ∷ []) = (0, t, omega arith, refl, on t p) in
    subst (λ o. IfSome (since (Some x) o) (Any Q)) (sym is) (subst (λ o. IfSome o (Any Q)) (sym (since_is x (t ∷ []))) one)

-- ---- a file

pub is_false : (b : Bool) → IsTrue (not b) → b ≡ false
is_false true h = absurd (cc)
is_false false h = refl

else_is : {X : Type 0} (b : Bool) (x y : X) → b ≡ false → cond b x y ≡ y
else_is true x y same = absurd (cc)
else_is false x y same = refl

pub place_of_file : (q : List ℕ) → is_index_url q ≡ false → index_place_of q ≡ Ok (places.File q)
place_of_file q same = else_is (is_index_url q) _ (Ok (places.File q)) same

-- no server is asked for it
pub got_file : (q : List ℕ) (w : Storage) (r : Result Listing Outcome) (v : Storage) → IsTrue (not (is_index_url q)) → IndexGot q w r v → NotAsking (IndexRead q) w r v
got_file q w r v file h = subst (λ p. GotAt q p w r v) (place_of_file q (is_false (is_index_url q) file)) h

-- ---- what is left

file_reads : (q : List ℕ) (d e : Disk) (r : Result Listing Outcome) → IndexRead q d r e → Reads d e
file_reads q d e (Ok l) h = h.1
file_reads q d e (Err o) h = h.1

pub got_reads : (q : List ℕ) (p : Result IndexPlace NoLocation) (w : Storage) (r : Result Listing Outcome) (v : Storage) → GotAt q p w r v → Reads w.disk v.disk
got_reads q (Ok (places.File name)) w r v h = file_reads q w.disk v.disk r h.0
got_reads q (Ok (places.Http host port path)) w r v h = subst (Reads w.disk) (sym h.kept) (reads_none w.disk)
got_reads q (Err no.Memory) w r v h = subst (λ u. Reads w.disk u.disk) (sym h.1) (reads_none w.disk)
got_reads q (Err no.Bad) w r v h = absurd h

pub got_dials : (q : List ℕ) (p : Result IndexPlace NoLocation) (w : Storage) (r : Result Listing Outcome) (v : Storage) → GotAt q p w r v → Dials w.dial v.dial
got_dials q (Ok (places.File name)) w r v h = dials_same w.dial v.dial h.1
got_dials q (Ok (places.Http host port path)) w r v h = fetched_dials host port path w.dial v.dial h.reply h.fetched
got_dials q (Err no.Memory) w r v h = dials_same w.dial v.dial (ap (λ u. u.dial) h.1)
got_dials q (Err no.Bad) w r v h = absurd h

pub got_asks : (q : List ℕ) (p : Result IndexPlace NoLocation) (w : Storage) (r : Result Listing Outcome) (v : Storage) → GotAt q p w r v → AsksOnceAt p w.dial.ended v.dial.ended
got_asks q (Ok (places.File name)) w r v h = ap (λ k. k.ended) h.1
got_asks q (Ok (places.Http host port path)) w r v h = h.fetched.calls
got_asks q (Err no.Memory) w r v h = ap (λ u. u.dial.ended) h.1
got_asks q (Err no.Bad) w r v h = absurd h

-- there was no memory to begin
pub got_lacking : (q : List ℕ) (p : Result IndexPlace NoLocation) (w : Storage) → p ≢ Err no.Bad → GotAt q p w (Err ends.Memory) w
got_lacking q (Ok (places.File name)) w named = ((tt, reads_none w.disk, uses_none (q ∷ []) [] w.disk), refl)
got_lacking q (Ok (places.Http host port path)) w named = record {
  reply = Err fetch.Memory;
  answer = refl;
  fetched = record { calls = inl refl; reply = tt; lacking = λ _. inl refl; faults = record { never_falls = omega arith; cause = λ no. absurd (cc); unfailed = λ _. omega arith } };
  kept = refl;
}
got_lacking q (Err no.Memory) w named = (refl, refl)
got_lacking q (Err no.Bad) w named = absurd (named refl)

-- ---- what is shown

module _ (q host : List ℕ) (port : ℕ) (path : List ℕ) (w v : Storage) where
  abbrev Served : Result Listing FetchFault → Type 0
  Served f = Fetched host port path w.dial f v.dial

  replied : (f : Result Listing FetchFault) → AddsOne (λ t. (t.sent ≡ asks_index host port path) × RepliesOfIndex t f) w.dial.ended v.dial.ended → HasReplied host port path w v f
  replied f one = since_one _ _ (λ t p. p) w.dial.ended v.dial.ended one

  served : (l : Listing) (f : Result Listing FetchFault) → Ok l ≡ answer_of_fetch q f → Served f → HasReplied host port path w v (Ok l)
  served l (Ok m) is h =
      let same : m ≡ l = cc in
      subst (λ (x : Listing). HasReplied host port path w v (Ok x)) same (replied (Ok m) h.reply)
  served l (Err e) is h = absurd (cc)

  not_served : (o : Outcome) (f : Result Listing FetchFault) → Err o ≡ answer_of_fetch q f → Served f → NoneServed q host port path w v o
  not_served o (Ok m) is h = absurd (cc)
  not_served o (Err fetch.Absent) is h =
      let same : ends.NoFile q ≡ o = cc in
      subst (NoneServed q host port path w v) same (refl, replied (Err fetch.Absent) h.reply)
  not_served o (Err (fetch.Bad fault)) is h =
      let same : ends.BadIndex q fault ≡ o = cc in
      subst (NoneServed q host port path w v) same (refl, replied (Err (fetch.Bad fault)) h.reply)
  not_served o (Err (fetch.Status status)) is h =
      let same : ends.FileFault q ≡ o = cc in
      subst (NoneServed q host port path w v) same (refl, inr (since_one _ (IsUnfetched host port path) (λ t p. record { why = fetch.Status status; untaken = tt; sent = p.0; reply = p.1 }) w.dial.ended v.dial.ended h.reply))
  not_served o (Err (fetch.Wire fault)) is h =
      let same : ends.FileFault q ≡ o = cc in
      subst (NoneServed q host port path w v) same (refl, inr (since_one _ (IsUnfetched host port path) (λ t p. record { why = fetch.Wire fault; untaken = tt; sent = p.0; reply = p.1 }) w.dial.ended v.dial.ended h.reply))
  not_served o (Err fetch.Failed) is h =
      let same : ends.FileFault q ≡ o = cc in
      subst (NoneServed q host port path w v) same (refl, inl (h.faults.cause refl))
  not_served o (Err fetch.Memory) is h =
      let same : ends.Memory ≡ o = cc in
      subst (NoneServed q host port path w v) same tt

pub got_spells : (q : List ℕ) (p : Result IndexPlace NoLocation) (w : Storage) (l : Listing) (v : Storage) → GotAt q p w (Ok l) v → SpellsAt q p w v l
got_spells q (Ok (places.File name)) w l v h = h.0.0
got_spells q (Ok (places.Http host port path)) w l v h = served q host port path w v l h.reply h.answer h.fetched
got_spells q (Err no.Memory) w l v h = absurd (cc)
got_spells q (Err no.Bad) w l v h = absurd h

pub got_not_spelled : (q : List ℕ) (p : Result IndexPlace NoLocation) (w : Storage) (o : Outcome) (v : Storage) → GotAt q p w (Err o) v → NotSpelledAt q p w v o
got_not_spelled q (Ok (places.File name)) w o v h = h.0.0
got_not_spelled q (Ok (places.Http host port path)) w o v h = not_served q host port path w v o h.reply h.answer h.fetched
got_not_spelled q (Err no.Memory) w o v h = let first = h.0 in cc
got_not_spelled q (Err no.Bad) w o v h = absurd h
