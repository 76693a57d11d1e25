-- What chopping into a folder that was taken made of it.
use Rattle.std.proofs.Common.{ap, arith, cond, ◌≡◌, ◌≢◌, ◌≤◌, ◌+◌, ℕ, List, [], ◌∷◌, length, take, Option, Some, None, IfErr, IfSome, IsTrue, OnErr, OnOk, Result, Ok, Err, inl, inr, not, refl, sym, unwrap_or, ◌∙◌}
use Rattle.std.proofs.lemmas.List.{take_all}
use Rattle.std.proofs.lemmas.List.Elements.{All-cons, All-nil}
use Rattle.std.proofs.lemmas.List.Sums.{sum_by-take-le}
use Rattle.std.specs.List.{sum_by}
use Rattle.std.specs.Str.{bytes_eq}
use Rattle.std.specs.Option.{option_map}
use Rattle.caibx_codec.specs.Listing.{Listing, count_of, id_of, image_length}
use Rattle.caibx_codec.specs.Right.{IsRight}
use Rattle.chunk_store.specs.Asks.{Sends}
use Rattle.chunk_store.specs.Folders.{chunks}
use Rattle.chunk_store.specs.Said.{KeepsOf, Said}
use Rattle.chunk_store.specs.declared.store.Store.{Ghosts as StoreWords}
use Rattle.command_steps.specs.Sources.{Storage, StoreRose, said_at}
use Rattle.command_steps.specs.Stores.{is_folder}
use Rattle.command_worlds.specs.Worlds.{FileRose}
use Rattle.command_words.specs.declared.command.Location.TheVariants as locations
use Rattle.image_commands.specs.Make.{AnySaid, StoreGiven, WritesStore}
use Rattle.image_commands.specs.Chop.{ChoppedTo, GetsEntries, HasLength, ImageChopped, StopsAtServer, answer_of_chop}
use Rattle.dsy_base.specs.Maps.{Map}
use Rattle.command_steps.proofs.AskedOnly.{each_asked_only}
use Rattle.command_steps.proofs.Asking.{each_asked}
use Rattle.command_steps.specs.AnyStores.{IsUnused, asked_in, location_in, source_sent, with_those}
use Rattle.command_steps.specs.Asking.{Asks, AsksOnly, EachDialed}
use Rattle.command_steps.specs.declared.any_store.AnyStore.{AnyStore}
use Rattle.command_words.specs.declared.command.Location.{Location}
use Rattle.dsy_base.specs.Links.{DialState, Traffic}
use Rattle.http_wire.specs.declared.reply.Method.TheVariants as method
use Rattle.image_chop.specs.Chopping.{AsksListed, ChopStops, IsMismatch, SaysBefore, StopsInOrder, TellsLength, most_seen, seen_to, times_listed}
use Rattle.image_store.specs.PutChunks.{HoldsAll, KeepsListed, PutsFiles, SaysAll, Stands}
use Rattle.image_chop.specs.declared.chop.ChopFault.{ChopFault}
use Rattle.image_chop.specs.declared.chop.ChopFault.TheVariants as faults

pub has_length : (l : Listing) (told : Option (List ℕ)) (size : ℕ) → IfSome told (λ t. length t ≡ size) → size ≡ image_length l → HasLength l told
has_length l None size sized is = tt
has_length l (Some t) size sized is = sized ∙ is

pub another_length : (l : Listing) (told : Option (List ℕ)) (n size : ℕ) → IfSome told (λ t. length t ≡ size) → (n ≡ size) × (size ≢ image_length l) → (n ≢ image_length l) × IfSome told (λ t. n ≡ length t)
another_length l None n size sized tells = (λ same. tells.1 (sym tells.0 ∙ same), tt)
another_length l (Some t) n size sized tells = (λ same. tells.1 (sym tells.0 ∙ same), tells.0 ∙ sym sized)

-- what chopping made of the files of a folder
pub chopped_to : (l : Listing) (told : Option (List ℕ)) (r : Result Unit ChopFault) (old new : Option (Map (List ℕ))) → IfSome (option_map chunks new) (λ m. HoldsAll l (seen_to l r) m)
    → IfSome told (λ t. IfSome (option_map chunks old) (λ a. IfSome (option_map chunks new) (λ b. Stands l t (most_seen l r) a b))) → PutsFiles l told (option_map chunks old) (most_seen l r) old new → OnErr r (StopsInOrder l told (option_map chunks old) (option_map chunks new) old new)
    → IfSome old (λ f. IfSome new (λ g. ChoppedTo l told r f g))
chopped_to l told r None new holds stands files order = tt
chopped_to l told r (Some f) None holds stands files order = tt
chopped_to l told r (Some f) (Some g) holds stands files order = record { holds = holds; changed = stands; files = files; order = order }

-- or nothing
pub unchanged : (old new : Option (Map (List ℕ))) → new ≡ old → IfSome old (λ f. IfSome new (λ g. g ≡ f))
unchanged None new same = tt
unchanged (Some f) None same = tt
unchanged (Some f) (Some g) same = ap (λ o. unwrap_or o g) same

-- the first k entries list an id no more often than all of them
pub few_listed : (l : Listing) (k : ℕ) (q : List ℕ) → times_listed l k q ≤ times_listed l (count_of l) q
few_listed l k q =
    let p : ℕ × List ℕ → ℕ = λ e. cond (bytes_eq e.1 q) 1 0 in
    let all : take (count_of l) l.entries ≡ l.entries = take_all (count_of l) l.entries (omega arith) in
    let same : times_listed l (count_of l) q ≡ sum_by p l.entries = ap (sum_by p) all in
    let less : times_listed l k q ≤ sum_by p l.entries = sum_by-take-le p l.entries k in
    omega (arith, same, less)

-- how often a server was asked that was given back
pub gets_to : {L D K : Type 0} (place : L → List ℕ) (state : D → DialState) (l : Listing) (k : ℕ) (old new : AnyStore L D K) (store : Location) (w v : Option (List Traffic)) → IsUnused state old → location_in place new ≡ store
    → AsksListed l k (asked_in method.Get state old) (asked_in method.Get state new) → asked_in method.Head state new ≡ asked_in method.Head state old → v ≡ with_those state w new
    → (n : ℕ) → ((q : List ℕ) → times_listed l k q ≤ times_listed l n q) → EachDialed (Asks (times_listed l n) (λ id. 0)) (store ∷ []) w v
gets_to place state l k old new store w v unused located asked queried ended n le =
    each_asked place state (times_listed l n) (λ id. 0) (old ∷ []) (new ∷ []) (store ∷ []) w v (All-cons (IsUnused state) old [] unused (All-nil (IsUnused state)))
    ((λ q. (let most = asked.most q in let few = le q in omega (arith, most, few))), tt)
    ((λ q. (let same : asked_in method.Head state new q ≡ asked_in method.Head state old q = ap (λ f. f q) queried in omega (arith, same))), tt)
    (ap (λ s. s ∷ []) located) ended

-- and what it was sent
pub gets_only : {L D K : Type 0} (place : L → List ℕ) (state : D → DialState) (l : Listing) (k : ℕ) (old new : AnyStore L D K) (store : Location) (w v : Option (List Traffic)) → IsUnused state old → location_in place new ≡ store
    → AsksListed l k (asked_in method.Get state old) (asked_in method.Get state new) → asked_in method.Head state new ≡ asked_in method.Head state old → v ≡ with_those state w new
    → Sends (KeepsListed l) (source_sent state old) (source_sent state new) → EachDialed (AsksOnly (times_listed l (count_of l)) (λ id. 0) (KeepsListed l)) (store ∷ []) w v
gets_only place state l k old new store w v unused located asked queried ended sends =
    each_asked_only place state (times_listed l (count_of l)) (λ id. 0) (KeepsListed l) (old ∷ []) (new ∷ []) (store ∷ []) w v (All-cons (IsUnused state) old [] unused (All-nil (IsUnused state)))
    ((λ q. (let most = asked.most q in let few = few_listed l k q in omega (arith, most, few))), tt)
    ((λ q. (let same : asked_in method.Head state new q ≡ asked_in method.Head state old q = ap (λ f. f q) queried in omega (arith, same))), tt)
    (sends, tt) (ap (λ s. s ∷ []) located) ended

-- what more is said shows what was said of the entries before one
pub says_before : (l : Listing) (k : ℕ) (a b : Said) → ((id : List ℕ) → KeepsOf a b id) → SaysBefore l k a → SaysBefore l k b
says_before l k a b keeps says = λ i below other.
    let s = says i below other in
    (s.0, s.1, elim s.2 [ inl shown ↦ inl ((keeps (id_of l i)).shown s.0 shown) | inr taken ↦ inr ((keeps (id_of l i)).taken s.0 taken) ])

-- what holds for a server that was given back
pub server_given : (store : Location) (held : Option (Map (List ℕ))) (P : Map (List ℕ) → Map (List ℕ) → Type 0) (Q : Said → Type 0) (w v : Storage) → IsTrue (not (is_folder store)) → StoreGiven store held P Q w v → Q (said_at w v store)
server_given (locations.Folder q) held P Q w v server h = absurd (cc)
server_given (locations.Http host port prefix) held P Q w v server h = h

pub order_of : {S : Type 0} (store : StoreWords S) (l : Listing) (told : Option (List ℕ)) (old new : S) (r : Result Unit ChopFault) → OnErr r (ChopStops store l told old new) → OnErr r (StopsInOrder l told (store.holds old) (store.holds new) (store.folder old) (store.folder new))
order_of store l told old new (Ok u) h = tt
order_of store l told old new (Err fault) h = h.stops

-- how chopping ended that answered so
pub chop_ended : (l : Listing) (image : List ℕ) (told : Option (List ℕ)) (store : Location) (held : Option (Map (List ℕ))) (w v : Storage) (size : ℕ) (r : Result Unit ChopFault)
    → IfSome told (λ t. length t ≡ size) → TellsLength l size r → OnOk r (IfSome told (λ t. IsRight t l)) → IfErr r (IsMismatch l told)
    → StoreGiven store held (ChoppedTo l told r) (SaysAll l (seen_to l r)) w v → ((n : ℕ) → r ≡ Err (faults.Length n) → StoreGiven store held (λ f g. g ≡ f) AnySaid w v)
    → (r ≡ Err faults.ImageFault → FileRose w.disk v.disk image) → (r ≡ Err faults.StoreFault → StoreRose w v store)
    → WritesStore (image ∷ []) store w v → GetsEntries l image told store held w v → OnErr r (IsTrue (not (is_folder store)) → StopsAtServer l image told store held w v)
    → ImageChopped l image told store held w (answer_of_chop r) v
chop_ended l image told store held w v size (Ok u) sized tells right first given same image_rose store_rose kept gets stops = (right, given, kept, gets)
chop_ended l image told store held w v size (Err (faults.Length n)) sized tells right first given same image_rose store_rose kept gets stops =
    let other = another_length l told n size sized tells in
    ((other.0, other.1, same n refl), kept, gets, stops)
chop_ended l image told store held w v size (Err (faults.Mismatch k got)) sized tells right first given same image_rose store_rose kept gets stops = ((has_length l told size sized tells, first, given), kept, gets, stops)
chop_ended l image told store held w v size (Err faults.ImageFault) sized tells right first given same image_rose store_rose kept gets stops = ((has_length l told size sized tells, image_rose refl, given), kept, gets, stops)
chop_ended l image told store held w v size (Err faults.StoreFault) sized tells right first given same image_rose store_rose kept gets stops = ((refl, has_length l told size sized tells, store_rose refl, given), kept, gets, stops)
chop_ended l image told store held w v size (Err faults.Memory) sized tells right first given same image_rose store_rose kept gets stops = ((has_length l told size sized tells, given), kept, gets, stops)

pub if_told : (a b : Option (Map (List ℕ))) → IfSome a (λ f. IfSome b (λ g. f ≡ f))
if_told None b = tt
if_told (Some f) None = tt
if_told (Some f) (Some g) = refl

-- at which entry it ended over a server
pub stops_server : {S : Type 0} (words : StoreWords S) (l : Listing) (image : List ℕ) (told : Option (List ℕ)) (store : Location) (held : Option (Map (List ℕ))) (w v : Storage) (old new : S) (r : Result Unit ChopFault)
    → OnErr r (ChopStops words l told old new)
    → ((k : ℕ) → SaysBefore l k (words.said new) → StoreGiven store held (λ f g. f ≡ f) (SaysBefore l k) w v)
    → ((k : ℕ) → AsksListed l (k + 1) (words.asked old) (words.asked new) → EachDialed (Asks (times_listed l (k + 1)) (λ id. 0)) (store ∷ []) w.dial.ended v.dial.ended)
    → OnErr r (IsTrue (not (is_folder store)) → StopsAtServer l image told store held w v)
stops_server words l image told store held w v old new (Ok u) h says gets = tt
stops_server words l image told store held w v old new (Err fault) h says gets = λ server. record {
  entry = h.stops.entry;
  right = h.stops.right;
  says = server_given store held (λ f g. f ≡ f) (SaysBefore l h.stops.entry) w v server (says h.stops.entry h.says);
  gets = gets h.stops.entry h.asks;
}
