-- What storing an image makes of a folder that was taken.
use Rattle.std.proofs.Common.{ap, arith, cond, inl, inr, subst, sym, get_or, take, ◌≡◌, ◌⊎◌, ◌+◌, ◌≤◌, ℕ, [], ◌∷◌, List, Option, Some, None, IfSome, Result, unwrap_or}
use Rattle.std.proofs.lemmas.List.{take_all}
use Rattle.std.proofs.lemmas.List.Elements.{All-cons, All-nil}
use Rattle.std.proofs.lemmas.List.Sums.{get_or-le-sum_by}
use Rattle.std.proofs.lemmas.Slice.Eq.{bytes_eq-Decides}
use Rattle.std.specs.List.{sum_by}
use Rattle.std.specs.Str.{bytes_eq}
use Rattle.std.specs.Option.{option_map}
use Rattle.caibx_codec.specs.Listing.{Listing, count_of, id_of}
use Rattle.chunk_store.proofs.Sends.{sends_still}
use Rattle.chunk_store.specs.Asks.{Ask, Sends}
use Rattle.chunk_store.specs.declared.id.DigestKind.{DigestKind}
use Rattle.command_steps.proofs.AskedOnly.{each_asked_only}
use Rattle.command_steps.specs.AnyStores.{IsUnused, asked_in, location_in, source_sent, with_those}
use Rattle.command_steps.specs.Asking.{AsksOnly, EachDialed}
use Rattle.command_steps.specs.declared.any_store.AnyStore.{AnyStore}
use Rattle.command_words.specs.declared.command.Location.{Location}
use Rattle.dsy_base.specs.Links.{DialState, Traffic}
use Rattle.http_wire.specs.declared.reply.Method.TheVariants as method
use Rattle.image_chop.specs.Chopping.{times_listed}
use Rattle.image_store.specs.PutChunks.{AsksEach, IsListedId, KeepsListed}
use Rattle.buzhash_cut.specs.Sizes.{Sizes}
use Rattle.chunk_store.specs.Folders.{chunks}
use Rattle.image_commands.proofs.GivenStores.{writes_beside}
use Rattle.image_views.proofs.Viewed.{names_alone}
use Rattle.image_commands.specs.Make.{MadeOf, WritesStore, once_listed}
use Rattle.image_views.specs.Views.{AreOf, names_of}
use Rattle.command_steps.specs.Sources.{Storage}
use Rattle.dsy_base.specs.Bytes.{Held}
use Rattle.dsy_base.specs.Maps.{Map}
use Rattle.image_store.specs.StoreImage.{Lists, PutsFilesOf, SendsOf, StoresImage}
use Rattle.image_store.specs.declared.put_chunks.MakeFault.{MakeFault}

-- what storing made of the files of a folder
pub made_of : (kind : DigestKind) (s : Sizes) (told : Option (List ℕ)) (r : Result (List ℕ) MakeFault) (old new : Option (Map (List ℕ))) → IfSome told (λ t. IfSome (option_map chunks old) (λ m. IfSome (option_map chunks new) (λ n. StoresImage kind s (λ b. b) t m n r)))
    → PutsFilesOf kind s told (option_map chunks old) old new → IfSome old (λ f. IfSome new (λ g. MadeOf kind s told r f g))
made_of kind s told r None new holds files = tt
made_of kind s told r (Some f) None holds files = tt
made_of kind s told r (Some f) (Some g) holds files = record { holds = holds; files = files }

-- or nothing
pub unmade : (kind : DigestKind) (s : Sizes) (told : Option (List ℕ)) (r : Result (List ℕ) MakeFault) (old new : Option (Map (List ℕ))) → new ≡ old → IfSome old (λ f. IfSome new (λ g. MadeOf kind s told r f g)) → IfSome old (λ f. IfSome new (λ g. (g ≡ f) × MadeOf kind s told r f g))
unmade kind s told r None new same of = tt
unmade kind s told r (Some f) None same of = tt
unmade kind s told r (Some f) (Some g) same of = (ap (λ o. unwrap_or o g) same, of)

pub if_some : {X : Type 0} (o : Option X) (P Q : X → Type 0) → ((x : X) → P x → Q x) → IfSome o P → IfSome o Q
if_some None P Q f h = tt
if_some (Some x) P Q f h = f x h

-- ---- how often a server was asked

listed_once : (l : Listing) (q : List ℕ) → IsListedId l (count_of l) q → 1 ≤ times_listed l (count_of l) q
listed_once l q is =
    let p : ℕ × List ℕ → ℕ = λ e. cond (bytes_eq e.1 q) 1 0 in
    let all : take (count_of l) l.entries ≡ l.entries = take_all (count_of l) l.entries (omega arith) in
    let same : times_listed l (count_of l) q ≡ sum_by p l.entries = ap (sum_by p) all in
    let here : p (get_or l.entries is.entry (0, [])) ≤ sum_by p l.entries = get_or-le-sum_by p l.entries is.entry (0, []) (omega (arith, is.below)) in
    let one : p (get_or l.entries is.entry (0, [])) ≡ 1 = ap (λ b. cond b 1 0) ((bytes_eq-Decides (id_of l is.entry) q).1 (sym is.id)) in
    omega (arith, same, here, one)

pub gets_image : {L D K : Type 0} (place : L → List ℕ) (state : D → DialState) (kind : DigestKind) (s : Sizes) (told : Option (List ℕ)) (old new : AnyStore L D K) (store : Location) (w v : Option (List Traffic)) → IsUnused state old → location_in place new ≡ store
    → SendsOf kind s told (asked_in method.Get state old) (asked_in method.Get state new) (source_sent state old) (source_sent state new) → asked_in method.Head state new ≡ asked_in method.Head state old → v ≡ with_those state w new
    → EachDialed (AsksOnly (λ id. 0) (λ id. 0) (λ a. ⊥)) (store ∷ []) w v ⊎ ((l : Listing) × Lists kind s told l × EachDialed (AsksOnly (once_listed l) (λ id. 0) (KeepsListed l)) (store ∷ []) w v)
gets_image {L} {D} {K} place state kind s told old new store w v unused located asked queried ended = go asked where
  heads : (q : List ℕ) → asked_in method.Head state new q ≤ asked_in method.Head state old q + 0
  heads q = let same : asked_in method.Head state new q ≡ asked_in method.Head state old q = ap (λ f. f q) queried in omega (arith, same)

  by : (gets : List ℕ → ℕ) (P : Ask → Type 0) → ((q : List ℕ) → asked_in method.Get state new q ≤ asked_in method.Get state old q + gets q) → Sends P (source_sent state old) (source_sent state new)
      → EachDialed (AsksOnly gets (λ id. 0) P) (store ∷ []) w v
  by gets P few sends =
      each_asked_only place state gets (λ id. 0) P (old ∷ []) (new ∷ []) (store ∷ []) w v (All-cons (IsUnused state) old [] unused (All-nil (IsUnused state)))
      (few, tt) (heads, tt) (sends, tt) (ap (λ s. s ∷ []) located) ended

  once : (l : Listing) → AsksEach l (count_of l) (asked_in method.Get state old) (asked_in method.Get state new) → (q : List ℕ) → (asked_in method.Get state new q ≡ asked_in method.Get state old q) ⊎ IsListedId l (count_of l) q
      → asked_in method.Get state new q ≤ asked_in method.Get state old q + once_listed l q
  once l each q (inl same) = omega (arith, same)
  once l each q (inr is) = let most = each.once q in let some = listed_once l q is in omega (arith, most, some)

  go : SendsOf kind s told (asked_in method.Get state old) (asked_in method.Get state new) (source_sent state old) (source_sent state new)
      → EachDialed (AsksOnly (λ id. 0) (λ id. 0) (λ a. ⊥)) (store ∷ []) w v ⊎ ((l : Listing) × Lists kind s told l × EachDialed (AsksOnly (once_listed l) (λ id. 0) (KeepsListed l)) (store ∷ []) w v)
  go (inl same) =
      let still : Sends (λ a. ⊥) (source_sent state old) (source_sent state new) =
      subst (λ t. Sends (λ a. ⊥) (source_sent state old) t) (sym same.1) (sends_still (λ a. ⊥) (source_sent state old)) in
      inl (by (λ id. 0) (λ a. ⊥) (λ q. let here : asked_in method.Get state new q ≡ asked_in method.Get state old q = ap (λ f. f q) same.0 in omega (arith, here)) still)
  go (inr h) = inr (h.0, h.1, by (once_listed h.0) (KeepsListed h.0) (λ q. once h.0 h.2 q (h.2.listed q)) h.3)

-- what a step has used over the views of one image
pub wrote_alone : (store : Location) (w v : Storage) (q : List ℕ) (told : Option (List ℕ)) (hs ys : List Held) → ys ≡ hs → AreOf q told hs → WritesStore (names_of ys) store w v → WritesStore (q ∷ []) store w v
wrote_alone store w v q told hs ys same are h =
    let here = subst (λ (l : List Held). WritesStore (names_of l) store w v) same h in
    writes_beside (names_of hs) (q ∷ []) store w v (names_alone q told hs are) here
