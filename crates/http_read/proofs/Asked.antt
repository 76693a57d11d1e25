-- An ask names one method and one id: how often a server was asked for each id, when one more connection ends.
use Rattle.std.proofs.Common.{◌≡◌, ◌≢◌, ℕ, ◌+◌, ◌/◌, ◌%◌, ◌≤◌, Bool, true, false, cond, List, [], ◌∷◌, ◌++◌, length, take, drop, slice_index, None, Some, refl, sym, ap, ◌∙◌, ◌⊎◌, inl, inr, arith}
use Rattle.std.specs.Prelude.{Option}
use Rattle.std.proofs.lemmas.Bool.{cases_lt}
use Rattle.std.proofs.lemmas.List.{append_assoc, append_cancel_left, get_or_past, take-append-drop}
use Rattle.std.proofs.lemmas.List.Sums.{sum_by_push}
use Rattle.std.proofs.lemmas.Slice.Eq.{bytes_eq-Decides}
use Rattle.chunk_store.proofs.Paths.{path_one}
use Rattle.chunk_store.specs.Digests.{IsId}
use Rattle.chunk_store.specs.Paths.{path_of}
use Rattle.chunk_store.specs.Said.{AskedOnce}
use Rattle.dsy_base.specs.Links.{Traffic}
use Rattle.hex.specs.Hex.{encode_lower, encode_with, hex_digit_value, lower_digits}
use Rattle.hex.proofs.HexLemmas.{IsDigits-lower_digits}
use Rattle.http_read.specs.Asks.{IsFront, Server, asks, front_of, is_asked, target, times_asked}
use Rattle.http_read.specs.Remotes.{AddsOne}
use Rattle.http_wire.specs.Ask.{ask}
use Rattle.http_wire.specs.declared.reply.Method.{Method}
use Rattle.http_wire.specs.declared.reply.Method.TheVariants as method

-- ---- no path has a space

abbrev NoSpace : List ℕ → Type 0
NoSpace [] = Unit {0}
NoSpace (c ∷ cs) = (c ≢ 32) × NoSpace cs

digit_no_space : (k : ℕ) → slice_index lower_digits k ≢ 32
digit_no_space k = elim (cases_lt k 16) [
  | inl below ↦ λ is.
      let there : hex_digit_value (slice_index lower_digits k) ≡ Some k = IsDigits-lower_digits k below in
      let none : hex_digit_value 32 ≡ Some k = ap hex_digit_value (sym is) ∙ there in
      absurd (cc)
  | inr past ↦ λ is. absurd (omega (arith, get_or_past lower_digits k 0 past, is))
]

no_space-append : (xs ys : List ℕ) → NoSpace xs → NoSpace ys → NoSpace (xs ++ ys)
no_space-append [] ys h k = k
no_space-append (x ∷ xs) ys h k = (h.0, no_space-append xs ys h.1 k)

no_space-digits : (bs : List ℕ) → NoSpace (encode_lower bs)
unfolding encode_with
no_space-digits [] = tt
no_space-digits (b ∷ rest) = (digit_no_space (b / 16), (digit_no_space (b % 16), no_space-digits rest))

no_space-path : (id : List ℕ) → NoSpace (path_of id)
unfolding path_of
no_space-path id =
    no_space-append (encode_lower (take 2 id)) (47 ∷ encode_lower id) (no_space-digits (take 2 id))
    ((λ is. absurd (omega (arith, is))), no_space-digits id)

-- what stands before the first space
before_space : (us vs xs ys : List ℕ) → NoSpace us → NoSpace vs → us ++ 32 ∷ xs ≡ vs ++ 32 ∷ ys → us ≡ vs
before_space [] [] xs ys u v h = refl
before_space [] (b ∷ vs) xs ys u v h = absurd (v.0 (sym (ap (λ l. slice_index l 0) h)))
before_space (a ∷ us) [] xs ys u v h = absurd (u.0 (ap (λ l. slice_index l 0) h))
before_space (a ∷ us) (b ∷ vs) xs ys u v h =
    let first : a ≡ b = ap (λ l. slice_index l 0) h in
    let rest : us ≡ vs = before_space us vs xs ys u.1 v.1 (ap (drop 1) h) in
    cc

-- ---- an ask names its method and its id

target_one : (s : Server) (id q xs ys : List ℕ) → IsId id → target s id ++ 32 ∷ xs ≡ (target s q ++ 32 ∷ []) ++ ys → q ≡ id
target_one s id q xs ys is h =
    let left : (s.prefix ++ 47 ∷ path_of id) ++ 32 ∷ xs ≡ s.prefix ++ (47 ∷ path_of id ++ 32 ∷ xs) = append_assoc s.prefix (47 ∷ path_of id) (32 ∷ xs) in
    let over : (target s q ++ 32 ∷ []) ++ ys ≡ target s q ++ 32 ∷ ys = append_assoc (target s q) (32 ∷ []) ys in
    let right : (s.prefix ++ 47 ∷ path_of q) ++ 32 ∷ ys ≡ s.prefix ++ (47 ∷ path_of q ++ 32 ∷ ys) = append_assoc s.prefix (47 ∷ path_of q) (32 ∷ ys) in
    let rest : 47 ∷ path_of id ++ 32 ∷ xs ≡ 47 ∷ path_of q ++ 32 ∷ ys = append_cancel_left s.prefix _ _ (sym left ∙ h ∙ over ∙ right) in
    path_one q id is (sym (before_space (path_of id) (path_of q) xs ys (no_space-path id) (no_space-path q) (ap (drop 1) rest)))

asked_of : (s : Server) (m n : Method) (id q b rest : List ℕ) → IsId id → asks s m id b ≡ front_of s n q ++ rest → (m ≡ n) × (q ≡ id)
unfolding ask
asked_of s method.Get method.Get id q b rest is h = (refl, target_one s id q _ rest is (ap (drop 4) h))
asked_of s method.Get method.Head id q b rest is h = absurd (omega (arith, ap (λ l. slice_index l 0) h))
asked_of s method.Get method.Put id q b rest is h = absurd (omega (arith, ap (λ l. slice_index l 0) h))
asked_of s method.Head method.Get id q b rest is h = absurd (omega (arith, ap (λ l. slice_index l 0) h))
asked_of s method.Head method.Head id q b rest is h = (refl, target_one s id q _ rest is (ap (drop 5) h))
asked_of s method.Head method.Put id q b rest is h = absurd (omega (arith, ap (λ l. slice_index l 0) h))
asked_of s method.Put method.Get id q b rest is h = absurd (omega (arith, ap (λ l. slice_index l 0) h))
asked_of s method.Put method.Head id q b rest is h = absurd (omega (arith, ap (λ l. slice_index l 0) h))
asked_of s method.Put method.Put id q b rest is h =
    (refl, target_one s id q _ rest is (sym (append_assoc (target s id) _ b) ∙ ap (drop 4) h))

-- a front of an ask that has the front of an ask
pub front_one : (s : Server) (m n : Method) (id q b : List ℕ) (t : Traffic) → IsId id → IsFront (asks s m id b) t.sent → is_asked s n q t ≡ true → (m ≡ n) × (q ≡ id)
front_one s m n id q b t is front hit =
    let all = asks s m id b in
    let line = front_of s n q in
    let begins : take (length line) t.sent ≡ line = (bytes_eq-Decides (take (length line) t.sent) line).0 hit in
    let sent : t.sent ≡ line ++ drop (length line) t.sent = sym (take-append-drop (length line) t.sent) ∙ ap (λ l. l ++ drop (length line) t.sent) begins in
    let whole : all ≡ t.sent ++ drop front.0 all = sym (take-append-drop front.0 all) ∙ ap (λ l. l ++ drop front.0 all) (sym front.2) in
    asked_of s m n id q b (drop (length line) t.sent ++ drop front.0 all) is
    (whole ∙ ap (λ l. l ++ drop front.0 all) sent ∙ append_assoc line (drop (length line) t.sent) (drop front.0 all))

-- ---- one connection more

abbrev one_if : Bool → ℕ
one_if b = cond b 1 0

pushed : (s : Server) (n : Method) (q : List ℕ) (ended : List Traffic) (t : Traffic) → times_asked s n (Some (ended ++ t ∷ [])) q ≡ times_asked s n (Some ended) q + one_if (is_asked s n q t)
pushed s n q ended t = sum_by_push (λ t. one_if (is_asked s n q t)) ended t

at_most : (b : Bool) → one_if b ≤ 1
at_most true = omega arith
at_most false = omega arith

module _ (s : Server) (m : Method) (id b : List ℕ) (is : IsId id) where
  -- the connections before and after a call that sends this ask
  abbrev pub Asks : Option (List Traffic) → Option (List Traffic) → Type 0
  Asks old new = (new ≡ old) ⊎ AddsOne (λ t. IsFront (asks s m id b) t.sent) old new

  once : (n : Method) (q : List ℕ) (old new : Option (List Traffic)) → Asks old new → (times_asked s n new q ≤ times_asked s n old q + 1) × (times_asked s n old q ≤ times_asked s n new q)
  once n q old new (inl same) =
      let is : times_asked s n new q ≡ times_asked s n old q = ap (λ o. times_asked s n o q) same in
      (omega (arith, is), omega (arith, is))
  once n q None new (inr more) =
      let is : times_asked s n new q ≡ 0 = ap (λ o. times_asked s n o q) more in
      (omega (arith, is), omega (arith, is))
  once n q (Some ended) new (inr more) =
      let is : times_asked s n new q ≡ times_asked s n (Some ended) q + one_if (is_asked s n q more.0) =
      ap (λ o. times_asked s n o q) more.1 ∙ pushed s n q ended more.0 in
      let few = at_most (is_asked s n q more.0) in
      (omega (arith, is, few), omega (arith, is, few))

  none_of : (n : Method) (q : List ℕ) (t : Traffic) → ((m ≡ n) × (q ≡ id) → ⊥) → IsFront (asks s m id b) t.sent → (x : Bool) → is_asked s n q t ≡ x → one_if x ≡ 0
  none_of n q t other front true hit = absurd (other (front_one s m n id q b t is front hit))
  none_of n q t other front false miss = refl

  else : (n : Method) (q : List ℕ) (old new : Option (List Traffic)) → Asks old new → ((m ≡ n) × (q ≡ id) → ⊥) → times_asked s n new q ≡ times_asked s n old q
  else n q old new (inl same) other = ap (λ o. times_asked s n o q) same
  else n q None new (inr more) other = ap (λ o. times_asked s n o q) more
  else n q (Some ended) new (inr more) other =
      let is : times_asked s n new q ≡ times_asked s n (Some ended) q + one_if (is_asked s n q more.0) =
      ap (λ o. times_asked s n o q) more.1 ∙ pushed s n q ended more.0 in
      let none = none_of n q more.0 other more.2 (is_asked s n q more.0) refl in
      omega (arith, is, none)

  pub asked_once : (old new : Option (List Traffic)) → Asks old new → AskedOnce (times_asked s m old) (times_asked s m new) id
  asked_once old new more = record {
    this = (once m id old new more).0;
    no_less = (once m id old new more).1;
    others = λ q other. else m q old new more (λ both. other both.1);
  }

  pub asked_none : (n : Method) → (m ≡ n → ⊥) → (old new : Option (List Traffic)) → Asks old new → times_asked s n new ≡ times_asked s n old
  asked_none n other old new more = λ i q. else n q old new more (λ both. other both.0) i
