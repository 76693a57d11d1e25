-- Entries one after the other.
use Rattle.std.proofs.Common.{◌≡◌, ℕ, zero, suc, ◌+◌, ◌-◌, ◌<◌, ◌≤◌, List, [], ◌∷◌, ◌++◌, length, map, take, drop, slice_index_or, slice_range, refl, sym, ap, subst, ◌∙◌, arith, length-append, Option, Some, None, IfSome, Result, Ok, Err, IfOk, IfErr, OnOk}
use Rattle.std.proofs.lemmas.List.{length-drop, take_all}
use Rattle.buzhash_cut.proofs.Cuttable.{cuts_exist}
use Rattle.chunk_ends.specs.Cuts.{AreCuts}
use Rattle.buzhash_cut.specs.Entries.{IsCutEntry, IsStep, AreLinked, AreEntries, AreTooMany, IsEntryRun}
use Rattle.buzhash_cut.specs.Image.{named_from, HasTooManyCuts}
use Rattle.chunk_ends.specs.Sizes.{Sizes}
use Rattle.buzhash_cut.specs.declared.image.CutFault.{CutFault}
use Rattle.buzhash_cut.specs.declared.image.CutFault.TheVariants as faults
use Rattle.caibx_codec.specs.Seen.{pairs}
use Rattle.caibx_codec.specs.declared.index.Entry.{Entry}
use Rattle.chunk_store.specs.Digests.{digest_of}
use Rattle.chunk_store.specs.declared.id.DigestKind.{DigestKind}
use Rattle.dsy_base.specs.Bytes.{Held}

-- what is known of the bytes, where they are told
pub if_both : (o : Option (List ℕ)) (P Q R : List ℕ → Type 0) → IfSome o P → IfSome o Q → ((t : List ℕ) → P t → Q t → R t) → IfSome o R
if_both None P Q R h k f = tt
if_both (Some t) P Q R h k f = f t h k

pub if_one : (o : Option (List ℕ)) (P R : List ℕ → Type 0) → IfSome o P → ((t : List ℕ) → P t → R t) → IfSome o R
if_one None P R h f = tt
if_one (Some t) P R h f = f t h

module _ (P : ℕ → ℕ × List ℕ → Type 0) where
  linked_joined : (a b c : ℕ) (xs ys : List (ℕ × List ℕ)) → AreLinked P a xs b → AreLinked P b ys c → AreLinked P a (xs ++ ys) c
  linked_joined a b c [] ys p q = subst (λ (n : ℕ). AreLinked P n ys c) (sym p) q
  linked_joined a b c (x ∷ xs) ys p q = (p.0, linked_joined x.0 b c xs ys p.1 q)

  -- after one of them
  linked_after : (a c : ℕ) (xs : List Entry) (i : ℕ) (d : Entry) → i < length xs → AreLinked P a (pairs xs) c → AreLinked P (slice_index_or xs i d).end (pairs (drop (suc i) xs)) c
  linked_after a c [] i d lt p = absurd (omega arith)
  linked_after a c (x ∷ xs) zero d lt p = p.1
  linked_after a c (x ∷ xs) (suc i) d lt p = linked_after x.end c xs i d (omega arith) p.1

  -- the last one
  pub linked_last : (a c : ℕ) (xs : List Entry) (d : Entry) → 0 < length xs → AreLinked P a (pairs xs) c → (slice_index_or xs (length xs - 1) d).end ≡ c
  linked_last a c [] d some p = absurd (omega arith)
  linked_last a c (x ∷ []) d some p = p.1
  linked_last a c (x ∷ y ∷ xs) d some p =
      let last : length (x ∷ y ∷ xs) - 1 ≡ suc (length (y ∷ xs) - 1) = omega arith in
      ap (λ (i : ℕ). (slice_index_or (x ∷ y ∷ xs) i d).end) last ∙ linked_last x.end c (y ∷ xs) d (omega arith) p.1

module _ (kind : DigestKind) (s : Sizes) (bytes : Option (List ℕ)) where
  pub entries_joined : (a b c : ℕ) (xs ys : List (ℕ × List ℕ)) → AreEntries kind s bytes a xs b → AreEntries kind s bytes b ys c → AreEntries kind s bytes a (xs ++ ys) c
  entries_joined a b c xs ys p q = record {
    steps = linked_joined (IsStep s.greatest) a b c xs ys p.steps q.steps;
    chunks = if_both bytes (λ t. AreLinked (IsCutEntry kind s t) a xs b) (λ t. AreLinked (IsCutEntry kind s t) b ys c) (λ t. AreLinked (IsCutEntry kind s t) a (xs ++ ys) c) p.chunks q.chunks
        (λ t x y. linked_joined (IsCutEntry kind s t) a b c xs ys x y);
  }

  -- one more
  pub entries_more : (a b : ℕ) (xs zs : List (ℕ × List ℕ)) (e : ℕ × List ℕ) → zs ≡ xs ++ e ∷ [] → b < e.0 → e.0 ≤ b + s.greatest → IfSome bytes (λ t. IsCutEntry kind s t b e)
      → AreEntries kind s bytes a xs b → AreEntries kind s bytes a zs e.0
  entries_more a b xs zs e is low high chunk p = subst (λ (ys : List (ℕ × List ℕ)). AreEntries kind s bytes a ys e.0) (sym is)
      (entries_joined a b e.0 xs (e ∷ []) p (record {
        steps = ((low, high), refl);
        chunks = if_one bytes (λ t. IsCutEntry kind s t b e) (λ t. AreLinked (IsCutEntry kind s t) b (e ∷ []) e.0) chunk (λ t is_chunk. (is_chunk, refl));
      }))

-- a run from one of its chunks' ends on
pub run_after : (kind : DigestKind) (s : Sizes) (h : Held) (a at : ℕ) (xs ys : List Entry) (i : ℕ) (d : Entry) → ys ≡ xs → i < length xs → (slice_index_or xs i d).end ≡ at → IsEntryRun kind s h a (pairs xs)
    → IsEntryRun kind s h at (pairs (take (length ys - (i + 1)) (drop (i + 1) ys)))
run_after kind s h a at xs ys i d same lt is run =
    let next : suc i ≡ i + 1 = omega arith in
    let all : drop (suc i) xs ≡ take (length ys - (i + 1)) (drop (i + 1) ys) =
    ap (λ (n : ℕ). drop n xs) next ∙ ap (drop (i + 1)) (sym same) ∙ sym (take_all (length ys - (i + 1)) (drop (i + 1) ys) (omega (arith, length-drop (i + 1) ys))) in
    let from = λ (es : List Entry). IsEntryRun kind s h at (pairs es) in
    let linked = λ (P : ℕ → ℕ × List ℕ → Type 0) (p : AreLinked P a (pairs xs) run.end).
    subst (λ (n : ℕ). AreLinked P n (pairs (drop (suc i) xs)) run.end) is (linked_after P a run.end xs i d lt p) in
    subst from all (record {
      end = run.end;
      inside = run.inside;
      entries = record {
        steps = linked (IsStep s.greatest) run.entries.steps;
        chunks = if_one h.bytes (λ t. AreLinked (IsCutEntry kind s t) a (pairs xs) run.end) (λ t. AreLinked (IsCutEntry kind s t) at (pairs (drop (suc i) xs)) run.end) run.entries.chunks (λ t. linked (IsCutEntry kind s t));
      };
    })

-- chunks end where the image is cut
abbrev pub ends_in : List (ℕ × List ℕ) → List ℕ
ends_in es = map (λ e. e.0) es

length-ends : (es : List (ℕ × List ℕ)) → length (ends_in es) ≡ length es
length-ends [] = refl
length-ends (e ∷ es) = omega (arith, length-ends es)

module _ (kind : DigestKind) (s : Sizes) (image : List ℕ) where
  pub cuts_of : (a c : ℕ) (es : List (ℕ × List ℕ)) (rest : List ℕ) → AreLinked (IsCutEntry kind s image) a es c → AreCuts s image c rest → AreCuts s image a (ends_in es ++ rest)
  cuts_of a c [] rest p cuts = subst (λ (n : ℕ). AreCuts s image n rest) (sym p) cuts
  cuts_of a c (e ∷ es) rest p cuts =
      let here : IsCutEntry kind s image a e = p.0 in
      let after : a < e.0 = here.after in
      (e.0 - a, here.cut, omega arith, cuts_of e.0 c es rest p.1 cuts)

  pub names_of : (a c : ℕ) (es : List (ℕ × List ℕ)) → AreLinked (IsCutEntry kind s image) a es c → es ≡ named_from kind image a (ends_in es)
  names_of a c [] p = refl
  names_of a c (e ∷ es) p =
      let here : IsCutEntry kind s image a e = p.0 in
      let rest : es ≡ named_from kind image e.0 (ends_in es) = names_of e.0 c es p.1 in
      ap (λ (x : List ℕ). (e.0, x) ∷ es) here.named ∙ ap (λ (ys : List (ℕ × List ℕ)). (e.0, digest_of kind (slice_range image a e.0)) ∷ ys) rest

  -- more chunks than an index may list
  pub many_of : (c : ℕ) (es : List (ℕ × List ℕ)) → AreLinked (IsCutEntry kind s image) 0 es c → c ≤ length image → 4194304 < length es → HasTooManyCuts s image
  many_of c es p inside many =
      let rest = cuts_exist s image c inside in
      record {
        ends = ends_in es ++ rest.0;
        cuts = cuts_of 0 c es rest.0 p rest.1;
        many = omega (arith, length-append (ends_in es) rest.0, length-ends es);
      }

  pub many_next : (c : ℕ) (es : List (ℕ × List ℕ)) (e : ℕ × List ℕ) → AreLinked (IsCutEntry kind s image) 0 es c → IsCutEntry kind s image c e → 4194304 ≤ length es → HasTooManyCuts s image
  many_next c es e p chunk full =
      let after : c < e.0 = chunk.after in
      let within : e.0 - c ≤ length (drop c image) = chunk.cut.inside in
      many_of e.0 (es ++ e ∷ []) (linked_joined (IsCutEntry kind s image) 0 c e.0 es (e ∷ []) p (chunk, refl)) (omega (arith, within, length-drop c image)) (omega (arith, length-append es (e ∷ [])))

-- the ends rise
rises : (greatest a c : ℕ) (es : List (ℕ × List ℕ)) → AreLinked (IsStep greatest) a es c → a ≤ c
rises greatest a c [] p = omega (arith, p)
rises greatest a c (e ∷ es) p = omega (arith, p.0, rises greatest e.0 c es p.1)

rises_on : (greatest a c : ℕ) (es : List (ℕ × List ℕ)) → 0 < length es → AreLinked (IsStep greatest) a es c → a < c
rises_on greatest a c [] some p = absurd (omega arith)
rises_on greatest a c (e ∷ es) some p = omega (arith, p.0, rises greatest e.0 c es p.1)

-- a run that was added to the entries of the chunks before it
module _ (kind : DigestKind) (s : Sizes) (h : Held) (at : ℕ) (old new es : List (ℕ × List ℕ)) (r : Result ℕ CutFault) (some : 0 < length es) (run : IsEntryRun kind s h at es) (before : AreEntries kind s h.bytes 0 old at) where
  pub taken_end : IfOk r (λ e. (greatest start end : ℕ) → AreLinked (IsStep greatest) start es end → e ≡ end) → IfOk r (λ e. (at < e) × (e ≤ h.size))
  taken_end end = elim r as (λ r. IfOk r (λ e. (greatest start end : ℕ) → AreLinked (IsStep greatest) start es end → e ≡ end) → IfOk r (λ e. (at < e) × (e ≤ h.size))) [
    | Ok e ↦ λ last.
        let is : e ≡ run.end = last s.greatest at run.end run.entries.steps in
        let up : at < run.end = rises_on s.greatest at run.end es some run.entries.steps in
        let in_it : run.end ≤ h.size = run.inside in
        (omega arith, omega arith)
    | Err f ↦ λ last. tt
  ] end

  pub taken_chunks : IfOk r (λ e. (greatest start end : ℕ) → AreLinked (IsStep greatest) start es end → e ≡ end) → OnOk r (new ≡ old ++ es) → IfOk r (λ e. AreEntries kind s h.bytes 0 new e)
  taken_chunks end added = elim r as (λ r. IfOk r (λ e. (greatest start end : ℕ) → AreLinked (IsStep greatest) start es end → e ≡ end) → OnOk r (new ≡ old ++ es) → IfOk r (λ e. AreEntries kind s h.bytes 0 new e)) [
    | Ok e ↦ λ last is.
        let all = entries_joined kind s h.bytes 0 at run.end old es before run.entries in
        subst (λ (n : ℕ). AreEntries kind s h.bytes 0 new n) (sym (last s.greatest at run.end run.entries.steps)) (subst (λ (xs : List (ℕ × List ℕ)). AreEntries kind s h.bytes 0 xs run.end) (sym is) all)
    | Err f ↦ λ last is. tt
  ] end added

  too_many : IfSome h.bytes (λ t. length t ≡ h.size) → 4194304 < length old + length es → AreTooMany s h
  too_many sized many =
      let all = entries_joined kind s h.bytes 0 at run.end old es before run.entries in
      if_both h.bytes (λ t. AreLinked (IsCutEntry kind s t) 0 (old ++ es) run.end) (λ t. length t ≡ h.size) (HasTooManyCuts s) all.chunks sized
      (λ t chunks long. many_of kind s t run.end (old ++ es) chunks (omega (arith, run.inside, long)) (omega (arith, length-append old es)))

  pub taken_many : IfSome h.bytes (λ t. length t ≡ h.size) → IfErr r (λ f. f ≡ faults.TooManyItems → 4194304 < length old + length es) → IfErr r (λ f. f ≡ faults.TooManyItems → AreTooMany s h)
  taken_many sized many = elim r as (λ r. IfErr r (λ f. f ≡ faults.TooManyItems → 4194304 < length old + length es) → IfErr r (λ f. f ≡ faults.TooManyItems → AreTooMany s h)) [
    | Ok e ↦ λ full. tt
    | Err f ↦ λ full is. too_many sized (full is)
  ] many
