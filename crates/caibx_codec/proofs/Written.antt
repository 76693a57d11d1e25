-- What is written.
use Rattle.std.proofs.Common.{◌≡◌, ℕ, ◌+◌, ◌-◌, ◌*◌, ◌≤◌, List, [], ◌++◌, length, take, drop, slice_range, Option, Some, None, Result, Ok, Err, refl, sym, ap, subst, ◌∙◌, arith, lit<, append_assoc, take_all}
use Rattle.std.specs.Option.{option_map}
use Rattle.std.proofs.lemmas.List.{take-append-drop, take-append-le, length-append, map-append, append-nil}
use Rattle.std.specs.Prelude.{OnErr, OnOk}
use Rattle.std.proofs.Math.Seq.{take-add, take-append-add, take-length}
use Rattle.std.proofs.lemmas.Grind.{flat_map-append}
use Rattle.caibx_fields.specs.declared.fault.IndexFault.{IndexFault}
use Rattle.caibx_codec.specs.declared.index.Entry.{Entry}
use Rattle.dsy_base.specs.Disk.{PutsFront}
use Rattle.dsy_base.specs.Texts.{Puts}
use Rattle.dsy_base.specs.declared.fault.IoFault.{IoFault}
use Rattle.caibx_fields.specs.Words.{words}
use Rattle.caibx_codec.specs.Listing.{Listing, IsValid}
use Rattle.caibx_codec.specs.Reading.{reads_index, index_start, first_fault, fault_in_read, index_in, ◌>>=◌}
use Rattle.caibx_codec.specs.Seen.{pair, pairs}
use Rattle.caibx_codec.specs.Spelling.{items, item, front_words, tail_words, written_tail, spelling, IsIndexFile, file_of}
use Rattle.caibx_codec.proofs.Again.{file_read}
use Rattle.caibx_codec.proofs.Taken.{around}
use Rattle.caibx_codec.proofs.Views.{faulty_front, shown}
use Rattle.caibx_codec.proofs.Pieces.{reads-append}

pub file_valid : (l : Listing) → IsValid l → IsIndexFile (file_of l) l
file_valid l valid = record {
  spells = record { offset = 48; size = 56 + 40 * length l.entries; offset_fits = lit< tt; size_fits = omega (arith, valid.few); is = refl };
  valid = valid;
}

pub file_length : (b : List ℕ) (l : Listing) → IsIndexFile b l → length b ≡ 104 + 40 * length l.entries
unfolding spelling
file_length b l file =
    ap length file.spells.is ∙ around (words (front_words l)) (words (tail_words file.spells.offset file.spells.size)) l.entries 64 40 refl refl file.valid.ids

pub fault_after : (b c : List ℕ) (f : IndexFault) → first_fault b ≡ Some f → first_fault (b ++ c) ≡ Some f
unfolding first_fault
fault_after b c f h =
    ap fault_in_read (reads-append index_start b c ∙ ap (λ a. a >>= λ s. reads_index s c) (shown (reads_index index_start b) f h))

take_whole : (b : List ℕ) → take (length b) b ≡ b
take_whole b = take-length b

pub no_file_after : (b c : List ℕ) (f : IndexFault) (l : Listing) → first_fault b ≡ Some f → IsIndexFile (b ++ c) l → ⊥
no_file_after b c f l h file =
    let front : take (length b) (b ++ c) ≡ b = take-append-le (length b) b c (omega arith) ∙ take_whole b in
    let fault : index_in (b ++ c) ≡ Err f = faulty_front (b ++ c) (length b) f (ap first_fault front ∙ h) in
    let both : Ok l ≡ Err f = sym (file_read (b ++ c) l file) ∙ fault in
    absurd (cc)

-- ---- put one after the other

twice : (o : Option (List ℕ)) (a b : List ℕ) → option_map (λ t. t ++ b) (option_map (λ t. t ++ a) o) ≡ option_map (λ t. t ++ (a ++ b)) o
twice None a b = refl
twice (Some t) a b = ap (λ x. Some x) (append_assoc t a b)

-- first a, then b
pub put_both : (old mid new : Option (List ℕ)) (a b : List ℕ) → mid ≡ option_map (λ t. t ++ a) old → new ≡ option_map (λ t. t ++ b) mid → new ≡ option_map (λ t. t ++ (a ++ b)) old
put_both old mid new a b first second = second ∙ ap (option_map (λ t. t ++ b)) first ∙ twice old a b

-- first a, then a front of b
pub put_part : (old mid new : Option (List ℕ)) (a b c : List ℕ) → mid ≡ option_map (λ t. t ++ a) old → PutsFront b mid new → PutsFront (a ++ (b ++ c)) old new
put_part old mid new a b c first part =
    let n = part.0 in
    let cut : take (length a + n) (a ++ (b ++ c)) ≡ a ++ take n b = take-append-add a (b ++ c) n ∙ ap (λ x. a ++ x) (take-append-le n b c part.1) in (
      length a + n,
      omega (arith, length-append a (b ++ c), length-append b c, part.1),
      part.2 ∙ ap (option_map (λ t. t ++ take n b)) first ∙ twice old a (take n b) ∙ ap (λ x. option_map (λ t. t ++ x) old) (sym cut),
    )

nothing_more : (o : Option (List ℕ)) → o ≡ option_map (λ t. t ++ []) o
nothing_more None = refl
nothing_more (Some t) = ap (λ x. Some x) (sym (append-nil t))

pub puts_none : (old new : Option (List ℕ)) (b : List ℕ) → new ≡ old → PutsFront b old new
puts_none old new b h = (0, omega arith, h ∙ nothing_more old)

-- ---- the items, a block after the other

items-append : (es fs : List (ℕ × List ℕ)) → items (es ++ fs) ≡ items es ++ items fs
unfolding items
items-append es fs = flat_map-append item es fs

pub block : (es : List Entry) (at end : ℕ) → at ≤ end → items (pairs (take at es)) ++ items (pairs (slice_range es at end)) ≡ items (pairs (take end es))
block es at end le =
    let k : at + (end - at) ≡ end = omega arith in
    let cut : take at es ++ slice_range es at end ≡ take end es = sym (take-add at (end - at) es) ∙ ap (λ n. take n es) k in
    sym (items-append (pairs (take at es)) (pairs (slice_range es at end))) ∙ ap items (sym (map-append pair (take at es) (slice_range es at end)) ∙ ap pairs cut)

-- what is left after the items before `end`
pub after_block : (es : List Entry) (end : ℕ) → items (pairs (take end es)) ++ items (pairs (drop end es)) ≡ items (pairs es)
after_block es end =
    sym (items-append (pairs (take end es)) (pairs (drop end es))) ∙ ap items (sym (map-append pair (take end es) (drop end es)) ∙ ap pairs (take-append-drop end es))

pub no_block : (es : List Entry) (o : Option (List ℕ)) → o ≡ option_map (λ t. t ++ items (pairs (take 0 es))) o
unfolding items
no_block es o = nothing_more o

module _ (es : List Entry) (at end : ℕ) (le : at ≤ end) (old mid new : Option (List ℕ)) (put : mid ≡ option_map (λ t. t ++ items (pairs (take at es))) old) where
  pub blocks_put : new ≡ option_map (λ t. t ++ items (pairs (slice_range es at end))) mid → new ≡ option_map (λ t. t ++ items (pairs (take end es))) old
  blocks_put more = put_both old mid new _ _ put more ∙ ap (λ b. option_map (λ t. t ++ b) old) (block es at end le)

  pub blocks_part : PutsFront (items (pairs (slice_range es at end))) mid new → PutsFront (items (pairs es)) old new
  blocks_part part =
      let a = items (pairs (take at es)) in
      let b = items (pairs (slice_range es at end)) in
      let c = items (pairs (drop end es)) in
      let all : a ++ (b ++ c) ≡ items (pairs es) = sym (append_assoc a b c) ∙ ap (λ x. x ++ c) (block es at end le) ∙ after_block es end in
      subst (λ x. PutsFront x old new) all (put_part old mid new a b c put part)

pub all_put : (es : List Entry) (at : ℕ) (old new : Option (List ℕ)) → length es ≤ at → new ≡ option_map (λ t. t ++ items (pairs (take at es))) old → new ≡ option_map (λ t. t ++ items (pairs es)) old
all_put es at old new le put = put ∙ ap (λ x. option_map (λ t. t ++ items (pairs x)) old) (take_all at es le)

-- what was put where an error came, whichever it is
pub stops_with : (r : Result Unit IoFault) (e : IoFault) (b : List ℕ) (old new : Option (List ℕ)) → r ≡ Err e → PutsFront b old new → Puts b old new r
stops_with (Ok x) e b old new is h = absurd (cc)
stops_with (Err f) e b old new is h = h

pub on_error : {A E : Type 0} (r : Result A E) (P : Type 0) → P → OnErr r P
on_error (Ok x) P h = tt
on_error (Err e) P h = h

-- ---- the whole file

module _ (l : Listing) (old one new : Option (List ℕ)) where
  abbrev front : List ℕ
  front = words (front_words l)

  abbrev back : List ℕ
  back = words (written_tail l)

  file_parts : front ++ (items l.entries ++ back) ≡ file_of l
  unfolding spelling
  file_parts = sym (append_assoc front (items l.entries) back)

  pub front_part : PutsFront front old new → PutsFront (file_of l) old new
  front_part part =
      let rest = items l.entries ++ back in
      let n = part.0 in
      let cut : take n (front ++ rest) ≡ take n front = take-append-le n front rest part.1 in
      subst (λ x. PutsFront x old new) file_parts (n, omega (arith, length-append front rest, part.1), part.2 ∙ ap (λ x. option_map (λ t. t ++ x) old) (sym cut))

  module _ (first : one ≡ option_map (λ t. t ++ front) old) (es : List (ℕ × List ℕ)) (same : es ≡ l.entries) where
    pub items_part : PutsFront (items es) one new → PutsFront (file_of l) old new
    items_part part = subst (λ x. PutsFront x old new) file_parts (put_part old one new front (items l.entries) back first (subst (λ x. PutsFront (items x) one new) same part))

    module _ (two : Option (List ℕ)) (second : two ≡ option_map (λ t. t ++ items es) one) where
      so_far : two ≡ option_map (λ t. t ++ (front ++ items l.entries)) old
      so_far = put_both old one two front (items l.entries) first (second ∙ ap (λ x. option_map (λ t. t ++ items x) one) same)

      pub tail_part : PutsFront back two new → PutsFront (file_of l) old new
      tail_part part =
          let all : (front ++ items l.entries) ++ (back ++ []) ≡ file_of l = ap (λ x. (front ++ items l.entries) ++ x) (append-nil back) ∙ append_assoc front (items l.entries) back ∙ file_parts in
          subst (λ x. PutsFront x old new) all (put_part old two new (front ++ items l.entries) back [] so_far part)

      pub file_put : new ≡ option_map (λ t. t ++ back) two → new ≡ option_map (λ t. t ++ file_of l) old
      file_put third =
          let all : (front ++ items l.entries) ++ back ≡ file_of l = append_assoc front (items l.entries) back ∙ file_parts in
          put_both old two new (front ++ items l.entries) back so_far third ∙ ap (λ x. option_map (λ t. t ++ x) old) all

-- the last part, whichever way it went
pub last_err : (r : Result Unit IoFault) (b : List ℕ) (two new : Option (List ℕ)) (Q : Type 0) → (PutsFront b two new → Q) → Puts b two new r → OnErr r Q
last_err (Ok x) b two new Q go h = tt
last_err (Err e) b two new Q go h = go h

pub last_ok : (r : Result Unit IoFault) (b : List ℕ) (two new : Option (List ℕ)) (Q : Type 0) → (new ≡ option_map (λ t. t ++ b) two → Q) → Puts b two new r → OnOk r Q
last_ok (Ok x) b two new Q go h = go h
last_ok (Err e) b two new Q go h = tt
