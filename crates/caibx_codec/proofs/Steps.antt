-- What is known after one field more: the bytes that were read, and that they are valid.
use Rattle.std.proofs.Common.{◌≡◌, ℕ, ◌+◌, ◌-◌, ◌^◌, ◌<◌, ◌≤◌, Bool, true, false, cond, eqb, nat_lt, nat_le, List, [], ◌∷◌, ◌++◌, length, Result, Ok, Err, refl, sym, ap, subst, ◌∙◌, arith, append_assoc, get_or}
use Rattle.std.specs.Int.{w64, from_le_bytes}
use Rattle.std.specs.List.{AllByRecursion, flat_map}
use Rattle.std.proofs.lemmas.Bool.{eqb-true}
use Rattle.std.proofs.lemmas.Bool.Decides.{nat_tests}
use Rattle.std.proofs.lemmas.List.{append-nil, length-append}
use Rattle.std.proofs.lemmas.Grind.{flat_map-append}
use Rattle.std.proofs.lemmas.Nat.{le_bytes_8}
use Rattle.chunk_store.specs.Digests.{IsId}
use Rattle.caibx_fields.specs.declared.fault.IndexFault.{IndexFault}
use Rattle.caibx_fields.specs.declared.fault.IndexFault.TheVariants as faults
use Rattle.caibx_fields.specs.declared.field.Field.{Field}
use Rattle.caibx_fields.specs.declared.field.Field.TheVariants as field
use Rattle.caibx_fields.specs.declared.field.Fields.{Fields}
use Rattle.caibx_fields.specs.Words.{word, words}
use Rattle.caibx_fields.specs.Fields.{need, to, word_at, end_judged}
use Rattle.caibx_codec.specs.Listing.{AreChunks}
use Rattle.caibx_codec.specs.Spelling.{item, items}
use Rattle.caibx_codec.specs.Reading.{Read, judge, judge_at, ◌>>=◌}
use Rattle.caibx_codec.specs.Standing.{front, before, last_end, EndFits, IsSound}

abbrev pub IsBytes : List ℕ → Type 0
IsBytes bytes = (i : ℕ) → get_or bytes i 0 < 256

-- ---- steps that did not fail

pub bind_ok : {A B : Type 0} (r : Result A IndexFault) (f : A → Result B IndexFault) (y : B) → (r >>= f) ≡ Ok y → (x : A) × (r ≡ Ok x) × (f x ≡ Ok y)
bind_ok (Ok x) f y h = (x, refl, h)
bind_ok (Err e) f y h = absurd (cc)

pub ok_is : {A : Type 0} (x y : A) → (let r : Result A IndexFault = Ok x in r) ≡ Ok y → x ≡ y
ok_is x y h = cc

-- a test that was to fail
guard_ok : {B : Type 0} (b : Bool) (e : IndexFault) (r : Result B IndexFault) (y : B) → cond b (Err e) r ≡ Ok y → (b ≡ false) × (r ≡ Ok y)
guard_ok true e r y h = absurd (cc)
guard_ok false e r y h = (refl, h)

-- a test that was to pass
wanted_ok : (b : Bool) (e : IndexFault) (x y : Fields) → cond b (Ok x) (Err e) ≡ Ok y → (b ≡ true) × (x ≡ y)
wanted_ok true e x y h = (refl, ok_is x y h)
wanted_ok false e x y h = absurd (cc)

-- a test that may pass
chosen : (b : Bool) (x y : Fields) (r : Result Fields IndexFault) (P : Fields → Type 0) → cond b (Ok x) r ≡ Ok y → (b ≡ true → P x) → (b ≡ false → r ≡ Ok y → P y) → P y
chosen true x y r P h passes goes = subst P (ok_is x y h) (passes refl)
chosen false x y r P h passes goes = goes refl h

-- ---- what one field adds

-- the bytes before the next field, and what was read
abbrev Step : Field → Fields → List (ℕ × List ℕ) → ℕ → Fields → Type 0
Step f s es w t = (before t.next t es ≡ before f s es ++ word w) × IsSound t.next t es

-- the word was to be this one
fixed : (f : Field) (s : Fields) (es : List (ℕ × List ℕ)) (n w : ℕ) (e : IndexFault) (made t : Fields) → Step f s es n made → cond (eqb w n) (Ok made) (Err e) ≡ Ok t → Step f s es w t
fixed f s es n w e made t step h =
    let g = wanted_ok (eqb w n) e made t h in
    let same : w ≡ n = eqb-true w n g.0 in
    subst (λ x. Step f s es w x) g.1 (subst (λ x. Step f s es x made) (sym same) step)

-- any word will do
free : (f : Field) (s : Fields) (es : List (ℕ × List ℕ)) (w : ℕ) (made t : Fields) → Step f s es w made → (let r : Result Fields IndexFault = Ok made in r) ≡ Ok t → Step f s es w t
free f s es w made t step h = subst (λ x. Step f s es w x) (ok_is made t h) step

-- what was read before field f is sound before field g too, where the end that was read last fits there
moved : (f g : Field) (s : Fields) (es : List (ℕ × List ℕ)) → IsSound f s es → EndFits g (to s g) es → IsSound g (to s g) es
moved f g s es sound fits = record { valid = sound.valid; end = fits; offset = sound.offset; size = sound.size }

no_chunks : (g : ℕ) (es : List (ℕ × List ℕ)) → es ≡ [] → AreChunks g 0 es
no_chunks g es h = subst (λ x. AreChunks g 0 x) (sym h) tt

no_more : (m w : ℕ) → nat_lt m w ≡ false → w ≤ m
no_more m w h = grind (arith, nat_tests)

not_above : (m w : ℕ) → nat_le m w ≡ false → w < m
not_above m w h = grind (arith, nat_tests)

-- after the last word before the items
items_begin : (a : List ℕ) (es : List (ℕ × List ℕ)) → es ≡ [] → a ++ items es ≡ a ++ []
unfolding items
items_begin a es h = subst (λ x. a ++ items x ≡ a ++ []) (sym h) refl

-- an item's first word
end_step : (s : Fields) (es : List (ℕ × List ℕ)) (w : ℕ) (t : Fields) → w < 2 ^ 64 → IsSound field.End s es → end_judged s (length es) w ≡ Ok t → Step field.End s es w t
unfolding end_judged before EndFits
end_step s es w t small sound h =
    chosen (eqb w 0) (to s field.Zero) t _ (Step field.End s es w) h
    (λ is. let same : w ≡ 0 = eqb-true w 0 is in subst (λ x. Step field.End s es x (to s field.Zero)) (sym same) (refl, moved field.End field.Zero s es sound sound.end))
    (λ is more.
    let room = guard_ok (nat_le 4194304 (length es)) faults.Items _ t more in
    let above = guard_ok (nat_le w s.end) (faults.Order (length es)) _ t room.1 in
    let fits = guard_ok (nat_lt s.max (w - s.end)) (faults.TooLarge (length es) (w - s.end)) _ t above.1 in
    let few = not_above 4194304 (length es) room.0 in
    let over = not_above w s.end above.0 in
    let no_larger = no_more s.max (w - s.end) fits.0 in
    let last : s.end ≡ last_end 0 es = sound.end in
    let ends : (last_end 0 es < w) × (w ≤ last_end 0 es + s.max) × (length es < 4194304) = (omega arith, omega arith, few) in
    free field.End s es w (record s { next = field.Id; end = w }) t (refl, record { valid = sound.valid; end = ends; offset = sound.offset; size = sound.size }) fits.1)

word_step : (f : Field) (s : Fields) (es : List (ℕ × List ℕ)) (w : ℕ) (t : Fields) → w < 2 ^ 64 → IsSound f s es → word_at f s (length es) w ≡ Ok t → Step f s es w t
unfolding word_at before EndFits
word_step field.HeadSize s es w t small sound h =
    fixed field.HeadSize s es 48 w faults.Head (to s field.HeadType) t (refl, moved field.HeadSize field.HeadType s es sound sound.end) h
word_step field.HeadType s es w t small sound h =
    fixed field.HeadType s es 0x96824d9c7b129ff9 w faults.Head (to s field.Flags) t (refl, moved field.HeadType field.Flags s es sound sound.end) h
word_step field.Flags s es w t small sound h =
    let v = sound.valid in
    free field.Flags s es w (record s { next = field.Min; flags = w }) t (refl, record { valid = record { size = v.size; few = v.few; chunks = v.chunks; ids = v.ids; flags = small; least = v.least; average = v.average }; end = sound.end; offset = sound.offset; size = sound.size }) h
word_step field.Min s es w t small sound h =
    let v = sound.valid in
    free field.Min s es w (record s { next = field.Avg; min = w }) t (refl, record { valid = record { size = v.size; few = v.few; chunks = v.chunks; ids = v.ids; flags = v.flags; least = small; average = v.average }; end = sound.end; offset = sound.offset; size = sound.size }) h
word_step field.Avg s es w t small sound h =
    let v = sound.valid in
    free field.Avg s es w (record s { next = field.Max; avg = w }) t (refl, record { valid = record { size = v.size; few = v.few; chunks = v.chunks; ids = v.ids; flags = v.flags; least = v.least; average = small }; end = sound.end; offset = sound.offset; size = sound.size }) h
word_step field.Max s es w t small sound h =
    let g = guard_ok (nat_lt 67108864 w) (faults.MaxSize w) _ t h in
    let v = sound.valid in
    free field.Max s es w (record s { next = field.TableSize; max = w }) t (refl, record { valid = record { size = no_more 67108864 w g.0; few = v.few; chunks = no_chunks w es sound.end.0; ids = v.ids; flags = v.flags; least = v.least; average = v.average }; end = sound.end; offset = sound.offset; size = sound.size }) g.1
word_step field.TableSize s es w t small sound h =
    fixed field.TableSize s es 0xffffffffffffffff w faults.Table (to s field.TableType) t (refl, moved field.TableSize field.TableType s es sound sound.end) h
word_step field.TableType s es w t small sound h =
    let last : s.end ≡ last_end 0 es = subst (λ x. s.end ≡ last_end 0 x) (sym sound.end.0) sound.end.1 in
    fixed field.TableType s es 0xe75b9e112f17417d w faults.Table (to s field.End) t (items_begin (front s) es sound.end.0, moved field.TableType field.End s es sound last) h
word_step field.End s es w t small sound h = end_step s es w t small sound h
word_step field.Id s es w t small sound h = absurd (cc)
word_step field.Zero s es w t small sound h =
    fixed field.Zero s es 0 w faults.Tail (to s field.Offset) t (sym (append_assoc (front s ++ items es) (words (0 ∷ [])) (word 0)), moved field.Zero field.Offset s es sound sound.end) h
word_step field.Offset s es w t small sound h =
    free field.Offset s es w (record s { next = field.Size; offset = w }) t (sym (append_assoc (front s ++ items es) (words (0 ∷ 0 ∷ [])) (word w)), record { valid = sound.valid; end = sound.end; offset = small; size = sound.size }) h
word_step field.Size s es w t small sound h =
    free field.Size s es w (record s { next = field.Marker; size = w }) t (sym (append_assoc (front s ++ items es) (words (0 ∷ 0 ∷ s.offset ∷ [])) (word w)), record { valid = sound.valid; end = sound.end; offset = sound.offset; size = small }) h
word_step field.Marker s es w t small sound h =
    fixed field.Marker s es 0x4b4f050e5549ecd1 w faults.Tail (to s field.Nothing) t (sym (append_assoc (front s ++ items es) (words (0 ∷ 0 ∷ s.offset ∷ s.size ∷ [])) (word 0x4b4f050e5549ecd1)), moved field.Marker field.Nothing s es sound sound.end) h
word_step field.Nothing s es w t small sound h = absurd (cc)

-- ---- an item more

chunks_more : (g from : ℕ) (es : List (ℕ × List ℕ)) (e : ℕ × List ℕ) → AreChunks g from es → last_end from es < e.0 → e.0 ≤ last_end from es + g → AreChunks g from (es ++ e ∷ [])
chunks_more g from [] e h above fits = (above, fits, tt)
chunks_more g from (x ∷ es) e h above fits = (h.0, h.1, chunks_more g x.0 es e h.2 above fits)

ids_more : (es : List (ℕ × List ℕ)) (e : ℕ × List ℕ) → AllByRecursion (λ e. IsId e.1) es → IsId e.1 → AllByRecursion (λ e. IsId e.1) (es ++ e ∷ [])
ids_more [] e h id = (id, tt)
ids_more (x ∷ es) e h id = (h.0, ids_more es e h.1 id)

last_more : (from : ℕ) (es : List (ℕ × List ℕ)) (e : ℕ × List ℕ) → last_end from (es ++ e ∷ []) ≡ e.0
last_more from [] e = refl
last_more from (x ∷ es) e = last_more x.0 es e

pub items_more : (es : List (ℕ × List ℕ)) (e : ℕ × List ℕ) → items (es ++ e ∷ []) ≡ items es ++ item e
unfolding items
items_more es e = flat_map-append item es (e ∷ []) ∙ ap (λ x. flat_map item es ++ x) (append-nil (item e))

pub item_is : (end : ℕ) (id : List ℕ) → item (end, id) ≡ word end ++ id
unfolding item
item_is end id = refl

pub id_step : (s : Fields) (es : List (ℕ × List ℕ)) (id : List ℕ) → IsId id → IsSound field.Id s es → (before field.End (to s field.End) (es ++ (s.end, id) ∷ []) ≡ before field.Id s es ++ id) × IsSound field.End (to s field.End) (es ++ (s.end, id) ∷ [])
unfolding before EndFits
id_step s es id is sound =
    let more : items (es ++ (s.end, id) ∷ []) ≡ items es ++ (word s.end ++ id) = items_more es (s.end, id) ∙ ap (λ x. items es ++ x) (item_is s.end id) in
    let v = sound.valid in
    let bytes : front s ++ items (es ++ (s.end, id) ∷ []) ≡ ((front s ++ items es) ++ words (s.end ∷ [])) ++ id =
    ap (λ x. front s ++ x) more ∙ sym (append_assoc (front s) (items es) (word s.end ++ id)) ∙ sym (append_assoc (front s ++ items es) (words (s.end ∷ [])) id) in
    let few : length (es ++ (s.end, id) ∷ []) ≤ 4194304 = omega (arith, length-append es ((s.end, id) ∷ []), sound.end.2) in (
      bytes,
      record {
        valid = record {
          size = v.size;
          few = few;
          chunks = chunks_more s.max 0 es (s.end, id) v.chunks sound.end.0 sound.end.1;
          ids = ids_more es (s.end, id) v.ids is;
          flags = v.flags;
          least = v.least;
          average = v.average;
        };
        end = sym (last_more 0 es (s.end, id));
        offset = sound.offset;
        size = sound.size;
      },
    )

-- ---- all bytes of a field

pub number_below : (b : List ℕ) → IsBytes b → from_le_bytes w64 b < 2 ^ 64
number_below b fits = omega (arith, fits 0, fits 1, fits 2, fits 3, fits 4, fits 5, fits 6, fits 7)

pub record Judged (f : Field) (r : Read) (b : List ℕ) (t : Read) : Type 0 where
  pub bytes : before t.fields.next t.fields t.entries ≡ before f r.fields r.entries ++ b
  pub sound : IsSound t.fields.next t.fields t.entries
  pub none : t.part ≡ []

judged_word : (f : Field) (r : Read) (b : List ℕ) (t : Read) → length b ≡ 8 → IsBytes b → IsSound f r.fields r.entries → (word_at f r.fields (length r.entries) (from_le_bytes w64 b) >>= λ s. Ok (record { fields = s; entries = r.entries; part = [] })) ≡ Ok t → Judged f r b t
judged_word f r b t len fits sound h =
    let w = from_le_bytes w64 b in
    let g = bind_ok (word_at f r.fields (length r.entries) w) (λ s. Ok (record { fields = s; entries = r.entries; part = [] })) t h in
    let step = word_step f r.fields r.entries w g.0 (number_below b fits) sound g.1 in
    let back : word w ≡ b = le_bytes_8 b w len fits refl in
    let made : Read = record { fields = g.0; entries = r.entries; part = [] } in
    subst (Judged f r b) (ok_is made t g.2) (record { bytes = step.0 ∙ ap (λ x. before f r.fields r.entries ++ x) back; sound = step.1; none = refl })

judged_at : (f : Field) (r : Read) (b : List ℕ) (t : Read) → length b ≡ need f → IsBytes b → IsSound f r.fields r.entries → judge_at f r b ≡ Ok t → Judged f r b t
unfolding judge_at
judged_at field.Id r b t len fits sound h =
    let made : Read = record { fields = to r.fields field.End; entries = r.entries ++ (r.fields.end, b) ∷ []; part = [] } in
    let step = id_step r.fields r.entries b (record { bytes = fits; size = len }) sound in
    subst (Judged field.Id r b) (ok_is made t h) (record { bytes = step.0; sound = step.1; none = refl })
judged_at field.Nothing r b t len fits sound h = absurd (cc)
judged_at f r b t len fits sound h = judged_word f r b t len fits sound h

pub judged : (r : Read) (b : List ℕ) (t : Read) → length b ≡ need r.fields.next → IsBytes b → IsSound r.fields.next r.fields r.entries → judge r b ≡ Ok t → Judged r.fields.next r b t
judged r b t len fits sound h = judged_at r.fields.next r b t len fits sound h
