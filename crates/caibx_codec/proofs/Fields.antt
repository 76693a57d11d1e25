-- The fields and their judgement, case by case.
use Rattle.std.proofs.Common.{◌≡◌, ◌≢◌, ℕ, ◌<◌, ◌≤◌, List, [], ◌∷◌, ◌++◌, length, Result, Ok, Err, refl, sym, ap, subst, ◌∙◌, lit<, lit≤, arith}
use Rattle.std.specs.Int.{w64, from_le_bytes}
use Rattle.caibx_fields.specs.declared.fault.IndexFault.{IndexFault}
use Rattle.caibx_fields.specs.declared.fault.IndexFault.TheVariants as faults
use Rattle.caibx_fields.specs.declared.field.Field.{Field}
use Rattle.caibx_fields.specs.declared.field.Field.TheVariants as field
use Rattle.caibx_fields.specs.declared.field.Fields.{Fields}
use Rattle.caibx_fields.specs.Fields.{need, to, word_at}
use Rattle.caibx_codec.specs.Reading.{Read, judge, judge_at, ◌>>=◌}

pub need_least : (f : Field) → 0 < need f
need_least field.Id = lit< tt
need_least field.Nothing = lit< tt
need_least _ = lit< tt

pub need_most : (f : Field) → need f ≤ 32
need_most field.Id = lit≤ tt
need_most field.Nothing = lit≤ tt
need_most _ = lit≤ tt

-- a field of eight bytes is a word
pub no_id : (f : Field) → need f ≡ 8 → f ≢ field.Id
no_id field.Id wide h = absurd (omega arith)
no_id _ wide h = absurd (cc)

pub no_end : (f : Field) → need f ≡ 8 → f ≢ field.Nothing
no_end field.Nothing wide h = absurd (omega arith)
no_end _ wide h = absurd (cc)

judge_id_at : (f : Field) (r : Read) (b : List ℕ) → f ≡ field.Id → judge_at f r b ≡ Ok (record { fields = to r.fields field.End; entries = r.entries ++ (r.fields.end, b) ∷ []; part = [] })
unfolding judge_at
judge_id_at field.Id r b h = refl
judge_id_at _ r b h = absurd (cc)

pub judge_id : (r : Read) (b : List ℕ) → r.fields.next ≡ field.Id → judge r b ≡ Ok (record { fields = to r.fields field.End; entries = r.entries ++ (r.fields.end, b) ∷ []; part = [] })
judge_id r b h = judge_id_at r.fields.next r b h

judge_nothing_at : (f : Field) (r : Read) (b : List ℕ) → f ≡ field.Nothing → judge_at f r b ≡ Err faults.Trailing
unfolding judge_at
judge_nothing_at field.Nothing r b h = refl
judge_nothing_at _ r b h = absurd (cc)

pub judge_nothing : (r : Read) (b : List ℕ) → r.fields.next ≡ field.Nothing → judge r b ≡ Err faults.Trailing
judge_nothing r b h = judge_nothing_at r.fields.next r b h

abbrev word_read : Read → Fields → Read
word_read r s = record { fields = s; entries = r.entries; part = [] }

judge_word_at : (f : Field) (r : Read) (b : List ℕ) → f ≢ field.Id → f ≢ field.Nothing → judge_at f r b ≡ (word_at f r.fields (length r.entries) (from_le_bytes w64 b) >>= λ s. Ok (record { fields = s; entries = r.entries; part = [] }))
unfolding judge_at
judge_word_at field.Id r b h g = absurd (h refl)
judge_word_at field.Nothing r b h g = absurd (g refl)
judge_word_at _ r b h g = refl

pub judge_word : (r : Read) (b : List ℕ) → r.fields.next ≢ field.Id → r.fields.next ≢ field.Nothing → judge r b ≡ (word_at r.fields.next r.fields (length r.entries) (from_le_bytes w64 b) >>= λ s. Ok (record { fields = s; entries = r.entries; part = [] }))
judge_word r b h g = judge_word_at r.fields.next r b h g

need_word_at : (f : Field) → f ≢ field.Id → f ≢ field.Nothing → need f ≡ 8
need_word_at field.Id h g = absurd (h refl)
need_word_at field.Nothing h g = absurd (g refl)
need_word_at _ h g = refl

-- a word that was judged, as the code does it
module _ (r seen : Read) (is : seen ≡ r) (b : List ℕ) (k w : ℕ) (counted : k ≡ length seen.entries) (read : w ≡ from_le_bytes w64 b) (h : seen.fields.next ≢ field.Id) (g : seen.fields.next ≢ field.Nothing) where
  judged : judge seen b ≡ (word_at seen.fields.next seen.fields k w >>= λ s. Ok (record { fields = s; entries = seen.entries; part = [] }))
  judged = rw (counted, read) (judge_word seen b h g)

  pub word_passes : (answer : Result Fields IndexFault) (s : Fields) → answer ≡ word_at seen.fields.next seen.fields k w → answer ≡ Ok s → judge r b ≡ Ok (record { fields = s; entries = seen.entries; part = [] })
  word_passes answer s made ok = subst (λ x. judge x b ≡ Ok (record { fields = s; entries = seen.entries; part = [] })) is (judged ∙ ap (λ a. a >>= λ s. Ok (record { fields = s; entries = seen.entries; part = [] })) (sym made ∙ ok))

  pub word_fails : (answer : Result Fields IndexFault) (f : IndexFault) → answer ≡ word_at seen.fields.next seen.fields k w → answer ≡ Err f → judge r b ≡ Err f
  word_fails answer f made err = subst (λ x. judge x b ≡ Err f) is (judged ∙ ap (λ a. a >>= λ s. Ok (record { fields = s; entries = seen.entries; part = [] })) (sym made ∙ err))

-- an id, as the code does it
pub id_passes : (r seen : Read) → seen ≡ r → (b : List ℕ) → seen.fields.next ≡ field.Id → (es : List (ℕ × List ℕ)) → es ≡ seen.entries ++ (seen.fields.end, b) ∷ [] → judge r b ≡ Ok (record { fields = to seen.fields field.End; entries = es; part = [] })
id_passes r seen is b next es more = subst (λ x. judge x b ≡ Ok (record { fields = to seen.fields field.End; entries = es; part = [] })) is (rw more (judge_id seen b next))

-- what a field that stands whole is judged by
pub ruleset judging = (need_least, judge_id, judge_nothing)
