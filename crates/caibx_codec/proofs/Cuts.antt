-- Reading on finds no bytes cut short: only the end does.
use Rattle.std.proofs.Common.{◌≡◌, ℕ, ◌+◌, ◌-◌, Bool, true, false, cond, eqb, nat_lt, nat_le, List, [], ◌∷◌, ◌++◌, length, Result, Ok, Err, Some, refl, sym, ap, subst, ◌∙◌}
use Rattle.caibx_fields.specs.declared.fault.IndexFault.{IndexFault}
use Rattle.caibx_fields.specs.declared.fault.IndexFault.TheVariants as faults
use Rattle.caibx_fields.specs.declared.field.Field.{Field}
use Rattle.caibx_fields.specs.declared.field.Field.TheVariants as field
use Rattle.caibx_fields.specs.declared.field.Fields.{Fields}
use Rattle.caibx_codec.specs.declared.reading.ReadFault.{ReadFault}
use Rattle.caibx_codec.specs.declared.reading.ReadFault.TheVariants as errors
use Rattle.caibx_fields.specs.Fields.{need, word_at, end_judged}
use Rattle.caibx_codec.specs.Answers.{Judges}
use Rattle.caibx_codec.specs.Reading.{Read, judge_at, push_to_index, reads_index, index_start, first_fault, ◌>>=◌}
use Rattle.caibx_codec.proofs.Pieces.{reads_one, reads_none}
use Rattle.caibx_codec.proofs.Views.{shown}

abbrev is_cut : IndexFault → Bool
is_cut (faults.Truncated n) = true
is_cut _ = false

abbrev NotCut : IndexFault → Type 0
NotCut f = is_cut f ≡ false

same_err : {A : Type 0} (e g : IndexFault) → (let r : Result A IndexFault = Err e in r) ≡ Err g → NotCut e → NotCut g
same_err e g h not = let same : e ≡ g = cc in subst NotCut same not

wanted_err : {A : Type 0} (b : Bool) (x : A) (e g : IndexFault) → NotCut e → cond b (Ok x) (Err e) ≡ Err g → NotCut g
wanted_err true x e g not h = absurd (cc)
wanted_err {A} false x e g not h = same_err {A = A} e g h not

guard_err : {A : Type 0} (b : Bool) (e g : IndexFault) (r : Result A IndexFault) → NotCut e → (r ≡ Err g → NotCut g) → cond b (Err e) r ≡ Err g → NotCut g
guard_err {A} true e g r not go h = same_err {A = A} e g h not
guard_err false e g r not go h = go h

pass_err : {A : Type 0} (b : Bool) (x : A) (g : IndexFault) (r : Result A IndexFault) → (r ≡ Err g → NotCut g) → cond b (Ok x) r ≡ Err g → NotCut g
pass_err true x g r go h = absurd (cc)
pass_err false x g r go h = go h

end_not_cut : (s : Fields) (k w : ℕ) (g : IndexFault) → end_judged s k w ≡ Err g → NotCut g
unfolding end_judged
end_not_cut s k w g h =
    pass_err (eqb w 0) _ g _ (guard_err (nat_le 4194304 k) faults.Items g _ refl (guard_err (nat_le w s.end) (faults.Order k) g _ refl (λ more. guard_err (nat_lt s.max (w - s.end)) (faults.TooLarge k (w - s.end)) g _ refl (λ ok. absurd (cc)) more))) h

word_not_cut : (f : Field) (s : Fields) (k w : ℕ) (g : IndexFault) → word_at f s k w ≡ Err g → NotCut g
unfolding word_at
word_not_cut field.HeadSize s k w g h = wanted_err (eqb w 48) _ faults.Head g refl h
word_not_cut field.HeadType s k w g h = wanted_err (eqb w 0x96824d9c7b129ff9) _ faults.Head g refl h
word_not_cut field.Flags s k w g h = absurd (cc)
word_not_cut field.Min s k w g h = absurd (cc)
word_not_cut field.Avg s k w g h = absurd (cc)
word_not_cut field.Max s k w g h = guard_err (nat_lt 67108864 w) (faults.MaxSize w) g _ refl (λ ok. absurd (cc)) h
word_not_cut field.TableSize s k w g h = wanted_err (eqb w 0xffffffffffffffff) _ faults.Table g refl h
word_not_cut field.TableType s k w g h = wanted_err (eqb w 0xe75b9e112f17417d) _ faults.Table g refl h
word_not_cut field.End s k w g h = end_not_cut s k w g h
word_not_cut field.Zero s k w g h = wanted_err (eqb w 0) _ faults.Tail g refl h
word_not_cut field.Offset s k w g h = absurd (cc)
word_not_cut field.Size s k w g h = absurd (cc)
word_not_cut field.Marker s k w g h = wanted_err (eqb w 0x4b4f050e5549ecd1) _ faults.Tail g refl h
word_not_cut field.Id s k w g h = same_err {A = Fields} faults.Trailing g h refl
word_not_cut field.Nothing s k w g h = same_err {A = Fields} faults.Trailing g h refl

bind_err : (r : Result Fields IndexFault) (f : Fields → Read) (g : IndexFault) → (r >>= λ s. Ok (f s)) ≡ Err g → r ≡ Err g
bind_err (Ok x) f g h = absurd (cc)
bind_err (Err e) f g h = let same : e ≡ g = cc in ap (λ x. Err x) same

judge_not_cut : (f : Field) (r : Read) (b : List ℕ) (g : IndexFault) → judge_at f r b ≡ Err g → NotCut g
unfolding judge_at
judge_not_cut field.Id r b g h = absurd (cc)
judge_not_cut field.Nothing r b g h = same_err {A = Read} faults.Trailing g h refl
judge_not_cut f r b g h = word_not_cut f r.fields (length r.entries) _ g (bind_err _ _ g h)

push_not_cut : (r : Read) (x : ℕ) (g : IndexFault) → push_to_index r x ≡ Err g → NotCut g
unfolding push_to_index
push_not_cut r x g h = pass_err (nat_lt (length r.part + 1) (need r.fields.next)) _ g _ (judge_not_cut r.fields.next r (r.part ++ x ∷ []) g) h

first_or_later : (p : Result Read IndexFault) (f : Read → Result Read IndexFault) (g : IndexFault) → (p ≡ Err g → NotCut g) → ((s : Read) → f s ≡ Err g → NotCut g) → (p >>= f) ≡ Err g → NotCut g
first_or_later (Ok s) f g first later h = later s h
first_or_later (Err e) f g first later h = first h

reads_not_cut : (r : Read) (xs : List ℕ) (g : IndexFault) → reads_index r xs ≡ Err g → NotCut g
reads_not_cut r [] g h = let no : Ok r ≡ Err g = sym (reads_none r) ∙ h in absurd (cc)
reads_not_cut r (x ∷ xs) g h =
    first_or_later (push_to_index r x) (λ s. reads_index s xs) g (push_not_cut r x g) (λ s. reads_not_cut s xs g) (sym (reads_one r x xs) ∙ h)

fault_not_cut : (b : List ℕ) (g : IndexFault) → first_fault b ≡ Some g → NotCut g
unfolding first_fault
fault_not_cut b g h = reads_not_cut index_start b g (shown (reads_index index_start b) g h)

-- a reader that is fed answers so
pub fed_not_cut : {A : Type 0} (b : List ℕ) (answer : Result A ReadFault) → Judges b answer → (n : ℕ) → answer ≡ Err (errors.Bad (faults.Truncated n)) → ⊥
fed_not_cut b (Ok x) h n is = absurd (cc)
fed_not_cut b (Err (errors.Bad f)) h n is =
    let same : f ≡ faults.Truncated n = cc in
    let not : true ≡ false = subst NotCut same (fault_not_cut b f h) in
    absurd (cc)
fed_not_cut b (Err errors.Memory) h n is = absurd (cc)
fed_not_cut b (Err errors.Over) h n is = absurd h
