-- The calls on a shard as events of the core machine.
use Rattle.std.proofs.Common.{◌≡◌, ℕ, ◌+◌, ◌-◌, true, false, List, [], ◌∷◌, length, slice_range, Option, Some, None, IfSome, IsTrue, Result, Ok, Err, refl, sym, ap, subst, ◌∙◌, inl, inr, arith}
use Rattle.std.proofs.lemmas.Bool.{cases_eq}
use Rattle.std.specs.Option.{option_map}
use Rattle.std.specs.Prelude.{OnOk}
use Rattle.caibx_codec.specs.Listing.{id_of, kind_of, size_of}
use Rattle.chunk_store.specs.Digests.{digest_of}
use Rattle.dsy_base.specs.Bytes.{Held, held_written}
use Rattle.range_survey.specs.Fates.{is_settled, settled}
use Rattle.range_survey.specs.declared.fate.Fate.{Fate}
use Rattle.range_ledger.proofs.Keeps.{settling, set_here, set_other}
use Rattle.range_ledger.proofs.Laid.{sized}
use Rattle.range_ledger.proofs.Runs.{with_here, with_other}
use Rattle.range_ledger.specs.Extents.{begin_in, end_in, put_in_extent}
use Rattle.range_ledger.specs.Machine.{Put, Read, Skip, Torn, with_entry}
use Rattle.range_ledger.specs.Runs.{Run, Seen, Has, IsShard, MayFill, WhereTells, extent_of, first_in, has_settled, slice_at}
use Rattle.range_ledger.specs.Steps.{Leads}

pub on_ok : {A E : Type 0} (r : Result A E) (P Q : Type 0) → OnOk r P → (P → Q) → OnOk r Q
on_ok (Ok a) P Q h f = f h
on_ok (Err e) P Q h f = tt

-- of a part that isn't written
pub unwritten : (r : Run) (old new : Seen) (P : List ℕ → List ℕ → Type 0) → new.held ≡ old.held
    → (IsTrue r.tells → IfSome old.held.bytes (λ t. P t t)) → WhereTells r old new P
unwritten r old new P same h tells = subst (λ (k : Held). IfSome old.held.bytes (λ t. IfSome k.bytes (P t))) (sym same) (twice old.held.bytes (h tells)) where
  twice : (o : Option (List ℕ)) → IfSome o (λ t. P t t) → IfSome o (λ t. IfSome o (P t))
  twice None k = tt
  twice (Some t) k = k

pub within : {P Q R : List ℕ → Type 0} (o : Option (List ℕ)) → IfSome o P → IfSome o Q → ((t : List ℕ) → P t → Q t → R t) → IfSome o R
within None p q f = tt
within (Some t) p q f = f t p q

pub same_settled : (r : Run) (old new : Seen) → new.number ≡ old.number → new.fates ≡ old.fates → (i : ℕ) → has_settled r new i ≡ has_settled r old i
same_settled r old new number same i =
    ap (λ n. settled new.fates (i - first_in r n)) number ∙ ap (λ xs. settled xs (i - first_in r old.number)) same

module _ (r : Run) (old : Seen) (is : IsShard r old) (e : ℕ) (has : Has r old e) where
  whole_slice : (t out : List ℕ) (at : ℕ) → at ≡ begin_in (extent_of r old.number) e → length out ≡ size_of r.listing e
      → slice_range t at (at + length out) ≡ slice_at r old t e
  whole_slice t out at there size =
      let last : at + length out ≡ end_in (extent_of r old.number) e = omega (arith, there, size, sized (extent_of r old.number) is.dealt.valid e has) in
      ap (λ z. slice_range t at z) last ∙ ap (λ a. slice_range t a (end_in (extent_of r old.number) e)) there

  module _ (set : has_settled r old e ≡ true) (new : Seen) (number : new.number ≡ old.number) (same : new.fates ≡ old.fates) (held : new.held ≡ old.held) where
    read_event : (t out : List ℕ) → out ≡ slice_at r old t e → Leads r (Read e out ∷ []) old new t t
    read_event t out read = record {
      allowed = λ torn. ((has, set, read), tt);
      bytes = λ torn. refl;
      settled = λ torn i at. sym (same_settled r old new number same i);
    }

    pub read_leads : (from out : List ℕ) (at : ℕ) → at ≡ begin_in (extent_of r old.number) e → length from ≡ size_of r.listing e
        → IfSome old.held.bytes (λ t. out ≡ slice_range t at (at + length from)) → WhereTells r old new (Leads r (Read e out ∷ []) old new)
    read_leads from out at there size read = unwritten r old new _ held
        (λ tells. within old.held.bytes read (is.kept tells) (λ t b k. read_event t out (b ∙ whole_slice t from at there size)))

    pub read_right : (from out : List ℕ) (at : ℕ) → at ≡ begin_in (extent_of r old.number) e → length from ≡ size_of r.listing e
        → IfSome old.held.bytes (λ t. out ≡ slice_range t at (at + length from))
        → WhereTells r old new (λ _ _. digest_of (kind_of r.listing) out ≡ id_of r.listing e)
    read_right from out at there size read = unwritten r old new _ held
        (λ tells. within old.held.bytes read (is.kept tells)
        (λ t b k. ap (digest_of (kind_of r.listing)) (b ∙ whole_slice t from at there size) ∙ k.right e has set))

    pub skip_leads : WhereTells r old new (Leads r (Skip e ∷ []) old new)
    skip_leads = unwritten r old new _ held (λ tells. within old.held.bytes (is.kept tells) (is.kept tells) (λ t k _. record {
      allowed = λ torn. ((has, set), tt);
      bytes = λ torn. refl;
      settled = λ torn i at. sym (same_settled r old new number same i);
    }))

  written_told : (f : List ℕ → List ℕ) (o : Option (List ℕ)) (P : List ℕ → List ℕ → Type 0) → ((t : List ℕ) → P t (f t)) → IfSome o (λ t. IfSome (option_map f o) (P t))
  written_told f None P h = tt
  written_told f (Some t) P h = h t

  module _ (unset : has_settled r old e ≡ false) where
    pub put_leads : (f : Fate) → is_settled f ≡ true → (b : List ℕ) → MayFill r e b → (faults : ℕ) (held : Held) → IfSome old.held.bytes (λ t. length t ≡ old.held.size)
        → held ≡ held_written old.held (begin_in (extent_of r old.number) e) b
        → WhereTells r old (settling r old e f faults held) (Leads r (Put e b ∷ []) old (settling r old e f faults held))
    put_leads f is_set b may faults held long written tells =
        subst (λ (h : Held). IfSome old.held.bytes (λ t. IfSome h.bytes (Leads r (Put e b ∷ []) old (settling r old e f faults h) t))) (sym written)
        (written_told (put_in_extent (extent_of r old.number) e b) old.held.bytes _ (λ t. record {
          allowed = λ torn. ((has, unset, record { size = may.size; named = may.named tells }), tt);
          bytes = λ torn. refl;
          settled = λ torn i at. elim (cases_eq i e) [
            | inl same ↦ subst (λ j. with_entry (has_settled r old) e j ≡ has_settled r (settling r old e f faults (held_written old.held (begin_in (extent_of r old.number) e) b)) j) (sym same)
                (with_here (has_settled r old) e ∙ sym (set_here r old is long e has f is_set faults (held_written old.held (begin_in (extent_of r old.number) e) b)))
            | inr differ ↦ with_other (has_settled r old) e i differ ∙ sym (set_other r old is long e has f faults (held_written old.held (begin_in (extent_of r old.number) e) b) i at differ)
          ];
        }))

    pub torn_leads : (y : List ℕ) → length y ≡ size_of r.listing e → (new : Seen) → new.number ≡ old.number → new.fates ≡ old.fates
        → new.held ≡ held_written old.held (begin_in (extent_of r old.number) e) y
        → WhereTells r old new (λ t u. (x : List ℕ) × Leads r (Torn e x ∷ []) old new t u)
    torn_leads y size new number same written tells =
        subst (λ (h : Held). IfSome old.held.bytes (λ t. IfSome h.bytes (λ u. (x : List ℕ) × Leads r (Torn e x ∷ []) old new t u))) (sym written)
        (written_told (put_in_extent (extent_of r old.number) e y) old.held.bytes _ (λ t. (
          y,
          record {
            allowed = λ torn. ((has, unset, size), tt);
            bytes = λ torn. refl;
            settled = λ torn i at. sym (same_settled r old new number same i);
          },
        )))
