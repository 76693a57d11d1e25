-- What the bytes of a file are read as.
use Rattle.std.proofs.Common.{◌≡◌, ℕ, ◌++◌, List, [], length, cond, Option, Result, Ok, Err, Some, sym, subst}
use Rattle.std.proofs.lemmas.List.{append-nil}
use Rattle.caibx_codec.specs.Answers.{FindsIndex, Judges}
use Rattle.caibx_codec.specs.Listing.{Listing}
use Rattle.caibx_codec.specs.Reading.{Read, fault_in_read, first_fault, index_in, index_start, is_read_whole, listing_read, reads_index, ◌>>=◌}
use Rattle.caibx_codec.specs.Spelling.{IsIndexFile}
use Rattle.caibx_codec.specs.declared.reading.ReadFault.{ReadFault}
use Rattle.caibx_codec.specs.declared.reading.ReadFault.TheVariants as errors
use Rattle.caibx_fields.specs.declared.fault.IndexFault.{IndexFault}
use Rattle.caibx_fields.specs.declared.fault.IndexFault.TheVariants as faults
use Rattle.index_server.specs.Finding.{HasReadIndex, ReadsAsIndex}

-- the first fault is that of all bytes
fault_in : (b : List ℕ) (f : IndexFault) → first_fault b ≡ Some f → index_in b ≡ Err f
unfolding first_fault index_in
fault_in b f h = go (reads_index index_start b) h where
  rest : Read → Result Listing IndexFault
  rest r = cond (is_read_whole r.fields.next) (Ok (listing_read r)) (Err (faults.Truncated (length b)))

  go : (r : Result Read IndexFault) → fault_in_read r ≡ Some f → (r >>= rest) ≡ Err f
  go (Ok x) h = absurd (cc (h))
  go (Err e) h = cc (h)

pub fed_first : (b : List ℕ) (e : ReadFault) → Judges {A = Unit {0}} b (Err e) → ReadsAsIndex b (Err e)
fed_first b (errors.Bad f) first = fault_in b f first
fed_first b errors.Memory first = tt
fed_first b errors.Over first = absurd first

-- and no index file begins with such bytes
pub fed_badly : ((b c : List ℕ) (f : IndexFault) (l : Listing) → first_fault b ≡ Some f → IsIndexFile (b ++ c) l → ⊥)
    → (b : List ℕ) (e : ReadFault) → Judges {A = Unit {0}} b (Err e) → FindsIndex b (Err e)
fed_badly only b (errors.Bad f) first = λ l is.
    only b [] f l first (subst (λ (a : List ℕ). IsIndexFile a l) (sym (append-nil b)) is)
fed_badly only b errors.Memory first = tt
fed_badly only b errors.Over first = tt

-- a reader that has met a fault
pub fault_read : (P : Type 0) (o : Option ReadFault) (reader : Option (List ℕ)) (b : List ℕ) (e : ReadFault) → o ≡ Some e → (Judges {A = Unit {0}} b (Err e) → P) → HasReadIndex o reader b → P
fault_read P o reader b e met more read = more (subst (λ x. HasReadIndex x reader b) met read)
