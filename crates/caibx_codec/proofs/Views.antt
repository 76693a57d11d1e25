-- Reading the bytes of a view front by front.
use Rattle.std.proofs.Common.{◌≡◌, ℕ, ◌+◌, ◌-◌, ◌≤◌, List, ◌++◌, length, take, drop, slice_range, Option, Some, None, Result, Ok, Err, sym, ap, subst, ◌∙◌, arith}
use Rattle.std.specs.Prelude.{IfSome, min}
use Rattle.std.specs.Option.{option_map}
use Rattle.std.proofs.lemmas.List.{take-append-drop, length-take}
use Rattle.std.proofs.Math.Seq.{take-length, take-add}
use Rattle.caibx_fields.specs.declared.fault.IndexFault.{IndexFault}
use Rattle.caibx_codec.specs.declared.reading.ViewFault.{ViewFault}
use Rattle.caibx_codec.specs.declared.reading.ViewFault.TheVariants as viewed
use Rattle.caibx_codec.specs.Answers.{ShowsBy, StopsBy, ReadsIndex}
use Rattle.caibx_codec.specs.Reading.{Read, reads_index, index_start, first_fault, fault_in_read, index_in, ◌>>=◌}
use Rattle.caibx_codec.proofs.Again.{file_read}
use Rattle.caibx_codec.proofs.Pieces.{reads-append}

regroup : (t : List ℕ) (at n : ℕ) → take at t ++ slice_range t at (at + n) ≡ take (at + n) t
regroup t at n = let same : at + n - at ≡ n = omega arith in ap (λ k. take at t ++ take k (drop at t)) same ∙ sym (take-add at n t)

-- a piece more was fed, which the code cut off as m bytes
pub fed_more : (told here old new : Option (List ℕ)) (at n m : ℕ) → here ≡ told → m ≡ n → IfSome told (λ t. old ≡ Some (take at t)) → IfSome here (λ t. new ≡ option_map (λ b. b ++ slice_range t at (at + m)) old) → IfSome told (λ t. new ≡ Some (take (at + n) t))
fed_more None here old new at n m kept len h more = tt
fed_more (Some t) here old new at n m kept len h more =
    let here_too : new ≡ option_map (λ b. b ++ slice_range t at (at + m)) old = subst (λ o. IfSome o (λ t. new ≡ option_map (λ b. b ++ slice_range t at (at + m)) old)) kept more in
    here_too ∙ ap (option_map (λ b. b ++ slice_range t at (at + m))) h ∙ ap (λ b. Some b) (regroup t at m ∙ ap (λ k. take (at + k) t) len)

-- the first fault of a front is that of the whole
pub shown : (x : Result Read IndexFault) (f : IndexFault) → fault_in_read x ≡ Some f → x ≡ Err f
shown (Ok r) f h = absurd (cc)
shown (Err g) f h = cc

pub at_end : {A B : Type 0} (r : Result A IndexFault) (f : A → Result B IndexFault) (e : IndexFault) → r ≡ Err e → (r >>= f) ≡ Err e
at_end (Ok x) f e h = absurd (cc)
at_end (Err g) f e h = let same : g ≡ e = cc in ap (λ x. Err x) same

pub faulty_front : (t : List ℕ) (n : ℕ) (f : IndexFault) → first_fault (take n t) ≡ Some f → index_in t ≡ Err f
unfolding first_fault index_in
faulty_front t n f h =
    let front : reads_index index_start (take n t) ≡ Err f = shown (reads_index index_start (take n t)) f h in
    let whole : reads_index index_start t ≡ Err f = ap (reads_index index_start) (sym (take-append-drop n t)) ∙ reads-append index_start (take n t) (drop n t) ∙ ap (λ a. a >>= λ s. reads_index s (drop n t)) front in
    at_end (reads_index index_start t) _ f whole

stopped : (t b : List ℕ) (n : ℕ) (e : ViewFault) → b ≡ take n t → ShowsBy b e → StopsBy t e
stopped t b n (viewed.Bad f) is h = faulty_front t n f (subst (λ x. first_fault x ≡ Some f) is h)
stopped t b n viewed.Memory is h = tt
stopped t b n viewed.Failed is h = tt

pub stops_in : (told here reader : Option (List ℕ)) (at m : ℕ) (e : ViewFault) → here ≡ told → IfSome told (λ t. reader ≡ Some (take at t)) → IfSome here (λ t. IfSome reader (λ b. ShowsBy (b ++ slice_range t at (at + m)) e)) → IfSome told (λ t. StopsBy t e)
stops_in None here reader at m e kept h shows = tt
stops_in (Some t) here reader at m e kept h shows =
    let here_too : IfSome reader (λ b. ShowsBy (b ++ slice_range t at (at + m)) e) = subst (λ o. IfSome o (λ t. IfSome reader (λ b. ShowsBy (b ++ slice_range t at (at + m)) e))) kept shows in
    stopped t _ (at + m) e (regroup t at m) (subst (λ o. IfSome o (λ b. ShowsBy (b ++ slice_range t at (at + m)) e)) h here_too)

-- ---- the front is all, or too long for an index file

whole_front : (t : List ℕ) (end : ℕ) → min (length t) 167772265 ≡ end → length (take end t) ≤ 167772264 → take end t ≡ t
whole_front t end is short =
    let all : end ≡ length t = omega (arith, length-take end t) in
    ap (λ k. take k t) all ∙ take-length t

pub read_whole : (told reader : Option (List ℕ)) (size end : ℕ) (P : List ℕ → Type 0) → IfSome told (λ t. length t ≡ size) → end ≡ min size 167772265 → IfSome told (λ t. reader ≡ Some (take end t)) → IfSome reader (λ b. length b ≤ 167772264) → IfSome reader P → IfSome told P
read_whole None reader size end P sized is fed short h = tt
read_whole (Some t) reader size end P sized is fed short h =
    let small : length (take end t) ≤ 167772264 = subst (λ o. IfSome o (λ b. length b ≤ 167772264)) fed short in
    let same : take end t ≡ t = whole_front t end (ap (λ k. min k 167772265) sized ∙ sym is) small in
    subst P same (subst (λ o. IfSome o P) fed h)

-- a fault keeps bytes from being an index file
no_file : (t : List ℕ) (e : ViewFault) → StopsBy t e → ReadsIndex t (Err e)
no_file t (viewed.Bad f) h = λ l file. let both : Ok l ≡ Err f = sym (file_read t l file) ∙ h in absurd (cc)
no_file t viewed.Memory h = tt
no_file t viewed.Failed h = tt

pub no_files : (told : Option (List ℕ)) (e : ViewFault) → IfSome told (λ t. StopsBy t e) → IfSome told (λ t. ReadsIndex t (Err e))
no_files None e h = tt
no_files (Some t) e h = no_file t e h
