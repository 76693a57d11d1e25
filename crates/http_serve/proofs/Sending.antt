-- A reply that is sent in two parts.
use Rattle.std.proofs.Common.{◌≡◌, ℕ, ◌+◌, ◌≤◌, List, ◌++◌, length, take, Option, Some, None, Result, Ok, Err, refl, sym, ap, ◌∙◌, append_assoc}
use Rattle.std.specs.Prelude.{OnErr}
use Rattle.std.specs.Option.{option_map}
use Rattle.std.proofs.Math.Seq.{take-add, take-append_seam, drop-append_seam}
use Rattle.dsy_base.specs.Links.{Traffic, sends}
use Rattle.dsy_base.specs.declared.fault.IoFault.{IoFault}
use Rattle.dsy_base.specs.declared.fault.IoFault.TheVariants as io
use Rattle.http_serve.specs.Streams.{SendsSomeFront}

abbrev with_sent : Traffic → List ℕ → Option Traffic
with_sent t x = Some (record { received = t.received; coming = t.coming; sent = x })

sends_both : (a b : List ℕ) (old : Option Traffic) → option_map (sends b) (option_map (sends a) old) ≡ option_map (sends (a ++ b)) old
sends_both a b None = refl
sends_both a b (Some t) = ap (with_sent t) (append_assoc t.sent a b)

-- what a write that was refused has sent
abbrev Wrote : {A : Type 0} → Result A IoFault → List ℕ → Option Traffic → Option Traffic → Type 0
Wrote r b old new = r ≡ Err io.Failed → (n : ℕ) × (n ≤ length b) × (new ≡ option_map (sends (take n b)) old)

pub second_part : {A : Type 0} (r : Result A IoFault) (h b : List ℕ) (old mid new : Option Traffic) → mid ≡ option_map (sends h) old → Wrote r b mid new → (r ≡ Err io.Memory → new ≡ mid) → OnErr r (SendsSomeFront (h ++ b) old new)
second_part (Ok x) h b old mid new is failed none = tt
second_part (Err io.Failed) h b old mid new is failed none =
    let f = failed refl in
    let front : h ++ take f.0 b ≡ take (length h + f.0) (h ++ b) = sym (take-add (length h) f.0 (h ++ b) ∙ (λ i. take-append_seam h b i ++ take f.0 (drop-append_seam h b i))) in
    (length h + f.0, f.2 ∙ ap (option_map (sends (take f.0 b))) is ∙ sends_both h (take f.0 b) old ∙ ap (λ x. option_map (sends x) old) front)
second_part (Err io.Memory) h b old mid new is failed none =
    let front : h ≡ take (length h) (h ++ b) = sym (take-append_seam h b) in
    (length h, none refl ∙ is ∙ ap (λ x. option_map (sends x) old) front)
