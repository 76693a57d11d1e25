use Rattle.std.proofs.Common.{◌≡◌, ◌+◌, ℕ, List, slice_range, Option, IfSome, sym, subst, ap, ◌∙◌, arith}
use Rattle.std.specs.Option.{option_map}
use Rattle.caibx_codec.specs.Listing.{start_of}
use Rattle.dsy_base.specs.Bytes.{Held}
use Rattle.owned_shards.proofs.Begun.{based, zeros_of}
use Rattle.range_ledger.specs.Runs.{Seen, first_in, base_in}
use Rattle.owned_shards.specs.Wholes.{base_told}
use Rattle.range_survey.specs.Fates.{FirstFates}
use Rattle.owned_shards.proofs.share.surveyed.Goals as goal

pub survey-requires-clause-room : goal.survey-requires-clause-room
survey-requires-clause-room g c = λ e has. c.requires.room e (omega (arith, has.to, c.requires.unread.dealt.valid.within))

pub survey-requires-clause-zeros : goal.survey-requires-clause-zeros
survey-requires-clause-zeros g c =
    let u = c.requires.unread in
    zeros_of g.R.RunName.run c.args.unread c.args.zeros.now.1 u.dealt (ap (λ x. x.0) u.part) c.requires.zeros c.requires.size

pub returns-clause-begun : goal.returns-clause-begun
returns-clause-begun g c =
    let r = g.R.RunName.run in
    let s : Seen = c.args.unread in
    let cut : ℕ → Option (List ℕ) = λ k. option_map (λ b. slice_range b (start_of r.listing (first_in r k)) (start_of r.listing (first_in r (k + 1)))) (base_told r) in
    let new : Seen = c.survey.new.self in
    let v = c.survey.ensures in
    let bytes_now : new.held.bytes ≡ cut new.number = ap (λ (h : Held). h.bytes) v.held ∙ (ap (λ x. x.0) c.requires.unread.part ∙ ap cut (sym v.number)) in
    record {
      told = record { kept = c.rules.ensures.kept; tells = c.rules.ensures.tells ∙ c.requires.tells; sized = c.rules.ensures.sized };
      first = subst (λ (w : Seen). (k : ℕ) → FirstFates w.fates k) (sym c.begin-shard.ensures) v.first;
      base = λ tells. subst (λ (w : Seen). IfSome w.held.bytes (λ t. t ≡ base_in r w.number)) (sym c.begin-shard.ensures) (based r new bytes_now tells);
    }
