use Rattle.std.proofs.Common.{◌≡◌, ℕ, List, Option, Some, None, IfSome, true, is_some, sym, subst, ◌∙◌}
use Rattle.std.proofs.lemmas.Bool.{true≢false}
use Rattle.std.specs.Option.{option_map}
use Rattle.caibx_codec.specs.Listing.{Listing, count_of, image_length}
use Rattle.dsy_base.specs.Bytes.{Held, resized}
use Rattle.range_survey.specs.Fates.{FirstFates, SettledRight}
use Rattle.range_survey.specs.declared.fate.Fate.{Fate}
use Rattle.worker_cases.proofs.filling.filled.Goals as goal

pub fill_halves-done-requires-clause-first : goal.fill_halves-done-requires-clause-first
fill_halves-done-requires-clause-first g c = λ lifetimes within.
    let r = g.R.RunName.run in
    subst (λ m. FirstFates m (count_of r.listing)) (sym c.fates_of-first.ensures.fates)
    (subst (λ (l : Listing). FirstFates c.in-Ok.shards.fates (count_of l)) c.requires.over.dealt.listing c.in-Ok.ensures.first)

-- what is settled is right in the base
in_base : (l : Listing) (base : List ℕ) (m : List Fate) (n : ℕ) (o : Option (List ℕ)) → is_some o ≡ true → IfSome o (λ b. base ≡ resized b n)
    → IfSome (option_map (λ b. resized b n) o) (λ t. SettledRight l t m (count_of l)) → SettledRight l base m (count_of l)
in_base l base m n None told same right = absurd (true≢false (sym told))
in_base l base m n (Some b) told same right = subst (λ t. SettledRight l t m (count_of l)) (sym same) right

pub fill_halves-done-requires-clause-right : goal.fill_halves-done-requires-clause-right
fill_halves-done-requires-clause-right g c = λ lifetimes within told.
    let r = g.R.RunName.run in
    let l = c.args.index.now in
    let old : Held = g.T.View.held c.args.target in
    let m = c.in-Ok.shards.fates in
    let right = subst (λ (h : Held). IfSome h.bytes (λ t. SettledRight l t m (count_of l))) c.in-Ok.ensures.ok c.in-Ok.ensures.yes in
    let based = in_base l r.base m (image_length l) old.bytes (g.met.T.View.told c.args.target ∙ (sym c.requires.over.tells ∙ told)) c.requires.over.base right in
    subst (λ xs. SettledRight r.listing r.base xs (count_of r.listing)) (sym c.fates_of-first.ensures.fates)
    (subst (λ (x : Listing). SettledRight x r.base m (count_of x)) c.requires.over.dealt.listing based)
