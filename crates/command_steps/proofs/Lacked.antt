-- What stores that were given back have said of a chunk that they refused.
use Rattle.std.proofs.Common.{◌≡◌, ◌∙◌, ℕ, List, length, map, All, Bool, ap, sym, inl, inr}
use Rattle.std.proofs.lemmas.List.{length-map}
use Rattle.chunk_store.specs.Said.{KeepsOf, Said}
use Rattle.chunk_store.specs.declared.shows.Shows.{Shows}
use Rattle.chunk_store.specs.declared.shows.Shows.TheVariants as shows
use Rattle.command_words.specs.declared.command.Location.{Location}
use Rattle.command_steps.proofs.Given.{Stands, each_as, fails_first, first_as}
use Rattle.command_steps.specs.Sources.{Storage, said_at}
use Rattle.command_steps.specs.Sources.{HaveLacked}
use Rattle.store_chain.specs.Refusals.{HasShown, HasShownBy, Lacks, Refuses}
use Rattle.store_chain.specs.declared.refused.Refused.{Refused}
use Rattle.store_chain.specs.declared.refused.Refused.TheVariants as refused
use Rattle.store_chain.specs.declared.query.Query.{Query}

-- what was said is said still
shown_still : (c : Query) (x : Shows) (a b : Said) → KeepsOf a b c.id.0 → HasShown c x a → HasShown c x b
shown_still c shows.Longer a b keeps h = keeps.longer c.lent h
shown_still c (shows.Digest x) a b keeps h = (h.0, keeps.shown h.0 h.1, h.2)
shown_still c (shows.Length n) a b keeps h = (h.0, keeps.shown h.0 h.1, h.2)

pub lacks_still : (c : Query) (a b : Said) → KeepsOf a b c.id.0 → Lacks c a → Lacks c b
lacks_still c a b keeps (inl none) = inl (keeps.denied none)
lacks_still c a b keeps (inr (x, h)) = inr (x, shown_still c x a b keeps h)

pub same_length : {S X : Type 0} (f : S → X) (a b : List S) → map f a ≡ map f b → length a ≡ length b
same_length f a b same = sym (length-map a f) ∙ ap length same ∙ length-map b f

module _ {S : Type 0} (location : S → Location) (said : S → Said) (counted : S → ℕ) (lacks_memory : Bool) (w v : Storage) (stores : List Location) where
  pub have_lacked : (c : Query) (r : Refused) (before after : List S) → length before ≡ length after → map location after ≡ stores → All (Stands location said counted w v) after → Refuses said counted lacks_memory c before after r → HaveLacked c w v stores r
  have_lacked c refused.Missing before after many at all h = each_as location said counted w v (λ q. (said q.1).denied c.id.0) (λ s. (said_at w v s).denied c.id.0) (λ q s y. (s.says c.id.0).denied y) before after stores many at all h
  have_lacked c (refused.Damaged s x) before after many at all h = first_as location said counted w v (λ q. (said q.1).denied c.id.0) (λ q. HasShown c x (said q.1) × HasShownBy s.member c x (said q.1)) (λ q. Lacks c (said q.1))
      (λ s. (said_at w v s).denied c.id.0) (λ s. HasShown c x (said_at w v s)) (λ s. Lacks c (said_at w v s))
      (λ q s y. (s.says c.id.0).denied y) (λ q s y. shown_still c x (said q.1) (said_at w v (location q.1)) (s.says c.id.0) y.0) (λ q s y. lacks_still c (said q.1) (said_at w v (location q.1)) (s.says c.id.0) y) s.number before after stores many at all h
  have_lacked c (refused.StoreFault s) before after many at all h = fails_first location said counted w v (Lacks c) c.id.0 (λ a b keeps y. lacks_still c a b keeps y) s before after stores many at all h
  have_lacked c refused.Memory before after many at all h = tt
