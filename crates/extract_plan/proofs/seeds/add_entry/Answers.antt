use Rattle.std.proofs.Common.{◌≡◌, ◌<◌, ◌+◌, ◌++◌, ◌∷◌, [], ℕ, List, Some, None, length, arith, rules, refl, ap, sym, ◌∙◌, subst}
use Rattle.std.specs.List.{slice_get}
use Rattle.std.proofs.lemmas.Grind.{common_steps}
use Rattle.std.proofs.lemmas.Option.{slice_get_read}
use Rattle.caibx_codec.specs.Listing.{count_of, id_of, size_of, start_of}
use Rattle.extract_plan.specs.Found.{AreFound}
use Rattle.extract_plan.specs.Places.{place}
use Rattle.extract_plan.specs.Keys.{number_of}
use Rattle.extract_plan.specs.declared.seed.SeedPlace.{SeedPlace}
use Rattle.extract_plan.proofs.Finding.{found_more, found_skipped}
use Rattle.extract_plan.proofs.seeds.add_entry.Goals as goal

pub returns-in_ok-push-2 : goal.returns-in_ok-push-2
returns-in_ok-push-2 c =
    let m = c.index-seeds-s.result in
    let kind = c.args.kind in
    let number = number_of c.args.numbers.now in
    let seeds = c.args.seeds.now in
    let s = c.args.s in
    let i = c.args.i in
    let w = c.in-Some.want in
    let wants = c.args.found.now.wants.items in
    let places = c.args.found.now.places.items in
    let listed = c.entry-listed.result in
    let is : slice_get seeds s ≡ Some m = slice_get_read seeds (length seeds) s m refl c.requires.seed c.index-seeds-s.is in
    let inside : i < count_of m = c.requires.entry m is in
    let some : number listed.id.0 listed.size ≡ Some w = first_of (search rules, grind (arith, common_steps)) in
    let named : number (id_of m i) (size_of m i) ≡ Some w =
    ap (λ x. number x (size_of m i)) (sym c.entry-listed.ensures.id) ∙ ap (number listed.id.0) (sym c.entry-listed.ensures.size) ∙ some in
    let rises : (j : ℕ) → j < i → start_of m j < start_of m i = λ j a. omega (arith, c.rules.ensures.rises j (omega arith), c.rules.ensures.ordered j i a inside) in
    let new : place kind s listed.start listed.size ≡ place kind s (start_of m i) (size_of m i) =
    ap (λ x. place kind s x listed.size) c.entry-listed.ensures.start ∙ ap (λ x. place kind s (start_of m i) x) c.entry-listed.ensures.size in
    let items : c.push-in-Some.new.self.items ≡ places ++ place kind s listed.start listed.size ∷ [] = c.in_ok-push-2.ensures.items in
    let all : c.push-in-Some.new.self.items ≡ places ++ place kind s (start_of m i) (size_of m i) ∷ [] = items ∙ ap (λ p. places ++ p ∷ []) new in
    let more = found_more kind number seeds s i w m wants places is inside named rises c.requires.before in
    subst (λ (x : List ℕ). AreFound kind number seeds s (i + 1) x c.push-in-Some.new.self.items) (sym c.in_ok-push.ensures.items)
    (subst (λ (x : List SeedPlace). AreFound kind number seeds s (i + 1) (wants ++ w ∷ []) x) (sym all) more)

pub returns-in_default : goal.returns-in_default
returns-in_default c =
    let m = c.index-seeds-s.result in
    let kind = c.args.kind in
    let number = number_of c.args.numbers.now in
    let seeds = c.args.seeds.now in
    let s = c.args.s in
    let i = c.args.i in
    let listed = c.entry-listed.result in
    let is : slice_get seeds s ≡ Some m = slice_get_read seeds (length seeds) s m refl c.requires.seed c.index-seeds-s.is in
    let none : number listed.id.0 listed.size ≡ None = first_of (search rules, grind (arith, common_steps)) in
    let named : number (id_of m i) (size_of m i) ≡ None =
    ap (λ x. number x (size_of m i)) (sym c.entry-listed.ensures.id) ∙ ap (number listed.id.0) (sym c.entry-listed.ensures.size) ∙ none in
    found_skipped kind number seeds s i m c.args.found.now.wants.items c.args.found.now.places.items is c.requires.before named
