-- Reading in pieces.
use Rattle.std.proofs.Common.{◌≡◌, ℕ, suc, ◌+◌, ◌<◌, ◌≤◌, List, [], ◌∷◌, ◌++◌, length, get_or, drop, Result, Ok, Err, refl, sym, ap, ◌∙◌, add-one}
use Rattle.std.proofs.Math.Seq.{drop-cons}
use Rattle.std.proofs.lemmas.List.{drop_all}
use Rattle.caibx_fields.specs.declared.fault.IndexFault.{IndexFault}
use Rattle.caibx_codec.specs.declared.reading.ReadFault.{ReadFault}
use Rattle.caibx_codec.specs.declared.reading.ReadFault.TheVariants as errors
use Rattle.caibx_codec.specs.Answers.{ReadStops}
use Rattle.caibx_codec.specs.Reading.{Read, push_to_index, reads_index, ◌>>=◌}

bind_assoc : (x : Result Read IndexFault) (f g : Read → Result Read IndexFault) → ((x >>= f) >>= g) ≡ (x >>= λ s. f s >>= g)
bind_assoc (Ok s) f g = refl
bind_assoc (Err e) f g = refl

bind_same : (x : Result Read IndexFault) (f g : Read → Result Read IndexFault) → ((s : Read) → f s ≡ g s) → (x >>= f) ≡ (x >>= g)
bind_same (Ok s) f g h = h s
bind_same (Err e) f g h = refl

-- a piece, and then another
pub reads-append : (r : Read) (xs ys : List ℕ) → reads_index r (xs ++ ys) ≡ (reads_index r xs >>= λ s. reads_index s ys)
unfolding reads_index
reads-append r [] ys = refl
reads-append r (x ∷ xs) ys =
    bind_same (push_to_index r x) (λ s. reads_index s (xs ++ ys)) (λ s. reads_index s xs >>= λ t. reads_index t ys) (λ s. reads-append s xs ys) ∙ sym (bind_assoc (push_to_index r x) (λ s. reads_index s xs) (λ s. reads_index s ys))

pub reads_one : (r : Read) (x : ℕ) (xs : List ℕ) → reads_index r (x ∷ xs) ≡ (push_to_index r x >>= λ s. reads_index s xs)
unfolding reads_index
reads_one r x xs = refl

pub reads_none : (r : Read) → reads_index r [] ≡ Ok r
unfolding reads_index
reads_none r = refl

front_of : (r : Read) (xs : List ℕ) (i : ℕ) → i < length xs → reads_index r (drop i xs) ≡ (push_to_index r (get_or xs i 0) >>= λ s. reads_index s (drop (i + 1) xs))
front_of r xs i lt = rw (drop-cons xs i 0 lt, add-one) (reads_one r (get_or xs i 0) (drop (suc i) xs))

pub reading_goes_on : (r s t : Read) (xs : List ℕ) (i : ℕ) → i < length xs → reads_index r xs ≡ reads_index s (drop i xs) → push_to_index s (get_or xs i 0) ≡ Ok t → reads_index r xs ≡ reads_index t (drop (i + 1) xs)
reading_goes_on r s t xs i lt so_far one = so_far ∙ front_of s xs i lt ∙ ap (λ x. x >>= λ u. reads_index u (drop (i + 1) xs)) one

pub stops_on : (e : ReadFault) (x y : Result Read IndexFault) → ((f : IndexFault) → x ≡ Err f → y ≡ Err f) → ReadStops e x → ReadStops e y
stops_on errors.Memory x y go h = tt
stops_on errors.Over x y go h = absurd h
stops_on (errors.Bad f) x y go h = go f h

pub reading_fails : (r s : Read) (xs : List ℕ) (i : ℕ) (e : ReadFault) → i < length xs → reads_index r xs ≡ reads_index s (drop i xs) → ReadStops e (push_to_index s (get_or xs i 0)) → ReadStops e (reads_index r xs)
reading_fails r s xs i e lt so_far h =
    stops_on e (push_to_index s (get_or xs i 0)) (reads_index r xs) (λ f is. so_far ∙ front_of s xs i lt ∙ ap (λ x. x >>= λ u. reads_index u (drop (i + 1) xs)) is) h

pub reading_ends : (r s : Read) (xs : List ℕ) (i : ℕ) → length xs ≤ i → reads_index r xs ≡ reads_index s (drop i xs) → reads_index r xs ≡ Ok s
reading_ends r s xs i le so_far = so_far ∙ ap (reads_index s) (drop_all i xs le) ∙ reads_none s
