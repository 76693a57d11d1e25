-- The entries of the list that keeps chunks, and their wants.
use Rattle.std.proofs.Common.{◌≡◌, ℕ, zero, suc, ◌-◌, ◌<◌, ◌||◌, true, false, cond, List, [], ◌∷◌, Vec, take, Some, None, eqb, refl, sym, ap, subst, ◌∙◌, arith, inl, inr}
use Rattle.std.proofs.lemmas.Bool.{and_parts, eqb-true}
use Rattle.std.proofs.lemmas.Slice.Eq.{bytes_eq-Decides}
use Rattle.std.specs.Map.{keys_of, lookup, lookup_entry, remove_entry}
use Rattle.std.specs.Option.{option_map_or}
use Rattle.std.specs.Str.{bytes_eq}
use Rattle.chunk_store.specs.Giving.{IsChunk}
use Rattle.chunk_store.specs.declared.id.DigestKind.{DigestKind}
use Rattle.lru.proofs.CallerLemmas.{Contains-lookup, Contains-promoted, Contains-put_entries, Contains-take}
use Rattle.lru.specs.LruCache.{LruCache, lru_cache, promoted, put_entries}
use Rattle.image_reader.specs.Keeping.{AreChunksOf, Kept, has_want, is_want, without_want}
use Rattle.image_reader.specs.declared.want.Want.{Want}

-- two wants of one chunk are equal
pub one_want : (w x : Want) → is_want w x ≡ true → x ≡ w
one_want w x h =
    let both = and_parts (bytes_eq w.id.0 x.id.0) (eqb w.size x.size) h in
    let ids : w.id.0 ≡ x.id.0 = (bytes_eq-Decides w.id.0 x.id.0).0 both.0 in
    let sizes : w.size ≡ x.size = eqb-true w.size x.size both.1 in
    let both_ways : w ≡ x = λ i. record { id = record { 0 = ids i }; size = sizes i } in
    sym both_ways

-- the first of a list is kept by any room
pub take_first : {A : Type 0} (n : ℕ) (x : A) (xs : List A) → 0 < n → take n (x ∷ xs) ≡ x ∷ take (n - 1) xs
take_first zero x xs lt = absurd (omega arith)
take_first (suc n) x xs lt = let less : suc n - 1 ≡ n = omega arith in ap (λ k. x ∷ take k xs) (sym less)

module _ {Z : Type 0} where
  abbrev pub seen : DigestKind → LruCache Want (Vec ℕ Z) → Kept
  seen kind c = record { kind = kind; keep = c.cap; wants = keys_of c.entries }

  pub keys_take : (n : ℕ) (es : List (Want × Vec ℕ Z)) → keys_of (take n es) ≡ take n (keys_of es)
  keys_take zero es = refl
  keys_take (suc n) [] = refl
  keys_take (suc n) (e ∷ es) = λ i. e.0 ∷ keys_take n es i

  -- what contracts see of other entries with as much room
  pub seen_with : (kind : DigestKind) (cap : ℕ) (d : LruCache Want (Vec ℕ Z)) (es : List (Want × Vec ℕ Z)) (ws : List Want) → d ≡ lru_cache es cap → keys_of es ≡ ws → seen kind d ≡ record { kind = kind; keep = cap; wants = ws }
  seen_with kind cap d es ws is keys = ap (seen kind) is ∙ (λ i. record { kind = kind; keep = cap; wants = keys i })

  module _ (w : Want) where
    keys_remove : (es : List (Want × Vec ℕ Z)) → keys_of (remove_entry (is_want w) es) ≡ without_want w (keys_of es)
    keys_remove [] = refl
    keys_remove (e ∷ es) =
        elim (is_want w e.0) as (λ b. keys_of (cond b es (e ∷ remove_entry (is_want w) es)) ≡ cond b (keys_of es) (e.0 ∷ without_want w (keys_of es))) [
          | true ↦ refl
          | false ↦ λ i. e.0 ∷ keys_remove es i
        ]

    entry_of : (es : List (Want × Vec ℕ Z)) (v : Vec ℕ Z) → lookup (is_want w) es ≡ Some v → (e : Want × Vec ℕ Z) × (lookup_entry (is_want w) es ≡ Some e) × (e.0 ≡ w) × (has_want (keys_of es) w ≡ true)
    entry_of [] v h = cc
    entry_of (e ∷ es) v h = (elim (is_want w e.0) as (λ b. is_want w e.0 ≡ b → (f : Want × Vec ℕ Z) × (lookup_entry (is_want w) (e ∷ es) ≡ Some f) × (f.0 ≡ w) × (has_want (keys_of (e ∷ es)) w ≡ true)) [
      | true ↦ λ t. (e, ap (λ b. cond b (Some e) (lookup_entry (is_want w) es)) t, one_want w e.0 t, ap (λ b. b || has_want (keys_of es) w) t)
      | false ↦ λ t.
          let on = entry_of es v (sym (ap (λ b. cond b (Some e.1) (lookup (is_want w) es)) t) ∙ h) in
          (on.0, ap (λ b. cond b (Some e) (lookup_entry (is_want w) es)) t ∙ on.1, on.2, ap (λ b. b || has_want (keys_of es) w) t ∙ on.3)
    ]) refl

    -- one that is found is kept, and goes to the front
    pub has_found : (es : List (Want × Vec ℕ Z)) (v : Vec ℕ Z) → lookup (is_want w) es ≡ Some v → has_want (keys_of es) w ≡ true
    has_found es v h = (entry_of es v h).3

    pub keys_promoted : (es : List (Want × Vec ℕ Z)) (v : Vec ℕ Z) → lookup (is_want w) es ≡ Some v → keys_of (promoted (is_want w) es) ≡ w ∷ without_want w (keys_of es)
    keys_promoted es v h =
        let e = entry_of es v h in
        ap (λ o. keys_of (option_map_or (λ f. f ∷ remove_entry (is_want w) es) o es)) e.1 ∙ (λ i. e.2 i ∷ keys_remove es i)

    pub lacks_unfound : (es : List (Want × Vec ℕ Z)) → lookup (is_want w) es ≡ None → has_want (keys_of es) w ≡ false
    lacks_unfound [] h = refl
    lacks_unfound (e ∷ es) h = (elim (is_want w e.0) as (λ b. is_want w e.0 ≡ b → has_want (keys_of (e ∷ es)) w ≡ false) [
      | true ↦ λ t. let some : Some e.1 ≡ None = sym (ap (λ b. cond b (Some e.1) (lookup (is_want w) es)) t) ∙ h in absurd (cc)
      | false ↦ λ t. ap (λ b. b || has_want (keys_of es) w) t ∙ lacks_unfound es (sym (ap (λ b. cond b (Some e.1) (lookup (is_want w) es)) t) ∙ h)
    ]) refl

    no_entry : (es : List (Want × Vec ℕ Z)) → has_want (keys_of es) w ≡ false → lookup_entry (is_want w) es ≡ None
    no_entry [] h = refl
    no_entry (e ∷ es) h = (elim (is_want w e.0) as (λ b. is_want w e.0 ≡ b → lookup_entry (is_want w) (e ∷ es) ≡ None) [
      | true ↦ λ t. let some : true ≡ false = sym (ap (λ b. b || has_want (keys_of es) w) t) ∙ h in absurd (cc)
      | false ↦ λ t. ap (λ b. cond b (Some e) (lookup_entry (is_want w) es)) t ∙ no_entry es (sym (ap (λ b. b || has_want (keys_of es) w) t) ∙ h)
    ]) refl

    pub promoted_unfound : (es : List (Want × Vec ℕ Z)) → lookup (is_want w) es ≡ None → promoted (is_want w) es ≡ es
    promoted_unfound es h = ap (λ o. option_map_or (λ f. f ∷ remove_entry (is_want w) es) o es) (no_entry es (lacks_unfound es h))

    -- one that wasn't kept stands in front of the others then
    pub keys_put : (c : LruCache Want (Vec ℕ Z)) (v : Vec ℕ Z) → 0 < c.cap → has_want (keys_of c.entries) w ≡ false → keys_of (put_entries is_want c w v) ≡ take c.cap (w ∷ keys_of c.entries)
    keys_put c v some h =
        ap (λ o. keys_of (option_map_or (λ e. (e.0, v) ∷ remove_entry (is_want w) c.entries) o ((w, v) ∷ take (c.cap - 1) c.entries))) (no_entry c.entries h)
        ∙ ((λ i. w ∷ keys_take (c.cap - 1) c.entries i) ∙ sym (take_first c.cap w (keys_of c.entries) some))

    -- the bytes that are found are the chunk
    pub found_is_chunk : (kind : DigestKind) (es : List (Want × Vec ℕ Z)) (v : Vec ℕ Z) → AreChunksOf kind es → lookup (is_want w) es ≡ Some v → IsChunk kind w.id.0 w.size v.items
    found_is_chunk kind es v all h =
        let at = Contains-lookup (is_want w) es v h in
        let P : Want → Type 0 = λ x. IsChunk kind x.id.0 x.size v.items in
        subst P (one_want w at.0 at.2) (all (at.0, v) at.1)

  -- each stays the chunk of its want
  pub promoted_chunks : (kind : DigestKind) (w : Want) (es : List (Want × Vec ℕ Z)) → AreChunksOf kind es → AreChunksOf kind (promoted (is_want w) es)
  promoted_chunks kind w es all e in_it = all e (Contains-promoted (is_want w) es e in_it)

  pub fewer_chunks : (kind : DigestKind) (n : ℕ) (es : List (Want × Vec ℕ Z)) → AreChunksOf kind es → AreChunksOf kind (take n es)
  fewer_chunks kind n es all e in_it = all e (Contains-take n es e in_it)

  pub put_chunks : (kind : DigestKind) (w : Want) (c : LruCache Want (Vec ℕ Z)) (v : Vec ℕ Z) → AreChunksOf kind c.entries → IsChunk kind w.id.0 w.size v.items → AreChunksOf kind (put_entries is_want c w v)
  put_chunks kind w c v all right e in_it = elim (Contains-put_entries is_want c w v e in_it) [
    | inl before ↦ all e before
    | inr put ↦
        let here : IsChunk kind w.id.0 w.size e.1.items = (let P : Vec ℕ Z → Type 0 = λ u. IsChunk kind w.id.0 w.size u.items in subst P (sym put.0) right) in
        let P : Want → Type 0 = λ x. IsChunk kind x.id.0 x.size e.1.items in
        elim put.1 [
          | inl new ↦ subst P (sym new) here
          | inr known ↦ subst P (sym (one_want w e.0 known.2)) here
        ]
  ]
