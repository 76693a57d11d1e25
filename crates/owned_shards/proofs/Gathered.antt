-- Lanes whose shards were surveyed.
use Rattle.std.proofs.Common.{◌≡◌, ℕ, ◌<◌, ◌≤◌, List, [], ◌∷◌, ◌++◌, All, length, map, reverse, slice_index_or, vec_capacity, vec_len, refl, sym, ap, subst, ◌∙◌, arith}
use Rattle.std.proofs.lemmas.List.{map_push, reverse-append, reverse-reverse}
use Rattle.std.specs.List.{flat_map}
use Rattle.owned_shards.proofs.Dealt.{all_in_pieces, all_in_turn, all_of_pieces, pieces_alike, with_all, with_numbers}
use Rattle.owned_shards.specs.Shares.{HasSurveyed, AwaitsSurvey, IsUnsurveyed}
use Rattle.owned_shards.specs.Wholes.{Begun, ShardsWith}
use Rattle.owned_shards.specs.declared.lanes.Lane.{Lane}
use Rattle.range_ledger.specs.Runs.{Run, Seen}

map-reverse : {A B : Type 0} (f : A → B) (xs : List A) → map f (reverse xs) ≡ reverse (map f xs)
map-reverse f [] = refl
map-reverse f (x ∷ xs) =
    ap (map f) (reverse-append (x ∷ []) xs) ∙ map_push f (reverse xs) x ∙ ap (λ zs. zs ++ f x ∷ []) (map-reverse f xs)
    ∙ sym (reverse-append (f x ∷ []) (map f xs))

in_turn : (us ss : List Seen) → map (λ s. s.number) ss ≡ reverse (map (λ s. s.number) us) → map (λ s. s.number) (reverse ss) ≡ map (λ s. s.number) us
in_turn us ss same = map-reverse (λ s. s.number) ss ∙ ap (λ (ns : List ℕ). reverse ns) same ∙ reverse-reverse (map (λ s. s.number) us)

module _ {P R : Type 0} (r : Run) (xs : List (Lane P R)) (us : List Seen) (dealt : flat_map (λ a. a.share.unread.items) xs ≡ us) (are : ShardsWith (IsUnsurveyed r) r 0 us) where
  -- each lane may begin
  pub all_ready : All (λ a. a.share.shards.items ≡ []) xs → All (λ a. vec_len a.share.unread ≤ vec_capacity a.share.shards) xs → All (λ a. AwaitsSurvey r a.share) xs
  all_ready none room k a lt = record {
    unread = all_in_pieces (IsUnsurveyed r) (λ (x : Lane P R). x.share.unread.items) xs (subst (All (IsUnsurveyed r)) (sym dealt) (with_all r (IsUnsurveyed r) 0 us are)) k a lt;
    shards = none k a lt;
    room = room k a lt;
  }

  -- what all lanes have surveyed is all that there is
  pub all_surveyed : (lent ys : List (Lane P R)) → lent ≡ xs → length ys ≡ length lent
      → ((k : ℕ) (a : Lane P R) → k < length lent → HasSurveyed r (slice_index_or lent k a).share (slice_index_or ys k a).share)
      → ShardsWith (Begun r) r 0 (flat_map (λ a. reverse a.share.shards.items) ys)
  all_surveyed lent ys same long each =
      let done : (k : ℕ) (a : Lane P R) → k < length xs → HasSurveyed r (slice_index_or xs k a).share (slice_index_or ys k a).share =
      subst (λ zs. (k : ℕ) (a : Lane P R) → k < length zs → HasSurveyed r (slice_index_or zs k a).share (slice_index_or ys k a).share) same each in
      let size : length ys ≡ length xs = long ∙ ap (λ zs. length zs) same in
      let numbers : map (λ s. s.number) (flat_map (λ (a : Lane P R). reverse a.share.shards.items) ys) ≡ map (λ s. s.number) us =
      pieces_alike (λ (s : Seen). s.number) (λ (x : Lane P R). x.share.unread.items) (λ (x : Lane P R). reverse x.share.shards.items) xs ys size
      (λ i d lt. in_turn (slice_index_or xs i d).share.unread.items (slice_index_or ys i d).share.shards.items (done i d lt).numbers)
      ∙ ap (map (λ s. s.number)) dealt in
      let begun : All (Begun r) (flat_map (λ (a : Lane P R). reverse a.share.shards.items) ys) =
      all_of_pieces (Begun r) (λ (x : Lane P R). reverse x.share.shards.items) ys
      (λ i d lt. all_in_turn (Begun r) (slice_index_or ys i d).share.shards.items (done i d (omega (arith, lt, size))).begun) in
      with_numbers r (IsUnsurveyed r) (Begun r) 0 us (flat_map (λ a. reverse a.share.shards.items) ys) are numbers begun
