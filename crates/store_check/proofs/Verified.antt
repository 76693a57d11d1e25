-- Chunk files that are found damaged, one after another.
use Rattle.std.proofs.Common.{◌≡◌, ℕ, ◌+◌, ◌-◌, ◌<◌, ◌≤◌, List, [], ◌∷◌, ◌++◌, length, take, drop, get_or, map, Bool, true, false, cond, ◌||◌, ◌&&◌, Option, Some, None, IfSome, Ok, Err, inl, inr, refl, sym, ap, subst, ◌∙◌, arith, length-append, append_assoc}
use Rattle.std.proofs.Math.Seq.{take-append-add, take-append_seam}
use Rattle.std.proofs.lemmas.Bool.{false_from_ne_true}
use Rattle.std.proofs.lemmas.Grind.{flat_map-append}
use Rattle.std.proofs.lemmas.List.{append-nil, map-append, take-append-drop, take-append-le, take_all}
use Rattle.std.proofs.lemmas.List.Elements.{filter-append}
use Rattle.std.proofs.lemmas.Map.Made.{is_member-filter}
use Rattle.std.proofs.lemmas.Map.Text.{is_eq-slice_cmp}
use Rattle.std.proofs.lemmas.Slice.Eq.{bytes_eq-Decides}
use Rattle.std.specs.Cmp.Lexicographic.{slice_cmp, nat_list_eq_equiv}
use Rattle.std.specs.Cmp.{both_ways}
use Rattle.std.specs.List.{filter, AllByRecursion}
use Rattle.std.specs.List.Sorted.{IsStrictlySortedBy}
use Rattle.std.specs.Option.{option_map}
use Rattle.std.specs.Ordering.{nat_cmp, is_eq}
use Rattle.std.specs.Set.{is_member}
use Rattle.std.specs.Str.{bytes_eq}
use Rattle.std.specs.declared.cmp.Ordering.TheVariants.{Less}
use Rattle.chunk_store.specs.Digests.{IsId}
use Rattle.chunk_store.specs.Paths.{path_of}
use Rattle.chunk_store.specs.declared.id.ChunkId.{ChunkId}
use Rattle.chunk_store.specs.declared.id.DigestKind.{DigestKind}
use Rattle.dir_store.specs.Lists.{IsIdsOf}
use Rattle.dsy_base.specs.Maps.{Map}
use Rattle.verify_tool.proofs.Distinct.{front_is}
use Rattle.verify_tool.proofs.Pruned.{without_append}
use Rattle.verify_tool.proofs.Sending.{put_both, put_nothing}
use Rattle.verify_tool.specs.Pruning.{without}
use Rattle.store_check.specs.Verifying.{AreDamaged, AreTold, Change, ChecksFile, IsStopped, IsStoreChecked, found_at, is_damaged, is_wrong, left_of, line_of_damaged, text_of_damaged}
use Rattle.store_check.specs.VerifyProgress.{ToldTo}
use Rattle.store_check.specs.declared.verify.StoreCheck.{StoreCheck}

-- ---- an id that stands behind others isn't one of them

not_below_itself : (x : List ℕ) → slice_cmp nat_cmp x x ≡ Less → ⊥
not_below_itself x h = let no : false ≡ true = sym (ap is_eq h) ∙ is_eq-slice_cmp x x ∙ (bytes_eq-Decides x x).1 refl in absurd (cc)

at_middle : (P : List ℕ → Type 0) (front : List (List ℕ)) (x : List ℕ) (rest : List (List ℕ)) → AllByRecursion P (front ++ x ∷ rest) → P x
at_middle P [] x rest h = h.0
at_middle P (y ∷ front) x rest h = at_middle P front x rest h.1

apart : (front : List (List ℕ)) (x : List ℕ) (rest : List (List ℕ)) → IsStrictlySortedBy (slice_cmp nat_cmp) (front ++ x ∷ rest) → is_member bytes_eq front x ≡ false
unfolding IsStrictlySortedBy
apart [] x rest h = refl
apart (y ∷ front) x rest h =
    let less : slice_cmp nat_cmp y x ≡ Less = at_middle (λ z. slice_cmp nat_cmp y z ≡ Less) front x rest h.0 in
    let differ : bytes_eq x y ≡ false = false_from_ne_true (bytes_eq x y) (λ e. not_below_itself y (subst (λ (z : List ℕ). slice_cmp nat_cmp y z ≡ Less) ((bytes_eq-Decides x y).0 e) less)) in
    rw differ (apart front x rest h.1)

-- ---- files without those of some ids

pub left_append : (repair : Bool) (xs ys : List (List ℕ)) (o : Option (Map (List ℕ))) → left_of repair (xs ++ ys) o ≡ left_of repair ys (left_of repair xs o)
left_append false xs ys o = refl
left_append true xs ys o = ap (λ ps. option_map (without ps) o) (map-append path_of xs ys) ∙ without_append (map path_of xs) (map path_of ys) o

module _ (one : (a b : List ℕ) → IsId b → path_of a ≡ path_of b → a ≡ b) (id : List ℕ) (is : IsId id) where
  same_test : (d : List ℕ) → bytes_eq (path_of id) (path_of d) ≡ bytes_eq id d
  same_test d = both_ways (bytes_eq (path_of id) (path_of d)) (bytes_eq id d)
      (λ h. (bytes_eq-Decides id d).1 (sym (one d id is (sym ((bytes_eq-Decides (path_of id) (path_of d)).0 h)))))
      (λ h. (bytes_eq-Decides (path_of id) (path_of d)).1 (ap path_of ((bytes_eq-Decides id d).0 h)))

  same_member : (ds : List (List ℕ)) → is_member bytes_eq (map path_of ds) (path_of id) ≡ is_member bytes_eq ds id
  same_member [] = refl
  same_member (d ∷ ds) = (λ i. same_test d i || same_member ds i)

  -- a file that is there still is damaged if it was
  still_told : (kind : DigestKind) (repair : Bool) (ds : List (List ℕ)) (b : Bool) (o : Option (Map (List ℕ))) → IfSome o (λ m. is_member bytes_eq ds id ≡ false) → IfSome (left_of repair ds o) (λ m. b ≡ is_damaged kind m id) → IfSome o (λ m. b ≡ is_damaged kind m id)
  still_told kind repair ds b None fresh h = tt
  still_told kind false ds b (Some m) fresh h = h
  still_told kind true ds b (Some m) fresh h = h ∙ ap (λ t. is_wrong kind id (cond t None (m (path_of id)))) (same_member ds ∙ fresh)

  -- and is found so if it would have been
  still_known : (kind : DigestKind) (repair : Bool) (ds : List (List ℕ)) (b : Bool) (o : Option (Map (List ℕ))) → IfSome o (λ m. is_member bytes_eq ds id ≡ false) → IfSome o (λ m. b ≡ is_damaged kind m id) → IfSome (left_of repair ds o) (λ m. b ≡ is_damaged kind m id)
  still_known kind false ds b None fresh h = tt
  still_known kind true ds b None fresh h = tt
  still_known kind false ds b (Some m) fresh h = h
  still_known kind true ds b (Some m) fresh h = h ∙ sym (ap (λ t. is_wrong kind id (cond t None (m (path_of id)))) (same_member ds ∙ fresh))

-- ---- one after another

pub told_more : (repair : Bool) (xs ys : List (List ℕ)) (c d : Change) → d.old ≡ c.new → d.before ≡ c.taken → AreTold repair xs c → AreTold repair ys d
    → AreTold repair (xs ++ ys) (record { old = c.old; new = d.new; before = c.before; taken = d.taken })
told_more repair xs ys c d old before first second = record {
  files = second.files ∙ ap (left_of repair ys) (old ∙ first.files) ∙ sym (left_append repair xs ys c.old);
  text = second.text ∙ ap (option_map (λ t. t ++ text_of_damaged repair ys)) (before ∙ first.text)
      ∙ put_both c.before (text_of_damaged repair xs) (text_of_damaged repair ys)
      ∙ ap (λ x. option_map (λ t. t ++ x) c.before) (sym (flat_map-append (line_of_damaged repair) xs ys));
}

nothing_left : (repair : Bool) (o : Option (Map (List ℕ))) → left_of repair [] o ≡ o
nothing_left false o = refl
nothing_left true None = refl
nothing_left true (Some m) = refl

pub none_told : (repair : Bool) (o : Option (Map (List ℕ))) (t : Option (List ℕ)) → AreTold repair [] (record { old = o; new = o; before = t; taken = t })
none_told repair o t = record { files = sym (nothing_left repair o); text = sym (put_nothing t) }

-- ---- what a refusal leaves

front_shorter : (repair : Bool) (k : ℕ) (ds : List (List ℕ)) → length (text_of_damaged repair (take k ds)) ≤ length (text_of_damaged repair ds)
front_shorter repair k ds =
    let whole = ap length (sym (ap (text_of_damaged repair) (take-append-drop k ds)) ∙ flat_map-append (line_of_damaged repair) (take k ds) (drop k ds)) in
    omega (arith, whole, length-append (text_of_damaged repair (take k ds)) (text_of_damaged repair (drop k ds)))

-- ds are the first of the damaged
stopped : (kind : DigestKind) (repair : Bool) (c : Change) (ds rest : List (List ℕ)) → IfSome c.old (λ m. AreDamaged kind m (ds ++ rest)) → c.new ≡ left_of repair ds c.old → (size : ℕ)
    → length (text_of_damaged repair (take (length ds - 1) ds)) ≤ size → size ≤ length (text_of_damaged repair ds) → c.taken ≡ option_map (λ t. t ++ take size (text_of_damaged repair ds)) c.before → IsStopped kind repair c
stopped kind repair c ds rest all files size from to text =
    let seam : take (length ds) (ds ++ rest) ≡ ds = take-append_seam ds rest in
    let below : take (length ds - 1) (ds ++ rest) ≡ take (length ds - 1) ds = take-append-le (length ds - 1) ds rest (omega arith) in
    let cut : take size (text_of_damaged repair (ds ++ rest)) ≡ take size (text_of_damaged repair ds) = ap (take size) (flat_map-append (line_of_damaged repair) ds rest) ∙ take-append-le size (text_of_damaged repair ds) (text_of_damaged repair rest) to in
    record {
      damaged = ds ++ rest;
      all = all;
      count = length ds;
      inside = omega (arith, length-append ds rest);
      files = files ∙ ap (λ xs. left_of repair xs c.old) (sym seam);
      size = size;
      from = subst (λ (xs : List (List ℕ)). length (text_of_damaged repair xs) ≤ size) (sym below) from;
      to = subst (λ (xs : List (List ℕ)). size ≤ length (text_of_damaged repair xs)) (sym seam) to;
      text = text ∙ ap (λ x. option_map (λ t. t ++ x) c.before) (sym cut);
    }

-- no file was looked at yet
pub told_begins : (kind : DigestKind) (repair : Bool) (ids : List ChunkId) (o : Option (Map (List ℕ))) (t : Option (List ℕ)) → ToldTo kind repair ids 0 0 (record { old = o; new = o; before = t; taken = t })
told_begins kind repair ids o t = record { damaged = []; all = none_yet o; told = none_told repair o t; count = refl; few = omega arith } where
  none_yet : (x : Option (Map (List ℕ))) → IfSome x (λ m. [] ≡ filter (is_damaged kind m) (take 0 (map (λ id. id.0) ids)))
  none_yet None = tt
  none_yet (Some m) = refl

module _ (one : (a b : List ℕ) → IsId b → path_of a ≡ path_of b → a ≡ b) (kind : DigestKind) (repair : Bool) (ids : List ChunkId) where
  abbrev L : List (List ℕ)
  L = map (λ id. id.0) ids

  module _ (i n : ℕ) (lt : i < length L) (c d : Change) (old : d.old ≡ c.new) (before : d.before ≡ c.taken)
      (listed : IfSome c.old (λ m. IsIdsOf m ids)) (walked : ToldTo kind repair ids i n c) (id : List ℕ) (id_is : id ≡ get_or L i []) (is : IsId id) where
    abbrev joined : Change
    joined = record { old = c.old; new = d.new; before = c.before; taken = d.taken }

    whole_is : L ≡ take i L ++ id ∷ drop (i + 1) L
    whole_is = sym (take-append-drop (i + 1) L) ∙ ap (λ xs. xs ++ drop (i + 1) L) (front_is L i lt ∙ ap (λ x. take i L ++ x ∷ []) (sym id_is)) ∙ append_assoc (take i L) (id ∷ []) (drop (i + 1) L)

    fresh_in : (m : Map (List ℕ)) → IsIdsOf m ids → walked.damaged ≡ filter (is_damaged kind m) (take i L) → is_member bytes_eq walked.damaged id ≡ false
    fresh_in m all are =
        let sorted : IsStrictlySortedBy (slice_cmp nat_cmp) (take i L ++ id ∷ drop (i + 1) L) = subst (λ (xs : List (List ℕ)). IsStrictlySortedBy (slice_cmp nat_cmp) xs) whole_is all.sorted in
        ap (λ xs. is_member bytes_eq xs id) are
        ∙ is_member-filter nat_list_eq_equiv (is_damaged kind m) id (λ x same. ap (is_damaged kind m) ((bytes_eq-Decides id x).0 same)) (take i L)
        ∙ ap (λ b. b && is_damaged kind m id) (apart (take i L) id (drop (i + 1) L) sorted)

    fresh : (o : Option (Map (List ℕ))) → IfSome o (λ m. IsIdsOf m ids) → IfSome o (λ m. walked.damaged ≡ filter (is_damaged kind m) (take i L)) → IfSome o (λ m. is_member bytes_eq walked.damaged id ≡ false)
    fresh None a b = tt
    fresh (Some m) a b = fresh_in m a b

    told_first : (b : Bool) → IfSome d.old (λ m. b ≡ is_damaged kind m id) → IfSome c.old (λ m. b ≡ is_damaged kind m id)
    told_first b h = still_told one id is kind repair walked.damaged b c.old (fresh c.old listed walked.all) (subst (λ (x : Option (Map (List ℕ))). IfSome x (λ m. b ≡ is_damaged kind m id)) (old ∙ walked.told.files) h)

    -- what was known of the file at first holds of it now
    pub told_now : (b : Bool) → IfSome c.old (λ m. b ≡ is_damaged kind m id) → IfSome d.old (λ m. b ≡ is_damaged kind m id)
    told_now b h = subst (λ (x : Option (Map (List ℕ))). IfSome x (λ m. b ≡ is_damaged kind m id)) (sym (old ∙ walked.told.files)) (still_known one id is kind repair walked.damaged b c.old (fresh c.old listed walked.all) h)

    more_of : (b : Bool) (o : Option (Map (List ℕ))) → IfSome o (λ m. walked.damaged ≡ filter (is_damaged kind m) (take i L)) → IfSome o (λ m. b ≡ is_damaged kind m id) → IfSome o (λ m. walked.damaged ++ found_at id b ≡ filter (is_damaged kind m) (take (i + 1) L))
    more_of b None are value = tt
    more_of b (Some m) are value =
        (λ k. are k ++ found_at id (value k)) ∙ sym (filter-append (is_damaged kind m) (take i L) (id ∷ []))
        ∙ ap (filter (is_damaged kind m)) (ap (λ x. take i L ++ x ∷ []) id_is ∙ sym (front_is L i lt))

    -- this one was looked at too
    pub told_next : (b : Bool) (more : ℕ) → more ≡ cond b 1 0 → ChecksFile kind repair id d (Ok b) → ToldTo kind repair ids (i + 1) (n + more) joined
    told_next b more more_is checked = record {
      damaged = walked.damaged ++ found_at id b;
      all = more_of b c.old walked.all (told_first b checked.0);
      told = told_more repair walked.damaged (found_at id b) c d old before walked.told checked.1;
      count = ap (λ k. n + k) more_is ∙ counts b;
      few = rw more_is (fits b);
    } where
      counts : (t : Bool) → n + cond t 1 0 ≡ length (walked.damaged ++ found_at id t)
      counts true = omega (arith, walked.count, length-append walked.damaged (id ∷ []))
      counts false = omega (arith, walked.count, length-append walked.damaged [])

      fits : (t : Bool) → n + cond t 1 0 ≤ i + 1
      fits true = omega (arith, walked.few)
      fits false = omega (arith, walked.few)

    abbrev rest_of : Option (Map (List ℕ)) → List (List ℕ) → List (List ℕ)
    rest_of None xs = []
    rest_of (Some m) xs = filter (is_damaged kind m) xs

    whole_damaged : (k : ℕ) (ds : List (List ℕ)) (o : Option (Map (List ℕ))) → IfSome o (λ m. IsIdsOf m ids) → IfSome o (λ m. ds ≡ filter (is_damaged kind m) (take k L)) → IfSome o (λ m. AreDamaged kind m (ds ++ rest_of o (drop k L)))
    whole_damaged k ds None all are = tt
    whole_damaged k ds (Some m) all are = record {
      ids = ids;
      all = all;
      only = ap (λ xs. xs ++ filter (is_damaged kind m) (drop k L)) are ∙ sym (filter-append (is_damaged kind m) (take k L) (drop k L)) ∙ ap (filter (is_damaged kind m)) (take-append-drop k L);
    }

    -- a refusal at this one
    pub told_stops : (fault : StoreCheck) → ChecksFile kind repair id d (Err fault) → IsStopped kind repair joined
    told_stops fault (inl same) =
        let ds = walked.damaged in
        stopped kind repair joined ds (rest_of c.old (drop i L)) (whole_damaged i ds c.old listed walked.all)
        (same.files ∙ old ∙ walked.told.files)
        (length (text_of_damaged repair ds))
        (front_shorter repair (length ds - 1) ds)
        (omega arith)
        (same.text ∙ before ∙ walked.told.text ∙ ap (λ x. option_map (λ t. t ++ x) c.before) (sym (take_all (length (text_of_damaged repair ds)) (text_of_damaged repair ds) (omega arith))))
    told_stops fault (inr cut) =
        let ds = walked.damaged in
        let es : List (List ℕ) = ds ++ id ∷ [] in
        let first : List ℕ = text_of_damaged repair ds in
        let line : List ℕ = line_of_damaged repair id in
        let k = cut.text.0 in
        let text : text_of_damaged repair es ≡ first ++ line = flat_map-append (line_of_damaged repair) ds (id ∷ []) ∙ ap (λ x. first ++ x) (append-nil line) in
        let long : length (text_of_damaged repair es) ≡ length first + length line = ap length text ∙ length-append first line in
        let one_more : length es - 1 ≡ length ds = omega (arith, length-append ds (id ∷ [])) in
        let front : length (text_of_damaged repair (take (length es - 1) es)) ≡ length first = ap (λ j. length (text_of_damaged repair (take j es))) one_more ∙ ap (λ xs. length (text_of_damaged repair xs)) (take-append_seam ds (id ∷ [])) in
        stopped kind repair joined es (rest_of c.old (drop (i + 1) L)) (whole_damaged (i + 1) es c.old listed (more_of true c.old walked.all (told_first true (turned d.old cut.damaged))))
        (cut.files ∙ ap (left_of repair (id ∷ [])) (old ∙ walked.told.files) ∙ sym (left_append repair ds (id ∷ []) c.old))
        (length first + k)
        (omega (arith, front))
        (omega (arith, long, cut.text.1))
        (cut.text.2 ∙ ap (option_map (λ t. t ++ take k line)) (before ∙ walked.told.text) ∙ put_both c.before first (take k line)
        ∙ ap (λ x. option_map (λ t. t ++ x) c.before) (sym (ap (take (length first + k)) text ∙ take-append-add first line k)))
      where
        turned : (o : Option (Map (List ℕ))) → IfSome o (λ m. is_damaged kind m id ≡ true) → IfSome o (λ m. true ≡ is_damaged kind m id)
        turned None h = tt
        turned (Some m) h = sym h

  -- all were looked at
  pub told_all : (i n left : ℕ) (c : Change) → length L ≤ i → IfSome c.old (λ m. IsIdsOf m ids) → ToldTo kind repair ids i n c → left ≡ cond repair 0 n → IsStoreChecked kind repair left c
  told_all i n left c all listed walked is = record {
    damaged = walked.damaged;
    all = whole c.old listed walked.all;
    told = walked.told;
    left = is ∙ ap (cond repair 0) walked.count;
  } where
    whole : (o : Option (Map (List ℕ))) → IfSome o (λ m. IsIdsOf m ids) → IfSome o (λ m. walked.damaged ≡ filter (is_damaged kind m) (take i L)) → IfSome o (λ m. AreDamaged kind m walked.damaged)
    whole None a b = tt
    whole (Some m) a b = record { ids = ids; all = a; only = b ∙ ap (filter (is_damaged kind m)) (take_all i L all) }
