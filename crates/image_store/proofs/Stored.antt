-- What seeing to one chunk more makes of what a store holds, of its folder's files, and of what it was asked and has said.
use Rattle.std.proofs.Common.{◌≡◌, ◌≢◌, ℕ, ◌+◌, ◌<◌, ◌≤◌, List, Option, Some, None, IfSome, is_some, refl, sym, ap, subst, ◌∙◌, ◌⊎◌, inl, inr, arith}
use Rattle.std.proofs.lemmas.Bool.{cases_lt}
use Rattle.std.specs.Option.{option_map}
use Rattle.caibx_codec.specs.Listing.{Listing, id_of, kind_of, slice_of}
use Rattle.caibx_codec.specs.Right.{IsRightAt}
use Rattle.chunk_store.specs.Digests.{digest_of}
use Rattle.chunk_store.specs.Paths.{path_of}
use Rattle.chunk_store.specs.Said.{Said, KeepsOf, AskedOnce}
use Rattle.chunk_store.specs.declared.id.DigestKind.{DigestKind}
use Rattle.dsy_base.specs.Folders.{temporary_of}
use Rattle.dsy_base.specs.Maps.{Map, at_name}
use Rattle.image_store.proofs.Names.{equal_or_not, other_name, same_name}
use Rattle.image_store.specs.PutChunks.{PutsRight, PutsLacked, HoldsNamed, SaysNamed, IsListedId, IsStored, Stands, HoldsAll, SaysAll, IsPut, PutsFiles, AsksEach}
use Rattle.image_store.specs.Putting.{HoldsStill}

-- one of the first k entries lists the id, and the image's slice wasn't held under it at first
pub record WasLacked (l : Listing) (told : Option (List ℕ)) (held : Option (Map (List ℕ))) (k : ℕ) (q : List ℕ) : Type 0 where
  pub entry : ℕ
  pub below : entry < k
  pub id : q ≡ id_of l entry
  pub lacked : IfSome told (λ t. IfSome held (λ m. m (id_of l entry) ≢ Some (slice_of l t entry)))

module _ (l : Listing) where
  -- ---- entries after the first i

  pub listed_later : (i j : ℕ) (q : List ℕ) → i ≤ j → IsListedId l i q → IsListedId l j q
  listed_later i j q le s = record { entry = s.entry; below = omega (arith, s.below); id = s.id }

  stored_later : (t : List ℕ) (i j : ℕ) (q : List ℕ) (a b : Option (List ℕ)) → i ≤ j → b ≡ a → IsStored l t i q a → IsStored l t j q b
  stored_later t i j q a b le same s = record { entry = s.entry; below = omega (arith, s.below); id = s.id; slice = same ∙ s.slice; right = s.right }

  put_later : (told : Option (List ℕ)) (held : Option (Map (List ℕ))) (i j : ℕ) (q : List ℕ) → i ≤ j → IsPut l told held i q → IsPut l told held j q
  put_later told held i j q le s = record { entry = s.entry; below = omega (arith, s.below); file = s.file; lacked = s.lacked }

  -- ---- what is held under each id

  -- an id that isn't touched stands as it stood
  untouched : (t : List ℕ) (i j : ℕ) (old m new : Map (List ℕ)) → i ≤ j → Stands l t i old m → (q : List ℕ) → new q ≡ m q → (new q ≡ old q) ⊎ IsStored l t j q (new q)
  untouched t i j old m new le stands q same = elim (stands q) [
    | inl e ↦ inl (same ∙ e)
    | inr s ↦ inr (stored_later t i j q (m q) (new q) le same s)
  ]

  stands_put : (t : List ℕ) (i : ℕ) (old m : Map (List ℕ)) → IsRightAt t l i → Stands l t i old m → Stands l t (i + 1) old (at_name m (id_of l i) (Some (slice_of l t i)))
  stands_put t i old m right stands = λ q. elim (equal_or_not (id_of l i) q) [
    | inl same ↦ inr (record { entry = i; below = omega arith; id = sym same; slice = same_name m (id_of l i) q (Some (slice_of l t i)) same; right = right })
    | inr other ↦ untouched t i (i + 1) old m (at_name m (id_of l i) (Some (slice_of l t i))) (omega arith) stands q (other_name m (id_of l i) q (Some (slice_of l t i)) other)
  ]

  pub stands_same : (told : Option (List ℕ)) (k : ℕ) (first : Option (Map (List ℕ))) → IfSome told (λ t. IfSome first (λ a. IfSome first (λ b. Stands l t k a b)))
  stands_same None k first = tt
  stands_same (Some t) k None = tt
  stands_same (Some t) k (Some m) = λ q. inl refl

  pub stands_later : (told : Option (List ℕ)) (i j : ℕ) (first now : Option (Map (List ℕ))) → i ≤ j
      → IfSome told (λ t. IfSome first (λ a. IfSome now (λ b. Stands l t i a b))) → IfSome told (λ t. IfSome first (λ a. IfSome now (λ b. Stands l t j a b)))
  stands_later None i j first now le h = tt
  stands_later (Some t) i j None now le h = tt
  stands_later (Some t) i j (Some a) None le h = tt
  stands_later (Some t) i j (Some a) (Some b) le h = λ q. untouched t i j a b b le h q refl

  pub stands_more : (told : Option (List ℕ)) (i : ℕ) (first now new : Option (Map (List ℕ))) → PutsRight (kind_of l) (id_of l i) (option_map (λ t. slice_of l t i) told) now new
      → IfSome told (λ t. IfSome first (λ a. IfSome now (λ b. Stands l t i a b))) → IfSome told (λ t. IfSome first (λ a. IfSome new (λ b. Stands l t (i + 1) a b)))
  stands_more told i first now new (inl same) h =
      subst (λ (o : Option (Map (List ℕ))). IfSome told (λ t. IfSome first (λ a. IfSome o (λ b. Stands l t (i + 1) a b)))) (sym same) (stands_later told i (i + 1) first now (omega arith) h)
  stands_more None i first now new (inr put) h = tt
  stands_more (Some t) i None now new (inr put) h = tt
  stands_more (Some t) i (Some a) now new (inr (b, named, is, put)) h =
      subst (λ (o : Option (Map (List ℕ))). IfSome o (λ n. Stands l t (i + 1) a n)) (sym put) (go now h) where
        go : (o : Option (Map (List ℕ))) → IfSome o (λ n. Stands l t i a n) → IfSome (option_map (λ m. at_name m (id_of l i) (Some b)) o) (λ n. Stands l t (i + 1) a n)
        go None h = tt
        go (Some m) h =
            subst (λ (x : List ℕ). Stands l t (i + 1) a (at_name m (id_of l i) (Some x))) (sym is)
            (stands_put t i a m (ap (digest_of (kind_of l)) (sym is) ∙ named) h)

  -- ---- bytes of each name are held

  held_on : (i : ℕ) (old new : Map (List ℕ)) → ((q : List ℕ) → (q ≡ id_of l i) ⊎ (new q ≡ old q)) → HoldsNamed (kind_of l) (id_of l i) (new (id_of l i)) → HoldsAll l i old → HoldsAll l (i + 1) new
  held_on i old new stay here held = λ j less. elim (cases_lt j i) [
    | inl below ↦ elim (stay (id_of l j)) [
      | inl same ↦ let P : List ℕ → Type 0 = λ q. HoldsNamed (kind_of l) q (new q) in subst P (sym same) here
      | inr kept ↦ subst (HoldsNamed (kind_of l) (id_of l j)) (sym kept) (held j below)
    ]
    | inr at_least ↦ let same : i ≡ j = omega arith in let P : ℕ → Type 0 = λ k. HoldsNamed (kind_of l) (id_of l k) (new (id_of l k)) in subst P same here
  ]

  pub holds_none : (now : Option (Map (List ℕ))) → IfSome now (λ m. HoldsAll l 0 m)
  holds_none None = tt
  holds_none (Some m) = λ j less. absurd (omega arith)

  pub holds_more : (told : Option (List ℕ)) (i : ℕ) (now new : Option (Map (List ℕ))) → PutsRight (kind_of l) (id_of l i) told now new
      → IfSome new (λ m. HoldsNamed (kind_of l) (id_of l i) (m (id_of l i))) → IfSome now (λ m. HoldsAll l i m) → IfSome new (λ m. HoldsAll l (i + 1) m)
  holds_more told i now new (inl same) here held = go now new same here held where
    go : (o n : Option (Map (List ℕ))) → n ≡ o → IfSome n (λ m. HoldsNamed (kind_of l) (id_of l i) (m (id_of l i))) → IfSome o (λ m. HoldsAll l i m) → IfSome n (λ m. HoldsAll l (i + 1) m)
    go o None e h k = tt
    go None (Some m) e h k = absurd (cc)
    go (Some m) (Some n) e h k = let e' : n ≡ m = cc in held_on i m n (λ q. inr (ap (λ (f : Map (List ℕ)). f q) e')) h k
  holds_more told i now new (inr (b, named, is, put)) here held =
      subst (λ (o : Option (Map (List ℕ))). IfSome o (λ m. HoldsNamed (kind_of l) (id_of l i) (m (id_of l i))) → IfSome o (λ m. HoldsAll l (i + 1) m)) (sym put) (go now held) here where
        go : (o : Option (Map (List ℕ))) → IfSome o (λ m. HoldsAll l i m) → IfSome (option_map (λ m. at_name m (id_of l i) (Some b)) o) (λ m. HoldsNamed (kind_of l) (id_of l i) (m (id_of l i))) → IfSome (option_map (λ m. at_name m (id_of l i) (Some b)) o) (λ m. HoldsAll l (i + 1) m)
        go None k h = tt
        go (Some m) k h = held_on i m (at_name m (id_of l i) (Some b)) (λ q. elim (equal_or_not (id_of l i) q) [
          | inl same ↦ inl (sym same)
          | inr other ↦ inr (other_name m (id_of l i) q (Some b) other)
        ]) h k

  -- what is put under one of the ids has that name
  pub holds_still : (told : Option (List ℕ)) (i : ℕ) (now new : Option (Map (List ℕ))) → PutsRight (kind_of l) (id_of l i) told now new → IfSome now (λ m. HoldsAll l i m) → IfSome new (λ m. HoldsAll l i m)
  holds_still told i now new (inl same) held = subst (λ (o : Option (Map (List ℕ))). IfSome o (λ m. HoldsAll l i m)) (sym same) held
  holds_still told i now new (inr (b, named, is, put)) held = subst (λ (o : Option (Map (List ℕ))). IfSome o (λ m. HoldsAll l i m)) (sym put) (go now held) where
    go : (o : Option (Map (List ℕ))) → IfSome o (λ m. HoldsAll l i m) → IfSome (option_map (λ m. at_name m (id_of l i) (Some b)) o) (λ m. HoldsAll l i m)
    go None k = tt
    go (Some m) k = λ j less. elim (equal_or_not (id_of l i) (id_of l j)) [
      | inl same ↦ (b, same_name m (id_of l i) (id_of l j) (Some b) same, named ∙ same)
      | inr other ↦ subst (HoldsNamed (kind_of l) (id_of l j)) (sym (other_name m (id_of l i) (id_of l j) (Some b) other)) (k j less)
    ]

  -- an id of an entry before holds still
  pub holds_again : (i : ℕ) (now : Option (Map (List ℕ))) → IsListedId l i (id_of l i) → IfSome now (λ m. HoldsAll l i m) → IfSome now (λ m. HoldsAll l (i + 1) m)
  holds_again i None before held = tt
  holds_again i (Some m) before held = λ j less. elim (cases_lt j i) [
    | inl below ↦ held j below
    | inr at_least ↦
        let same : i ≡ j = omega arith in
        let P : List ℕ → Type 0 = λ q. HoldsNamed (kind_of l) q (m q) in
        subst P (sym before.id ∙ ap (id_of l) same) (held before.entry before.below)
  ]

  -- ---- what was said of each

  pub said_none : (said : Said) → SaysAll l 0 said
  said_none said = λ j less. absurd (omega arith)

  said_on : (id : List ℕ) (old new : Said) → KeepsOf old new id → SaysNamed (kind_of l) id old → SaysNamed (kind_of l) id new
  said_on id old new keeps said = (
    said.0,
    said.1,
    elim said.2 [
      | inl shown ↦ inl (keeps.shown said.0 shown)
      | inr taken ↦ inr (keeps.taken said.0 taken)
    ],
  )

  pub said_before : (i : ℕ) (old new : Said) → ((q : List ℕ) → q ≢ id_of l i → KeepsOf old new q) → SaysAll l i old → (j : ℕ) → j < i → id_of l j ≢ id_of l i → SaysNamed (kind_of l) (id_of l j) new
  said_before i old new keeps said = λ j less other. said_on (id_of l j) old new (keeps (id_of l j) other) (said j less)

  pub said_more : (i : ℕ) (old new : Said) → ((q : List ℕ) → q ≢ id_of l i → KeepsOf old new q) → SaysNamed (kind_of l) (id_of l i) new → SaysAll l i old → SaysAll l (i + 1) new
  said_more i old new keeps here said = λ j less. elim (cases_lt j i) [
    | inl below ↦ elim (equal_or_not (id_of l j) (id_of l i)) [
      | inl same ↦ subst (λ (q : List ℕ). SaysNamed (kind_of l) q new) (sym same) here
      | inr other ↦ said_on (id_of l j) old new (keeps (id_of l j) other) (said j below)
    ]
    | inr at_least ↦ let same : i ≡ j = omega arith in subst (λ (k : ℕ). SaysNamed (kind_of l) (id_of l k) new) same here
  ]

  pub said_again : (i : ℕ) (said : Said) → IsListedId l i (id_of l i) → SaysAll l i said → SaysAll l (i + 1) said
  said_again i said before all = λ j less. elim (cases_lt j i) [
    | inl below ↦ all j below
    | inr at_least ↦
        let same : i ≡ j = omega arith in
        subst (λ (q : List ℕ). SaysNamed (kind_of l) q said) (sym before.id ∙ ap (id_of l) same) (all before.entry before.below)
  ]

  -- ---- the folder's files

  pub files_same : (told : Option (List ℕ)) (held : Option (Map (List ℕ))) (k : ℕ) (first : Option (Map (List ℕ))) → PutsFiles l told held k first first
  files_same told held k first = record { tells = refl; files = go first } where
    go : (o : Option (Map (List ℕ))) → IfSome o (λ m. IfSome o (λ n. (q : List ℕ) → (n q ≡ m q) ⊎ IsPut l told held k q))
    go None = tt
    go (Some m) = λ q. inl refl

  pub files_later : (told : Option (List ℕ)) (held : Option (Map (List ℕ))) (i j : ℕ) (first now : Option (Map (List ℕ))) → i ≤ j → PutsFiles l told held i first now → PutsFiles l told held j first now
  files_later told held i j first now le all = record { tells = all.tells; files = go first now all.files } where
    go : (a b : Option (Map (List ℕ))) → IfSome a (λ m. IfSome b (λ n. (q : List ℕ) → (n q ≡ m q) ⊎ IsPut l told held i q)) → IfSome a (λ m. IfSome b (λ n. (q : List ℕ) → (n q ≡ m q) ⊎ IsPut l told held j q))
    go None b h = tt
    go (Some m) None h = tt
    go (Some m) (Some n) h = λ q. elim (h q) [ inl e ↦ inl e | inr put ↦ inr (put_later told held i j q le put) ]

  -- what isn't held now wasn't held at first, under an id that wasn't touched
  lacked_first : (told : Option (List ℕ)) (i : ℕ) (held now : Option (Map (List ℕ))) → is_some now ≡ is_some held → HoldsStill (id_of l i) held now
      → IfSome (option_map (λ t. slice_of l t i) told) (λ b. IfSome now (λ m. m (id_of l i) ≢ Some b)) → IfSome told (λ t. IfSome held (λ m. m (id_of l i) ≢ Some (slice_of l t i)))
  lacked_first None i held now tells still lacked = tt
  lacked_first (Some t) i None now tells still lacked = tt
  lacked_first (Some t) i (Some m) None tells still lacked = absurd (cc)
  lacked_first (Some t) i (Some m) (Some n) tells still lacked = λ e. lacked (still ∙ e)

  -- the image's slice of an entry that lists the id of entry i wasn't held at first, where that of entry i isn't held
  -- now
  abbrev Lacked : Option (List ℕ) → ℕ → Option (Map (List ℕ)) → Option (Map (List ℕ)) → Type 0
  Lacked told i held held_now =
      IfSome (option_map (λ t. slice_of l t i) told) (λ b. IfSome held_now (λ m. m (id_of l i) ≢ Some b)) → WasLacked l told held (i + 1) (id_of l i)

  pub lacked_fresh : (told : Option (List ℕ)) (i : ℕ) (held held_now : Option (Map (List ℕ))) → is_some held_now ≡ is_some held → HoldsStill (id_of l i) held held_now → Lacked told i held held_now
  lacked_fresh told i held held_now tells still = λ lacked. record { entry = i; below = omega arith; id = refl; lacked = lacked_first told i held held_now tells still lacked }

  is_held_or_not : (held : Option (List ℕ)) (b : List ℕ) → (held ≡ Some b) ⊎ (held ≢ Some b)
  is_held_or_not None b = inr (λ e. absurd (cc))
  is_held_or_not (Some x) b = elim (equal_or_not x b) [
    | inl same ↦ inl (ap Some same)
    | inr other ↦ inr (λ e. other (cc))
  ]

  -- an entry before may have put its slice under the id, which wasn't held then
  pub lacked_again : (told : Option (List ℕ)) (i : ℕ) (held held_now : Option (Map (List ℕ))) → is_some held_now ≡ is_some held
      → IfSome told (λ t. IfSome held (λ a. IfSome held_now (λ b. Stands l t i a b))) → Lacked told i held held_now
  lacked_again None i held held_now tells stands = λ lacked. record { entry = i; below = omega arith; id = refl; lacked = tt }
  lacked_again (Some t) i None held_now tells stands = λ lacked. record { entry = i; below = omega arith; id = refl; lacked = tt }
  lacked_again (Some t) i (Some m) None tells stands = absurd (cc)
  lacked_again (Some t) i (Some m) (Some n) tells stands = λ lacked. elim (stands (id_of l i)) [
    | inl still ↦ record { entry = i; below = omega arith; id = refl; lacked = λ e. lacked (still ∙ e) }
    | inr s ↦ elim (is_held_or_not (m (id_of l i)) (slice_of l t s.entry)) [
      | inl held ↦ record { entry = i; below = omega arith; id = refl; lacked = λ e. lacked (s.slice ∙ sym held ∙ e) }
      | inr none ↦ record { entry = s.entry; below = omega (arith, s.below); id = s.id; lacked = λ e. none (ap m s.id ∙ e) }
    ]
  ]

  pub files_more : (told : Option (List ℕ)) (i : ℕ) (held held_now first now new : Option (Map (List ℕ))) → PutsLacked (id_of l i) (option_map (λ t. slice_of l t i) told) held_now now new
      → Lacked told i held held_now → PutsFiles l told held i first now → PutsFiles l told held (i + 1) first new
  files_more told i held held_now first now new (inl same) lacks all =
      subst (PutsFiles l told held (i + 1) first) (sym same) (files_later told held i (i + 1) first now (omega arith) all)
  files_more told i held held_now first now new (inr (lacked, others)) lacks all = record { tells = others.told ∙ all.tells; files = go first now new (others.told) all.files others.files } where
    was : WasLacked l told held (i + 1) (id_of l i)
    was = lacks lacked

    go : (a b c : Option (Map (List ℕ))) → is_some c ≡ is_some b → IfSome a (λ m. IfSome b (λ n. (q : List ℕ) → (n q ≡ m q) ⊎ IsPut l told held i q))
        → IfSome b (λ m. IfSome c (λ n. (q : List ℕ) → q ≢ path_of (id_of l i) → q ≢ temporary_of (path_of (id_of l i)) → n q ≡ m q))
        → IfSome a (λ m. IfSome c (λ n. (q : List ℕ) → (n q ≡ m q) ⊎ IsPut l told held (i + 1) q))
    go None b c e h k = tt
    go (Some m) b None e h k = tt
    go (Some m) None (Some n) e h k = absurd (cc)
    go (Some m) (Some o) (Some n) e h k = λ q. elim (equal_or_not q (path_of (id_of l i))) [
      | inl at_path ↦ inr (record { entry = was.entry; below = was.below; file = inl (at_path ∙ ap path_of was.id); lacked = was.lacked })
      | inr no_path ↦ elim (equal_or_not q (temporary_of (path_of (id_of l i)))) [
        | inl temporary ↦ inr (record { entry = was.entry; below = was.below; file = inr (temporary ∙ ap (λ (x : List ℕ). temporary_of (path_of x)) was.id); lacked = was.lacked })
        | inr other ↦ elim (h q) [
          | inl e ↦ inl (k q no_path other ∙ e)
          | inr put ↦ inr (put_later told held i (i + 1) q (omega arith) put)
        ]
      ]
    ]

  -- ---- how often each id was asked for

  pub asks_same : (k : ℕ) (first : List ℕ → ℕ) → AsksEach l k first first
  asks_same k first = record { no_less = λ q. omega arith; once = λ q. omega arith; listed = λ q. inl refl }

  pub asks_later : (i j : ℕ) (first now : List ℕ → ℕ) → i ≤ j → AsksEach l i first now → AsksEach l j first now
  asks_later i j first now le all = record {
    no_less = all.no_less;
    once = all.once;
    listed = λ q. elim (all.listed q) [ inl e ↦ inl e | inr s ↦ inr (listed_later i j q le s) ];
  }

  pub asks_more : (i : ℕ) (first now new : List ℕ → ℕ) → AskedOnce now new (id_of l i) → now (id_of l i) ≡ first (id_of l i) → AsksEach l i first now → AsksEach l (i + 1) first new
  asks_more i first now new once fresh all = record {
    no_less = λ q. elim (equal_or_not q (id_of l i)) [
      | inl same ↦ let here : first (id_of l i) ≤ new (id_of l i) = omega (arith, once.no_less, fresh) in subst (λ (x : List ℕ). first x ≤ new x) (sym same) here
      | inr other ↦ omega (arith, once.others q other, all.no_less q)
    ];
    once = λ q. elim (equal_or_not q (id_of l i)) [
      | inl same ↦ let here : new (id_of l i) ≤ first (id_of l i) + 1 = omega (arith, once.this, fresh) in subst (λ (x : List ℕ). new x ≤ first x + 1) (sym same) here
      | inr other ↦ omega (arith, once.others q other, all.once q)
    ];
    listed = λ q. elim (equal_or_not q (id_of l i)) [
      | inl same ↦ inr (record { entry = i; below = omega arith; id = same })
      | inr other ↦ elim (all.listed q) [
        | inl e ↦ inl (once.others q other ∙ e)
        | inr s ↦ inr (listed_later i (i + 1) q (omega arith) s)
      ]
    ];
  }

-- an id that isn't the chunk's holds what it held
pub others_hold : (kind : DigestKind) (id q : List ℕ) (told : Option (List ℕ)) (first now new : Option (Map (List ℕ))) → PutsRight kind id told now new → q ≢ id → HoldsStill q first now → HoldsStill q first new
others_hold kind id q told first now new (inl same) other still = subst (HoldsStill q first) (sym same) still
others_hold kind id q told first now new (inr (b, named, is, put)) other still = subst (HoldsStill q first) (sym put) (go first now still) where
  go : (a o : Option (Map (List ℕ))) → HoldsStill q a o → HoldsStill q a (option_map (λ m. at_name m id (Some b)) o)
  go None o h = tt
  go (Some m) None h = tt
  go (Some m) (Some n) h = other_name n id q (Some b) (λ e. other (sym e)) ∙ h

pub tells_on : (kind : DigestKind) (id : List ℕ) (told : Option (List ℕ)) (now new : Option (Map (List ℕ))) → PutsRight kind id told now new → is_some new ≡ is_some now
tells_on kind id told now new (inl same) = ap is_some same
tells_on kind id told now new (inr (b, named, is, put)) = ap is_some put ∙ go now where
  go : (o : Option (Map (List ℕ))) → is_some (option_map (λ m. at_name m id (Some b)) o) ≡ is_some o
  go None = refl
  go (Some m) = refl

pub holds_first : (q : List ℕ) (first : Option (Map (List ℕ))) → HoldsStill q first first
holds_first q None = tt
holds_first q (Some m) = refl
