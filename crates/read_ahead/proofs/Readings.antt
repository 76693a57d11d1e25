-- Readers that have read on, place by place.
use Rattle.std.proofs.Common.{◌≡◌, ℕ, List, [], ◌∷◌, All, refl, sym, subst, ◌∙◌, arith}
use Rattle.std.specs.List.{AllZip}
use Rattle.std.proofs.lemmas.List.Elements.{All-cons, All-head, All-rest}
use Rattle.read_ahead.specs.ReadsOn.{ReadsOn}
use Rattle.read_ahead.specs.declared.reader.Reader.{Ghosts as ReaderWords}

all_nil : {X : Type 0} (P : X → Type 0) → All P []
all_nil P k d less = absurd (omega arith)

-- a first pair, and the others behind it
pub zip_cons : {X Y : Type 0} (R : X → Y → Type 0) (x : X) (y : Y) (xs : List X) (ys : List Y) (us : List X) (ws : List Y) → us ≡ x ∷ xs → ws ≡ y ∷ ys → R x y → AllZip R xs ys → AllZip R us ws
zip_cons R x y xs ys us ws us_is ws_is one rest =
    let pairs : AllZip R (x ∷ xs) (y ∷ ys) = (one, rest) in
    subst (λ ws. AllZip R us ws) (sym ws_is) (subst (λ us. AllZip R us (y ∷ ys)) (sym us_is) pairs)

module _ {A V : Type 0} (reader : ReaderWords V A) where
  -- one that can read has read nothing
  reads_none : (r : V) → reader.can_read r → ReadsOn reader r r
  reads_none r able = record { able = able; count = refl; same = λ a is. is; on = λ first was. was }

  reads_on : (q r s : V) → ReadsOn reader q r → ReadsOn reader r s → ReadsOn reader q s
  reads_on q r s one two = record {
    able = two.able;
    count = two.count ∙ one.count;
    same = λ a is. one.same a (two.same a is);
    on = λ first was. two.on first (one.on first was);
  }

  pub all_none : (rs : List V) → All reader.can_read rs → AllZip (ReadsOn reader) rs rs
  all_none [] able = tt
  all_none (r ∷ rs) able = (reads_none r (All-head reader.can_read r rs able), all_none rs (All-rest reader.can_read r rs _ refl able))

  pub all_on : (qs rs ss : List V) → AllZip (ReadsOn reader) qs rs → AllZip (ReadsOn reader) rs ss → AllZip (ReadsOn reader) qs ss
  all_on [] [] [] one two = tt
  all_on [] [] (s ∷ ss) one two = absurd two
  all_on [] (r ∷ rs) ss one two = absurd one
  all_on (q ∷ qs) [] ss one two = absurd one
  all_on (q ∷ qs) (r ∷ rs) [] one two = absurd two
  all_on (q ∷ qs) (r ∷ rs) (s ∷ ss) one two = (reads_on q r s one.0 two.0, all_on qs rs ss one.1 two.1)

  -- they can still read
  pub all_able : (rs ss : List V) → AllZip (ReadsOn reader) rs ss → All reader.can_read ss
  all_able [] [] on = all_nil reader.can_read
  all_able [] (s ∷ ss) on = absurd on
  all_able (r ∷ rs) [] on = absurd on
  all_able (r ∷ rs) (s ∷ ss) on = All-cons reader.can_read s ss (on.0).able (all_able rs ss on.1)

  -- there are as many items
  pub all_count : (n m : ℕ) (rs ss : List V) → m ≡ n → AllZip (ReadsOn reader) rs ss → All (λ r. reader.count r ≡ n) rs → All (λ r. reader.count r ≡ m) ss
  all_count n m [] [] is on all = all_nil _
  all_count n m [] (s ∷ ss) is on all = absurd on
  all_count n m (r ∷ rs) [] is on all = absurd on
  all_count n m (r ∷ rs) (s ∷ ss) is on all =
      All-cons (λ r. reader.count r ≡ m) s ss ((on.0).count ∙ All-head (λ r. reader.count r ≡ n) r rs all ∙ sym is) (all_count n m rs ss is on.1 (All-rest (λ r. reader.count r ≡ n) r rs _ refl all))

  -- they went on from where they began
  pub all_went : (firsts rs ss : List V) → AllZip (ReadsOn reader) rs ss → AllZip reader.went firsts rs → AllZip reader.went firsts ss
  all_went [] [] [] on was = tt
  all_went [] [] (s ∷ ss) on was = absurd on
  all_went [] (r ∷ rs) ss on was = absurd was
  all_went (f ∷ firsts) [] ss on was = absurd was
  all_went (f ∷ firsts) (r ∷ rs) [] on was = absurd on
  all_went (f ∷ firsts) (r ∷ rs) (s ∷ ss) on was = ((on.0).on f was.0, all_went firsts rs ss on.1 was.1)

  -- what they have read may be used, as what they would have read before
  pub all_accepted : (P Q : A → Type 0) (rs ss : List V) (rooms : List A) → ((a : A) → P a → Q a) → All (λ r. (a : A) → reader.is_right r a → P a) rs → AllZip (ReadsOn reader) rs ss → AllZip reader.is_right ss rooms → All Q rooms
  all_accepted P Q [] [] [] more trusted on right = all_nil Q
  all_accepted P Q [] [] (a ∷ rooms) more trusted on right = absurd right
  all_accepted P Q [] (s ∷ ss) rooms more trusted on right = absurd on
  all_accepted P Q (r ∷ rs) [] rooms more trusted on right = absurd on
  all_accepted P Q (r ∷ rs) (s ∷ ss) [] more trusted on right = absurd right
  all_accepted P Q (r ∷ rs) (s ∷ ss) (a ∷ rooms) more trusted on right =
      let T : V → Type 0 = λ r. (a : A) → reader.is_right r a → P a in
      All-cons Q a rooms (more a (All-head T r rs trusted a ((on.0).same a right.0))) (all_accepted P Q rs ss rooms more (All-rest T r rs _ refl trusted) on.1 right.1)
