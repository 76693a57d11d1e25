-- The steps of a cache before stores, where it is told what is held.
use Rattle.std.proofs.Common.{◌≡◌, ◌⊎◌, ℕ, List, Bool, true, false, Option, Some, None, Result, Ok, Err, OnErr, refl, sym, ap, subst, ◌∙◌, inl, arith}
use Rattle.std.specs.Prelude.{IfOk, IfSome}
use Rattle.std.specs.Option.{option_map}
use Rattle.chunk_proxy.specs.Answers.{AnswersThrough, LacksThrough, proxy_after, proxy_answer}
use Rattle.chunk_proxy.specs.States.{ProxyFiles, told_files}
use Rattle.chunk_server.specs.Answers.{Answer, bare}
use Rattle.chunk_server.specs.Shelves.{AreTemporariesApart}
use Rattle.chunk_store.specs.declared.id.ChunkId.{ChunkId}
use Rattle.chunk_store.specs.declared.id.DigestKind.{DigestKind}
use Rattle.dsy_base.specs.Maps.{Map}
use Rattle.http_wire.specs.declared.request.Act.{Act}
use Rattle.http_wire.specs.declared.request.Act.TheVariants as act

abbrev pub told : Map (List ℕ) → ℕ → ProxyFiles
told m asks = record { cache = m; asks = asks }

pub ok_more : {A E : Type 0} {P Q : A → Type 0} (r : Result A E) → ((x : A) → P x → Q x) → IfOk r P → IfOk r Q
ok_more (Ok x) f p = f x p
ok_more (Err e) f p = tt

pub err_more : {A E : Type 0} {P Q : Type 0} (r : Result A E) → (P → Q) → OnErr r P → OnErr r Q
err_more (Ok x) f p = tt
err_more (Err e) f p = f p

module _ (kind : DigestKind) (maps : List (Map (List ℕ))) (a : Act) where
  -- the answer and what is left are those of the cache's files
  pub record Went (r : Answer) (f : ProxyFiles) (left : Option (Map (List ℕ))) (count : ℕ) : Type 0 where
    pub answer : r ≡ proxy_answer kind maps f a
    pub cache : left ≡ Some (proxy_after kind maps f a).cache
    pub asks : count ≡ (proxy_after kind maps f a).asks

  -- what is left of the cache is alike
  pub record Stayed (f : ProxyFiles) (left : Option (Map (List ℕ))) : Type 0 where
    pub now : Map (List ℕ)
    pub is : left ≡ Some now
    pub alike : AreTemporariesApart f.cache now ⊎ AreTemporariesApart (proxy_after kind maps f a).cache now

  module _ (c d : Option (Map (List ℕ))) (x y : ℕ) where
    pub steps : (r : Answer) (sure : Bool) (o : Option (Map (List ℕ))) → o ≡ c → (sure ≡ true → (m : Map (List ℕ)) → c ≡ Some m → Went r (told m x) d y)
        → IfSome (told_files sure o x) (λ _. AnswersThrough kind maps (record { files = told_files sure o x; faults = 0 }) a r (record { files = told_files sure d y; faults = 0 }))
    steps r false o same f = tt
    steps r true None same f = tt
    steps r true (Some m) same f =
        let h = f refl m (sym same) in
        let g = proxy_after kind maps (told m x) a in
        inl (record {
          answer = h.answer;
          files = ap (option_map (λ n. told n y)) h.cache ∙ ap (λ n. Some (told g.cache n)) h.asks;
          faults = omega arith;
        })

    pub lingers : (sure : Bool) (o : Option (Map (List ℕ))) → o ≡ c → (sure ≡ true → (m : Map (List ℕ)) → c ≡ Some m → Stayed (told m x) d)
        → IfSome (told_files sure o x) (λ _. LacksThrough kind maps (record { files = told_files sure o x; faults = 0 }) a (record { files = told_files sure d y; faults = 0 }))
    lingers false o same f = tt
    lingers true None same f = tt
    lingers true (Some m) same f =
        let h = f refl m (sym same) in
        subst (λ (e : Option (Map (List ℕ))). LacksThrough kind maps (record { files = Some (told m x); faults = 0 }) a (record { files = told_files true e y; faults = 0 })) (sym h.is)
        (record { files = h.alike; unfailed = refl })

    -- a request that changes nothing
    pub stands : (r : Answer) (sure : Bool) (o : Option (Map (List ℕ))) → o ≡ c → d ≡ c → y ≡ x → ((f : ProxyFiles) → proxy_answer kind maps f a ≡ r) → ((f : ProxyFiles) → proxy_after kind maps f a ≡ f)
        → IfSome (told_files sure o x) (λ _. AnswersThrough kind maps (record { files = told_files sure o x; faults = 0 }) a r (record { files = told_files sure d y; faults = 0 }))
    stands r sure o same kept calls says leaves = steps r sure o same (λ t m is. record {
      answer = sym (says (told m x));
      cache = kept ∙ is ∙ ap (λ (f : ProxyFiles). Some f.cache) (sym (leaves (told m x)));
      asks = calls ∙ ap (λ (f : ProxyFiles). f.asks) (sym (leaves (told m x)));
    })

module _ (kind : DigestKind) (maps : List (Map (List ℕ))) where
  pub put_stands : (id : ChunkId) (c : Option (Map (List ℕ))) (x : ℕ) (sure : Bool) (r : Answer) → r ≡ bare 404
      → IfSome (told_files sure c x) (λ _. AnswersThrough kind maps (record { files = told_files sure c x; faults = 0 }) (act.Put id) r (record { files = told_files sure c x; faults = 0 }))
  unfolding proxy_answer proxy_after
  put_stands id c x sure r is = stands kind maps (act.Put id) c c x x r sure c refl refl refl (λ f. sym is) (λ f. refl)

  pub lost_stands : (c : Option (Map (List ℕ))) (x : ℕ) (sure : Bool) (r : Answer) → r ≡ bare 404
      → IfSome (told_files sure c x) (λ _. AnswersThrough kind maps (record { files = told_files sure c x; faults = 0 }) act.Lost r (record { files = told_files sure c x; faults = 0 }))
  unfolding proxy_answer proxy_after
  lost_stands c x sure r is = stands kind maps act.Lost c c x x r sure c refl refl refl (λ f. sym is) (λ f. refl)

  refused_stands : (status : ℕ) (c : Option (Map (List ℕ))) (x : ℕ) (sure : Bool) (r : Answer) → r ≡ bare status
      → IfSome (told_files sure c x) (λ _. AnswersThrough kind maps (record { files = told_files sure c x; faults = 0 }) (act.Refuse status) r (record { files = told_files sure c x; faults = 0 }))
  unfolding proxy_answer proxy_after
  refused_stands status c x sure r is = stands kind maps (act.Refuse status) c c x x r sure c refl refl refl (λ f. sym is) (λ f. refl)

  pub refuse_stands : (a : Act) (status : ℕ) (c : Option (Map (List ℕ))) (x : ℕ) (sure : Bool) (r : Answer) → a ≡ act.Refuse status → r ≡ bare status
      → IfSome (told_files sure c x) (λ _. AnswersThrough kind maps (record { files = told_files sure c x; faults = 0 }) a r (record { files = told_files sure c x; faults = 0 }))
  refuse_stands a status c x sure r is reply =
      subst (λ (b : Act). IfSome (told_files sure c x) (λ _. AnswersThrough kind maps (record { files = told_files sure c x; faults = 0 }) b r (record { files = told_files sure c x; faults = 0 }))) (sym is) (refused_stands status c x sure r reply)
