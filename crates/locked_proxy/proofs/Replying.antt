-- What is replied, by what the cache gave, or else the stores.
use Rattle.std.proofs.Common.{◌≡◌, ◌≢◌, ℕ, List, [], Bool, Option, Some, None, IfSome, IfOk, IsSome, Result, Ok, Err, refl, sym, ap, subst, ◌∙◌, inl, inr, arith}
use Rattle.std.proofs.lemmas.Bool.{true≢false}
use Rattle.chunk_proxy.specs.Answers.{IsProxyAnswer, given_by_stores}
use Rattle.chunk_proxy.specs.Obtaining.{IsRightChunk, AnswersRefusal}
use Rattle.chunk_server.specs.Answers.{Answer, bare, chunk_held}
use Rattle.chunk_server.specs.Reads.{answer_by, asked_by}
use Rattle.chunk_server.specs.Shelves.{IsAnswer, IsBare}
use Rattle.chunk_server.specs.declared.chunk_file.ReadMethod.{ReadMethod}
use Rattle.chunk_server.specs.declared.chunk_file.ReadMethod.TheVariants as method
use Rattle.chunk_store.specs.Folders.{chunks}
use Rattle.chunk_store.specs.declared.id.ChunkId.{ChunkId}
use Rattle.chunk_store.specs.declared.id.DigestKind.{DigestKind}
use Rattle.dsy_base.specs.Maps.{Map}
use Rattle.dsy_base.specs.declared.fault.Memory.{Memory}
use Rattle.http_serve.specs.Answers.{answer_in}
use Rattle.http_serve.specs.declared.service.Reply.{Reply}
use Rattle.locked_proxy.proofs.Chained.{some_so}
use Rattle.locked_proxy.specs.Chains.{Withholds}
use Rattle.locked_proxy.specs.Replies.{GivesWhere, MayProxy, Supplies}
use Rattle.locked_shelf.specs.Replies.{IsGivenOrFailed, MayReply, RepliesOver}
use Rattle.store_chain.specs.declared.refused.Refused.{Refused}
use Rattle.store_chain.specs.declared.refused.Refused.TheVariants as refused

none_some : (o : Option (List ℕ)) → o ≡ None → IsSome o → ⊥
none_some None e some = absurd (true≢false (sym some))
none_some (Some x) e some = absurd (cc)

-- no bare reply has status 200
not_bare : (r : Answer) → r.status ≡ 200 → IsBare r → ⊥
not_bare r is (inl e) = absurd (omega (arith, is, ap (λ (a : Answer). a.status) e))
not_bare r is (inr (inl e)) = absurd (omega (arith, is, ap (λ (a : Answer). a.status) e))
not_bare r is (inr (inr e)) = absurd (omega (arith, is, ap (λ (a : Answer). a.status) e))

module _ (kind : DigestKind) (id : ChunkId) where
  -- a reply that is 200 gives whatever is asked for
  gives_all : (given : List ℕ → Option (List ℕ)) (m : ReadMethod) (r : Answer) → r.status ≡ 200 → GivesWhere given (asked_by m id) r
  gives_all given method.Get r is = λ some. is
  gives_all given method.Head r is = λ some. is

  only_found : (m : ReadMethod) (r : Answer) → r.status ≡ 200 → IsAnswer kind (asked_by m id) r → IsProxyAnswer kind (asked_by m id) r
  only_found method.Get r is (inl h) = inl h
  only_found method.Get r is (inr h) = absurd (not_bare r is h)
  only_found method.Head r is (inl h) = inl h
  only_found method.Head r is (inr h) = absurd (not_bare r is h)

  module _ (opening : Option (Map (List ℕ))) (maps : Option (List (Map (List ℕ)))) (cache_sure stores_sure : Bool) (m : ReadMethod) where
    -- the cache gave it
    pub may_found : (r : Answer) → r.status ≡ 200 → IsAnswer kind (asked_by m id) r → MayProxy kind opening maps cache_sure stores_sure (asked_by m id) r
    may_found r is only = record {
      only = only_found m r is only;
      cached = λ sure. all_some opening (λ first. gives_all (λ i. chunk_held kind i (chunks first i)) m r is);
      stored = λ sure. all_some maps (λ ms. gives_all (given_by_stores kind ms) m r is);
      sure = λ sure e. absurd (omega (arith, is, e));
    }
      where
        all_some : {X : Type 0} {P : X → Type 0} (o : Option X) → ((x : X) → P x) → IfSome o P
        all_some None f = tt
        all_some (Some x) f = f x

    -- the first files don't give what the cache didn't
    not_cached : (q : ReadMethod) (first : Map (List ℕ)) (body : List ℕ) (found r : Answer) → (found.status ≡ 200 → ⊥) → (found.status ≡ 500 → ⊥) → RepliesOver kind first (asked_by q id) body found
        → GivesWhere (λ i. chunk_held kind i (chunks first i)) (asked_by q id) r
    not_cached method.Get first body found r not sure over = λ some. neither (over some) where
      neither : IsGivenOrFailed found → r.status ≡ 200
      neither (inl e) = absurd (not e)
      neither (inr e) = absurd (sure e)
    not_cached method.Head first body found r not sure over = λ some. neither (over some) where
      neither : IsGivenOrFailed found → r.status ≡ 200
      neither (inl e) = absurd (not e)
      neither (inr e) = absurd (sure e)

    stored_by : (q : ReadMethod) (ms : List (Map (List ℕ))) (r : Answer) → (IsSome (given_by_stores kind ms id.0) → r.status ≡ 200) → GivesWhere (given_by_stores kind ms) (asked_by q id) r
    stored_by method.Get ms r h = h
    stored_by method.Head ms r h = h

    -- the stores were asked
    pub may_supplied : (found r : Answer) (body : List ℕ) → (found.status ≡ 200 → ⊥) → MayReply kind opening cache_sure (asked_by m id) body found → Supplies kind maps stores_sure m id r
        → MayProxy kind opening maps cache_sure stores_sure (asked_by m id) r
    may_supplied found r body not may h = record {
      only = h.only;
      cached = λ sure. both opening may.over (may.sure sure);
      stored = λ sure. some_so maps (λ ms. IsSome (given_by_stores kind ms id.0) → r.status ≡ 200) (λ ms. GivesWhere (given_by_stores kind ms) (asked_by m id) r) (λ ms g. stored_by m ms r g) (h.given sure);
      sure = h.sure;
    }
      where
        both : (o : Option (Map (List ℕ))) → IfSome o (λ first. RepliesOver kind first (asked_by m id) body found) → IfSome o (λ first. found.status ≢ 500)
            → IfSome o (λ first. GivesWhere (λ i. chunk_held kind i (chunks first i)) (asked_by m id) r)
        both None over never = tt
        both (Some first) over never = not_cached m first body found r not never over

  module _ (maps : Option (List (Map (List ℕ)))) (stores_sure : Bool) where
    only_right : (m : ReadMethod) (b : List ℕ) → IsRightChunk kind id.0 b → IsProxyAnswer kind (asked_by m id) (answer_by m (Some b))
    only_right method.Get b right = inl (record { status = refl; named = right.named; size = refl })
    only_right method.Head b right = inl (record { status = refl; body = refl })

    is_200 : (m : ReadMethod) (b : List ℕ) → (answer_by m (Some b)).status ≡ 200
    is_200 method.Get b = refl
    is_200 method.Head b = refl

    -- the stores gave this chunk
    pub supplies_chunk : (m : ReadMethod) (b : List ℕ) (r : Answer) → IsRightChunk kind id.0 b → r ≡ answer_by m (Some b) → Supplies kind maps stores_sure m id r
    supplies_chunk m b r right is =
        let ok : r.status ≡ 200 = ap (λ (a : Answer). a.status) is ∙ is_200 m b in
        record {
          only = subst (IsProxyAnswer kind (asked_by m id)) (sym is) (only_right m b right);
          given = λ sure. all_some maps (λ ms some. ok);
          sure = λ sure e. absurd (omega (arith, ok, e));
        }
      where
        all_some : {X : Type 0} {P : X → Type 0} (o : Option X) → ((x : X) → P x) → IfSome o P
        all_some None f = tt
        all_some (Some x) f = f x

    only_404 : (m : ReadMethod) (r : Answer) → r ≡ bare 404 → IsProxyAnswer kind (asked_by m id) r
    only_404 method.Get r is = inr (inl is)
    only_404 method.Head r is = inr (inl is)

    only_500 : (m : ReadMethod) (r : Answer) → r ≡ bare 500 → IsProxyAnswer kind (asked_by m id) r
    only_500 method.Get r is = inr (inr is)
    only_500 method.Head r is = inr (inr is)

    lacking : (m : ReadMethod) (r : Answer) → r ≡ bare 404 → IfSome maps (λ ms. given_by_stores kind ms id.0 ≡ None) → Supplies kind maps stores_sure m id r
    lacking m r is none = record {
      only = only_404 m r is;
      given = λ sure. some_so maps (λ ms. given_by_stores kind ms id.0 ≡ None) (λ ms. IsSome (given_by_stores kind ms id.0) → r.status ≡ 200) (λ ms e some. absurd (none_some (given_by_stores kind ms id.0) e some)) none;
      sure = λ sure e. absurd (omega (arith, ap (λ (a : Answer). a.status) is, e));
    }

    -- the stores refused
    pub supplies_none : (m : ReadMethod) (x : Refused) (r : Answer) → Withholds kind maps stores_sure id.0 x → AnswersRefusal x r → Supplies kind maps stores_sure m id r
    supplies_none m refused.Missing r none is = lacking m r is none
    supplies_none m (refused.Damaged s x) r none is = lacking m r is none
    supplies_none m (refused.StoreFault s) r never is = record {
      only = only_500 m r is;
      given = λ sure. absurd (never sure);
      sure = λ sure. absurd (never sure);
    }
    supplies_none m refused.Memory r none is = absurd is

-- the same of what the door replies
pub may_after : (kind : DigestKind) (id : ChunkId) (opening : Option (Map (List ℕ))) (maps : Option (List (Map (List ℕ)))) (cache_sure stores_sure : Bool) (m : ReadMethod) (found : Reply) (res : Result Reply Memory)
    → (found.status ≡ 200 → ⊥) → ((body : List ℕ) → MayReply kind opening cache_sure (asked_by m id) body (answer_in found)) → IfOk res (λ r. Supplies kind maps stores_sure m id (answer_in r))
    → IfOk res (λ r. MayProxy kind opening maps cache_sure stores_sure (asked_by m id) (answer_in r))
may_after kind id opening maps cache_sure stores_sure m found (Err e) not may ok = tt
may_after kind id opening maps cache_sure stores_sure m found (Ok r) not may ok = may_supplied kind id opening maps cache_sure stores_sure m (answer_in found) (answer_in r) [] not (may []) ok
