-- Where no fault is counted, a connection is that of the cache and the stores.
use Rattle.std.proofs.Common.{◌≡◌, ℕ, ◌+◌, ◌<◌, ◌^◌, List, [], ◌∷◌, ◌++◌, map, Option, Some, None, refl, ap, subst, ◌∙◌, arith}
use Rattle.std.specs.Prelude.{IfSome}
use Rattle.chunk_proxy.specs.Answers.{given_by_cache, given_by_stores, proxy_after, sought}
use Rattle.chunk_proxy.specs.States.{ProxyFiles}
use Rattle.chunk_proxy.specs.Talks.{ProxyTalk, TalksExactly, ask_made, asks_made, one_where_none, proxy_answering, proxy_protocol}
use Rattle.chunk_server.specs.Requests.{Asked, closes_behind}
use Rattle.chunk_store.specs.declared.id.DigestKind.{DigestKind}
use Rattle.dsy_base.specs.Counts.{Quiet}
use Rattle.dsy_base.specs.Links.{Traffic}
use Rattle.dsy_base.specs.Maps.{Map}
use Rattle.http_serve.proofs.Exact.{exact}
use Rattle.http_serve.specs.Steps.{ServedState}
use Rattle.http_serve.specs.Turns.{Served, Takes, files_left, replies, turns_of}
use Rattle.http_wire.specs.declared.request.Act.{Act}
use Rattle.http_wire.specs.declared.request.Act.TheVariants as act

module _ (kind : DigestKind) (maps : List (Map (List ℕ))) where
  -- one request for a chunk
  sought_asks : (held other : Option (List ℕ)) (f : ProxyFiles) (id : List ℕ) → f.asks + one_where_none held < 2 ^ 64 → (sought held other f id).asks ≡ f.asks + one_where_none held
  sought_asks (Some b) other f id less = omega arith
  sought_asks None other f id less = grind (arith, less)

  step_asks : (f : ProxyFiles) (a : Act) → f.asks + ask_made kind f a < 2 ^ 64 → (proxy_after kind maps f a).asks ≡ f.asks + ask_made kind f a
  unfolding proxy_after
  step_asks f (act.Get id) less = sought_asks (given_by_cache kind f id.0) (given_by_stores kind maps id.0) f id.0 less
  step_asks f (act.Head id) less = sought_asks (given_by_cache kind f id.0) (given_by_stores kind maps id.0) f id.0 less
  step_asks f (act.Put id) less = omega arith
  step_asks f act.Lost less = omega arith
  step_asks f (act.Refuse status) less = omega arith

  asks_left : (f : ProxyFiles) (asked : List Asked) → f.asks + asks_made kind maps f asked < 2 ^ 64 → (files_left (proxy_answering kind maps) f asked).asks ≡ f.asks + asks_made kind maps f asked
  unfolding asks_made files_left
  asks_left f [] less = omega arith
  asks_left f (a ∷ more) less =
      let g : ProxyFiles = proxy_after kind maps f a.request.act in
      let one : g.asks ≡ f.asks + ask_made kind f a.request.act = step_asks f a.request.act (omega (arith, less)) in
      let rest : (files_left (proxy_answering kind maps) g more).asks ≡ g.asks + asks_made kind maps g more = asks_left g more (omega (arith, less, one)) in
      omega (arith, one, rest)

  talk_exact : (t u : Traffic) (old new : ServedState ProxyFiles) (files : ProxyFiles) → Served (proxy_protocol kind maps) t old u new → old.files ≡ Some files → Quiet old.faults new.faults
      → (sent : List ℕ) × (left : ProxyFiles) × ProxyTalk kind maps t.coming files sent left × (u.sent ≡ t.sent ++ sent) × (new.files ≡ Some left)
  talk_exact t u old new files served is quiet =
      let v = proxy_answering kind maps in
      let goes = served.1 in
      let asked = map (λ x. x.asked) goes.turns in
      let takes = subst (λ (o : Option ProxyFiles). IfSome o (λ _. Takes v old goes.turns new)) is goes.talks.takes in
      let so = exact v old new files goes.turns takes is quiet in (
        replies closes_behind (turns_of v files asked),
        files_left v files asked,
        record {
          asked = asked;
          rest = served.0;
          comes = goes.talks.comes;
          over = served.2;
          answers = refl;
          leaves = refl;
          asks = asks_left files asked;
        },
        goes.sent ∙ ap (λ ts. t.sent ++ replies closes_behind ts) so.0,
        so.1,
      )

  pub talks_so : (t u : Traffic) (old new : ServedState ProxyFiles) → Served (proxy_protocol kind maps) t old u new → Quiet old.faults new.faults → TalksExactly kind maps t old u new
  talks_so t u old new served quiet = go old.files refl where
    go : (o : Option ProxyFiles) → old.files ≡ o
        → IfSome o (λ files. (sent : List ℕ) × (left : ProxyFiles) × ProxyTalk kind maps t.coming files sent left × (u.sent ≡ t.sent ++ sent) × (new.files ≡ Some left))
    go None is = tt
    go (Some files) is = talk_exact t u old new files served is quiet

  -- the same of a connection that tells what comes
  pub closes_so : (old new : ServedState ProxyFiles) (o p : Option Traffic) → Quiet old.faults new.faults → IfSome o (λ t. IfSome p (λ u. Served (proxy_protocol kind maps) t old u new))
      → IfSome o (λ t. IfSome p (λ u. TalksExactly kind maps t old u new))
  closes_so old new None p quiet h = tt
  closes_so old new (Some t) None quiet h = tt
  closes_so old new (Some t) (Some u) quiet h = talks_so t u old new h quiet
