-- What servers answer and leave where nothing fails.
use Rattle.std.proofs.Common.{ap, arith, suc, true, false, ◌≡◌, ◌==◌, ◌∙◌, ℕ, ◌≤◌, Bool, List, [], ◌∷◌, ◌++◌, map, Option, Some, None, IfSome, IsTrue, refl, subst, sym, inl, inr, Result, Ok, Err}
use Rattle.std.proofs.lemmas.List.{append-nil}
use Rattle.std.proofs.lemmas.Option.{same_Some}
use Rattle.std.specs.List.{All}
use Rattle.std.specs.Map.{count_at}
use Rattle.std.specs.Option.{option_map}
use Rattle.chunk_store.specs.declared.id.DigestKind.{DigestKind}
use Rattle.command_outcome.specs.declared.outcome.Outcome.{Outcome}
use Rattle.command_outcome.specs.declared.outcome.Outcome.TheVariants as ends
use Rattle.command_steps.proofs.Numbers.{given_quiet, rose_not_quiet}
use Rattle.command_groups.specs.Groups.{stores_of}
use Rattle.command_steps.specs.Cache.{CacheOpened}
use Rattle.command_steps.specs.Sources.{OnStorage, SourcesOpened}
use Rattle.command_steps.specs.Stores.{StoreTaken, are_folders}
use Rattle.command_words.specs.declared.command.Location.{Location}
use Rattle.command_worlds.specs.Steps.{◌>>=◌, outcome_of}
use Rattle.command_worlds.specs.Worlds.{OnDisk, Step, World}
use Rattle.desync_cli.proofs.ExactFolders.{given_back, taken_from}
use Rattle.desync_cli.proofs.Readings.{EndsSo, IsAt, IsQuiet, at_first, cache_so, stores_so, taken_so}
use Rattle.desync_cli.specs.Contents.{Contents, Ending, HasContents, folder_at, folders_at}
use Rattle.desync_cli.specs.Exact.{Answers, AreRepliedTo, ChunksAnswered, IsAnsweredInTurn, IsRepliedTo}
use Rattle.dsy_base.specs.Counts.{Quiet, Rose}
use Rattle.dsy_base.specs.Disk.{Disk}
use Rattle.dsy_base.specs.Links.{LinkState, Traffic}
use Rattle.dsy_base.specs.Maps.{Map, at_name}
use Rattle.http_serve.proofs.Exact.{exact}
use Rattle.http_serve.specs.Protocols.{Answering, Protocol, Turn}
use Rattle.http_serve.specs.Steps.{AreBothAlike, ServedState, Steps}
use Rattle.http_serve.specs.Turns.{Served, Takes, files_left, replies}
use Rattle.index_server.specs.Talks.{index_protocol}
use Rattle.locked_shelf.specs.Keepings.{KeepsOpening}
use Rattle.proxy_command.specs.ProxyServing.{LookTypes, OrUnheard, ProxyServed, ProxyServerEnds}
use Rattle.server_commands.specs.ChunkServing.{ChunkServerEnds, ServesChunks, ServesChunksShort, chunk_protocol}
use Rattle.server_commands.specs.IndexServing.{IndexServerEnds}
use Rattle.server_commands.specs.Serving.{AreServed, FolderServed, FolderServing, Heard, IsServed, ServedBack, ServesInTurn, ServesInTurnShort, TakenUnheard, TakesFront, fresh}

-- ---- one connection

-- what tells goes on to tell, and no count falls
step_keeps : {R M : Type 0} (v : Answering R M) (old new : ServedState M) (t : Turn R) (f : M) → old.files ≡ Some f → Steps v old t.asked.request t.asked.body t.answer new → ((g : M) × (new.files ≡ Some g)) × (old.faults ≤ new.faults)
step_keeps v old new t f is (inl served) = ((v.files_after f t.asked.request t.asked.body, served.files ∙ ap (option_map (λ m. v.files_after m t.asked.request t.asked.body)) is), served.faults)
step_keeps {R} {M} v old new t f is (inr failed) = (go new.files refl (subst (λ o. AreBothAlike v.alike o new.files) is failed.files), failed.faults) where
  go : (o : Option M) → new.files ≡ o → AreBothAlike v.alike (Some f) new.files → (g : M) × (new.files ≡ Some g)
  go None none alike = absurd (subst (λ o. AreBothAlike v.alike (Some f) o) none alike)
  go (Some g) some alike = (g, some)

turns_keep : {R M : Type 0} (v : Answering R M) (old : ServedState M) (ts : List (Turn R)) (new : ServedState M) (f : M) → old.files ≡ Some f → Takes v old ts new → ((g : M) × (new.files ≡ Some g)) × (old.faults ≤ new.faults)
unfolding Takes
turns_keep v old [] new f is h = ((f, ap (λ s. s.files) h ∙ is), let same = ap (λ s. s.faults) h in omega (arith, same))
turns_keep v old (t ∷ ts) new f is (next, step, rest) =
    let one = step_keeps v old next t f is step in
    let more = turns_keep v next ts new one.0.0 one.0.1 rest in
    (more.0, let a = one.1 in let b = more.1 in omega (arith, a, b))

module _ {R : Type 0} (p : Protocol R (Map (List ℕ))) where
  abbrev State : Type 0
  State = ServedState (Map (List ℕ))

  -- one on which no call failed
  served_whole : (t : Traffic) (u : LinkState) (old next : State) → u.faults ≡ 0 → IsServed p t old u next → (ended : Traffic) × (u.traffic ≡ Some ended) × (t.sent ≡ []) × Served p t old ended next
  served_whole t u old next none h = (
    h.ended,
    h.told,
    h.unsent,
    elim h.how [
      | inl served ↦ served
      | inr cut ↦ absurd (elim (subst (λ (n : ℕ). Rose 0 n) none cut.0) [ inl more ↦ omega (arith, more) | inr full ↦ omega (arith, full) ])
    ],
  )

  connection_keeps : (t : Traffic) (u : LinkState) (old next : State) (f : Map (List ℕ)) → old.files ≡ Some f → u.faults ≡ 0 → IsServed p t old u next → ((g : Map (List ℕ)) × (next.files ≡ Some g)) × (old.faults ≤ next.faults)
  connection_keeps t u old next f is none h =
      let s = served_whole t u old next none h in
      let talks = s.3.1.talks in
      turns_keep p.answering old s.3.1.turns next f is (subst (λ o. IfSome o (λ _. Takes p.answering old s.3.1.turns next)) is talks.takes)

  answered_one : (t : Traffic) (u : LinkState) (old next : State) (f : Map (List ℕ)) → old.files ≡ Some f → u.faults ≡ 0 → next.faults ≤ 0 → IsServed p t old u next → (g : Map (List ℕ)) × (next.files ≡ Some g) × IsRepliedTo p t u f g
  answered_one t u old next f is none few h =
      let s = served_whole t u old next none h in
      let ts = s.3.1.turns in
      let takes : Takes p.answering old ts next = subst (λ o. IfSome o (λ _. Takes p.answering old ts next)) is s.3.1.talks.takes in
      let so = exact p.answering old next f ts takes is (record { same = omega (arith, few); below = omega (arith, few) }) in (
        files_left p.answering f (map (λ t. t.asked) ts),
        so.1,
        record {
          asked = map (λ t. t.asked) ts;
          left = s.3.0;
          requests = s.3.1.talks.comes;
          over = s.3.2;
          ended = s.0;
          told = s.1;
          sent = s.3.1.sent ∙ ap (λ b. b ++ replies p.reading.closes ts) s.2 ∙ ap (replies p.reading.closes) so.0;
          files = refl;
        },
      )

  -- ---- and all of them

  all_keep : (came : List Traffic) (gone : List LinkState) (old new : State) (f : Map (List ℕ)) → old.files ≡ Some f → All (λ u. u.faults ≡ 0) gone → AreServed p came old gone new → old.faults ≤ new.faults
  unfolding AreServed
  all_keep [] [] old new f is none h = let same = ap (λ s. s.faults) h in omega (arith, same)
  all_keep [] (u ∷ gone) old new f is none h = absurd h
  all_keep (t ∷ came) [] old new f is none h = absurd h
  all_keep (t ∷ came) (u ∷ gone) old new f is none (next, one, rest) =
      let first = connection_keeps t u old next f is (none 0 u (omega arith)) one in
      let more = all_keep came gone next new first.0.0 first.0.1 (λ j d lt. none (suc j) d (omega (arith, lt))) rest in
      let a = first.1 in omega (arith, a, more)

  all_answered : (came : List Traffic) (gone : List LinkState) (old new : State) (f : Map (List ℕ)) → old.files ≡ Some f → All (λ u. u.faults ≡ 0) gone → new.faults ≤ 0 → AreServed p came old gone new → (g : Map (List ℕ)) × (new.files ≡ Some g) × AreRepliedTo p came gone f g
  unfolding AreServed
  all_answered [] [] old new f is none few h = (f, ap (λ s. s.files) h ∙ is, refl)
  all_answered [] (u ∷ gone) old new f is none few h = absurd h
  all_answered (t ∷ came) [] old new f is none few h = absurd h
  all_answered (t ∷ came) (u ∷ gone) old new f is none few (next, one, rest) =
      let first = connection_keeps t u old next f is (none 0 u (omega arith)) one in
      let later : All (λ u. u.faults ≡ 0) gone = λ j d lt. none (suc j) d (omega (arith, lt)) in
      let climbs = all_keep came gone next new first.0.0 first.0.1 later rest in
      let here = answered_one t u old next f is (none 0 u (omega arith)) (omega (arith, climbs, few)) one in
      let more = all_answered came gone next new here.0 here.1 later few rest in
      (more.0, more.1, (here.0, here.2, more.2))

-- ---- the commands

module _ (x : Contents) (w v : World) (quiet : IsQuiet w v) (h : Heard) (heard : Quiet h.old.faults h.new.faults) where
  module _ (q : List ℕ) (f : Map (List ℕ)) (u : World) (at : IsAt (taken_from x q) w u) where
    -- the files that serving in turn left
    in_turn_so : {R : Type 0} (p : Protocol R (Map (List ℕ))) → h.new.coming ≡ Some [] → (s : ServedBack q (Some f) (ServesInTurn p h) u.disk v.disk) → IsAnsweredInTurn p h f s.left.files
    in_turn_so p over s = go h.old.coming h.old.ended s.serving where
      none : s.left.faults ≤ 0
      none = (given_quiet (count_at w.disk.folder_counts q) (count_at u.disk.folder_counts q) (count_at v.disk.folder_counts q) s.left.faults (at.folders q) s.counted (quiet.disk.folders q)).same

      go : (c : Option (List Traffic)) (e : Option (List LinkState)) → IfSome c (λ queue. IfSome e (λ done. TakesFront p queue done h.new (fresh (Some f)) s.left))
          → IfSome c (λ came. IfSome e (λ done. (gone : List LinkState) × (h.new.ended ≡ Some (done ++ gone)) × (All (λ u. u.faults ≡ 0) gone → (now : Map (List ℕ)) × (s.left.files ≡ Some now) × AreRepliedTo p came gone f now)))
      go None e t = tt
      go (Some came) None t = tt
      go (Some came) (Some done) t =
          let rest : t.rest ≡ [] = same_Some _ _ (sym t.coming ∙ over) in
          let all : t.came ≡ came = sym (t.were ∙ ap (λ r. t.came ++ r) rest ∙ append-nil t.came) in
          (t.gone, t.ended, λ unfailed. all_answered p came t.gone (fresh (Some f)) s.left f refl unfailed none (subst (λ c. AreServed p c (fresh (Some f)) t.gone s.left) all t.served))

    chunks_so : (kind : DigestKind) (in_turn writable : Bool) → h.new.coming ≡ Some [] → (s : ServedBack q (Some f) (ServesChunks kind in_turn h writable) u.disk v.disk) → ChunksAnswered kind in_turn h writable f s.left.files
    chunks_so kind false writable over s = s.serving.kept
    chunks_so kind true writable over s = in_turn_so (chunk_protocol kind writable) over s

    -- what each way of serving answers that leaves files so
    served_so : (served short : FolderServing) (answered : Map (List ℕ) → Option (Map (List ℕ)) → Type 0) → (h.new.coming ≡ Some [] → (s : ServedBack q (Some f) served u.disk v.disk) → answered f s.left.files)
        → (r : Result Unit Outcome) → OnDisk (FolderServed h q (Some f) served short) u r v → EndsSo x v (Answers answered q f) (outcome_of r)
    served_so served short answered leaves (Ok _) s =
        let g = s.0.0.1.left.files in
        let y : Contents = record x { folders = at_name x.folders q g } in
        inr (
          y,
          record {
            files = s.0.1.files ∙ at.has.files;
            folders = given_back x q u.disk.folders v.disk.folders g at.has.folders s.0.0.1.back;
            printed = ap (λ o. o.taken) s.2 ∙ at.has.printed;
          },
          (refl, g, refl, leaves s.0.0.0 s.0.0.1),
        )
    served_so served short answered leaves (Err ends.ListenFault) s = absurd (rose_not_quiet h.old.faults h.old.faults h.new.faults (omega arith) s.0.0.0 heard)
    served_so served short answered leaves (Err ends.Memory) s = inl refl
    served_so served short answered leaves (Err other) s = absurd s.0.0

  -- nobody is heard where the folder isn't reached
  taken_unheard : (q : List ℕ) (then : Option (Map (List ℕ)) → Step World Unit) (u : World) (r : Result Unit Outcome) → (OnDisk (TakenUnheard h q) >>= then) u r v → (OnDisk (StoreTaken [] q) >>= then) u r v
  taken_unheard q then u (Ok t) s = record { disk = s.disk; dial = s.dial; out = s.out; gave = s.gave; did = s.did; then = s.then }
  taken_unheard q then u (Err o) (inl s) = inl (s.0.0, s.1, s.2)
  taken_unheard q then u (Err o) (inr s) = inr (record { disk = s.disk; dial = s.dial; out = s.out; gave = s.gave; did = s.did; then = s.then })

  pub chunk_server_so : (kind : DigestKind) (store : List ℕ) (writable : Bool) (workers : ℕ) → HasContents w x → (r : Result Unit Outcome) → ChunkServerEnds kind h store writable workers w r v
      → EndsSo x v (folder_at store (Answers (ChunksAnswered kind (workers == 1) h writable) store)) (outcome_of r)
  chunk_server_so kind store writable workers has r s =
      let in_turn = workers == 1 in
      let serving : Option (Map (List ℕ)) → Step World Unit = λ held. OnDisk (FolderServed h store held (ServesChunks kind in_turn h writable) (ServesChunksShort kind in_turn h writable)) in
      taken_so x w v quiet [] store (Answers (ChunksAnswered kind in_turn h writable) store) serving
      (λ f u there after. served_so store f u after (ServesChunks kind in_turn h writable) (ServesChunksShort kind in_turn h writable) (ChunksAnswered kind in_turn h writable) (chunks_so store f u after kind in_turn writable)) w (at_first x w has) r
      (taken_unheard store serving w r s)

  -- the cache's folder is left so
  proxied_so : (looks : LookTypes) (groups : List (List Location)) (e : ℕ) (q : List ℕ) (kind : DigestKind) (in_turn : Bool) (f : Map (List ℕ)) (u : World) → IsAt x w u → x.folders q ≡ Some f → (r : Result Unit Outcome) → OnStorage (ProxyServed looks h groups e q kind in_turn) u r v
      → EndsSo x v (Answers (KeepsOpening kind) q f) (outcome_of r)
  proxied_so looks groups e q kind in_turn f u at there (Ok _) s =
      let p = s.0 in
      let g = p.left.files in
      let were : x.folders q ≡ p.held = subst (λ o. IfSome o (λ m. m q ≡ p.held)) at.has.folders p.was in
      let kept : KeepsOpening kind f g = subst (λ o. IfSome o (λ first. KeepsOpening kind first g)) (sym were ∙ there) p.kept in
      let y : Contents = record x { folders = at_name x.folders q g } in
      inr (
        y,
        record {
          files = p.adds.files ∙ at.has.files;
          folders = p.back ∙ ap (option_map (λ m. at_name m q g)) at.has.folders;
          printed = ap (λ o. o.taken) s.1 ∙ at.has.printed;
        },
        (refl, g, refl, kept),
      )
  proxied_so looks groups e q kind in_turn f u at there (Err ends.ListenFault) s = absurd (rose_not_quiet h.old.faults h.old.faults h.new.faults (omega arith) s.0.serving.served.0 heard)
  proxied_so looks groups e q kind in_turn f u at there (Err ends.Memory) s = inl refl
  proxied_so looks groups e q kind in_turn f u at there (Err other) s = absurd s.0.serving.served

  -- nobody is heard where a step before refuses
  or_heard : (step : Step Disk Unit) (then : Unit {0} → Step World Unit) (u : World) (r : Result Unit Outcome) → (OnDisk (OrUnheard h step) >>= then) u r v → (OnDisk step >>= then) u r v
  or_heard step then u (Ok t) s = record { disk = s.disk; dial = s.dial; out = s.out; gave = s.gave; did = s.did; then = s.then }
  or_heard step then u (Err o) (inl s) = inl (s.0.0, s.1, s.2)
  or_heard step then u (Err o) (inr s) = inr (record { disk = s.disk; dial = s.dial; out = s.out; gave = s.gave; did = s.did; then = s.then })

  pub proxy_server_so : (looks : LookTypes) (groups : List (List Location)) (retries : ℕ) (cache : List ℕ) (kind : DigestKind) (workers : ℕ) → IsTrue (are_folders (stores_of groups)) → HasContents w x → (r : Result Unit Outcome) → ProxyServerEnds looks h groups retries cache kind workers w r v
      → EndsSo x v (folders_at (stores_of groups) (λ fs. folder_at cache (Answers (KeepsOpening kind) cache))) (outcome_of r)
  proxy_server_so looks groups retries cache kind workers all has r s =
      let stores = stores_of groups in
      let end : Ending = folder_at cache (Answers (KeepsOpening kind) cache) in
      let serving : Unit {0} → Step World Unit = λ u. OnStorage (ProxyServed looks h groups retries cache kind (workers == 1)) in
      let rest : Unit {0} → Step World Unit = λ u. OnDisk (OrUnheard h (CacheOpened stores (Some cache))) >>= serving in
      stores_so x w v quiet stores all (λ fs. end) rest
      (λ fs e at are r t. cache_so x w v quiet stores cache (Answers (KeepsOpening kind) cache) serving (λ f u there is. proxied_so looks groups retries cache kind (workers == 1) f u there is) e at r (or_heard (CacheOpened stores (Some cache)) serving e r t))
      w (at_first x w has) r (or_heard (SourcesOpened stores) rest w r s)

  pub index_server_so : (folder : List ℕ) (writable : Bool) → HasContents w x → (r : Result Unit Outcome) → IndexServerEnds h folder writable w r v → EndsSo x v (folder_at folder (Answers (IsAnsweredInTurn (index_protocol writable) h) folder)) (outcome_of r)
  index_server_so folder writable has r s =
      let p = index_protocol writable in
      let serving : Option (Map (List ℕ)) → Step World Unit = λ held. OnDisk (FolderServed h folder held (ServesInTurn p h) (ServesInTurnShort p h)) in
      taken_so x w v quiet [] folder (Answers (IsAnsweredInTurn p h) folder) serving
      (λ f u there after. served_so folder f u after (ServesInTurn p h) (ServesInTurnShort p h) (IsAnsweredInTurn p h) (in_turn_so folder f u after p)) w (at_first x w has) r
      (taken_unheard folder serving w r s)
