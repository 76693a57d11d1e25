-- Connections in order: one more behind those that were served, and none.
use Rattle.std.proofs.Common.{◌≡◌, ◌⊎◌, ℕ, List, [], ◌∷◌, ◌++◌, true, is_some, Option, Some, None, IfSome, refl, sym, ap, subst, ◌∙◌, inl, inr, append_assoc}
use Rattle.std.proofs.lemmas.List.{append-nil}
use Rattle.std.specs.Option.{option_map}
use Rattle.dsy_base.specs.Counts.{Rose}
use Rattle.dsy_base.specs.Links.{Accepts, IsFreshLink, LinkState, ListenState, Traffic}
use Rattle.http_serve.specs.Protocols.{Protocol}
use Rattle.http_serve.specs.Steps.{ServedState}
use Rattle.http_serve.specs.Streams.{given_in}
use Rattle.http_serve.specs.Turns.{Cut, Lacking, Served}
use Rattle.server_commands.specs.Serving.{AreServed, ConnectionEnded, Hears, IsIdle, IsServed, LacksMemory, Listens, RunsOut, Serves, TakesFront, TakesOne}

served_more : {R M : Type 0} (p : Protocol R M) (came : List Traffic) (gone : List LinkState) (old mid new : ServedState M) (t : Traffic) (u : LinkState) → AreServed p came old gone mid → IsServed p t mid u new
    → AreServed p (came ++ t ∷ []) old (gone ++ u ∷ []) new
unfolding AreServed
served_more {R} {M} p [] [] old mid new t u all one = (new, subst (λ (s : ServedState M). IsServed p t s u new) all one, refl)
served_more p [] (g ∷ gone) old mid new t u all one = absurd all
served_more p (c ∷ came) [] old mid new t u all one = absurd all
served_more p (c ∷ came) (g ∷ gone) old mid new t u all one = (all.0, all.1, served_more p came gone all.0 mid new t u all.2 one)

module _ {R M : Type 0} (p : Protocol R M) (l : ListenState) where
  -- no connection came
  pub listens_none : (m : ListenState) (old new : ServedState M) → IsIdle l m → new ≡ old → Listens p l m old new
  unfolding AreServed
  listens_none m old new idle same = go l.coming l.ended idle.coming idle.ended where
    go : (c : Option (List Traffic)) (e : Option (List LinkState)) → m.coming ≡ c → m.ended ≡ e → IfSome c (λ coming. IfSome e (λ ended. TakesFront p coming ended m old new))
    go None e is_coming is_ended = tt
    go (Some coming) None is_coming is_ended = tt
    go (Some coming) (Some ended) is_coming is_ended = record {
      came = [];
      gone = [];
      rest = coming;
      were = refl;
      coming = is_coming;
      ended = is_ended ∙ ap Some (sym (append-nil ended));
      served = same;
    }

  -- one more came and was served
  pub listens_more : (k m : ListenState) (old mid new : ServedState M) → Listens p l k old mid → Hears (IsServed p) k m mid new → Listens p l m old new
  listens_more k m old mid new all one = go l.coming l.ended all where
    over : (coming : List Traffic) (ended : List LinkState) (front : TakesFront p coming ended k old mid) → TakesOne (IsServed p) front.rest (ended ++ front.gone) m mid new → TakesFront p coming ended m old new
    over coming ended front next = record {
      came = front.came ++ next.came ∷ [];
      gone = front.gone ++ next.gone ∷ [];
      rest = next.rest;
      were = front.were ∙ ap (λ r. front.came ++ r) next.were ∙ sym (append_assoc front.came (next.came ∷ []) next.rest);
      coming = next.coming;
      ended = next.ended ∙ ap Some (append_assoc ended front.gone (next.gone ∷ []));
      served = served_more p front.came front.gone old mid new next.came next.gone front.served next.served;
    }

    heard : (coming : List Traffic) (ended : List LinkState) → k.coming ≡ Some coming → k.ended ≡ Some ended → TakesOne (IsServed p) coming ended m mid new
    heard coming ended is_coming is_ended =
        let first = subst (λ (c : Option (List Traffic)). IfSome c (λ coming. IfSome k.ended (λ ended. TakesOne (IsServed p) coming ended m mid new))) is_coming one in
        subst (λ (e : Option (List LinkState)). IfSome e (λ ended. TakesOne (IsServed p) coming ended m mid new)) is_ended first

    go : (c : Option (List Traffic)) (e : Option (List LinkState)) → IfSome c (λ coming. IfSome e (λ ended. TakesFront p coming ended k old mid)) → IfSome c (λ coming. IfSome e (λ ended. TakesFront p coming ended m old new))
    go None e h = tt
    go (Some coming) None h = tt
    go (Some coming) (Some ended) h = over coming ended h (heard h.rest (ended ++ h.gone) h.coming h.ended)

  -- nothing came behind
  pub listens_still : (k m : ListenState) (old mid new : ServedState M) → Listens p l k old mid → IsIdle k m → new ≡ mid → Listens p l m old new
  listens_still k m old mid new all idle same = go l.coming l.ended all where
    go : (c : Option (List Traffic)) (e : Option (List LinkState)) → IfSome c (λ coming. IfSome e (λ ended. TakesFront p coming ended k old mid)) → IfSome c (λ coming. IfSome e (λ ended. TakesFront p coming ended m old new))
    go None e h = tt
    go (Some coming) None h = tt
    go (Some coming) (Some ended) h = record {
      came = h.came;
      gone = h.gone;
      rest = h.rest;
      were = h.were;
      coming = idle.coming ∙ h.coming;
      ended = idle.ended ∙ h.ended;
      served = subst (λ (s : ServedState M). AreServed p h.came old h.gone s) (sym same) h.served;
    }

  -- there was no memory for the next one
  pub runs_out : (k m : ListenState) (old mid new : ServedState M) → Listens p l k old mid → (IsIdle k m × (new ≡ mid)) ⊎ Hears (LacksMemory p) k m mid new → RunsOut p l m old new
  runs_out k m old mid new all (inl (idle, same)) = inl (listens_still k m old mid new all idle same)
  runs_out k m old mid new all (inr lacking) = inr (k, mid, all, lacking)

-- one was taken, served so, and ended
pub hears_one : {M : Type 0} (serves : Serves M) (l k m : ListenState) (t : Option Traffic) (u : LinkState) (old new : ServedState M) → Accepts (Some t) l.coming k.coming → k.ended ≡ l.ended → m.coming ≡ k.coming → m.ended ≡ option_map (λ done. done ++ u ∷ []) k.ended
    → (is_some l.coming ≡ true → is_some u.traffic ≡ true) → IfSome t (λ t. IfSome u.traffic (λ x. u.traffic ≡ Some x → serves t old u new)) → Hears serves l m old new
hears_one {M} serves l k m t u old new accepted kept coming ended told served = go l.coming l.ended accepted kept told where
  over : (coming' : List Traffic) (ended' : List LinkState) (rest : List Traffic) (v x : Traffic) → t ≡ Some v → coming' ≡ v ∷ rest → k.coming ≡ Some rest → k.ended ≡ Some ended' → u.traffic ≡ Some x → TakesOne serves coming' ended' m old new
  over coming' ended' rest v x is_came were left ends is_gone =
      let first = subst (λ (o : Option Traffic). IfSome o (λ t. IfSome u.traffic (λ x. u.traffic ≡ Some x → serves t old u new))) is_came served in
      record {
        came = v;
        gone = u;
        rest = rest;
        were = were;
        coming = coming ∙ left;
        ended = ended ∙ ap (λ e. option_map (λ done. done ++ u ∷ []) e) ends;
        served = subst (λ (o : Option Traffic). IfSome o (λ x. u.traffic ≡ Some x → serves v old u new)) is_gone first is_gone;
      }

  gone : (o : Option Traffic) → is_some o ≡ true → (x : Traffic) × (o ≡ Some x)
  gone None h = absurd (cc)
  gone (Some x) h = (x, refl)

  go : (c : Option (List Traffic)) (e : Option (List LinkState)) → Accepts (Some t) c k.coming → k.ended ≡ e → (is_some c ≡ true → is_some u.traffic ≡ true) → IfSome c (λ coming. IfSome e (λ ended. TakesOne serves coming ended m old new))
  go None e accepts is_ended tells = tt
  go (Some coming) None accepts is_ended tells = tt
  go (Some coming) (Some ended) (v, rest, is_came, were, left) is_ended tells =
      let g = gone u.traffic (tells refl) in
      over coming ended rest v g.0 is_came were left is_ended g.1

given_some : (x y : Traffic) → given_in (Some y) ≡ given_in (Some x) → y.received ++ y.coming ≡ x.received ++ x.coming
given_some x y h = cc

-- a connection that came new has ended so, where it is told
ended_so : (t : Option Traffic) (u : LinkState) (so : Traffic → Traffic → ℕ → Type 0) (P : Traffic → Type 0) → ((x : Traffic) → ConnectionEnded (so x) x u → P x) → IfSome t (λ x. x.received ≡ []) → IfSome t (λ x. x.sent ≡ []) → given_in u.traffic ≡ given_in t → IfSome t (λ x. IfSome u.traffic (λ y. so x y u.faults))
    → IfSome t (λ x. IfSome u.traffic (λ y. u.traffic ≡ Some y → P x))
ended_so None u so P f unread unsent given h = tt
ended_so (Some x) u so P f unread unsent given h = go u.traffic given h where
  go : (o : Option Traffic) → given_in o ≡ given_in (Some x) → IfSome o (λ y. so x y u.faults) → IfSome o (λ y. u.traffic ≡ Some y → P x)
  go None same h = tt
  go (Some y) same h = λ is. f x (record { unread = unread; unsent = unsent; ended = y; told = is; given = given_some x y same; how = h })

if_both : (t u : Option Traffic) (P Q : Traffic → Traffic → Type 0) → ((x y : Traffic) → P x y → Q x y) → IfSome t (λ x. IfSome u (λ y. P x y)) → IfSome t (λ x. IfSome u (λ y. Q x y))
if_both None u P Q f h = tt
if_both (Some x) None P Q f h = tt
if_both (Some x) (Some y) P Q f h = f x y h

-- so it is with each end of serving
module _ {R M : Type 0} (p : Protocol R M) (l k m : ListenState) (t u : LinkState) (old new : ServedState M) (accepted : Accepts (Some t.traffic) l.coming k.coming) (kept : k.ended ≡ l.ended) (coming : m.coming ≡ k.coming)
    (ended : m.ended ≡ option_map (λ done. done ++ u ∷ []) k.ended) (told : is_some l.coming ≡ true → is_some u.traffic ≡ true) (is_fresh : IsFreshLink t) (given : given_in u.traffic ≡ given_in t.traffic) where
  ends_as : (serves : Traffic → ServedState M → Traffic → ServedState M → Type 0) (so : Traffic → Traffic → ℕ → Type 0) (P : Serves M) → ((x : Traffic) → ConnectionEnded (so x) x u → P x old u new) → ((x y : Traffic) → serves x old y new → so x y u.faults)
      → IfSome t.traffic (λ x. IfSome u.traffic (λ y. serves x old y new)) → Hears P l m old new
  ends_as serves so P pack f h =
      hears_one P l k m t.traffic u old new accepted kept coming ended told
      (ended_so t.traffic u so (λ x. P x old u new) pack is_fresh.received is_fresh.sent given (if_both t.traffic u.traffic (λ x y. serves x old y new) (λ x y. so x y u.faults) f h))

  -- how it ended, where it was served
  abbrev served_so : Traffic → Traffic → ℕ → Type 0
  served_so x y failed = Served p x old y new ⊎ (Rose 0 failed × Cut p x old y new)

  pub hears_served : IfSome t.traffic (λ x. IfSome u.traffic (λ y. Served p x old y new)) → Hears (IsServed p) l m old new
  hears_served h = ends_as (Served p) served_so (IsServed p) (λ x r. r) (λ x y s. inl s) h

  pub hears_cut : Rose t.faults u.faults → IfSome t.traffic (λ x. IfSome u.traffic (λ y. Cut p x old y new)) → Hears (IsServed p) l m old new
  hears_cut rose h = ends_as (Cut p) served_so (IsServed p) (λ x r. r) (λ x y s. inr (subst (λ (n : ℕ). Rose n u.faults) is_fresh.unfailed rose, s)) h

  pub hears_lacking : u.faults ≡ t.faults → IfSome t.traffic (λ x. IfSome u.traffic (λ y. Lacking p x old y new)) → Hears (LacksMemory p) l m old new
  hears_lacking unfailed h = ends_as (Lacking p) (λ x y failed. (failed ≡ 0) × Lacking p x old y new) (LacksMemory p) (λ x r. r) (λ x y s. (unfailed ∙ is_fresh.unfailed, s)) h

-- ---- in the turns of a loop

pub idle_self : (l : ListenState) → IsIdle l l
idle_self l = record { coming = refl; ended = refl }

-- what is so by one setting of a service is so by one that is the same
module _ {R M S : Type 0} (protocol : S → Protocol R M) (was now : S) (same : now ≡ was) (k m : ListenState) (mid new : ServedState M) where
  pub served_as : Hears (IsServed (protocol now)) k m mid new → Hears (IsServed (protocol was)) k m mid new
  served_as h = subst (λ (s : S). Hears (IsServed (protocol s)) k m mid new) same h

  pub lacking_as : (IsIdle k m × (new ≡ mid)) ⊎ Hears (LacksMemory (protocol now)) k m mid new → (IsIdle k m × (new ≡ mid)) ⊎ Hears (LacksMemory (protocol was)) k m mid new
  lacking_as h = subst (λ (s : S). (IsIdle k m × (new ≡ mid)) ⊎ Hears (LacksMemory (protocol s)) k m mid new) same h
