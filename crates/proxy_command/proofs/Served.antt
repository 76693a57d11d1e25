-- How connections were served, by what the stores' type tells.
use Rattle.std.proofs.Common.{◌≡◌, ◌++◌, ℕ, ◌≤◌, Bool, true, false, List, [], length, is_some, drop, Option, Some, None, IfSome, IsTrue, Result, Err, refl, sym, ap, subst, arith, inl}
use Rattle.std.proofs.lemmas.List.{append-nil}
use Rattle.std.proofs.lemmas.List.Elements.{All-nil}
use Rattle.std.specs.Option.{option_map}
use Rattle.chunk_proxy.specs.States.{told_of}
use Rattle.chunk_proxy.specs.Talks.{proxy_protocol}
use Rattle.chunk_store.specs.declared.id.DigestKind.{DigestKind}
use Rattle.command_outcome.specs.declared.outcome.Outcome.{Outcome}
use Rattle.command_outcome.specs.declared.outcome.Outcome.TheVariants as ends
use Rattle.command_words.specs.declared.command.Location.{Location}
use Rattle.dsy_base.specs.Links.{LinkState, ListenState, Traffic}
use Rattle.dsy_base.specs.Maps.{Map}
use Rattle.locked_proxy.specs.Chains.{maps_all_told}
use Rattle.locked_proxy.specs.Replies.{EndsThrough}
use Rattle.locked_shelf.specs.Listening.{EndsAnyhow, ServesSome}
use Rattle.proxy_command.specs.ProxyServing.{IsServedFrom, LookTypes, ServesProxyShort, ServesProxyTo, Supply, Surely, group_chunks, stores_never_fail, supply, surely, told_state}
use Rattle.server_commands.proofs.Listened.{idle_self, listens_none}
use Rattle.server_commands.specs.Serving.{Heard, RunsOut, heard}

module _ (looks : LookTypes) (h : Heard) (groups : List (List Location)) (kind : DigestKind) (in_turn : Bool) (folders : Option (Map (Map (List ℕ)))) (held left : Option (Map (List ℕ))) (r : Result Unit Outcome) where
  -- what was served is told by what the words say of the stores
  pub served_from : (sure : Bool) (types : Surely) (holds : List (Option (Map (List ℕ)))) → sure ≡ stores_never_fail looks groups → types ≡ surely looks h groups folders → IfSome folders (λ m. holds ≡ group_chunks sure looks.never_fail m groups)
      → ServesProxyTo kind h (supply held left holds) types in_turn r → IsServedFrom looks h groups kind in_turn folders held left r
  served_from sure types holds same is known served = record {
    holds = holds;
    known = subst (λ (b : Bool). IfSome folders (λ m. holds ≡ group_chunks b looks.never_fail m groups)) same known;
    served = subst (λ (t : Surely). ServesProxyTo kind h (supply held left holds) t in_turn r) is served;
  }

-- ---- where nobody was heard

none_taken : (ends : Bool → LinkState → Type 0) (l : ListenState) → ServesSome ends l l
none_taken ends l = record {
  taken = 0;
  coming = go l.coming refl;
  gone = [];
  ended = same l.ended;
  each = All-nil (EndsAnyhow ends);
} where
  go : (c : Option (List Traffic)) → l.coming ≡ c → IfSome c (λ queue. (0 ≤ length queue) × (l.coming ≡ Some (drop 0 queue)))
  go None is = tt
  go (Some queue) is = (omega arith, is)

  same : (e : Option (List LinkState)) → e ≡ option_map (λ done. done ++ []) e
  same None = refl
  same (Some done) = ap Some (sym (append-nil done))

module _ (looks : LookTypes) (never : Bool) (l : ListenState) (groups : List (List Location)) (kind : DigestKind) (held : Option (Map (List ℕ))) where
  short : (s : Supply) (t : Surely) → s.left ≡ s.held → (in_turn : Bool) → ServesProxyShort kind (heard never l l) s t in_turn
  short s t same true =
      let p = proxy_protocol kind (told_of s.holds) in
      let none : RunsOut p l l (told_state t.replies s.held 0) (told_state t.replies s.held 0) = inl (listens_none p l l (told_state t.replies s.held 0) (told_state t.replies s.held 0) (idle_self l) refl) in
      (record { asked = 0; asks = 0; served = subst (λ (o : Option (Map (List ℕ))). RunsOut p l l (told_state t.replies s.held 0) (told_state t.replies o 0)) (sym same) none }, refl)
  short s t same false = record { tells = true; told = λ e. refl; served = none_taken (EndsThrough kind s.held (maps_all_told s.holds) never t.stores true) l }

  -- what groups give, if folders are told
  given_in : Option (Map (Map (List ℕ))) → List (Option (Map (List ℕ)))
  given_in None = []
  given_in (Some m) = group_chunks (stores_never_fail looks groups) looks.never_fail m groups

  given_is : (o : Option (Map (Map (List ℕ)))) → IfSome o (λ m. given_in o ≡ group_chunks (stores_never_fail looks groups) looks.never_fail m groups)
  unfolding given_in
  given_is None = tt
  given_is (Some m) = refl

  -- there was no memory before anybody was heard
  pub none_served : (in_turn : Bool) (folders : Option (Map (Map (List ℕ)))) → IsServedFrom looks (heard never l l) groups kind in_turn folders held held (Err ends.Memory)
  none_served in_turn folders = record {
    holds = given_in folders;
    known = given_is folders;
    served = short (supply held held (given_in folders)) (surely looks (heard never l l) groups folders) refl in_turn;
  }

-- ---- what is told

pub both_tell : (a b : Bool) → (IsTrue a → IsTrue b) → (IsTrue b → IsTrue a) → a ≡ b
both_tell true true on back = refl
both_tell true false on back = sym (on refl)
both_tell false true on back = back refl
both_tell false false on back = refl

pub told_with : {X Y : Type 0} (f : X → Y) (o : Option X) → is_some (option_map f o) ≡ is_some o
told_with f None = refl
told_with f (Some x) = refl
