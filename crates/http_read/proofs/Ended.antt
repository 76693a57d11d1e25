-- The connections that have ended, when one more ends.
use Rattle.std.proofs.Common.{◌≡◌, ◌≤◌, ℕ, zero, suc, true, List, [], ◌∷◌, ◌++◌, length, None, Some, refl, sym, ◌∙◌, subst, ◌⊎◌, inl, inr, arith}
use Rattle.std.specs.Prelude.{Option, IfSome, is_some}
use Rattle.std.specs.List.{Any}
use Rattle.std.proofs.Math.ListN.{get_or-append}
use Rattle.std.proofs.Math.Seq.{get_or-append_seam}
use Rattle.std.proofs.lemmas.List.{length-append}
use Rattle.chunk_store.specs.Said.{KeepsOf}
use Rattle.dsy_base.specs.Counts.{raised}
use Rattle.dsy_base.specs.Links.{Traffic, with_ended}
use Rattle.http_read.specs.Asks.{Server}
use Rattle.http_read.specs.Refusals.{IsUnacceptable}
use Rattle.http_read.specs.Remotes.{AddsOne, AtLeast, HasCause, said_on}
use Rattle.http_read.specs.Replies.{IsDenial, IsLonger, IsShowing, IsTaking}

any_before : (P : Traffic → Type 0) (ts : List Traffic) (t : Traffic) → Any P ts → Any P (ts ++ t ∷ [])
any_before P ts t any =
    (any.0, any.1, omega (arith, length-append ts (t ∷ []), any.2), get_or-append ts (t ∷ []) any.1 any.0 any.2 ∙ any.3, any.4)

any_last : (P : Traffic → Type 0) (ts : List Traffic) (t : Traffic) → P t → Any P (ts ++ t ∷ [])
any_last P ts t is = (length ts, t, omega (arith, length-append ts (t ∷ [])), get_or-append_seam ts t [] t, is)

-- at least n of them, and of more
pub at_least_before : (P : Traffic → Type 0) (n : ℕ) (ts more : List Traffic) → AtLeast n P ts → AtLeast n P (ts ++ more)
at_least_before P zero ts more h = tt
at_least_before P (suc n) [] more h = absurd h
at_least_before P (suc n) (t ∷ ts) more (inl h) = inl (h.0, at_least_before P n ts more h.1)
at_least_before P (suc n) (t ∷ ts) more (inr h) = inr (at_least_before P (suc n) ts more h)

at_least_last : (P : Traffic → Type 0) (n : ℕ) (ts : List Traffic) (t : Traffic) → P t → AtLeast n P ts → AtLeast (suc n) P (ts ++ t ∷ [])
at_least_last P zero [] t is h = inl (is, tt)
at_least_last P zero (x ∷ ts) t is h = inr (at_least_last P zero ts t is tt)
at_least_last P (suc n) [] t is h = absurd h
at_least_last P (suc n) (x ∷ ts) t is (inl h) = inl (h.0, at_least_last P n ts t is h.1)
at_least_last P (suc n) (x ∷ ts) t is (inr h) = inr (at_least_last P (suc n) ts t is h)

at_least_fewer : (P : Traffic → Type 0) (m n : ℕ) (ts : List Traffic) → m ≤ n → AtLeast n P ts → AtLeast m P ts
at_least_fewer P zero n ts le h = tt
at_least_fewer P (suc m) zero ts le h = absurd (omega (arith, le))
at_least_fewer P (suc m) (suc n) [] le h = absurd h
at_least_fewer P (suc m) (suc n) (t ∷ ts) le (inl h) = inl (h.0, at_least_fewer P m n ts (omega (arith, le)) h.1)
at_least_fewer P (suc m) (suc n) (t ∷ ts) le (inr h) = inr (at_least_fewer P (suc m) (suc n) ts le h)

pub cause_kept : (s : Server) (refused : ℕ) (old : Option (List Traffic)) (last : Option Traffic) (new : Option (List Traffic))
    → new ≡ with_ended old last → HasCause s refused old → HasCause s refused new
cause_kept s refused None last new is cause = subst (λ o. HasCause s refused o) (sym is) tt
cause_kept s refused (Some ts) None new is cause = subst (λ o. HasCause s refused o) (sym is) tt
cause_kept s refused (Some ts) (Some t) new is cause = subst (λ o. HasCause s refused o) (sym is) (at_least_before (IsUnacceptable s) refused ts (t ∷ []) cause)

-- one more was refused, on the connection that ended last
pub cause_added : (s : Server) (refused : ℕ) (old : Option (List Traffic)) (last : Option Traffic) (new : Option (List Traffic))
    → new ≡ with_ended old last → IfSome last (IsUnacceptable s) → HasCause s refused old → HasCause s (raised refused 1) new
cause_added s refused None last new is bad cause = subst (λ o. HasCause s (raised refused 1) o) (sym is) tt
cause_added s refused (Some ts) None new is bad cause = subst (λ o. HasCause s (raised refused 1) o) (sym is) tt
cause_added s refused (Some ts) (Some t) new is bad cause =
    let more = at_least_last (IsUnacceptable s) refused ts t bad cause in
    subst (λ o. HasCause s (raised refused 1) o) (sym is) (at_least_fewer (IsUnacceptable s) (raised refused 1) (suc refused) (ts ++ t ∷ []) (omega arith) more)

-- where those that have ended are told, and this one is
pub adds : (P : Traffic → Type 0) (old : Option (List Traffic)) (last : Option Traffic) (new : Option (List Traffic))
    → (is_some old ≡ true → is_some last ≡ true) → new ≡ with_ended old last → IfSome last P → AddsOne P old new
adds P None last new told is so = is
adds P (Some ts) None new told is so = absurd (cc (told refl))
adds P (Some ts) (Some t) new told is so = (t, is, so)

-- one more that ended keeps what was said, and says more
any_of_added : (P : Traffic → Type 0) (Q : Traffic → Type 0) (old new : Option (List Traffic)) → AddsOne P old new → IfSome old (Any Q) → IfSome new (Any Q)
any_of_added P Q None new more any = subst (λ o. IfSome o (Any Q)) (sym more) tt
any_of_added P Q (Some ts) new more any = subst (λ o. IfSome o (Any Q)) (sym more.1) (any_before Q ts more.0 any)

pub said_of_added : (P : Traffic → Type 0) (old new : Option (List Traffic)) → AddsOne P old new → IfSome new (Any P)
said_of_added P None new more = subst (λ o. IfSome o (Any P)) (sym more) tt
said_of_added P (Some ts) new more = subst (λ o. IfSome o (Any P)) (sym more.1) (any_last P ts more.0 more.2)

said_same : (s : Server) (old new : Option (List Traffic)) (id : List ℕ) → new ≡ old → KeepsOf (said_on s old) (said_on s new) id
said_same s old new id is = record {
  denied = subst (λ o. IfSome o (Any (IsDenial s id))) (sym is);
  shown = λ b. subst (λ o. IfSome o (Any (IsShowing s id b))) (sym is);
  longer = λ n. subst (λ o. IfSome o (Any (IsLonger s id n))) (sym is);
  taken = λ b. subst (λ o. IfSome o (Any (IsTaking s id b))) (sym is);
  shown_by = λ k b h. (h.0, subst (λ o. IfSome o (Any (IsShowing s id b))) (sym is) h.1);
  longer_by = λ k n h. (h.0, subst (λ o. IfSome o (Any (IsLonger s id n))) (sym is) h.1);
}

said_more : (P : Traffic → Type 0) (s : Server) (old new : Option (List Traffic)) (id : List ℕ) → AddsOne P old new
    → KeepsOf (said_on s old) (said_on s new) id
said_more P s old new id more = record {
  denied = any_of_added P _ old new more;
  shown = λ b. any_of_added P _ old new more;
  longer = λ n. any_of_added P _ old new more;
  taken = λ b. any_of_added P _ old new more;
  shown_by = λ k b h. (h.0, any_of_added P _ old new more h.1);
  longer_by = λ k n h. (h.0, any_of_added P _ old new more h.1);
}

-- a call keeps what was said
pub said_kept : (P : Traffic → Type 0) (s : Server) (old new : Option (List Traffic)) (id : List ℕ) → (new ≡ old) ⊎ AddsOne P old new
    → KeepsOf (said_on s old) (said_on s new) id
said_kept P s old new id (inl is) = said_same s old new id is
said_kept P s old new id (inr more) = said_more P s old new id more
