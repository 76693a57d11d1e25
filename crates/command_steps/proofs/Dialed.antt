-- Dialers over several steps: what has ended stands among what has ended later, or since earlier.
use Rattle.std.proofs.Common.{◌≡◌, ◌∙◌, ◌+◌, ◌<◌, ℕ, zero, suc, List, [], ◌∷◌, ◌++◌, length, Option, Some, None, IfSome, is_some, refl, sym, ap, subst, inl, inr, arith}
use Rattle.std.proofs.lemmas.List.{append-nil, append_assoc, get_or-append-add, get_or_append_left, length-append}
use Rattle.std.proofs.Math.Seq.{drop-append_seam}
use Rattle.std.specs.List.{Any}
use Rattle.command_steps.specs.AnyStores.{IsJoined}
use Rattle.command_steps.specs.Dials.{AreAmong, Dials, EndedGrows, since}
use Rattle.dsy_base.specs.Counts.{raised}
use Rattle.dsy_base.specs.Links.{DialState, Traffic, with_all}
use Rattle.http_read.proofs.Ended.{at_least_before}
use Rattle.http_read.specs.Asks.{Server}
use Rattle.http_read.specs.Remotes.{AtLeast, HasCause}

-- ---- one dialer later

pub grows_none : (a : Option (List Traffic)) → EndedGrows a a
grows_none None = refl
grows_none (Some x) = ([], ap Some (sym (append-nil x)))

grows_twice : (a b c : Option (List Traffic)) → EndedGrows a b → EndedGrows b c → EndedGrows a c
grows_twice None b c g h = subst (λ o. EndedGrows o c) g h
grows_twice (Some x) b c g h =
    let k : EndedGrows (Some (x ++ g.0)) c = subst (λ o. EndedGrows o c) g.1 h in
    (g.0 ++ k.0, k.1 ∙ ap Some (append_assoc x g.0 k.0))

pub dials_none : (k : DialState) → Dials k k
dials_none k = record { ended = grows_none k.ended; faults = omega arith }

pub dials_same : (k j : DialState) → j ≡ k → Dials k j
dials_same k j same = subst (Dials k) (sym same) (dials_none k)

pub dials_twice : (k i j : DialState) → Dials k i → Dials i j → Dials k j
dials_twice k i j a b = record { ended = grows_twice k.ended i.ended j.ended a.ended b.ended; faults = omega (arith, a.faults, b.faults) }

-- another dialer was joined, which tells alike
pub grows_by : (a b : Option (List Traffic)) → is_some b ≡ is_some a → EndedGrows a (with_all a b)
grows_by None b alike = refl
grows_by (Some x) None alike = absurd (cc)
grows_by (Some x) (Some y) alike = (y, refl)

-- ---- what has ended since

pub since_is : (x m : List Traffic) → since (Some x) (Some (x ++ m)) ≡ Some m
since_is x m = ap Some (drop-append_seam x m)

among_itself : (a : Option (List Traffic)) → AreAmong a a
among_itself None = tt
among_itself (Some x) = (x, refl, [], [], sym (append-nil x))

pub among_joined : (a b : Option (List Traffic)) → AreAmong b (since a (with_all a b))
among_joined None b = tt
among_joined (Some x) None = tt
among_joined (Some x) (Some y) = subst (λ r. AreAmong (Some y) r) (sym (since_is x y)) (among_itself (Some y))

-- before more has ended
pub among_longer : (o a b c : Option (List Traffic)) → EndedGrows a b → EndedGrows b c → AreAmong o (since a b) → AreAmong o (since a c)
among_longer o None b c g h among = tt
among_longer o (Some x) b c g h among =
    let k : EndedGrows (Some (x ++ g.0)) c = subst (λ r. EndedGrows r c) g.1 h in
    let first : since (Some x) b ≡ Some g.0 = ap (since (Some x)) g.1 ∙ since_is x g.0 in
    let f : AreAmong o (Some g.0) = subst (λ r. AreAmong o r) first among in
    let last : since (Some x) c ≡ Some (g.0 ++ k.0) = ap (since (Some x)) (k.1 ∙ ap Some (append_assoc x g.0 k.0)) ∙ since_is x (g.0 ++ k.0) in
    let same : g.0 ++ k.0 ≡ f.2 ++ (f.0 ++ (f.3 ++ k.0)) = ap (λ l. l ++ k.0) f.4 ∙ append_assoc f.2 (f.0 ++ f.3) k.0 ∙ ap (λ l. f.2 ++ l) (append_assoc f.0 f.3 k.0) in
    subst (λ r. AreAmong o r) (sym last) (f.0, f.1, f.2, f.3 ++ k.0, same)

-- after more had ended
pub among_earlier : (o a b c : Option (List Traffic)) → EndedGrows a b → EndedGrows b c → AreAmong o (since b c) → AreAmong o (since a c)
among_earlier o None b c g h among = tt
among_earlier o (Some x) b c g h among =
    let k : EndedGrows (Some (x ++ g.0)) c = subst (λ r. EndedGrows r c) g.1 h in
    let first : since b c ≡ Some k.0 = ap (λ r. since r c) g.1 ∙ ap (since (Some (x ++ g.0))) k.1 ∙ since_is (x ++ g.0) k.0 in
    let f : AreAmong o (Some k.0) = subst (λ r. AreAmong o r) first among in
    let last : since (Some x) c ≡ Some (g.0 ++ k.0) = ap (since (Some x)) (k.1 ∙ ap Some (append_assoc x g.0 k.0)) ∙ since_is x (g.0 ++ k.0) in
    let same : g.0 ++ k.0 ≡ (g.0 ++ f.2) ++ (f.0 ++ f.3) = ap (λ l. g.0 ++ l) f.4 ∙ sym (append_assoc g.0 f.2 (f.0 ++ f.3)) in
    subst (λ r. AreAmong o r) (sym last) (f.0, f.1, g.0 ++ f.2, f.3, same)

-- ---- facts on some connection

any_inside : (P : Traffic → Type 0) (front s rest : List Traffic) → Any P s → Any P (front ++ (s ++ rest))
any_inside P front s rest (k, x, below, at, p) =
    let many : length (front ++ (s ++ rest)) ≡ length front + length (s ++ rest) = length-append front (s ++ rest) in
    let more : length (s ++ rest) ≡ length s + length rest = length-append s rest in
    (length front + k, x, omega (arith, below, many, more), get_or-append-add front (s ++ rest) k x ∙ get_or_append_left s rest x k below ∙ at, p)

pub any_among : (P : Traffic → Type 0) (o a : Option (List Traffic)) → AreAmong o a → IfSome o (Any P) → IfSome a (Any P)
any_among P o None among h = tt
any_among P o (Some t) among h =
    let s : Any P among.0 = subst (λ r. IfSome r (Any P)) among.1 h in
    subst (λ l. Any P l) (sym among.4) (any_inside P among.2 among.0 among.3 s)

-- so of at least n of them
at_least_behind : (P : Traffic → Type 0) (n : ℕ) (front s : List Traffic) → AtLeast n P s → AtLeast n P (front ++ s)
at_least_behind P n [] s h = h
at_least_behind P zero (t ∷ front) s h = tt
at_least_behind P (suc n) (t ∷ front) s h = inr (at_least_behind P (suc n) front s h)

pub at_least_among : (P : Traffic → Type 0) (n : ℕ) (o a : Option (List Traffic)) → AreAmong o a → IfSome o (AtLeast n P) → IfSome a (AtLeast n P)
at_least_among P n o None among h = tt
at_least_among P n o (Some t) among h =
    let s : AtLeast n P among.0 = subst (λ r. IfSome r (AtLeast n P)) among.1 h in
    subst (λ l. AtLeast n P l) (sym among.4) (at_least_behind P n among.2 (among.0 ++ among.3) (at_least_before P n among.0 among.3 s))

-- one of them, where there are some
pub some_of_those : (P : Traffic → Type 0) (n : ℕ) (ts : List Traffic) → 0 < n → AtLeast n P ts → Any P ts
some_of_those P zero ts some h = absurd (omega (arith, some))
some_of_those P (suc n) [] some h = absurd h
some_of_those P (suc n) (t ∷ ts) some (inl h) = (0, t, omega arith, refl, h.0)
some_of_those P (suc n) (t ∷ ts) some (inr h) =
    let rest : Any P ts = some_of_those P (suc n) ts some h in
    (suc rest.0, rest.1, omega (arith, rest.2), rest.3, rest.4)

pub some_shown : (P : Traffic → Type 0) (n : ℕ) (o : Option (List Traffic)) → 0 < n → IfSome o (AtLeast n P) → IfSome o (Any P)
some_shown P n None some h = tt
some_shown P n (Some ts) some h = some_of_those P n ts some h

pub any_longer : (P : Traffic → Type 0) (a b c : Option (List Traffic)) → EndedGrows a b → EndedGrows b c → IfSome (since a b) (Any P) → IfSome (since a c) (Any P)
any_longer P a b c g h any = any_among P (since a b) (since a c) (among_longer (since a b) a b c g h (among_itself (since a b))) any

pub any_earlier : (P : Traffic → Type 0) (a b c : Option (List Traffic)) → EndedGrows a b → EndedGrows b c → IfSome (since b c) (Any P) → IfSome (since a c) (Any P)
any_earlier P a b c g h any = any_among P (since b c) (since a c) (among_earlier (since b c) a b c g h (among_itself (since b c))) any

-- ---- a dialer that was joined

pub joined_dials : (k j other : DialState) → is_some other.ended ≡ is_some k.ended → j.ended ≡ with_all k.ended other.ended → j.faults ≡ raised k.faults other.faults → Dials k j
joined_dials k j other alike ended faults = record { ended = subst (EndedGrows k.ended) (sym ended) (grows_by k.ended other.ended alike); faults = omega (arith, faults) }

pub joined : (k j other : DialState) (s : Server) (refused : ℕ) → j.ended ≡ with_all k.ended other.ended → j.faults ≡ raised k.faults other.faults → HasCause s refused other.ended → IsJoined k j s other refused
joined k j other s refused ended faults cause = record {
  faults = omega (arith, faults);
  ended = subst (λ o. AreAmong other.ended (since k.ended o)) (sym ended) (among_joined k.ended other.ended);
  cause = cause;
}
