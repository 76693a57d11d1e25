-- The requests on a connection, over all bytes that come (RFC 9112, sections 2.2, 6.3, 9.3 and 9.6): each is a head
-- and, behind it, as many bytes as the head says. Where a head says one thing, these requests are a function of the
-- bytes. How long a head may be is this project's own.
use Rattle.std.specs.Prelude.{◌≡◌, ℕ, ◌+◌, ◌<◌, ◌≤◌, ◌⊎◌, List, [], ◌∷◌, length, take, drop, false}
use Rattle.std.specs.Prelude.{if◌then◌else◌, Option, Some, None}
use Rattle.http_frames.specs.HeadEnd.{ends_at, IsFirstEnd, head_limit}
use Rattle.http_serve.specs.Protocols.{Asked, RequestReading}
use Rattle.http_serve.specs.declared.receiving.Heading.{Heading}
use Rattle.http_serve.specs.declared.receiving.Heading.TheVariants as heading

-- no head ends where one may
abbrev pub HasNoEnd : List ℕ → Type 0
HasNoEnd b = (n : ℕ) → n ≤ length b → n ≤ head_limit → ends_at b n ≡ false

-- the bytes end before a head does
pub record EndsInHead (b : List ℕ) : Type 0 where
  pub none : HasNoEnd b
  pub short : length b < head_limit

-- how the head at the front of b comes
abbrev pub Heads : List ℕ → Heading → Type 0
Heads b (heading.Ends n) = IsFirstEnd b n
Heads b heading.Endless = HasNoEnd b
Heads b heading.Cut = EndsInHead b

-- a head that was found lies in the bytes that have come, and an endless one fills them
abbrev pub IsInside : List ℕ → Heading → Type 0
IsInside waiting (heading.Ends n) = n ≤ length waiting
IsInside waiting heading.Endless = head_limit ≤ length waiting
IsInside waiting heading.Cut = Unit {0}

-- what is answered where a head has no end
abbrev pub endless_asked : {R : Type 0} → RequestReading R → Asked R
endless_asked w = record { request = w.endless; body = [] }

-- the head is the first n bytes, and says this
pub record IsRequestHead {R : Type 0} (w : RequestReading R) (b : List ℕ) (n : ℕ) (r : R) : Type 0 where
  pub ends : IsFirstEnd b n
  pub near : n ≤ head_limit
  pub says : w.says (take n b) r

-- no head ends within as many bytes as one may have
pub record IsEndless {R : Type 0} (w : RequestReading R) (b : List ℕ) (n : ℕ) (a : Asked R) : Type 0 where
  pub none : HasNoEnd b
  pub size : n ≡ head_limit
  pub long : n ≤ length b
  pub is : a ≡ endless_asked w

-- a head and its whole body, n bytes in all
pub record IsWholeRequest {R : Type 0} (w : RequestReading R) (b : List ℕ) (n : ℕ) (a : Asked R) : Type 0 where
  pub head : ℕ
  pub says : IsRequestHead w b head a.request
  pub size : n ≡ head + w.size a.request
  pub inside : n ≤ length b
  pub body : a.body ≡ take (w.size a.request) (drop head b)

-- the request that comes first, in the first n bytes
abbrev pub IsNextRequest : {R : Type 0} → RequestReading R → List ℕ → ℕ → Asked R → Type 0
IsNextRequest w b n a = IsWholeRequest w b n a ⊎ IsEndless w b n a

-- they end before a body does
pub record EndsInBody {R : Type 0} (w : RequestReading R) (b : List ℕ) : Type 0 where
  pub request : R
  pub head : ℕ
  pub says : IsRequestHead w b head request
  pub short : length b < head + w.size request

-- no whole request comes, and none that is refused
abbrev pub HasNone : {R : Type 0} → RequestReading R → List ℕ → Type 0
HasNone w b = EndsInHead b ⊎ EndsInBody w b

-- what comes behind a request: nothing is read behind one that closes the connection
abbrev pub behind : {R : Type 0} → RequestReading R → Asked R → List ℕ → ℕ → Option (List ℕ)
behind w a b n = if w.closes a.request then None else Some (drop n b)

-- these requests come one behind the other, and then what is left
unfoldable pub AreRequests
    : {R : Type 0} → RequestReading R → Option (List ℕ) → List (Asked R) → Option (List ℕ) → Type 0
AreRequests w b [] left = left ≡ b
AreRequests w None (a ∷ more) left = ⊥
AreRequests w (Some b) (a ∷ more) left =
    (n : ℕ) × IsNextRequest w b n a × AreRequests w (behind w a b n) more left

-- no request comes any more
abbrev pub IsOver : {R : Type 0} → RequestReading R → Option (List ℕ) → Type 0
IsOver w None = Unit {0}
IsOver w (Some b) = HasNone w b
