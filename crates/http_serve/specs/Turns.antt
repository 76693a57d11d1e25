-- A connection as a whole: requests in order and their answers.
use Rattle.std.specs.Prelude.{◌≡◌, ℕ, ◌⊎◌, List, [], ◌∷◌, ◌++◌, take, map, Bool, Option, Some, None, IfSome, All}
use Rattle.std.specs.List.{flat_map}
use Rattle.dsy_base.specs.Links.{Traffic}
use Rattle.http_wire.specs.ReplyText.{reply_head}
use Rattle.http_serve.specs.Answers.{Answer}
use Rattle.http_serve.specs.Protocols.{Answering, Asked, Protocol, Turn}
use Rattle.http_serve.specs.Requests.{AreRequests, IsNextRequest, IsOver}
use Rattle.http_serve.specs.Steps.{AreBothAlike, ServedState, StepLacks, Steps}
use Rattle.http_serve.specs.Streams.{Stream}

-- a request with this body
abbrev pub asked_with : {R : Type 0} → R → List ℕ → Asked R
asked_with r body = record { request = r; body = body }

-- a turn of this request and this answer
abbrev pub turn_of : {R : Type 0} → Asked R → Answer → Turn R
turn_of a r = record { asked = a; answer = r }

-- the reply: its head, and the body of the answer
abbrev pub reply_bytes : {R : Type 0} → (R → Bool) → Turn R → List ℕ
reply_bytes closes t = reply_head t.answer.status t.answer.size (closes t.asked.request) ++ t.answer.body

-- all replies
abbrev pub replies : {R : Type 0} → (R → Bool) → List (Turn R) → List ℕ
replies closes turns = flat_map (reply_bytes closes) turns

-- ---- from what is told and never fails

-- the requests in order, each answered from what the one before it left
unfoldable pub turns_of : {R M : Type 0} → Answering R M → M → List (Asked R) → List (Turn R)
turns_of v files [] = []
turns_of v files (a ∷ more) =
    record { asked = a; answer = v.answer_to files a.request a.body }
    ∷ turns_of v (v.files_after files a.request a.body) more

-- and what all of them leave
unfoldable pub files_left : {R M : Type 0} → Answering R M → M → List (Asked R) → M
files_left v files [] = files
files_left v files (a ∷ more) = files_left v (v.files_after files a.request a.body) more

-- ---- from anything

-- the turns were taken one after the other, each as what is held says or with a fault
unfoldable pub Takes : {R M : Type 0} → Answering R M → ServedState M → List (Turn R) → ServedState M → Type 0
Takes v old [] new = new ≡ old
Takes {R} {M} v old (t ∷ more) new =
    (next : ServedState M) × Steps v old t.asked.request t.asked.body t.answer next × Takes v next more new

-- these turns were taken over bytes of which this is left, and lead from one state to another
pub record Talks {R M : Type 0}
    (p : Protocol R M) (b : List ℕ) (turns : List (Turn R))
    (left : Option (List ℕ)) (old new : ServedState M) : Type 0 where
  pub comes : AreRequests p.reading (Some b) (map (λ t. t.asked) turns) left
  pub fair : All p.fair turns
  pub takes : IfSome old.files (λ _. Takes p.answering old turns new)

-- all replies were sent but for a rest of the last one
abbrev pub SendsMost : {R : Type 0} → (R → Bool) → List (Turn R) → List ℕ → Type 0
SendsMost {R} closes turns sent =
    ((turns ≡ []) × (sent ≡ []))
    ⊎ ((front : List (Turn R)) × (last : Turn R) × (n : ℕ)
    × (turns ≡ front ++ last ∷ []) × (sent ≡ replies closes front ++ take n (reply_bytes closes last)))

-- turns were taken, their replies sent, and this is left
pub record TurnsGo {R M : Type 0}
    (p : Protocol R M) (left before : List ℕ) (old : ServedState M)
    (after : Option (List ℕ)) (told : List ℕ) (new : ServedState M) : Type 0 where
  pub turns : List (Turn R)
  pub talks : Talks p left turns after old new
  pub sent : told ≡ before ++ replies p.reading.closes turns

-- turns were taken, and the connection was broken off while the last reply was sent
pub record BreaksOff {R M : Type 0}
    (p : Protocol R M) (left before : List ℕ) (old : ServedState M)
    (after : Option (List ℕ)) (told : List ℕ) (new : ServedState M) : Type 0 where
  pub turns : List (Turn R)
  pub talks : Talks p left turns after old new
  pub part : List ℕ
  pub most : SendsMost p.reading.closes turns part
  pub sent : told ≡ before ++ part

-- all is alike; or there was no memory in the step of the request that comes next
abbrev pub IsAlikeOrNext : {R M : Type 0} → Protocol R M → Option (List ℕ) → ServedState M → ServedState M → Type 0
IsAlikeOrNext p None old new = AreBothAlike p.answering.alike old.files new.files
IsAlikeOrNext {R} p (Some b) old new =
    AreBothAlike p.answering.alike old.files new.files
    ⊎ ((n : ℕ) × (a : Asked R) × IsNextRequest p.reading b n a × StepLacks p.answering old a.request a.body new)

-- so it is, and no call has failed
pub record IsNear {R M : Type 0} (p : Protocol R M) (left : Option (List ℕ)) (old new : ServedState M) : Type 0 where
  pub files : IfSome old.files (λ _. IsAlikeOrNext p left old new)
  pub unfailed : new.faults ≡ old.faults

-- ---- what is left of a connection and what was sent on it, where they are told, and what is served from

-- a relation between both before and after
abbrev pub Between : Type 0 → Type 1
Between M = Option Stream → ServedState M → Option Stream → ServedState M → Type 0

-- the connection stays open: nothing was received that isn't left
abbrev pub Stays : {R M : Type 0} → Protocol R M → Between M
Stays p old shelf new shelf' = IfSome old (λ s. (u : Stream) × (new ≡ Some u)
    × TurnsGo p s.left s.sent shelf (Some u.left) u.sent shelf')

-- no request comes any more
abbrev pub RequestsStop : {R M : Type 0} → Protocol R M → Between M
RequestsStop p old shelf new shelf' = IfSome old (λ s. IfSome new (λ u. (left : Option (List ℕ))
    × TurnsGo p s.left s.sent shelf left u.sent shelf' × IsOver p.reading left))

-- a call on the connection has failed
abbrev pub ConnectionFails : {R M : Type 0} → Protocol R M → Between M
ConnectionFails p old shelf new shelf' = IfSome old (λ s. IfSome new (λ u. (left : Option (List ℕ))
    × BreaksOff p s.left s.sent shelf left u.sent shelf'))

-- there was no memory
abbrev pub Lingers : {R M : Type 0} → Protocol R M → Between M
Lingers {R} {M} p old shelf new shelf' = IfSome old (λ s. IfSome new (λ u.
    (left : Option (List ℕ)) × (mid : ServedState M)
    × BreaksOff p s.left s.sent shelf left u.sent mid × IsNear p left mid shelf'))

-- a connection that was served to its end, which had received nothing yet that wasn't looked at
abbrev pub Served : {R M : Type 0} → Protocol R M → Traffic → ServedState M → Traffic
    → ServedState M → Type 0
Served p t old u new =
    (left : Option (List ℕ)) × TurnsGo p t.coming t.sent old left u.sent new × IsOver p.reading left

-- one on which a call has failed
abbrev pub Cut : {R M : Type 0} → Protocol R M → Traffic → ServedState M → Traffic
    → ServedState M → Type 0
Cut p t old u new = (left : Option (List ℕ)) × BreaksOff p t.coming t.sent old left u.sent new

-- one for which there was no memory
abbrev pub Lacking : {R M : Type 0} → Protocol R M → Traffic → ServedState M → Traffic
    → ServedState M → Type 0
Lacking {R} {M} p t old u new =
    (left : Option (List ℕ)) × (mid : ServedState M)
    × BreaksOff p t.coming t.sent old left u.sent mid × IsNear p left mid new
