-- How the body of a reply is taken.
use Rattle.std.specs.Prelude.{◌≡◌, ℕ, ◌-◌, ◌<◌, ◌≤◌, List, [], length, take, drop}
use Rattle.dsy_base.specs.Links.{Traffic}
use Rattle.http_frames.specs.declared.body.BodyKind.{BodyKind}
use Rattle.http_frames.specs.declared.body.BodyKind.TheVariants as kind
use Rattle.http_fetch.specs.Fetching.{GivesBody}

-- the body has this many bytes, which follow the head
abbrev pub HasToldSize : BodyKind → ℕ → Type 0
HasToldSize kind.None size = size ≡ 0
HasToldSize (kind.Length n) size = size ≡ n
HasToldSize kind.Chunked size = ⊥
HasToldSize kind.ToEnd size = ⊥

-- of a body of this size, what has come of it was taken, and so many bytes are still to come
pub record TakesBodyFront (Taken : List ℕ → Type 0) (head size left : ℕ) (t : Traffic) : Type 0 where
  pub inside : head ≤ length t.received
  pub taken : Taken (take size (drop head t.received))
  pub missing : left ≡ size - length (drop head t.received)

-- no more comes of it, and it isn't whole
pub record IsShort (head size : ℕ) (t : Traffic) : Type 0 where
  pub few : length (drop head t.received) < size
  pub ended : t.coming ≡ []

-- the body of a 200 has at most this many bytes, and was taken
pub record TakesBody (most : ℕ) (Taken : List ℕ → Type 0) (t : Traffic) : Type 0 where
  pub bytes : List ℕ
  pub body : GivesBody most t bytes
  pub taken : Taken bytes
