-- What connections in memory tell.
use Rattle.std.specs.Prelude.{ℕ, List, [], ◌∷◌, ◌++◌, take, drop, map, Some, Vec}
use Rattle.std.specs.List.{flat_map}
use Rattle.dsy_base.specs.Links.{Traffic, LinkState, DialState, ListenState}
use Rattle.link_forms.specs.declared.mem_link.MemLink.{MemLink}
use Rattle.link_forms.specs.declared.mem_dial.MemDial.{MemDial}
use Rattle.link_forms.specs.declared.mem_listen.MemListen.{MemListen}
use Rattle.link_forms.specs.declared.open_link.Ended.{Ended, Nothing, Link'}

-- all bytes of the pieces, one piece after the other
abbrev pub bytes_in_pieces : {Z : Type 0} → List (Vec ℕ Z) → List ℕ
bytes_in_pieces pieces = flat_map (λ p. p.items) pieces

-- what has come after this many pieces were passed and this many bytes of the others were read, and what hasn't
abbrev pub come : {Z : Type 0} → List (Vec ℕ Z) → ℕ → ℕ → List ℕ
come pieces piece at = bytes_in_pieces (take piece pieces) ++ take at (bytes_in_pieces (drop piece pieces))

-- the bytes of the pieces from offset `at` of this piece on
abbrev pub to_come : {Z : Type 0} → List (Vec ℕ Z) → ℕ → ℕ → List ℕ
to_come pieces piece at = drop at (bytes_in_pieces (drop piece pieces))

-- the bytes of a connection in memory: what came, what is to come, and what was sent
abbrev pub traffic_of : MemLink → Traffic
traffic_of l = record {
  received = come l.pieces.items l.piece l.at;
  coming = to_come l.pieces.items l.piece l.at;
  sent = l.sent.items;
}

-- the same before anything came or went
abbrev pub fresh_traffic : MemLink → Traffic
fresh_traffic l = record { received = []; coming = bytes_in_pieces l.pieces.items; sent = [] }

-- a connection in memory: its bytes and its count of faults
abbrev pub link_of : MemLink → LinkState
link_of l = record { traffic = Some (traffic_of l); faults = l.faults }

-- ---- connections in order

-- those that have ended
abbrev pub traffics_of : Ended → List Traffic
traffics_of Nothing = []
traffics_of (Link' l p rest) = traffic_of l ∷ traffics_of rest

-- the connections that have ended, each with its count
abbrev pub states_of : Ended → List LinkState
states_of Nothing = []
states_of (Link' l p rest) = link_of l ∷ states_of rest

-- a dialer in memory: the connections that have ended, and its count of faults
abbrev pub dial_of : MemDial → DialState
dial_of d = record { ended = Some (traffics_of d.ended); faults = d.faults }

-- a listener in memory: the connections to come, those that have ended, and its count of faults
abbrev pub listen_state : MemListen → ListenState
listen_state l = record {
  coming = Some (map fresh_traffic (drop l.next l.links.items));
  ended = Some (states_of l.ended);
  faults = l.faults;
}
