-- How a chunked body is spelled (RFC 9112, section 7.1).
use Rattle.std.specs.Prelude.{◌≡◌, ◌≢◌, ℕ, ◌<◌, ◌≤◌, List, [], ◌∷◌, ◌++◌, length}
use Rattle.std.specs.List.{flat_map}
use Rattle.httparse.specs.Grammar.{ChunkLine, print_chunk_line, IsChunkLine, chunk_size}
use Rattle.http_frames.specs.Body.{line_limit, trailer_limit}

-- a chunk: the line that tells its size, and its bytes
pub record WireChunk : Type 0 where
  pub line : ChunkLine
  pub bytes : List ℕ

-- how a chunk is spelled: its size line, its bytes and CR LF
abbrev pub print_chunk : WireChunk → List ℕ
print_chunk c = print_chunk_line c.line ++ (c.bytes ++ 13 ∷ 10 ∷ [])

-- the bytes of a chunk
abbrev pub chunk_data : WireChunk → List ℕ
chunk_data c = c.bytes

-- a line that isn't too long
pub record IsSizeLine (l : ChunkLine) : Type 0 where
  pub line : IsChunkLine l
  pub short : length (print_chunk_line l) ≤ line_limit

-- a chunk that isn't empty, and whose line tells its size
pub record IsWireChunk (c : WireChunk) : Type 0 where
  pub line : IsSizeLine c.line
  pub some : 0 < length c.bytes
  pub size : chunk_size c.line ≡ length c.bytes

-- each of them is a chunk
abbrev pub AreWireChunks : List WireChunk → Type 0
AreWireChunks [] = Unit {0}
AreWireChunks (c ∷ cs) = IsWireChunk c × AreWireChunks cs

-- no byte is LF
abbrev pub HasNoFeed : List ℕ → Type 0
HasNoFeed [] = Unit {0}
HasNoFeed (b ∷ bs) = (b ≢ 10) × HasNoFeed bs

-- a line of the trailer (section 7.1.2) without its end: it isn't empty, has no LF, and doesn't begin with CR
abbrev pub IsTrailerLine : List ℕ → Type 0
IsTrailerLine [] = ⊥
IsTrailerLine (b ∷ bs) = (b ≢ 13) × HasNoFeed (b ∷ bs)

-- each of them is a line of a trailer
abbrev pub AreTrailerLines : List (List ℕ) → Type 0
AreTrailerLines [] = Unit {0}
AreTrailerLines (l ∷ ls) = IsTrailerLine l × AreTrailerLines ls

-- a line with CR LF behind it
abbrev pub print_line : List ℕ → List ℕ
print_line l = l ++ 13 ∷ 10 ∷ []

-- the lines of a trailer, and an empty one
abbrev pub trailer : List (List ℕ) → List ℕ
trailer ls = flat_map print_line ls ++ 13 ∷ 10 ∷ []

-- lines of a trailer, which have at most 16,384 bytes together with the empty line
pub record IsTrailer (ls : List (List ℕ)) : Type 0 where
  pub lines : AreTrailerLines ls
  pub short : length (trailer ls) ≤ trailer_limit

-- the chunks, a last one of size 0, and a trailer
abbrev pub chunked_spelling : List WireChunk → ChunkLine → List (List ℕ) → List ℕ
chunked_spelling cs last ls = flat_map print_chunk cs ++ (print_chunk_line last ++ trailer ls)
