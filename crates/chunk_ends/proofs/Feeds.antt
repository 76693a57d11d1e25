-- What a cutter was given, one piece on.
use Rattle.std.proofs.Common.{◌≡◌, ℕ, ◌+◌, ◌-◌, ◌<◌, ◌≤◌, List, [], ◌∷◌, ◌++◌, length, take, drop, true, false, None, refl, sym, ap, subst, ◌∙◌, arith, inl, inr, length-append, length-drop, append_assoc, append-nil}
use Rattle.std.proofs.Math.Seq.{take-append-add, take-length}
use Rattle.std.proofs.Math.ListN.{drop_of_length-le}
use Rattle.std.proofs.lemmas.Bool.{cases_lt}
use Rattle.std.proofs.lemmas.List.{length-take-le, drop-append-le, take-append-le, take_all}
use Rattle.chunk_ends.proofs.Closed.{closed_on, closed_more}
use Rattle.chunk_ends.proofs.Seams.{window_on, take-take-le}
use Rattle.chunk_ends.specs.Cuts.{closes, window_of, IsCut}
use Rattle.chunk_ends.specs.Feeding.{CutterKept, EndsFirst, EndIn, AreClosed, WasFed}
use Rattle.chunk_ends.specs.Sizes.{Sizes}

module _ (c : CutterKept) (image : List ℕ) (fed : WasFed c image) where
  -- the chunk that is open
  abbrev chunk : List ℕ
  chunk = drop c.begun image

  length-chunk : length chunk ≡ c.at - c.begun
  length-chunk = omega (arith, length-drop c.begun image, fed.at)

  -- what follows goes on with it
  chunk_on : (more : List ℕ) → drop c.begun (image ++ more) ≡ chunk ++ more
  chunk_on more = drop-append-le c.begun image more fed.begun

  -- nothing ended in the chunk before, or in n bytes that follow it
  unended_on : (more : List ℕ) (n : ℕ) → ((k : ℕ) → 1 ≤ k → k < n → closes c.sizes (chunk ++ take k more) ≡ false)
      → (k : ℕ) → 1 ≤ k → k < length chunk + n → closes c.sizes (take k (chunk ++ more)) ≡ false
  unended_on more n none k some below = elim (cases_lt (length chunk) k) [
    | inr early ↦
        let at : k ≤ length image - c.begun = omega (arith, length-drop c.begun image) in
        ap (closes c.sizes) (take-append-le k chunk more early) ∙ fed.unended k some at
    | inl late ↦
        let j : ℕ = k - length chunk in
        let is : k ≡ length chunk + j = omega arith in
        ap (λ (i : ℕ). closes c.sizes (take i (chunk ++ more))) is ∙ ap (closes c.sizes) (take-append-add chunk more j) ∙ none j (omega arith) (omega arith)
  ]

  -- a piece was taken whole
  pub fed_whole : (piece : List ℕ) (d : CutterKept) → EndIn c.sizes chunk piece None → d.sizes ≡ c.sizes → d.at ≡ c.at + length piece → d.begun ≡ c.begun
      → d.last ≡ window_of (c.last ++ piece) → WasFed d (image ++ take (length piece) piece)
  fed_whole piece d none sizes at begun last =
      let all : image ++ take (length piece) piece ≡ image ++ piece = ap (λ (x : List ℕ). image ++ x) (take-length piece) in
      let whole : drop d.begun (image ++ piece) ≡ chunk ++ piece = ap (λ (n : ℕ). drop n (image ++ piece)) begun ∙ chunk_on piece in
      let kept : AreClosed d.sizes (image ++ piece) 0 fed.reached.0 d.begun =
      subst (λ (s : Sizes). AreClosed s (image ++ piece) 0 fed.reached.0 d.begun) (sym sizes)
      (subst (AreClosed c.sizes (image ++ piece) 0 fed.reached.0) (sym begun) (closed_on c.sizes image piece 0 fed.reached.0 c.begun fed.reached.1)) in
      subst (WasFed d) (sym all) (record {
        reached = (fed.reached.0, kept);
        at = omega (arith, at, fed.at, length-append image piece);
        begun = omega (arith, begun, fed.begun, length-append image piece);
        last = last ∙ ap (λ (x : List ℕ). window_of (x ++ piece)) fed.last ∙ window_on chunk piece ∙ ap window_of (sym whole);
        unended = λ k some inside.
            let below : k < length chunk + (length piece + 1) = omega (arith, length-append image piece, length-drop c.begun image, begun, fed.begun) in
            ap (λ (x : List ℕ). closes d.sizes (take k x)) whole ∙ ap (λ (s : Sizes). closes s (take k (chunk ++ piece))) sizes ∙ unended_on piece (length piece + 1) (λ j low high. none j low (omega arith)) k some below;
      })

  -- that is where the image is cut, whatever follows
  pub cut_there : (piece more : List ℕ) (n e : ℕ) → EndsFirst c.sizes chunk piece n → e ≡ c.at + n
      → IsCut c.sizes (drop c.begun ((image ++ take n piece) ++ more)) (e - c.begun)
  cut_there piece more n e ends is =
      let rest : List ℕ = take n piece ++ more in
      let whole : drop c.begun ((image ++ take n piece) ++ more) ≡ chunk ++ rest =
      ap (drop c.begun) (append_assoc image (take n piece) more) ∙ chunk_on rest in
      let size : e - c.begun ≡ length chunk + n = omega (arith, length-chunk, fed.at, fed.begun) in
      let short : length (take n piece) ≡ n = length-take-le n piece ends.inside in
      let begins : (k : ℕ) → k ≤ n → take k rest ≡ take k piece =
      λ k le. take-append-le k (take n piece) more (omega (arith, short)) ∙ take-take-le k n piece le in
      let none = unended_on rest n (λ k some below. ap (λ (x : List ℕ). closes c.sizes (chunk ++ x)) (begins k (omega arith)) ∙ ends.least k some below) in
      let closed : closes c.sizes (take (length chunk + n) (chunk ++ rest)) ≡ true =
      ap (closes c.sizes) (take-append-add chunk rest n ∙ ap (λ (x : List ℕ). chunk ++ x) (begins n (omega arith))) ∙ ends.closed in
      let cut : IsCut c.sizes (chunk ++ rest) (length chunk + n) = record {
        some = omega (arith, ends.some);
        inside = omega (arith, length-append chunk rest, length-append (take n piece) more, short);
        least = none;
        closed = inl closed;
      } in
      subst (λ (x : List ℕ). IsCut c.sizes x (e - c.begun)) (sym whole) (subst (IsCut c.sizes (chunk ++ rest)) (sym size) cut)

  -- a chunk ended
  pub fed_end : (piece : List ℕ) (n : ℕ) (d : CutterKept) → EndsFirst c.sizes chunk piece n → d.sizes ≡ c.sizes → d.at ≡ c.at + n → d.begun ≡ c.at + n → d.last ≡ []
      → WasFed d (image ++ take n piece)
  fed_end piece n d ends sizes at begun last =
      let inside : n ≤ length piece = ends.inside in
      let long : length (image ++ take n piece) ≡ c.at + n = omega (arith, length-append image (take n piece), length-take-le n piece inside, fed.at) in
      let nothing : drop d.begun (image ++ take n piece) ≡ [] = drop_of_length-le (image ++ take n piece) (omega (arith, long, begun)) in
      let size : ℕ = c.at + n - c.begun in
      let after : List ℕ = image ++ take n piece in
      let cut : IsCut c.sizes (drop c.begun after) size = subst (λ (x : List ℕ). IsCut c.sizes (drop c.begun x) size) (append-nil after) (cut_there piece [] n (c.at + n) ends refl) in
      let open_chunk : drop c.begun after ≡ chunk ++ take n piece = chunk_on (take n piece) in
      let all : take size (drop c.begun after) ≡ chunk ++ take n piece =
      take_all size (drop c.begun after) (omega (arith, ap length open_chunk, length-append chunk (take n piece), length-take-le n piece inside, length-chunk, fed.begun, fed.at)) ∙ open_chunk in
      let up : c.begun + size ≡ d.begun = omega (arith, begun, fed.begun, fed.at) in
      let more = closed_more c.sizes after 0 fed.reached.0 c.begun size (closed_on c.sizes image (take n piece) 0 fed.reached.0 c.begun fed.reached.1) cut (ap (closes c.sizes) all ∙ ends.closed) in
      let reached : AreClosed d.sizes after 0 (fed.reached.0 ++ (c.begun + size) ∷ []) d.begun =
      subst (λ (s : Sizes). AreClosed s after 0 (fed.reached.0 ++ (c.begun + size) ∷ []) d.begun) (sym sizes)
      (subst (AreClosed c.sizes after 0 (fed.reached.0 ++ (c.begun + size) ∷ [])) up more) in
      record {
        at = omega (arith, at, long);
        reached = (fed.reached.0 ++ (c.begun + size) ∷ [], reached);
        begun = omega (arith, begun, long);
        last = last ∙ ap window_of (sym nothing);
        unended = λ k some below. absurd (omega (arith, long, begun));
      }

  -- the last chunk ends with the image
  pub cut_last : (e : ℕ) → c.begun < c.at → e ≡ c.at → IsCut c.sizes (drop c.begun image) (e - c.begun)
  cut_last e some is =
      let size : e - c.begun ≡ length chunk = omega (arith, length-chunk) in
      record {
        some = omega arith;
        inside = omega (arith, size);
        least = λ k low below. fed.unended k low (omega (arith, length-drop c.begun image, size));
        closed = inr size;
      }
