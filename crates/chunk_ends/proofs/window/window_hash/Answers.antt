use Rattle.std.proofs.Common.{◌≡◌, ap, ◌∙◌, fold, map, bit_xor, arith, ◌-◌}
use Rattle.std.specs.Int.{w32, rotate_left}
use Rattle.std.specs.List.{range_with_len}
use Rattle.chunk_ends.proofs.Windows.{hash_more}
use Rattle.chunk_ends.specs.Window.{turned, window_hash}
use Rattle.chunk_ends.proofs.window.window_hash.Goals as goal

pub loop-i-preserved : goal.loop-i-preserved
loop-i-preserved c = hash_more c.args.window.now c.loop-i.i c.loop-i.hash _ c.loop-i.invariant (c.rotate_left-hash.ensures ∙ ap (λ w. rotate_left w32 w (47 - c.loop-i.i)) c.word_of.ensures.value)

pub returns : goal.returns
unfolding window_hash
returns c = let all : c.loop-i.i ≡ 48 = omega arith in record { value = c.loop-i.invariant ∙ ap (λ n. fold bit_xor 0 (map (turned c.args.window.now) (range_with_len 0 n))) all }
