use Rattle.std.proofs.Common.{subst, sym, ap, ◌∙◌, ◌++◌, ◌∷◌, take, arith}
use Rattle.std.specs.Str.{IsAscii}
use Rattle.chunk_store.proofs.Paths.{digits_ascii, path_is}
use Rattle.std.specs.List.{list_all}
use Rattle.std.specs.Bool.{IsTrue}
use Rattle.dsy_base.specs.Folders.{IsChunkPath, is_digit}
use Rattle.hex.specs.Hex.{encode_lower, lower_digits}
use Rattle.hex.proofs.HexLemmas.{length-encode_with}
use Rattle.chunk_store.proofs.id.ChunkId.path.Goals as goal

pub of-requires : goal.of-requires
of-requires c = subst IsAscii (sym c.to_hex.ensures.value) (digits_ascii c.args.self.now.0)

pub returns : goal.returns
unfolding IsChunkPath
returns c = record {
  value = c.of.ensures.value ∙ ap (λ ds. take 4 ds ++ 47 ∷ ds) c.to_hex.ensures.value ∙ path_is c.args.self.now.0 (omega arith);
  digits = (
    encode_lower c.args.self.now.0,
    omega (arith, length-encode_with lower_digits c.args.self.now.0),
    subst (λ ds. IsTrue (list_all is_digit ds)) c.to_hex.ensures.value c.to_hex.ensures.digits,
    c.of.ensures.value ∙ ap (λ ds. take 4 ds ++ 47 ∷ ds) c.to_hex.ensures.value,
  );
}
