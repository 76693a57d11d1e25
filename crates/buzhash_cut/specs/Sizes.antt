-- The sizes of chunks, in bytes.
pub use Rattle.chunk_ends.specs.Sizes.{Sizes, AreSizes, size_fault, SizesGiven}
