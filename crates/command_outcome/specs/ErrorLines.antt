-- The line that tells a person how a command ended: `desync: `, a text and a line feed. Numbers are decimal, an id is
-- its 64 digits in lower case, and a name stands as it is.
use Rattle.std.specs.Prelude.{ℕ, List, [], ◌∷◌, ◌++◌, codes}
use Rattle.std.specs.Fmt.{decimal}
use Rattle.hex.specs.Hex.{encode_lower}
use Rattle.chunk_ends.specs.declared.sizes.SizeFault.{SizeFault}
use Rattle.chunk_ends.specs.declared.sizes.SizeFault.TheVariants as sizes
use Rattle.caibx_fields.specs.declared.fault.IndexFault.{IndexFault}
use Rattle.caibx_fields.specs.declared.fault.IndexFault.TheVariants as bad
use Rattle.command_outcome.specs.declared.outcome.Outcome.{Outcome}
use Rattle.command_outcome.specs.declared.outcome.Outcome.TheVariants as ends
use Rattle.command_words.specs.declared.usage.UsageWhy.{UsageWhy}
use Rattle.command_words.specs.declared.usage.UsageWhy.TheVariants as usage

-- why words are no command: the variant's name
abbrev pub why_text : UsageWhy → List ℕ
why_text usage.NoCommand = codes "NoCommand"
why_text usage.UnknownCommand = codes "UnknownCommand"
why_text usage.UnknownOption = codes "UnknownOption"
why_text usage.TooMany = codes "TooMany"
why_text usage.NoValue = codes "NoValue"
why_text usage.Empty = codes "Empty"
why_text usage.BadNumber = codes "BadNumber"
why_text usage.BadSizes = codes "BadSizes"
why_text usage.BadLocation = codes "BadLocation"
why_text usage.NeedsFolder = codes "NeedsFolder"
why_text usage.BadSeed = codes "BadSeed"
why_text usage.BadListen = codes "BadListen"
why_text usage.BadDigest = codes "BadDigest"
why_text usage.MissingOption = codes "MissingOption"
why_text usage.NeedsYes = codes "NeedsYes"
why_text usage.Operands = codes "Operands"
why_text usage.ReadOnly = codes "ReadOnly"

-- why images can't be cut by the sizes: the variant's name
abbrev pub size_text : SizeFault → List ℕ
size_text sizes.MinTooSmall = codes "MinTooSmall"
size_text sizes.Order = codes "Order"
size_text sizes.AvgTooLarge = codes "AvgTooLarge"
size_text sizes.MaxTooLarge = codes "MaxTooLarge"

-- why bytes are no index file
abbrev pub fault_text : IndexFault → List ℕ
fault_text (bad.Truncated at) = codes "truncated at byte " ++ decimal at
fault_text bad.Head = codes "no index head"
fault_text bad.Table = codes "no table head"
fault_text bad.Tail = codes "bad table tail"
fault_text bad.Trailing = codes "bytes after the tail"
fault_text (bad.MaxSize max) = codes "greatest size " ++ (decimal max ++ codes " is over the limit")
fault_text bad.Items = codes "too many entries"
fault_text (bad.Order entry) = codes "entry " ++ (decimal entry ++ codes " ends out of order")
fault_text (bad.TooLarge entry size) =
    codes "entry " ++ (decimal entry ++ (codes " has " ++ (decimal size ++ codes " bytes")))

-- how a command ended that isn't done
abbrev pub text_of : Outcome → List ℕ
text_of ends.Done = []
text_of (ends.Usage place why) = codes "word " ++ (decimal place ++ (codes ": " ++ why_text why))
text_of (ends.NoFile name) = name ++ codes ": no such file"
text_of (ends.NoFolder name) = name ++ codes ": no such folder"
text_of (ends.BadIndex name fault) = name ++ (codes ": bad index: " ++ fault_text fault)
text_of (ends.Sizes why) = codes "bad chunk sizes: " ++ size_text why
text_of (ends.Missing entry id) =
    codes "chunk " ++ (encode_lower id.0 ++ (codes " of entry " ++ (decimal entry ++ codes " is missing")))
text_of (ends.Damaged entry id store shows) =
    codes "chunk " ++ (encode_lower id.0
    ++ (codes " of entry " ++ (decimal entry ++ (codes " is damaged in store " ++ decimal store.number))))
text_of (ends.Mismatch entry got) =
    codes "entry " ++ (decimal entry ++ (codes " has the name " ++ encode_lower got.0))
text_of (ends.Length size) = codes "the file has " ++ (decimal size ++ codes " bytes")
text_of (ends.Changed entry was got) = codes "the image changed at entry " ++ decimal entry
text_of (ends.StoreFault store) = codes "store " ++ (decimal store ++ codes " failed")
text_of ends.CacheFault = codes "the cache failed"
text_of ends.TargetFault = codes "the target failed"
text_of (ends.FileFault name) = name ++ codes ": failed"
text_of ends.OutFault = codes "the output failed"
text_of ends.ImageFault = codes "the image failed"
text_of ends.ListenFault = codes "the listener failed"
text_of (ends.DamagedLeft count) = codes "damaged chunks left: " ++ decimal count
text_of ends.TooManyItems = codes "too many chunks"
text_of ends.Memory = codes "no memory"

-- the name that an outcome tells
abbrev pub name_in : Outcome → List ℕ
name_in (ends.NoFile name) = name
name_in (ends.NoFolder name) = name
name_in (ends.BadIndex name fault) = name
name_in (ends.FileFault name) = name
name_in other = []

-- the line with this text
unfoldable pub line_of : List ℕ → List ℕ
line_of text = codes "desync: " ++ (text ++ 10 ∷ [])

-- the whole line. What is done has none
abbrev pub error_line_of : Outcome → List ℕ
error_line_of ends.Done = []
error_line_of other = line_of (text_of other)
