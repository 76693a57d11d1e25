-- The first fault of an index.
use Rattle.std.specs.Prelude.{◌≡◌, ℕ, ◌+◌, ◌-◌, List, [], ◌∷◌, length, nat_lt, nat_le, if◌then◌else◌, Option, Some}
use Rattle.std.specs.Prelude.{None, Result, Ok, Err}
use Rattle.caibx_fields.specs.declared.fault.IndexFault.{IndexFault}
use Rattle.caibx_fields.specs.declared.fault.IndexFault.TheVariants as faults
use Rattle.caibx_fields.specs.Limits.{size_limit, item_limit}
use Rattle.caibx_codec.specs.Listing.{Listing}

-- of the entries from number k on, after one that ends at `start`
abbrev pub entry_fault : ℕ → ℕ → ℕ → List (ℕ × List ℕ) → Option IndexFault
entry_fault greatest k start [] = None
entry_fault greatest k start (e ∷ es) =
    if nat_le e.0 start then Some (faults.Order k)
    else if nat_lt greatest (e.0 - start) then Some (faults.TooLarge k (e.0 - start))
    else entry_fault greatest (k + 1) e.0 es

-- of a whole index, in the order in which its fields are judged
abbrev pub index_fault : Listing → Option IndexFault
index_fault l =
    if nat_lt size_limit l.greatest then Some (faults.MaxSize l.greatest)
    else if nat_lt item_limit (length l.entries) then Some faults.Items
    else entry_fault l.greatest 0 0 l.entries

-- an index is made of what has no fault, and else its first fault is the answer
abbrev pub Judged : Listing → Result Listing IndexFault → Type 0
Judged l (Ok made) = (index_fault l ≡ None) × (made ≡ l)
Judged l (Err f) = index_fault l ≡ Some f
