-- What is found in a shelf's folder.
use Rattle.std.proofs.Common.{◌≡◌, ℕ, ◌≤◌, List, length, take, Some, sym, ap, ◌∙◌}
use Rattle.chunk_store.specs.declared.shows.Shows.{Shows}
use Rattle.dsy_base.specs.Maps.{Map}
use Rattle.store_chain.specs.Giving.{HoldsElse}
use Rattle.store_chain.specs.Queries.{ShowsElse}
use Rattle.store_chain.specs.declared.query.Query.{Query}

-- bytes that are held under the id that is asked for, and show something else
pub else_held : (w : Query) (m : Map (List ℕ)) (x : Shows) (n : ℕ) (b out : List ℕ) → b ≡ take n out → ShowsElse w b x
    → (n ≤ length out) × (m w.id.0 ≡ Some (take n out)) → HoldsElse w x m
else_held w m x n b out same else read = (b, read.1 ∙ ap Some (sym same), else)
