-- Entries that are dealt among workers, who each ask for their own. l lists the chunks. A function gives for each entry
-- the number of its worker, its owner: 0 is the first worker, and each further one has the next number.
use Rattle.std.specs.Prelude.{◌≡◌, ◌&&◌, ℕ, zero, suc, ◌+◌, ◌<◌, ◌≤◌, Bool, true, false, List, [], ◌∷◌, length}
use Rattle.std.specs.Prelude.{nat_eq, slice_index_or, Option, None, IfSome}
use Rattle.std.specs.List.{AllZip}
use Rattle.std.specs.Str.{bytes_eq}
use Rattle.caibx_codec.specs.Listing.{Listing, count_of, id_of}
use Rattle.dsy_base.specs.Maps.{Map}
use Rattle.store_chain.specs.Chains.{Chained}

-- the owners by a list of them, in which those that it lacks are 0
abbrev pub owner_of : List ℕ → ℕ → ℕ
owner_of owners i = slice_index_or owners i 0

-- nothing is held under the ids of entries of further workers, where it is told
abbrev pub DealsLacking : Listing → Option (Map (List ℕ)) → (ℕ → ℕ) → Type 0
DealsLacking l held owner = IfSome held (λ m. (i : ℕ) → i < count_of l → 0 < owner i → m (id_of l i) ≡ None)

-- the entry lists the id
abbrev pub lists_id : Listing → List ℕ → ℕ → Bool
lists_id l q i = bytes_eq (id_of l i) q

-- any entry is picked
abbrev pub any_entry : ℕ → Bool
any_entry i = true

-- one, where it is so
abbrev pub once_if : Bool → ℕ
once_if true = 1
once_if false = 0

-- how many of the first n entries that are picked are those of worker k
abbrev pub dealt_times : (ℕ → ℕ) → (ℕ → Bool) → ℕ → ℕ → ℕ
dealt_times owner picks k zero = 0
dealt_times owner picks k (suc n) = dealt_times owner picks k n + once_if (nat_eq (owner n) k && picks n)

-- each store of worker k was asked for each id at most once for each of its entries among the first n that list it, and
-- the chain counts at most as many calls more as there are such entries
pub record AsksOwn {S : Type 0} (asked : S → List ℕ → ℕ) (l : Listing) (owner : ℕ → ℕ) (k n : ℕ) (c d : Chained S)
    : Type 0 where
  pub gets : AllZip (λ a b. (q : List ℕ) → asked b q ≤ asked a q + dealt_times owner (lists_id l q) k n)
      c.stores d.stores
  pub calls : d.asks ≤ c.asks + dealt_times owner any_entry k n

-- it holds of each worker, of which the first has number m
abbrev pub ByNumber : {X : Type 0} → (ℕ → X → X → Type 0) → ℕ → List X → List X → Type 0
ByNumber R m [] [] = Unit {0}
ByNumber R m [] (y ∷ ys) = ⊥
ByNumber R m (x ∷ xs) [] = ⊥
ByNumber R m (x ∷ xs) (y ∷ ys) = R m x y × ByNumber R (suc m) xs ys

-- ---- all workers together

-- the first n numbers together
abbrev pub sum_to : (ℕ → ℕ) → ℕ → ℕ
sum_to f zero = 0
sum_to f (suc n) = sum_to f n + f n

-- each worker has a share, and together these are at most `times`: each store of a worker was asked for each id at most
-- as often as the worker's share says
pub record AsksInShares {S : Type 0} (asked : S → List ℕ → ℕ) (times : List ℕ → ℕ) (cs ds : List (Chained S))
    : Type 0 where
  pub shares : ℕ → List ℕ → ℕ
  pub together : (q : List ℕ) → sum_to (λ k. shares k q) (length cs) ≤ times q
  pub gets : ByNumber (λ k c d. AllZip (λ a b. (q : List ℕ) → asked b q ≤ asked a q + shares k q) c.stores d.stores) 0
      cs ds

-- how many calls the chains count together
abbrev pub all_calls : {S : Type 0} → List (Chained S) → ℕ
all_calls [] = 0
all_calls (c ∷ cs) = c.asks + all_calls cs
