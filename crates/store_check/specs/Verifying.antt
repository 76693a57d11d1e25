-- What checking a folder store finds, prints and removes. m are the folder's files by their names.
use Rattle.std.specs.Prelude.{◌≡◌, ◌⊎◌, ℕ, ◌-◌, ◌≤◌, Bool, true, not, cond, ◌||◌, false, List, [], ◌∷◌, ◌++◌, length}
use Rattle.std.specs.Prelude.{take, map, nat_lt, codes, Option, Some, None, IfSome, Result, Ok, Err}
use Rattle.std.specs.List.{filter, flat_map}
use Rattle.std.specs.Option.{option_map}
use Rattle.std.specs.Str.{bytes_eq}
use Rattle.caibx_fields.specs.Limits.{size_limit}
use Rattle.chunk_store.specs.Folders.{chunks}
use Rattle.chunk_store.specs.Digests.{digest_of}
use Rattle.chunk_store.specs.Paths.{path_of}
use Rattle.chunk_store.specs.declared.id.ChunkId.{ChunkId}
use Rattle.chunk_store.specs.declared.id.DigestKind.{DigestKind}
use Rattle.dir_store.specs.Lists.{IsIdsOf}
use Rattle.dsy_base.specs.Disk.{PutsFront}
use Rattle.dsy_base.specs.Maps.{Map}
use Rattle.hex.specs.Hex.{encode_lower}
use Rattle.verify_tool.specs.Pruning.{without}
use Rattle.store_check.specs.declared.verify.StoreCheck.{StoreCheck}

-- whether there are bytes, and they aren't the chunk of this id: too many, or of another digest
abbrev pub is_wrong : DigestKind → List ℕ → Option (List ℕ) → Bool
is_wrong kind id None = false
is_wrong kind id (Some b) = nat_lt size_limit (length b) || not (bytes_eq (digest_of kind b) id)

-- whether a chunk file lies under the id, and is damaged
abbrev pub is_damaged : DigestKind → Map (List ℕ) → List ℕ → Bool
is_damaged kind m id = is_wrong kind id (chunks m id)

-- the ids of all damaged chunk files, in the order of their bytes
pub record AreDamaged (kind : DigestKind) (m : Map (List ℕ)) (damaged : List (List ℕ)) : Type 0 where
  pub ids : List ChunkId
  pub all : IsIdsOf m ids
  pub only : damaged ≡ filter (is_damaged kind m) (map (λ id. id.0) ids)

-- the line of a damaged chunk file, which is removed first with `repair`
abbrev pub line_of_damaged : Bool → List ℕ → List ℕ
line_of_damaged repair id = cond repair (codes "removed ") (codes "damaged ") ++ (encode_lower id ++ 10 ∷ [])

-- the lines of damaged chunk files
abbrev pub text_of_damaged : Bool → List (List ℕ) → List ℕ
text_of_damaged repair ids = flat_map (line_of_damaged repair) ids

-- the files that are left of `old` once the damaged ones of these ids were found
abbrev pub left_of : Bool → List (List ℕ) → Option (Map (List ℕ)) → Option (Map (List ℕ))
left_of repair ids old = cond repair (option_map (without (map path_of ids)) old) old

-- how many of them are damaged still
abbrev pub damaged_left : Bool → List (List ℕ) → ℕ
damaged_left repair ids = cond repair 0 (length ids)

-- the files and what the sink has taken, before and after
pub record Change : Type 0 where
  pub old : Option (Map (List ℕ))
  pub new : Option (Map (List ℕ))
  pub before : Option (List ℕ)
  pub taken : Option (List ℕ)

-- nothing was removed, and nothing put
pub record IsUntouched (c : Change) : Type 0 where
  pub files : c.new ≡ c.old
  pub text : c.taken ≡ c.before

-- the damaged files of these ids were told, and removed with `repair`
pub record AreTold (repair : Bool) (ids : List (List ℕ)) (c : Change) : Type 0 where
  pub files : c.new ≡ left_of repair ids c.old
  pub text : c.taken ≡ option_map (λ t. t ++ text_of_damaged repair ids) c.before

-- all damaged files were told, and removed with `repair`. n of them are left
pub record IsStoreChecked (kind : DigestKind) (repair : Bool) (n : ℕ) (c : Change) : Type 0 where
  pub damaged : List (List ℕ)
  pub all : IfSome c.old (λ m. AreDamaged kind m damaged)
  pub told : AreTold repair damaged c
  pub left : n ≡ damaged_left repair damaged

-- of the damaged files the first `count` were found before a refusal, and the sink has the lines of all of these but
-- of the last, whose line may be cut short
pub record IsStopped (kind : DigestKind) (repair : Bool) (c : Change) : Type 0 where
  pub damaged : List (List ℕ)
  pub all : IfSome c.old (λ m. AreDamaged kind m damaged)
  pub count : ℕ
  pub inside : count ≤ length damaged
  pub files : c.new ≡ left_of repair (take count damaged) c.old
  pub size : ℕ
  pub from : length (text_of_damaged repair (take (count - 1) damaged)) ≤ size
  pub to : size ≤ length (text_of_damaged repair (take count damaged))
  pub text : c.taken ≡ option_map (λ t. t ++ take size (text_of_damaged repair damaged)) c.before

-- what a refusal leaves
abbrev pub StopsVerifying : DigestKind → Bool → Change → Type 0
StopsVerifying kind repair c = IsUntouched c ⊎ IsStopped kind repair c

-- of one chunk file: it was damaged, and told but for a part of its line
pub record IsCutShort (kind : DigestKind) (repair : Bool) (id : List ℕ) (c : Change) : Type 0 where
  pub damaged : IfSome c.old (λ m. is_damaged kind m id ≡ true)
  pub files : c.new ≡ left_of repair (id ∷ []) c.old
  pub text : PutsFront (line_of_damaged repair id) c.before c.taken

-- the ids of those that were found, where one was looked at
abbrev pub found_at : List ℕ → Bool → List (List ℕ)
found_at id b = cond b (id ∷ []) []

-- what is answered of one chunk file, and what was done
abbrev pub ChecksFile : DigestKind → Bool → List ℕ → Change → Result Bool StoreCheck → Type 0
ChecksFile kind repair id c (Ok b) = IfSome c.old (λ m. b ≡ is_damaged kind m id) × AreTold repair (found_at id b) c
ChecksFile kind repair id c (Err fault) = IsUntouched c ⊎ IsCutShort kind repair id c
