-- What a shelf's steps keep of the first files.
use Rattle.std.proofs.Common.{◌≡◌, ℕ, ◌≤◌, List, length, Bool, true, false, not, ◌&&◌, cond, Option, Some, None, IfSome, IfOk, IsTrue, Result, Ok, Err, ◌↔◌, is_none, refl, sym, ap, subst, ◌∙◌, inl, inr}
use Rattle.std.specs.Prelude.{OnErr}
use Rattle.std.specs.Option.{option_map}
use Rattle.std.specs.Str.{bytes_eq}
use Rattle.std.proofs.lemmas.Slice.Eq.{bytes_eq-Decides}
use Rattle.chunk_server.specs.Answers.{Answer, files_after}
use Rattle.chunk_server.specs.FileReads.{FileRead}
use Rattle.chunk_server.specs.Reads.{ReadsFile}
use Rattle.chunk_server.specs.Shelves.{AreAlikeButTemporaries, ServedFolder, ServesOrFails, answer_in}
use Rattle.http_serve.specs.declared.service.Reply.{Reply}
use Rattle.chunk_store.specs.Folders.{chunks}
use Rattle.chunk_store.specs.Digests.{IsId, digest_of}
use Rattle.chunk_store.specs.Paths.{path_of}
use Rattle.chunk_store.specs.declared.id.ChunkId.{ChunkId}
use Rattle.chunk_store.specs.declared.id.DigestKind.{DigestKind}
use Rattle.dir_store.specs.Names.{id_at_path, is_temporary}
use Rattle.dsy_base.proofs.Counts.{at_other}
use Rattle.dsy_base.specs.Folders.{put_in, temporary_of}
use Rattle.dsy_base.specs.Maps.{Map, at_name}
use Rattle.dsy_base.specs.declared.fault.Memory.{Memory}
use Rattle.caibx_fields.specs.Limits.{size_limit}
use Rattle.http_wire.specs.declared.request.Act.TheVariants as act
use Rattle.locked_shelf.specs.Keepings.{KeepsOpening, IsPuttable, KeepsChunks, HoldsFor}
use Rattle.locked_shelf.specs.Replies.{ReadsKept}

pub kept_first : (kind : DigestKind) (opening files : Option (Map (List ℕ))) → IfSome opening (λ first. files ≡ Some first) → IfSome opening (λ first. KeepsOpening kind first files)
kept_first kind None files h = tt
kept_first kind (Some first) files h = subst (KeepsOpening kind first) (sym h) (record { ids = λ id. inl refl; strangers = λ q s. refl })

-- the first files keep themselves
pub kept_self : (kind : DigestKind) (o : Option (Map (List ℕ))) → IfSome o (λ first. KeepsOpening kind first o)
kept_self kind None = tt
kept_self kind (Some m) = record { ids = λ id. inl refl; strangers = λ q s. refl }

-- a name that is a stranger's is no temporary one, and no chunk's
stranger : (a b : Bool) → (not a && b) ≡ true → (a ≡ false) × (b ≡ true)
stranger true b h = absurd (cc)
stranger false b h = (refl, h)

true_false : true ≡ false → ⊥
true_false e = cc

none_some : (id : List ℕ) (o : Option (List ℕ)) → o ≡ Some id → is_none o ≡ true → ⊥
none_some id None e h = cc
none_some id (Some x) e h = cc

module _ (kind : DigestKind) (first : Map (List ℕ)) (no_temporary : (id : List ℕ) → is_temporary (path_of id) ≡ false) where
  kept_alike : (old new : Option (Map (List ℕ))) → AreAlikeButTemporaries old new → KeepsOpening kind first old → KeepsOpening kind first new
  kept_alike None new alike k = absurd k
  kept_alike (Some m) None alike k = absurd alike
  kept_alike (Some m) (Some n) alike k = record {
    ids = λ id. subst (HoldsFor kind id (chunks first id)) (sym (alike (path_of id) (no_temporary id))) (k.ids id);
    strangers = λ q s. alike q (stranger _ _ s).0 ∙ k.strangers q s;
  }

  -- a change of the files that keeps what holds of them
  kept_map : (f : Map (List ℕ) → Map (List ℕ)) → ((m : Map (List ℕ)) → KeepsChunks kind first m → KeepsChunks kind first (f m)) → (files : Option (Map (List ℕ))) → KeepsOpening kind first files → KeepsOpening kind first (option_map f files)
  kept_map f g None k = absurd k
  kept_map f g (Some m) k = g m k

  module _
      (names : (q id : List ℕ) → IsId id → path_of id ≡ q → id_at_path q ≡ Some id)
      (temporary : (q : List ℕ) → IsTrue (is_temporary (temporary_of q)))
      (holds : (id b : List ℕ) (m : Map (List ℕ)) → IsId id → chunks (put_in m (path_of id) b) ≡ at_name (chunks m) id (Some b)) where
    -- a right chunk was put
    kept_put : (id b : List ℕ) → IsId id → IsPuttable kind id b → (m : Map (List ℕ)) → KeepsChunks kind first m → KeepsChunks kind first (put_in m (path_of id) b)
    kept_put id b is right m k = record {
      ids = λ i. subst (HoldsFor kind i (chunks first i)) (sym (ap (λ (f : Map (List ℕ)). f i) (holds id b m is))) (under i (bytes_eq id i) refl);
      strangers = λ q s.
          let apart = stranger _ _ s in
          at_other (at_name m (temporary_of (path_of id)) None) (path_of id) (Some b) q (λ e. none_some id (id_at_path q) (names q id is (sym e)) apart.1)
          ∙ at_other m (temporary_of (path_of id)) None q (λ e. true_false (sym (temporary (path_of id)) ∙ (ap is_temporary (sym e) ∙ apart.0)))
          ∙ k.strangers q s;
    }
      where
        under : (i : List ℕ) (t : Bool) → bytes_eq id i ≡ t → HoldsFor kind i (chunks first i) (cond t (Some b) (chunks m i))
        under i true e = inr (b, refl, subst (λ j. IsPuttable kind j b) ((bytes_eq-Decides id i).0 e) right)
        under i false e = k.ids i

    put_if : (id b : List ℕ) → IsId id → length b ≤ size_limit → (t : Bool) → bytes_eq (digest_of kind b) id ≡ t → (m : Map (List ℕ)) → KeepsChunks kind first m → KeepsChunks kind first (cond t (put_in m (path_of id) b) m)
    put_if id b is few true e m k = kept_put id b is (record { named = (bytes_eq-Decides (digest_of kind b) id).0 e; few = few }) m k
    put_if id b is few false e m k = k

    -- a put
    kept_step : (id : ChunkId) (body : List ℕ) (r : Answer) (old new : ServedFolder) → IsId id.0 → length body ≤ size_limit → ServesOrFails kind old (act.Put id) body r new → KeepsOpening kind first old.files → KeepsOpening kind first new.files
    unfolding files_after
    kept_step id body r old new is few (inr fails) k = kept_alike old.files new.files fails.files k
    kept_step id body r old new is few (inl step) k = subst (KeepsOpening kind first) (sym step.files) (kept_map (λ m. cond (bytes_eq (digest_of kind body) id.0) (put_in m (path_of id.0) body) m) (put_if id.0 body is few (bytes_eq (digest_of kind body) id.0) refl) old.files k)

if_some : {P Q : Map (List ℕ) → Type 0} (o : Option (Map (List ℕ))) → ((m : Map (List ℕ)) → P m → Q m) → IfSome o P → IfSome o Q
if_some None f p = tt
if_some (Some m) f p = f m p

-- what holds behind the lock after a put
pub kept_after : (kind k : DigestKind) (opening : Option (Map (List ℕ))) (id : ChunkId) (body : List ℕ) (res : Result Reply Memory) (old new : ServedFolder)
    → ((id : List ℕ) → is_temporary (path_of id) ≡ false)
    → ((q id : List ℕ) → (id_at_path q ≡ Some id) ↔ (IsId id × (path_of id ≡ q)))
    → ((q : List ℕ) → IsTrue (is_temporary (temporary_of q)))
    → ((id b : List ℕ) (m : Map (List ℕ)) → IsId id → chunks (put_in m (path_of id) b) ≡ at_name (chunks m) id (Some b))
    → IsId id.0 → length body ≤ size_limit → k ≡ kind
    → IfOk res (λ r. ServesOrFails k old (act.Put id) body (answer_in r) new) → OnErr res (AreAlikeButTemporaries old.files new.files)
    → IfSome opening (λ first. KeepsOpening kind first old.files) → IfSome opening (λ first. KeepsOpening kind first new.files)
kept_after kind k opening id body (Ok r) old new none names temporary holds is few same ok err =
    let step = subst (λ (j : DigestKind). ServesOrFails j old (act.Put id) body (answer_in r) new) same ok in
    if_some opening (λ first h. kept_step kind first none (λ q id i p. (names q id).1 (i, p)) temporary holds id body (answer_in r) old new is few step h)
kept_after kind k opening id body (Err e) old new none names temporary holds is few same ok err =
    if_some opening (λ first h. kept_alike kind first none old.files new.files err h)

-- and after a file was read
pub kept_read : (kind : DigestKind) (opening : Option (Map (List ℕ))) (id : List ℕ) (old new : ServedFolder) (file : FileRead) → ReadsFile id old file new
    → IfSome opening (λ first. KeepsOpening kind first old.files) → IfSome opening (λ first. KeepsOpening kind first new.files)
kept_read kind opening id old new file read kept =
    if_some opening (λ first h. subst (KeepsOpening kind first) (sym read.kept) h) kept

-- what was read then
pub reads_kept : (kind : DigestKind) (opening : Option (Map (List ℕ))) (never_fails : Bool) (id : List ℕ) (old new : ServedFolder) (file : FileRead)
    → (IsTrue never_fails → old.faults ≡ 0) → (IsTrue never_fails → new.faults ≡ 0) → ReadsFile id old file new
    → IfSome opening (λ first. KeepsOpening kind first old.files) → IfSome opening (λ first. ReadsKept kind first never_fails id file)
reads_kept kind opening never_fails id old new file old_sure new_sure read kept =
    if_some opening (λ first h. record {
      old = old;
      new = new;
      kept = h;
      read = read;
      old_sure = old_sure;
      new_sure = new_sure;
    }) kept
