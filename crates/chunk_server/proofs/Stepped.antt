-- The steps of a shelf, by what was found and put.
use Rattle.std.proofs.Common.{◌≡◌, ◌≢◌, ℕ, ◌≤◌, List, Result, Ok, Err, Bool, true, false, cond, Option, Some, None, inl, refl, sym, ap, subst, ◌∙◌, arith}
use Rattle.std.specs.Prelude.{IfOk, IfSome}
use Rattle.std.specs.Option.{option_map}
use Rattle.std.specs.Str.{bytes_eq}
use Rattle.std.proofs.lemmas.Bool.{false_from_ne_true}
use Rattle.std.proofs.lemmas.Slice.Eq.{bytes_eq-Decides}
use Rattle.chunk_store.specs.Folders.{chunks}
use Rattle.chunk_store.specs.Digests.{digest_of}
use Rattle.chunk_store.specs.Paths.{path_of}
use Rattle.chunk_store.specs.declared.id.ChunkId.{ChunkId}
use Rattle.chunk_store.specs.declared.id.DigestKind.{DigestKind}
use Rattle.dir_store.specs.Puts.{PutsAtPath}
use Rattle.dsy_base.specs.Folders.{put_in}
use Rattle.dsy_base.specs.Maps.{Map}
use Rattle.http_wire.specs.declared.request.Act.{Act}
use Rattle.http_wire.specs.declared.request.Act.TheVariants as act
use Rattle.chunk_server.specs.Answers.{Answer, answer_to, bare, chunk_held, files_after, with_chunk, with_length}
use Rattle.chunk_server.specs.Reads.{answer_by, asked_by}
use Rattle.chunk_server.specs.Shelves.{ServedFolder, ServesOrFails}
use Rattle.chunk_server.specs.declared.chunk_file.ReadMethod.{ReadMethod}
use Rattle.chunk_server.specs.declared.chunk_file.ReadMethod.TheVariants as method

told_more : {P Q : Map (List ℕ) → Type 0} (o : Option (Map (List ℕ))) → ((m : Map (List ℕ)) → P m → Q m) → IfSome o P → IfSome o Q
told_more None f p = tt
told_more (Some m) f p = f m p

always : {Q : Map (List ℕ) → Type 0} (o : Option (Map (List ℕ))) → ((m : Map (List ℕ)) → Q m) → IfSome o Q
always None f = tt
always (Some m) f = f m

mapped : (f g : Map (List ℕ) → Map (List ℕ)) (o : Option (Map (List ℕ))) → ((m : Map (List ℕ)) → f m ≡ g m) → option_map f o ≡ option_map g o
mapped f g None same = refl
mapped f g (Some m) same = ap Some (same m)

unmapped : (f : Map (List ℕ) → Map (List ℕ)) (o : Option (Map (List ℕ))) → ((m : Map (List ℕ)) → f m ≡ m) → o ≡ option_map f o
unmapped f None same = refl
unmapped f (Some m) same = ap Some (sym (same m))

-- what holds whatever is held holds of what the files hold
pub found_in : {P Q : Option (List ℕ) → Type 0} (id : List ℕ) (o : Option (Map (List ℕ))) → ((held : Option (List ℕ)) → P held → Q held) → IfSome o (λ m. P (chunks m id)) → IfSome o (λ m. Q (chunks m id))
found_in id o f p = told_more o (λ m h. f (chunks m id) h) p

-- where nothing is held, the method doesn't matter
pub none_by : (m : ReadMethod) → bare 404 ≡ answer_by m None
none_by method.Get = refl
none_by method.Head = refl

module _ (kind : DigestKind) (old new : ServedFolder) (id : ChunkId) (body : List ℕ) (r : Answer) where
  -- ---- what was found

  pub read_goes : (m : ReadMethod) (found : Option (List ℕ)) → IfSome old.files (λ m. chunk_held kind id.0 (chunks m id.0) ≡ found) → r ≡ answer_by m found → new.files ≡ old.files → old.faults ≤ new.faults → ServesOrFails kind old (asked_by m id) body r new
  unfolding answer_to files_after
  read_goes method.Get found held is kept faults = inl (record {
    answer = told_more old.files (λ m h. is ∙ ap with_chunk (sym h)) held;
    files = kept ∙ unmapped (λ m. m) old.files (λ m. refl);
    faults = faults;
  })
  read_goes method.Head found held is kept faults = inl (record {
    answer = told_more old.files (λ m h. is ∙ ap with_length (sym h)) held;
    files = kept ∙ unmapped (λ m. m) old.files (λ m. refl);
    faults = faults;
  })

  -- ---- what was put

  named : digest_of kind body ≡ id.0 → bytes_eq (digest_of kind body) id.0 ≡ true
  named is = (bytes_eq-Decides (digest_of kind body) id.0).1 is

  misnamed : digest_of kind body ≢ id.0 → bytes_eq (digest_of kind body) id.0 ≡ false
  misnamed other = false_from_ne_true (bytes_eq (digest_of kind body) id.0) (λ h. other ((bytes_eq-Decides (digest_of kind body) id.0).0 h))

  put_with : (b : Bool) → bytes_eq (digest_of kind body) id.0 ≡ b → r ≡ bare (cond b 200 400) → new.files ≡ option_map (λ m. cond b (put_in m (path_of id.0) body) m) old.files → old.faults ≤ new.faults → ServesOrFails kind old (act.Put id) body r new
  unfolding answer_to files_after
  put_with b test is files faults = inl (record {
    answer = always old.files (λ m. is ∙ ap (λ t. bare (cond t 200 400)) (sym test));
    files = files ∙ mapped (λ m. cond b (put_in m (path_of id.0) body) m) _ old.files (λ m. ap (λ t. cond t (put_in m (path_of id.0) body) m) (sym test));
    faults = faults;
  })

  pub put_goes : digest_of kind body ≡ id.0 → r ≡ bare 200 → PutsAtPath id.0 body old.files new.files → old.faults ≤ new.faults → ServesOrFails kind old (act.Put id) body r new
  put_goes is reply files faults = put_with true (named is) reply files faults

  pub put_refused : digest_of kind body ≢ id.0 → r ≡ bare 400 → new.files ≡ old.files → old.faults ≤ new.faults → ServesOrFails kind old (act.Put id) body r new
  put_refused other reply files faults =
      put_with false (misnamed other) reply (files ∙ unmapped (λ m. m) old.files (λ m. refl)) faults

-- ---- what names no chunk

pub lost_goes : (kind : DigestKind) (old new : ServedFolder) (body : List ℕ) (r : Answer) → r ≡ bare 404 → new.files ≡ old.files → old.faults ≤ new.faults → ServesOrFails kind old act.Lost body r new
unfolding answer_to files_after
lost_goes kind old new body r is kept faults = inl (record {
  answer = always old.files (λ m. is);
  files = kept ∙ unmapped (λ m. m) old.files (λ m. refl);
  faults = faults;
})

pub ok_more : {A E : Type 0} {P Q : A → Type 0} (r : Result A E) → ((x : A) → P x → Q x) → IfOk r P → IfOk r Q
ok_more (Ok x) f p = f x p
ok_more (Err e) f p = tt

-- ---- what is refused

refused_step : (kind : DigestKind) (old : ServedFolder) (status : ℕ) (body : List ℕ) (r : Answer) → r ≡ bare status → ServesOrFails kind old (act.Refuse status) body r old
unfolding answer_to files_after
refused_step kind old status body r is = inl (record {
  answer = always old.files (λ m. is);
  files = unmapped (λ m. m) old.files (λ m. refl);
  faults = omega arith;
})

pub refuse_goes : (kind : DigestKind) (old : ServedFolder) (a : Act) (status : ℕ) (body : List ℕ) (r : Answer) → a ≡ act.Refuse status → r ≡ bare status → IfSome old.files (λ m. ServesOrFails kind old a body r old)
refuse_goes kind old a status body r is reply =
    subst (λ (x : Act). IfSome old.files (λ m. ServesOrFails kind old x body r old)) (sym is) (always old.files (λ m. refused_step kind old status body r reply))
