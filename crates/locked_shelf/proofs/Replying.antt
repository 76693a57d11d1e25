-- What is replied over a folder that has kept the first files.
use Rattle.std.proofs.Common.{◌≡◌, ◌≢◌, ℕ, ◌≤◌, List, length, Bool, true, false, ◌&&◌, cond, nat_le, Option, Some, None, IfSome, IfOk, IsSome, IsTrue, Result, Ok, Err, refl, sym, ap, subst, ◌∙◌, inl, inr, arith}
use Rattle.std.specs.Str.{bytes_eq}
use Rattle.std.proofs.lemmas.Bool.Decides.{nat_tests}
use Rattle.std.proofs.lemmas.Slice.Eq.{bytes_eq-Decides}
use Rattle.chunk_server.specs.Answers.{Answer, answer_to, bare, chunk_held, with_chunk, with_length}
use Rattle.chunk_server.specs.FileReads.{FileRead}
use Rattle.chunk_server.specs.Reads.{ReadsFile, asked_by}
use Rattle.chunk_server.specs.Shelves.{RefusesOtherDigest, ServedFolder, ServesOrFails, answer_in}
use Rattle.chunk_server.specs.declared.chunk_file.ReadMethod.{ReadMethod}
use Rattle.chunk_server.specs.declared.chunk_file.ReadMethod.TheVariants as method
use Rattle.http_serve.specs.declared.service.Reply.{Reply}
use Rattle.chunk_store.specs.Folders.{chunks}
use Rattle.chunk_store.specs.Digests.{digest_of}
use Rattle.chunk_store.specs.declared.id.ChunkId.{ChunkId}
use Rattle.chunk_store.specs.declared.id.DigestKind.{DigestKind}
use Rattle.dsy_base.specs.Counts.{Rose}
use Rattle.dsy_base.specs.Maps.{Map}
use Rattle.dsy_base.specs.declared.fault.Memory.{Memory}
use Rattle.caibx_fields.specs.Limits.{size_limit}
use Rattle.http_wire.specs.Request.{is_refusal}
use Rattle.http_wire.specs.declared.request.Act.{Act}
use Rattle.http_wire.specs.declared.request.Act.TheVariants as act
use Rattle.locked_shelf.specs.Keepings.{KeepsOpening, KeepsChunks, HoldsFor}
use Rattle.locked_shelf.specs.Replies.{MayReply, ReadsKept, RepliesOver}

below : (n m : ℕ) → n ≤ m → nat_le n m ≡ true
below n m h = grind (arith, nat_tests)

held_right : (kind : DigestKind) (id b : List ℕ) (s t : Bool) → s ≡ true → t ≡ true → IsSome (cond (s && t) (Some b) None)
held_right kind id b true true e f = refl
held_right kind id b true false e f = absurd (cc)
held_right kind id b false t e f = absurd (cc)

-- a chunk that the first files give is given
gives_still : (kind : DigestKind) (id : List ℕ) (first now : Option (List ℕ)) → HoldsFor kind id first now → IsSome (chunk_held kind id first) → IsSome (chunk_held kind id now)
gives_still kind id first now (inl same) given = subst (λ o. IsSome (chunk_held kind id o)) (sym same) given
gives_still kind id first now (inr new) given =
    subst (λ o. IsSome (chunk_held kind id o)) (sym new.1)
    (held_right kind id new.0 (bytes_eq (digest_of kind new.0) id) (nat_le (length new.0) size_limit) ((bytes_eq-Decides (digest_of kind new.0) id).1 new.2.named) (below (length new.0) size_limit new.2.few))

chunk_200 : (o : Option (List ℕ)) → IsSome o → (with_chunk o).status ≡ 200
chunk_200 None h = absurd (cc)
chunk_200 (Some b) h = refl

length_200 : (o : Option (List ℕ)) → IsSome o → (with_length o).status ≡ 200
length_200 None h = absurd (cc)
length_200 (Some b) h = refl

chunk_not_500 : (o : Option (List ℕ)) → (with_chunk o).status ≢ 500
chunk_not_500 None e = absurd (omega (arith, e))
chunk_not_500 (Some b) e = absurd (omega (arith, e))

length_not_500 : (o : Option (List ℕ)) → (with_length o).status ≢ 500
length_not_500 None e = absurd (omega (arith, e))
length_not_500 (Some b) e = absurd (omega (arith, e))

if_not_500 : (t : Bool) → (bare (cond t 200 400)).status ≢ 500
if_not_500 true e = absurd (omega (arith, e))
if_not_500 false e = absurd (omega (arith, e))

-- what is told of the files now
told : {P : Map (List ℕ) → Type 0} (kind : DigestKind) (first : Map (List ℕ)) (files : Option (Map (List ℕ))) → KeepsOpening kind first files → IfSome files P → (m : Map (List ℕ)) × KeepsChunks kind first m × P m
told kind first None k p = absurd k
told kind first (Some m) k p = (m, k, p)

module _ (kind : DigestKind) (first : Map (List ℕ)) (body : List ℕ) (r : Answer) (old new : ServedFolder) (k : KeepsOpening kind first old.files) where
  over : (a : Act) → RefusesOtherDigest kind a body r → ServesOrFails kind old a body r new → RepliesOver kind first a body r
  unfolding answer_to
  over (act.Get id) refused (inr fails) = λ given. inr (ap (λ (x : Answer). x.status) fails.answer)
  over (act.Head id) refused (inr fails) = λ given. inr (ap (λ (x : Answer). x.status) fails.answer)
  over (act.Put id) refused (inr fails) = (refused, λ named. inr fails.answer)
  over act.Lost refused step = tt
  over (act.Refuse status) refused step = tt
  over (act.Get id) refused (inl step) = λ given.
      let t = told kind first old.files k step.answer in
      inl (ap (λ (x : Answer). x.status) t.2 ∙ chunk_200 (chunk_held kind id.0 (chunks t.0 id.0)) (gives_still kind id.0 _ _ (t.1.ids id.0) given))
  over (act.Head id) refused (inl step) = λ given.
      let t = told kind first old.files k step.answer in
      inl (ap (λ (x : Answer). x.status) t.2 ∙ length_200 (chunk_held kind id.0 (chunks t.0 id.0)) (gives_still kind id.0 _ _ (t.1.ids id.0) given))
  over (act.Put id) refused (inl step) = (
    refused,
    λ named.
        let t = told kind first old.files k step.answer in
        inl (t.2 ∙ ap (λ b. bare (cond b 200 400)) ((bytes_eq-Decides (digest_of kind body) id.0).1 named)),
  )

  not_500 : (a : Act) → (m : Map (List ℕ)) → a ≢ act.Refuse 500 → (answer_to kind m a body).status ≢ 500
  unfolding answer_to
  not_500 (act.Get id) m other = chunk_not_500 (chunk_held kind id.0 (chunks m id.0))
  not_500 (act.Head id) m other = length_not_500 (chunk_held kind id.0 (chunks m id.0))
  not_500 (act.Put id) m other = if_not_500 (bytes_eq (digest_of kind body) id.0)
  not_500 act.Lost m other = λ e. absurd (omega (arith, e))
  not_500 (act.Refuse status) m other = λ e. other (ap act.Refuse e)

  never_rose : (n m : ℕ) → n ≡ 0 → m ≡ 0 → Rose n m → ⊥
  never_rose n m a b (inl more) = absurd (omega (arith, a, b, more))
  never_rose n m a b (inr full) = absurd (omega (arith, a, b, full))

  sure : (a : Act) → a ≢ act.Refuse 500 → old.faults ≡ 0 → new.faults ≡ 0 → ServesOrFails kind old a body r new → r.status ≢ 500
  sure a other unfailed none (inr fails) = λ e. never_rose old.faults new.faults unfailed none fails.cause
  sure a other unfailed none (inl step) = λ e.
      let t = told kind first old.files k step.answer in
      not_500 a t.0 other (ap (λ (x : Answer). x.status) (sym t.2) ∙ e)

if_some : {P Q : Map (List ℕ) → Type 0} (o : Option (Map (List ℕ))) → ((m : Map (List ℕ)) → P m → Q m) → IfSome o P → IfSome o Q
if_some None f p = tt
if_some (Some m) f p = f m p

unrefused : (a : Act) → is_refusal a ≡ false → a ≢ act.Refuse 500
unrefused a taken e = let both : false ≡ true = sym taken ∙ ap is_refusal e in cc

-- what is replied is what may be replied
pub may_reply : (kind k : DigestKind) (opening : Option (Map (List ℕ))) (never_fails : Bool) (a : Act) (body : List ℕ) (res : Result Reply Memory) (old new : ServedFolder)
    → (IsTrue never_fails → old.faults ≡ 0) → (IsTrue never_fails → new.faults ≡ 0) → is_refusal a ≡ false → k ≡ kind
    → IfOk res (λ r. RefusesOtherDigest k a body (answer_in r)) → IfOk res (λ r. ServesOrFails k old a body (answer_in r) new)
    → IfSome opening (λ first. KeepsOpening kind first old.files) → IfOk res (λ r. MayReply kind opening never_fails a body (answer_in r))
may_reply kind k opening never_fails a body (Err e) old new first_none none taken same refused ok kept = tt
may_reply kind k opening never_fails a body (Ok r) old new first_none none taken same refused ok kept =
    let step = subst (λ (j : DigestKind). ServesOrFails j old a body (answer_in r) new) same ok in
    let bad = subst (λ (j : DigestKind). RefusesOtherDigest j a body (answer_in r)) same refused in
    record {
      over = if_some opening (λ first h. over kind first body (answer_in r) old new h a bad step) kept;
      sure = λ never. if_some opening (λ first h. sure kind first body (answer_in r) old new h a (unrefused a taken) (first_none never) (none never) step) kept;
    }

-- a body under its digest isn't refused
pub taken_if_named : (kind k : DigestKind) (id : ChunkId) (body : List ℕ) (res : Result Reply Memory) → digest_of kind body ≡ id.0 → k ≡ kind → IfOk res (λ r. RefusesOtherDigest k (act.Put id) body (answer_in r))
taken_if_named kind k id body (Err e) named same = tt
taken_if_named kind k id body (Ok r) named same =
    subst (λ (j : DigestKind). RefusesOtherDigest j (act.Put id) body (answer_in r)) (sym same) (λ other. absurd (other named))

asks : (m : ReadMethod) (id : ChunkId) → is_refusal (asked_by m id) ≡ false
asks method.Get id = refl
asks method.Head id = refl

puts_nothing : (kind : DigestKind) (m : ReadMethod) (id : ChunkId) (body : List ℕ) (r : Answer) → RefusesOtherDigest kind (asked_by m id) body r
puts_nothing kind method.Get id body r = tt
puts_nothing kind method.Head id body r = tt

-- what is replied by a file that was read
pub may_read : (kind : DigestKind) (opening : Option (Map (List ℕ))) (never_fails : Bool) (m : ReadMethod) (id : ChunkId) (file : FileRead) (res : Result Reply Memory)
    → IfSome opening (λ first. ReadsKept kind first never_fails id.0 file)
    → IfOk res (λ r. (old new : ServedFolder) (body : List ℕ) → ReadsFile id.0 old file new → ServesOrFails kind old (asked_by m id) body (answer_in r) new)
    → IfOk res (λ r. (body : List ℕ) → MayReply kind opening never_fails (asked_by m id) body (answer_in r))
may_read kind opening never_fails m id file (Err e) reads ok = tt
may_read kind opening never_fails m id file (Ok r) reads ok = λ body. record {
  over = if_some opening (λ first h. over kind first body (answer_in r) h.old h.new h.kept (asked_by m id) (puts_nothing kind m id body (answer_in r)) (ok h.old h.new body h.read)) reads;
  sure = λ never. if_some opening (λ first h. sure kind first body (answer_in r) h.old h.new h.kept (asked_by m id) (unrefused (asked_by m id) (asks m id)) (h.old_sure never) (h.new_sure never) (ok h.old h.new body h.read)) reads;
}
