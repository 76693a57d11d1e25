-- The steps of a folder of indexes, by what was found and put.
use Rattle.std.proofs.Common.{◌≡◌, ℕ, ◌≤◌, List, Bool, true, false, cond, Result, Ok, Err, Option, Some, None, inl, refl, sym, ap, ◌∙◌, arith}
use Rattle.std.specs.Prelude.{IfOk, IfSome}
use Rattle.std.specs.Option.{option_map}
use Rattle.dsy_base.specs.Folders.{put_in}
use Rattle.dsy_base.specs.Maps.{Map}
use Rattle.http_serve.specs.Answers.{Answer, bare}
use Rattle.http_wire.specs.declared.index_request.IndexAct.{IndexAct}
use Rattle.http_wire.specs.declared.index_request.IndexAct.TheVariants as act
use Rattle.index_server.specs.Answers.{IndexFolder, AnswersIndexOrFails, index_answer_to, index_files_after, index_held, is_index, with_index, with_index_length}
use Rattle.index_server.specs.Finding.{index_answer_by, index_asked_by}
use Rattle.index_server.specs.declared.state.ReadMethod.{ReadMethod}
use Rattle.index_server.specs.declared.state.ReadMethod.TheVariants as method

told_more : {P Q : Map (List ℕ) → Type 0} (o : Option (Map (List ℕ))) → ((m : Map (List ℕ)) → P m → Q m) → IfSome o P → IfSome o Q
told_more None f p = tt
told_more (Some m) f p = f m p

pub always : {Q : Map (List ℕ) → Type 0} (o : Option (Map (List ℕ))) → ((m : Map (List ℕ)) → Q m) → IfSome o Q
always None f = tt
always (Some m) f = f m

mapped : (f g : Map (List ℕ) → Map (List ℕ)) (o : Option (Map (List ℕ))) → ((m : Map (List ℕ)) → f m ≡ g m) → option_map f o ≡ option_map g o
mapped f g None same = refl
mapped f g (Some m) same = ap Some (same m)

unmapped : (f : Map (List ℕ) → Map (List ℕ)) (o : Option (Map (List ℕ))) → ((m : Map (List ℕ)) → f m ≡ m) → o ≡ option_map f o
unmapped f None same = refl
unmapped f (Some m) same = ap Some (sym (same m))

-- where nothing is held, the method doesn't matter
pub none_by : (m : ReadMethod) → bare 404 ≡ index_answer_by m None
none_by method.Get = refl
none_by method.Head = refl

pub ok_more : {A E : Type 0} {P Q : A → Type 0} (r : Result A E) → ((x : A) → P x → Q x) → IfOk r P → IfOk r Q
ok_more (Ok x) f p = f x p
ok_more (Err e) f p = tt

module _ (old new : IndexFolder) where
  pub read_goes : (m : ReadMethod) (name body : List ℕ) (found : Option (List ℕ)) (r : Answer) → IfSome old.files (λ f. found ≡ index_held (f name)) → r ≡ index_answer_by m found → new.files ≡ old.files → old.faults ≤ new.faults → AnswersIndexOrFails old (index_asked_by m name) body r new
  unfolding index_answer_to index_files_after
  read_goes method.Get name body found r held is kept faults = inl (record {
    answer = told_more old.files (λ f h. is ∙ ap with_index h) held;
    files = kept ∙ unmapped (λ f. f) old.files (λ f. refl);
    faults = faults;
  })
  read_goes method.Head name body found r held is kept faults = inl (record {
    answer = told_more old.files (λ f h. is ∙ ap with_index_length h) held;
    files = kept ∙ unmapped (λ f. f) old.files (λ f. refl);
    faults = faults;
  })

  module _ (name body : List ℕ) (r : Answer) where
    put_with : (b : Bool) → is_index body ≡ b → r ≡ bare (cond b 200 400) → new.files ≡ option_map (λ m. cond b (put_in m name body) m) old.files → old.faults ≤ new.faults → AnswersIndexOrFails old (act.Put name) body r new
    unfolding index_answer_to index_files_after
    put_with b test is files faults = inl (record {
      answer = always old.files (λ m. is ∙ ap (λ t. bare (cond t 200 400)) (sym test));
      files = files ∙ mapped (λ m. cond b (put_in m name body) m) _ old.files (λ m. ap (λ t. cond t (put_in m name body) m) (sym test));
      faults = faults;
    })

    pub put_goes : is_index body ≡ true → r ≡ bare 200 → new.files ≡ option_map (λ m. put_in m name body) old.files → old.faults ≤ new.faults → AnswersIndexOrFails old (act.Put name) body r new
    put_goes test reply files faults = put_with true test reply files faults

    pub put_refused : is_index body ≡ false → r ≡ bare 400 → new.files ≡ old.files → old.faults ≤ new.faults → AnswersIndexOrFails old (act.Put name) body r new
    put_refused test reply files faults = put_with false test reply (files ∙ unmapped (λ m. m) old.files (λ m. refl)) faults

pub bare_goes : (old new : IndexFolder) (a : IndexAct) (status : ℕ) (body : List ℕ) (r : Answer) → ((m : Map (List ℕ)) → index_answer_to m a body ≡ bare status) → ((m : Map (List ℕ)) → index_files_after m a body ≡ m) → r ≡ bare status → new.files ≡ old.files → old.faults ≤ new.faults → AnswersIndexOrFails old a body r new
bare_goes old new a status body r says leaves is kept faults = inl (record {
  answer = always old.files (λ m. is ∙ sym (says m));
  files = kept ∙ unmapped (λ m. index_files_after m a body) old.files leaves;
  faults = faults;
})

pub lost_goes : (old new : IndexFolder) (body : List ℕ) (r : Answer) → r ≡ bare 404 → new.files ≡ old.files → old.faults ≤ new.faults → AnswersIndexOrFails old act.Lost body r new
unfolding index_answer_to index_files_after
lost_goes old new body r = bare_goes old new act.Lost 404 body r (λ m. refl) (λ m. refl)

pub refuse_goes : (old : IndexFolder) (a : IndexAct) (status : ℕ) (body : List ℕ) (r : Answer) → a ≡ act.Refuse status → r ≡ bare status → AnswersIndexOrFails old a body r old
unfolding index_answer_to index_files_after
refuse_goes old a status body r is reply = bare_goes old old a status body r (λ m. ap (λ x. index_answer_to m x body) is) (λ m. ap (λ x. index_files_after m x body) is) reply refl (omega arith)
