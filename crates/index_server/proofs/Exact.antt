-- Where no fault is counted, a connection is that of the files.
use Rattle.std.proofs.Common.{◌≡◌, ℕ, List, ◌++◌, map, Bool, Option, Some, refl, ap, subst, ◌∙◌}
use Rattle.std.specs.Prelude.{IfSome}
use Rattle.dsy_base.specs.Counts.{Quiet}
use Rattle.dsy_base.specs.Links.{Traffic}
use Rattle.dsy_base.specs.Maps.{Map}
use Rattle.http_serve.proofs.Exact.{exact}
use Rattle.http_serve.specs.Turns.{Served, Takes, files_left, replies, turns_of}
use Rattle.index_server.specs.Answers.{IndexFolder}
use Rattle.index_server.specs.Talks.{IndexTalk, index_answering, index_closes, index_protocol}

pub talk_exact : (writable : Bool) (t u : Traffic) (old new : IndexFolder) (m : Map (List ℕ)) → Served (index_protocol writable) t old u new → old.files ≡ Some m → Quiet old.faults new.faults
    → (sent : List ℕ) × (left : Map (List ℕ)) × IndexTalk writable t.coming m sent left × (u.sent ≡ t.sent ++ sent) × (new.files ≡ Some left)
talk_exact writable t u old new m index_folder is quiet =
    let goes = index_folder.1 in
    let asked = map (λ x. x.asked) goes.turns in
    let takes = subst (λ (o : Option (Map (List ℕ))). IfSome o (λ _. Takes index_answering old goes.turns new)) is goes.talks.takes in
    let so = exact index_answering old new m goes.turns takes is quiet in (
      replies index_closes (turns_of index_answering m asked),
      files_left index_answering m asked,
      record { asked = asked; rest = index_folder.0; comes = goes.talks.comes; over = index_folder.2; answers = refl; leaves = refl },
      goes.sent ∙ ap (λ ts. t.sent ++ replies index_closes ts) so.0,
      so.1,
    )
