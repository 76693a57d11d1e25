use Rattle.std.proofs.Common.{Vec, Global, ◌≡◌, ◌<◌, ◌++◌, List, ℕ, [], ◌∷◌, ◌+◌, length, map, string_bytes, take, not, Ok, Err, is_some, sym, subst, ap, ap₂, ◌∙◌, arith}
use Rattle.std.proofs.lemmas.Bool.{cond-true}
use Rattle.std.proofs.lemmas.List.{length-map, length_push, take-map, take_all}
use Rattle.command_line.proofs.Judged.{Pass, roles_more, judged_here, pass_more, refused_here, lacks_value, has_all}
use Rattle.command_line.specs.Judging.{RefusesWords, AnswersBy, judged, words_by_role}
use Rattle.command_words.specs.Roles.{by_role, awaited, role_of, roles_of}
use Rattle.command_words.specs.declared.roles.Role.{Role}
use Rattle.command_words.specs.declared.usage.UsageWhy.TheVariants as why
use Rattle.command_words.specs.declared.usage.WordsFault.TheVariants as fault
use Rattle.command_line.proofs.judge.judged.Goals as goal

pub returns-in-Err-clause-exactly : goal.returns-in-Err-clause-exactly
returns-in-Err-clause-exactly c =
    let bytes : List (List ℕ) = map string_bytes c.args.words.now in
    let k = c.args.kind in
    let i = c.loop-i.i in
    let lt : i < length bytes = omega (arith, c.loop-i-test.true, length-map c.args.words.now string_bytes) in
    let roles = c.as_slice.ensures.value ∙ c.loop-i.invariant.0 in
    let before : c.of-before.result ≡ words_by_role k (take i bytes)
    = c.of-before.ensures ∙ ap₂ by_role (c.as_slice-in-loop-i.ensures.value ∙ c.loop-i.invariant.0) (sym (take-map string_bytes i c.args.words.now)) in
    let role = c.role_of-role.ensures ∙ ap (λ r. role_of k r c.word-word.result.now) (roles ∙ sym (ap (λ p. p.roles) before)) in
    let e = judged_here k bytes i _ _ _ before role c.word-word.ensures in
    subst (λ f. AnswersBy {T = Vec Role Global} (λ v. v.items) (judged k bytes) (Err f)) (sym c.fault_at.ensures)
    (refused_here {T = Vec Role Global} (λ v. v.items) k bytes i c.in-Err.refusal lt c.loop-i.invariant.1 (subst (λ r. RefusesWords r (Err c.in-Err.refusal)) e c.in-Err.ensures))

pub loop-i-preserved : goal.loop-i-preserved
loop-i-preserved c =
    let bytes : List (List ℕ) = map string_bytes c.args.words.now in
    let k = c.args.kind in
    let i = c.loop-i.i in
    let lt : i < length bytes = omega (arith, c.loop-i-test.true, length-map c.args.words.now string_bytes) in
    let roles = c.as_slice.ensures.value ∙ c.loop-i.invariant.0 in
    let before : c.of-before.result ≡ words_by_role k (take i bytes)
    = c.of-before.ensures ∙ ap₂ by_role (c.as_slice-in-loop-i.ensures.value ∙ c.loop-i.invariant.0) (sym (take-map string_bytes i c.args.words.now)) in
    let role = c.role_of-role.ensures ∙ ap (λ r. role_of k r c.word-word.result.now) (roles ∙ sym (ap (λ p. p.roles) before)) in
    let e = judged_here k bytes i _ _ _ before role c.word-word.ensures in
    let items : c.push.new.self.items ≡ c.loop-i.roles.items ++ c.role_of-role.result ∷ []
    = c.push.ensures.items ∙ cond-true _ _ _ (c.is_err.ensures.negation ∙ ap not c.if-is_err.false) in
    let now : c.push.new.self.items ≡ roles_of k (take (i + 1) bytes)
    = items ∙ ap₂ (λ b r. b ++ r ∷ []) c.loop-i.invariant.0 (c.role_of-role.ensures ∙ ap₂ (role_of k) roles c.word-word.ensures) ∙ sym (roles_more k bytes i lt) in
    (now, pass_more k bytes i c.loop-i.invariant.1 (sym e ∙ c.in_default.ensures), ap length items ∙ length_push c.loop-i.roles.items c.role_of-role.result ∙ ap (λ n. n + 1) c.loop-i.invariant.2)

pub returns-then-is_some-clause-exactly : goal.returns-then-is_some-clause-exactly
returns-then-is_some-clause-exactly c =
    let bytes : List (List ℕ) = map string_bytes c.args.words.now in
    let all : c.loop-i.i ≡ length bytes = omega (arith, c.loop-i-test.false, c.loop-i.auto.i-end, length-map c.args.words.now string_bytes) in
    let items = c.as_slice-2.ensures.value ∙ c.loop-i.invariant.0 ∙ ap (roles_of c.args.kind) (take_all c.loop-i.i bytes (omega (arith, all))) in
    let is = ap (λ r. is_some (awaited r)) (sym items) ∙ ap is_some (sym c.awaited.ensures) ∙ sym c.is_some.ensures ∙ c.if-is_some.true in
    lacks_value c.args.kind bytes (subst (Pass c.args.kind bytes) all c.loop-i.invariant.1) is ∙ ap (λ n. Err (fault.Usage (n + 1) why.NoValue)) (length-map c.args.words.now string_bytes)

pub returns-clause-exactly : goal.returns-clause-exactly
returns-clause-exactly c =
    let bytes : List (List ℕ) = map string_bytes c.args.words.now in
    let all : c.loop-i.i ≡ length bytes = omega (arith, c.loop-i-test.false, c.loop-i.auto.i-end, length-map c.args.words.now string_bytes) in
    let items = c.loop-i.invariant.0 ∙ ap (roles_of c.args.kind) (take_all c.loop-i.i bytes (omega (arith, all))) in
    let is = ap (λ r. is_some (awaited r)) (sym items ∙ sym c.as_slice-2.ensures.value) ∙ ap is_some (sym c.awaited.ensures) ∙ sym c.is_some.ensures ∙ c.if-is_some.false in
    has_all c.args.kind bytes (subst (Pass c.args.kind bytes) all c.loop-i.invariant.1) is ∙ ap Ok (sym items)
