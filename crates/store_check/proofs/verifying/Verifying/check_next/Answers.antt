use borrow.Rule.Reborrow.{re_v}
use Rattle.std.proofs.Common.{◌≡◌, [], Result, Err, arith, sym, refl, rules, subst}
use Rattle.std.proofs.lemmas.List.{get_or-map}
use Rattle.std.proofs.lemmas.Option.{IfSome_then}
use Rattle.chunk_store.specs.declared.id.ChunkId.{ChunkId}
use Rattle.store_check.proofs.Progress.{cause_again, cause_given, faults_again, faults_given, goes_past, known_now, stops_at}
use Rattle.store_check.specs.VerifyProgress.{VerifiesOn}
use Rattle.store_check.specs.declared.verify.StoreCheck.{StoreCheck}
use Rattle.store_check.specs.declared.verify.StoreCheck.TheVariants as checks
use Rattle.store_check.specs.declared.verifying.Verifying.{Verifying}
use Rattle.store_check.proofs.verifying.Verifying.check_next.Goals as goal

pub check_file-requires-clause-known : goal.check_file-requires-clause-known
check_file-requires-clause-known g c =
    let w = c.args.self.now in
    let none : ChunkId = record { 0 = [] } in
    let named = sym (get_or-map (λ (id : ChunkId). id.0) w.ids.now w.at none [] c.requires.more) in
    known_now g.F.Look g.S.Sink c.path_names_one_id.ensures.named w c.requires.verifying c.requires.more _ c.id_has_32_bytes.ensures.size named c.verdict_among-known.result
    (IfSome_then c.verdict_among-known.result c.verdict_among-known.ensures.right (λ b is. is _ _ _ c.requires.ready))

pub returns-in_err-damaged-clause-on : goal.returns-in_err-damaged-clause-on
returns-in_err-damaged-clause-on g c =
    let w = c.args.self.now in
    let none : ChunkId = record { 0 = [] } in
    let named = sym (get_or-map (λ (id : ChunkId). id.0) w.ids.now w.at none [] c.requires.more) in
    let fault = c.in_err-damaged.field-0.0 in
    let done = c.in_err-damaged.ensures in
    let answer : c.from_residual.result ≡ Err fault = search rules in
    let new : Verifying g.row.F.Denot g.row.S.Denot = record w { store = re_v c.check_file.new.store w.store; out = re_v c.check_file.new.out w.out; buf = re_v c.check_file.new.buf w.buf } in
    subst (λ (r : Result Unit StoreCheck). VerifiesOn g.F.Look g.S.Sink w new r) (sym answer) (record {
      next = tt;
      ends = stops_at g.F.Look g.S.Sink c.path_names_one_id.ensures.named w c.requires.verifying c.requires.more _ c.id_has_32_bytes.ensures.size named _ _ fault done.ends;
      store = refl;
      out = refl;
      ids = refl;
      rule = refl;
      first = refl;
      before = refl;
      place = done.place;
      store_faults = cause_again checks.StoreFault fault _ _ done.store_faults;
      faults = faults_again checks.OutFault checks.Memory fault _ _ done.faults;
    })

pub returns-clause-on : goal.returns-clause-on
returns-clause-on g c =
    let w = c.args.self.now in
    let none : ChunkId = record { 0 = [] } in
    let named = sym (get_or-map (λ (id : ChunkId). id.0) w.ids.now w.at none [] c.requires.more) in
    let done = c.in_ok-damaged.ensures in
    record {
      next = record {
        listed = c.requires.verifying.listed;
        at = omega (arith, c.requires.more);
        room = done.room;
        told = goes_past g.F.Look g.S.Sink c.path_names_one_id.ensures.named w c.requires.verifying c.requires.more _ c.id_has_32_bytes.ensures.size named _ _ c.in_ok-damaged.damaged c.one_if.result c.one_if.ensures.value done.ends;
      };
      ends = tt;
      store = refl;
      out = refl;
      ids = refl;
      rule = refl;
      first = refl;
      before = refl;
      place = done.place;
      store_faults = cause_given checks.StoreFault _ tt _ _ done.store_faults;
      faults = faults_given checks.OutFault checks.Memory _ tt _ _ done.faults;
    }
