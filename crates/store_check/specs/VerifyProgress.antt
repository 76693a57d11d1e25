-- How far the check of a store's chunk files has come.
use Rattle.std.specs.Prelude.{◌≡◌, ℕ, ◌≤◌, Bool, List, IfOk, IfSome, OnErr, OnOk, Result, length, map, take}
use Rattle.std.specs.List.{filter}
use Rattle.caibx_fields.specs.Limits.{size_limit}
use Rattle.chunk_store.specs.Causes.{CountsCause}
use Rattle.chunk_store.specs.declared.id.ChunkId.{ChunkId}
use Rattle.chunk_store.specs.declared.id.DigestKind.{DigestKind}
use Rattle.dir_store.specs.Lists.{IsIdsOf}
use Rattle.dsy_base.specs.Counts.{CountsFaults}
use Rattle.dsy_base.specs.declared.look.Look.{Ghosts as LookWords}
use Rattle.dsy_base.specs.declared.sink.Sink.{Ghosts as SinkWords}
use Rattle.store_check.specs.Verifying.{AreTold, Change, IsStoreChecked, StopsVerifying, is_damaged}
use Rattle.store_check.specs.declared.file.CheckRule.{CheckRule}
use Rattle.store_check.specs.declared.verify.StoreCheck.{StoreCheck}
use Rattle.store_check.specs.declared.verify.StoreCheck.TheVariants as checks
use Rattle.store_check.specs.declared.verifying.Verifying.{Verifying}

-- of the chunk files of the first i ids n are damaged, and these were told, and removed with `repair`
pub record ToldTo (kind : DigestKind) (repair : Bool) (ids : List ChunkId) (i n : ℕ) (c : Change) : Type 0 where
  pub damaged : List (List ℕ)
  pub all : IfSome c.old (λ m. damaged ≡ filter (is_damaged kind m) (take i (map (λ id. id.0) ids)))
  pub told : AreTold repair damaged c
  pub count : n ≡ length damaged
  pub few : n ≤ i

module _ {F S : Type 0} (look : LookWords F) (sink : SinkWords S) where
  -- files and text, since the check began
  abbrev pub change_of : Verifying F S → Change
  change_of w = record {
    old = look.files w.first.value;
    new = look.files w.store.now;
    before = (sink.output w.before.value).taken;
    taken = (sink.output w.out.now).taken;
  }

  -- the files before item `at` were looked at, and it can go on
  pub record IsVerifying (w : Verifying F S) : Type 0 where
    pub listed : IfSome (look.files w.first.value) (λ m. IsIdsOf m w.ids.now)
    pub at : w.at ≤ length w.ids.now
    pub room : length w.buf.now.items ≤ size_limit
    pub told : ToldTo w.rule.kind w.rule.repair w.ids.now w.at w.found (change_of w)

  -- it went on, and ended with this result
  pub record VerifiesOn (old new : Verifying F S) (result : Result Unit StoreCheck) : Type 0 where
    pub next : OnOk result (IsVerifying new)
    pub ends : OnErr result (StopsVerifying old.rule.kind old.rule.repair (change_of new))
    pub store : new.store.ghost_name ≡ old.store.ghost_name
    pub out : new.out.ghost_name ≡ old.out.ghost_name
    pub ids : new.ids.now ≡ old.ids.now
    pub rule : new.rule ≡ old.rule
    pub first : new.first.value ≡ old.first.value
    pub before : new.before.value ≡ old.before.value
    pub place : look.place new.store.now ≡ look.place old.store.now
    pub store_faults : CountsCause checks.StoreFault (look.faults old.store.now)
        (look.faults new.store.now) result
    pub faults : CountsFaults checks.OutFault checks.Memory (sink.output old.out.now).faults
        (sink.output new.out.now).faults result

  -- what an answer says of the store and the sink, before and after
  pub record StoreCheckEnds (rule : CheckRule) (old new : F) (before after : S) (result : Result ℕ StoreCheck)
      : Type 0 where
    pub ok : IfOk result (λ n. IsStoreChecked rule.kind rule.repair n (record {
      old = look.files old;
      new = look.files new;
      before = (sink.output before).taken;
      taken = (sink.output after).taken;
    }))
    pub err : OnErr result (StopsVerifying rule.kind rule.repair (record {
      old = look.files old;
      new = look.files new;
      before = (sink.output before).taken;
      taken = (sink.output after).taken;
    }))
    pub place : look.place new ≡ look.place old
    pub store_faults : CountsCause checks.StoreFault (look.faults old) (look.faults new) result
    pub faults : CountsFaults checks.OutFault checks.Memory (sink.output before).faults (sink.output after).faults
        result
