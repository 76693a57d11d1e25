-- A check of chunk files that goes on: one file more, and the whole way.
use Rattle.std.proofs.Common.{◌≡◌, ℕ, ◌+◌, ◌<◌, ◌≤◌, Bool, List, [], cond, length, map, Option, Some, None, IfSome, OnErr, Result, Ok, Err, inl, inr, refl, sym, ap, subst, ◌∙◌, arith}
use Rattle.std.proofs.lemmas.List.{length-map}
use Rattle.chunk_store.specs.Causes.{CountsCause}
use Rattle.chunk_store.specs.Digests.{IsId}
use Rattle.chunk_store.specs.Paths.{path_of}
use Rattle.chunk_store.specs.declared.id.ChunkId.{ChunkId}
use Rattle.dir_store.specs.Lists.{IsIdsOf}
use Rattle.dsy_base.specs.Counts.{CountsFaults, Rose}
use Rattle.dsy_base.specs.declared.look.Look.{Ghosts as LookWords}
use Rattle.dsy_base.specs.declared.sink.Sink.{Ghosts as SinkWords}
use Rattle.store_check.proofs.Verified.{told_all, told_begins, told_next, told_now, told_stops}
use Rattle.store_check.specs.Verdicts.{IsVerdict, id_at, verdict}
use Rattle.store_check.specs.Verifying.{Change, ChecksFile, IsStoreChecked, StopsVerifying, is_damaged}
use Rattle.store_check.specs.VerifyProgress.{IsVerifying, StoreCheckEnds, ToldTo, VerifiesOn, change_of}
use Rattle.store_check.specs.declared.file.CheckRule.{CheckRule}
use Rattle.store_check.specs.declared.verify.StoreCheck.{StoreCheck}
use Rattle.store_check.specs.declared.verify.StoreCheck.TheVariants as checks
use Rattle.store_check.specs.declared.verifying.Verifying.{Verifying}

-- ---- counts over a call, whatever it would have given

abbrev ended : {A : Type 0} → StoreCheck → Result A StoreCheck
ended e = Err e

abbrev gave : {A : Type 0} → A → Result A StoreCheck
gave x = Ok x

again : {A B : Type 0} (fault x : StoreCheck) → ended {A = A} fault ≡ Err x → ended {A = B} fault ≡ Err x
again fault x e = cc

pub cause_again : {A B : Type 0} (failed fault : StoreCheck) (old new : ℕ) → CountsCause failed old new (ended {A = A} fault) → CountsCause failed old new (ended {A = B} fault)
cause_again {A} {B} failed fault old new is = record { never_falls = is.never_falls; cause = λ e. is.cause (again {A = B} {B = A} fault failed e) }

pub cause_given : {A B : Type 0} (failed : StoreCheck) (x : A) (y : B) (old new : ℕ) → CountsCause failed old new (gave x) → CountsCause failed old new (gave y)
cause_given failed x y old new is = record { never_falls = is.never_falls; cause = λ e. absurd (cc) }

pub faults_again : {A B : Type 0} (failed memory fault : StoreCheck) (old new : ℕ) → CountsFaults failed memory old new (ended {A = A} fault) → CountsFaults failed memory old new (ended {A = B} fault)
faults_again {A} {B} failed memory fault old new is = record {
  never_falls = is.never_falls;
  cause = λ e. is.cause (again {A = B} {B = A} fault failed e);
  done = tt;
  unfailed = λ e. is.unfailed (again {A = B} {B = A} fault memory e);
}

pub faults_given : {A B : Type 0} (failed memory : StoreCheck) (x : A) (y : B) (old new : ℕ) → CountsFaults failed memory old new (gave x) → CountsFaults failed memory old new (gave y)
faults_given failed memory x y old new is = record { never_falls = is.never_falls; cause = λ e. absurd (cc); done = is.done; unfailed = λ e. absurd (cc) }

-- ---- on the way

rose_since : (a b c : ℕ) → a ≤ b → Rose b c → Rose a c
rose_since a b c le (inl less) = inl (omega arith)
rose_since a b c le (inr top) = inr top

module _ {F S : Type 0} (look : LookWords F) (sink : SinkWords S) where
  pub verifies_none : (w : Verifying F S) → IsVerifying look sink w → VerifiesOn look sink w w (Ok tt)
  verifies_none w is = record {
    next = is;
    ends = tt;
    store = refl;
    out = refl;
    ids = refl;
    rule = refl;
    first = refl;
    before = refl;
    place = refl;
    store_faults = record { never_falls = omega arith; cause = λ e. absurd (cc) };
    faults = record { never_falls = omega arith; cause = λ e. absurd (cc); done = refl; unfailed = λ e. refl };
  }

  pub verifies_on : (a b c : Verifying F S) (r : Result Unit StoreCheck) → VerifiesOn look sink a b (Ok tt) → VerifiesOn look sink b c r → VerifiesOn look sink a c r
  verifies_on a b c r one two = record {
    next = two.next;
    ends = subst (λ (x : CheckRule). OnErr r (StopsVerifying x.kind x.repair (change_of look sink c))) one.rule two.ends;
    store = two.store ∙ one.store;
    out = two.out ∙ one.out;
    ids = two.ids ∙ one.ids;
    rule = two.rule ∙ one.rule;
    first = two.first ∙ one.first;
    before = two.before ∙ one.before;
    place = two.place ∙ one.place;
    store_faults = record {
      never_falls = omega (arith, one.store_faults.never_falls, two.store_faults.never_falls);
      cause = λ e. rose_since _ _ _ one.store_faults.never_falls (two.store_faults.cause e);
    };
    faults = subst (λ (n : ℕ). CountsFaults checks.OutFault checks.Memory n (sink.output c.out.now).faults r) one.faults.done two.faults;
  }

  -- it went the whole way
  pub verified_all : ((a b : List ℕ) → IsId b → path_of a ≡ path_of b → a ≡ b) → (w : Verifying F S) (left : ℕ) → IsVerifying look sink w → length w.ids.now ≤ w.at → left ≡ cond w.rule.repair 0 w.found → IsStoreChecked w.rule.kind w.rule.repair left (change_of look sink w)
  verified_all one w left is past found = told_all one w.rule.kind w.rule.repair w.ids.now w.at w.found left (change_of look sink w) (omega (arith, past, length-map w.ids.now (λ (id : ChunkId). id.0))) is.listed is.told found

  changed : (w : Verifying F S) (old new : F) (before after : S) → w.first.value ≡ old → w.store.now ≡ new → w.before.value ≡ before → w.out.now ≡ after
      → change_of look sink w ≡ record { old = look.files old; new = look.files new; before = (sink.output before).taken; taken = (sink.output after).taken }
  changed w old new before after a b c d = (λ i. record { old = look.files (a i); new = look.files (b i); before = (sink.output (c i)).taken; taken = (sink.output (d i)).taken })

  module _ (v w : Verifying F S) (old new : F) (before after : S) (v_store : v.store.now ≡ old) (v_first : v.first.value ≡ old) (v_out : v.out.now ≡ before) (v_before : v.before.value ≡ before)
      (w_store : w.store.now ≡ new) (w_out : w.out.now ≡ after) where
    whole : (r : Result Unit StoreCheck) → VerifiesOn look sink v w r → change_of look sink w ≡ record { old = look.files old; new = look.files new; before = (sink.output before).taken; taken = (sink.output after).taken }
    whole r on = changed w old new before after (on.first ∙ v_first) w_store (on.before ∙ v_before) w_out

    place_of : (r : Result Unit StoreCheck) → VerifiesOn look sink v w r → look.place new ≡ look.place old
    place_of r on = sym (ap look.place w_store) ∙ on.place ∙ ap look.place v_store

    faults_of : (r : Result Unit StoreCheck) → VerifiesOn look sink v w r → CountsFaults checks.OutFault checks.Memory (sink.output before).faults (sink.output after).faults r
    faults_of r on = subst (λ (s : S). CountsFaults checks.OutFault checks.Memory (sink.output before).faults (sink.output s).faults r) w_out
        (subst (λ (s : S). CountsFaults checks.OutFault checks.Memory (sink.output s).faults (sink.output w.out.now).faults r) v_out on.faults)

    store_faults_of : (r : Result Unit StoreCheck) → VerifiesOn look sink v w r → CountsCause checks.StoreFault (look.faults old) (look.faults new) r
    store_faults_of r on = subst (λ (f : F). CountsCause checks.StoreFault (look.faults old) (look.faults f) r) w_store
        (subst (λ (f : F). CountsCause checks.StoreFault (look.faults f) (look.faults w.store.now) r) v_store on.store_faults)

    -- all files were looked at
    pub ends_all : ((a b : List ℕ) → IsId b → path_of a ≡ path_of b → a ≡ b) → (left : ℕ) → VerifiesOn look sink v w (Ok tt) → length w.ids.now ≤ w.at → left ≡ cond w.rule.repair 0 w.found
        → StoreCheckEnds look sink v.rule old new before after (Ok left)
    ends_all one left on past is = record {
      ok = subst (λ (x : CheckRule). IsStoreChecked x.kind x.repair left (record { old = look.files old; new = look.files new; before = (sink.output before).taken; taken = (sink.output after).taken })) on.rule
          (subst (IsStoreChecked w.rule.kind w.rule.repair left) (whole (Ok tt) on) (verified_all one w left on.next past is));
      err = tt;
      place = place_of (Ok tt) on;
      store_faults = cause_given checks.StoreFault tt left _ _ (store_faults_of (Ok tt) on);
      faults = faults_given checks.OutFault checks.Memory tt left _ _ (faults_of (Ok tt) on);
    }

    -- it ended at one
    pub ends_early : (fault : StoreCheck) → VerifiesOn look sink v w (Err fault) → StoreCheckEnds look sink v.rule old new before after (Err fault)
    ends_early fault on = record {
      ok = tt;
      err = subst (StopsVerifying v.rule.kind v.rule.repair) (whole (Err fault) on) on.ends;
      place = place_of (Err fault) on;
      store_faults = cause_again checks.StoreFault fault _ _ (store_faults_of (Err fault) on);
      faults = faults_again checks.OutFault checks.Memory fault _ _ (faults_of (Err fault) on);
    }

  abbrev first_change : Verifying F S → Change
  first_change w = record { old = look.files w.first.value; new = look.files w.first.value; before = (sink.output w.before.value).taken; taken = (sink.output w.before.value).taken }

  -- no file was looked at yet
  pub verifying_begins : (w : Verifying F S) → IfSome (look.files w.first.value) (λ m. IsIdsOf m w.ids.now) → w.buf.now.items ≡ [] → w.at ≡ 0 → w.found ≡ 0 → w.first.value ≡ w.store.now → w.before.value ≡ w.out.now → IsVerifying look sink w
  verifying_begins w listed empty at found first before = record {
    listed = listed;
    at = omega (arith, at);
    room = omega (arith, ap length empty);
    told = subst (ToldTo w.rule.kind w.rule.repair w.ids.now w.at w.found) (λ i. record { old = look.files w.first.value; new = look.files (first i); before = (sink.output w.before.value).taken; taken = (sink.output (before i)).taken })
        (subst (λ (n : ℕ). ToldTo w.rule.kind w.rule.repair w.ids.now w.at n (first_change w)) (sym found) (subst (λ (n : ℕ). ToldTo w.rule.kind w.rule.repair w.ids.now n 0 (first_change w)) (sym at) (told_begins w.rule.kind w.rule.repair w.ids.now (look.files w.first.value) (sink.output w.before.value).taken)));
  }

  -- one file more, whose id this is
  module _ (one : (a b : List ℕ) → IsId b → path_of a ≡ path_of b → a ≡ b) (w : Verifying F S) (is : IsVerifying look sink w) (less : w.at < length w.ids.now) (id : List ℕ) (is_id : IsId id) (named : id ≡ id_at w.ids.now w.at) where
    inside : w.at < length (map (λ id. id.0) w.ids.now)
    inside = omega (arith, less, length-map w.ids.now (λ (id : ChunkId). id.0))

    -- the change by this file, and the whole change with it
    abbrev step_to : F → S → Change
    step_to new after = record { old = look.files w.store.now; new = look.files new; before = (sink.output w.out.now).taken; taken = (sink.output after).taken }

    abbrev all_to : F → S → Change
    all_to new after = record { old = look.files w.first.value; new = look.files new; before = (sink.output w.before.value).taken; taken = (sink.output after).taken }

    -- what is known of it holds of the file as it is now
    pub known_now : (known : Option Bool) → IfSome known (λ b. IsVerdict w.rule.kind (look.files w.first.value) w.ids.now (verdict w.at b)) → IfSome known (λ b. IfSome (look.files w.store.now) (λ m. b ≡ is_damaged w.rule.kind m id))
    known_now None h = tt
    known_now (Some b) h = told_now one w.rule.kind w.rule.repair w.ids.now w.at w.found inside (change_of look sink w) (step_to w.store.now w.out.now) refl refl is.listed is.told id named is_id b
        (subst (λ (x : List ℕ). IfSome (look.files w.first.value) (λ m. b ≡ is_damaged w.rule.kind m x)) (sym named) h)

    pub stops_at : (new : F) (after : S) (fault : StoreCheck) → ChecksFile w.rule.kind w.rule.repair id (step_to new after) (Err fault) → StopsVerifying w.rule.kind w.rule.repair (all_to new after)
    stops_at new after fault ends = inr (told_stops one w.rule.kind w.rule.repair w.ids.now w.at w.found inside (change_of look sink w) (step_to new after) refl refl is.listed is.told id named is_id fault ends)

    pub goes_past : (new : F) (after : S) (b : Bool) (more : ℕ) → more ≡ cond b 1 0 → ChecksFile w.rule.kind w.rule.repair id (step_to new after) (Ok b) → ToldTo w.rule.kind w.rule.repair w.ids.now (w.at + 1) (w.found + more) (all_to new after)
    goes_past new after b more is_more ends = told_next one w.rule.kind w.rule.repair w.ids.now w.at w.found inside (change_of look sink w) (step_to new after) refl refl is.listed is.told id named is_id b more is_more ends
