-- The reply to a GET says one thing of an index.
use Rattle.std.proofs.Common.{◌≡◌, ℕ, List, Ok, Err, refl, sym, ◌∙◌, ap, subst}
use Rattle.std.specs.Prelude.{Result}
use Rattle.caibx_codec.specs.Listing.{Listing}
use Rattle.caibx_codec.specs.Reading.{index_in}
use Rattle.caibx_codec.specs.Spelling.{IsIndexFile}
use Rattle.caibx_fields.specs.Limits.{file_limit}
use Rattle.caibx_fields.specs.declared.fault.IndexFault.{IndexFault}
use Rattle.dsy_base.specs.Links.{Traffic}
use Rattle.http_fetch.specs.Fetching.{RepliesToGet}
use Rattle.http_fetch.specs.declared.fetch.Unfetched.{Unfetched}
use Rattle.http_fetch.specs.declared.fetch.Unfetched.TheVariants as unfetched
use Rattle.index_server.specs.Fetching.{RepliesOfIndex, fetch_fault}
use Rattle.index_server.specs.declared.fetch_index.FetchFault.{FetchFault}
use Rattle.index_server.specs.declared.fetch_index.FetchFault.TheVariants as fault

abbrev pub OneIndex : Type 0
OneIndex = (b : List ℕ) (l m : Listing) → IsIndexFile b l → IsIndexFile b m → l ≡ m

abbrev pub OneReply : Type 0
OneReply = (most : ℕ) (t : Traffic) (r s : Result (List ℕ) Unfetched) → RepliesToGet most t r → RepliesToGet most t s → r ≡ s

-- what is answered for a body, or for none. Memory was there
abbrev Answers : Result (List ℕ) Unfetched → Result Listing FetchFault → Type 0
Answers (Ok b) (Ok l) = IsIndexFile b l
Answers (Ok b) (Err (fault.Bad f)) = ((l : Listing) → IsIndexFile b l → ⊥) × (index_in b ≡ Err f)
Answers (Ok b) (Err _) = ⊥
Answers (Err why) r = r ≡ Err (fetch_fault why)

-- an answer stands on what the reply to the GET says
abbrev Stands : Traffic → Result Listing FetchFault → Type 0
Stands t r = (q : Result (List ℕ) Unfetched) × RepliesToGet file_limit t q × Answers q r

stands : (t : Traffic) (r : Result Listing FetchFault) → RepliesOfIndex t r → Stands t r
stands t (Ok l) is = (Ok is.bytes, is.body, is.file)
stands t (Err fault.Absent) is = (Err unfetched.Absent, is, refl)
stands t (Err (fault.Bad f)) is = (Ok is.bytes, is.body, (is.none, is.first))
stands t (Err (fault.Status status)) is = (Err (unfetched.Status status), is, refl)
stands t (Err (fault.Wire f)) is = (Err (unfetched.Wire f), is, refl)
stands t (Err fault.Failed) is = absurd is
stands t (Err fault.Memory) is = absurd is

-- a body that gives no index has a fault
record IsNone (b : List ℕ) (why : FetchFault) : Type 0 where
  first : IndexFault
  is : why ≡ fault.Bad first
  none : (l : Listing) → IsIndexFile b l → ⊥
  reads : index_in b ≡ Err first

is_none : (b : List ℕ) (why : FetchFault) → Answers (Ok b) (Err why) → IsNone b why
is_none b (fault.Bad f) is = record { first = f; is = refl; none = is.0; reads = is.1 }
is_none b fault.Absent is = absurd is
is_none b (fault.Status status) is = absurd is
is_none b (fault.Wire f) is = absurd is
is_none b fault.Failed is = absurd is
is_none b fault.Memory is = absurd is

same_fault : (b : List ℕ) (f g : IndexFault) → index_in b ≡ Err f → index_in b ≡ Err g → f ≡ g
same_fault b f g is so = cc (is, so)

one_answer : OneIndex → (q : Result (List ℕ) Unfetched) (r s : Result Listing FetchFault) → Answers q r → Answers q s → r ≡ s
one_answer one (Ok b) (Ok l) (Ok m) is so = ap (λ x. Ok x) (one b l m is so)
one_answer one (Ok b) (Ok l) (Err g) is so = absurd ((is_none b g so).none l is)
one_answer one (Ok b) (Err f) (Ok m) is so = absurd ((is_none b f is).none m so)
one_answer one (Ok b) (Err f) (Err g) is so =
    let x = is_none b f is in
    let y = is_none b g so in
    ap (λ e. Err e) (x.is ∙ ap (λ e. fault.Bad e) (same_fault b x.first y.first x.reads y.reads) ∙ sym y.is)
one_answer one (Err why) r s is so = is ∙ sym so

pub one_fetch : OneIndex → OneReply → (t : Traffic) (r s : Result Listing FetchFault) → RepliesOfIndex t r → RepliesOfIndex t s → r ≡ s
one_fetch index reply t r s is so =
    let a = stands t r is in
    let b = stands t s so in
    let same : a.0 ≡ b.0 = reply file_limit t a.0 b.0 a.1 b.1 in
    one_answer index a.0 r s a.2 (subst (λ q. Answers q s) (sym same) b.2)
