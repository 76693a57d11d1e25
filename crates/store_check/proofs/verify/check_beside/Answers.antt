use Rattle.std.proofs.Common.{◌≡◌, All, IfSome, Some, ap, arith, map, subst, sym, ◌∙◌}
use Rattle.std.specs.List.{AllZip}
use Rattle.std.proofs.lemmas.List.{with_items_is}
use Rattle.store_check.proofs.Looks.{looks_kept, looks_back, hired_all}
use Rattle.store_check.specs.Reading.{KeepsLook}
use Rattle.store_check.proofs.verify.check_beside.Goals as goal

pub returns-then-capacity-len-clause-others : goal.returns-then-capacity-len-clause-others
returns-then-capacity-len-clause-others g c = looks_kept g.L.Look c.args.others.now.items

pub check_files-checked-requires-clause-alike : goal.check_files-checked-requires-clause-alike
check_files-checked-requires-clause-alike g c = λ lifetimes bounds.
    let P : g.row.L.Denot → Type 0 = λ l. IfSome (g.F.Look.files c.args.store.now) (λ m. g.L.Look.files l ≡ Some m) in
    subst (All (λ r. P r.store)) (sym c.deref_mut-2.ensures.value) (hired_all P (λ r. r.store) c.args.others.now.items c.hire.new.readers.items c.hire.ensures.kept c.requires.alike)

pub returns-clause-others : goal.returns-clause-others
returns-clause-others g c =
    let K = KeepsLook g.L.Look in
    let rs = c.hire.new.readers.items in
    let news = c.check_files-checked.new.readers in
    let items = with_items_is c.hire.new.readers news (omega (arith, c.check_files-checked.auto.readers, c.deref_mut-2.ensures.len)) in
    let is : c.dismiss.new.looks.items ≡ map (λ r. r.store) news = c.dismiss.ensures.kept ∙ ap (map (λ r. r.store)) items in
    let all = subst (λ xs. AllZip (λ r s. K r.store s.store) xs news) c.deref_mut-2.ensures.value c.check_files-checked.ensures.others in
    subst (λ ls. AllZip K ls c.dismiss.new.looks.items) (sym c.hire.ensures.kept) (subst (λ ls. AllZip K (map (λ r. r.store) rs) ls) (sym is) (looks_back g.L.Look (λ r. r.store) rs news all))
