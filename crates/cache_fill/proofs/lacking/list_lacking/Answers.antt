use Rattle.std.proofs.Common.{◌≡◌, ◌+◌, ◌++◌, List, [], ◌∷◌, length, true, Option, None, Ok, IfSome, ap, arith, subst, sym, ◌∙◌}
use Rattle.std.proofs.lemmas.List.{length_push}
use Rattle.std.specs.Option.{option_map}
use Rattle.cache_fill.proofs.Sparing.{marked_push}
use Rattle.cache_fill.specs.Fetching.{MarksLacking}
use Rattle.cache_fill.specs.FillProgress.{shelf_at}
use Rattle.cache_store.specs.Shelves.{held_on}
use Rattle.caibx_codec.specs.Listing.{id_of}
use Rattle.chunk_store.specs.Folders.{chunks}
use Rattle.dsy_base.specs.Maps.{Map}
use Rattle.cache_fill.proofs.lacking.list_lacking.Goals as goal

pub loop-i-preserved : goal.loop-i-preserved
loop-i-preserved g c =
    let l = c.args.index.now in
    let i = c.loop-i.i in
    let marks = c.loop-i.lacking.items in
    let lacks = c.in_ok-lacks.lacks in
    let was = c.loop-i.invariant.kept in
    let looked = c.is_first_lack.ensures.kept in
    let held = held_on (shelf_at g.F.Look g.S.Store c.args.cached.now) in
    let pushed : c.push.new.self.items ≡ marks ++ lacks ∷ [] = c.in_ok-push.ensures.items in
    let Lacks : Option (Map (List _)) → Type 0 = λ files. IfSome (option_map chunks files) (λ m. m (id_of l i) ≡ None) in
    let here : lacks ≡ true → IfSome held (λ m. m (id_of l i) ≡ None) = λ h. subst Lacks was.files (c.is_first_lack.ensures.only (c.in_ok-lacks.was ∙ ap Ok h)) in
    let long = length_push marks lacks in
    record {
      kept = record {
        files = looked.files ∙ was.files;
        place = looked.place ∙ was.place;
        kind = looked.kind ∙ was.kind;
        never_falls = omega (arith, was.never_falls, looked.never_falls);
        others = looked.others ∙ was.others;
      };
      chain = c.is_first_lack.ensures.chain ∙ c.loop-i.invariant.chain;
      only = subst (MarksLacking l held) (sym pushed) (marked_push l marks i c.loop-i.invariant.count lacks held c.loop-i.invariant.only here);
      count = ap length pushed ∙ long ∙ ap (λ n. n + 1) c.loop-i.invariant.count;
    }
