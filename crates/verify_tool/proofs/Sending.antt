-- Text that goes to a sink in parts.
use Rattle.std.proofs.Common.{◌≡◌, ℕ, ◌+◌, ◌<◌, ◌≤◌, List, [], ◌∷◌, ◌++◌, length, take, drop, get_or, Option, Some, None, Result, Ok, Err, OnOk, slice_index_or, refl, sym, subst, ap, ◌∙◌, append_assoc, arith, length-append, add-one}
use Rattle.std.specs.Option.{option_map}
use Rattle.std.specs.List.{flat_map}
use Rattle.std.proofs.Math.Seq.{take-append-add, take-append_seam, take-suc}
use Rattle.std.proofs.lemmas.List.{take-append-le, take-append-drop, take_all, append-nil}
use Rattle.std.proofs.lemmas.Grind.{flat_map-append}
use Rattle.dsy_base.specs.declared.fault.IoFault.{IoFault}
use Rattle.dsy_base.specs.declared.fault.IoFault.TheVariants as io
use Rattle.verify_tool.specs.Blocks.{PutsAllBut}
use Rattle.dsy_base.specs.Disk.{PutsFront}
use Rattle.dsy_base.specs.Texts.{Puts}
use Rattle.verify_tool.specs.Texts.{id_line}
use Rattle.hex.specs.Hex.{encode_lower}

-- one part after another
pub put_both : (o : Option (List ℕ)) (p q : List ℕ) → option_map (λ t. t ++ q) (option_map (λ t. t ++ p) o) ≡ option_map (λ t. t ++ (p ++ q)) o
put_both None p q = refl
put_both (Some t) p q = ap Some (append_assoc t p q)

pub put_nothing : (o : Option (List ℕ)) → option_map (λ t. t ++ []) o ≡ o
put_nothing None = refl
put_nothing (Some t) = ap Some (append-nil t)

-- a put says so of its text
pub put_gives : (b : List ℕ) (old new : Option (List ℕ)) (result : Result Unit IoFault) → OnOk result (new ≡ option_map (λ t. t ++ b) old) → (result ≡ Err io.Failed → PutsFront b old new) → (result ≡ Err io.Memory → new ≡ old) → Puts b old new result
put_gives b old new (Ok r) ok err kept = ok
put_gives b old new (Err io.Failed) ok err kept = err refl
put_gives b old new (Err io.Memory) ok err kept = (0, omega arith, kept refl ∙ sym (put_nothing old))

pub begins : (o : Option (List ℕ)) → PutsAllBut [] o o []
begins o = ([], refl, sym (put_nothing o))

-- more text
pub sent_more : (text : List ℕ) (old new : Option (List ℕ)) (left more : List ℕ) → PutsAllBut text old new left → PutsAllBut (text ++ more) old new (left ++ more)
sent_more text old new left more (p, e, f) = (p, ap (λ t. t ++ more) e ∙ append_assoc p left more, f)

-- more has gone
pub sent_on : (text : List ℕ) (old now new : Option (List ℕ)) (left rest : List ℕ) → PutsAllBut text old now left → PutsAllBut left now new rest → PutsAllBut text old new rest
sent_on text old now new left rest (p, e, f) (q, d, h) =
    (p ++ q, e ∙ ap (λ t. p ++ t) d ∙ sym (append_assoc p q rest), h ∙ ap (λ o. option_map (λ t. t ++ q) o) f ∙ put_both old p q)

-- what has gone is a prefix of the whole text
pub prefix_sent : (text : List ℕ) (old new : Option (List ℕ)) (left more : List ℕ) → PutsAllBut text old new left → PutsFront (text ++ more) old new
prefix_sent text old new left more (p, e, f) =
    let whole : text ++ more ≡ p ++ (left ++ more) = ap (λ t. t ++ more) e ∙ append_assoc p left more in
    let size : length p ≤ length (text ++ more) = omega (arith, ap length whole, length-append p (left ++ more)) in
    let cut : take (length p) (text ++ more) ≡ p = ap (take (length p)) whole ∙ take-append_seam p (left ++ more) in
    (length p, size, f ∙ ap (λ b. option_map (λ t. t ++ b) old) (sym cut))

-- so is what has gone before a refusal
pub prefix_cut : (text : List ℕ) (old now new : Option (List ℕ)) (left more : List ℕ) → PutsAllBut text old now left → PutsFront left now new → PutsFront (text ++ more) old new
prefix_cut text old now new left more (p, e, f) (n, fits, h) =
    let whole : text ++ more ≡ p ++ (left ++ more) = ap (λ t. t ++ more) e ∙ append_assoc p left more in
    let size : length p + n ≤ length (text ++ more) = omega (arith, fits, ap length whole, length-append p (left ++ more), length-append left more) in
    let cut : take (length p + n) (text ++ more) ≡ p ++ take n left = ap (take (length p + n)) whole ∙ take-append-add p (left ++ more) n ∙ ap (λ b. p ++ b) (take-append-le n left more fits) in
    (length p + n, size, h ∙ ap (λ o. option_map (λ t. t ++ take n left) o) f ∙ put_both old p (take n left) ∙ ap (λ b. option_map (λ t. t ++ b) old) (sym cut))

-- the last put ends the text
pub puts_last : (text : List ℕ) (old now new : Option (List ℕ)) (left : List ℕ) (result : Result Unit IoFault) → PutsAllBut text old now left → Puts left now new result → Puts text old new result
puts_last text old now new left (Ok r) (p, e, f) put = put ∙ ap (λ o. option_map (λ t. t ++ left) o) f ∙ put_both old p left ∙ ap (λ b. option_map (λ t. t ++ b) old) (sym e)
puts_last text old now new left (Err fault) (p, e, f) put =
    let cut = prefix_cut text old now new left [] (p, e, f) put in
    (cut.0, omega (arith, cut.1, length-append text []), cut.2 ∙ ap (λ b. option_map (λ t. t ++ take cut.0 b) old) (append-nil text))

-- where the lines of the entries before entry i are the text so far
module _ (es : List (ℕ × List ℕ)) (i : ℕ) (old now new : Option (List ℕ)) (left : List ℕ) (so_far : PutsAllBut (flat_map id_line (take i es)) old now left) where
  whole_is : flat_map id_line es ≡ flat_map id_line (take i es) ++ flat_map id_line (drop i es)
  whole_is = ap (flat_map id_line) (sym (take-append-drop i es)) ∙ flat_map-append id_line (take i es) (drop i es)

  pub stops_in_put : PutsFront left now new → PutsFront (flat_map id_line es) old new
  stops_in_put cut =
      let P : List ℕ → Type 0 = λ t. PutsFront t old new in
      subst P (sym whole_is) (prefix_cut _ old now new left (flat_map id_line (drop i es)) so_far cut)

  pub stops_after_put : (rest : List ℕ) → PutsAllBut left now new rest → PutsFront (flat_map id_line es) old new
  stops_after_put rest gone =
      let P : List ℕ → Type 0 = λ t. PutsFront t old new in
      let sent = sent_on (flat_map id_line (take i es)) old now new left rest so_far gone in
      subst P (sym whole_is) (prefix_sent _ old new rest (flat_map id_line (drop i es)) sent)

  pub goes_on : (rest block id : List ℕ) → i < length es → PutsAllBut left now new rest → block ≡ rest ++ (encode_lower id ++ 10 ∷ []) → id ≡ (slice_index_or es i (0, [])).1 → PutsAllBut (flat_map id_line (take (i + 1) es)) old new block
  goes_on rest block id lt gone pushed named =
      let line : List ℕ = id_line (get_or es i (0, [])) in
      let more : flat_map id_line (take (i + 1) es) ≡ flat_map id_line (take i es) ++ line =
      ap (λ k. flat_map id_line (take k es)) (add-one i) ∙ ap (flat_map id_line) (take-suc es i (0, []) lt) ∙ flat_map-append id_line (take i es) _ ∙ ap (λ b. flat_map id_line (take i es) ++ b) (append-nil line) in
      let sent = sent_more _ old new rest line (sent_on (flat_map id_line (take i es)) old now new left rest so_far gone) in
      let P : List ℕ → Type 0 = λ t. PutsAllBut t old new (rest ++ line) in
      let Q : List ℕ → Type 0 = λ b. PutsAllBut (flat_map id_line (take (i + 1) es)) old new b in
      subst Q (sym (pushed ∙ ap (λ d. rest ++ (encode_lower d ++ 10 ∷ [])) named)) (subst P (sym more) sent)

  pub ends : (result : Result Unit IoFault) → length es ≤ i → Puts left now new result → Puts (flat_map id_line es) old new result
  ends result all put =
      let P : List ℕ → Type 0 = λ t. Puts t old new result in
      subst P (ap (flat_map id_line) (take_all i es all)) (puts_last _ old now new left result so_far put)
