use Rattle.std.proofs.Common.{◌≡◌, All, arith, rules, subst}
use Rattle.std.proofs.lemmas.List.Elements.{All-head, All-rest}
use Rattle.read_ahead.proofs.rounds.+round.Goals as goal

pub join_mut-taken-requires-after_bounds : goal.join_mut-taken-requires-after_bounds
join_mut-taken-requires-after_bounds g t c κs within =
    let counts = λ (r : g.row.V.Denot). g.V.Reader.count r ≡ g.C.Consumer.count c.args.consumer.now in
    let is = c.in-Some.ensures.cases.0 in
    let here : g.V.Reader.count c.in-Some.reader.now ≡ g.C.Consumer.count c.args.consumer.now = All-head counts _ _ (subst (All counts) is c.requires.count) in
    let able = All-head g.V.Reader.can_read _ _ (subst (All g.V.Reader.can_read) is c.requires.able) in (
      (
        c.first_item-first.ensures,
        (omega (arith, c.requires.end, here), able),
      ),
      (
        omega (arith, c.decreases, c.in-Some.ensures.cases.1),
        (
          (λ a m. m),
          (
            (λ a m. m),
            (
              (λ a m. m),
              (
                (λ a m. m),
                (
                  (λ a m. m),
                  (
                    omega (arith, c.requires.rooms, c.in-Some.ensures.cases.1, c.in-Some-split_first_mut.ensures.cases.1),
                    (
                      c.requires.inside,
                      (
                        c.requires.end,
                        (
                          c.requires.going,
                          (
                            c.requires.ready,
                            (
                              All-rest counts _ _ _ is c.requires.count,
                              (All-rest g.V.Reader.can_read _ _ _ is c.requires.able, (assumption rules, assumption rules, assumption rules, assumption rules)),
                            ),
                          ),
                        ),
                      ),
                    ),
                  ),
                ),
              ),
            ),
          ),
        ),
      ),
    )
