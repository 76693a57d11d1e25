-- Turns up to the end of a connection.
use Rattle.std.proofs.Common.{◌≡◌, ℕ, List, [], Option, Some, None, refl, sym, ap, subst, ◌∙◌, unwrap_or}
use Rattle.std.specs.Prelude.{IfSome}
use Rattle.std.specs.Option.{option_map}
use Rattle.std.proofs.lemmas.List.{append-nil}
use Rattle.dsy_base.specs.Links.{Traffic}
use Rattle.http_serve.specs.Protocols.{Protocol}
use Rattle.http_serve.specs.Steps.{ServedState}
use Rattle.http_serve.specs.Streams.{Stream, stream_in}
use Rattle.http_serve.specs.Turns.{ConnectionFails, Cut, Lacking, Lingers, RequestsStop, Served, Stays, replies}
use Rattle.http_serve.proofs.Talking.{breaks_on, goes_on, talks_none, whole_most}
use Rattle.http_serve.proofs.Taking.{near_same}

module _ {R M : Type 0} (p : Protocol R M) where
  pub stays_none : (w : List ℕ) (t : Option Traffic) (x : ServedState M) → w ≡ [] → Stays p (stream_in [] t) x (stream_in w t) x
  stays_none w None x is = tt
  stays_none w (Some t) x is = (
    record { left = t.coming; sent = t.sent },
    ap (λ v. stream_in v (Some t)) is,
    record { turns = []; talks = talks_none p t.coming x; sent = sym (append-nil t.sent) },
  )

  module _ (a b c : Option Stream) (x y z : ServedState M) (one : Stays p a x b y) where
    pub stays_on : Stays p b y c z → Stays p a x c z
    stays_on two = joined a one two
      where
        joined : (o : Option Stream) → Stays p o x b y → Stays p b y c z → Stays p o x c z
        joined None h t = tt
        joined (Some s) h t =
            let more = subst (λ (o : Option Stream). Stays p o y c z) h.1 t in
            (more.0, more.1, goes_on p s.left h.0.left s.sent h.0.sent more.0.sent (Some more.0.left) x y z h.2 more.2)

    pub stops_on : RequestsStop p b y c z → RequestsStop p a x c z
    stops_on two = joined a one two c refl
      where
        joined : (o : Option Stream) → Stays p o x b y → RequestsStop p b y c z → (d : Option Stream) → d ≡ c → RequestsStop p o x c z
        joined None h t d e = tt
        joined (Some s) h t None e = subst (λ (o : Option Stream). RequestsStop p (Some s) x o z) e tt
        joined (Some s) h t (Some u) e =
            let more = subst (λ (o : Option Stream). RequestsStop p o y (Some u) z) h.1 (subst (λ (o : Option Stream). RequestsStop p b y o z) (sym e) t) in
            subst (λ (o : Option Stream). RequestsStop p (Some s) x o z) e
            (more.0, goes_on p s.left h.0.left s.sent h.0.sent u.sent more.0 x y z h.2 more.1, more.2)

    pub fails_on : ConnectionFails p b y c z → ConnectionFails p a x c z
    fails_on two = joined a one two c refl
      where
        joined : (o : Option Stream) → Stays p o x b y → ConnectionFails p b y c z → (d : Option Stream) → d ≡ c → ConnectionFails p o x c z
        joined None h t d e = tt
        joined (Some s) h t None e = subst (λ (o : Option Stream). ConnectionFails p (Some s) x o z) e tt
        joined (Some s) h t (Some u) e =
            let more = subst (λ (o : Option Stream). ConnectionFails p o y (Some u) z) h.1 (subst (λ (o : Option Stream). ConnectionFails p b y o z) (sym e) t) in
            subst (λ (o : Option Stream). ConnectionFails p (Some s) x o z) e
            (more.0, breaks_on p s.left h.0.left s.sent h.0.sent u.sent more.0 x y z h.2 more.1)

    pub lingers_on : Lingers p b y c z → Lingers p a x c z
    lingers_on two = joined a one two c refl
      where
        joined : (o : Option Stream) → Stays p o x b y → Lingers p b y c z → (d : Option Stream) → d ≡ c → Lingers p o x c z
        joined None h t d e = tt
        joined (Some s) h t None e = subst (λ (o : Option Stream). Lingers p (Some s) x o z) e tt
        joined (Some s) h t (Some u) e =
            let more = subst (λ (o : Option Stream). Lingers p o y (Some u) z) h.1 (subst (λ (o : Option Stream). Lingers p b y o z) (sym e) t) in
            subst (λ (o : Option Stream). Lingers p (Some s) x o z) e
            (more.0, more.1, breaks_on p s.left h.0.left s.sent h.0.sent u.sent more.0 x y more.1 h.2 more.2, more.3)

  -- ---- the whole connection

  module _ (w : List ℕ) (x z : ServedState M) where
    pub served : (s t : Option Traffic) → RequestsStop p (stream_in [] s) x (stream_in w t) z → IfSome s (λ a. IfSome t (λ b. Served p a x b z))
    served None t h = tt
    served (Some a) None h = tt
    served (Some a) (Some b) h = h

    pub cut : (s t : Option Traffic) → ConnectionFails p (stream_in [] s) x (stream_in w t) z → IfSome s (λ a. IfSome t (λ b. Cut p a x b z))
    cut None t h = tt
    cut (Some a) None h = tt
    cut (Some a) (Some b) h = h

    pub lacking : (s t : Option Traffic) → Lingers p (stream_in [] s) x (stream_in w t) z → IfSome s (λ a. IfSome t (λ b. Lacking p a x b z))
    lacking None t h = tt
    lacking (Some a) None h = tt
    lacking (Some a) (Some b) h = h

    -- broken off after whole turns
    pub full : ((m : M) → p.answering.alike m m) → (s t : Option Traffic) → Stays p (stream_in [] s) x (stream_in w t) z → IfSome s (λ a. IfSome t (λ b. Lacking p a x b z))
    full same None t h = tt
    full same (Some a) None h = tt
    full same (Some a) (Some b) h =
        let goes = h.2 in
        let sent : h.0.sent ≡ b.sent = ap (λ o. unwrap_or o []) (ap (option_map (λ (u : Stream). u.sent)) (sym h.1)) in (
          Some h.0.left,
          z,
          record {
            turns = goes.turns;
            talks = goes.talks;
            part = replies p.reading.closes goes.turns;
            most = whole_most p goes.turns;
            sent = sym sent ∙ goes.sent;
          },
          near_same p same (Some h.0.left) z,
        )
