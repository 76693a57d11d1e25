use Rattle.std.proofs.Common.{◌≡◌, ◌∙◌, true, is_some, inr, sym}
use Rattle.server_commands.proofs.Listened.{hears_cut, hears_lacking, hears_served}
use Rattle.server_commands.proofs.in_turn.serve_next.Goals as goal

pub returns-in-Closed-clause-served : goal.returns-in-Closed-clause-served
returns-in-Closed-clause-served g c = λ h.
    let state = g.L.Listen.state in
    let link = g.L.Link.Link.state in
    let desk = g.S.Service.state in
    let tells = λ (is : is_some (state c.args.listen.now).coming ≡ true). g.met.L.Link.Link.told c.serve_connection-served.new.link ∙ g.met.L.Listen.alike (sym (g.met.L.Listen.told c.args.listen.now).0 ∙ is) in
    hears_served (g.S.Service.protocol (g.S.Service.setting c.args.desk.now)) (state c.args.listen.now) (state c.accept.new.self) (state c.end.new.self) (link c.in-Ok-Some.link) (link c.serve_connection-served.new.link) (desk c.args.desk.now) (desk c.serve_connection-served.new.desk)
    (rw c.in-Ok-Some.field-0-is at c.in-Ok-Some.ensures.found) c.accept.ensures.ended c.end.ensures.coming c.end.ensures.ended tells (rw c.in-Ok-Some.field-0-is at c.in-Ok-Some.ensures.fresh) c.serve_connection-served.ensures.given (c.serve_connection-served.ensures.ok c.in-Closed.is)

pub returns-in-LinkFault-clause-served : goal.returns-in-LinkFault-clause-served
returns-in-LinkFault-clause-served g c = λ h.
    let state = g.L.Listen.state in
    let link = g.L.Link.Link.state in
    let desk = g.S.Service.state in
    let tells = λ (is : is_some (state c.args.listen.now).coming ≡ true). g.met.L.Link.Link.told c.serve_connection-served.new.link ∙ g.met.L.Listen.alike (sym (g.met.L.Listen.told c.args.listen.now).0 ∙ is) in
    hears_cut (g.S.Service.protocol (g.S.Service.setting c.args.desk.now)) (state c.args.listen.now) (state c.accept.new.self) (state c.end.new.self) (link c.in-Ok-Some.link) (link c.serve_connection-served.new.link) (desk c.args.desk.now) (desk c.serve_connection-served.new.desk)
    (rw c.in-Ok-Some.field-0-is at c.in-Ok-Some.ensures.found) c.accept.ensures.ended c.end.ensures.coming c.end.ensures.ended tells (rw c.in-Ok-Some.field-0-is at c.in-Ok-Some.ensures.fresh) c.serve_connection-served.ensures.given (c.serve_connection-served.ensures.cause c.in-LinkFault.is) (c.serve_connection-served.ensures.cut c.in-LinkFault.is)

pub returns-in-Memory-clause-lacking : goal.returns-in-Memory-clause-lacking
returns-in-Memory-clause-lacking g c = λ h.
    let state = g.L.Listen.state in
    let link = g.L.Link.Link.state in
    let desk = g.S.Service.state in
    let tells = λ (is : is_some (state c.args.listen.now).coming ≡ true). g.met.L.Link.Link.told c.serve_connection-served.new.link ∙ g.met.L.Listen.alike (sym (g.met.L.Listen.told c.args.listen.now).0 ∙ is) in
    inr (hears_lacking (g.S.Service.protocol (g.S.Service.setting c.args.desk.now)) (state c.args.listen.now) (state c.accept.new.self) (state c.end.new.self) (link c.in-Ok-Some.link) (link c.serve_connection-served.new.link) (desk c.args.desk.now) (desk c.serve_connection-served.new.desk)
    (rw c.in-Ok-Some.field-0-is at c.in-Ok-Some.ensures.found) c.accept.ensures.ended c.end.ensures.coming c.end.ensures.ended tells (rw c.in-Ok-Some.field-0-is at c.in-Ok-Some.ensures.fresh) c.serve_connection-served.ensures.given (c.serve_connection-served.ensures.unfailed (λ e. cc (c.in-Memory.is, e))) (c.serve_connection-served.ensures.lacking c.in-Memory.is))
