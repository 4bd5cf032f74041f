use Rattle.std.proofs.Common.{◌≡◌, ℕ, ◌+◌, ◌==◌, ◌∷◌, ◌++◌, [], arith, Bool, false, true, if◌then◌else◌, length, sym, ap, ◌∙◌, subst}
use Rattle.std.specs.List.{FoldsTo}
use Rattle.record_match.specs.Compared.{Comparison, Counted, IsCompared, logged}
use Rattle.record_match.specs.Settled.{gone_alone}
use Rattle.record_match.specs.Kept.{told}
use Rattle.record_match.specs.Window.{Window, at_moment, has_room}
use Rattle.record_match.proofs.Comparing.{cut-sent, none-sent, not-sent-there, one-cut, one-sent, same-within, sent-there}
use Rattle.record_match.proofs.comparison.Comparison.send.Goals as goal

pub returns-clause-told : goal.returns-clause-told
returns-clause-told g c = λ sent received now log h le before is.
    let m = told c.args.sent.now in
    let old : Comparison = record { window = c.self.inside.window; sent = c.self.inside.sent; received = c.self.inside.received; both = c.self.inside.both; cut = c.self.inside.cut; log = log } in
    let so_far = subst (λ (x : Counted). IsCompared (logged x log) sent received now) (sym c.self.view_is) h in
    let room : has_room (at_moment m.moment c.self.inside.window) (length m.octets) ≡ true = sym c.send-has_room.ensures.answer ∙ is in
    let x = one-sent old sent received now m c.send-has_room.new.self so_far le before (c.send-has_room.ensures.window ∙ sent-there m (at_moment m.moment c.self.inside.window) room) in
    let n : c.one_if-one.result ≡ 1 = c.one_if-one.ensures.value ∙ ap (λ (b : Bool). if b then 1 else 0) is in
    let k : c.if_cut.result ≡ one-cut m = c.if_cut.ensures.value ∙ ap (λ (n : ℕ). if m.missing == 0 then 0 else n) n in
    let y = subst (λ (n : ℕ). IsCompared (record { window = c.send-has_room.new.self; sent = c.self.inside.sent + n; received = c.self.inside.received; both = c.self.inside.both; cut = cut-sent c.self.inside.cut (one-cut m); log = log ++ gone_alone m.moment c.self.inside.window }) (sent ++ m ∷ []) received m.moment) (sym n) x in
    let z = subst (λ (n : ℕ). IsCompared (record { window = c.send-has_room.new.self; sent = c.self.inside.sent + c.one_if-one.result; received = c.self.inside.received; both = c.self.inside.both; cut = cut-sent c.self.inside.cut n; log = log ++ gone_alone m.moment c.self.inside.window }) (sent ++ m ∷ []) received m.moment) (sym k) y in
    subst (λ (v : Counted). IsCompared (record { window = c.send-has_room.new.self; sent = c.self.inside.sent + c.one_if-one.result; received = c.self.inside.received; both = c.self.inside.both; cut = cut-sent c.self.inside.cut c.if_cut.result; log = log ++ gone_alone m.moment v.window }) (sent ++ m ∷ []) received m.moment) c.self.view_is z

pub returns-clause-full : goal.returns-clause-full
returns-clause-full g c = λ sent received now log h le is.
    let m = told c.args.sent.now in
    let old : Comparison = record { window = c.self.inside.window; sent = c.self.inside.sent; received = c.self.inside.received; both = c.self.inside.both; cut = c.self.inside.cut; log = log } in
    let so_far = subst (λ (x : Counted). IsCompared (logged x log) sent received now) (sym c.self.view_is) h in
    let room : has_room (at_moment m.moment c.self.inside.window) (length m.octets) ≡ false = sym c.send-has_room.ensures.answer ∙ is in
    let x = none-sent old sent received now m c.send-has_room.new.self so_far le (c.send-has_room.ensures.window ∙ not-sent-there m (at_moment m.moment c.self.inside.window) room) in
    let n : c.one_if-one.result ≡ 0 = c.one_if-one.ensures.value ∙ ap (λ (b : Bool). if b then 1 else 0) is in
    let as_many : c.self.inside.sent ≡ c.self.inside.sent + c.one_if-one.result = omega (arith, n) in
    let none_cut : 0 ≡ c.if_cut.result = omega (arith, n, c.if_cut.ensures.bound) in
    let y = subst (λ (n : ℕ). IsCompared (record { window = c.send-has_room.new.self; sent = n; received = c.self.inside.received; both = c.self.inside.both; cut = cut-sent c.self.inside.cut 0; log = log ++ gone_alone m.moment c.self.inside.window }) sent received m.moment) as_many x in
    let z = subst (λ (n : ℕ). IsCompared (record { window = c.send-has_room.new.self; sent = c.self.inside.sent + c.one_if-one.result; received = c.self.inside.received; both = c.self.inside.both; cut = cut-sent c.self.inside.cut n; log = log ++ gone_alone m.moment c.self.inside.window }) sent received m.moment) none_cut y in
    subst (λ (v : Counted). IsCompared (record { window = c.send-has_room.new.self; sent = c.self.inside.sent + c.one_if-one.result; received = c.self.inside.received; both = c.self.inside.both; cut = cut-sent c.self.inside.cut c.if_cut.result; log = log ++ gone_alone m.moment v.window }) sent received m.moment) c.self.view_is z

pub returns-clause-within : goal.returns-clause-within
returns-clause-within g c =
    let m = told c.args.sent.now in
    ap (λ (w : Window). w.within) c.send-has_room.ensures.window ∙ same-within m (at_moment m.moment c.self.inside.window) ∙ ap (λ (x : Counted). x.window.within) c.self.view_is

pub returns-clause-seen : goal.returns-clause-seen
returns-clause-seen g c =
    subst (λ (v : Counted). FoldsTo g.W.Onlooker.sees c.args.onlooker.now (gone_alone c.args.sent.now.moment v.window) c.send-has_room.new.onlooker) c.self.view_is c.send-has_room.ensures.seen
