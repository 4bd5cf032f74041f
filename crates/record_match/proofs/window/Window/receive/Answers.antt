use Rattle.std.proofs.Common.{◌≡◌, ℕ, ◌<◌, false, List, length, get_or, sym, ap, ◌∙◌}
use Rattle.record_match.specs.Kept.{told}
use Rattle.record_match.specs.Match.{Sent, as_sent, is_known, is_met_by}
use Rattle.record_match.specs.Settled.{sent_moment}
use Rattle.record_match.specs.Window.{IsFirstMet, Window, with_received}
use Rattle.record_match.proofs.Meeting.{known-at, met-at, met-none, moment-at, moment-none, some-moment}
use Rattle.record_match.proofs.window.Window.receive.Goals as goal

-- a window that holds these
abbrev holding : Window → List Sent → Window
holding w held = record w { held = held }

pub take-requires : goal.take-requires
take-requires g c =
    let h : IsFirstMet c.pass.new.self.within (told c.args.received.now) c.pass.new.self.held c.in-Some.i = c.in-Some.ensures in
    h.inside

pub returns-in-Some-clause-answer : goal.returns-in-Some-clause-answer
returns-in-Some-clause-answer g c =
    let m = told c.args.received.now in
    let h : IsFirstMet c.pass.new.self.within m c.pass.new.self.held c.in-Some.i = c.in-Some.ensures in
    known-at c.pass.new.self.within m c.pass.new.self.held c.in-Some.i (as_sent m) h.inside h.before h.here
    ∙ ap (λ (w : Window). is_known w.within m w.held) c.pass.ensures.window

pub returns-in-Some-clause-window : goal.returns-in-Some-clause-window
returns-in-Some-clause-window g c =
    let m = told c.args.received.now in
    let h : IsFirstMet c.pass.new.self.within m c.pass.new.self.held c.in-Some.i = c.in-Some.ensures in
    c.take.ensures.window
    ∙ ap (λ (l : List Sent). holding c.pass.new.self l) (sym (met-at c.pass.new.self.within m c.pass.new.self.held c.in-Some.i (as_sent m) h.inside h.before h.here))
    ∙ ap (λ (w : Window). with_received m w) c.pass.ensures.window

pub returns-in-None-clause-answer : goal.returns-in-None-clause-answer
returns-in-None-clause-answer g c =
    let m = told c.args.received.now in
    let h : (k : ℕ) → k < length c.pass.new.self.held → is_met_by c.pass.new.self.within m (get_or c.pass.new.self.held k (as_sent m)) ≡ false = c.in-None.ensures in
    let none = met-none c.pass.new.self.within m c.pass.new.self.held (as_sent m) h in
    none.1 ∙ ap (λ (w : Window). is_known w.within m w.held) c.pass.ensures.window

pub returns-in-None-clause-window : goal.returns-in-None-clause-window
returns-in-None-clause-window g c =
    let m = told c.args.received.now in
    let h : (k : ℕ) → k < length c.pass.new.self.held → is_met_by c.pass.new.self.within m (get_or c.pass.new.self.held k (as_sent m)) ≡ false = c.in-None.ensures in
    let none = met-none c.pass.new.self.within m c.pass.new.self.held (as_sent m) h in
    ap (λ (l : List Sent). holding c.pass.new.self l) (sym none.0) ∙ ap (λ (w : Window). with_received m w) c.pass.ensures.window

pub returns-in-Some-clause-moment : goal.returns-in-Some-clause-moment
returns-in-Some-clause-moment g c =
    let m = told c.args.received.now in
    let h : IsFirstMet c.pass.new.self.within m c.pass.new.self.held c.in-Some.i = c.in-Some.ensures in
    ap some-moment c.take.ensures.moment
    ∙ moment-at c.pass.new.self.within m c.pass.new.self.held c.in-Some.i (as_sent m) h.inside h.before h.here
    ∙ ap (λ (w : Window). sent_moment w.within m w.held) c.pass.ensures.window

pub returns-in-None-clause-moment : goal.returns-in-None-clause-moment
returns-in-None-clause-moment g c =
    let m = told c.args.received.now in
    let h : (k : ℕ) → k < length c.pass.new.self.held → is_met_by c.pass.new.self.within m (get_or c.pass.new.self.held k (as_sent m)) ≡ false = c.in-None.ensures in
    moment-none c.pass.new.self.within m c.pass.new.self.held (as_sent m) h
    ∙ ap (λ (w : Window). sent_moment w.within m w.held) c.pass.ensures.window
