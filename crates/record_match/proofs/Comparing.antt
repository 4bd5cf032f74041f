-- Records that come in turn.
use Rattle.std.proofs.Common.{◌≡◌, ℕ, ◌+◌, ◌<◌, ◌≤◌, ◌==◌, Bool, true, false, nat_lt, List, [], ◌∷◌, ◌++◌, length, map, if◌then◌else◌, refl, sym, ap, ◌∙◌, subst, arith, append_assoc, length-append, Option, Some, None, ◌-◌}
use Rattle.std.proofs.lemmas.List.{append-nil}
use Rattle.std.proofs.lemmas.Bool.{lt-ltb, ltb-true}
use Rattle.record_match.specs.Compared.{AreBefore, Comparison, IsCompared, cut_in, octets_in}
use Rattle.record_match.specs.Laws.{AreOver}
use Rattle.record_match.specs.Settled.{Fact, Both, ReceivedAlone, SentAlone, alone_from, alone_of, fact_by, gone_alone, held_alone, of_received, of_sent, over_alone, sent_moment, told_from}
use Rattle.record_match.specs.Match.{Record, Sent, as_sent, is_known, is_met_by, matched, met, met_all, received_count}
use Rattle.record_match.specs.Window.{Window, at_moment, has_room, is_over, sent_to, still_held, with_received, with_sent}
use Rattle.record_match.specs.declared.cut.Cut.{Cut}
use Rattle.record_match.proofs.Meeting.{held-enough, held_is_enough, met-known, met-unknown, later-not, over-not}

-- ---- what is over stays so

over-later : (within now later : ℕ) (s : Sent) → now ≤ later → is_over within now s ≡ true → is_over within later s ≡ true
over-later within now later s le h = by s.is_taken refl
  where
    by : (q : Bool) → s.is_taken ≡ q → is_over within later s ≡ true
    by true g = rw g refl
    by false g =
        let past : nat_lt (s.moment + within) now ≡ true = rw g at h in
        let less : s.moment + within < later = omega (arith, le, ltb-true (s.moment + within) now past) in
        rw (g, lt-ltb (s.moment + within) later less) refl

pub are-over-later : (within now later : ℕ) (ss : List Sent) → now ≤ later → AreOver within now ss → AreOver within later ss
are-over-later within now later [] le h = tt
are-over-later within now later (s ∷ ss) le h = (over-later within now later s le h.0, are-over-later within now later ss le h.1)

are-over-append : (within now : ℕ) (xs ys : List Sent) → AreOver within now xs → AreOver within now ys → AreOver within now (xs ++ ys)
are-over-append within now [] ys h g = g
are-over-append within now (x ∷ xs) ys h g = (h.0, are-over-append within now xs ys h.1 g)

-- what goes of what is held
record Goes (within now : ℕ) (held : List Sent) : Type 0 where
  pub gone : List Sent
  pub is : held ≡ gone ++ still_held within now held
  pub are_over : AreOver within now gone
  pub alone : (records : ℕ) → length held ≤ records → over_alone within now records held ≡ alone_from (records - length held + 1) gone

goes : (within now : ℕ) (held : List Sent) → Goes within now held
goes within now [] = record { gone = []; is = refl; are_over = tt; alone = λ records few. refl }
goes within now (s ∷ held) = by (is_over within now s) refl (goes within now held)
  where
    one-alone : (records : ℕ) → length (s ∷ held) ≤ records → (rest : Goes within now held)
        → alone_of (records - length held) s ++ over_alone within now records held ≡ alone_from (records - length (s ∷ held) + 1) (s ∷ rest.gone)
    one-alone records few rest =
        let k : records - length held ≡ records - length (s ∷ held) + 1 = omega (arith, few) in
        let next : records - length held + 1 ≡ records - length (s ∷ held) + 1 + 1 = omega (arith, few) in
        ap (λ (l : List Fact). alone_of (records - length held) s ++ l) (rest.alone records (omega (arith, few)))
        ∙ ap (λ (n : ℕ). alone_of (records - length held) s ++ alone_from n rest.gone) next
        ∙ ap (λ (n : ℕ). alone_of n s ++ alone_from (records - length (s ∷ held) + 1 + 1) rest.gone) k

    by : (q : Bool) → is_over within now s ≡ q → Goes within now held → Goes within now (s ∷ held)
    by true h rest = record { gone = s ∷ rest.gone; is = rw h (ap (λ (l : List Sent). s ∷ l) rest.is); are_over = (h, rest.are_over); alone = λ records few. rw h (one-alone records few rest) }
    by false h rest = record { gone = []; is = rw h refl; are_over = tt; alone = λ records few. rw h refl }

-- ---- one more was sent

map-one : (rs : List Record) (r : Record) → map as_sent (rs ++ r ∷ []) ≡ map as_sent rs ++ as_sent r ∷ []
map-one [] r = refl
map-one (x ∷ rs) r = ap (λ (l : List Sent). as_sent x ∷ l) (map-one rs r)

later-sent : (within : ℕ) (sent : List Sent) (rs : List Record) (r : Record) → AreBefore r.moment rs → met_all within (sent ++ as_sent r ∷ []) rs ≡ met_all within sent rs ++ as_sent r ∷ []
later-sent within sent [] r h = refl
later-sent within sent (x ∷ rs) r h =
    ap (λ (l : List Sent). met_all within l rs) (held-enough within x sent (as_sent r ∷ []) (h.0, tt)) ∙ later-sent within (met within x sent) rs r h.1

matched-sent : (within : ℕ) (sent received : List Record) (r : Record) → AreBefore r.moment received → matched within (sent ++ r ∷ []) received ≡ matched within sent received ++ as_sent r ∷ []
matched-sent within sent received r h = ap (λ (l : List Sent). met_all within l received) (map-one sent r) ∙ later-sent within (map as_sent sent) received r h

count-append : (xs ys : List Sent) → received_count (xs ++ ys) ≡ received_count xs + received_count ys
count-append [] ys = omega arith
count-append (x ∷ xs) ys = omega (arith, count-append xs ys)

-- ---- one more was received

met-one : (within : ℕ) (sent : List Sent) (rs : List Record) (r : Record) → met_all within sent (rs ++ r ∷ []) ≡ met within r (met_all within sent rs)
met-one within sent [] r = refl
met-one within sent (x ∷ rs) r = met-one within (met within x sent) rs r

known-held : (within : ℕ) (r : Record) (over held : List Sent) → AreOver within r.moment over → is_known within r (over ++ held) ≡ is_known within r held
known-held within r [] held h = refl
known-held within r (s ∷ over) held h = rw (over-not within r s h.0) (known-held within r over held h.1)

met-held : (within : ℕ) (r : Record) (over held : List Sent) → AreOver within r.moment over → met within r (over ++ held) ≡ over ++ met within r held
met-held within r over held h =
    ap (λ (l : List Sent). met within r (over ++ l)) (sym (append-nil held)) ∙ held_is_enough within r over held [] h tt ∙ ap (λ (l : List Sent). over ++ l) (append-nil (met within r held))

one-known : (within : ℕ) (r : Record) (sent : List Sent) (q : Bool) → q ≡ is_known within r sent → received_count (met within r sent) ≡ received_count sent + (if q then 1 else 0)
one-known within r sent true h = omega (arith, met-known within r sent (sym h))
one-known within r sent false h = omega (arith, ap (λ (l : List Sent). received_count l) (met-unknown within r sent (sym h)))

-- ---- what is told

met-length : (within : ℕ) (r : Record) (sent : List Sent) → length (met within r sent) ≡ length sent
met-length within r [] = refl
met-length within r (s ∷ sent) = by (is_met_by within r s) refl (met-length within r sent)
  where
    by : (q : Bool) → is_met_by within r s ≡ q → length (met within r sent) ≡ length sent → length (met within r (s ∷ sent)) ≡ length (s ∷ sent)
    by true h more = rw h refl
    by false h more = rw h (omega (arith, more))

of-sent-append : (xs ys : List Fact) → of_sent (xs ++ ys) ≡ of_sent xs ++ of_sent ys
of-sent-append [] ys = refl
of-sent-append (Both m n r ∷ xs) ys = of-sent-append xs ys
of-sent-append (ReceivedAlone n r ∷ xs) ys = of-sent-append xs ys
of-sent-append (SentAlone n r ∷ xs) ys = ap (λ (l : List Fact). SentAlone n r ∷ l) (of-sent-append xs ys)

of-received-append : (xs ys : List Fact) → of_received (xs ++ ys) ≡ of_received xs ++ of_received ys
of-received-append [] ys = refl
of-received-append (Both m n r ∷ xs) ys = ap (λ (l : List Fact). Both m n r ∷ l) (of-received-append xs ys)
of-received-append (ReceivedAlone n r ∷ xs) ys = ap (λ (l : List Fact). ReceivedAlone n r ∷ l) (of-received-append xs ys)
of-received-append (SentAlone n r ∷ xs) ys = of-received-append xs ys

-- those that are sent alone are of what was sent
record IsOfSent (facts : List Fact) : Type 0 where
  pub sent : of_sent facts ≡ facts
  pub none : of_received facts ≡ []

alone-of-sent : (n : ℕ) (ss : List Sent) → IsOfSent (alone_from n ss)
alone-of-sent n [] = record { sent = refl; none = refl }
alone-of-sent n (s ∷ ss) = by s.is_taken refl (alone-of-sent (n + 1) ss)
  where
    by : (q : Bool) → s.is_taken ≡ q → IsOfSent (alone_from (n + 1) ss) → IsOfSent (alone_from n (s ∷ ss))
    by true h rest = record { sent = rw h rest.sent; none = rw h rest.none }
    by false h rest = record {
      sent = rw h (ap (λ (l : List Fact). SentAlone n (record { moment = s.moment; octets = s.octets; missing = s.missing }) ∷ l) rest.sent);
      none = rw h rest.none;
    }

alone-append : (n : ℕ) (xs ys : List Sent) → alone_from n (xs ++ ys) ≡ alone_from n xs ++ alone_from (n + length xs) ys
alone-append n [] ys = ap (λ (k : ℕ). alone_from k ys) (omega arith)
alone-append n (x ∷ xs) ys =
    let k : n + 1 + length xs ≡ n + length (x ∷ xs) = omega arith in
    ap (λ (l : List Fact). alone_of n x ++ l) (alone-append (n + 1) xs ys ∙ ap (λ (k : ℕ). alone_from (n + 1) xs ++ alone_from k ys) k)
    ∙ sym (append_assoc (alone_of n x) (alone_from (n + 1) xs) (alone_from (n + length (x ∷ xs)) ys))

-- what is told of records that are received
by-none : (n : ℕ) (r : Record) (m : Option ℕ) → of_sent (fact_by n r m ∷ []) ≡ []
by-none n r None = refl
by-none n r (Some m) = refl

by-one : (n : ℕ) (r : Record) (m : Option ℕ) → of_received (fact_by n r m ∷ []) ≡ fact_by n r m ∷ []
by-one n r None = refl
by-one n r (Some m) = refl

-- one that is sent later is none of them
moment-later : (within : ℕ) (x : Record) (sent : List Sent) (s : Sent) → x.moment < s.moment → sent_moment within x (sent ++ s ∷ []) ≡ sent_moment within x sent
moment-later within x [] s h = rw (later-not within x s h) refl
moment-later within x (y ∷ sent) s h = by (is_met_by within x y) refl (moment-later within x sent s h)
  where
    by : (q : Bool) → is_met_by within x y ≡ q → sent_moment within x (sent ++ s ∷ []) ≡ sent_moment within x sent → sent_moment within x ((y ∷ sent) ++ s ∷ []) ≡ sent_moment within x (y ∷ sent)
    by true g more = rw g refl
    by false g more = rw g more

told-later : (within n : ℕ) (sent : List Sent) (rs : List Record) (r : Record) → AreBefore r.moment rs → told_from within n (sent ++ as_sent r ∷ []) rs ≡ told_from within n sent rs
told-later within n sent [] r h = refl
told-later within n sent (x ∷ rs) r h =
    ap (λ (m : Option ℕ). fact_by n x m ∷ told_from within (n + 1) (met within x (sent ++ as_sent r ∷ [])) rs) (moment-later within x sent (as_sent r) h.0)
    ∙ ap (λ (l : List Sent). fact_by n x (sent_moment within x sent) ∷ told_from within (n + 1) l rs) (held-enough within x sent (as_sent r ∷ []) (h.0, tt))
    ∙ ap (λ (l : List Fact). fact_by n x (sent_moment within x sent) ∷ l) (told-later within (n + 1) (met within x sent) rs r h.1)

told-sent : (within : ℕ) (sent received : List Record) (r : Record) → AreBefore r.moment received → told_from within 1 (map as_sent (sent ++ r ∷ [])) received ≡ told_from within 1 (map as_sent sent) received
told-sent within sent received r h = ap (λ (l : List Sent). told_from within 1 l received) (map-one sent r) ∙ told-later within 1 (map as_sent sent) received r h

told-one : (within n : ℕ) (sent : List Sent) (rs : List Record) (r : Record)
    → told_from within n sent (rs ++ r ∷ []) ≡ told_from within n sent rs ++ fact_by (n + length rs) r (sent_moment within r (met_all within sent rs)) ∷ []
told-one within n sent [] r = ap (λ (k : ℕ). fact_by k r (sent_moment within r sent) ∷ []) (omega arith)
told-one within n sent (x ∷ rs) r =
    let k : n + 1 + length rs ≡ n + length (x ∷ rs) = omega arith in
    ap (λ (l : List Fact). fact_by n x (sent_moment within x sent) ∷ l)
    (told-one within (n + 1) (met within x sent) rs r ∙ ap (λ (k : ℕ). told_from within (n + 1) (met within x sent) rs ++ fact_by k r (sent_moment within r (met_all within (met within x sent) rs)) ∷ []) k)

moment-held : (within : ℕ) (r : Record) (over held : List Sent) → AreOver within r.moment over → sent_moment within r (over ++ held) ≡ sent_moment within r held
moment-held within r [] held h = refl
moment-held within r (s ∷ over) held h = rw (over-not within r s h.0) (moment-held within r over held h.1)

-- ---- the comparison

-- what a window holds at a later moment, of what was compared
module _ (c : Comparison) (sent received : List Record) (now later : ℕ) (h : IsCompared c sent received now) (le : now ≤ later) where
  abbrev went : Goes c.window.within later c.window.held
  went = goes c.window.within later c.window.held

  abbrev over-now : List Sent
  over-now = h.over ++ went.gone

  over-now-is : AreOver c.window.within later over-now
  over-now-is = are-over-append c.window.within later h.over went.gone (are-over-later c.window.within now later h.over le h.are_over) went.are_over

  whole-now : matched c.window.within sent received ≡ over-now ++ still_held c.window.within later c.window.held
  whole-now = h.whole ∙ ap (λ (l : List Sent). h.over ++ l) went.is ∙ sym (append_assoc h.over went.gone (still_held c.window.within later c.window.held))

  gone-now-is : c.window.records ≡ length over-now + length (still_held c.window.within later c.window.held)
  gone-now-is =
      let held = ap (λ (l : List Sent). length l) went.is in
      omega (arith, h.gone_is, held, length-append h.over went.gone, length-append went.gone (still_held c.window.within later c.window.held))

  -- what is told of those that are over
  told-over : gone_alone later c.window ≡ alone_from (1 + length h.over) went.gone
  told-over =
      let k : c.window.records - length c.window.held + 1 ≡ 1 + length h.over = omega (arith, h.gone_is) in
      went.alone c.window.records (omega (arith, h.gone_is)) ∙ ap (λ (n : ℕ). alone_from n went.gone) k

  told-over-sent : IsOfSent (gone_alone later c.window)
  told-over-sent = subst (λ (l : List Fact). IsOfSent l) (sym told-over) (alone-of-sent (1 + length h.over) went.gone)

  alone-now-is : of_sent (c.log ++ gone_alone later c.window) ≡ alone_from 1 over-now
  alone-now-is =
      of-sent-append c.log (gone_alone later c.window)
      ∙ ap (λ (l : List Fact). l ++ of_sent (gone_alone later c.window)) h.alone_is
      ∙ ap (λ (l : List Fact). alone_from 1 h.over ++ l) (told-over-sent.sent ∙ told-over)
      ∙ sym (alone-append 1 h.over went.gone)

  told-now-is : of_received (c.log ++ gone_alone later c.window) ≡ told_from c.window.within 1 (map as_sent sent) received
  told-now-is =
      of-received-append c.log (gone_alone later c.window)
      ∙ ap (λ (l : List Fact). of_received c.log ++ l) told-over-sent.none
      ∙ append-nil (of_received c.log)
      ∙ h.told_is

-- what is held then is what is held of all that was sent
still-held-behind : (within now : ℕ) (over held : List Sent) → AreOver within now over → still_held within now (over ++ held) ≡ still_held within now held
still-held-behind within now [] held h = refl
still-held-behind within now (s ∷ over) held h = rw h.0 (still-held-behind within now over held h.1)

pub held-then : (c : Comparison) (sent received : List Record) (now later : ℕ) → IsCompared c sent received now → now ≤ later
    → still_held c.window.within later c.window.held ≡ still_held c.window.within later (matched c.window.within sent received)
held-then c sent received now later h le =
    sym (still-held-behind c.window.within later h.over c.window.held (are-over-later c.window.within now later h.over le h.are_over))
    ∙ ap (λ (l : List Sent). still_held c.window.within later l) (sym h.whole)

octets-append : (xs ys : List Record) → octets_in (xs ++ ys) ≡ octets_in xs + octets_in ys
octets-append [] ys = omega arith
octets-append (x ∷ xs) ys = omega (arith, octets-append xs ys)

-- how many are cut with one more
abbrev pub cut-sent : Cut → ℕ → Cut
cut-sent c n = record { sent = c.sent + n; received = c.received }

abbrev pub cut-received : Cut → ℕ → Cut
cut-received c n = record { sent = c.sent; received = c.received + n }

abbrev pub one-cut : Record → ℕ
one-cut r = if r.missing == 0 then 0 else 1

cut-one : (rs : List Record) (r : Record) → cut_in (rs ++ r ∷ []) ≡ cut_in rs + one-cut r
cut-one [] r = omega arith
cut-one (x ∷ rs) r = omega (arith, cut-one rs r)

pub one-sent : (c : Comparison) (sent received : List Record) (now : ℕ) (r : Record) (w : Window) → IsCompared c sent received now → now ≤ r.moment → AreBefore r.moment received → w ≡ with_sent r (at_moment r.moment c.window)
    → IsCompared (record { window = w; sent = c.sent + 1; received = c.received; both = c.both; cut = cut-sent c.cut (one-cut r); log = c.log ++ gone_alone r.moment c.window }) (sent ++ r ∷ []) received r.moment
one-sent c sent received now r w h le before is =
    subst (λ (x : Window). IsCompared (record { window = x; sent = c.sent + 1; received = c.received; both = c.both; cut = cut-sent c.cut (one-cut r); log = c.log ++ gone_alone r.moment c.window }) (sent ++ r ∷ []) received r.moment) (sym is)
    (record {
      over = over-now c sent received now r.moment h le;
      whole = matched-sent c.window.within sent received r before
          ∙ ap (λ (l : List Sent). l ++ as_sent r ∷ []) (whole-now c sent received now r.moment h le)
          ∙ append_assoc (over-now c sent received now r.moment h le) (still_held c.window.within r.moment c.window.held) (as_sent r ∷ []);
      are_over = over-now-is c sent received now r.moment h le;
      sent_is = omega (arith, h.sent_is, length-append sent (r ∷ []));
      received_is = h.received_is;
      cut_is = (ap (λ (n : ℕ). n + one-cut r) h.cut_is.0 ∙ sym (cut-one sent r), h.cut_is.1);
      records_is = omega (arith, h.records_is, length-append sent (r ∷ []));
      octets_is = omega (arith, h.octets_is, octets-append sent (r ∷ []));
      gone_is = omega (arith, gone-now-is c sent received now r.moment h le, length-append (still_held c.window.within r.moment c.window.held) (as_sent r ∷ []));
      alone_is = alone-now-is c sent received now r.moment h le;
      told_is = told-now-is c sent received now r.moment h le ∙ sym (told-sent c.window.within sent received r before);
      both_is = let more = ap (λ (l : List Sent). received_count l) (matched-sent c.window.within sent received r before) in
          omega (arith, h.both_is, more, count-append (matched c.window.within sent received) (as_sent r ∷ []));
    })

pub one-received : (c : Comparison) (sent received : List Record) (now : ℕ) (r : Record) (w : Window) (q : Bool) → IsCompared c sent received now → now ≤ r.moment
    → q ≡ is_known c.window.within r (at_moment r.moment c.window).held → w ≡ with_received r (at_moment r.moment c.window)
    → IsCompared (record { window = w; sent = c.sent; received = c.received + 1; both = c.both + (if q then 1 else 0); cut = cut-received c.cut (one-cut r); log = c.log ++ (gone_alone r.moment c.window ++ fact_by (c.received + 1) r (sent_moment c.window.within r (at_moment r.moment c.window).held) ∷ []) }) sent (received ++ r ∷ []) r.moment
one-received c sent received now r w q h le known is =
    let over = over-now c sent received now r.moment h le in
    let are_over = over-now-is c sent received now r.moment h le in
    let held = still_held c.window.within r.moment c.window.held in
    let all = whole-now c sent received now r.moment h le in
    let next = met-one c.window.within (map as_sent sent) received r in
    let told : q ≡ is_known c.window.within r (matched c.window.within sent received) =
    known ∙ sym (known-held c.window.within r over held are_over) ∙ ap (λ (l : List Sent). is_known c.window.within r l) (sym all) in
    let m = sent_moment c.window.within r held in
    let fact = fact_by (c.received + 1) r m in
    let log = c.log ++ gone_alone r.moment c.window in
    let parts : c.log ++ (gone_alone r.moment c.window ++ fact ∷ []) ≡ log ++ fact ∷ [] = sym (append_assoc c.log (gone_alone r.moment c.window) (fact ∷ [])) in
    let number : c.received + 1 ≡ 1 + length received = omega (arith, h.received_is) in
    let moment_is : m ≡ sent_moment c.window.within r (matched c.window.within sent received) =
    sym (moment-held c.window.within r over held are_over) ∙ ap (λ (l : List Sent). sent_moment c.window.within r l) (sym all) in
    let fact_is : fact ≡ fact_by (1 + length received) r (sent_moment c.window.within r (matched c.window.within sent received)) =
    ap (λ (k : ℕ). fact_by k r m) number ∙ ap (λ (o : Option ℕ). fact_by (1 + length received) r o) moment_is in
    let count = one-known c.window.within r (matched c.window.within sent received) q told in
    subst (λ (x : Window). IsCompared (record { window = x; sent = c.sent; received = c.received + 1; both = c.both + (if q then 1 else 0); cut = cut-received c.cut (one-cut r); log = c.log ++ (gone_alone r.moment c.window ++ fact_by (c.received + 1) r (sent_moment c.window.within r (at_moment r.moment c.window).held) ∷ []) }) sent (received ++ r ∷ []) r.moment) (sym is)
    (record {
      over = over;
      whole = next ∙ ap (λ (l : List Sent). met c.window.within r l) all ∙ met-held c.window.within r over held are_over;
      are_over = are_over;
      sent_is = h.sent_is;
      received_is = omega (arith, h.received_is, length-append received (r ∷ []));
      cut_is = (h.cut_is.0, ap (λ (n : ℕ). n + one-cut r) h.cut_is.1 ∙ sym (cut-one received r));
      records_is = h.records_is;
      octets_is = h.octets_is;
      gone_is = omega (arith, gone-now-is c sent received now r.moment h le, met-length c.window.within r held);
      alone_is =
          ap (λ (l : List Fact). of_sent l) parts
          ∙ of-sent-append log (fact ∷ [])
          ∙ ap (λ (l : List Fact). of_sent log ++ l) (by-none (c.received + 1) r m)
          ∙ append-nil (of_sent log)
          ∙ alone-now-is c sent received now r.moment h le;
      told_is =
          ap (λ (l : List Fact). of_received l) parts
          ∙ of-received-append log (fact ∷ [])
          ∙ ap (λ (l : List Fact). of_received log ++ l) (by-one (c.received + 1) r m)
          ∙ ap (λ (l : List Fact). l ++ fact ∷ []) (told-now-is c sent received now r.moment h le)
          ∙ ap (λ (f : Fact). told_from c.window.within 1 (map as_sent sent) received ++ f ∷ []) fact_is
          ∙ sym (told-one c.window.within 1 (map as_sent sent) received r);
      both_is = ap (λ (n : ℕ). n + (if q then 1 else 0)) h.both_is ∙ sym count ∙ ap (λ (l : List Sent). received_count l) (sym next);
    })

-- one came for which there was no room
pub none-sent : (c : Comparison) (sent received : List Record) (now : ℕ) (r : Record) (w : Window) → IsCompared c sent received now → now ≤ r.moment → w ≡ at_moment r.moment c.window
    → IsCompared (record { window = w; sent = c.sent; received = c.received; both = c.both; cut = cut-sent c.cut 0; log = c.log ++ gone_alone r.moment c.window }) sent received r.moment
none-sent c sent received now r w h le is =
    subst (λ (x : Window). IsCompared (record { window = x; sent = c.sent; received = c.received; both = c.both; cut = cut-sent c.cut 0; log = c.log ++ gone_alone r.moment c.window }) sent received r.moment) (sym is)
    (record {
      over = over-now c sent received now r.moment h le;
      whole = whole-now c sent received now r.moment h le;
      are_over = over-now-is c sent received now r.moment h le;
      sent_is = h.sent_is;
      received_is = h.received_is;
      cut_is = (omega (arith, h.cut_is.0), h.cut_is.1);
      records_is = h.records_is;
      octets_is = h.octets_is;
      gone_is = gone-now-is c sent received now r.moment h le;
      alone_is = alone-now-is c sent received now r.moment h le;
      told_is = told-now-is c sent received now r.moment h le;
      both_is = h.both_is;
    })

pub not-sent-there : (r : Record) (w : Window) → has_room w (length r.octets) ≡ false → sent_to r w ≡ w
not-sent-there r w h = rw h refl

-- a window takes records of the same lateness
pub same-within : (r : Record) (w : Window) → (sent_to r w).within ≡ w.within
same-within r w = by (has_room w (length r.octets)) refl
  where
    by : (q : Bool) → has_room w (length r.octets) ≡ q → (sent_to r w).within ≡ w.within
    by true h = rw h refl
    by false h = rw h refl

-- where there is room, one is sent
pub sent-there : (r : Record) (w : Window) → has_room w (length r.octets) ≡ true → sent_to r w ≡ with_sent r w
sent-there r w h = rw h refl

-- ---- all that was sent alone

held-alone-is : (records : ℕ) (held : List Sent) → length held ≤ records → held_alone records held ≡ alone_from (records - length held + 1) held
held-alone-is records [] few = refl
held-alone-is records (s ∷ held) few =
    let k : records - length held ≡ records - length (s ∷ held) + 1 = omega (arith, few) in
    let next : records - length held + 1 ≡ records - length (s ∷ held) + 1 + 1 = omega (arith, few) in
    ap (λ (l : List Fact). alone_of (records - length held) s ++ l) (held-alone-is records held (omega (arith, few)))
    ∙ ap (λ (n : ℕ). alone_of (records - length held) s ++ alone_from n held) next
    ∙ ap (λ (n : ℕ). alone_of n s ++ alone_from (records - length (s ∷ held) + 1 + 1) held) k

-- what was told, and what is held
pub all-alone : (c : Comparison) (sent received : List Record) (now : ℕ) → IsCompared c sent received now
    → alone_from 1 (matched c.window.within sent received) ≡ of_sent c.log ++ held_alone c.window.records c.window.held
all-alone c sent received now h =
    let k : c.window.records - length c.window.held + 1 ≡ 1 + length h.over = omega (arith, h.gone_is) in
    ap (λ (l : List Sent). alone_from 1 l) h.whole
    ∙ alone-append 1 h.over c.window.held
    ∙ ap (λ (l : List Fact). l ++ alone_from (1 + length h.over) c.window.held) (sym h.alone_is)
    ∙ ap (λ (n : ℕ). of_sent c.log ++ alone_from n c.window.held) (sym k)
    ∙ ap (λ (l : List Fact). of_sent c.log ++ l) (sym (held-alone-is c.window.records c.window.held (omega (arith, h.gone_is))))
