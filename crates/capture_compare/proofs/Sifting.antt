-- Records that are left aside, and those that aren't.
use Rattle.std.proofs.Common.{◌≡◌, ◌∙◌, refl, sym, ap, subst, ℕ, ◌+◌, ◌-◌, ◌≤◌, Bool, true, false, List, [], ◌∷◌, ◌++◌, length, length-append, arith, Option, Some, None}
use Rattle.std.proofs.lemmas.List.{append-nil}
use Rattle.std.proofs.lemmas.Bool.{cond-false, cond-true}
use Rattle.pcap.specs.Record.{Record}
use Rattle.record_match.specs.Compared.{AreBefore as AreMatchedBefore, Counted, IsCompared, facts_of, logged}
use Rattle.record_match.specs.Match.{Record as Matched}
use Rattle.record_match.specs.Settled.{Fact, gone_alone}
use Rattle.record_match.specs.Window.{Window, has_room}
use Rattle.record_match.proofs.Comparing.{are-over-later}
use Rattle.capture_compare.specs.Clocked.{AreBefore, Seen, kept, keyed_at, with_key}
use Rattle.capture_compare.specs.Compared.{takes}
use Rattle.capture_compare.specs.Sifted.{IsSifted, received_facts, sent_facts, sifting}
use Rattle.capture_compare.specs.Turns.{unless_full}
use Rattle.capture_compare.specs.declared.aside.Aside.{Aside}
use Rattle.capture_compare.specs.declared.carried.key.Manner.{Manner}
use Rattle.capture_compare.specs.Key.{Key, held_by, is_ignored, key_by, key_in, keyed, missing_of, told_by}
use Rattle.capture_compare.specs.declared.carried.key.Sameness.{Sameness}
use Rattle.capture_compare.specs.declared.carried.key.Sameness.TheVariants.{Whole, Carried}

-- ---- those that are kept of several

kept-append : (xs ys : List Seen) → kept (xs ++ ys) ≡ kept xs ++ kept ys
kept-append [] ys = refl
kept-append (x ∷ xs) ys = by x.key (kept-append xs ys)
  where
    by : (k : Option Key) → kept (xs ++ ys) ≡ kept xs ++ kept ys → with_key x.moment k (kept (xs ++ ys)) ≡ with_key x.moment k (kept xs) ++ kept ys
    by None h = h
    by (Some key) h = ap (λ (l : List Matched). keyed_at x.moment key ∷ l) h

pub kept-before : (m : ℕ) (xs : List Seen) → AreBefore m xs → AreMatchedBefore m (kept xs)
kept-before m [] h = tt
kept-before m (x ∷ xs) h = by x.key (kept-before m xs h.1)
  where
    by : (k : Option Key) → AreMatchedBefore m (kept xs) → AreMatchedBefore m (with_key x.moment k (kept xs))
    by None rest = rest
    by (Some key) rest = (h.0, rest)

kept-one : (xs : List Seen) (m : ℕ) (key : Key) → kept (xs ++ record { moment = m; key = Some key } ∷ []) ≡ kept xs ++ keyed_at m key ∷ []
kept-one xs m key = kept-append xs (record { moment = m; key = Some key } ∷ [])

kept-none : (xs : List Seen) (m : ℕ) → kept (xs ++ record { moment = m; key = None } ∷ []) ≡ kept xs
kept-none xs m = kept-append xs (record { moment = m; key = None } ∷ []) ∙ append-nil (kept xs)

one-longer : (xs : List Seen) (x : Seen) → length (xs ++ x ∷ []) ≡ length xs + 1
one-longer xs x = let longer = length-append xs (x ∷ []) in omega (arith, longer)

-- ---- nothing is compared

compared-later : (c : Counted) (log : List Fact) (S R : List Matched) (now m : ℕ) → IsCompared (logged c log) S R now → now ≤ m → IsCompared (logged c (log ++ [])) S R m
compared-later c log S R now m h le = subst (λ (l : List Fact). IsCompared (logged c l) S R m) (sym (append-nil log)) (record {
  over = h.over;
  whole = h.whole;
  are_over = are-over-later c.window.within now m h.over le h.are_over;
  sent_is = h.sent_is;
  received_is = h.received_is;
  cut_is = h.cut_is;
  records_is = h.records_is;
  octets_is = h.octets_is;
  gone_is = h.gone_is;
  alone_is = h.alone_is;
  told_is = h.told_is;
  both_is = h.both_is;
})

-- ---- keys

pub same-record : (x y : Record) → Some x ≡ Some y → x ≡ y
same-record x y e = cc

-- of a record that is lent, by whether it is left aside
pub told-none : (manner : Manner) {own x r : Record} {q : Bool} → own ≡ x → Some x ≡ Some r → q ≡ is_ignored manner own.octets → q ≡ true → told_by manner r ≡ None
told-none manner view lends asked so =
    cond-true _ _ _ (ap (λ (y : Record). is_ignored manner y.octets) (sym (view ∙ same-record _ _ lends)) ∙ sym asked ∙ so)

told-key : (manner : Manner) {own x r : Record} {q : Bool} → own ≡ x → Some x ≡ Some r → q ≡ is_ignored manner own.octets → q ≡ false → told_by manner r ≡ Some (key_by manner own)
told-key manner view lends asked isnt =
    let back = sym (view ∙ same-record _ _ lends) in
    cond-false _ _ _ (ap (λ (y : Record). is_ignored manner y.octets) back ∙ sym asked ∙ isnt) ∙ ap (λ (y : Record). Some (key_by manner y)) back

-- what a room tells of what it holds
key-held : (s : Sameness) (missing : ℕ) (b : List ℕ) → key_in s b (held_by s missing b) ≡ keyed s missing b
key-held Whole missing b = refl
key-held (Carried tunnels) missing b = refl

-- the key that was put
pub told-as : (manner : Manner) {own x r : Record} {q : Bool} {held k : List ℕ} {n : ℕ} → own ≡ x → Some x ≡ Some r → q ≡ is_ignored manner own.octets → q ≡ false
    → n ≡ own.original - length own.octets → held ≡ held_by manner.sameness n own.octets → k ≡ key_in manner.sameness own.octets held
    → ◌≡◌ {A = Option Key} (Some (record { octets = k; missing = n })) (told_by manner r)
told-as manner {own} {x} {r} {q} {held} {k} {n} view lends asked isnt missing put key =
    let text : k ≡ keyed manner.sameness (missing_of own) own.octets =
    key ∙ ap (λ (l : List ℕ). key_in manner.sameness own.octets l) put ∙ key-held manner.sameness n own.octets ∙ ap (λ (m : ℕ). keyed manner.sameness m own.octets) missing in
    parts k (keyed manner.sameness (missing_of own) own.octets) n (missing_of own) text missing ∙ sym (told-key manner view lends asked isnt)
  where
    parts : (a b : List ℕ) (m n : ℕ) → a ≡ b → m ≡ n → ◌≡◌ {A = Option Key} (Some (record { octets = a; missing = m })) (Some (record { octets = b; missing = n }))
    parts a b m n e f = cc

-- ---- one record more

-- so many were compared, and one of those that aren't left aside is more
one-more : (c d a m : ℕ) (rs : List Seen) (key other : Key) → c ≡ length (kept rs) → d ≡ length (kept rs ++ keyed_at m key ∷ []) → c + a ≡ length rs → d + a ≡ length (rs ++ record { moment = m; key = Some other } ∷ [])
one-more c d a m rs key other before now all =
    let one = length-append (kept rs) (keyed_at m key ∷ []) in
    let longer = one-longer rs (record { moment = m; key = Some other }) in
    omega (arith, before, now, one, all, longer)

-- none is more
none-more : (c d a : ℕ) (rs : List Seen) → c ≡ length (kept rs) → d ≡ length (kept rs) → c + a ≡ length rs → d + a ≡ length rs
none-more c d a rs before now all = omega (arith, before, now, all)

pub sent-aside : (c : Counted) (a : Aside) (log : List Fact) (S R : List Seen) (now m : ℕ) (k : Option Key) → k ≡ None → IsSifted (sifting c log a) S R now → now ≤ m
    → IsSifted (sifting c (log ++ sent_facts k m c.window) (record { sent = a.sent + 1; received = a.received })) (S ++ record { moment = m; key = k } ∷ []) R m
sent-aside c a log S R now m (Some key) e h le = absurd cc
sent-aside c a log S R now m None e h le = record {
  compared = subst (λ (l : List Matched). IsCompared (logged c (log ++ [])) l (kept R) m) (sym (kept-none S m)) (compared-later c log (kept S) (kept R) now m h.compared le);
  sent_aside_is = let old : c.sent + a.sent ≡ length S = h.sent_aside_is in let longer = one-longer S (record { moment = m; key = None }) in omega (arith, old, longer);
  received_aside_is = h.received_aside_is;
}

pub received-aside : (c : Counted) (a : Aside) (log : List Fact) (S R : List Seen) (now m : ℕ) (k : Option Key) → k ≡ None → IsSifted (sifting c log a) S R now → now ≤ m
    → IsSifted (sifting c (log ++ received_facts k m c) (record { sent = a.sent; received = a.received + 1 })) S (R ++ record { moment = m; key = k } ∷ []) m
received-aside c a log S R now m (Some key) e h le = absurd cc
received-aside c a log S R now m None e h le = record {
  compared = subst (λ (l : List Matched). IsCompared (logged c (log ++ [])) (kept S) l m) (sym (kept-none R m)) (compared-later c log (kept S) (kept R) now m h.compared le);
  sent_aside_is = h.sent_aside_is;
  received_aside_is = let old : c.received + a.received ≡ length R = h.received_aside_is in let longer = one-longer R (record { moment = m; key = None }) in omega (arith, old, longer);
}

pub sent-kept : (c d : Counted) (a : Aside) (log : List Fact) (S R : List Seen) (now m : ℕ) (k : Option Key) (key : Key) → k ≡ Some key → IsSifted (sifting c log a) S R now
    → IsCompared (logged d (log ++ gone_alone m c.window)) (kept S ++ keyed_at m key ∷ []) (kept R) m
    → IsSifted (sifting d (log ++ sent_facts k m c.window) a) (S ++ record { moment = m; key = k } ∷ []) R m
sent-kept c d a log S R now m None key e h g = absurd cc
sent-kept c d a log S R now m (Some other) key e h g =
    let same : other ≡ key = cc in
    record {
      compared = subst (λ (l : List Matched). IsCompared (logged d (log ++ gone_alone m c.window)) l (kept R) m)
          (sym (kept-one S m other ∙ ap (λ (t : Key). kept S ++ keyed_at m t ∷ []) same)) g;
      sent_aside_is = one-more c.sent d.sent a.sent m S key other h.compared.sent_is g.sent_is h.sent_aside_is;
      received_aside_is = none-more c.received d.received a.received R h.compared.received_is g.received_is h.received_aside_is;
    }

pub sent-full : (c d : Counted) (a : Aside) (log : List Fact) (S R : List Seen) (now m : ℕ) (k : Option Key) (key : Key) → k ≡ Some key → IsSifted (sifting c log a) S R now
    → IsCompared (logged d (log ++ gone_alone m c.window)) (kept S) (kept R) m
    → IsSifted (sifting d (log ++ sent_facts k m c.window) a) S R m
sent-full c d a log S R now m None key e h g = absurd cc
sent-full c d a log S R now m (Some other) key e h g = record {
  compared = g;
  sent_aside_is = none-more c.sent d.sent a.sent S h.compared.sent_is g.sent_is h.sent_aside_is;
  received_aside_is = none-more c.received d.received a.received R h.compared.received_is g.received_is h.received_aside_is;
}

pub received-kept : (c d : Counted) (a : Aside) (log : List Fact) (S R : List Seen) (now m : ℕ) (k : Option Key) (key : Key) → k ≡ Some key → IsSifted (sifting c log a) S R now
    → IsCompared (logged d (log ++ facts_of c (keyed_at m key))) (kept S) (kept R ++ keyed_at m key ∷ []) m
    → IsSifted (sifting d (log ++ received_facts k m c) a) S (R ++ record { moment = m; key = k } ∷ []) m
received-kept c d a log S R now m None key e h g = absurd cc
received-kept c d a log S R now m (Some other) key e h g =
    let same : key ≡ other = cc in
    by other same
  where
    by : (other : Key) → key ≡ other → IsSifted (sifting d (log ++ received_facts (Some other) m c) a) S (R ++ record { moment = m; key = Some other } ∷ []) m
    by other same = subst (λ (t : Key). IsSifted (sifting d (log ++ received_facts (Some t) m c) a) S (R ++ record { moment = m; key = Some t } ∷ []) m) same
        (record {
          compared = subst (λ (l : List Matched). IsCompared (logged d (log ++ facts_of c (keyed_at m key))) (kept S) l m) (sym (kept-one R m key)) g;
          sent_aside_is = none-more c.sent d.sent a.sent S h.compared.sent_is g.sent_is h.sent_aside_is;
          received_aside_is = one-more c.received d.received a.received m R key key h.compared.received_is g.received_is h.received_aside_is;
        })

-- ---- what is told

pub facts-kept : (m : ℕ) (c : Counted) (k : Option Key) (key : Key) → k ≡ Some key → received_facts k m c ≡ facts_of c (keyed_at m key)
facts-kept m c None key e = absurd cc
facts-kept m c (Some other) key e = let same : other ≡ key = cc in ap (λ (t : Key). facts_of c (keyed_at m t)) same

pub facts-gone : (m : ℕ) (c : Counted) (k : Option Key) (key : Key) → k ≡ Some key → sent_facts k m c.window ≡ gone_alone m c.window
facts-gone m c None key e = absurd cc
facts-gone m c (Some other) key e = refl

-- what a step answers at a record that was sent, by whether there was room for it
pub answer-by : {k : Option Key} {key : Key} {had is : Bool} (w : Window) (moment : ℕ) → k ≡ Some key → had ≡ has_room w (length key.octets) → had ≡ is → unless_full is moment ≡ unless_full (takes w k) moment
answer-by w moment some room holds = sym (ap (λ (k : Option Key). unless_full (takes w k) moment) some ∙ ap (λ (q : Bool). unless_full q moment) (sym room ∙ holds))

-- ---- the beginning

pub first-sifted : (c : Counted) (a : Aside) → IsCompared (logged c []) [] [] 0 → a ≡ record { sent = 0; received = 0 } → IsSifted (sifting c [] a) [] [] 0
first-sifted c a h e =
    let sent = h.sent_is in
    let received = h.received_is in
    let mine : a.sent ≡ 0 = ap (λ (x : Aside). x.sent) e in
    let theirs : a.received ≡ 0 = ap (λ (x : Aside). x.received) e in
    record {
      compared = h;
      sent_aside_is = omega (arith, sent, mine);
      received_aside_is = omega (arith, received, theirs);
    }
