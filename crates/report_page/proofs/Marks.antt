-- Senders, and the octets that stand for them.
use Rattle.std.proofs.Common.{◌≡◌, ◌≢◌, ◌∙◌, ap, sym, refl, ℕ, zero, suc, ◌+◌, ◌-◌, ◌<◌, ◌&&◌, ◌||◌, Bool, true, false, cond, inl, inr, arith}
use Rattle.std.proofs.Common.{List, [], ◌∷◌, ◌++◌, length, map, take, decimal, get_or}
use Rattle.std.specs.List.{filter, list_any}
use Rattle.std.proofs.Math.Bool.{or_assoc}
use Rattle.std.proofs.lemmas.Bool.{cases_lt}
use Rattle.std.proofs.lemmas.List.{get_or-map, length-map}
use Rattle.std.proofs.lemmas.List.Elements.{All-from_get_or}
use Rattle.std.proofs.lemmas.List.Folds.{list_any-append, list_any_none}
use Rattle.line_words.specs.Places.{IsFirst, LacksFrom}
use Rattle.wire.specs.Octets.{is_same}
use Rattle.wire.proofs.OctetsLemmas.{is_same-true}
use Rattle.report_page.specs.Lines.{lines_of, lines_where}
use Rattle.report_page.specs.Senders.{is_wanted, mark_behind, mark_of, moved_among, sends}
use Rattle.report_page.specs.Told.{has_moved, is_elsewhere, is_move, is_talk, moves_table, moves_told, rows_of, talk_row, talks_of, word_at}
use Rattle.report_page.specs.Texts.{◌then◌}
use Rattle.report_page.specs.declared.told.TheConstants.{MOVES_TITLE, MOVES_HEAD, TABLE_END, TALK_HEADS}
use Rattle.report_page.specs.declared.senders.Sender.{Sender}

-- ---- truth values

and_first : (a b : Bool) → (a && b) ≡ true → a ≡ true
and_first true b both = refl
and_first false b both = absurd cc

and_second : (a b : Bool) → (a && b) ≡ true → b ≡ true
and_second true b both = both
and_second false b both = absurd cc

if_not_true : (b : Bool) → b ≢ true → b ≡ false
if_not_true true isnt = absurd (isnt refl)
if_not_true false isnt = refl

or_none : (b : Bool) → (b || false) ≡ b
or_none true = refl
or_none false = refl

or_again : (a x : Bool) → ((a || x) || a) ≡ (a || x)
or_again true x = refl
or_again false x = or_none x

-- ---- one sender

-- who is that source in that segment
pub is_that_segment : (there : Bool) (segment source place : List ℕ) (s : Sender) → sends there segment source place s ≡ true
    → s.segment.now ≡ segment
unfolding sends
is_that_segment there segment source place s it =
    is_same-true s.segment.now segment
    (and_first (is_same s.segment.now segment) (is_same s.source.now source)
    (and_first (is_same s.segment.now segment && is_same s.source.now source) (is_wanted there (is_same s.place.now place)) it))

pub is_that_source : (there : Bool) (segment source place : List ℕ) (s : Sender) → sends there segment source place s ≡ true
    → s.source.now ≡ source
unfolding sends
is_that_source there segment source place s it =
    is_same-true s.source.now source
    (and_second (is_same s.segment.now segment) (is_same s.source.now source)
    (and_first (is_same s.segment.now segment && is_same s.source.now source) (is_wanted there (is_same s.place.now place)) it))

is_that_place : (segment source place : List ℕ) (s : Sender) → sends true segment source place s ≡ true → s.place.now ≡ place
unfolding sends
is_that_place segment source place s it =
    is_same-true s.place.now place
    (and_second (is_same s.segment.now segment && is_same s.source.now source) (is_same s.place.now place) it)

-- has its octet
same_mark : (there : Bool) (wanted s : Sender) → sends there wanted.segment.now wanted.source.now wanted.place.now s ≡ true
    → mark_of s ≡ mark_of wanted
unfolding mark_of
same_mark there wanted s it =
    ap (λ (t : List ℕ). mark_behind (mark_behind 0 t) s.source.now)
    (is_that_segment there wanted.segment.now wanted.source.now wanted.place.now s it)
    ∙ ap (λ (t : List ℕ). mark_behind (mark_behind 0 wanted.segment.now) t)
    (is_that_source there wanted.segment.now wanted.source.now wanted.place.now s it)

-- and who has another octet isn't
pub other_mark : (there : Bool) (wanted s : Sender) → mark_of s ≢ mark_of wanted
    → sends there wanted.segment.now wanted.source.now wanted.place.now s ≡ false
other_mark there wanted s other =
    if_not_true (sends there wanted.segment.now wanted.source.now wanted.place.now s) (λ it. other (same_mark there wanted s it))

-- ---- those with its octet

-- the octet at a place is that of the sender there
mark_there : (wanted : Sender) (senders : List Sender) (marks : List ℕ) (k : ℕ) → marks ≡ map mark_of senders → k < length senders
    → get_or marks k 0 ≡ mark_of (get_or senders k wanted)
mark_there wanted senders marks k are inside =
    ap (λ (l : List ℕ). get_or l k 0) are ∙ get_or-map mark_of senders k wanted 0 inside

other_there : (there : Bool) (wanted : Sender) (senders : List Sender) (marks : List ℕ) (mark k : ℕ) → marks ≡ map mark_of senders
    → mark ≡ mark_of wanted → k < length senders → get_or marks k 0 ≢ mark
    → sends there wanted.segment.now wanted.source.now wanted.place.now (get_or senders k wanted) ≡ false
other_there there wanted senders marks mark k are is inside other =
    other_mark there wanted (get_or senders k wanted)
    (λ same. other (mark_there wanted senders marks k are inside ∙ same ∙ sym is))

-- where none was found in front, and the one that is found next isn't it, none is found up to there
pub none_so_far : (there : Bool) (wanted : Sender) (senders : List Sender) (marks : List ℕ) (mark at place : ℕ)
    → marks ≡ map mark_of senders → mark ≡ mark_of wanted → IsFirst mark marks at place → place < length senders
    → ((k : ℕ) → k < at → sends there wanted.segment.now wanted.source.now wanted.place.now (get_or senders k wanted) ≡ false)
    → sends there wanted.segment.now wanted.source.now wanted.place.now (get_or senders place wanted) ≡ false
    → (k : ℕ) → k < place + 1 → sends there wanted.segment.now wanted.source.now wanted.place.now (get_or senders k wanted) ≡ false
none_so_far there wanted senders marks mark at place are is first inside before here k low =
    elim (cases_lt k at) [
      | inl front ↦ before k front
      | inr behind ↦
          elim (cases_lt k place) [
            | inl between ↦
                other_there there wanted senders marks mark k are is (omega (arith, between, inside)) (first.before k behind between)
            | inr last ↦
                let same : k ≡ place = omega (arith, low, last) in
                ap (λ (n : ℕ). sends there wanted.segment.now wanted.source.now wanted.place.now (get_or senders n wanted)) same ∙ here
          ]
    ]

-- and where its octet stands nowhere behind, none at all
pub none_at_all : (there : Bool) (wanted : Sender) (senders : List Sender) (marks : List ℕ) (mark at : ℕ)
    → marks ≡ map mark_of senders → mark ≡ mark_of wanted → LacksFrom mark marks at
    → ((k : ℕ) → k < at → sends there wanted.segment.now wanted.source.now wanted.place.now (get_or senders k wanted) ≡ false)
    → list_any (sends there wanted.segment.now wanted.source.now wanted.place.now) senders ≡ false
none_at_all there wanted senders marks mark at are is lacks before =
    let as_many : length marks ≡ length senders = ap length are ∙ length-map senders mark_of in
    list_any_none (sends there wanted.segment.now wanted.source.now wanted.place.now) senders
    (All-from_get_or (λ (s : Sender). sends there wanted.segment.now wanted.source.now wanted.place.now s ≡ false) senders wanted
    (λ k inside.
    elim (cases_lt k at) [
      | inl front ↦ before k front
      | inr behind ↦
          other_there there wanted senders marks mark k are is inside (lacks k behind (omega (arith, inside, as_many)))
    ]))

-- ---- some senders

-- whoever sends as one that is among them is found already
same_sends : (wanted s : Sender) → sends true wanted.segment.now wanted.source.now wanted.place.now s ≡ true
    → (segment source place : List ℕ) → sends false segment source place s ≡ sends false segment source place wanted
unfolding sends
same_sends wanted s it segment source place =
    ap (λ (t : List ℕ). is_same t segment && is_same s.source.now source && is_wanted false (is_same s.place.now place))
    (is_that_segment true wanted.segment.now wanted.source.now wanted.place.now s it)
    ∙ ap (λ (t : List ℕ). is_same wanted.segment.now segment && is_same t source && is_wanted false (is_same s.place.now place))
    (is_that_source true wanted.segment.now wanted.source.now wanted.place.now s it)
    ∙ ap (λ (t : List ℕ). is_same wanted.segment.now segment && is_same wanted.source.now source && is_wanted false (is_same t place))
    (is_that_place wanted.segment.now wanted.source.now wanted.place.now s it)

known_cases : (b has a x w : Bool) → (b ≡ true → a ≡ w) → (b || has) ≡ true → (has ≡ true → (x || w) ≡ x) → ((a || x) || w) ≡ (a || x)
known_cases true has a x w same here behind = ap (λ (v : Bool). (a || x) || v) (sym (same refl)) ∙ or_again a x
known_cases false has a x w same here behind = or_assoc a x w ∙ ap (λ (v : Bool). a || v) (behind here)

pub known_already : (wanted : Sender) (senders : List Sender)
    → list_any (sends true wanted.segment.now wanted.source.now wanted.place.now) senders ≡ true
    → (segment source place : List ℕ)
    → (list_any (sends false segment source place) senders || sends false segment source place wanted)
    ≡ list_any (sends false segment source place) senders
known_already wanted [] has segment source place = absurd cc
known_already wanted (s ∷ senders) has segment source place =
    known_cases (sends true wanted.segment.now wanted.source.now wanted.place.now s)
    (list_any (sends true wanted.segment.now wanted.source.now wanted.place.now) senders)
    (sends false segment source place s) (list_any (sends false segment source place) senders)
    (sends false segment source place wanted)
    (λ it. same_sends wanted s it segment source place) has
    (λ it. known_already wanted senders it segment source place)

-- and one more
pub one_more : (p : Sender → Bool) (senders : List Sender) (sender : Sender)
    → list_any p (senders ++ sender ∷ []) ≡ (list_any p senders || p sender)
one_more p senders sender =
    list_any-append p senders (sender ∷ []) ∙ ap (λ (b : Bool). list_any p senders || b) (or_none (p sender))

-- ---- talks

-- that of a talk's line
pub elsewhere_is : (line : List ℕ) (sender : Sender) → sender.segment.now ≡ word_at 1 line → sender.source.now ≡ word_at 2 line
    → sender.place.now ≡ word_at 3 line → (segment source place : List ℕ)
    → is_elsewhere segment source place line ≡ sends false segment source place sender
unfolding is_elsewhere sends
elsewhere_is line sender first second third segment source place =
    ap (λ (t : List ℕ). is_same t segment && is_same (word_at 2 line) source && is_wanted false (is_same (word_at 3 line) place))
    (sym first)
    ∙ ap (λ (t : List ℕ). is_same sender.segment.now segment && is_same t source && is_wanted false (is_same (word_at 3 line) place))
    (sym second)
    ∙ ap (λ (t : List ℕ). is_same sender.segment.now segment && is_same sender.source.now source && is_wanted false (is_same t place))
    (sym third)

-- a talk less, and its sender among the others
pub one_less : (p : Sender → Bool) (q : List ℕ → Bool) (senders more : List Sender) (sender : Sender) (line : List ℕ)
    (lines : List (List ℕ)) → q line ≡ p sender → list_any p more ≡ (list_any p senders || p sender)
    → (list_any p more || list_any q lines) ≡ (list_any p senders || list_any q (line ∷ lines))
one_less p q senders more sender line lines is all =
    ap (λ (b : Bool). b || list_any q lines) all
    ∙ or_assoc (list_any p senders) (p sender) (list_any q lines)
    ∙ ap (λ (b : Bool). list_any p senders || (b || list_any q lines)) (sym is)

-- so many talks are the first and those behind it
pub first_taken : (q : List ℕ → Bool) (left : ℕ) (lines more : List (List ℕ)) (line : List ℕ) → 0 < left → lines ≡ line ∷ more
    → list_any q (take left lines) ≡ list_any q (line ∷ take (left - 1) more)
first_taken q zero lines more line some is = absurd (omega (arith, some))
first_taken q (suc n) lines more line some is =
    let less : n ≡ suc n - 1 = omega arith in
    ap (λ (l : List (List ℕ)). list_any q (take (suc n) l)) is ∙ ap (λ (k : ℕ). q line || list_any q (take k more)) less

-- and where no more are asked for, who was put in is all
pub no_more : (p : Sender → Bool) (q : List ℕ → Bool) (senders : List Sender) (left : ℕ) (lines : List (List ℕ)) (all : Bool) → left ≡ 0
    → (list_any p senders || list_any q (take left lines)) ≡ all → list_any p senders ≡ all
no_more p q senders zero lines all none is = sym (or_none (list_any p senders)) ∙ is
no_more p q senders (suc n) lines all none is = absurd (omega (arith, none))

-- ---- lines

filter_same : (p q : List ℕ → Bool) → ((line : List ℕ) → p line ≡ q line) → (lines : List (List ℕ)) → filter p lines ≡ filter q lines
filter_same p q same [] = refl
filter_same p q same (line ∷ lines) =
    ap (λ (b : Bool). cond b (line ∷ filter p lines) (filter p lines)) (same line)
    ∙ ap (λ (l : List (List ℕ)). cond (q line) (line ∷ l) l) (filter_same p q same lines)

lines_same : (p q : List ℕ → Bool) → ((line : List ℕ) → p line ≡ q line) → (text : List ℕ) → lines_where p text ≡ lines_where q text
unfolding lines_where
lines_same p q same text = filter_same p q same (lines_of text)

move_same : (senders : List Sender) (talks : List (List ℕ))
    → ((segment source place : List ℕ) → list_any (sends false segment source place) senders
    ≡ list_any (is_elsewhere segment source place) talks)
    → (line : List ℕ) → moved_among senders line ≡ is_move talks line
unfolding moved_among has_moved
move_same senders talks same line = ap (λ (b : Bool). is_talk line && b) (same (word_at 1 line) (word_at 2 line) (word_at 3 line))

-- the same lines are moves
pub moves_same : (senders : List Sender) (talks : List (List ℕ))
    → ((segment source place : List ℕ) → list_any (sends false segment source place) senders
    ≡ list_any (is_elsewhere segment source place) talks)
    → (text : List ℕ) → lines_where (moved_among senders) text ≡ lines_where (is_move talks) text
moves_same senders talks same text = lines_same (moved_among senders) (is_move talks) (move_same senders talks same) text

-- and the table of moves is that of the definition
pub table_same : (senders known : List Sender) (text shown : List ℕ) (count : ℕ) → known ≡ senders → shown ≡ text
    → count ≡ length (lines_where (moved_among senders) text)
    → ((segment source place : List ℕ) → list_any (sends false segment source place) senders
    ≡ list_any (is_elsewhere segment source place) (take 4096 (talks_of text)))
    → moves_told count (moved_among known) shown ≡ moves_table text
unfolding moves_told
table_same senders known text shown count known_is shown_is count_is same =
    let lines : lines_where (moved_among known) shown ≡ lines_where (is_move (take 4096 (talks_of text))) text =
    ap (λ (l : List Sender). lines_where (moved_among l) shown) known_is
    ∙ ap (λ (t : List ℕ). lines_where (moved_among senders) t) shown_is
    ∙ moves_same senders (take 4096 (talks_of text)) same text in
    let many : count ≡ length (lines_where (is_move (take 4096 (talks_of text))) text) =
    count_is ∙ ap length (moves_same senders (take 4096 (talks_of text)) same text) in
    ap (λ (n : ℕ).
    MOVES_TITLE.now then decimal n then MOVES_HEAD.now then TALK_HEADS.now
    then rows_of talk_row (take 1000 (lines_where (moved_among known) shown)) then TABLE_END.now) many
    ∙ ap (λ (l : List (List ℕ)).
    MOVES_TITLE.now then decimal (length (lines_where (is_move (take 4096 (talks_of text))) text)) then MOVES_HEAD.now
    then TALK_HEADS.now then rows_of talk_row (take 1000 l) then TABLE_END.now) lines
