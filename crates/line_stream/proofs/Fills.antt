-- What a room and an input hold together.
use Rattle.std.proofs.Common.{◌≡◌, ◌≤◌, ◌+◌, ◌-◌, ◌∙◌, sym, ap, subst, ℕ, List, [], ◌++◌, length, length-append, length-drop, take, drop, append_assoc, append-nil, arith, Option, Some, None, IfSome, Err, false}
use Rattle.std.proofs.lemmas.List.{drop-drop, drop-take, get_or_append_left, length-take-le, take-take}
use Rattle.std.specs.Io.KnownBytes.{Consumes, IsAtEnd, Keeps, prepend_known}
use Rattle.line_stream.specs.Filled.{EndsAt, HasNoEnd, IsFilled, IsLent, IsNext}
use Rattle.line_stream.specs.Lines.{IsFetched, IsLong, Reader, behind_line, first_line, has_line, longest_line}
use Rattle.line_stream.specs.declared.fault.LinesFault.{LinesFault}
use Rattle.line_stream.specs.declared.fault.LinesFault.TheVariants.{Read, TooLong}
use Rattle.line_stream.proofs.Ends.{behind_none, first_none, none_held}

-- some octets more were read
pub read_more : (w a b : Option (List ℕ)) (old new taken : List ℕ) → Keeps w (prepend_known old a) → Consumes a b taken → new ≡ old ++ taken → Keeps w (prepend_known new b)
read_more None a b old new taken keeps consumed grown = tt
read_more (Some x) None b old new taken keeps consumed grown = absurd keeps
read_more (Some x) (Some xs) None old new taken keeps consumed grown = absurd consumed
read_more (Some x) (Some xs) (Some ys) old new taken keeps consumed grown =
    ap (λ l. l ++ ys) grown ∙ append_assoc old taken ys ∙ ap (λ l. old ++ l) (sym consumed) ∙ keeps

-- the first line stands in front
abbrev pub Stands : Option (List ℕ) → Option (List ℕ) → ℕ → ℕ → List ℕ → Type 0
Stands w b line read room = IfSome w (λ text. (take line room ≡ first_line text) × (prepend_known (drop line (take read room)) b ≡ Some (behind_line text)))

pub found : (w b : Option (List ℕ)) (line read : ℕ) (room : List ℕ) → Keeps w (prepend_known (take read room) b) → EndsAt (take read room) line → take line (take read room) ≡ take line room → Stands w b line read room
found None b line read room keeps ends same = tt
found (Some x) None line read room keeps ends same = absurd keeps
found (Some x) (Some ys) line read room keeps ends same = (
  sym same ∙ sym (ends.first ys) ∙ ap first_line keeps,
  ap Some (sym (ends.behind ys) ∙ ap behind_line keeps),
)

-- the input ends in the line
pub ended : (w b : Option (List ℕ)) (read : ℕ) (room : List ℕ) → Keeps w (prepend_known (take read room) b) → IsAtEnd b → HasNoEnd (take read room) → drop read (take read room) ≡ [] → Stands w b read read room
ended None b read room keeps end none rest = tt
ended (Some x) None read room keeps end none rest = absurd keeps
ended (Some x) (Some ys) read room keeps end none rest = (
  sym (append-nil (take read room)) ∙ sym (first_none (take read room) [] none.none) ∙ ap (λ l. first_line (take read room ++ l)) (sym end) ∙ ap first_line keeps,
  ap Some (ap (λ l. l ++ ys) rest ∙ end ∙ sym (behind_none (take read room) [] none.none) ∙ ap (λ l. behind_line (take read room ++ l)) (sym end) ∙ ap behind_line keeps),
)

-- the room is full
pub too_long : (w b : Option (List ℕ)) (room : List ℕ) → length room ≡ longest_line → Keeps w (prepend_known room b) → HasNoEnd room → IfSome w IsLong
too_long None b room size keeps none = tt
too_long (Some x) None room size keeps none = absurd keeps
too_long (Some x) (Some ys) room size keeps none =
    subst IsLong keeps (record { long = omega (arith, size, length-append room ys); none = λ k lt zero_there. none.none k (omega (arith, lt, size)) (sym (get_or_append_left room ys 0 k (omega (arith, lt, size))) ∙ zero_there) })

-- the next line lies whole in what was read
next_line_of : (left : Option (List ℕ)) (room : List ℕ) (end read n : ℕ) → end ≤ read → read ≤ length room → EndsAt (drop end (take read room)) n
    → IsNext (prepend_known (drop end (take read room)) left) left room (record { begin = end; end = end + n; read = read })
next_line_of None room end read n order inside ends = tt
next_line_of (Some ys) room end read n order inside ends =
    let few : end + n ≤ read = omega (arith, ends.inside, length-drop end (take read room), length-take-le read room inside, order) in (
      ap (drop end) (sym (take-take (end + n) read room few)) ∙ drop-take end n (take read room) ∙ sym (ends.first ys),
      ap Some (ap (λ l. l ++ ys) (sym (drop-drop n end (take read room))) ∙ sym (ends.behind ys)),
    )

pub sliced : (room : List ℕ) (end read : ℕ) → end ≤ read → take (read - end) (drop end room) ≡ drop end (take read room)
sliced room end read order =
    let whole : end + (read - end) ≡ read = omega (arith, order) in
    sym (drop-take end (read - end) room) ∙ ap (λ k. drop end (take k room)) whole

pub next_none : (room : List ℕ) (end read : ℕ) → end ≤ read → HasNoEnd (take (read - end) (drop end room)) → has_line (drop end (take read room)) ≡ false
next_none room end read order none = none_held (drop end (take read room)) (subst HasNoEnd (sliced room end read order) none)

pub next_found : (left : Option (List ℕ)) (room : List ℕ) (end read n : ℕ) → end ≤ read → read ≤ length room → EndsAt (take (read - end) (drop end room)) n
    → IsNext (prepend_known (drop end (take read room)) left) left room (record { begin = end; end = end + n; read = read })
next_found left room end read n order inside ends =
    next_line_of left room end read n order inside (subst (λ (l : List ℕ). EndsAt l n) (sliced room end read order) ends)

-- a fault is told as it was, by who fills the room
pub not_filled : (old : Option (List ℕ)) (failed : ℕ) (left : Option (List ℕ)) (failures : ℕ) (room : List ℕ) (fault : LinesFault)
    → IsFilled old failed left failures room (Err fault) → IsLent old failed left failures room (Err fault)
not_filled old failed left failures room TooLong h = h
not_filled old failed left failures room Read h = h

-- and by who fetches a line
pub not_fetched : (old : Reader) (failures : ℕ) (left : Option (List ℕ)) (room : List ℕ) (fault : LinesFault) → IsLent old.rest old.failures left failures room (Err fault)
    → IsFetched old (record { line = []; ahead = []; rest = None; failures = failures }) (Err fault)
not_fetched old failures left room TooLong h = h
not_fetched old failures left room Read h = h
