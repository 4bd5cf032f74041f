-- A block whose first octets are handed on.
use Rattle.std.proofs.Common.{◌≡◌, ◌∙◌, refl, sym, ap, ℕ, ◌+◌, ◌-◌, ◌<◌, ◌≤◌, List, [], ◌++◌, take, drop, length, append_assoc, append-nil, arith, length-drop, Option, None, Some, OnErr, Result, Ok, Err, Bool, false}
use lib.Seq.{paste}
use Rattle.std.proofs.Math.Seq.{drop-length}
use Rattle.std.proofs.lemmas.List.{drop-take, take-append-drop}
use Rattle.std.proofs.lemmas.List.Edits.{take-paste}
use Rattle.std.specs.List.{copy_within}
use Rattle.std.specs.Io.KnownBytes.{Appends, Keeps, append_known}
use Rattle.pcap.specs.Block.{Block, IsRest, told}
use Rattle.pcap.specs.Sink.{AppendsPart}

-- what is kept of a block, moved to its front
pub shifted : (octets : List ℕ) (count held : ℕ) → count ≤ held → held ≤ length octets → take (held - count) (copy_within octets count held 0) ≡ drop count (take held octets)
shifted octets count held order fits =
    let left = held - count in
    let same : left ≡ 0 + left = omega arith in
    let whole : count + left ≡ held = omega (arith, order) in
    ap (λ k. take k (paste octets 0 (drop count octets) left)) same
    ∙ take-paste octets 0 (drop count octets) left (omega arith) (omega (arith, length-drop count octets, order, fits))
    ∙ sym (drop-take count left octets) ∙ ap (λ k. drop count (take k octets)) whole

-- all that was written stays, where the front of the block went on to the output
pub handed_on : (old new : Option (List ℕ)) (held : List ℕ) (count : ℕ) → Appends old new (take count held) → Keeps (append_known old held) (append_known new (drop count held))
handed_on None new held count h = tt
handed_on (Some text) None held count h = absurd h
handed_on (Some text) (Some more) held count h =
    ap (λ l. l ++ drop count held) h ∙ append_assoc text (take count held) (drop count held) ∙ ap (λ l. text ++ l) (take-append-drop count held)

kept_is_none_more : (old new : Option (List ℕ)) → Keeps old new → Appends old new []
kept_is_none_more None new same = tt
kept_is_none_more (Some text) None same = absurd same
kept_is_none_more (Some text) (Some more) same = same ∙ sym (append-nil text)

-- where nothing was written of a text that isn't empty, a part of it was
pub none_of : {T E : Type 0} (old new : Option (List ℕ)) (text : List ℕ) (result : Result T E) → Keeps old new → 0 < length text → OnErr result (AppendsPart old new text)
none_of old new text (Ok x) same some = tt
none_of old new text (Err e) same some = (0, some, kept_is_none_more old new same)

-- what is left behind the first octets is a rest
pub rest_of : {T E : Type 0} (result : Result T E) (old new : List ℕ) (count : ℕ) → new ≡ drop count old → OnErr result (IsRest old new)
rest_of (Ok x) old new count same = tt
rest_of (Err e) old new count same = (count, same)

-- and so is nothing, where there was no room
pub none_is_rest : {T E : Type 0} (result : Result T E) (may_hold : Bool) (old new : List ℕ) → may_hold ≡ false → new ≡ []
    → OnErr result ((may_hold ≡ false) × IsRest old new)
none_is_rest (Ok x) may_hold old new full none = tt
none_is_rest (Err e) may_hold old new full none = (full, (length old, none ∙ sym (drop-length old)))

-- ---- a block that holds nothing

pub told_alone : (b : Block) → b.held ≡ [] → told b ≡ b.written
told_alone b none = ap (append_known b.written) none ∙ alone b.written
  where
    alone : (w : Option (List ℕ)) → append_known w [] ≡ w
    alone None = refl
    alone (Some x) = ap Some (append-nil x)
