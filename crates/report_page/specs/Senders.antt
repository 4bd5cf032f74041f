-- Who sent in which segment, and from where. It states no standard.
use Rattle.std.specs.Prelude.{ℕ, ◌+◌, ◌*◌, ◌%◌, ◌&&◌, not, Bool, true, false, List, [], ◌∷◌}
use Rattle.std.specs.List.{list_any}
use Rattle.wire.specs.Octets.{is_same}
use Rattle.report_page.specs.Told.{is_talk, word_at}
use Rattle.report_page.specs.declared.senders.Sender.{Sender}

-- an octet that stands for a text, behind those of others. Two texts whose octets differ aren't the same text, so senders are looked
-- up by it, and those found are compared whole: what is told of senders doesn't depend on which function from a text to an octet it is
abbrev pub mark_behind : ℕ → List ℕ → ℕ
mark_behind mark [] = mark
mark_behind mark (c ∷ cs) = mark_behind ((mark * 31 + c) % 256) cs

-- that of a source in a segment
unfoldable pub mark_of : Sender → ℕ
mark_of sender = mark_behind (mark_behind 0 sender.segment.now) sender.source.now

-- it is a place itself, or another
abbrev pub is_wanted : Bool → Bool → Bool
is_wanted true same = same
is_wanted false same = not same

-- a sender is that source in that segment, and sent from the place, or else from another
unfoldable pub sends : Bool → List ℕ → List ℕ → List ℕ → Sender → Bool
sends there segment source place sender =
    is_same sender.segment.now segment && is_same sender.source.now source && is_wanted there (is_same sender.place.now place)

-- the line of a talk whose source sent from another place, too
unfoldable pub moved_among : List Sender → List ℕ → Bool
moved_among senders line = is_talk line && list_any (sends false (word_at 1 line) (word_at 2 line) (word_at 3 line)) senders
