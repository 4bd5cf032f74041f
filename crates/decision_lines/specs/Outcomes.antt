-- Outcomes in a line, one by one. It states no standard.
use Rattle.std.specs.Prelude.{ℕ, Bool, if◌then◌else◌, List, [], ◌++◌, codes, decimal, Result, Ok, Err}
use Rattle.wire.specs.Reason.{name_of}
use Rattle.wire.specs.declared.ether.reason.Reason.{Reason}

-- what stands before an outcome: one space, but nothing before the first
abbrev pub gap : Bool → List ℕ
gap is_first = if is_first then [] else codes " "

-- how many octets were sent, or the name of the reason why none were
abbrev pub count_text : Result ℕ Reason → List ℕ
count_text (Ok count) = codes "=" ++ decimal count
count_text (Err reason) = codes "!" ++ name_of reason
