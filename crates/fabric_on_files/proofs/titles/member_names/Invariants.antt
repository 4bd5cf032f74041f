use Rattle.std.proofs.Common.{◌≡◌, length}
use Rattle.fabric_on_files.proofs.titles.member_names.Given as goal

-- there is a name for each that was taken
abbrev pub invariant-loop-member : goal.invariant-loop-member
invariant-loop-member l = length l.names.items ≡ l.member-index
