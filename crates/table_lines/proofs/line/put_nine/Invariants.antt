use Rattle.std.proofs.Common.{◌≡◌, ◌++◌, ◌-◌, length, replicate}
use Rattle.std.specs.String.{string_bytes}
use Rattle.table_lines.proofs.line.put_nine.Given as goal

-- the zeros so far
abbrev pub invariant-loop-zero : goal.invariant-loop-zero
invariant-loop-zero l = string_bytes l.text ≡ string_bytes l.fn.text ++ replicate (l._zero - length l.digits) 48
