use Rattle.std.proofs.Common.{inl, inr}
use Rattle.part_record.proofs.read.no_head.Goals as goal

pub returns-in-Some : goal.returns-in-Some
returns-in-Some c = (c.in-Some._rest.now, inl c.in-Some.ensures)

pub returns-in-Some-behind : goal.returns-in-Some-behind
returns-in-Some-behind c = (c.in-Some-behind._rest.now, inr (inl c.in-Some-behind.ensures))

pub returns-in-Some-behind-2 : goal.returns-in-Some-behind-2
returns-in-Some-behind-2 c = (c.in-Some-behind-2._rest.now, inr (inr c.in-Some-behind-2.ensures))

pub returns : goal.returns
returns c = (
  c.requires,
  λ older. elim older.1 [
    | inl one ↦ c.in_default.ensures older.0 one
    | inr more ↦
        elim more [
          | inl two ↦ c.in_default-behind.ensures older.0 two
          | inr three ↦ c.in_default-behind-2.ensures older.0 three
        ]
  ],
)
