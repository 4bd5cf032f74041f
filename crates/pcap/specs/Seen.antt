-- What the code finds next, without where it lies in memory. It serves proofs.
use Rattle.std.specs.Prelude.{⊤}
use Rattle.pcap.specs.Next.{Next, Another, Ends, Whole, Cut, Faulty}
use Rattle.pcap.specs.Record.{IsWithinLimits}
use Rattle.pcap.specs.declared.text.record.Next.{Next as Found}
use Rattle.pcap.specs.declared.text.record.Next.TheVariants as found

-- what a call of the reader finds, as the definition says it
abbrev pub next_seen : Found → Next
next_seen (found.Another r rest) = Another r rest.now
next_seen found.Whole = Ends Whole
next_seen found.Cut = Ends Cut
next_seen (found.Faulty fault) = Ends (Faulty fault)

-- a record that is found is within the limits of a capture
abbrev pub FoundIsWithinLimits : Found → Type 0
FoundIsWithinLimits (found.Another r rest) = IsWithinLimits r
FoundIsWithinLimits found.Whole = ⊤
FoundIsWithinLimits found.Cut = ⊤
FoundIsWithinLimits (found.Faulty fault) = ⊤
