-- An entry that comes to its segment. It serves proofs.
use Rattle.std.specs.Prelude.{◌≡◌, ℕ, ◌<◌, true, false, Bool, List, length, Option, Some, None}
use Rattle.std.specs.Int.{bit_at}
use Rattle.shared_tables.specs.declared.admission.Newcomer.{Newcomer}
use Rattle.shared_tables.specs.declared.admission.Outcome.{Outcome}
use Rattle.shared_tables.specs.declared.look_up.Beside.{Beside}
use Rattle.shared_tables.specs.declared.admission.Outcome.TheVariants as outcome
use Rattle.shared_tables.specs.Bucket.{key_of, IsKey, tree_of}
use Rattle.shared_tables.specs.Pool.{Held, entry_at, IfHeld}
use Rattle.shared_tables.specs.LinkSteps.{IsHeld}
use Rattle.shared_tables.specs.Shared.{Shared, rule_at, span_of, Lacks, IsNow, Admits}
use Rattle.shared_tables.specs.TreesOfSlots.{BelongsBeside}
use Rattle.shared_tables.specs.TreeColumns.{Trees, number_at, place_by, planted, grafted}
use Rattle.shared_tables.specs.WholePool.{Makes, Refuses}

-- the entry of a newcomer
abbrev pub held_of : Newcomer → Held
held_of n = record { vid = n.vid; mac = n.mac; place = n.place; last = n.last }

-- no slot holds its address, which belongs where it says, and it may be written now
pub record MayCome (entries : List (Option Held)) (trees : Trees) (moment : ℕ) (n : Newcomer) : Type 0 where
  pub tree : n.tree ≡ tree_of n.vid n.mac
  pub fits : IsKey (key_of n.vid n.mac)
  pub absent : Lacks entries n.vid n.mac
  pub now : IsNow n.last moment
  pub beside : BelongsBeside entries trees.words (tree_of n.vid n.mac) (key_of n.vid n.mac) n.beside

-- it has come, or hasn't
abbrev pub ComesOrNot : Shared → Shared → Newcomer → Bool → Type 0
ComesOrNot old new n true = Makes old new n.vid (span_of (rule_at old.rules n.vid)) (held_of n)
ComesOrNot old new n false = Refuses old new n.vid (span_of (rule_at old.rules n.vid))

-- what came of an address
abbrev pub ComesTo : Shared → Shared → ℕ → Held → Outcome → Type 0
ComesTo old new span e (outcome.Held slot) = IfHeld (entry_at old.entries slot) e.vid e.mac × IsHeld old.entries slot × (new ≡ old)
ComesTo old new span e outcome.Entered = Lacks old.entries e.vid e.mac × Makes old new e.vid span e
ComesTo old new span e outcome.Full = Lacks old.entries e.vid e.mac × Refuses old new e.vid span

-- what putting a slot beside a leaf reads is there
abbrev pub MayAttach : Trees → ℕ → Option Beside → ℕ → Type 0
MayAttach w tree None slot = Unit {0}
MayAttach w tree (Some b) slot =
    (b.leaf < length w.leaves) × (place_by tree (number_at w.leaves b.leaf) < length w.words)
    × (number_at w.leaves slot < length w.forks) × (b.bit < 64)

-- a slot is the only leaf of its tree, or stands beside another, behind a fork that sends its key to its side
abbrev pub Attaches : Trees → Trees → Newcomer → Option Beside → ℕ → Type 0
Attaches old new n None slot = new ≡ planted old n.tree slot
Attaches old new n (Some b) slot = new ≡ grafted old n.tree b.leaf slot b.bit (bit_at (key_of n.vid n.mac) b.bit)

-- a slot holds the address, or dead entries go and the entry comes, if there is room for it
abbrev pub FindsOrAdmits : Shared → Shared → ℕ → Held → Outcome → Type 0
FindsOrAdmits old new span e (outcome.Held slot) = IfHeld (entry_at old.entries slot) e.vid e.mac
    × IsHeld old.entries slot × (new ≡ old)
FindsOrAdmits old new span e outcome.Entered = Lacks old.entries e.vid e.mac × Admits old new e.vid span e true
FindsOrAdmits old new span e outcome.Full = Lacks old.entries e.vid e.mac × Admits old new e.vid span e false
