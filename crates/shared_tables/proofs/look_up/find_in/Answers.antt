use Rattle.std.proofs.Common.{arith, ◌≡◌, ◌≢◌, ℕ, ◌+◌, ◌-◌, ◌/◌, ◌%◌, ◌<◌, List, length, Option, Some, None, true, false, refl, sym, ap, ◌∙◌, subst}
use Rattle.std.specs.Int.{bit_at}
use Rattle.shared_tables.specs.declared.trees.Target.{Target}
use Rattle.shared_tables.specs.declared.trees.Target.TheVariants as target
use Rattle.shared_tables.specs.Bucket.{key_of, IsKey}
use Rattle.shared_tables.specs.Pool.{Held, entry_at, IfHeld}
use Rattle.shared_tables.specs.TreesOfSlots.{key_in, PartedAt}
use Rattle.shared_tables.specs.TreeColumns.{IsFork, target_in, target_at, child_of}
use Rattle.shared_tables.proofs.OnTrees.TreesOfLemmas.{leaf_there, fork_told, no_fork_told}
use Rattle.shared_tables.proofs.OnTrees.Walk.{Walks, walk_starts, walk_on, walk_few, walk_short, walk_none, walk_leaf, walk_fork, arrives_held, arrives_lacks, arrives_belongs, walk_still}
use Rattle.shared_tables.proofs.look_up.find_in.Goals as goal

pub loop-word-init : goal.loop-word-init
loop-word-init c =
    let es = c.args.slots.now.entries in let w = c.args.trees.now in let was = c.args.compared.now.total in
    subst (Walks es w c.args.vid c.args.mac was was) (ap (target_at w.words) (sym c.requires.tree) ∙ sym c.root-word.ensures) (walk_starts es w c.args.vid c.args.mac was)

pub next-word-requires-clause-fork : goal.next-word-requires-clause-fork
next-word-requires-clause-fork c =
    let es = c.args.slots.now.entries in let w = c.args.trees.now in let was = c.args.compared.now.total in let now = c.loop-word.compared.total in let word = c.loop-word.word in
    let fork = fork_told word (c.is_fork.ensures.0 c.loop-word-test.true) in
    subst (λ n. n < length w.forks) (sym c.fork_in.ensures) (walk_fork es w c.args.vid c.args.mac was now ((word - 1048576) / 64) ((word - 1048576) % 64) c.requires.trees (subst (Walks es w c.args.vid c.args.mac was now) fork c.loop-word.invariant))

pub loop-word-smaller : goal.loop-word-smaller
loop-word-smaller c =
    let es = c.args.slots.now.entries in let w = c.args.trees.now in let was = c.args.compared.now.total in let now = c.loop-word.compared.total in let word = c.loop-word.word in
    let fork = fork_told word (c.is_fork.ensures.0 c.loop-word-test.true) in
    let here : target_in word ≢ target.Nothing = λ q. let bad : target.Fork ((word - 1048576) / 64) ((word - 1048576) % 64) ≡ target.Nothing = sym fork ∙ q in cc in
    omega (arith, walk_few es w c.args.vid c.args.mac was now (target_in word) here c.requires.trees c.loop-word.invariant, c.next-word.ensures.counted)

pub loop-word-preserved : goal.loop-word-preserved
loop-word-preserved c =
    let es = c.args.slots.now.entries in let w = c.args.trees.now in let was = c.args.compared.now.total in let now = c.loop-word.compared.total in let word = c.loop-word.word in
    let m = (word - 1048576) / 64 in let b = (word - 1048576) % 64 in
    let at = subst (Walks es w c.args.vid c.args.mac was now) (fork_told word (c.is_fork.ensures.0 c.loop-word-test.true)) c.loop-word.invariant in
    let to = walk_on es w c.args.vid c.args.mac was c.requires.trees now m b at in
    let side : c.side.result ≡ bit_at (key_of c.args.vid c.args.mac) b = c.side.ensures.value ∙ ap (λ k. bit_at k c.bit_in.result) c.key-key.ensures.value ∙ ap (bit_at (key_of c.args.vid c.args.mac)) c.bit_in.ensures in
    subst (λ n. Walks es w c.args.vid c.args.mac was n (target_in c.next-word.result)) (sym c.next-word.ensures.counted)
    (subst (Walks es w c.args.vid c.args.mac was (now + 1)) (ap (λ s. target_at w.words (child_of m s)) (sym side) ∙ ap (λ n. target_at w.words (child_of n c.side.result)) (sym c.fork_in.ensures) ∙ sym c.next-word.ensures.target) to)

pub invariant_of-slot : goal.invariant_of-slot
invariant_of-slot c =
    let es = c.args.slots.now.entries in let w = c.args.trees.now in let was = c.args.compared.now.total in let now = c.loop-word.compared.total in
    let leaf = sym c.read.ensures ∙ c.in-Leaf.is in
    let a = walk_leaf es w c.args.vid c.args.mac was now c.in-Leaf.number c.requires.trees (subst (Walks es w c.args.vid c.args.mac was now) leaf c.loop-word.invariant) in
    omega (arith, (arrives_held es w c.args.vid c.args.mac was c.in-Leaf.number a).in_pool, c.requires.trees.slots, c.requires.trees.sizes.few)

pub differs-requires : goal.differs-requires
differs-requires c =
    let es = c.args.slots.now.entries in let w = c.args.trees.now in let was = c.args.compared.now.total in let now = c.loop-word.compared.total in
    let leaf = sym c.read.ensures ∙ c.in-Leaf.is in
    let a = walk_leaf es w c.args.vid c.args.mac was now c.in-Leaf.number c.requires.trees (subst (Walks es w c.args.vid c.args.mac was now) leaf c.loop-word.invariant) in
    let held = arrives_held es w c.args.vid c.args.mac was c.in-Leaf.number a in
    record { in_pool = held.in_pool; held = held.held }

pub returns-in-None-clause-bits : goal.returns-in-None-clause-bits
returns-in-None-clause-bits c =
    let es = c.args.slots.now.entries in let w = c.args.trees.now in let was = c.args.compared.now.total in let now = c.loop-word.compared.total in
    omega (arith, c.in-None.ensures.counted, walk_short es w c.args.vid c.args.mac was now (target_in c.loop-word.word) c.requires.trees c.loop-word.invariant)

pub returns-in-None-clause-compared : goal.returns-in-None-clause-compared
returns-in-None-clause-compared c =
    let es = c.args.slots.now.entries in let w = c.args.trees.now in let was = c.args.compared.now.total in let now = c.loop-word.compared.total in let here = target_in c.loop-word.word in
    let leaf : here ≡ target.Leaf c.in-Leaf.number = sym c.read.ensures ∙ c.in-Leaf.is in
    omega (arith, c.in-None.ensures.counted, walk_few es w c.args.vid c.args.mac was now here (leaf_there here c.in-Leaf.number leaf) c.requires.trees c.loop-word.invariant)

-- what differs from its key in a bit isn't the address
apart_key : (o : Option Held) (vid : ℕ) (mac : List ℕ) (bit : ℕ) → bit_at (key_in o) bit + bit_at (key_of vid mac) bit ≡ 1 → IfHeld o vid mac → ⊥
apart_key None vid mac bit d h = h
apart_key (Some e) vid mac bit d h =
    let same : key_of e.vid e.mac ≡ key_of vid mac = ap (λ v. key_of v e.mac) h.0 ∙ ap (key_of vid) h.1 in
    let one : bit_at (key_of vid mac) bit + bit_at (key_of vid mac) bit ≡ 1 = subst (λ k. bit_at k bit + bit_at (key_of vid mac) bit ≡ 1) same d in
    absurd (omega (arith, one))

pub returns-in-Some-clause-found : goal.returns-in-Some-clause-found
returns-in-Some-clause-found c =
    let es = c.args.slots.now.entries in let w = c.args.trees.now in let was = c.args.compared.now.total in let now = c.loop-word.compared.total in let slot = c.in-Leaf.number in
    let leaf = sym c.read.ensures ∙ c.in-Leaf.is in
    let a = walk_leaf es w c.args.vid c.args.mac was now slot c.requires.trees (subst (Walks es w c.args.vid c.args.mac was now) leaf c.loop-word.invariant) in
    let parted = subst (λ k. PartedAt (entry_at es slot) k c.in-Some.bit) c.key-key.ensures.value c.in-Some.ensures.bit in
    (arrives_lacks es w c.args.vid c.args.mac was slot a (apart_key (entry_at es slot) c.args.vid c.args.mac c.in-Some.bit parted.1), (arrives_belongs es w c.args.vid c.args.mac was slot a, parted))

pub returns-in-Some-clause-bits : goal.returns-in-Some-clause-bits
returns-in-Some-clause-bits c =
    let es = c.args.slots.now.entries in let w = c.args.trees.now in let was = c.args.compared.now.total in let now = c.loop-word.compared.total in
    omega (arith, c.in-Some.ensures.counted, walk_short es w c.args.vid c.args.mac was now (target_in c.loop-word.word) c.requires.trees c.loop-word.invariant)

pub returns-in-Some-clause-compared : goal.returns-in-Some-clause-compared
returns-in-Some-clause-compared c =
    let es = c.args.slots.now.entries in let w = c.args.trees.now in let was = c.args.compared.now.total in let now = c.loop-word.compared.total in let here = target_in c.loop-word.word in
    let leaf : here ≡ target.Leaf c.in-Leaf.number = sym c.read.ensures ∙ c.in-Leaf.is in
    omega (arith, c.in-Some.ensures.counted, walk_few es w c.args.vid c.args.mac was now here (leaf_there here c.in-Leaf.number leaf) c.requires.trees c.loop-word.invariant)

-- what is neither a fork nor a leaf is nothing
nothing_else : (t : Target) → ((n b : ℕ) → t ≢ target.Fork n b) → ((i : ℕ) → t ≢ target.Leaf i) → t ≡ target.Nothing
nothing_else target.Nothing f l = refl
nothing_else (target.Leaf i) f l = absurd (l i refl)
nothing_else (target.Fork n b) f l = absurd (f n b refl)

pub returns-in_default : goal.returns-in_default
returns-in_default c =
    let es = c.args.slots.now.entries in let w = c.args.trees.now in let was = c.args.compared.now.total in let now = c.loop-word.compared.total in let word = c.loop-word.word in
    let no : IsFork word → ⊥ = λ f. let yes : true ≡ false = sym (c.is_fork.ensures.1 f) ∙ c.loop-word-test.false in cc in
    let none = nothing_else (target_in word) (λ n b. no_fork_told word n b no) (λ i q. c.in_default.not-Leaf i (c.read.ensures ∙ q)) in
    let at = subst (Walks es w c.args.vid c.args.mac was now) none c.loop-word.invariant in
    record {
      found = walk_none es w c.args.vid c.args.mac was now c.requires.trees at;
      counted = c.loop-word.invariant.counted;
      compared = omega (arith, walk_still es w c.args.vid c.args.mac was now c.requires.trees at);
      bits = omega (arith, walk_still es w c.args.vid c.args.mac was now c.requires.trees at);
      fits = subst IsKey c.key-key.ensures.value c.key-key.ensures.fits;
    }
