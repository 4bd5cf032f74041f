-- What the code finds, without where it lies in memory. It serves proofs.
use Rattle.std.specs.Prelude.{◌≤◌, ℕ, ◌+◌, length, ⊤}
use Rattle.pcapng_input.specs.Block.{AllRead, AnotherBlock, CutShort, NextBlock, NoBlock, Refused}
use Rattle.pcapng_input.specs.Options.{AnotherOption, NextOption, NoOption}
use Rattle.pcapng_input.specs.declared.block.NextBlock.{NextBlock as FoundBlock}
use Rattle.pcapng_input.specs.declared.block.NextBlock.TheVariants as block
use Rattle.pcapng_input.specs.declared.option.NextOption.{NextOption as FoundOption}
use Rattle.pcapng_input.specs.declared.option.NextOption.TheVariants as option

-- what comes next in a text of blocks
abbrev pub block_seen : FoundBlock → NextBlock
block_seen (block.Another b rest) = AnotherBlock b rest.now
block_seen block.AllRead = NoBlock AllRead
block_seen block.CutShort = NoBlock CutShort
block_seen (block.Refused fault) = NoBlock (Refused fault)

-- the text behind a block is shorter than so many octets by the block
abbrev pub IsShorter : ℕ → FoundBlock → Type 0
IsShorter size (block.Another b rest) = 12 + length b.body + length rest.now ≤ size
IsShorter size block.AllRead = ⊤
IsShorter size block.CutShort = ⊤
IsShorter size (block.Refused fault) = ⊤

-- what comes next in a text of options
abbrev pub block_option_seen : FoundOption → NextOption
block_option_seen (option.Another o rest) = AnotherOption o rest.now
block_option_seen (option.Ends is_whole) = NoOption is_whole

-- the text behind an option is shorter by the option's 4 octets or more
abbrev pub IsShorterOption : ℕ → FoundOption → Type 0
IsShorterOption size (option.Another o rest) = 4 + length rest.now ≤ size
IsShorterOption size (option.Ends is_whole) = ⊤
