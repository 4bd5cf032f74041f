-- The options of a text, by what comes next in it.
use Rattle.std.proofs.Common.{◌≡◌, ◌∙◌, refl, sym, ap, ℕ, ◌+◌, ◌≤◌, Bool, true, false, List, [], length, drop, arith, length-drop}
use Rattle.std.specs.Prelude.{◌==◌, nat_lt, if◌then◌else◌}
use Rattle.std.proofs.lemmas.Bool.{ltb-false}
use Rattle.pcap.proofs.Bounded.{one_step}
use Rattle.pcap.specs.Style.{number_of}
use Rattle.pcap.specs.declared.text.style.Order.{Order}
use Rattle.pcapng_input.specs.Options.{AnotherOption, BlockOption, NextOption, NoOption, OptionList, block_option_at, block_options, first_options, next_option, option_before, option_by_length, options_by, padded}

-- what is left behind an option is shorter by its head at least
abbrev LeavesLess : ℕ → NextOption → Type 0
LeavesLess n (AnotherOption o rest) = 4 + length rest ≤ n
LeavesLess n (NoOption is_whole) = Unit {0}

by_room : (order : Order) (size : ℕ) (text : List ℕ) (b : Bool) → nat_lt (length text) (4 + padded size) ≡ b
    → LeavesLess (length text) (if b then NoOption false else AnotherOption (block_option_at order size text) (drop (4 + padded size) text))
by_room order size text true is = tt
by_room order size text false is = let room = ltb-false _ _ is in omega (arith, room, length-drop (4 + padded size) text)

by_code : (order : Order) (text : List ℕ) (b : Bool)
    → LeavesLess (length text) (if b then NoOption true else option_by_length order (number_of order 2 (drop 2 text)) text)
by_code order text true = tt
by_code order text false =
    let size = number_of order 2 (drop 2 text) in by_room order size text (nat_lt (length text) (4 + padded size)) refl

next_option-less : (order : Order) (text : List ℕ) → LeavesLess (length text) (next_option order text)
unfolding next_option
next_option-less order text = by_head (nat_lt (length text) 4)
  where
    by_head : (b : Bool) → LeavesLess (length text) (if b then NoOption true else if number_of order 2 text == 0 then NoOption true else option_by_length order (number_of order 2 (drop 2 text)) text)
    by_head true = tt
    by_head false = by_code order text (number_of order 2 text == 0)

same_options : (f g : List ℕ → OptionList) (next : NextOption) (n : ℕ) → LeavesLess n next → ((rest : List ℕ) → 4 + length rest ≤ n → f rest ≡ g rest) → options_by f next ≡ options_by g next
same_options f g (AnotherOption o rest) n less same = ap (option_before o) (same rest less)
same_options f g (NoOption is_whole) n less same = refl

-- the options of a text are what comes next and the options behind it
options-next : (order : Order) (text : List ℕ) → block_options order text ≡ options_by (block_options order) (next_option order text)
unfolding block_options first_options
options-next order text =
    one_step length (λ n. first_options n order) (λ more text. options_by more (next_option order text)) (λ n text. refl)
    (λ f g text same. same_options f g (next_option order text) (length text) (next_option-less order text) (λ rest less. same rest (omega (arith, less)))) text

pub options_behind : (order : Order) (text : List ℕ) (o : BlockOption) (rest : List ℕ) → AnotherOption o rest ≡ next_option order text → block_options order text ≡ option_before o (block_options order rest)
options_behind order text o rest is = options-next order text ∙ ap (options_by (block_options order)) (sym is)

pub options_end : (order : Order) (text : List ℕ) (is_whole : Bool) → NoOption is_whole ≡ next_option order text → block_options order text ≡ record { options = []; is_whole = is_whole }
options_end order text is_whole is = options-next order text ∙ ap (options_by (block_options order)) (sym is)
