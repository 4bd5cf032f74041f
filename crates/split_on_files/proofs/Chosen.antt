-- Interfaces of which one alone is selected.
use Rattle.std.proofs.Common.{◌≡◌, ◌∙◌, refl, sym, ap, ℕ, zero, suc, ◌+◌, Bool, true, false, List, [], ◌∷◌, ◌++◌, length, arith, Option, None, Some, Result, Ok, Err}
use Rattle.std.specs.Prelude.{◌==◌, if◌then◌else◌, nat_lt, drop, option_map, slice_get}
use Rattle.pcap.specs.declared.text.style.Order.{Order}
use Rattle.pcapng_input.specs.Interface.{described, described_by, interface_by, offset_of, resolution_of}
use Rattle.pcapng_input.specs.Options.{OptionList, block_options, option_value}
use Rattle.pcapng_input.specs.declared.fault.BlockFault.{BlockFault}
use Rattle.pcapng_input.specs.declared.fault.BlockFault.TheVariants.{ShortBlock}
use Rattle.pcapng_input.specs.declared.interface.Interface.{Interface}
use Rattle.pcapng_input.specs.declared.interface.Selection.TheVariants.{All, Number}
use Rattle.split_on_files.specs.Lanes.{as_selected, only}
use Rattle.split_on_files.specs.Steps.{AllTaken}

pub only-length : (chosen from : ℕ) (is : List Interface) → length (only chosen from is) ≡ length is
only-length chosen from [] = refl
only-length chosen from (i ∷ more) = ap suc (only-length chosen (suc from) more)

pub only-get : (chosen from at : ℕ) (is : List Interface) → slice_get (only chosen from is) at ≡ option_map (as_selected (chosen == from + at)) (slice_get is at)
only-get chosen from at [] = refl
only-get chosen from zero (i ∷ more) =
    let same : from ≡ from + 0 = omega arith in
    ap (λ n. Some (as_selected (chosen == n) i)) same
only-get chosen from (suc at) (i ∷ more) =
    let same : suc from + at ≡ from + suc at = omega arith in
    only-get chosen (suc from) at more ∙ ap (λ n. option_map (as_selected (chosen == n)) (slice_get more at)) same

-- the same from the first one on
pub first-get : (chosen at : ℕ) (is : List Interface) → slice_get (only chosen 0 is) at ≡ option_map (as_selected (chosen == at)) (slice_get is at)
first-get chosen at is =
    let same : 0 + at ≡ at = omega arith in
    only-get chosen 0 at is ∙ ap (λ n. option_map (as_selected (chosen == n)) (slice_get is at)) same

pub only-append : (chosen from : ℕ) (is : List Interface) (i : Interface)
    → only chosen from (is ++ i ∷ []) ≡ only chosen from is ++ as_selected (chosen == from + length is) i ∷ []
only-append chosen from [] i =
    let same : from ≡ from + 0 = omega arith in
    ap (λ n. as_selected (chosen == n) i ∷ []) same
only-append chosen from (first ∷ more) i =
    let same : suc from + length more ≡ from + suc (length more) = omega arith in
    ap (λ t. as_selected (chosen == from) first ∷ t)
    (only-append chosen (suc from) more i ∙ ap (λ n. only chosen (suc from) more ++ as_selected (chosen == n) i ∷ []) same)

pub first-append : (chosen : ℕ) (is : List Interface) (i : Interface) → only chosen 0 (is ++ i ∷ []) ≡ only chosen 0 is ++ as_selected (chosen == length is) i ∷ []
first-append chosen is i =
    let same : 0 + length is ≡ length is = omega arith in
    only-append chosen 0 is i ∙ ap (λ n. only chosen 0 is ++ as_selected (chosen == n) i ∷ []) same

-- ---- all are taken

pub taken_get : (is : List Interface) (at : ℕ) (i : Interface) → AllTaken is → slice_get is at ≡ Some i → i.is_selected ≡ true
taken_get [] at i all is = absurd cc
taken_get (first ∷ more) zero i all is = ap chosen_in (sym is) ∙ all.0
  where
    chosen_in : Option Interface → Bool
    chosen_in None = true
    chosen_in (Some i) = i.is_selected
taken_get (first ∷ more) (suc at) i all is = taken_get more at i all.1 is

pub taken_append : (is : List Interface) (i : Interface) → AllTaken is → i.is_selected ≡ true → AllTaken (is ++ i ∷ [])
taken_append [] i all is = (is, tt)
taken_append (first ∷ more) i all is = (all.0, taken_append more i all.1 is)

-- the one with the number that is asked for is itself
pub own-get : (number at : ℕ) (is : List Interface) → AllTaken is → (number == at) ≡ true → slice_get (only number 0 is) at ≡ slice_get is at
own-get number at is all same = by_found (slice_get is at) refl
  where
    by_found : (o : Option Interface) → slice_get is at ≡ o → slice_get (only number 0 is) at ≡ slice_get is at
    by_found None e = first-get number at is ∙ ap (option_map (as_selected (number == at))) e ∙ sym e
    by_found (Some i) e =
        first-get number at is ∙ ap (option_map (as_selected (number == at))) e ∙ ap (λ b. Some (as_selected b i)) (same ∙ sym (taken_get is at i all e)) ∙ sym e

-- ---- descriptions

-- an interface that was described, selected or not
abbrev pub described_as : Bool → Result Interface BlockFault → Result Interface BlockFault
described_as b (Err fault) = Err fault
described_as b (Ok i) = Ok (as_selected b i)

interface_as : (a b : Bool) (order : Order) (body : List ℕ) (resolution offset : Result ℕ BlockFault)
    → interface_by a order body resolution offset ≡ described_as a (interface_by b order body resolution offset)
interface_as a b order body (Err fault) offset = refl
interface_as a b order body (Ok resolution) (Err fault) = refl
interface_as a b order body (Ok resolution) (Ok offset) = refl

pub described-as : (number from : ℕ) (order : Order) (body : List ℕ)
    → described (Number number) from order body ≡ described_as (number == from) (described All from order body)
unfolding described
described-as number from order body = by_size (nat_lt (length body) 8)
  where
    list : OptionList
    list = block_options order (drop 8 body)

    by_list : (b : Bool) → (if b then interface_by (number == from) order body (resolution_of (option_value 9 list.options)) (offset_of order (option_value 14 list.options)) else Err ShortBlock)
        ≡ described_as (number == from) (if b then interface_by true order body (resolution_of (option_value 9 list.options)) (offset_of order (option_value 14 list.options)) else Err ShortBlock)
    by_list true = interface_as (number == from) true order body (resolution_of (option_value 9 list.options)) (offset_of order (option_value 14 list.options))
    by_list false = refl

    by_size : (b : Bool) → (if b then Err ShortBlock else described_by (Number number) from order body list)
        ≡ described_as (number == from) (if b then Err ShortBlock else described_by All from order body list)
    by_size true = refl
    by_size false = by_list list.is_whole

-- all that are described are taken where all are asked for
pub described-taken : (from : ℕ) (order : Order) (body : List ℕ) (i : Interface) → described All from order body ≡ Ok i → i.is_selected ≡ true
unfolding described
described-taken from order body i = by_size (nat_lt (length body) 8)
  where
    list : OptionList
    list = block_options order (drop 8 body)

    chosen_in : Result Interface BlockFault → Bool
    chosen_in (Err fault) = true
    chosen_in (Ok i) = i.is_selected

    by_clock : (a b : Result ℕ BlockFault) → interface_by true order body a b ≡ Ok i → i.is_selected ≡ true
    by_clock (Err fault) b e = absurd cc
    by_clock (Ok a) (Err fault) e = absurd cc
    by_clock (Ok a) (Ok b) e = ap chosen_in (sym e)

    by_list : (b : Bool) → (if b then interface_by true order body (resolution_of (option_value 9 list.options)) (offset_of order (option_value 14 list.options)) else Err ShortBlock) ≡ Ok i
        → i.is_selected ≡ true
    by_list true e = by_clock (resolution_of (option_value 9 list.options)) (offset_of order (option_value 14 list.options)) e
    by_list false e = absurd cc

    by_size : (b : Bool) → (if b then Err ShortBlock else described_by All from order body list) ≡ Ok i → i.is_selected ≡ true
    by_size true e = absurd cc
    by_size false e = by_list list.is_whole e
