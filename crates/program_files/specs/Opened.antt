-- Captures that were opened, and of which nothing is read yet. It states no standard.
--     IsOpened      one: what is told of it
--     AreOpened      some, one behind another
use Rattle.std.specs.Prelude.{◌≡◌, ℕ, List, Option, option_map}
use Rattle.std.specs.List.{AllZip}
use Rattle.std.specs.Borrow.{Bor}
use Rattle.command_line.specs.Capture.{interface_of}
use Rattle.pcap.specs.Source.{Stream}
use Rattle.pcapng_input.specs.Adapted.{told_text}
use Rattle.pcapng_input.specs.declared.interface.Selection.{Selection}
use Rattle.program_files.specs.Asked.{IsAsked}
use Rattle.program_files.specs.Device.{left_in}
use Rattle.program_files.specs.declared.inputs.Device.{Device}

-- what is told of a capture that has these octets left, where they are known: as classic pcap, of the interfaces that are asked for
abbrev pub told_of : Selection → Option (List ℕ) → Option (List ℕ)
told_of selection rest = option_map (λ (text : List ℕ). (told_text selection text).octets) rest

module _ {F I : Type 0} (files : F → Option (List ℕ)) (input : I → Option (List ℕ)) where
  -- a capture of this name tells these octets, where they are known: those that some file or standard input has left, of the
  -- interfaces that the name asks for
  pub record IsOpened (name : List ℕ) (told : Option (List ℕ)) : Type 0 where
    pub device : Device F I
    pub selection : Selection
    pub asked : IsAsked (interface_of name) selection
    pub told_is : told ≡ told_of selection (left_in files input device)

  -- there is one of each of these names
  abbrev pub AreOpened : List (Bor (List ℕ)) → List Stream → Type 0
  AreOpened names captures = AllZip (λ (name : Bor (List ℕ)) (capture : Stream). IsOpened name.now capture.supply.rest) names captures
