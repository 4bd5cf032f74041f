-- The keys of `port.k`. It states no standard.
use Rattle.std.specs.Prelude.{ℕ, List, [], ◌∷◌, true, Ok, codes}
use Rattle.overlay.specs.declared.ports.port.Accept.{Accept}
use Rattle.overlay.specs.declared.ports.port.Accept.TheVariants.{All, Tagged, Untagged}
use Rattle.overlay.specs.declared.ports.port.PortRule.{PortRule}
use Rattle.config_text.specs.Fault.{Meaning, ◌>>=◌}
use Rattle.config_text.specs.Column.{range, truth, one_of}
use Rattle.config_text.specs.Table.{Place, only, required, defaulted}

-- the words of the frame types that a port accepts
abbrev pub accept_words : List (List ℕ × Accept)
accept_words = (codes "all", All) ∷ (codes "tagged", Tagged) ∷ (codes "untagged", Untagged) ∷ []

-- the keys of a port
abbrev pub port_keys : List (List ℕ)
port_keys = codes "pvid" ∷ codes "accept" ∷ codes "up" ∷ []

-- what the table of a port means
unfoldable pub port_of : Place → Meaning PortRule
port_of at = do
  known ← only at port_keys
  pvid ← required at (codes "pvid") (range 1 4094)
  accept ← defaulted at (codes "accept") (one_of accept_words) All
  up ← defaulted at (codes "up") truth true
  Ok (record { pvid = pvid; accept = accept; up = up })
