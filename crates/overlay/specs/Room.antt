-- Room for as many segments as the limits in force say. It serves proofs.
use Rattle.std.specs.Prelude.{◌≡◌, ℕ}
use Rattle.overlay.specs.Index.{Listed}
use Rattle.overlay.specs.Seats.{Seats}

-- there is room for so many segments with flood lists of so many entries, and in both indexes for so many VNIs
pub record HasRoomFor (most flood : ℕ) (seats : Seats) (vxlan geneve : Listed) : Type 0 where
  pub rows : seats.most ≡ most
  pub lists : seats.flood ≡ flood
  pub vxlan_places : vxlan.most ≡ most
  pub geneve_places : geneve.most ≡ most
