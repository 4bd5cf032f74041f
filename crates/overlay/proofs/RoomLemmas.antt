-- Room that stays, for as many segments as the limits say.
use Rattle.std.proofs.Common.{◌≡◌, ℕ, ap, ◌∙◌}
use Rattle.overlay.specs.Index.{Index, Listed}
use Rattle.overlay.specs.Room.{HasRoomFor}
use Rattle.overlay.specs.Seats.{Seats}

-- an index of other VIDs with the same room
pub same_listed : (vids new : Index) (most : ℕ) (old : Listed) → vids ≡ new → most ≡ old.most → (let l : Listed = record { vids = vids; most = most } in l) ≡ record old { vids = new }
same_listed vids new most old same room =
    ap (λ (m : Index). let l : Listed = record { vids = m; most = most } in l) same
    ∙ ap (λ (n : ℕ). let l : Listed = record { vids = new; most = n } in l) room

-- there is as much room as before
pub room_stays : (most flood : ℕ) (s n : Seats) (v w g h : Listed) → HasRoomFor most flood s v g → n.most ≡ s.most → n.flood ≡ s.flood → w.most ≡ v.most → h.most ≡ g.most → HasRoomFor most flood n w h
room_stays most flood s n v w g h room seats lists vxlan geneve =
    record { rows = seats ∙ room.rows; lists = lists ∙ room.lists; vxlan_places = vxlan ∙ room.vxlan_places; geneve_places = geneve ∙ room.geneve_places }
