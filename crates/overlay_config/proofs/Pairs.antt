-- Arrays of two items.
use Rattle.std.proofs.Common.{◌≡◌, ◌≢◌, List, [], ◌∷◌, length, None, refl}
use Rattle.toml.specs.View.{items_view}
use Rattle.toml.specs.declared.value.Value.{Value}
use Rattle.overlay_config.specs.Underlay.{pair_in}

-- only two items are a pair
pub pair_in_other : (vs : List Value) → length vs ≢ 2 → pair_in (items_view vs) ≡ None
pair_in_other [] h = refl
pair_in_other (v ∷ []) h = refl
pair_in_other (v ∷ w ∷ []) h = absurd (h refl)
pair_in_other (v ∷ w ∷ x ∷ vs) h = refl
