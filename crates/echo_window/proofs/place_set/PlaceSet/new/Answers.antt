use Rattle.std.proofs.Common.{[], ◌∷◌}
use Rattle.echo_window.proofs.Placing.{flags-none, zero-words}
use Rattle.echo_window.proofs.place_set.PlaceSet.new.Goals as goal

pub returns : goal.returns
returns c = flags-none (0 ∷ 0 ∷ 0 ∷ 0 ∷ []) zero-words
