-- A list of the places that a frame leaves by. It states no standard.
use Rattle.std.specs.Prelude.{List}
use Rattle.filter_db.specs.declared.place.Place.{Place}

-- the places, in order
pub record Outlets : Type 0 where
  pub items : List Place
