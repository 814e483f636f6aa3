-- What side files say of a word and of an event.
-- Source: docs/FORMATS.md, "Side files".
use Rattle.std.specs.Prelude.{List, map}
use Rattle.gr_places.specs.SideLines as lines
use Rattle.gr_places.specs.declared.sides.Sides.{Sides}

-- what the lines of a file of places and of one of buffers say
pub record SidesSaid : Type 0 where
  pub places : List lines.PlaceSaid
  pub buffers : List lines.BufferSaid

abbrev pub sides_said : Sides → SidesSaid
sides_said s = record { places = map lines.place_line s.places.now; buffers = map lines.buffer_line s.buffers.now }
