-- The headers of streams with an input each, before any record is read, and the launch that the headers are of.
-- Source: docs/FORMATS.md, "Several streams".
use Rattle.std.specs.Prelude.{◌≡◌, ◌≢◌, ℕ, List, [], ◌∷◌, ◌++◌, map, AllPairs, Result, Ok}
use Rattle.gr_streams.specs.Types.{Header, Fault, Event}
use Rattle.gr_intake.specs.Launch.{IsLaunchOf}
use Rattle.gr_intake.specs.Joined.{Flat, ◌>>=◌, header_after}
use Rattle.gr_model.specs.Prelude.{Streams}

-- these headers, and those of the inputs
unfoldable pub headers_behind : List Header → List (List ℕ) → Result (List Header) Fault
headers_behind seen [] = Ok seen
headers_behind seen (bytes ∷ inputs) = header_after seen bytes >>= λ h. headers_behind (seen ++ h.0 ∷ []) inputs

abbrev pub headers_of : List (List ℕ) → Result (List Header) Fault
headers_of inputs = headers_behind [] inputs

-- a stream of which nothing but the header is known
abbrev pub bare : Header → Flat
bare h = record { header = h; events = [] }

abbrev pub bares : List Header → List Flat
bares hs = map bare hs

-- headers of different groups
abbrev pub AreApart : List Header → Type 0
AreApart hs = AllPairs (λ g h. g.group ≢ h.group) hs

-- the headers are of a launch whose groups have these sizes
abbrev pub AreHeadersOf : List Header → List ℕ → Type 0
AreHeadersOf hs sizes = (s : Streams) × IsLaunchOf (bares hs) s × (s.sizes ≡ sizes)

-- streams of these headers and records
abbrev pub streams_with : List Header → List (List Event) → List Flat
streams_with [] lists = []
streams_with (h ∷ hs) [] = []
streams_with (h ∷ hs) (events ∷ lists) = record { header = h; events = events } ∷ streams_with hs lists
