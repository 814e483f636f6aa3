-- Records with their sites in the source.
-- Source: docs/FORMATS.md, "Stream".
use Rattle.std.specs.Prelude.{◌≡◌, ℕ, ◌<◌, ◌^◌, List, [], ◌∷◌, map, take, drop, IsFalse}
use Rattle.gr_record.specs.Types.{Event, Version}
use Rattle.gr_record.specs.Versions.{has_sites, record_length}
use Rattle.gr_record.specs.Reading.{site_at}

-- a record, and the number of its site
pub record Sited : Type 0 where
  pub event : Event
  pub site : ℕ

-- a record that says no site
abbrev pub unsited : Event → Sited
unsited e = record { event = e; site = 0 }

abbrev pub events_of : List Sited → List Event
events_of rs = map (λ r. r.event) rs

-- a number of 16 bits, which is 0 in the versions whose records say no site
abbrev pub IsSite : Version → ℕ → Type 0
IsSite v site = (site < 2 ^ 16) × (IsFalse (has_sites v) → site ≡ 0)

-- a record that was read of these bytes
abbrev pub sited : Version → Event → List ℕ → Sited
sited v e bytes = record { event = e; site = site_at v bytes }

-- records that were read of these bytes, one after another
abbrev pub all_sited : Version → List Event → List ℕ → List Sited
all_sited v [] bytes = []
all_sited v (e ∷ es) bytes = sited v e (take (record_length v) bytes) ∷ all_sited v es (drop (record_length v) bytes)
