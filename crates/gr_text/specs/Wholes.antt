-- Whole streams, as bytes and as text, and that what is accepted is such streams.
-- Source: docs/FORMATS.md, "Stream" and "Text form".
use Rattle.std.specs.Prelude.{◌≡◌, ◌⊎◌, ℕ, List, [], ◌∷◌, ◌++◌, map, All, Ok, IsTrue}
use Rattle.std.specs.List.{flat_map}
use Rattle.gr_text.specs.Types.{MOST_RECORDS}
use Rattle.gr_model.specs.Prelude.{is_complete}
use Rattle.gr_record.specs.Prelude.{IsPrefix, AreBytes, events_of, stream_spelling}
use Rattle.gr_text.specs.Texts.{packed, whole_line}
use Rattle.gr_text.specs.Dumps.{WholeStream, parts_in, dumped, upgraded, upgraded_header}

-- all in range and not too many, and the last record is an end, and no other
pub record IsWhole (s : WholeStream) : Type 0 where
  pub prefix : IsPrefix MOST_RECORDS s.header s.records
  pub ended : IsTrue (is_complete (events_of s.records))

-- the bytes of streams, one after another
abbrev pub bytes_of : List WholeStream → List ℕ
bytes_of ss = flat_map (λ s. stream_spelling s.header s.records) ss

-- their text
abbrev pub text_of : List WholeStream → List ℕ
text_of ss = flat_map whole_line (flat_map parts_in ss)

-- a text of these streams: its last line feed may be missing
abbrev pub IsTextOf : List WholeStream → List ℕ → Type 0
IsTextOf ss text = (text ≡ text_of ss) ⊎ (text ++ 10 ∷ [] ≡ text_of ss)

-- bytes that are dumped are those of whole streams, and what is written is the text of these
abbrev pub DumpedAreStreams : Type 0
DumpedAreStreams = (bytes text : List ℕ) → AreBytes bytes → dumped bytes ≡ Ok text → (ss : List WholeStream) × All IsWhole ss × (bytes ≡ bytes_of ss) × (text ≡ text_of ss)

-- a text that is packed is one of whole streams, and what is written is the bytes of these
abbrev pub PackedAreStreams : Type 0
PackedAreStreams = (text bytes : List ℕ) → packed text ≡ Ok bytes → (ss : List WholeStream) × All IsWhole ss × IsTextOf ss text × (bytes ≡ bytes_of ss)

-- the bytes of whole streams are dumped
abbrev pub WholeStreamsAreDumped : Type 0
WholeStreamsAreDumped = (ss : List WholeStream) → All IsWhole ss → dumped (bytes_of ss) ≡ Ok (text_of ss)

-- what is packed is dumped again as the text that it was, with its last line feed
abbrev pub PackedIsDumpedAgain : Type 0
PackedIsDumpedAgain = (text bytes : List ℕ) → packed text ≡ Ok bytes → (again : List ℕ) × (dumped bytes ≡ Ok again) × ((text ≡ again) ⊎ (text ++ 10 ∷ [] ≡ again))

-- the text of whole streams is packed
abbrev pub WholeStreamsArePacked : Type 0
WholeStreamsArePacked = (ss : List WholeStream) → All IsWhole ss → packed (text_of ss) ≡ Ok (bytes_of ss)

-- what is dumped is packed again as the bytes that it was
abbrev pub DumpedIsPackedAgain : Type 0
DumpedIsPackedAgain = (bytes text : List ℕ) → AreBytes bytes → dumped bytes ≡ Ok text → packed text ≡ Ok bytes

-- ---- the same streams, upgraded

-- a stream with the same group, items and launch, and the same records with their sites
abbrev pub upgraded_stream : WholeStream → WholeStream
upgraded_stream s = record { header = upgraded_header s.header; records = s.records }

-- bytes that are upgraded are those of whole streams, and what is written is the bytes of the same streams, upgraded
abbrev pub UpgradedAreStreams : Type 0
UpgradedAreStreams = (bytes out : List ℕ) → AreBytes bytes → upgraded bytes ≡ Ok out → (ss : List WholeStream) × All IsWhole ss × (bytes ≡ bytes_of ss) × All IsWhole (map upgraded_stream ss) × (out ≡ bytes_of (map upgraded_stream ss))

-- the bytes of whole streams are upgraded
abbrev pub WholeStreamsAreUpgraded : Type 0
WholeStreamsAreUpgraded = (ss : List WholeStream) → All IsWhole ss → upgraded (bytes_of ss) ≡ Ok (bytes_of (map upgraded_stream ss))

-- what was upgraded stays as it is
abbrev pub UpgradedStays : Type 0
UpgradedStays = (bytes out : List ℕ) → AreBytes bytes → upgraded bytes ≡ Ok out → upgraded out ≡ Ok out
