-- Streams that are upgraded are whole streams, of the same groups, items, launches and records.
use Rattle.gr_model.proofs.Common.{◌≡◌, ◌≤◌, ℕ, List, [], ◌∷◌, length, map, Ok, refl, sym, ap, ap₂, ◌∙◌, arith, flat_map, All-map, flat_map-map}
use Rattle.gr_text.specs.Prelude.{Header, Version, Long, WholeStream, formed, raised, upgraded, upgraded_header, IsWhole, bytes_of, upgraded_stream, UpgradedAreStreams, WholeStreamsAreUpgraded, UpgradedStays}
use Rattle.gr_record.specs.Prelude.{has_sites, most_groups, most_items, places, Sited, stream_spelling, Runs}
use Rattle.gr_text.proofs.Streaming.{streams_found}
use Rattle.gr_text.proofs.Steps.{map_ok}
use Rattle.gr_text.proofs.SpelledStreams.{streams_before}

-- ---- an upgraded version has the same limits and sites, and room for all names

raised_is : (v : Version) → (most_groups (raised v) ≡ most_groups v) × (most_items (raised v) ≡ most_items v) × (has_sites (raised v) ≡ has_sites v) × (places v ≤ places (raised v)) × (raised (raised v) ≡ raised v)
raised_is v = grind arith

-- ---- the same streams are whole

runs_upgraded : (h : Header) (rs : List Sited) → Runs h rs → Runs (upgraded_header h) rs
runs_upgraded h [] runs = tt
runs_upgraded h (r ∷ rs) (is, last, runs) =
    let same = raised_is h.version in
    (record { event = is.event; names = omega (arith, is.names, same.3); range = rw (same.0, same.1) is.range; site = rw same.2 is.site }, last, runs_upgraded h rs runs)

whole_upgraded : (s : WholeStream) → IsWhole s → IsWhole (upgraded_stream s)
whole_upgraded s w = grind (arith, raised_is s.header.version, runs_upgraded s.header s.records w.prefix.runs)

-- ---- their bytes

streams_long : (ss : List WholeStream) → flat_map (formed Long) ss ≡ bytes_of (map upgraded_stream ss)
streams_long ss = sym (flat_map-map (λ (s : WholeStream). stream_spelling s.header s.records) upgraded_stream ss)

pub upgraded_are_streams : UpgradedAreStreams
upgraded_are_streams bytes out fits e =
    let s = map_ok _ _ out e in
    let f = streams_found (length bytes) 0 bytes fits (omega arith) s.0 s.1 in
    (s.0, f.whole, f.spelled, All-map IsWhole upgraded_stream s.0 (λ k d lt. whole_upgraded _ (f.whole k d lt)), sym s.2 ∙ streams_long s.0)

pub whole_streams_are_upgraded : WholeStreamsAreUpgraded
whole_streams_are_upgraded ss whole =
    let all = streams_before ss (length (bytes_of ss)) 0 whole (omega arith) in
    rw all (ap (λ (v : List ℕ). Ok v) (streams_long ss))

-- ---- once more

pub twice : (ss : List WholeStream) → map upgraded_stream (map upgraded_stream ss) ≡ map upgraded_stream ss
twice [] = refl
twice (s ∷ ss) = ap₂ (λ (v : Version) (rest : List WholeStream). record { header = record { version = v; group = s.header.group; items = s.header.items; launch = s.header.launch }; records = s.records } ∷ rest) ((raised_is s.header.version).4) (twice ss)

pub upgraded_stays : UpgradedStays
upgraded_stays bytes out fits e =
    let s = upgraded_are_streams bytes out fits e in
    ap upgraded s.4 ∙ whole_streams_are_upgraded (map upgraded_stream s.0) s.3 ∙ ap (λ (v : List WholeStream). Ok (bytes_of v)) (twice s.0) ∙ ap (λ (v : List ℕ). Ok v) (sym s.4)
