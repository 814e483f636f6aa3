-- What is read of bytes is a prefix, and is spelled so.
use Rattle.gr_model.proofs.Common.{◌≡◌, ℕ, zero, suc, ◌<◌, ◌≤◌, Bool, true, false, List, [], ◌∷◌, ◌++◌, length, take, drop, Ok, refl, ap, append_assoc, arith, take-append-drop, append-nil, length-take, get_or-take, get_or_past, take-take, nat_tests}
use Rattle.gr_record.specs.Prelude.{Event, Header, Stop, Inside, AtEnd, AtFault, HEADER_LENGTH, record_length, events_of, sited, all_sited, events_spelling, header_at, event_at, Records, records_at, records_of, AreBytes, read_from, Runs, ReadPrefixIsSpelled, Version}
use Rattle.gr_model.specs.Prelude.{is_end, is_complete}
use Rattle.gr_record.proofs.Loop.{short}
use Rattle.gr_record.proofs.Places.{bytes_drop}
use Rattle.gr_record.proofs.Found.{read_is_spelled, read_header_is_spelled}

pub bytes_take : (n : ℕ) (bytes : List ℕ) → AreBytes bytes → AreBytes (take n bytes)
bytes_take n bytes h i = grind (arith, get_or-take n bytes i 0, get_or_past (take n bytes) i 0, length-take n bytes, h i)

-- ---- records

abbrev pub is_at_end : Stop → Bool
is_at_end Inside = false
is_at_end AtEnd = true
is_at_end (AtFault e) = false

-- what is read is spelled so, and ends where reading stops at an end
pub record Found (h : Header) (most : ℕ) (bytes : List ℕ) (r : Records) : Type 0 where
  pub parts : bytes ≡ events_spelling h.version (all_sited h.version r.events bytes) ++ r.rest
  pub runs : Runs h (all_sited h.version r.events bytes)
  pub few : length (all_sited h.version r.events bytes) ≤ most
  pub complete : is_complete r.events ≡ is_at_end r.stop
  pub short : r.stop ≡ Inside → length r.rest < record_length h.version

-- the records that are read with their sites are those that are read
pub events_sited : (v : Version) (es : List Event) (bytes : List ℕ) → events_of (all_sited v es bytes) ≡ es
events_sited v [] bytes = refl
events_sited v (e ∷ es) bytes = ap (λ (x : List Event). e ∷ x) (events_sited v es (drop (record_length v) bytes))

pub complete_behind : (e : Event) (es : List Event) → is_end e ≡ false → is_complete (e ∷ es) ≡ is_complete es
complete_behind e [] on = on
complete_behind e (f ∷ es) on = refl

module _ (h : Header) where
  abbrev size : ℕ
  size = record_length h.version

  none_found : (bytes : List ℕ) → Found h 0 bytes (records_of h 0 bytes)
  unfolding records_at
  none_found bytes = grind (arith, nat_tests)

  more_found : (most : ℕ) (bytes : List ℕ) → AreBytes bytes → Found h most (drop size bytes) (records_of h most (drop size bytes)) → Found h (suc most) bytes (records_of h (suc most) bytes)
  unfolding records_at
  more_found most bytes fits found =
      let one = λ (e : Event) (long : size ≤ length bytes) (is : event_at h (take size bytes) ≡ Ok e). rw (take-take size size bytes (omega arith)) at (read_is_spelled h e (take size bytes) (bytes_take size bytes fits) (omega (arith, length-take size bytes)) is) in
      grind (arith, nat_tests, one, take-append-drop size bytes, append_assoc, append-nil, complete_behind, found.parts, found.runs, found.few, found.complete, found.short)

  pub records_found : (most : ℕ) (bytes : List ℕ) → AreBytes bytes → Found h most bytes (records_of h most bytes)
  records_found zero bytes fits = none_found bytes
  records_found (suc most) bytes fits = more_found most bytes fits (records_found most (drop size bytes) (bytes_drop size bytes fits))

-- ---- a header and its records

pub read_prefix_is_spelled : ReadPrefixIsSpelled
unfolding read_from
read_prefix_is_spelled limit bytes fits =
    let head = λ (h : Header) (long : HEADER_LENGTH ≤ length bytes) (is : header_at (take HEADER_LENGTH bytes) ≡ Ok h). rw (take-take HEADER_LENGTH HEADER_LENGTH bytes (omega arith)) at (read_header_is_spelled h (take HEADER_LENGTH bytes) (bytes_take HEADER_LENGTH bytes fits) (omega (arith, length-take HEADER_LENGTH bytes)) is) in
    let found = λ (h : Header). records_found h limit (drop HEADER_LENGTH bytes) (bytes_drop HEADER_LENGTH bytes fits) in
    grind (arith, nat_tests, head, found, events_sited, take-append-drop HEADER_LENGTH bytes, append_assoc)
