-- What is spelled is read: a header and the records of its stream.
use Rattle.gr_model.proofs.Common.{nat_tests, ◌≡◌, ℕ, zero, suc, ◌≤◌, List, [], ◌∷◌, ◌++◌, length, Ok, refl, sym, ap, ◌∙◌, append_assoc, arith, take_at, drop_at, length-append, append-nil}
use Rattle.gr_record.specs.Prelude.{MOST_ITEMS_OF_A_GROUP, Header, record_length, event_spelling, events_spelling, Sited, events_of, all_sited, event_at, site_at, Records, records_of, read_from, Runs, stop_after, SpelledPrefixIsRead}
use Rattle.gr_record.proofs.Places.{fields_and_names, header_items}
use Rattle.gr_record.proofs.Loop.{short, next}
use Rattle.gr_record.proofs.FoundPrefixes.{complete_behind}
use Rattle.gr_record.proofs.Spelled.{spelled_is_read, spelled_header_is_read, spelling_length}

abbrev pub Spelled : List Sited → Records
Spelled rs = record { events = events_of rs; rest = []; stop = stop_after (events_of rs) }

module _ (h : Header) (few : h.items ≤ MOST_ITEMS_OF_A_GROUP) where
  abbrev size : ℕ
  size = record_length h.version

  pub records_spelled : (rs : List Sited) (most : ℕ) → Runs h rs → length rs ≤ most → records_of h most (events_spelling h.version rs) ≡ Spelled rs
  records_spelled [] most runs le = short size (event_at h) most [] (omega (arith, fields_and_names h.version))
  records_spelled (r ∷ rs) zero runs le = absurd (omega arith)
  records_spelled (r ∷ rs) (suc most) runs le =
      let e = r.event in
      let len = spelling_length h.version r in
      let prefix : List ℕ = event_spelling h.version r in
      let rest : List ℕ = events_spelling h.version rs in
      let long : size ≤ length (prefix ++ rest) = omega (arith, length-append prefix rest, len) in
      let is : event_at h prefix ≡ Ok e = rw (append-nil prefix) at (spelled_is_read h r [] few runs.0).0 in
      let here = rw (take_at prefix rest size len, is, drop_at prefix rest size len) at (next size (event_at h) most (prefix ++ rest) long) in
      grind (arith, here, complete_behind e (events_of rs), records_spelled rs most runs.2 (omega arith), runs.1)

  -- the sites are read too
  pub sites_spelled : (rs : List Sited) (rest : List ℕ) → Runs h rs → all_sited h.version (events_of rs) (events_spelling h.version rs ++ rest) ≡ rs
  sites_spelled [] rest runs = refl
  sites_spelled (r ∷ rs) rest runs =
      let prefix : List ℕ = event_spelling h.version r in
      let more : List ℕ = events_spelling h.version rs ++ rest in
      let len = spelling_length h.version r in
      let site : site_at h.version prefix ≡ r.site = rw (append-nil prefix) at (spelled_is_read h r [] few runs.0).1 in
      let ih = sites_spelled rs rest runs.2 in
      rw (append_assoc prefix (events_spelling h.version rs) rest, take_at prefix more size len, drop_at prefix more size len, site, ih) refl

pub spelled_prefix_is_read : SpelledPrefixIsRead
unfolding read_from
spelled_prefix_is_read limit h rs prefix =
    let items = header_items h prefix.header in
    let records = records_spelled h items rs limit prefix.runs prefix.few in (
      grind (arith, nat_tests, spelled_header_is_read h [] prefix.header, records),
      ap (all_sited h.version (events_of rs)) (sym (append-nil (events_spelling h.version rs))) ∙ sites_spelled h items rs [] prefix.runs,
    )
