-- What is read is in range, and is spelled so.
use Rattle.gr_model.proofs.Common.{◌≡◌, ℕ, zero, suc, ◌+◌, ◌*◌, ◌/◌, ◌%◌, ◌<◌, ◌≤◌, true, false, cond, List, [], ◌∷◌, length, take, drop, ◌++◌, sym, Option, Some, None, Ok, Err, refl, subst, ◌∙◌, arith, nat_lt, nat_le, ◌==◌, ◌||◌, not, slice_index, leb-false, not-false, nat_tests, take-append-drop, take-take, drop-take, length-drop}
use Rattle.gr_record.specs.Prelude.{Event, Header, Version, places, has_sites, record_length, most_groups, most_items, kind_bytes, names_bytes, version_byte, header_spelling, IsHeader, IsSite, field, site_at, is_field_ok, kind_of, space_at, names_at, bad_field_from, is_order_ok, is_naming_ok, event_at, version_of, header_behind, header_at, AreBytes, ReadIsSpelled, ReadHeaderIsSpelled}
use Rattle.gr_model.specs.Prelude.{IsKindOk, IsEventOk}
use Rattle.gr_record.specs.declared.error.RecordError.TheVariants as errors
use Rattle.gr_record.proofs.Fields.{all_pass}
use Rattle.gr_record.proofs.Judging.{passed}
use Rattle.gr_record.proofs.Places.{bytes_drop, fields_and_names, names_prefix, names_few, naming_found}
use Rattle.gr_record.proofs.Numbers.{two, four}

-- what the bytes of a record say
abbrev said : Header → List ℕ → Event
said h bytes = record { item = field 4 2 bytes; kind = kind_of bytes; space = space_at bytes; word = field 8 4 bytes; names = names_at h.version bytes }

-- what is known of a record that is read
record Accepted (h : Header) (bytes : List ℕ) (e : Event) : Type 0 where
  kind : nat_lt 6 (slice_index bytes 0) ≡ false
  fields : (p : ℕ) → 1 ≤ p → p < 12 → is_field_ok h.version (slice_index bytes 0) p (slice_index bytes p) ≡ true
  order : not (is_order_ok (kind_of bytes)) ≡ false
  naming : is_naming_ok h.version (kind_of bytes) (names_at h.version bytes) ≡ true
  item : nat_le h.items (field 4 2 bytes) ≡ false
  same : said h bytes ≡ e

accepted : (h : Header) (bytes : List ℕ) (e : Event) → event_at h bytes ≡ Ok e → Accepted h bytes e
unfolding event_at bad_field_from
accepted h bytes e is =
    let p = passed _ _ _ _ _ _ _ e is in
    record { kind = p.0; fields = all_pass (λ p. is_field_ok h.version (slice_index bytes 0) p (slice_index bytes p)) 1 11 p.1; order = p.2; naming = p.3; item = p.4; same = p.5 }

-- the first four bytes
kind_found : (v : Version) (b0 b1 b2 b3 : ℕ) (rest : List ℕ) → nat_lt 6 b0 ≡ false → is_field_ok v b0 1 b1 ≡ true → is_field_ok v b0 2 b2 ≡ true → is_field_ok v b0 3 b3 ≡ true
    → kind_bytes (kind_of (b0 ∷ b1 ∷ b2 ∷ b3 ∷ rest)) (space_at (b0 ∷ b1 ∷ b2 ∷ b3 ∷ rest)) ≡ b0 ∷ b1 ∷ b2 ∷ b3 ∷ []
unfolding kind_of space_at
kind_found v (suc (suc (suc (suc (suc (suc zero)))))) b1 b2 b3 rest k p q r = grind (arith, nat_tests)
kind_found v b0 b1 b2 b3 rest k p q r = grind (arith, nat_tests)

-- the bytes after the first twelve
names_taken : (v : Version) (bytes : List ℕ) → AreBytes bytes → record_length v ≤ length bytes → take (record_length v) bytes ≡ take 12 bytes ++ names_bytes (places v) (names_at v bytes)
names_taken v bytes fits long =
    let n = names_prefix (places v) (drop 12 bytes) (bytes_drop 12 bytes fits) (omega (arith, length-drop 12 bytes, fields_and_names v)) in
    rw (← fields_and_names v) (sym (take-append-drop 12 (take (12 + 8 * places v) bytes)) ∙ rw (take-take 12 (12 + 8 * places v) bytes (omega arith), drop-take 12 (8 * places v) bytes, n) refl)

-- the site that is read has these bytes
site_found : (v : Version) (b0 b1 b2 b3 b4 b5 b6 b7 : ℕ) (rest : List ℕ) → b6 < 256 → b7 < 256 → ((b6 == 0) || has_sites v) ≡ true → ((b7 == 0) || has_sites v) ≡ true
    → let site = site_at v (b0 ∷ b1 ∷ b2 ∷ b3 ∷ b4 ∷ b5 ∷ b6 ∷ b7 ∷ rest) in (site % 256 ≡ b6) × (site / 256 % 256 ≡ b7) × IsSite v site
unfolding site_at
site_found v b0 b1 b2 b3 b4 b5 b6 b7 rest f g six seven = grind (arith, nat_tests, two b6 b7 f g)

-- the kind may have what it has: an end has no item and no word
kind_ok : (v : Version) (b0 b1 b2 b3 b4 b5 b6 b7 b8 b9 b10 b11 : ℕ) (rest : List ℕ) → nat_lt 6 b0 ≡ false
    → is_field_ok v b0 4 b4 ≡ true → is_field_ok v b0 5 b5 ≡ true → is_field_ok v b0 8 b8 ≡ true → is_field_ok v b0 9 b9 ≡ true → is_field_ok v b0 10 b10 ≡ true → is_field_ok v b0 11 b11 ≡ true
    → let bytes = b0 ∷ b1 ∷ b2 ∷ b3 ∷ b4 ∷ b5 ∷ b6 ∷ b7 ∷ b8 ∷ b9 ∷ b10 ∷ b11 ∷ rest in is_order_ok (kind_of bytes) ≡ true → IsKindOk (kind_of bytes) (field 4 2 bytes) (space_at bytes) (field 8 4 bytes)
unfolding kind_of space_at
kind_ok v b0 b1 b2 b3 b4 b5 b6 b7 b8 b9 b10 b11 rest k p4 p5 p8 p9 p10 p11 o = grind (arith, nat_tests)

said_ok : (h : Header) (bytes : List ℕ) (e : Event) → record_length h.version ≤ length bytes → Accepted h bytes e → IsEventOk (said h bytes) h.items
said_ok h (b0 ∷ b1 ∷ b2 ∷ b3 ∷ b4 ∷ b5 ∷ b6 ∷ b7 ∷ b8 ∷ b9 ∷ b10 ∷ b11 ∷ rest) e len a =
    (leb-false _ _ a.item, (naming_found h.version _ _ a.naming).0, grind (arith, kind_ok h.version b0 b1 b2 b3 b4 b5 b6 b7 b8 b9 b10 b11 rest, a.kind, a.fields 4, a.fields 5, a.fields 8, a.fields 9, a.fields 10, a.fields 11, not-false _ a.order))
said_ok h _ e len a = absurd (omega (arith, fields_and_names h.version))

-- what is read is a record that the group may have
pub read_is_ok : (h : Header) (e : Event) (bytes : List ℕ) → record_length h.version ≤ length bytes → event_at h bytes ≡ Ok e → IsEventOk e h.items
read_is_ok h e bytes len is = let a = accepted h bytes e is in subst (λ (x : Event). IsEventOk x h.items) a.same (said_ok h bytes e len a)

pub read_is_spelled : ReadIsSpelled
read_is_spelled h e (b0 ∷ b1 ∷ b2 ∷ b3 ∷ b4 ∷ b5 ∷ b6 ∷ b7 ∷ b8 ∷ b9 ∷ b10 ∷ b11 ∷ rest) fits len is =
    let bytes : List ℕ = b0 ∷ b1 ∷ b2 ∷ b3 ∷ b4 ∷ b5 ∷ b6 ∷ b7 ∷ b8 ∷ b9 ∷ b10 ∷ b11 ∷ rest in
    let a = accepted h bytes e is in
    let k = kind_found h.version b0 b1 b2 b3 (b4 ∷ b5 ∷ b6 ∷ b7 ∷ b8 ∷ b9 ∷ b10 ∷ b11 ∷ rest) a.kind (a.fields 1 (omega arith) (omega arith)) (a.fields 2 (omega arith) (omega arith)) (a.fields 3 (omega arith) (omega arith)) in
    let n = names_taken h.version bytes fits len in
    let i = two b4 b5 (fits 4) (fits 5) in
    let w = four b8 b9 b10 b11 (fits 8) (fits 9) (fits 10) (fits 11) _ refl in
    let s = site_found h.version b0 b1 b2 b3 b4 b5 b6 b7 (b8 ∷ b9 ∷ b10 ∷ b11 ∷ rest) (fits 6) (fits 7) (a.fields 6 (omega arith) (omega arith)) (a.fields 7 (omega arith) (omega arith)) in
    rw (← a.same) (
      n ∙ rw (k, s.0, s.1, i.0, i.1, w.0, w.1, w.2, w.3) refl,
      record { event = record { ok = said_ok h bytes e len a; word = omega (arith, fits 8, fits 9, fits 10, fits 11) }; names = names_few (places h.version) rest; range = (naming_found h.version _ _ a.naming).1; site = s.2 },
    )
read_is_spelled h e _ fits len is = absurd (omega (arith, fields_and_names h.version))

-- ---- headers

-- the four bytes of a version
version_found : (n : ℕ) (v : Version) → version_of n ≡ Some v → (n ≡ 5526087 + 16777216 * version_byte v) × (version_byte v < 256)
version_found n v e = grind (arith, nat_tests)

-- what a header says that is in range
header_found : (v : Version) (g h : Header) → cond (nat_le (most_groups v) g.group || (g.items == 0) || nat_lt (most_items v) g.items) (Err errors.BadHeader) (Ok g) ≡ Ok h → (g ≡ h) × (g.group < most_groups v) × (1 ≤ g.items) × (g.items ≤ most_items v)
header_found v g h e = grind (arith, nat_tests)

pub read_header_is_spelled : ReadHeaderIsSpelled
unfolding header_at
read_header_is_spelled h (b0 ∷ b1 ∷ b2 ∷ b3 ∷ b4 ∷ b5 ∷ b6 ∷ b7 ∷ b8 ∷ b9 ∷ b10 ∷ b11 ∷ rest) fits len e = by_version (version_of (field 0 4 bytes)) refl e
  where
    bytes : List ℕ
    bytes = b0 ∷ b1 ∷ b2 ∷ b3 ∷ b4 ∷ b5 ∷ b6 ∷ b7 ∷ b8 ∷ b9 ∷ b10 ∷ b11 ∷ rest

    by_version : (v : Option Version) → version_of (field 0 4 bytes) ≡ v → header_behind v bytes ≡ Ok h → (take 12 bytes ≡ header_spelling h) × IsHeader h
    by_version None is k = absurd cc
    by_version (Some v) is k =
        let r = header_found v (record { version = v; group = field 4 2 bytes; items = field 6 2 bytes; launch = field 8 4 bytes }) h k in
        let n = version_found (b0 + 256 * (b1 + 256 * (b2 + 256 * (b3 + 0)))) v is in
        let g : (b0 ≡ 71) × (b1 ≡ 82) × (b2 ≡ 84) × (b3 ≡ version_byte v) = omega (arith, n.0, n.1, fits 0, fits 1, fits 2, fits 3) in
        let i = two b4 b5 (fits 4) (fits 5) in
        let j = two b6 b7 (fits 6) (fits 7) in
        let w = four b8 b9 b10 b11 (fits 8) (fits 9) (fits 10) (fits 11) _ refl in
        rw (← r.0) (
          rw (g.0, g.1, g.2, g.3, i.0, i.1, j.0, j.1, w.0, w.1, w.2, w.3) refl,
          record { group = r.1; some = r.2; items = r.3; launch = omega (arith, fits 8, fits 9, fits 10, fits 11) },
        )
read_header_is_spelled h _ fits len e = absurd (omega arith)
