-- What is spelled is read again, whatever follows it.
use Rattle.gr_model.proofs.Common.{◌≡◌, ℕ, ◌+◌, ◌*◌, ◌/◌, ◌%◌, ◌<◌, ◌≤◌, true, List, [], ◌∷◌, ◌++◌, length, drop, Some, Ok, refl, ap, ap₂, arith, All, ◌==◌, ◌||◌, drop_at, length-append, lt-leb, nat_tests}
use Rattle.gr_record.specs.Prelude.{Event, Kind, End, Name, Space, Header, Version, places, has_sites, record_length, Sited, IsSite, kind_bytes, names_bytes, version_byte, event_spelling, bad_field_from, kind_of, space_at, names_in, naming, version_of, event_at, site_at, header_at, SpelledIsRead, SpelledHeaderIsRead, NoSpellingBeginsAnother}
use Rattle.gr_model.specs.Prelude.{IsNamingOk, IsKindOk}
use Rattle.gr_record.proofs.Places.{fields_and_names, groups_within, items_within, names_length, names_again, naming_back, each_in_range, IsNameOf}
use Rattle.gr_record.proofs.Numbers.{two_again, four_again, space_back, scope_back, order_back}

pub kind_length : (kind : Kind) (space : Space) → length (kind_bytes kind space) ≡ 4
kind_length kind space = grind arith

-- a site fits into its bytes
site_fits : (v : Version) (site : ℕ) → IsSite v site → (((site % 256 == 0) || has_sites v) ≡ true) × (((site / 256 % 256 == 0) || has_sites v) ≡ true)
site_fits v site ok = grind (arith, nat_tests)

-- and is read from them
site_read : (v : Version) (site : ℕ) (four word names rest : List ℕ) (b4 b5 : ℕ) → length four ≡ 4 → IsSite v site → site_at v (four ++ (b4 ∷ b5 ∷ []) ++ ((site % 256) ∷ (site / 256 % 256) ∷ []) ++ word ++ names ++ rest) ≡ site
unfolding site_at
site_read v site (b0 ∷ b1 ∷ b2 ∷ b3 ∷ []) word names rest b4 b5 len ok = grind (arith, two_again site ok.0)
site_read v site _ word names rest b4 b5 len ok = absurd (omega arith)

module _ (h : Header) (most : h.items ≤ 1024) (rest : List ℕ) (site : ℕ) (ok_site : IsSite h.version site) where
  -- the names that are read after the fields
  names_read : (kind : Kind) (names : List Name) → length names ≤ places h.version → IsNamingOk kind names → All (IsNameOf h.version) names → naming h.version kind (names_in (places h.version) (names_bytes (places h.version) names ++ rest)) ≡ Some names
  names_read kind names few ok range = rw (names_again (places h.version) names rest few (each_in_range kind names ok), naming_back h.version kind names ok range) refl

  again : (item word : ℕ) (kind : Kind) (space : Space) (names : List Name) → length names ≤ places h.version → item < h.items → word < 4294967296 → IsNamingOk kind names → All (IsNameOf h.version) names → IsKindOk kind item space word
      → event_at h (event_spelling h.version (record { event = record { item = item; kind = kind; space = space; word = word; names = names }; site = site }) ++ rest) ≡ Ok (record { item = item; kind = kind; space = space; word = word; names = names })
  unfolding event_at bad_field_from kind_of space_at
  again item word (End cut) space names few lt fits named range ok = grind (arith, nat_tests, names_read (End cut) names few named range)
  again item word kind space names few lt fits named range ok =
      let s = site_fits h.version site ok_site in
      grind (arith, nat_tests, s.0, s.1, space_back, scope_back, order_back, names_read kind names few named range, two_again item, four_again word, lt-leb h.items item lt)

pub spelled_is_read : SpelledIsRead
spelled_is_read h r rest most fits =
    let e = r.event in (
      again h most rest r.site fits.site e.item e.word e.kind e.space e.names fits.names fits.event.ok.0 fits.event.word fits.event.ok.1 fits.range fits.event.ok.2,
      site_read h.version r.site (kind_bytes e.kind e.space) _ _ rest _ _ (kind_length e.kind e.space) fits.site,
    )

version_again : (v : Version) → version_of (71 + 256 * (82 + 256 * (84 + 256 * (version_byte v + 0)))) ≡ Some v
version_again v = grind arith

pub spelled_header_is_read : SpelledHeaderIsRead
unfolding header_at
spelled_header_is_read h rest fits =
    let groups = groups_within h.version in
    let items = items_within h.version in
    grind (arith, nat_tests, version_again h.version, two_again h.group, two_again h.items, four_again h.launch)

-- a spelling has as many bytes as a record
pub spelling_length : (v : Version) (r : Sited) → length (event_spelling v r) ≡ record_length v
spelling_length v r =
    let k = kind_length r.event.kind r.event.space in
    let n = names_length (places v) r.event.names in
    let l = fields_and_names v in
    simp length-append (omega arith)

pub no_spelling_begins_another : NoSpellingBeginsAnother
no_spelling_begins_another h a b x y most ok_a ok_b e =
    let n = record_length h.version in
    let again_a = spelled_is_read h a x most ok_a in
    let again_b = spelled_is_read h b y most ok_b in
    let event : a.event ≡ b.event = cc (again_a.0, again_b.0) in
    let site : a.site ≡ b.site = cc (again_a.1, again_b.1) in (
      ap₂ (λ (z : Event) (s : ℕ). record { event = z; site = s }) event site,
      rw (drop_at (event_spelling h.version a) x n (spelling_length h.version a), drop_at (event_spelling h.version b) y n (spelling_length h.version b)) at (ap (drop n) e),
    )
