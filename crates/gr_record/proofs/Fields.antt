-- The fields of a record, place by place.
use Rattle.gr_model.proofs.Common.{◌≡◌, ℕ, zero, suc, ◌+◌, ◌<◌, ◌≤◌, Bool, true, false, List, None, arith, slice_index, not, ◌==◌, ◌||◌, get_or-drop, nat_tests, range_with_len}
use Rattle.std.specs.List.{find}
use Rattle.gr_record.specs.Prelude.{Version, has_sites, field, is_field_ok, bad_field, bad_field_from}

-- both bytes of a number that is 0
site_zero : (bytes : List ℕ) → field 6 2 bytes ≡ 0 → (slice_index bytes 6 ≡ 0) × (slice_index bytes 7 ≡ 0)
site_zero bytes none = grind (arith, get_or-drop 6 bytes 0 0, get_or-drop 6 bytes 1 0)

-- of a record that is no end three bytes and the site decide
pub no_bad_field : (v : Version) (bytes : List ℕ) → (slice_index bytes 0 == 6) ≡ false
    → is_field_ok v (slice_index bytes 0) 1 (slice_index bytes 1) ≡ true → is_field_ok v (slice_index bytes 0) 2 (slice_index bytes 2) ≡ true → is_field_ok v (slice_index bytes 0) 3 (slice_index bytes 3) ≡ true
    → ((field 6 2 bytes == 0) || has_sites v) ≡ true
    → bad_field v bytes ≡ None
unfolding bad_field_from
no_bad_field v bytes more one two three site = grind (arith, nat_tests, site_zero bytes)

-- each of n places passes a test that none fails
pub all_pass : (test : ℕ → Bool) (place n : ℕ) → find (λ p. not (test p)) (range_with_len place n) ≡ None → (p : ℕ) → place ≤ p → p < place + n → test p ≡ true
all_pass test place zero none p ge lt = absurd (omega arith)
all_pass test place (suc n) none p ge lt = grind (arith, all_pass test (place + 1) n)
