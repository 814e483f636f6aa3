-- Rows of steps, each of which may fail, and what is known where the row came to its end.
use Rattle.gr_model.proofs.Common.{◌≡◌, ◌⊎◌, ℕ, ◌-◌, ◌<◌, ◌≤◌, false, cond, List, [], ◌++◌, append-nil, append_assoc, drop, length, Option, Some, None, Result, Ok, Err, refl, arith, IfOk, nat_tests, length-set, take_more_set}
use Rattle.gr_text.specs.Prelude.{Event, RecordError, Fault, Stop, AtEnd, MOST_ITEMS_OF_A_GROUP, Header, Version, SitedLine, Place, Outside, Inside, HasRoom, record_line, lines_bytes, version_at, version_behind, record_at, line_at, at_place, behind_end}
use Rattle.gr_record.specs.declared.fault.Fault.TheVariants as faults
use Rattle.gr_record.specs.Prelude.{records_at, event_at, IsHeader, up_to, Sited, places, record_length}
use Rattle.gr_record.proofs.Found.{read_is_ok}
use Rattle.gr_record.proofs.FoundPrefixes.{is_at_end}
use Rattle.gr_record.proofs.Judging.{passed}
use Rattle.gr_record.proofs.Numbers.{one_left}
use Rattle.gr_record.proofs.Places.{header_items, names_few}
use Rattle.gr_model.specs.Prelude.{IsEventOk, is_end}
use Rattle.gr_text.specs.Texts.{◌>>=◌}
use Rattle.gr_text.proofs.Splitting.{no_line}

-- the steps of a row that gave a value, and of one that failed
pub bind_ok : {X Y : Type 0} (r : Result X Fault) (f : X → Result Y Fault) (y : Y) → (r >>= f) ≡ Ok y → (x : X) × (r ≡ Ok x) × (f x ≡ Ok y)
bind_ok (Ok x) f y e = (x, refl, e)
bind_ok (Err d) f y e = absurd cc

pub bind_err : {X Y : Type 0} (r : Result X Fault) (f : X → Result Y Fault) (d : Fault) → (r >>= f) ≡ Err d → (r ≡ Err d) ⊎ ((x : X) × (r ≡ Ok x) × (f x ≡ Err d))
bind_err r f d e = grind arith

-- and of a row whose last step cannot fail
pub map_ok : {X Y : Type 0} (r : Result X Fault) (f : X → Y) (y : Y) → (r >>= λ x. Ok (f x)) ≡ Ok y → (x : X) × (r ≡ Ok x) × (f x ≡ y)
map_ok (Ok x) f y e = (x, refl, cc)
map_ok (Err d) f y e = absurd cc

pub map_err : {X Y : Type 0} (r : Result X Fault) (f : X → Y) (d : Fault) → (r >>= λ x. Ok (f x)) ≡ Err d → r ≡ Err d
map_err r f d e = grind arith

-- records that no end follows are refused
pub up_to_err : (stop : Stop) (events : List Event) (rest : List ℕ) (d : RecordError) → up_to stop events rest ≡ Err d → (is_at_end stop ≡ false) × (behind_end stop rest ≡ None)
up_to_err stop events rest d e = grind arith

-- ---- loops that count from i to n

pub no_more : (n i : ℕ) → n ≤ i → n - i ≡ 0
no_more n i le = omega arith

-- no further record may come
pub none_left : (size : ℕ) (read : List ℕ → Result Event RecordError) (n i : ℕ) (bytes : List ℕ) → n ≤ i
    → let r = records_at size read (n - i) bytes in (r ≡ r) × (r.events ≡ []) × (behind_end r.stop r.rest ≡ None)
unfolding records_at
none_left size read n i bytes le = rw (no_more n i le) (grind arith)

-- what a loop that fills the places of an array needs of each
pub ruleset name_steps = (one_left, take_more_set, length-set, append_assoc)

-- ---- the lines that a place takes

pub each_ok : {X F : Type 0} (r : Result X F) (P : X → Type 0) → ((x : X) → r ≡ Ok x → P x) → IfOk r P
each_ok (Ok x) P each = each x refl
each_ok (Err f) P each = tt

-- a record that is read is in range; in a form that `grind` finds
names_fit : (h : Header) (bytes : List ℕ) (e : Event) → event_at h bytes ≡ Ok e → length e.names ≤ places h.version
unfolding event_at
names_fit h bytes e is = let p = passed _ _ _ _ _ _ _ e is in rw (← p.5) (names_few (places h.version) (drop 12 bytes))

pub record_told : (h : Header) (bytes : List ℕ) → IsHeader h → record_length h.version ≤ length bytes
    → (event_at h bytes ≡ event_at h bytes) × IfOk (event_at h bytes) (λ e. IsEventOk e MOST_ITEMS_OF_A_GROUP × (length e.names ≤ places h.version))
record_told h bytes header long = (
  refl,
  each_ok (event_at h bytes) _ (λ e is. let ok = read_is_ok h e bytes long is in ((omega (arith, ok.0, header_items h header), ok.1, ok.2), names_fit h bytes e is)),
)

-- what a loop over records needs of each, besides how they are read
pub ruleset record_steps = (record_told, none_left, append-nil)

-- a record that a place takes is in range, and more may come
pub record_at_ok : (n : ℕ) (h : Header) (left : ℕ) (r : Sited) (x : SitedLine × Place) → record_at n h left r ≡ Ok x
    → (r.event.item < h.items) × (length r.event.names ≤ places h.version) × (1 ≤ left) × (x ≡ (record_line r, cond (is_end r.event) Outside (Inside h (left - 1))))
record_at_ok n h left r x k = grind (arith, nat_tests)

-- what a place takes was said, has room in its stream, and leads to a place in a stream of the version after it
pub line_at_ok : (n : ℕ) (place : Place) (said : Option SitedLine) (x : SitedLine × Place) → line_at n place said ≡ Ok x → (said ≡ Some x.0) × HasRoom (version_at place) x.0.line × (version_behind (version_at place) x.0.line ≡ version_at x.1)
line_at_ok n place said x k = grind (arith, nat_tests)

-- the same in a form that `grind` finds
pub line_at_told : (n : ℕ) (place : Place) (said : Option SitedLine)
    → (line_at n place said ≡ line_at n place said)
    × IfOk (line_at n place said) (λ x. (said ≡ Some x.0) × HasRoom (version_at place) x.0.line × (version_behind (version_at place) x.0.line ≡ version_at x.1))
line_at_told n place said = (refl, each_ok (line_at n place said) _ (line_at_ok n place said))

-- ---- the bytes of lines, as a loop adds them

-- bytes before those of what the lines from a place on say
abbrev pub bytes_behind : List ℕ → Version → Result (List SitedLine) Fault → Result (List ℕ) Fault
bytes_behind prefix v r = r >>= λ xs. Ok (prefix ++ lines_bytes v xs)

-- what a loop over lines needs of each
pub ruleset line_steps = (line_at_told, no_line, append-nil, append_assoc)
