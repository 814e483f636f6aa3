-- What is read of a stream is a list that its group may have.
use Rattle.gr_model.proofs.Common.{◌≡◌, ◌≢◌, ◌⊎◌, ℕ, zero, suc, ◌+◌, ◌≤◌, Bool, true, false, cond, List, [], ◌∷◌, ◌++◌, length, take, drop, All, Some, Result, Ok, refl, sym, ap, ◌∙◌, subst, arith, inl, inr, IsTrue, ltb, true≢false, cases_Bool, eqb-true, ◌==◌, length-take, ltb-false, All-push}
use Rattle.std.proofs.lemmas.List.Quantifiers.{all_pairs_push}
use Rattle.gr_intake.specs.Types.{Event, MOST_RECORDS, RecordError, Header, Fault}
use Rattle.gr_model.specs.Prelude.{is_end, IsEventOk, AreGood, IsAccepted, is_complete}
use Rattle.gr_record.specs.declared.error.RecordError.TheVariants as errors
use Rattle.gr_record.specs.Prelude.{record_length, Records, behind, step, records_of, records_at, event_at, whole, up_to, front_header_at, front_records_at}
use Rattle.gr_record.specs.declared.stop.Stop.TheVariants.{AtEnd, AtFault, Inside}
use Rattle.gr_intake.specs.Joined.{Flat, ◌>>=◌, at_place, header_after, headers_in, stream_at, joined_at}
use Rattle.gr_intake.specs.Laws.{AreStreams, JoinedAreStreams}
use Rattle.gr_record.proofs.Found.{read_is_ok}
use Rattle.gr_intake.proofs.Faults.{at_place_ok, same_ok, then_ok}
use Rattle.gr_intake.proofs.Mapped.{all_from_map}
use Rattle.gr_intake.proofs.Seen.{IsAfter, is_after}

-- what a list is whose records were read up to its end
pub record AreRead (items most : ℕ) (events : List Event) : Type 0 where
  pub few : length events ≤ most
  pub good : AreGood items events
  pub ended : IsTrue (is_complete events)

module _ (items : ℕ) where
  pub one_end : (most : ℕ) (e : Event) → IsEventOk e items → is_end e ≡ true → AreRead items (suc most) (e ∷ [])
  one_end most e ok end = grind arith

  pub one_more : (most : ℕ) (e : Event) (es : List Event) → IsEventOk e items → is_end e ≡ false → AreRead items most es → AreRead items (suc most) (e ∷ es)
  one_more most e [] ok on rest = absurd (true≢false (sym rest.ended))
  one_more most e (x ∷ xs) ok on rest = record { few = omega (arith, rest.few); good = good; ended = rest.ended }
    where
      good : AreGood items (e ∷ x ∷ xs)
      good zero y at = let same : e ≡ y = let h : Some e ≡ Some y = at in cc in (subst (λ z. IsEventOk z items) same ok, λ end. absurd (true≢false (sym end ∙ (ap is_end (sym same) ∙ on))))
      good (suc p) y at = let g = rest.good p y at in (g.0, λ end. let l : p + 1 ≡ suc (length xs) = g.1 end in omega arith)

  -- what is read after an event is read without it
  behind_parts : (e : Event) (r : Records) (events : List Event) (rest : List ℕ) → up_to r.stop (e ∷ r.events) r.rest ≡ Ok (events, rest) → (events ≡ e ∷ r.events) × (whole r ≡ Ok (r.events, rest))
  behind_parts e r events rest h = grind arith

  no_more : (b : Bool) (bytes : List ℕ) (events : List Event) (rest : List ℕ) → whole (record { events = []; rest = bytes; stop = cond b Inside (AtFault errors.TooManyRecords) }) ≡ Ok (events, rest) → ⊥
  no_more short bytes events rest h = grind arith

module _ (head : Header) where
  abbrev size : ℕ
  size = record_length head.version

  is_ok : (bytes : List ℕ) (e : Event) → size ≤ length bytes → event_at head (take size bytes) ≡ Ok e → IsEventOk e head.items
  is_ok bytes e long h = read_is_ok head e (take size bytes) (omega (arith, length-take size bytes)) h

  pub records_read : (most : ℕ) (bytes : List ℕ) (events : List Event) (rest : List ℕ) → whole (records_of head most bytes) ≡ Ok (events, rest) → AreRead head.items most events
  unfolding records_at
  records_read zero bytes events rest h = absurd (no_more head.items (ltb (length bytes) size) bytes events rest h)
  records_read (suc most) bytes events rest h =
      by_length (ltb (length bytes) size) refl h (λ es k. records_read most (drop size bytes) es rest k)
    where
      next : Records
      next = records_of head most (drop size bytes)

      by_end : (e : Event) (b : Bool) → is_end e ≡ b → IsEventOk e head.items → whole (cond b (record { events = e ∷ []; rest = drop size bytes; stop = AtEnd }) (behind e next)) ≡ Ok (events, rest) → ((es : List Event) → whole next ≡ Ok (es, rest) → AreRead head.items most es) → AreRead head.items (suc most) events
      by_end e true end ok h later = let p = same_ok {X = List Event × List ℕ} {E = RecordError} (e ∷ [], drop size bytes) (events, rest) h in subst (λ (x : List Event × List ℕ). AreRead head.items (suc most) x.0) p (one_end head.items most e ok end)
      by_end e false on ok h later =
          let p = behind_parts head.items e next events rest h in
          subst (AreRead head.items (suc most)) (sym p.0) (one_more head.items most e next.events ok on (later next.events p.1))

      by_event : (r : Result Event RecordError) → event_at head (take size bytes) ≡ r → size ≤ length bytes → whole (step size r bytes next) ≡ Ok (events, rest) → ((es : List Event) → whole next ≡ Ok (es, rest) → AreRead head.items most es) → AreRead head.items (suc most) events
      by_event r is long h later = grind (arith, by_end, is_ok)

      by_length : (b : Bool) → ltb (length bytes) size ≡ b → whole (cond b (record { events = []; rest = bytes; stop = Inside }) (step size (event_at head (take size bytes)) bytes next)) ≡ Ok (events, rest) → ((es : List Event) → whole next ≡ Ok (es, rest) → AreRead head.items most es) → AreRead head.items (suc most) events
      by_length true e h later = cc
      by_length false e h later = by_event (event_at head (take size bytes)) refl (ltb-false (length bytes) size e) h later

prefix_read : (h : Header) (bytes : List ℕ) (events : List Event) (rest : List ℕ) → front_records_at h bytes ≡ Ok (events, rest) → AreRead h.items MOST_RECORDS events
unfolding front_records_at
prefix_read h bytes events rest e = records_read h MOST_RECORDS bytes events rest e

-- ---- several streams

-- one more stream, of another group and of the same launch
pub with_one : (seen : List Flat) (f : Flat) → AreStreams seen → IsAccepted f.header.items f.events → All (λ s. s.group ≢ f.header.group) (headers_in seen) → All (λ s. s.launch ≡ f.header.launch) (headers_in seen) → AreStreams (seen ++ f ∷ [])
with_one seen f are accepted other same = record {
  accepted = All-push (λ s. IsAccepted s.header.items s.events) seen f are.accepted accepted;
  groups = all_pairs_push (λ a b. a.header.group ≢ b.header.group) seen f are.groups (all_from_map (λ s. s.header) (λ s. s.group ≢ f.header.group) seen other);
  launch = all_pairs_push (λ a b. a.header.launch ≡ b.header.launch) seen f are.launch (all_from_map (λ s. s.header) (λ s. s.launch ≡ f.header.launch) seen same);
}

-- the bytes begin with this stream, and these are left after it
pub record BeginsWith (bytes : List ℕ) (f : Flat) (rest : List ℕ) : Type 0 where
  pub behind : List ℕ
  pub header : front_header_at bytes ≡ Ok (f.header, behind)
  pub records : front_records_at f.header behind ≡ Ok (f.events, rest)

-- and it may follow these
pub record Follows (seen : List Flat) (bytes : List ℕ) (f : Flat) (rest : List ℕ) : Type 0 where
  pub begins : BeginsWith bytes f rest
  pub after : IsAfter (headers_in seen) bytes f.header begins.behind

pub follows : (seen : List Flat) (bytes : List ℕ) (f : Flat) (rest : List ℕ) → stream_at seen bytes ≡ Ok (f, rest) → Follows seen bytes f rest
unfolding stream_at
follows seen bytes f rest is =
    let (h, first, k) = then_ok (header_after (headers_in seen) bytes) (λ h. at_place (length seen) (front_records_at h.0 h.1) >>= λ r. Ok (record { header = h.0; events = r.0 }, r.1)) (f, rest) is in
    let (r, records, pair) = then_ok (at_place (length seen) (front_records_at h.0 h.1)) (λ r. Ok (record { header = h.0; events = r.0 }, r.1)) (f, rest) k in
    let after = is_after (headers_in seen) bytes h.0 h.1 first in
    let same = same_ok {E = Fault} (record { header = h.0; events = r.0 }, r.1) (f, rest) pair in
    subst (λ (y : Flat × List ℕ). Follows seen bytes y.0 y.1) same (record { begins = record { behind = h.1; header = after.front; records = at_place_ok (length seen) (front_records_at h.0 h.1) r records }; after = after })

pub stream_is_one : (seen : List Flat) (bytes : List ℕ) → AreStreams seen → (f : Flat) (rest : List ℕ) → stream_at seen bytes ≡ Ok (f, rest) → AreStreams (seen ++ f ∷ [])
stream_is_one seen bytes are f rest k =
    let is = follows seen bytes f rest k in
    let read = prefix_read f.header is.begins.behind f.events rest is.begins.records in
    with_one seen f are (record { few = read.few; good = read.good; ended = read.ended }) is.after.group is.after.launch

-- no bytes are left, or a stream was read and then others
pub joined_cases : (n : ℕ) (seen : List Flat) (bytes : List ℕ) (out : List Flat) → joined_at (suc n) seen bytes ≡ Ok out
    → ((length bytes ≡ 0) × (seen ≡ out)) ⊎ ((x : Flat × List ℕ) × (stream_at seen bytes ≡ Ok x) × (joined_at n (seen ++ x.0 ∷ []) x.1 ≡ Ok out))
unfolding joined_at
joined_cases n seen bytes out is =
    elim (cases_Bool (length bytes == 0)) [
      | inl none ↦ inl (eqb-true (length bytes) 0 none, same_ok {E = Fault} seen out (rw none at is))
      | inr some ↦ inr (then_ok (stream_at seen bytes) (λ s. joined_at n (seen ++ s.0 ∷ []) s.1) out (rw some at is))
    ]

pub joined_are : (n : ℕ) (seen : List Flat) (bytes : List ℕ) → AreStreams seen → (out : List Flat) → joined_at n seen bytes ≡ Ok out → AreStreams out
unfolding joined_at
joined_are zero seen bytes are out h = subst AreStreams (same_ok {E = Fault} seen out h) are
joined_are (suc n) seen bytes are out h =
    elim (joined_cases n seen bytes out h) [
      | inl none ↦ subst AreStreams none.1 are
      | inr (x, is, later) ↦ joined_are n (seen ++ x.0 ∷ []) x.1 (stream_is_one seen bytes are x.0 x.1 is) out later
    ]

pub none_are : AreStreams []
none_are = record { accepted = λ k d lt. absurd (omega arith); groups = λ i j d before lt. absurd (omega arith); launch = λ i j d before lt. absurd (omega arith) }

pub joined_are_streams : JoinedAreStreams
joined_are_streams bytes seen h = joined_are (length bytes) [] bytes none_are seen h
