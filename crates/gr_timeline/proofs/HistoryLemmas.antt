-- The history of a word, of the accesses along a lawful order of all grounded events.
use Rattle.gr_model.proofs.Common.{◌≡◌, ◌≢◌, ◌↔◌, ◌<◌, ℕ, zero, suc, Bool, true, false, List, [], ◌∷◌, ◌++◌, Option, Some, None, append-nil, append_assoc, filter, length, map, option_map, slice_get, take, refl, sym, ap, ◌∙◌, subst, inr, ⊎_elim, arith, true≢false, length-map, length-take-le, map-append, common_steps, get_or_from_slice_get, gets, slice_get_within, filter-append, lt-ltb, ltb-true}
use Rattle.gr_timeline.specs.Types.{EventId, Word, Entry}
use Rattle.std.proofs.lemmas.Option.{slice_get-map}
use Rattle.std.proofs.lemmas.Simd.{map-map}
use Rattle.std.specs.Option.{option_map_or}
use Rattle.gr_model.specs.contracts.event.WordEq.TheImpl.Laws as equal
use Rattle.gr_model.specs.Prelude.{memory_of, HappensBefore, IsWholeOrder, Streams, word_at}
use Rattle.gr_model.proofs.Cuts.{same_event}
use Rattle.gr_model.proofs.WordLemmas.{same_from_equal}
use Rattle.gr_steps.proofs.EventRecords.{filter-there}
use Rattle.gr_clocks.specs.ClockedAccess.{ClockedAccess, bare}
use Rattle.gr_clocks.specs.Counts.{Counts}
use Rattle.gr_closure.specs.Accesses.{IsAccess}
use Rattle.gr_closure.specs.AccessesAlong.{AreAccesses, of_none, of_access, of_other}
use Rattle.gr_closure.proofs.Clashing.{whole_hits_are_races}
use Rattle.gr_model.proofs.HitLaws.{IsHit-filter}
use Rattle.gr_shadow.specs.Clashes.{IsHitIn, clashes, event_of}
use Rattle.gr_shadow.specs.Kept.{Kept, same_word}
use Rattle.gr_shadow.specs.StandsFor.{StandsFor, accesses_to}
use Rattle.gr_explain.proofs.KeptLemmas.{event_there}
use Rattle.gr_timeline.specs.Accesses.{IsOn}
use Rattle.gr_timeline.specs.Racy.{IsRacyIn}
use Rattle.gr_timeline.specs.Histories.{AreEntriesOf, IsCounted, IsHistory, IsKeptOf, Line, access_pair, entry_pair, events_of, is_counted, line_below, lines_below, lines_of}
use Rattle.gr_timeline.specs.Selections.{AreThose}
use Rattle.gr_timeline.proofs.SelectionLemmas.{events_below, those_once}

abbrev is_on : Word → ClockedAccess → Bool
is_on w x = same_word x.word w

-- ---- one access more

pub entry_added : {Z : Type 0} (w : Word) (accesses : List ClockedAccess) (y : ClockedAccess) (old new : List (Entry Z)) (x : Entry Z) (shadows shadowed : Kept) → new ≡ old ++ x ∷ [] → entry_pair x ≡ access_pair y → is_on w y ≡ true → StandsFor (accesses_to w accesses ++ y ∷ []) shadowed → IsKeptOf w accesses old shadows → IsKeptOf w (accesses ++ y ∷ []) new shadowed
entry_added w accesses y old new x shadows shadowed pushed same on stands (are, _) =
    let more : filter (is_on w) (accesses ++ y ∷ []) ≡ filter (is_on w) accesses ++ y ∷ [] = rw (filter-append, on) in
    (rw (pushed, more, map-append, map-append, are, same), rw more stands)

-- ---- the lines

-- what is mapped to a value is there
mapped : {X Y : Type 0} (f : X → Y) (o : Option X) (y : Y) → option_map f o ≡ Some y → (x : X) × (o ≡ Some x) × (f x ≡ y)
mapped f None y at = cc
mapped f (Some x) y at = (x, refl, cc)

-- a line is that of the entry there, below those before it
line_at : {Z : Type 0} (above : List EventId) (entries : List (Entry Z)) (p : ℕ) (l : Line) → slice_get (lines_below above entries) p ≡ Some l → (x : Entry Z) × (slice_get entries p ≡ Some x) × (l ≡ line_below (above ++ take p (map (λ y. y.event) entries)) x)
line_at above [] p l at = let no : None ≡ Some l = at in cc
line_at above (x ∷ entries) zero l at =
    (x, refl, rw append-nil (let h : Some (line_below above x) ≡ Some l = at in cc))
line_at above (x ∷ entries) (suc p) l at =
    let h = line_at (above ++ x.event ∷ []) entries p l at in
    (h.0, h.1, rw append_assoc at h.2)

-- ---- the accesses to the word

module _ (s : Streams) (w : Word) where
  abbrev on : List ClockedAccess → List EventId
  on accesses = map (λ x. (access_pair x).0) (filter (is_on w) accesses)

  -- an event accesses it
  abbrev is_on_it : EventId → Bool
  is_on_it e = option_map_or (λ v. same_word v w) (word_at s e) false

  on_it : (o : Option Word) → option_map_or (λ v. same_word v w) o false ≡ true ↔ (o ≡ Some w)
  on_it None = (λ no. absurd (true≢false (sym no)), λ is. cc)
  on_it (Some v) = (λ t. ap Some (same_from_equal v w t), λ is. let same : v ≡ w = cc in rw same (equal.laws-law.refl w))

  -- they are those of the events of the order that access it
  events_on : (order : List EventId) (accesses : List ClockedAccess) → AreAccesses s order accesses → on accesses ≡ filter is_on_it order
  events_on _ _ of_none = refl
  events_on _ _ (of_access {e = e} {x = x} {order = order} {accesses = accesses} of_e rest) = grind (arith, of_e.word, same_event (event_of x) e of_e.item of_e.index, events_on order accesses rest)
  events_on _ _ (of_other {e = e} {order = order} {accesses = accesses} none rest) = grind (arith, none, events_on order accesses rest)

-- a clock of an access counts of other events those that happen before it
counted_is_before : (s : Streams) (w : Word) (e : EventId) (x : ClockedAccess) → IsAccess s e (bare x) → x.word ≡ w → (d : EventId) → d ≢ e → IsCounted x.clock d ↔ HappensBefore s (memory_of w) d e
counted_is_before s w e x of_e word d other = rw (← word) (
  λ counted. ⊎_elim (λ (same : d ≡ e). absurd (other same)) (λ is. is) ((of_e.counts d).0 counted),
  λ is. (of_e.counts d).1 (inr is),
)

module _ {Z : Type 0} (s : Streams) (w : Word) (entries : List (Entry Z)) (order : List EventId) (whole : IsWholeOrder s order) (accesses : List ClockedAccess) (are : AreAccesses s order accesses) (stands : AreEntriesOf w accesses entries) where
  abbrev events : List EventId
  events = map (λ x. x.event) entries

  events_are : AreThose (IsOn s w) order events
  events_are =
      let event : EventId × Counts → EventId = λ p. p.0 in
      record {
        test = is_on_it s w;
        exact = λ i e at. on_it s w (word_at s e);
        are = sym (rw (← map-map event access_pair (filter (is_on w) accesses), ← stands) (map-map event entry_pair entries)) ∙ events_on s w order accesses are;
      }

  -- the access of an entry
  record IsOfEntry (x : Entry Z) : Type 0 where
    access : ClockedAccess
    word : access.word ≡ w
    clock : access.clock ≡ x.clock.counts
    is : IsAccess s x.event (bare access)

  entry_access : (p : ℕ) (x : Entry Z) → slice_get entries p ≡ Some x → IsOfEntry x
  entry_access p x at =
      let paired = mapped access_pair (slice_get (filter (is_on w) accesses) p) (entry_pair x) (sym (slice_get-map access_pair (filter (is_on w) accesses) p) ∙ rw (← stands) (grind (arith, common_steps, gets, at))) in
      let passed = filter-there (is_on w) accesses p paired.0 paired.1 in
      let there = event_there s order accesses paired.0 are (passed.0, slice_get_within accesses passed.0 paired.0 passed.1, get_or_from_slice_get accesses passed.0 paired.0 paired.0 passed.1) in
      record {
        access = paired.0;
        word = same_from_equal paired.0.word w passed.2;
        clock = ap (λ q. q.1) paired.2;
        is = subst (λ (d : EventId). IsAccess s d (bare paired.0)) (ap (λ q. q.0) paired.2) there.1;
      }

  line_behind : (p : ℕ) (l : Line) → slice_get (lines_of entries) p ≡ Some l → (l.above ≡ p) × AreThose (λ d. HappensBefore s (memory_of w) d l.event) (take p (events_of (lines_of entries))) l.behind
  line_behind p l at =
      let h = line_at [] entries p l at in
      let x = h.0 in
      let lt : p < length events = omega (arith, slice_get_within entries p x h.1, length-map entries (λ y. y.event)) in
      let counts = above_counted x (entry_access p x h.1) (grind (arith, common_steps, gets, h.1)) in
      let before : AreThose (λ d. HappensBefore s (memory_of w) d x.event) (take p events) (filter (is_counted x.clock.counts) (take p events)) = record { test = is_counted x.clock.counts; exact = λ i d there. (λ t. (counts i d there).0 (ltb-true _ _ t), λ is. lt-ltb _ _ ((counts i d there).1 is)); are = refl } in
      subst (λ (m : Line). (m.above ≡ p) × AreThose (λ d. HappensBefore s (memory_of w) d m.event) (take p (events_of (lines_of entries))) m.behind) (sym h.2) (
        length-take-le p events (omega (arith, lt)),
        rw (events_below [] entries) before,
      )
    where
      above_counted : (x : Entry Z) → IsOfEntry x → slice_get events p ≡ Some x.event → (i : ℕ) (d : EventId) → slice_get (take p events) i ≡ Some d → IsCounted x.clock.counts d ↔ HappensBefore s (memory_of w) d x.event
      above_counted x of_x here i d there =
          let earlier : (i < p) × (slice_get events i ≡ Some d) = grind (arith, common_steps, gets, there) in
          let apart = those_once (IsOn s w) order events events_are whole.lawful.once i p d earlier.0 (slice_get_within events p x.event here) in
          let other : d ≢ x.event = λ same. apart (get_or_from_slice_get events i d d earlier.1 ∙ (same ∙ sym (get_or_from_slice_get events p x.event d here))) in
          rw (← of_x.clock) (counted_is_before s w x.event of_x.access of_x.is of_x.word d other)

  pub history_of_whole : IsHistory s w (lines_of entries)
  history_of_whole = record {
    order = order;
    whole = whole;
    along = record {
      events = rw (events_below [] entries) events_are;
      above = λ p l at. (line_behind p l at).0;
      behind = λ p l at. (line_behind p l at).1;
    };
  }

  -- the word is hit in its accesses exactly if it is racy
  pub hit_is_racy : IsHitIn (accesses_to w accesses) w ↔ IsRacyIn w s
  hit_is_racy =
      let own = IsHit-filter (λ x. x.word) clashes (λ v. same_word v w) accesses w (equal.laws-law.refl w) in
      let races = whole_hits_are_races s order accesses w whole are in
      (λ hit. races.0 (own.1 hit), λ racy. own.0 (races.1 racy))
