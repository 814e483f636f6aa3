-- What holds of the events that are reached holds on where incomplete lists grow.
use Rattle.gr_model.proofs.Common.{Contains, ◌≡◌, ◌⊎◌, ℕ, zero, suc, ◌<◌, Bool, List, ◌++◌, Some, filter, option_and_then, sym, ap, ◌∙◌, subst, inl, inr, ⊎_elim, arith, filter-append, filter_map-append, slice_get_within}
use Rattle.gr_model.specs.Types.{ItemId, Name, EventId, Event, Space}
use Rattle.gr_model.specs.Prelude.{event_word, is_release, IsConvergent, IsDivergent, StandsIn, Together, arrivals, is_barrier, mark_of, BasePair, HappensBefore, behind_barrier, by_pair, sequenced, synchronized, through, Mark, HasName, Matches, MatchesBy, names_of, Grows, IsEvent, Streams, event_at, is_of, list_of, place_of, size_of, trace_of, word_at, IsSettled, Stage, Waits, for_arrival, for_meeting, for_previous, for_release}
use Rattle.gr_model.proofs.Descent.{together-swap, below_in_item, below_by_pair, stage_descends, stage_up}
use Rattle.gr_model.proofs.Places.{slice_get-append, places_from-append, places_from-there, places_from-within, filter_map-place}
use Rattle.gr_model.proofs.Cuts.{same_event}

-- an instance is not both convergent and divergent
pub not_both : (u : Streams) (g k : ℕ) (a : Mark) → IsConvergent u g k a → IsDivergent u g k → ⊥
not_both u g k a c h = grind arith

module _ (s t : Streams) (grows : Grows s t) where
  pub trace_grows : (i : ItemId) → (more : List Event) × (trace_of t i ≡ trace_of s i ++ more)
  trace_grows i =
      let more = grows.lists i.group in
      (filter (is_of i.item) more.0, ap (filter (is_of i.item)) more.1 ∙ filter-append (is_of i.item) (list_of s i.group) more.0)

  -- an event stays
  pub event_grows : (e : EventId) (x : Event) → event_at s e ≡ Some x → event_at t e ≡ Some x
  event_grows e x at = grind (arith, trace_grows e.at, slice_get-append)

  -- the k-th that passes a test stays where it is, and is the k-th that was there
  place_grows : (test : Event → Bool) (i : ItemId) (k n : ℕ) → place_of s test i k ≡ Some n → place_of t test i k ≡ Some n
  place_grows test i k n at = grind (arith, trace_grows i, places_from-append, slice_get-append)

  place_shrinks : (test : Event → Bool) (e : EventId) (k : ℕ) → IsEvent s e → place_of t test e.at k ≡ Some e.index → place_of s test e.at k ≡ Some e.index
  place_shrinks test e k there at = grind (arith, trace_grows e.at, places_from-within test (trace_of s e.at), slice_get_within)

  place_there : (test : Event → Bool) (e : EventId) (k : ℕ) → place_of s test e.at k ≡ Some e.index → IsEvent s e
  place_there test e k at = grind (arith, places_from-there)

  pub word_grows : (e : EventId) → IsEvent s e → word_at t e ≡ word_at s e
  word_grows e there = ap (option_and_then (event_word e.at.group)) (event_grows e there.0 there.1 ∙ sym there.1)

  -- an event has the names that it had
  name_was : (f : EventId) (n : Name) → IsEvent s f → HasName t f n → HasName s f n
  name_was f n there named = subst (λ x. Contains (names_of x) n) (event_grows f there.0 there.1 ∙ sym there.1) named

  matches_by_grows : (n : Name) (f e : EventId) → IsEvent s f → MatchesBy s n f e → MatchesBy t n f e
  matches_by_grows n f e there m = grind (arith, event_grows, place_grows, place_there)

  matches_grows : (f e : EventId) → IsEvent s f → Matches s f e → Matches t f e
  matches_grows f e there m = record { name = m.name; by = matches_by_grows m.name f e there m.by }

  -- in longer lists a release is the one that it was, where it was there
  matches_shrinks : (f e : EventId) → IsEvent s f → IsSettled s f → Matches t f e → Matches s f e
  matches_shrinks f e there go m =
      let had = go.release m.name (name_was f m.name there m.by.named) in
      record { name = m.name; by = grind (arith, had, place_grows is_release m.name.at, same_event had.0 e) }

  -- ---- barriers

  -- what has come of an item stays, and so does the size of its group
  arrival_grows : (g k i : ℕ) (a : Mark) → arrivals s g k i ≡ Some a → (arrivals t g k i ≡ Some a) × (size_of s g ≡ size_of t g)
  arrival_grows g k i a at = grind (arith, trace_grows (record { group = g; item = i }), filter_map-append, slice_get-append)

  -- a group whose items have met keeps its size
  pub size_of_met : (g k : ℕ) (a : Mark) → IsConvergent s g k a → size_of s g ≡ size_of t g
  size_of_met g k a c = (arrival_grows g k 0 a (c.1 0 c.0)).1

  pub convergent_grows : (g k : ℕ) (a : Mark) → IsConvergent s g k a → IsConvergent t g k a
  convergent_grows g k a c =
      let size = size_of_met g k a c in (omega (arith, size, c.0), λ i below. grind (arith, size, c.1 i, arrival_grows g k i a))

  pub divergent_grows : (g k : ℕ) → IsDivergent s g k → IsDivergent t g k
  divergent_grows g k h = grind (arith, arrival_grows, grows.whole g)

  -- a settled instance is convergent in the longer lists with the mark that it has
  convergent_shrinks : (g k : ℕ) (a : Mark) → ((b : Mark) × IsConvergent s g k b) ⊎ IsDivergent s g k → IsConvergent t g k a → IsConvergent s g k a
  convergent_shrinks g k a h c = grind (arith, arrival_grows, not_both, divergent_grows)

  -- a barrier's number stays
  pub stands_grows : (e : EventId) (g k : ℕ) → StandsIn s e g k → StandsIn t e g k
  stands_grows e g k h = grind (arith, place_there, place_grows)

  pub stands_shrinks : (e : EventId) (g k : ℕ) → IsEvent s e → StandsIn t e g k → StandsIn s e g k
  stands_shrinks e g k there h = grind (arith, place_shrinks)

  pub together_grows : (a : Mark) (e b : EventId) → Together s a e b → Together t a e b
  together_grows a e b h = search (arith, convergent_grows, stands_grows)

  -- in longer lists a reached barrier has met those whom it had met
  pub together_shrinks : (a : Mark) (e b : EventId) → IsEvent s e → IsSettled s e → Together t a e b → Together s a e b
  together_shrinks a e b there go h =
      let first = stands_shrinks e h.group h.instance there h.first in
      let convergent = convergent_shrinks h.group h.instance a (go.instance h.group h.instance first) h.convergent in
      let within : b.at.item < size_of s h.group = omega (arith, h.second.item, size_of_met h.group h.instance a convergent) in
      let found = filter_map-place mark_of 0 (trace_of s (record { group = h.group; item = b.at.item })) h.instance a (convergent.1 b.at.item within) in
      let second : StandsIn s b h.group h.instance = grind (arith, found, place_grows is_barrier b.at h.instance found.0, h.second, within) in
      record { group = h.group; instance = h.instance; convergent = convergent; first = first; second = second }

  -- ---- what an event waits for, and the stages

  pub stage_event : (n : ℕ) (e : EventId) → Stage s n e → IsEvent s e × IsSettled s e
  stage_event n e h = let up = stage_up s n e h in (up.0, up.1)

  pub waits_grows : (e d : EventId) → IsEvent s e → Waits s e d → Waits t e d
  waits_grows e d there (for_previous p) = for_previous p
  waits_grows e d there (for_release m) = for_release (matches_grows e d there m)
  waits_grows e d there (for_arrival a b met p) = for_arrival a b (together_grows a e b met) p
  waits_grows e d there (for_meeting a c p met) = for_meeting a c p (together_grows a c d met)

  pub waits_shrink : (n : ℕ) (e : EventId) → Stage s (suc n) e → (d : EventId) → Waits t e d → Waits s e d
  waits_shrink n e h d (for_previous p) = for_previous p
  waits_shrink n e h d (for_release m) = for_release (matches_shrinks e d h.0 h.1 m)
  waits_shrink n e h d (for_arrival a b met p) = for_arrival a b (together_shrinks a e b h.0 h.1 met) p
  waits_shrink n e h d (for_meeting a c p met) =
      let before = stage_event n c (h.2 c (for_previous p)) in
      for_meeting a c p (together_shrinks a c d before.0 before.1 met)

  can_go_grows : (e : EventId) → IsEvent s e → IsSettled s e → IsSettled t e
  can_go_grows e there go = record {
    release = λ n named. let d = go.release n (name_was e n there named) in (d.0, matches_by_grows n e d.0 there d.1);
    instance = λ g k stands. ⊎_elim (λ c. inl (c.0, convergent_grows g k c.0 c.1)) (λ d. inr (divergent_grows g k d)) (go.instance g k (stands_shrinks e g k there stands));
  }

  -- an event that is reached is reached at the same stage
  pub stage_grows : (n : ℕ) (e : EventId) → Stage s n e → Stage t n e
  stage_grows zero e h = h
  stage_grows (suc n) e h =
      ((h.0.0, event_grows e h.0.0 h.0.1), can_go_grows e h.0 h.1, λ d w. stage_grows n d (h.2 d (waits_shrink n e h d w)))

  pub stage_shrinks : (k : ℕ) (e : EventId) → Stage s k e → (n : ℕ) → Stage t n e → Stage s n e
  stage_shrinks (suc k) e h (suc n) l = (h.0, h.1, λ d w. stage_shrinks k d (h.2 d w) n (l.2 d (waits_grows e d h.0 w)))
  stage_shrinks k e h n l = grind arith

  -- ---- what happens before an event that is reached

  pair_grows : (m : Space) (e f : EventId) → IsEvent s f → BasePair s m e f → BasePair t m e f
  pair_grows m e f has (sequenced item below there) = sequenced item below (there.0, event_grows f there.0 there.1)
  pair_grows m e f has (synchronized match inclusive) = synchronized (matches_grows f e has match) (grind (arith, event_grows, word_grows))
  pair_grows m e f has (behind_barrier a b flagged met item below there) = behind_barrier a b flagged (together_grows a e b met) item below (there.0, event_grows f there.0 there.1)

  pair_shrinks : (m : Space) (n : ℕ) (e f : EventId) → Stage s n f → BasePair t m e f → BasePair s m e f
  pair_shrinks m n e f h (sequenced item below there) = sequenced item below (stage_event n f h).0
  pair_shrinks m n e f h (synchronized match inclusive) =
      grind (arith, synchronized, stage_event, matches_shrinks, place_there, event_grows, word_grows)
  pair_shrinks m n e f h (behind_barrier a b flagged met item below there) =
      let lower = below_in_item s (Stage s) (stage_descends s) n b f h item below in
      let barrier = stage_event lower.0 b lower.2 in
      behind_barrier a b flagged (together-swap (together_shrinks a b e barrier.0 barrier.1 (together-swap met))) item below (stage_event n f h).0

  pub before_shrinks : (m : Space) (e f : EventId) → HappensBefore t m e f → (n : ℕ) → Stage s n f → HappensBefore s m e f
  before_shrinks m e f (by_pair pair) n h = by_pair (pair_shrinks m n e f h pair)
  before_shrinks m e f (through {f = d} before pair) n h =
      let was = pair_shrinks m n d f h pair in
      let lower = below_by_pair s (Stage s) (stage_descends s) m n d f h was in
      through (before_shrinks m e d before lower.0 lower.2) was

  pub before_grows : (m : Space) (e f : EventId) → HappensBefore s m e f → (n : ℕ) → Stage s n f → HappensBefore t m e f
  before_grows m e f (by_pair pair) n h = by_pair (pair_grows m e f (stage_event n f h).0 pair)
  before_grows m e f (through {f = d} before pair) n h =
      let lower = below_by_pair s (Stage s) (stage_descends s) m n d f h pair in
      through (before_grows m e d before lower.0 lower.2) (pair_grows m d f (stage_event n f h).0 pair)
