-- An event that is next in its item: the handled events of the item are those before it. So is what is handled, and each barrier of an instance that meets. It sees itself, what its item knows, and what it learns.
use Rattle.gr_model.proofs.Common.{◌∙◌, ◌≡◌, ◌⊎◌, ◌↔◌, ℕ, ◌<◌, List, sym, inl, inr, ⊎_elim, arith}
use Rattle.gr_closure.specs.Types.{EventId, Space}
use Rattle.gr_model.specs.Prelude.{StandsIn, Sees, Mark, BasePair, HappensBefore, behind_barrier, sequenced, synchronized, IsIn, IsLawful, IsEvent, Streams}
use Rattle.gr_steps.specs.Steps.{IsMeeting, IsReady}
use Rattle.gr_steps.proofs.NextEvents.{next_of_item}
use Rattle.gr_steps.proofs.Orders.{handled_upto, previous_of}
use Rattle.gr_closure.specs.Knowledge.{Knows, Learns, by_event, by_instance}
use Rattle.gr_closure.proofs.Seeing.{last_pair, seen_before}

abbrev pub IsNextInItem : List EventId → EventId → Type 0
IsNextInItem handled e = (d : EventId) → d.at ≡ e.at → IsIn handled d ↔ (d.index < e.index)

module _ (s : Streams) (order : List EventId) (lawful : IsLawful s order) where
  -- an event that is ready is next
  pub ready_event_is_next : (e : EventId) → IsReady s order e → IsNextInItem order e
  ready_event_is_next e ready d item = next_of_item s order lawful e ready d item

  -- the barriers of an instance that may meet are next
  pub barrier_is_next : (g k : ℕ) (a : Mark) → IsMeeting s order g k a → (b : EventId) → StandsIn s b g k → IsNextInItem order b
  barrier_is_next g k a meeting b stands d item = (
    λ h. grind (arith, h, stands, meeting.fresh, handled_upto s order lawful b d (sym item)),
    λ lt. let p = previous_of b d.index lt in handled_upto s order lawful d p.0 (item ∙ sym p.1.item) p.2 (meeting.before b p.0 stands p.1),
  )

-- ---- what it sees

module _ (s : Streams) (m : Space) (old : List EventId) (e : EventId) (there : IsEvent s e) (next : IsNextInItem old e) (d : EventId) where
  -- what its item knows happens before it
  pub known_before : Knows s m old e.at d → HappensBefore s m d e
  known_before (by_event x h item seen) = seen_before s m d x e seen (sequenced item ((next x item).0 h) there)
  known_before (by_instance a c b h item flagged met seen) = seen_before s m d c e seen (behind_barrier a b flagged met item ((next b item).0 h) there)

  -- and what happens before it its item knows, or it learns it
  pub before_known : HappensBefore s m d e → Knows s m old e.at d ⊎ Learns s m e d
  before_known before = let last = last_pair s m d e before in by_last last.0 last.1 last.2
    where
      by_last : (x : EventId) → Sees s m x d → BasePair s m x e → Knows s m old e.at d ⊎ Learns s m e d
      by_last x seen (sequenced item below event) = inl (by_event x ((next x item).1 below) item seen)
      by_last x seen (synchronized match inclusive) = inr (record { release = x; matches = match; inclusive = inclusive; seen = seen })
      by_last x seen (behind_barrier a b flagged met item below event) = inl (by_instance a x b ((next b item).1 below) item flagged met seen)

  pub next_sees : Sees s m e d ↔ ((d ≡ e) ⊎ Knows s m old e.at d ⊎ Learns s m e d)
  next_sees = (
    ⊎_elim inl (λ before. inr (before_known before)),
    ⊎_elim inl (λ h. inr (⊎_elim known_before (λ l. seen_before s m d l.release e l.seen (synchronized l.matches l.inclusive)) h)),
  )
