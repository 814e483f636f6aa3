-- What is ready is its item's next event; and when the next events are ready or can meet, by how many events of each item were handled.
use Rattle.gr_model.proofs.Common.{◌≡◌, ◌↔◌, ℕ, ◌<◌, List, sym, ap, arith, ◌∙◌}
use Rattle.gr_steps.specs.Types.{EventId, ItemId, Name}
use Rattle.gr_model.specs.Prelude.{IsDivergent, StandsIn, IsIn, IsLawful, HasItsReleases, HasName, MatchesBy, IsEvent, Streams, IsPrevious, Waits, for_arrival, for_meeting, for_previous, for_release}
use Rattle.gr_model.proofs.GrowthLaws.{not_both}
use Rattle.gr_steps.specs.Steps.{AreFirst, IsReady}
use Rattle.gr_steps.proofs.EventRecords.{one_release}
use Rattle.gr_steps.proofs.Orders.{met_handled, handled_upto, previous_of}

pub next_of_item : (s : Streams) (order : List EventId) → IsLawful s order → (e : EventId) → IsReady s order e → (d : EventId) → d.at ≡ e.at → IsIn order d ↔ (d.index < e.index)
next_of_item s order lawful e ready d item = (
  λ h. grind (arith, h, ready.fresh, handled_upto s order lawful e d (sym item)),
  λ lt. let p = previous_of e d.index lt in handled_upto s order lawful d p.0 (item ∙ sym p.1.item) p.2 (ready.waits p.0 (for_previous p.1)),
)

module _ (s : Streams) (order : List EventId) (lawful : IsLawful s order) (c : ItemId → ℕ) (first : AreFirst order c) (e : EventId) where
  -- the next event is ready if its release is handled and it is no barrier of a convergent or waiting instance
  pub next_is_ready : IsEvent s e → e.index ≡ c e.at → ((n : Name) → HasName s e n → (d : EventId) × MatchesBy s n e d × (d.index < c d.at)) → ((g k : ℕ) → StandsIn s e g k → IsDivergent s g k) → IsReady s order e
  next_is_ready there next release divergent =
      let fresh : ¬ IsIn order e = λ h. omega (arith, (first e).0 h, next) in
      let releases : HasItsReleases s e = λ n named. let d = release n named in (d.0, d.1) in
      search (there, fresh, releases, waits, divergent)
    where
      previous_in : (d : EventId) → IsPrevious d e → IsIn order d
      previous_in d p = (first d).1 (let same : c d.at ≡ c e.at = ap c p.item in omega (arith, p.next, next, same))

      waits : (d : EventId) → Waits s e d → IsIn order d
      waits d (for_previous previous) = previous_in d previous
      waits d (for_release match) =
          let there = release match.name match.by.named in grind (arith, there, one_release s match.name e there.0 d there.1 match.by, first d)
      waits d (for_arrival a b met previous) =
          absurd (not_both s met.group met.instance a met.convergent (divergent met.group met.instance met.first))
      waits d (for_meeting a b previous met) = met_handled s order lawful a b d (previous_in b previous) met

  -- and what is ready is the next, with its release handled
  pub ready_is_next : IsReady s order e → e.index ≡ c e.at
  ready_is_next ready =
      let not_more : ¬ (c e.at < e.index) = λ lt.
      let p = previous_of e (c e.at) lt in omega (arith, (first p.0).0 (ready.waits p.0 (for_previous p.1)), p.2, ap c p.1.item) in
      grind (arith, not_more, ready.fresh, first e)

  pub ready_release : IsReady s order e → (n : Name) → HasName s e n → (d : EventId) × MatchesBy s n e d × (d.index < c d.at)
  ready_release ready n named =
      let d = ready.release n named in
      (d.0, d.1, (first d.0).0 (ready.waits d.0 (for_release (record { name = n; by = d.1 }))))
