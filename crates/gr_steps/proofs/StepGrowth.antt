-- A lawful order, and a step after it, stay so where lists that are not complete grow.
use Rattle.gr_model.proofs.Common.{ℕ, suc, List, [], ◌∷◌, ◌++◌, length, arith, common_steps, gets}
use Rattle.gr_model.specs.declared.event.EventId.{EventId}
use Rattle.gr_model.specs.Prelude.{IsConvergent, IsDivergent, StandsIn, Mark, IsAt, IsIn, IsLawful, Grows, Streams, Stage, Waits}
use Rattle.gr_model.proofs.Descent.{lawful_stage}
use Rattle.gr_model.proofs.GrowthLaws.{convergent_grows, divergent_grows, size_of_met, stage_grows, stands_grows, stands_shrinks, together_shrinks, waits_shrink}
use Rattle.gr_steps.specs.Steps.{AreBarriers, Handles, Meets}
use Rattle.gr_steps.proofs.BarrierPlaces.{stands_same}
use Rattle.gr_steps.proofs.Handling.{lawful_handle}
use Rattle.gr_steps.proofs.Meeting.{meeting_of}
use Rattle.gr_steps.proofs.Orders.{there_is}

module _ (s t : Streams) (grows : Grows s t) (old : List EventId) (lawful : IsLawful s old) where
  stage_of : (p : ℕ) (e : EventId) → IsAt old p e → Stage s (suc p) e
  stage_of p e at = lawful_stage s old lawful (suc p) p e (omega arith) at

  pub lawful_grows : IsLawful t old
  lawful_grows = record {
    event = λ p e at. let there = stage_grows s t grows (suc p) e (stage_of p e at) in (there.0, there.1);
    once = lawful.once;
    after = λ p e d at w. lawful.after p e d at (waits_shrink s t grows p e (stage_of p e at) d w);
    together = λ p e b a at met. lawful.together p e b a at (together_shrinks s t grows a e b (lawful.event p e at).0 (lawful.event p e at).1 met);
  }

  -- an event that is ready has a stage, and so it is ready in the longer lists
  pub handles_grows : (e : EventId) (new : List EventId) → Handles s old e new → Handles t old e new
  handles_grows e new h =
      let longer = lawful_handle s old lawful e h.ready in
      let stage = lawful_stage s (old ++ (e ∷ [])) longer (suc (length old)) (length old) e (omega arith) (grind (arith, common_steps, gets)) in
      let there = stage_grows s t grows (suc (length old)) e stage in
      let waits : (d : EventId) → Waits t e d → IsIn old d = λ d w. h.ready.waits d (waits_shrink s t grows (length old) e stage d w) in
      let instance : (g k : ℕ) → StandsIn t e g k → IsDivergent t g k = λ g k stands.
      divergent_grows s t grows g k (h.ready.instance g k (stands_shrinks s t grows e g k h.ready.event stands)) in
      search (there.0, h.ready.fresh, there.1.release, waits, instance, h.order)

  -- the barriers of the instance are those that they were
  stands_was : (g k : ℕ) (a : Mark) (bs : List EventId) → IsConvergent s g k a → AreBarriers s g k bs → (b : EventId) → StandsIn t b g k → StandsIn s b g k
  stands_was g k a bs met are b stands =
      let there = there_is bs b.at.item (omega (arith, are.count, size_of_met s t grows g k a met, stands.item)) in
      let is = are.each b.at.item there.0 there.1 in
      grind (arith, is, stands_same t there.0 b g k (stands_grows s t grows there.0 g k is.1) stands is.0)

  pub meets_grows : (g k : ℕ) (new : List EventId) → Meets s old g k new → Meets t old g k new
  meets_grows g k new h =
      let convergent = h.meeting.convergent in
      let was = stands_was g k h.mark h.barriers convergent h.are in
      let meeting = meeting_of t old lawful_grows g k h.mark (convergent_grows s t grows g k h.mark convergent)
      (λ met. h.meeting.fresh (met.0, was met.0 met.1, met.2))
      (λ b d stands previous. h.meeting.before b d (was b stands) previous) in
      let are : AreBarriers t g k h.barriers = grind (arith, h.are.count, h.are.each, size_of_met s t grows g k h.mark convergent, stands_grows s t grows) in
      search (meeting, are, h.order)
