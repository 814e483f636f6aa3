-- An instance to which all items came stays as it is: whether it is divergent, and why.
use Rattle.gr_model.proofs.Common.{◌≡◌, ℕ, ◌<◌, Bool, List, Some, slice_get, filter_map, length, ap, ◌∙◌, arith, common_steps, get_or_past, filter_map-append}
use Rattle.gr_order.specs.Types.{Event, DivergenceCause}
use Rattle.gr_model.specs.declared.report.DivergenceCause.TheVariants.{Flags, Missing, Site}
use Rattle.gr_model.specs.Prelude.{arrivals, mark_of, AreMixed, Arrivals, HasArrived, HasDivergenceCause, IsMissing, Mark, SitesDiffer, IsDivergence, Grows, Streams, is_complete, list_of, size_of, trace_of}
use Rattle.gr_model.proofs.Causes.{cause_diverges}
use Rattle.gr_model.proofs.GrowthLaws.{trace_grows}
use Rattle.gr_model.proofs.Places.{slice_get-append}
use Rattle.gr_lanes.specs.Remembered.{HaveAllCome}

-- where all came nobody is missing
pub none_missing : (s : Streams) (g k : ℕ) → HaveAllCome s g k → (complete : Bool) → ¬ IsMissing complete (size_of s g) (arrivals s g k)
none_missing s g k came complete missing = grind (arith, came.1 missing.1.1)

-- a group that has items is there
pub size_there : (s : Streams) (g : ℕ) → 0 < size_of s g → g < length s.sizes
size_there s g some = grind (arith, get_or_past)

-- ---- the same arrivals

module _ (n m : ℕ) (old new : Arrivals) (to : (i : ℕ) (a : Mark) → HasArrived n old i a → HasArrived m new i a) where
  mixed_so : AreMixed n old → AreMixed m new
  mixed_so (i, j, a, b, at_i, at_j, differ) = (i, j, a, b, to i a at_i, to j b at_j, differ)

  sites_so : SitesDiffer n old → SitesDiffer m new
  sites_so (i, j, a, b, at_i, at_j, differ) = (i, j, a, b, to i a at_i, to j b at_j, differ)

module _ (s t : Streams) (g k : ℕ) (came : HaveAllCome s g k) (came_too : HaveAllCome t g k) (to : (i : ℕ) (a : Mark) → HasArrived (size_of s g) (arrivals s g k) i a → HasArrived (size_of t g) (arrivals t g k) i a) (from : (i : ℕ) (a : Mark) → HasArrived (size_of t g) (arrivals t g k) i a → HasArrived (size_of s g) (arrivals s g k) i a) where
  whole : ¬ IsMissing (is_complete (list_of t g)) (size_of t g) (arrivals t g k)
  whole = none_missing t g k came_too (is_complete (list_of t g))

  cause_so : (c : DivergenceCause) → HasDivergenceCause (is_complete (list_of s g)) (size_of s g) (arrivals s g k) c → HasDivergenceCause (is_complete (list_of t g)) (size_of t g) (arrivals t g k) c
  cause_so Missing cause = absurd (none_missing s g k came (is_complete (list_of s g)) cause)
  cause_so Site cause = (whole, sites_so (size_of s g) (size_of t g) (arrivals s g k) (arrivals t g k) to cause.1)
  cause_so Flags cause = (whole, (λ (sites : SitesDiffer (size_of t g) (arrivals t g k)). cause.1 (sites_so (size_of t g) (size_of s g) (arrivals t g k) (arrivals s g k) from sites)), mixed_so (size_of s g) (size_of t g) (arrivals s g k) (arrivals t g k) to cause.2)

  divergence_so : (c : DivergenceCause) → IsDivergence s (record { group = g; instance = k; cause = c }) → IsDivergence t (record { group = g; instance = k; cause = c })
  divergence_so c is = let cause = cause_so c is.cause in
      record { group = size_there t g came_too.0; divergent = cause_diverges (is_complete (list_of t g)) (size_of t g) (arrivals t g k) c cause; cause = cause }

-- ---- more records come

module _ (s t : Streams) (grows : Grows s t) (g k : ℕ) (came : HaveAllCome s g k) where
  arrived_on : (i : ℕ) (a : Mark) → arrivals s g k i ≡ Some a → arrivals t g k i ≡ Some a
  arrived_on i a at =
      let more = trace_grows s t grows (record { group = g; item = i }) in
      let old = trace_of s (record { group = g; item = i }) in
      ap (λ (l : List Event). slice_get (filter_map mark_of l) k) more.1
      ∙ (ap (λ (l : List Mark). slice_get l k) (filter_map-append mark_of old more.0) ∙ slice_get-append (filter_map mark_of old) (filter_map mark_of more.0) k a at)

  pub size_stays : size_of s g ≡ size_of t g
  size_stays = grind (arith, common_steps, grows.sizes g, came.1 0 came.0)

  pub came_on : HaveAllCome t g k
  came_on = (grind (arith, came.0, size_stays), λ i within. let a = came.1 i (omega (arith, within, size_stays)) in (a.0, arrived_on i a.0 a.1))

  to_more : (i : ℕ) (a : Mark) → HasArrived (size_of s g) (arrivals s g k) i a → HasArrived (size_of t g) (arrivals t g k) i a
  to_more i a at = grind (arith, size_stays, arrived_on i a, at)

  from_more : (i : ℕ) (a : Mark) → HasArrived (size_of t g) (arrivals t g k) i a → HasArrived (size_of s g) (arrivals s g k) i a
  from_more i a at = grind (arith, came.1 i, arrived_on, size_stays, at)

  pub divergence_stays : (c : DivergenceCause) → IsDivergence s (record { group = g; instance = k; cause = c }) → IsDivergence t (record { group = g; instance = k; cause = c })
  divergence_stays = divergence_so s t g k came came_on to_more from_more

  pub divergence_was : (c : DivergenceCause) → IsDivergence t (record { group = g; instance = k; cause = c }) → IsDivergence s (record { group = g; instance = k; cause = c })
  divergence_was = divergence_so t s g k came_on came from_more to_more
