-- The list of divergent instances in the making.
use Rattle.std.specs.Prelude.{◌≡◌, ◌⊎◌, ℕ, ◌<◌, List}
use Rattle.gr_model.specs.declared.report.Divergence.{Divergence}
use Rattle.gr_model.specs.Prelude.{DivergenceBelow, Lists}

-- an instance of an earlier group, or an earlier one of this group
abbrev pub IsBefore : ℕ → ℕ → Divergence → Type 0
IsBefore g k d = (d.group < g) ⊎ ((d.group ≡ g) × (d.instance < k))

-- the divergences before instance k of group g, of all of which this holds
abbrev pub AreListedBefore : (Divergence → Type 0) → ℕ → ℕ → List Divergence → Type 0
AreListedBefore Is g k ds = Lists DivergenceBelow (λ d. Is d × IsBefore g k d) ds
