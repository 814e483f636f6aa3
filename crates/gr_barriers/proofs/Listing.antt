-- The divergences of a launch, listed one instance after the other.
use Rattle.gr_model.proofs.Common.{◌≡◌, inl, ℕ, ◌+◌, ◌<◌, ◌≤◌, Bool, List, [], ◌∷◌, ◌++◌, subst, arith}
use Rattle.gr_model.specs.declared.report.Divergence.{Divergence}
use Rattle.gr_model.specs.declared.report.DivergenceCause.{DivergenceCause}
use Rattle.gr_model.specs.Prelude.{Arrivals, HasDivergenceCause, IsDivergentOf, DivergenceBelow, Lists}
use Rattle.gr_model.proofs.Causes.{cause_diverges, one_cause}
use Rattle.gr_barriers.specs.Listings.{AreListedBefore, IsBefore}
use Rattle.gr_barriers.specs.Summaries.{NobodyCame}
use Rattle.gr_barriers.proofs.Lists.{listed_push, listed_same}
use Rattle.gr_barriers.proofs.SummaryLemmas.{nobody_diverges}

-- the divergences of groups that have ended or not, are of some size, and whose items brought this to their instances
module _ (Is : Divergence → Type 0) where
  -- after the last group all are listed
  pub all_listed : (groups : ℕ) (ds : List Divergence) → ((d : Divergence) → Is d → d.group < groups) → AreListedBefore Is groups 0 ds → Lists DivergenceBelow Is ds
  all_listed groups ds within listed = listed_same DivergenceBelow (λ d. Is d × IsBefore groups 0 d) Is ds listed (λ d p. p.0) (λ d is. (is, inl (within d is)))

  module _ (ended : ℕ → Bool) (size : ℕ → ℕ) (arrived : ℕ → ℕ → Arrivals) (caused : (d : Divergence) → Is d → HasDivergenceCause (ended d.group) (size d.group) (arrived d.group d.instance) d.cause) (g k : ℕ) (ds : List Divergence) (listed : AreListedBefore Is g k ds) where
    diverges : (d : Divergence) → Is d → d.group ≡ g → IsDivergentOf (ended g) (size g) (arrived g d.instance)
    diverges d is group = cause_diverges (ended g) (size g) (arrived g d.instance) d.cause (subst (λ n. HasDivergenceCause (ended n) (size n) (arrived n d.instance) d.cause) group (caused d is))

    -- an instance that is not divergent
    pub instance_without : ¬ IsDivergentOf (ended g) (size g) (arrived g k) → AreListedBefore Is g (k + 1) ds
    instance_without none = listed_same DivergenceBelow (λ d. Is d × IsBefore g k d) (λ d. Is d × IsBefore g (k + 1) d) ds listed
        (λ d p. (p.0, grind arith))
        (λ d p. (p.0, grind (arith, λ (same : d.group ≡ g) (here : d.instance ≡ k). none (subst (λ n. IsDivergentOf (ended g) (size g) (arrived g n)) here (diverges d p.0 same)))))

    -- one that is, with its cause
    pub instance_with : (c : DivergenceCause) → HasDivergenceCause (ended g) (size g) (arrived g k) c → Is (record { group = g; instance = k; cause = c }) → AreListedBefore Is g (k + 1) (ds ++ record { group = g; instance = k; cause = c } ∷ [])
    instance_with c cause is_one = listed_push DivergenceBelow (λ d. Is d × IsBefore g k d) (λ d. Is d × IsBefore g (k + 1) d) ds this listed
        (λ d p. grind arith) (is_one, grind arith) (λ d p. (p.0, grind arith)) (λ d p. grind (arith, is_this d p.0))
      where
        this : Divergence
        this = record { group = g; instance = k; cause = c }

        is_this : (d : Divergence) → Is d → d.group ≡ g → d.instance ≡ k → d ≡ this
        is_this d is group instance =
            let causes : HasDivergenceCause (ended g) (size g) (arrived g k) d.cause = subst (λ n. HasDivergenceCause (ended g) (size g) (arrived g n) d.cause) instance (subst (λ n. HasDivergenceCause (ended n) (size n) (arrived n d.instance) d.cause) group (caused d is)) in
            let same : d.cause ≡ c = one_cause (ended g) (size g) (arrived g k) d.cause c causes cause in
            λ i. record { group = group i; instance = instance i; cause = same i }

    -- after the last instance to which somebody came the group is done
    pub group_done : ((n : ℕ) → k ≤ n → NobodyCame (size g) (arrived g n)) → AreListedBefore Is (g + 1) 0 ds
    group_done none = listed_same DivergenceBelow (λ d. Is d × IsBefore g k d) (λ d. Is d × IsBefore (g + 1) 0 d) ds listed
        (λ d p. (p.0, grind arith))
        (λ d p. (p.0, grind (arith, λ (same : d.group ≡ g) (le : k ≤ d.instance). nobody_diverges (ended g) (size g) (arrived g d.instance) (none d.instance le) (diverges d p.0 same))))
