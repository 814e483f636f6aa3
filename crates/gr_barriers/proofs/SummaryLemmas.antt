-- What the sum of what a group's items brought to an instance says of the instance.
use Rattle.gr_model.proofs.Common.{◌≡◌, ◌≢◌, ◌⊎◌, ◌↔◌, inl, inr, ℕ, ◌<◌, Bool, IsTrue, is_some, Option, Some, None, refl, sym, ◌∙◌, ap, arith, ⊎_elim, MatchOption}
use Rattle.gr_model.specs.declared.report.DivergenceCause.{DivergenceCause}
use Rattle.gr_model.specs.Prelude.{Mark, Arrivals, AreMixed, HasDivergenceCause, IsConvergentOf, IsDivergentOf, IsMissing, IsPartial, IsWaitingOf, SitesDiffer}
use Rattle.gr_model.proofs.Causes.{cause_diverges}
use Rattle.gr_barriers.specs.Summaries.{IsSummaryOf, NobodyCame}
use Rattle.gr_barriers.specs.declared.summary.Summary.{Summary}

pub nobody_diverges : (ended : Bool) (n : ℕ) (arrived : Arrivals) → NobodyCame n arrived → ¬ IsDivergentOf ended n arrived
nobody_diverges ended n arrived none d = grind (arith, none)

-- what has a cause diverges, and what has none does not
pub caused : (ended : Bool) (n : ℕ) (arrived : Arrivals) (o : Option DivergenceCause) → MatchOption o (¬ IsDivergentOf ended n arrived) (HasDivergenceCause ended n arrived) → IsTrue (is_some o) ↔ IsDivergentOf ended n arrived
caused ended n arrived None none = grind (arith, none)
caused ended n arrived (Some c) cause = grind (arith, cause_diverges ended n arrived c cause)

-- ---- marks

came_or_not : (o : Option Mark) → (o ≡ None) ⊎ ((b : Mark) × (o ≡ Some b))
came_or_not None = inl refl
came_or_not (Some b) = inr (b, refl)

same_mark : (a b : Mark) → (a ≢ b → ⊥) → a ≡ b
same_mark a b not_other = grind (arith, not_other)

-- ---- an instance to which somebody came

module _ (n : ℕ) (arrived : Arrivals) (s : Summary) (is : IsSummaryOf n arrived s) (somebody : ¬ NobodyCame n arrived) where
  mark : (a : Mark) × (s.mark ≡ Some a)
  mark = ⊎_elim (λ (none : s.mark ≡ None). absurd (somebody (is.nobody none))) (λ (some : (a : Mark) × (s.mark ≡ Some a)). some) (came_or_not s.mark)

  pub partial : IsTrue s.lacks_one → IsPartial n arrived
  partial lacks =
      let first = is.first mark.0 mark.1 in
      let other = is.lacks_one.0 lacks in
      (first.0, other.0, mark.0, (first.1, first.2), other.1, other.2)

  pub mixed : IsTrue s.other_mark → AreMixed n arrived
  mixed differs =
      let other = is.other_mark.0 differs in
      let first = is.first other.2.0 other.2.2 in
      (other.0, first.0, other.2.1, other.2.0, (other.1, other.2.3), (first.1, first.2), other.2.4)

  pub one_site : ¬ IsTrue s.other_site → ¬ SitesDiffer n arrived
  one_site none (i, j, a, b, at_i, at_j, differ) =
      none (is.other_site.1 (i, at_i.0, (mark.0, a, mark.1, at_i.1, λ here. none (is.other_site.1 (j, at_j.0, (mark.0, b, mark.1, at_j.1, λ there. differ (here ∙ sym there)))))))

  one_mark : ¬ IsTrue s.other_mark → ¬ AreMixed n arrived
  one_mark none (i, j, a, b, at_i, at_j, differ) =
      none (is.other_mark.1 (i, at_i.0, (mark.0, a, mark.1, at_i.1, λ here. none (is.other_mark.1 (j, at_j.0, (mark.0, b, mark.1, at_j.1, λ there. differ (here ∙ sym there)))))))

  pub none_missing : (ended : Bool) → (IsTrue ended → IsTrue s.lacks_one → ⊥) → ¬ IsMissing ended n arrived
  none_missing ended none missing = grind (arith, none, is.lacks_one)

  pub not_divergent : (ended : Bool) → (IsTrue ended → IsTrue s.lacks_one → ⊥) → ¬ IsTrue s.other_mark → ¬ IsDivergentOf ended n arrived
  not_divergent ended missing other d = grind (arith, one_mark other, none_missing ended missing)

  pub waits : (ended : Bool) → ¬ IsDivergentOf ended n arrived → IsTrue s.lacks_one → IsWaitingOf ended n arrived
  waits ended convergent lacks =
      let part = partial lacks in
      record {
        some = (part.0, part.2, part.3);
        not_convergent = λ a all. let came : arrived part.1 ≡ Some a = all.1 part.1 part.4 in let clash : None ≡ Some a = sym part.5 ∙ came in cc;
        not_divergent = convergent;
      }

  pub converges : (ended : Bool) → ¬ IsDivergentOf ended n arrived → ¬ IsTrue s.lacks_one → (0 < n) × ((a : Mark) × IsConvergentOf n arrived a)
  converges ended convergent whole =
      let first = is.first mark.0 mark.1 in
      let some : 0 < n = omega (arith, first.1) in
      let all : (i : ℕ) → i < n → arrived i ≡ Some mark.0 = λ i within. ⊎_elim
      (λ (lacks : arrived i ≡ None). absurd (whole (is.lacks_one.1 (i, within, lacks))))
      (λ (came : (b : Mark) × (arrived i ≡ Some b)). came.1 ∙ ap (λ (m : Mark). Some m) (same_mark came.0 mark.0 (λ other. convergent (inl (i, first.0, came.0, mark.0, (within, came.1), (first.1, first.2), other)))))
      (came_or_not (arrived i))
      in
      (some, (mark.0, (some, all)))
