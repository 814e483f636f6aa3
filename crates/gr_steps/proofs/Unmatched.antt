-- An unmatched acquire has a cause, so a report names each.
use Rattle.gr_model.proofs.Common.{◌≡◌, ◌⊎◌, Some, None, [], inl, inr, ⊎_elim, arith, refl}
use Rattle.gr_steps.specs.Types.{EventId, Name}
use Rattle.gr_model.specs.declared.report.AcquireCause.{AcquireCause}
use Rattle.gr_model.specs.declared.report.AcquireCause.TheVariants.{Absent, Behind, OtherWord}
use Rattle.gr_model.specs.Prelude.{HasAcquireCause, HasName, IsAbsent, IsOfItsWord, IsOfOtherWord, names_at, release_place, IsReportButRaces, IsUnmatchedAcquire, WholeReport, Streams, word_at}
use Rattle.gr_steps.proofs.Deciding.{all_or_some, by_cases, option_dec, word_dec}

-- one of an event's names has no release, or else one has another word, or else each has the event's word
has_cause : (s : Streams) (e : EventId) → (c : AcquireCause) × HasAcquireCause s e c
has_cause s e =
    ⊎_elim
    (λ (there : (n : Name) → HasName s e n → IsOfItsWord s e n ⊎ IsOfOtherWord s e n). ⊎_elim
    (λ same. (Behind, same))
    (λ other. (OtherWord, (λ n named absent. grind (arith, there n named, absent), other)))
    (all_or_some (IsOfItsWord s e) (IsOfOtherWord s e) (names_at s e) there))
    (λ absent. (Absent, absent))
    (all_or_some (λ n. IsOfItsWord s e n ⊎ IsOfOtherWord s e n) (IsAbsent s) (names_at s e) (λ n named. of_name n))
  where
    of_name : (n : Name) → (IsOfItsWord s e n ⊎ IsOfOtherWord s e n) ⊎ IsAbsent s n
    of_name n =
        elim (release_place s n) as (λ o. (release_place s n ≡ o) → (IsOfItsWord s e n ⊎ IsOfOtherWord s e n) ⊎ IsAbsent s n) [
          | None ↦ inr
          | Some k ↦ λ at. inl (by_cases (option_dec word_dec (word_at s (record { at = n.at; index = k })) (word_at s e)) (λ same. inl (k, at, same)) (λ other. inr (k, at, other)))
        ] refl

pub none_unmatched : (s : Streams) (r : WholeReport) → IsReportButRaces s r → r.unmatched ≡ [] → (e : EventId) → ¬ IsUnmatchedAcquire s e
none_unmatched s r report none e unmatched =
    let cause = has_cause s e in
    grind (arith, none, (report.unmatched.exact (record { event = e; cause = cause.0 })).1 (record { unmatched = unmatched; cause = cause.1 }))
