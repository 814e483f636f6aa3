-- The words that are hit along the order of all grounded events are the races of the report.
use Rattle.gr_model.proofs.Common.{◌≡◌, List, subst}
use Rattle.gr_closure.proofs.Clashing.{whole_hits_are_races}
use Rattle.gr_model.specs.declared.event.Word.{Word}
use Rattle.gr_model.specs.Prelude.{AreRaces, Lists, WordBelow, Streams}
use Rattle.gr_order.specs.Sequences.{IsDone, IsSequence, Sequence}
use Rattle.gr_clocks.specs.ClockedAccess.{ClockedAccess}
use Rattle.gr_shadow.specs.Clashes.{IsHitIn}
use Rattle.gr_shadow.specs.Launches.{LaunchKept, StandsForLaunch}
use Rattle.gr_intake.specs.Sequencing.{AreShadowsOf}

pub races_are_listed : (s : Streams) (q : Sequence) (kept : LaunchKept) (words : List Word) → q.taken ≡ s → IsDone q → IsSequence q → AreShadowsOf q kept → ((accesses : List ClockedAccess) → StandsForLaunch accesses kept → Lists WordBelow (IsHitIn accesses) words) → AreRaces s words
races_are_listed s q kept words same done sequence shadows listed = subst (λ (t : Streams). AreRaces t words) same races
  where
    hits : Lists WordBelow (IsHitIn shadows.0) words
    hits = listed shadows.0 shadows.2

    races : AreRaces q.taken words
    races = record {
      ascending = hits.ascending;
      exact = λ w.
          let both = whole_hits_are_races q.taken q.handled shadows.0 w (record { lawful = sequence.lawful; whole = λ e grounded. (done.grounded e).1 grounded }) shadows.1 in (
            λ in_words. both.0 ((hits.exact w).0 in_words),
            λ racy. (hits.exact w).1 (both.1 racy),
          );
    }
