-- The report of a run that has ended.
use Rattle.gr_model.proofs.Common.{◌≡◌, ◌∙◌, ℕ, List, Option, Some, length, sym, ap, subst, IfSome}
use Rattle.gr_model.specs.declared.event.Word.{Word}
use Rattle.gr_model.specs.Prelude.{IsReportOf, Lists, WholeReport, WordBelow, Streams}
use Rattle.gr_route.specs.IntakeSeats.{Seat}
use Rattle.gr_sequencer_thread.specs.Ends.{End, IsEnd, IsFound}
use Rattle.gr_sequencer_thread.specs.Feeds.{given_of}
use Rattle.gr_detector.specs.Runs.{IsEachOnce, sent_by}
use Rattle.gr_detector.specs.Settling.{ArePopped, IsHitAmong, pops_of}
use Rattle.gr_detector.proofs.HitLemmas.{races_are}
use Rattle.gr_detector.proofs.SentLemmas.{taken_is_sent}

pub finished : {A : Type 0} (e : End A) → IsEnd e → (w : WholeReport) → e.report ≡ Some w → (races : List Word) → Lists WordBelow (IsHitAmong (given_of e.givers)) races → (receipts : List Seat) → IsEachOnce (length e.sizes) receipts → ArePopped (pops_of e.takers) receipts → IsReportOf (sent_by e.sizes receipts) (record w { races = races })
finished e is w there races hits receipts once told =
    let found : IsFound e.config e.sizes e.takers e.givers w = subst (λ (o : Option WholeReport). IfSome o (IsFound e.config e.sizes e.takers e.givers)) there is.found in
    let each : IsEachOnce (length found.sequence.taken.sizes) receipts = subst (λ (sizes : List ℕ). IsEachOnce (length sizes) receipts) (sym found.sizes_are) once in
    let sent : found.sequence.taken ≡ sent_by e.sizes receipts =
    taken_is_sent e.config is.config found.sequence found.whole.sequence_is found.whole.complete e.takers is.queues found.whole.taken receipts each told
    ∙ ap (λ (sizes : List ℕ). sent_by sizes receipts) found.sizes_are in
    subst (λ (s : Streams). IsReportOf s (record w { races = races })) sent
    (record {
      rest = assumption found.report_is;
      races = races_are e.config is.config found.sequence e.takers e.givers is.worker_count found.whole races hits;
    })
