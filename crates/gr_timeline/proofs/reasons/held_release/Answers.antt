use Rattle.gr_model.proofs.Common.{◌∙◌, sym, true≢false}
use Rattle.gr_timeline.proofs.WaitLemmas.{matches_of, release_there}
use Rattle.gr_timeline.proofs.reasons.held_release.Goals as goal

pub returns-else-is_grounded : goal.returns-else-is_grounded
returns-else-is_grounded g c =
    let s = c.args.judged.now in
    let at = rw c.lanes.ensures.taken at c.release_at.ensures in
    let place = sym at ∙ c.in_ok-index.was in (
      matches_of s c.args.event c.args.name c.in_ok-index.index c.requires.named c.requires.word place,
      record {
        event = release_there s c.args.name c.in_ok-index.index place;
        held = λ grounded. true≢false (sym (c.is_grounded.ensures.1 grounded) ∙ c.if-is_grounded.false);
      },
    )
