use Rattle.gr_model.proofs.Common.{◌++◌, ℕ, List, sym, subst, err_from_is_err_and}
use Rattle.gr_record.specs.Prelude.{Fails}
use Rattle.gr_record.proofs.Consuming.{Consumes-then}
use Rattle.gr_intake.specs.Joined.{joined_of}
use Rattle.gr_replay.proofs.Inputs.{StandsSoFar, at_consumed, piece_more, piece_taken}
use Rattle.gr_replay.proofs.input.take_input.Goals as goal

-- ---- at the end of the input

-- ---- a piece more

pub returns-in_err-take_held-clause-fault : goal.returns-in_err-take_held-clause-fault
returns-in_err-take_held-clause-fault g c =
    let read = c.loop.invariant.read in
    let comes = c.in_ok-count.ensures.comes in
    let bytes : List ℕ = read.0 ++ comes.0 in
    let so_far = subst (λ (h : List ℕ). StandsSoFar c.loop.intake h bytes) (sym comes.2) (piece_more c.loop.intake c.loop.held.items read.0 comes.0 read.2) in
    let p = err_from_is_err_and c.from_residual-in_err-take_held.result c.from_residual-in_err-take_held.ensures.1 in
    rw (p.1, p.2) (at_consumed _ _ bytes (λ xs. Fails c.in_err-take_held.field-0.0 (joined_of xs)) (Consumes-then _ _ _ _ _ read.1 comes.1)
    (λ more. subst (Fails c.in_err-take_held.field-0.0) (sym (so_far more)) (c.in_err-take_held.ensures.fault more)))

pub loop-preserved : goal.loop-preserved
loop-preserved g c =
    let read = c.loop.invariant.read in
    let comes = c.in_ok-count.ensures.comes in
    let next = c.take_held.new.intake in
    let so_far = subst (λ (h : List ℕ). StandsSoFar c.loop.intake h (read.0 ++ comes.0)) (sym comes.2) (piece_more c.loop.intake c.loop.held.items read.0 comes.0 read.2) in
    record {
      intake = c.in_ok-take_held.ensures.moves.intake;
      short = c.in_ok-take_held.ensures.short;
      read = (
        read.0 ++ comes.0,
        Consumes-then _ _ _ _ _ read.1 comes.1,
        piece_taken c.loop.intake next c.read_piece.new.held.items c.take_held.new.held.items (read.0 ++ comes.0) so_far c.in_ok-take_held.ensures.moves,
      );
    }

-- ---- the reader gave no end
