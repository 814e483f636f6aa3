use Rattle.gr_model.proofs.Common.{arith}
use Rattle.gr_timeline.proofs.HeldLemmas.{others_are_held}
use Rattle.gr_timeline.proofs.word_history.word_history_of.Goals as goal

pub overflow_sub-held : goal.overflow_sub-held
overflow_sub-held g c =
    let left = others_are_held c.args.traces.now c.args.word c.in_ok-entries.entries.items c.in_ok-entries.ensures.history c.in_ok-known.known.entries c.len.ensures.unique c.in_ok-known.ensures in
    omega (arith, left.2, c.len.ensures.len, c.len-2.ensures, c.in_ok-entries.entries.ok)

pub returns-clause-held : goal.returns-clause-held
returns-clause-held g c =
    let left = others_are_held c.args.traces.now c.args.word c.in_ok-entries.entries.items c.in_ok-entries.ensures.history c.in_ok-known.known.entries c.len.ensures.unique c.in_ok-known.ensures in
    record { held = left.0; are = left.1; is = omega (arith, left.2, c.len.ensures.len, c.len-2.ensures, c.in_ok-entries.entries.ok) }
