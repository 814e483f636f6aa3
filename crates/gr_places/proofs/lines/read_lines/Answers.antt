use Rattle.gr_model.proofs.Common.{eqb-true, sym, ◌∙◌}
use Rattle.gr_text.proofs.Splitting.{no_line}
use Rattle.gr_places.proofs.Reading.{joined_all}
use Rattle.gr_places.proofs.lines.read_lines.Goals as goal

pub returns-clause-said : goal.returns-clause-said
returns-clause-said g c =
    let so_far = rw (no_line c.loop-rest.rest.now (eqb-true _ _ (sym c.loop-rest-test.ensures))) at c.loop-rest.invariant.so_far in
    sym so_far ∙ joined_all _
