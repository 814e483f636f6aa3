use Rattle.gr_model.proofs.Common.{sym, ◌∙◌, refl, take_rest}
use Rattle.gr_record.proofs.Places.{names_none}
use Rattle.gr_record.proofs.reading.put_names.Goals as goal

pub returns-then-are_unused : goal.returns-then-are_unused
returns-then-are_unused c =
    let unused = rw (c.places.ensures, take_rest c.args.bytes.now 12) at (sym c.are_unused.ensures ∙ c.if-are_unused.true) in
    rw (names_none _ _ unused, c.if-are_unused.true, c.requires.none) refl
