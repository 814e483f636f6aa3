use Rattle.gr_model.proofs.Common.{arith}
use Rattle.gr_shadow.proofs.KeepsLemmas.{Contains-append}
use Rattle.gr_shadow.proofs.launch.add_racy.Goals as goal

pub returns-in-None : goal.returns-in-None
returns-in-None g c accesses stands w = let none = rw c.in-None.is at stands in grind (arith, none w)

pub returns-in_ok-extend_from_slice-in-Some : goal.returns-in_ok-extend_from_slice-in-Some
returns-in_ok-extend_from_slice-in-Some g c accesses stands w =
    let listed = c.in_ok-racy-in-Some.ensures accesses (rw c.in-Some.is at stands) in
    rw (c.in_ok-extend_from_slice-in-Some.ensures.items, c.as_slice.ensures.value) (grind (arith, listed.exact w, Contains-append c.args.words.now.items c.in_ok-racy-in-Some.racy.items w))
