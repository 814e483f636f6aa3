use Rattle.gr_model.proofs.Common.{◌≡◌, length, rules, slice_get, subst}
use Rattle.gr_intake.specs.Intakes.{AreSeen}
use Rattle.gr_streams.proofs.seen.Seen.read_next.Goals as goal

pub returns-clause-exact : goal.returns-clause-exact
returns-clause-exact g c =
    let seen = subst (AreSeen c.self.inside.groups) c.self.view_is c.self.invariant in
    let count : length c.args.self.now ≡ c.len-place.result = search rules in
    let first : slice_get c.args.self.now 0 ≡ c.copied-first.result = search rules in
    c.read_header_after.ensures.exact c.args.self.now count first seen
