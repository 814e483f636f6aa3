use Rattle.gr_model.proofs.Common.{[], subst}
use Rattle.gr_model.specs.Prelude.{IsPartOfShape}
use Rattle.gr_intake.specs.Intakes.{AreSeen}
use Rattle.gr_intake.proofs.Comings.{can_begin, seen_begins}
use Rattle.gr_streams.proofs.seen.Seen.with_header.Goals as goal

pub with_group-requires-clause-total : goal.with_group-requires-clause-total
with_group-requires-clause-total g c =
    let seen = subst (AreSeen c.self.inside.groups) c.self.view_is c.self.invariant in
    let part = subst IsPartOfShape c.groups.view_is c.groups.invariant in
    (can_begin (record { sizes = c.self.inside.groups; lists = [] }) c.args.self c.args.header seen c.requires part).total

pub invariant_of-result : goal.invariant_of-result
invariant_of-result g c =
    let seen = subst (AreSeen c.self.inside.groups) c.self.view_is c.self.invariant in
    rw (c.in_ok-groups.ensures, c.in_ok-push.ensures.items, c.self.view_is) (seen_begins (record { sizes = c.self.inside.groups; lists = [] }) c.args.self c.args.header seen c.requires)
