use Rattle.gr_model.proofs.Common.{refl, rules, sym, ◌∙◌, same_from_decides}
use Rattle.gr_intake.specs.Joined.{header_after}
use Rattle.gr_intake.proofs.Faults.{fault_at-fails}
use Rattle.gr_intake.proofs.Seen.{first_tells, group_came}
use Rattle.gr_intake.proofs.headers.read_header_after.Goals as goal

pub returns-in-Err-clause-exact : goal.returns-in-Err-clause-exact
unfolding header_after
returns-in-Err-clause-exact g c = λ seen count first are. rw (c.of_stream.ensures.exact, sym count) (fault_at-fails _ _ _ _ c.in-Err.ensures.exact (λ k. rw k refl))

pub returns-then-has-clause-exact : goal.returns-then-has-clause-exact
unfolding header_after
returns-then-has-clause-exact g c = λ seen count first are.
    let group = sym (same_from_decides _ _ c.has.ensures (group_came c.args.groups.now seen are c.in-Ok.found.0.group)) ∙ c.if-has.true in
    rw (c.in-Ok.ensures.exact, group, count) refl

pub returns-then-is_some_and-clause-exact : goal.returns-then-is_some_and-clause-exact
unfolding header_after
returns-then-is_some_and-clause-exact g c = λ seen count first are.
    let group = sym (same_from_decides _ _ c.has.ensures (group_came c.args.groups.now seen are c.in-Ok.found.0.group)) ∙ c.if-has.false in
    let launch = first_tells c.args.groups.now seen are c.in-Ok.found.0.launch c.args.first c.is_some_and.result first (search rules) ∙ c.if-is_some_and.true in
    rw (c.in-Ok.ensures.exact, group, launch, count) refl

pub returns-clause-exact : goal.returns-clause-exact
unfolding header_after
returns-clause-exact g c = λ seen count first are.
    let group = sym (same_from_decides _ _ c.has.ensures (group_came c.args.groups.now seen are c.in-Ok.found.0.group)) ∙ c.if-has.false in
    let launch = first_tells c.args.groups.now seen are c.in-Ok.found.0.launch c.args.first c.is_some_and.result first (search rules) ∙ c.if-is_some_and.false in
    rw (c.in-Ok.ensures.exact, group, launch) refl
