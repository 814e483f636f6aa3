use Rattle.gr_model.proofs.Common.{◌≡◌, ◌++◌, ◌∷◌, [], ℕ, List, IfOk-weaker, subst, sym}
use Rattle.gr_model.specs.Prelude.{IsPartOfShape, put}
use Rattle.gr_intake.specs.Intakes.{AreSeen}
use Rattle.gr_intake.specs.Joined.{headers_in}
use Rattle.gr_intake.proofs.Comings.{can_begin, seen_begins}
use Rattle.gr_replay.specs.InMemory.{flats}
use Rattle.gr_replay.proofs.Joining.{headers_push}
use Rattle.gr_replay.proofs.joined.keep.Goals as goal

pub with_group-requires-clause-total : goal.with_group-requires-clause-total
with_group-requires-clause-total g c =
    let part = subst IsPartOfShape c.groups.view_is c.groups.invariant in
    (can_begin (record { sizes = c.args.groups; lists = [] }) (headers_in (flats c.args.streams.now.items)) c.args.stream.header c.requires.seen c.requires.follows part).total

pub returns-clause-seen : goal.returns-clause-seen
returns-clause-seen g c =
    let old = c.args.streams.now.items in
    let begun = seen_begins (record { sizes = c.args.groups; lists = [] }) (headers_in (flats old)) c.args.stream.header c.requires.seen c.requires.follows in
    let h = c.args.stream.header in
    rw (c.in_ok-push.ensures.items, headers_push old c.args.stream)
    (IfOk-weaker c.with_group.result (λ s. s ≡ put 0 c.args.groups h.group h.items) (λ s. AreSeen s (headers_in (flats old) ++ h ∷ [])) (λ s is. subst (λ (x : List ℕ). AreSeen x (headers_in (flats old) ++ h ∷ [])) (sym is) begun) c.with_group.ensures)
