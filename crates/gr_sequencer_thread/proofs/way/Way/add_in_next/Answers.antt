use Rattle.gr_model.proofs.Common.{◌∙◌, ◌++◌, ◌∷◌, [], List, ap, sym}
use Rattle.gr_route.specs.declared.work.Work.{Work}
use Rattle.gr_route.specs.WorkRule.{is_stopped}
use Rattle.gr_sequencer_thread.specs.Feeds.{work_on_way}
use Rattle.gr_sequencer_thread.proofs.WayLemmas.{both_unstopped, unstopped_each, way_more}
use Rattle.gr_sequencer_thread.proofs.way.Way.add_in_next.Goals as goal

pub invariant_of-self : goal.invariant_of-self
invariant_of-self g c =
    let first = work_on_way c.self.inside.refused c.self.inside.batches.items [] in
    (λ i. is_stopped (work_on_way {A = g.row.A.Denot} c.self.inside.refused (c.in_err-close.ensures.unchanged i) (c.in_err-close.ensures.none i)))
    ∙ (unstopped_each first c.self.inside.waiting (ap is_stopped (sym (way_more c.self.inside.refused c.self.inside.batches.items [] c.self.inside.waiting)) ∙ c.self.invariant)).0

pub invariant_of-self-in-Err : goal.invariant_of-self-in-Err
invariant_of-self-in-Err g c =
    let refused = c.self.inside.refused in
    ap (λ (l : List (Work g.row.A.Denot)). is_stopped (work_on_way refused c.close.new.batches.items l)) (c.in-Err.ensures.unchanged ∙ c.lend.ensures)
    ∙ (ap is_stopped (c.in_ok-close.ensures.same refused) ∙ c.self.invariant)

pub invariant_of-self-2 : goal.invariant_of-self-2
invariant_of-self-2 g c =
    let refused = c.self.inside.refused in
    rw (c.in_default.ensures.ok, c.lend.ensures, way_more, c.in_ok-close.ensures.same refused)
    (both_unstopped (work_on_way refused c.self.inside.batches.items c.self.inside.waiting) (c.args.work ∷ []) c.self.invariant (ap (λ (x : Work g.row.A.Denot). is_stopped (x ∷ [])) c.requires.1))

pub returns : goal.returns
returns g c =
    rw (c.in_default.ensures.ok, c.lend.ensures, way_more, c.in_ok-close.ensures.same c.self.inside.refused) (ap (λ (l : List (Work g.row.A.Denot)). l ++ c.args.work ∷ []) c.self.view_is)
